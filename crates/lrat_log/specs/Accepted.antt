-- When a line of a log is accepted: LRAT without RAT steps.
use Rattle.std.specs.Prelude.{ℕ, ◌<◌, ◌≡◌, ◌||◌, ◌&&◌, eqb, Bool, true, false, cond, if◌then◌else◌, List, [], ◌∷◌}
use Rattle.std.specs.Prelude.{length, Option, Some, None, is_some}
use Rattle.cnf_base.specs.declared.cnf.Entry.{Entry}
use Rattle.cnf_base.specs.declared.cnf.Entry.TheVariants.{Clause, True}
use Rattle.cnf_base.specs.Literals.{member, opposite, AreLiterals}
use Rattle.cnf_base.specs.Clauses.{has_opposites}
use Rattle.cnf_base.specs.Formulas.{Formula}
use Rattle.lrat_log.specs.declared.refusal_code.RefusalCode.TheVariants.{UnknownId, HintNotUnit, NoConflict}
use Rattle.lrat_log.specs.declared.line.Line.{Line}
use Rattle.lrat_log.specs.declared.line.Line.TheVariants.{Add, Delete}
use Rattle.lrat_log.specs.declared.outcome.Effect.{Effect}
use Rattle.lrat_log.specs.declared.outcome.Effect.TheVariants.{Unknown, Falsified, Sets, Useless}
use Rattle.lrat_log.specs.declared.outcome.Outcome.{Outcome}
use Rattle.lrat_log.specs.declared.outcome.Outcome.TheVariants.{Accepted, Refused}
use Rattle.lrat_log.specs.Held.{Held, held_of, after_line, without}

-- A set of literals that are set true is a test of literals; a literal is false where its opposite is set.
abbrev pub also : (ℕ → Bool) → ℕ → ℕ → Bool
also set l x = eqb x l || set x

-- the set that makes each of these literals false
abbrev pub all_false : List ℕ → ℕ → Bool
all_false ls x = member (opposite x) ls

-- all literals but l are false
abbrev pub all_but : (ℕ → Bool) → ℕ → List ℕ → Bool
all_but set l [] = true
all_but set l (x ∷ xs) = (eqb x l || set (opposite x)) && all_but set l xs

-- What a clause does as a hint. All its literals are false: Falsified. All but l are false and l is unset: Sets l.
-- Anything else: Useless. A literal that is repeated counts once.
abbrev pub effect_at : (ℕ → Bool) → ℕ → List ℕ → Effect
effect_at set l ls = cond (set l) Useless (cond (all_but set l ls) (Sets l) Useless)

-- the literals in turn, up to the first that is not false
abbrev pub effect_of_clause : (ℕ → Bool) → List ℕ → Effect
effect_of_clause set [] = Falsified
effect_of_clause set (l ∷ ls) = cond (set (opposite l)) (effect_of_clause set ls) (effect_at set l ls)

-- an id that is not held is Unknown, and an always true clause Useless
abbrev pub effect_of_entry : (ℕ → Bool) → Option Entry → Effect
effect_of_entry set None = Unknown
effect_of_entry set (Some True) = Useless
effect_of_entry set (Some (Clause ls)) = effect_of_clause set ls

-- A hint that is not held refuses the line, and so does one that is neither unit nor false.
abbrev pub by_effect : Effect → (ℕ → Outcome) → Outcome
by_effect Unknown next = Refused UnknownId
by_effect Falsified next = Accepted
by_effect (Sets l) next = next l
by_effect Useless next = Refused HintNotUnit

-- the hints, each in turn, from the literals that are set
abbrev pub outcome_of_hints : Held → List ℕ → (ℕ → Bool) → Outcome
outcome_of_hints held [] set = Refused NoConflict
outcome_of_hints held (h ∷ hs) set =
    by_effect (effect_of_entry set (held h)) (λ l. outcome_of_hints held hs (also set l))

-- an addition with opposite literals is accepted at once
abbrev pub outcome_of_addition : Held → List ℕ → List ℕ → Outcome
outcome_of_addition held ls hints = if has_opposites ls then Accepted else outcome_of_hints held hints (all_false ls)

-- each id in turn is still held
abbrev pub outcome_of_deletion : Held → List ℕ → Outcome
outcome_of_deletion held [] = Accepted
outcome_of_deletion held (k ∷ ks) =
    cond (is_some (held k)) (outcome_of_deletion (without held (k ∷ [])) ks) (Refused UnknownId)

-- whether a line is accepted where these clauses are held, or why it is refused
abbrev pub outcome_of : Held → Line → Outcome
outcome_of held (Add id ls hints) = outcome_of_addition held ls hints
outcome_of held (Delete id ids) = outcome_of_deletion held ids

-- the greatest id after these lines, where it was `last` before them
abbrev pub last_id : ℕ → List Line → ℕ
last_id last [] = last
last_id last (Add id ls hints ∷ lines) = last_id id lines
last_id last (Delete id ids ∷ lines) = last_id last lines

-- an addition's id is above the last, and its literals are of the formula's variables
abbrev pub IsFit : ℕ → ℕ → Line → Type 0
IsFit variables last (Add id ls hints) = (last < id) × AreLiterals variables ls
IsFit variables last (Delete id ids) = Unit {0}

-- every line is accepted, where `held` and `last` are what stands before the first
abbrev pub IsAcceptedFrom : ℕ → Held → ℕ → List Line → Type 0
IsAcceptedFrom variables held last [] = Unit {0}
IsAcceptedFrom variables held last (line ∷ lines) =
    IsFit variables last line × (outcome_of held line ≡ Accepted)
    × IsAcceptedFrom variables (after_line held line) (last_id last (line ∷ [])) lines

-- every line is accepted, from the clauses of the formula on
abbrev pub IsAccepted : Formula → List Line → Type 0
IsAccepted f lines = IsAcceptedFrom f.variables (held_of f) (length f.clauses) lines

-- whether an addition without literals is among the lines
abbrev pub adds_empty : List Line → Bool
adds_empty [] = false
adds_empty (Add id [] hints ∷ lines) = true
adds_empty (Add id (l ∷ ls) hints ∷ lines) = adds_empty lines
adds_empty (Delete id ids ∷ lines) = adds_empty lines
