-- When an addition is learnt: it says something new, and is drawn from its hints.
use Rattle.std.specs.Prelude.{ℕ, ◌≡◌, ◌≢◌, ◌⊎◌, Bool, true, false, List, [], ◌∷◌, length, Some}
use Rattle.cnf_base.specs.declared.cnf.Entry.TheVariants.{Clause}
use Rattle.cnf_base.specs.Literals.{member, opposite}
use Rattle.cnf_base.specs.Clauses.{has_opposites}
use Rattle.cnf_base.specs.Formulas.{Formula}
use Rattle.lrat_log.specs.declared.line.Line.{Line}
use Rattle.lrat_log.specs.declared.line.Line.TheVariants.{Add, Delete}
use Rattle.lrat_log.specs.Held.{Held, held_of, after_line}
use Rattle.lrat_log.specs.Accepted.{also, all_false, IsFit}

-- all literals of a clause are false
abbrev pub IsFalse : (ℕ → Bool) → List ℕ → Type 0
IsFalse set c = (x : ℕ) → member x c ≡ true → set (opposite x) ≡ true

-- all literals of a clause but l are false, and l is unset
pub record IsUnit (set : ℕ → Bool) (c : List ℕ) (l : ℕ) : Type 0 where
  pub stands : member l c ≡ true
  pub not_true : set l ≡ false
  pub not_false : set (opposite l) ≡ false
  pub others_false : (x : ℕ) → member x c ≡ true → (x ≡ l) ⊎ (set (opposite x) ≡ true)

-- truth values of some variables: no literal is set beside its opposite
abbrev pub IsConsistent : (ℕ → Bool) → Type 0
IsConsistent set = (l : ℕ) → set l ≡ true → set (opposite l) ≡ false

-- no held clause is false or unit; always true clauses do not count
abbrev pub IsQuiet : Held → (ℕ → Bool) → Type 0
IsQuiet held set =
    (id : ℕ) (c : List ℕ) → held id ≡ Some (Clause c) → (IsFalse set c → ⊥) × ((l : ℕ) → IsUnit set c l → ⊥)

-- unit propagation does not refute what is held: truth values of some variables make no held clause false or unit
abbrev pub IsPropagationConsistent : Held → Type 0
IsPropagationConsistent held = (set : ℕ → Bool) × IsConsistent set × IsQuiet held set

-- new to unit propagation, which the field calls 1-empowering: truth values of some variables make the clause unit,
-- where no held clause is false or unit
abbrev pub IsNew : Held → List ℕ → Type 0
IsNew held ls = (set : ℕ → Bool) × IsConsistent set × ((l : ℕ) × IsUnit set ls l) × IsQuiet held set

-- a literal stands in the clause of a hint
abbrev pub StandsInHint : Held → List ℕ → ℕ → Type 0
StandsInHint held hints l =
    (h : ℕ) × (c : List ℕ) × (member h hints ≡ true) × (held h ≡ Some (Clause c)) × (member l c ≡ true)

-- Each hint but the last sets a literal whose opposite stands in the clause of a later hint, and the last is false.
abbrev pub IsChain : Held → List ℕ → (ℕ → Bool) → Type 0
IsChain held [] set = ⊥
IsChain held (h ∷ []) set = (c : List ℕ) × (held h ≡ Some (Clause c)) × IsFalse set c
IsChain held (h ∷ (k ∷ ks)) set =
    (c : List ℕ) × (l : ℕ) × (held h ≡ Some (Clause c)) × IsUnit set c l × StandsInHint held (k ∷ ks) (opposite l)
    × IsChain held (k ∷ ks) (also set l)

-- a resolvent of its hints
pub record IsResolvent (held : Held) (ls hints : List ℕ) : Type 0 where
  pub drawn : (l : ℕ) → member l ls ≡ true → StandsInHint held hints l
  pub chain : IsChain held hints (all_false ls)

-- a clause that has literals, but none beside its opposite, is new, and is a resolvent of its hints
pub record IsLearnt (held : Held) (ls hints : List ℕ) : Type 0 where
  pub not_empty : ls ≢ []
  pub no_opposites : has_opposites ls ≡ false
  pub new : IsNew held ls
  pub resolvent : IsResolvent held ls hints

-- additions alone, each learnt from what is held before it
abbrev pub AreLearntFrom : ℕ → Held → ℕ → List Line → Type 0
AreLearntFrom variables held last [] = Unit {0}
AreLearntFrom variables held last (Add id ls hints ∷ lines) =
    IsFit variables last (Add id ls hints) × IsLearnt held ls hints
    × AreLearntFrom variables (after_line held (Add id ls hints)) id lines
AreLearntFrom variables held last (Delete id ids ∷ lines) = ⊥

-- additions alone, each learnt, from the clauses of the formula on
abbrev pub AreLearnt : Formula → List Line → Type 0
AreLearnt f lines = AreLearntFrom f.variables (held_of f) (length f.clauses) lines

-- each literal of the one clause stands in the other
abbrev pub IsWithin : List ℕ → List ℕ → Type 0
IsWithin c d = (l : ℕ) → member l c ≡ true → member l d ≡ true
