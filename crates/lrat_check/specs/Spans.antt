-- What the tables of a checker stand for.
use Rattle.std.specs.Prelude.{ℕ, ◌<◌, ◌≤◌, Bool, cond, eqb, if◌then◌else◌, List, [], ◌∷◌, length, Option, Some, None}
use Rattle.std.specs.Prelude.{slice_range, get_or, All}
use Rattle.cnf_base.specs.declared.cnf.Entry.{Entry}
use Rattle.cnf_base.specs.declared.cnf.Entry.TheVariants.{Clause, True}
use Rattle.lrat_log.specs.Held.{Held}
use Rattle.lrat_check.specs.declared.spans.Span.{Span}

-- the places that are marked: those whose mark is the epoch
abbrev pub marked : List ℕ → ℕ → ℕ → Bool
marked marks epoch k = eqb (get_or marks k 0) epoch

-- what a span stands for
abbrev pub entry_of_span : List ℕ → Span → Option Entry
entry_of_span literals s =
    if s.is_held then Some (if s.is_true then True else Clause (slice_range literals s.start s.end)) else None

-- what the spans stand for
abbrev pub held_in : List ℕ → List Span → Held
held_in literals [] id = None
held_in literals (s ∷ ss) id = cond (eqb s.id id) (entry_of_span literals s) (held_in literals ss id)

-- ids increase strictly
abbrev pub AreSorted : List Span → Type 0
AreSorted spans = (i j : ℕ) (d : Span) → i < j → j < length spans → (get_or spans i d).id < (get_or spans j d).id

-- the places of each span are among n literals
abbrev pub AreWithin : List Span → ℕ → Type 0
AreWithin spans n = All (λ s. (s.start ≤ s.end) × (s.end ≤ n)) spans

-- no mark is later than the epoch
abbrev pub AreUpTo : ℕ → List ℕ → Type 0
AreUpTo epoch marks = (k : ℕ) → get_or marks k 0 ≤ epoch
