-- Why something is left open.
use Rattle.std.specs.Prelude.{ℕ, nat_lt, if◌then◌else◌, List, ◌++◌, codes}
use Rattle.limits.specs.declared.cause.Cause.{Cause}
use Rattle.limits.specs.declared.cause.Cause.TheVariants as cause
use Rattle.told_report.specs.NumberText.{numbered, two_numbered}

-- the most that each option can be
abbrev pub most_terms : ℕ
most_terms = 100000

-- of --ground, the size of a goal's ground formulas
abbrev pub most_ground : ℕ
most_ground = 50000000

-- of --conflicts, the clauses that may be learnt for a goal
abbrev pub most_conflicts : ℕ
most_conflicts = 100000000

-- 51 ground terms; raise --terms, up to 100000: where the option can be so high
abbrev pub terms_words : ℕ → List ℕ
terms_words n =
    if nat_lt most_terms n
    then two_numbered (codes "") n (codes " ground terms, more than --terms can be (") most_terms (codes ")")
    else two_numbered (codes "") n (codes " ground terms; raise --terms, up to ") most_terms (codes "")

-- of ground sizes the same
abbrev pub ground_words : ℕ → List ℕ
ground_words n =
    if nat_lt most_ground n
    then two_numbered (codes "ground size ") n (codes ", more than --ground can be (") most_ground (codes ")")
    else two_numbered (codes "ground size ") n (codes "; raise --ground, up to ") most_ground (codes "")

-- the budget that was too small, and how far it can be raised
abbrev pub conflicts_words : ℕ → List ℕ
conflicts_words n =
    if nat_lt n most_conflicts
    then two_numbered (codes "") n (codes " conflicts were too few; raise --conflicts, up to ") most_conflicts (codes "")
    else numbered (codes "") n (codes " conflicts were too few, and --conflicts can be no more")

-- why something is left open, and what helps
abbrev pub cause_words : Cause → List ℕ
cause_words cause.Formula = codes "the formula is too large"
cause_words (cause.Terms n) = terms_words n
cause_words (cause.Ground n) = ground_words n
cause_words (cause.Conflicts n) = conflicts_words n

-- a line of its own, behind a word
unfoldable pub cause_line : List ℕ → Cause → List ℕ
cause_line before c = before ++ cause_words c ++ codes "\n"

-- the path of a goal that is left open, and why, between two words
unfoldable pub open_at : List ℕ → ℕ → Cause → List ℕ → List ℕ
open_at before path c behind = numbered before path (codes ": ") ++ cause_words c ++ behind
