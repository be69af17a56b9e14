-- Logs that can be written: each number is in range, and the ids of the additions increase.
use Rattle.std.specs.Prelude.{ℕ, ◌<◌, ◌≤◌, List, [], ◌∷◌}
use Rattle.cnf_base.specs.Literals.{AreLiterals}
use Rattle.lrat_log.specs.declared.line.Line.{Line}
use Rattle.lrat_log.specs.declared.line.Line.TheVariants.{Add, Delete}
use Rattle.lrat_log.specs.Accepted.{last_id}

-- an id that a text can say
abbrev pub IsId : ℕ → Type 0
IsId n = (0 < n) × (n ≤ 2147483647)

-- ids that a text can say
abbrev pub AreIds : List ℕ → Type 0
AreIds [] = Unit {0}
AreIds (n ∷ ns) = IsId n × AreIds ns

-- an addition's id is above the last, and its literals are of the variables 1 to `variables`
abbrev pub IsLineOver : ℕ → ℕ → Line → Type 0
IsLineOver variables last (Add id ls hints) = (last < id) × IsId id × AreLiterals variables ls × AreIds hints
IsLineOver variables last (Delete id ids) = IsId id × AreIds ids

-- the lines of a log over the variables 1 to `variables`, behind lines whose greatest id is `last`
abbrev pub IsLogOver : ℕ → ℕ → List Line → Type 0
IsLogOver variables last [] = Unit {0}
IsLogOver variables last (line ∷ lines) =
    IsLineOver variables last line × IsLogOver variables (last_id last (line ∷ [])) lines

-- the lines of a log over any variables that a text can say
abbrev pub IsLog : List Line → Type 0
IsLog lines = IsLogOver 2147483647 0 lines
