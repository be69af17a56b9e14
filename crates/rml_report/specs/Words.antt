-- The words of a report's lines.
use Rattle.std.specs.Prelude.{ℕ, Bool, true, false, List, [], ◌∷◌, ◌++◌, codes, slice_get, unwrap_or}
use Rattle.std.specs.Fmt.{decimal}
use Rattle.limits.specs.declared.cause.Cause.{Cause}
use Rattle.limits.specs.declared.cause.Cause.TheVariants as cause

-- the name of this number, or nothing
abbrev pub name_at : List (List ℕ) → ℕ → List ℕ
name_at names k = unwrap_or (slice_get names k) []

-- a name between two words
unfoldable pub labelled : List ℕ → List ℕ → List ℕ → List ℕ
labelled before name behind = before ++ name ++ behind

unfoldable pub truth_text : Bool → List ℕ
truth_text true = codes "true"
truth_text false = codes "false"

-- the word of a cause and, but for that of formulas, its number
abbrev pub cause_text : Cause → List ℕ
cause_text cause.Formula = codes "formula"
cause_text (cause.Terms n) = codes "terms " ++ decimal n
cause_text (cause.Ground n) = codes "ground " ++ decimal n
cause_text (cause.Conflicts n) = codes "conflicts " ++ decimal n

-- a blank and each number
unfoldable pub numbers_text : List ℕ → List ℕ
numbers_text [] = []
numbers_text (n ∷ ns) = codes " " ++ decimal n ++ numbers_text ns

-- a line with the numbers behind a word
unfoldable pub numbers_line : List ℕ → List ℕ → List ℕ
numbers_line word numbers = word ++ numbers_text numbers ++ codes "\n"
