-- Lines are the text that was cut, and what is in front is found there.
use Rattle.std.specs.Prelude.{◌≡◌, ℕ, ◌≤◌, ◌==◌, Bool, true, false, not, if◌then◌else◌, List, [], ◌∷◌, ◌++◌, length}
use Rattle.std.specs.Prelude.{Some}
use Rattle.std.specs.Prelude.{codes, decimal}
use Rattle.std.specs.List.{AllByRecursion}
use Rattle.base.specs.Bytes.{is_digit}
use Rattle.line_scan.specs.Lines.{lines_of}
use Rattle.line_scan.specs.Scanning.{behind, number_at, is_end, most}

-- lines one behind another
abbrev pub join : List (List ℕ) → List ℕ
join [] = []
join (line ∷ lines) = line ++ join lines

-- there are no bytes
abbrev pub is_none : List ℕ → Bool
is_none [] = true
is_none (b ∷ bs) = false

-- one line feed, at the end
abbrev pub is_whole : List ℕ → Bool
is_whole [] = false
is_whole (b ∷ bs) = if b == 10 then is_none bs else is_whole bs

-- A text is its lines; whole lines are the lines of their text; and there are no more lines than bytes.
pub record LinesAreCut : Type 0 where
  pub joined : (bs : List ℕ) → join (lines_of bs) ≡ bs
  pub cut : (lines : List (List ℕ)) → AllByRecursion (λ line. is_whole line ≡ true) lines → lines_of (join lines)
      ≡ lines
  pub few : (bs : List ℕ) → length (lines_of bs) ≤ length bs

-- no digit stands in front
abbrev pub ends_number : List ℕ → Bool
ends_number [] = true
ends_number (b ∷ bs) = not (is_digit b)

-- What is found in front stands there, and what stands there is found.
pub record ScansAreExact : Type 0 where
  pub behind_there : (text rest : List ℕ) → behind text (text ++ rest) ≡ Some rest
  pub behind_sound : (text bs rest : List ℕ) → behind text bs ≡ Some rest → bs ≡ text ++ rest
  pub number_there : (n : ℕ) (rest : List ℕ) → n ≤ most → ends_number rest ≡ true
      → number_at (decimal n ++ rest) ≡ Some (n, rest)
  pub number_sound : (bs : List ℕ) (n : ℕ) (rest : List ℕ) → number_at bs ≡ Some (n, rest)
      → (bs ≡ decimal n ++ rest) × (n ≤ most)
  pub end_there : is_end (codes "\n") ≡ true
  pub end_sound : (bs : List ℕ) → is_end bs ≡ true → bs ≡ codes "\n"
