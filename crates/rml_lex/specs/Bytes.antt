-- What kinds of bytes there are.
use Rattle.std.specs.Prelude.{ℕ, ◌+◌, Bool, true, false, ◌||◌, ◌&&◌, ◌==◌, nat_le, List, [], ◌∷◌, if◌then◌else◌}
use Rattle.base.specs.Bytes.{is_digit, is_blank}

-- a letter, or the low line that counts as one
abbrev pub is_letter : ℕ → Bool
is_letter b = (nat_le 97 b && nat_le b 122) || (nat_le 65 b && nat_le b 90) || (b == 95)

-- what a name goes on with
abbrev pub goes_on : ℕ → Bool
goes_on b = is_letter b || is_digit b

-- How many bytes stand before the first that is neither blank nor in a comment. A comment goes from # to the
-- line feed; inside says whether one is open.
abbrev pub gap_len : Bool → List ℕ → ℕ
gap_len inside [] = 0
gap_len true (b ∷ bytes) = gap_len (if b == 10 then false else true) bytes + 1
gap_len false (b ∷ bytes) =
    if b == 35 then gap_len true bytes + 1 else if is_blank b then gap_len false bytes + 1 else 0
