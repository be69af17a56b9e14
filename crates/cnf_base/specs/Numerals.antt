-- Numbers as they are written: an optional `-` and 1 to 10 digits, no larger than may be; `-0` is none.
use Rattle.std.specs.Prelude.{ℕ, ◌+◌, ◌-◌, ◌*◌, Bool, true, false, ◌&&◌, ◌==◌, nat_le, List, [], ◌∷◌, length, Option}
use Rattle.std.specs.Prelude.{Some, None, if◌then◌else◌}
use Rattle.base.specs.Bytes.{is_digit}
use Rattle.cnf_base.specs.declared.text.Numeral.{Numeral}

-- the largest number that is written: a formula in clauses has no more variables, and no more clauses
abbrev pub max_number : ℕ
max_number = 2147483647

-- the number that these digits make behind the number n, if it is no larger than may be
abbrev pub with_digits : ℕ → List ℕ → Option ℕ
with_digits n [] = Some n
with_digits n (d ∷ ds) =
    if is_digit d && nat_le (n * 10 + (d - 48)) max_number then with_digits (n * 10 + (d - 48)) ds else None

-- the number that 1 to 10 digits say
abbrev pub digits_value : List ℕ → Option ℕ
digits_value ds = if nat_le 1 (length ds) && nat_le (length ds) 10 then with_digits 0 ds else None

-- the number with its sign
abbrev pub signed : Bool → Option ℕ → Option Numeral
signed negative None = None
signed negative (Some n) = if negative && (n == 0) then None else Some (record { negative = negative; value = n })

-- 45 is the sign
abbrev pub number_of : List ℕ → Option Numeral
number_of [] = None
number_of (b ∷ bytes) = if b == 45 then signed true (digits_value bytes) else signed false (digits_value (b ∷ bytes))
