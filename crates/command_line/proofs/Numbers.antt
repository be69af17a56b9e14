-- The number that `parse` reads is the one of the definition.
use Rattle.std.proofs.Common.{◌≡◌, refl, ℕ, ◌≤◌, ◌<◌, ◌^◌, Bool, true, false, List, Some, None, if◌then◌else◌}
use Rattle.std.specs.Str.Parse.{IsNumeral, digits_value, without_leading_plus}
use Rattle.clap.specs.ValueTests.{is_unsigned_in}
use Rattle.clap.specs.declared.builder.value_parser.ValueParser.TheVariants as parser
use Rattle.clap.proofs.ValueTestLemmas.{accepts-Accepts, Accepts-accepts}
use Rattle.command_line.specs.Numbers.{number_in}

pub number_some : (low high n : ℕ) (t : List ℕ) → IsNumeral 10 (without_leading_plus t)
    → digits_value 10 (without_leading_plus t) < 2 ^ 64
    → n ≡ digits_value 10 (without_leading_plus t) → low ≤ n → n ≤ high → Some n ≡ number_in low high t
number_some low high n t numeral fits is least most =
    let e : is_unsigned_in low high t ≡ true =
    Accepts-accepts false (parser.Unsigned low high) t (numeral, fits, rw is at least, rw is at most) in rw (e, is) refl

pub number_none : (low high : ℕ) (t : List ℕ)
    → (IsNumeral 10 (without_leading_plus t) × (digits_value 10 (without_leading_plus t) < 2 ^ 64) → ⊥)
    → None ≡ number_in low high t
number_none low high t refused = go (is_unsigned_in low high t) refl
  where
    go : (b : Bool) → is_unsigned_in low high t ≡ b
        → None ≡ (if b then Some (digits_value 10 (without_leading_plus t)) else None)
    go true e = let a = accepts-Accepts false (parser.Unsigned low high) t e in absurd (refused (a.0, a.1))
    go false e = refl
