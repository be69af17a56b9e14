-- What stands at the front of a text.
use Rattle.std.proofs.Common.{◌≡◌, ℕ, Bool, true, false, cond, List, [], ◌∷◌, Option, Some, None, refl}
use Rattle.std.specs.Prelude.{nat_lt, ◌||◌}
use Rattle.std.specs.List.{prefix_len}
use Rattle.rml_lex.specs.declared.token.Sign.{Sign}
use Rattle.rml_lex.specs.declared.token.Front.{Front}
use Rattle.rml_lex.specs.declared.token.Front.TheVariants as front
use Rattle.rml_lex.specs.Bytes.{is_letter, goes_on}
use Rattle.base.specs.Bytes.{is_digit}
use Rattle.rml_lex.specs.Spelling.{sign_at}
use Rattle.rml_lex.specs.Tokens.{front_of, sign_front}

-- it isn't the end
abbrev IsSome : Front → Type 0
IsSome front.End = ⊥
IsSome (front.Token kind n) = Unit {0}
IsSome (front.Fault code) = Unit {0}

either : (b : Bool) (x y : Front) → IsSome x → IsSome y → IsSome (cond b x y)
either true x y p q = p
either false x y p q = q

some_sign : (s : Option (List ℕ × Sign)) → IsSome (sign_front s)
some_sign None = tt
some_sign (Some s) = tt

some_front : (b : ℕ) (bytes : List ℕ) → IsSome (front_of (b ∷ bytes))
some_front b bytes =
    either (is_letter b) _ _ (either (nat_lt 64 (prefix_len goes_on (b ∷ bytes))) _ _ tt tt)
    (either (is_digit b) _ _
    (either (nat_lt 9 (prefix_len is_digit (b ∷ bytes))
    || nat_lt (prefix_len is_digit (b ∷ bytes)) (prefix_len goes_on (b ∷ bytes))) _ _ tt tt)
    (some_sign (sign_at (b ∷ bytes))))

pub nothing_left : (bytes : List ℕ) → front_of bytes ≡ front.End → bytes ≡ []
nothing_left [] is = refl
nothing_left (b ∷ bytes) is = let some = some_front b bytes in absurd (rw is at some)
