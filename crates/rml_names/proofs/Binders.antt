-- A name that is not that of the nearest binder.
use Rattle.std.proofs.Common.{◌≡◌, ◌≤◌, ◌+◌, ℕ, suc, false, List, ◌∷◌, length, refl, subst, arith}
use Rattle.std.specs.Str.{bytes_eq}
use Rattle.rml_names.specs.Vocabulary.{Vocabulary}
use Rattle.rml_names.specs.Meanings.{BoundName, meaning_from}

pub past_binder : (m : Vocabulary) (i : ℕ) (b : BoundName) (bs all : List BoundName) (name : List ℕ)
    → all ≡ b ∷ bs → bytes_eq name b.name ≡ false
    → meaning_from m (i + 1) bs name ≡ meaning_from m i all name
past_binder m i b bs all name is other =
    let e : i + 1 ≡ suc i = omega arith in
    rw (is, other) (subst (λ (k : ℕ). meaning_from m (i + 1) bs name ≡ meaning_from m k bs name) e refl)

pub one_binder_less : (i most : ℕ) (b : BoundName) (bs all : List BoundName)
    → all ≡ b ∷ bs → i + length all ≤ most → i + 1 + length bs ≤ most
one_binder_less i most b bs all is few =
    let all_of : length all ≡ suc (length bs) = rw is refl in
    omega (arith, few, all_of)
