-- Groups are listed in order.
use Rattle.std.proofs.Common.{◌≡◌, ◌<◌, ◌+◌, ℕ, List, [], ◌∷◌, ◌++◌, length, map, drop, get_or, sym, ap, subst, ◌∙◌}
use Rattle.std.proofs.Common.{append_assoc}
use Rattle.std.specs.List.{AllByRecursion}
use Rattle.std.proofs.lemmas.List.{map-append, drop_more}
use Rattle.base.proofs.Lists.{all_push}

-- with one more at the end, each is so
pub pushed_all : {A : Type 0} (P : A → Type 0) (old new : List A) (x : A) → new ≡ old ++ x ∷ [] → AllByRecursion P old
    → P x → AllByRecursion P new
pushed_all P old new x e h k = subst (AllByRecursion P) (sym e) (all_push P old x h k)

-- the next of some heads is answered
pub next_head : {A B : Type 0} (head : A → B) (heads : List B) (i : ℕ) (d : B) (old new : List A) (x : A)
    → i < length heads → new ≡ old ++ x ∷ [] → head x ≡ get_or heads i d → map head old ++ drop i heads ≡ heads
    → map head new ++ drop (i + 1) heads ≡ heads
next_head head heads i d old new x lt e is h =
    let rest = drop (i + 1) heads in
    ap (λ zs. zs ++ rest) (ap (map head) e ∙ map-append head old (x ∷ []) ∙ ap (λ z. map head old ++ z ∷ []) is)
    ∙ append_assoc (map head old) (get_or heads i d ∷ []) rest
    ∙ ap (λ zs. map head old ++ zs) (sym (drop_more heads i d lt)) ∙ h

-- what is so of those that are left
pub left_all : {B : Type 0} (P : B → Type 0) (heads : List B) (i : ℕ) (d : B) → i < length heads
    → AllByRecursion P (drop i heads) → AllByRecursion P (drop (i + 1) heads)
left_all P heads i d lt all = (subst (AllByRecursion P) (drop_more heads i d lt) all).1
