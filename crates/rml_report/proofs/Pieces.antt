-- Pieces of text, one behind another.
use Rattle.std.proofs.Common.{◌≡◌, ℕ, ◌+◌, ◌-◌, List, ◌∷◌, [], ◌++◌, length, take, append_assoc, add-one, arith, ap}
use Rattle.std.proofs.Common.{length-append}
use Rattle.std.proofs.Math.Seq.{take-append_seam}
use Rattle.fol_sig.specs.Tuples.{join_below}

pub three : (a b c x y z w : List ℕ) → x ≡ w ++ a → y ≡ x ++ b → z ≡ y ++ c → z ≡ w ++ (a ++ b ++ c)
three a b c x y z w p q r = rw (r, q, p) (simp append_assoc)

-- one more of the lists of the numbers below n
pub one_more : (n : ℕ) (f : ℕ → List ℕ) (x y w : List ℕ) → x ≡ w ++ join_below n f → y ≡ x ++ f n
    → y ≡ w ++ join_below (n + 1) f
one_more n f x y w p q = rw (q, p, add-one) (simp append_assoc)

-- an element was put behind a list and taken away again
pub popped : (xs ys zs ws : List ℕ) (x n : ℕ) → n ≡ length zs → ys ≡ xs ++ x ∷ [] → zs ≡ ys → ws ≡ take (n - 1) zs
    → ws ≡ xs
popped xs ys zs ws x n len p q r =
    let e : n - 1 ≡ length xs = omega (arith, length-append xs (x ∷ []), ap length p, ap length q, len) in
    rw (r, e, q, p) (take-append_seam xs (x ∷ []))
