-- What a pool keeps where it forgets its last nodes.
use Rattle.std.proofs.Common.{◌≡◌, ℕ, zero, suc, ◌+◌, ◌<◌, ◌≤◌, List, [], ◌∷◌, ◌++◌, length, take, map}
use Rattle.std.proofs.Common.{sym, ap, subst, ◌∙◌, arith}
use Rattle.std.proofs.lemmas.List.{length-append, length-take, get_or-take, take_all, take-append-le, take-map}
use Rattle.fol_pool.specs.Trees.{Tree, a_form, EachOnce}
use Rattle.fol_formula.specs.Syntax.{top}
use Rattle.fol_pool.specs.Shapes.{tree_of}
use Rattle.fol_pool.specs.Facts.{tree_facts}
use Rattle.fol_pool.specs.Pools.{grown, AreOver, IsKept}
use Rattle.fol_pool.specs.declared.shape.Shape.{Shape}
use Rattle.fol_pool.specs.declared.facts.TreeFacts.{TreeFacts}
use Rattle.fol_pool.proofs.Grown.{front}

-- the trees of the first shapes are the first trees
from : (ts : List Tree) (xs : List Shape) (n : ℕ)
    → grown ts (take n xs) ≡ take (length ts + n) (grown ts xs)
from ts xs zero =
    let more = front ts xs in
    let there : length ts ≤ length ts + zero = omega arith in
    let within : length ts + zero ≤ length ts = omega arith in
    sym (take_all (length ts + zero) ts there)
    ∙ sym (take-append-le (length ts + zero) ts more.0 within)
    ∙ ap (take (length ts + zero)) (sym more.1)
from ts [] (suc n) = sym (take_all (length ts + suc n) ts (omega arith))
from ts (x ∷ xs) (suc n) =
    let t = tree_of ts x ∷ [] in
    let count : length (ts ++ t) + n ≡ length ts + suc n = omega (arith, length-append ts t) in
    from (ts ++ t) xs n ∙ ap (λ (k : ℕ). take k (grown (ts ++ t) xs)) count

pub grown_take : (xs : List Shape) (n : ℕ) → grown [] (take n xs) ≡ take n (grown [] xs)
grown_take xs n =
    let count : 0 + n ≡ n = omega arith in
    from [] xs n ∙ ap (λ (k : ℕ). take k (grown [] xs)) count

over_take : (ts : List Tree) (xs : List Shape) (n : ℕ) → AreOver ts xs → AreOver ts (take n xs)
over_take ts xs zero h = tt
over_take ts [] (suc n) h = tt
over_take ts (x ∷ xs) (suc n) h = (h.0, over_take (ts ++ tree_of ts x ∷ []) xs n h.1)

once_take : (ts : List Tree) (n : ℕ) → EachOnce ts → EachOnce (take n ts)
once_take ts n once i j p q e =
    let a : i < n = omega (arith, p, length-take n ts) in
    let b : j < n = omega (arith, q, length-take n ts) in
    once i j (omega (arith, p, length-take n ts)) (omega (arith, q, length-take n ts))
    (sym (get_or-take n ts i (a_form top) a) ∙ e ∙ get_or-take n ts j (a_form top) b)

pub kept_take : (xs : List Shape) (zs : List TreeFacts) (n : ℕ) → IsKept xs zs → IsKept (take n xs) (take n zs)
kept_take xs zs n h = record {
  pooled = record {
    over = over_take [] xs n h.pooled.over;
    once = subst EachOnce (sym (grown_take xs n)) (once_take (grown [] xs) n h.pooled.once);
  };
  known = ap (take n) h.known ∙ take-map tree_facts n (grown [] xs) ∙ ap (map tree_facts) (sym (grown_take xs n));
}
