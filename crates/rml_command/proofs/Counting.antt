-- How many paths there are, and paths that go on.
use Rattle.std.proofs.Common.{◌≡◌, ◌⊎◌, inl, inr, ℕ, zero, suc, ◌+◌, ◌*◌, ◌≤◌, Bool, true, false, ◌||◌, cond, List, []}
use Rattle.std.proofs.Common.{◌∷◌, ◌++◌, length, map, refl, sym, ap, ◌∙◌, subst, arith, append_assoc, append-nil}
use Rattle.std.proofs.Math.Nat.{mul-le-mul_left, mul-le-mul_right}
use Rattle.std.proofs.lemmas.Bool.{cases_lt}
use Rattle.std.specs.List.{flat_map}
use Rattle.std.proofs.lemmas.List.{map-append}
use Rattle.base.proofs.Lists.{flat_map-append}
use Rattle.rml_command.specs.Trees.{PrimitiveTree}
use Rattle.rml_command.specs.Paths.{is_abort, has_abort, continued}
use Rattle.rml_command.specs.Counts.{open_count, stopped_count, capped}

-- a path of two parts has the aborts of both
pub has_abort-append : (p q : List PrimitiveTree) → has_abort (p ++ q) ≡ (has_abort p || has_abort q)
has_abort-append [] q = refl
has_abort-append (x ∷ p) q =
    ap (λ b. is_abort x || b) (has_abort-append p q) ∙ assoc (is_abort x) (has_abort p) (has_abort q)
  where
    assoc : (a b c : Bool) → (a || (b || c)) ≡ ((a || b) || c)
    assoc true b c = refl
    assoc false b c = refl

open-append : (p q : List PrimitiveTree) → has_abort p ≡ false → has_abort (p ++ q) ≡ has_abort q
open-append p q e = has_abort-append p q ∙ ap (λ b. b || has_abort q) e

map-append-append : (p a : List PrimitiveTree) (bs : List (List PrimitiveTree))
    → map (λ q. (p ++ a) ++ q) bs ≡ map (λ q. p ++ q) (map (λ q. a ++ q) bs)
map-append-append p a [] = refl
map-append-append p a (b ∷ bs) = let e = append_assoc p a b in let f = map-append-append p a bs in cc (e, f)

-- going on under a first part
under : (p a : List PrimitiveTree) (bs : List (List PrimitiveTree)) → has_abort p ≡ false
    → continued bs (p ++ a) ≡ map (λ q. p ++ q) (continued bs a)
under p a bs e = ap (λ b. cond b ((p ++ a) ∷ []) (map (λ q. (p ++ a) ++ q) bs)) (open-append p a e)
    ∙ cases (has_abort a)
  where
    cases : (b : Bool) → cond b ((p ++ a) ∷ []) (map (λ q. (p ++ a) ++ q) bs)
        ≡ map (λ q. p ++ q) (cond b (a ∷ []) (map (λ q. a ++ q) bs))
    cases true = refl
    cases false = map-append-append p a bs

all_under : (p : List PrimitiveTree) (xs bs : List (List PrimitiveTree)) → has_abort p ≡ false
    → flat_map (continued bs) (map (λ q. p ++ q) xs) ≡ map (λ q. p ++ q) (flat_map (continued bs) xs)
all_under p [] bs e = refl
all_under p (a ∷ xs) bs e =
    let one = under p a bs e in
    let rest = all_under p xs bs e in
    ap (λ z. z ++ flat_map (continued bs) (map (λ q. p ++ q) xs)) one
    ∙ ap (λ z. map (λ q. p ++ q) (continued bs a) ++ z) rest
    ∙ sym (map-append (λ q. p ++ q) (continued bs a) (flat_map (continued bs) xs))

twice : (b : Bool) (p : List PrimitiveTree) (xs bs : List (List PrimitiveTree)) → has_abort p ≡ b
    → flat_map (continued bs) (cond b (p ∷ []) (map (λ q. p ++ q) xs))
    ≡ cond b (p ∷ []) (map (λ q. p ++ q) (flat_map (continued bs) xs))
twice true p xs bs e = append-nil (continued bs p) ∙ ap (λ b. cond b (p ∷ []) (map (λ q. p ++ q) bs)) e
twice false p xs bs e = all_under p xs bs e

-- paths that go on, and on again
pub continued-twice : (ps xs bs : List (List PrimitiveTree)) → flat_map (continued bs) (flat_map (continued xs) ps)
    ≡ flat_map (continued (flat_map (continued bs) xs)) ps
continued-twice [] xs bs = refl
continued-twice (p ∷ ps) xs bs =
    flat_map-append (continued bs) (continued xs p) (flat_map (continued xs) ps)
    ∙ ap (λ z. z ++ flat_map (continued bs) (flat_map (continued xs) ps)) (twice (has_abort p) p xs bs refl)
    ∙ ap (λ z. continued (flat_map (continued bs) xs) p ++ z) (continued-twice ps xs bs)

map-none : (ps : List (List PrimitiveTree)) → map (λ q. [] ++ q) ps ≡ ps
map-none [] = refl
map-none (p ∷ ps) = ap (λ z. p ∷ z) (map-none ps)

pub continued-start : (ps : List (List PrimitiveTree)) → flat_map (continued ps) ([] ∷ []) ≡ ps
continued-start ps = append-nil (map (λ q. [] ++ q) ps) ∙ map-none ps

pub continued-end : (ps : List (List PrimitiveTree)) → flat_map (continued ([] ∷ [])) ps ≡ ps
continued-end [] = refl
continued-end (p ∷ ps) =
    ap (λ z. z ++ flat_map (continued ([] ∷ [])) ps) (one (has_abort p)) ∙ ap (λ z. p ∷ z) (continued-end ps)
  where
    one : (b : Bool) → cond b (p ∷ []) ((p ++ []) ∷ []) ≡ p ∷ []
    one true = refl
    one false = ap (λ z. z ∷ []) (append-nil p)

-- counts
pub length-counts : (ps : List (List PrimitiveTree)) → length ps ≡ open_count ps + stopped_count ps
length-counts [] = refl
length-counts (p ∷ ps) = one (has_abort p) (length-counts ps)
  where
    one : (b : Bool) → length ps ≡ open_count ps + stopped_count ps → suc (length ps)
        ≡ cond b (open_count ps) (suc (open_count ps)) + cond b (suc (stopped_count ps)) (stopped_count ps)
    one true h = omega (arith, h)
    one false h = omega (arith, h)

pub open-append_count : (xs ys : List (List PrimitiveTree)) → open_count (xs ++ ys) ≡ open_count xs + open_count ys
open-append_count [] ys = omega arith
open-append_count (p ∷ xs) ys = one (has_abort p) (open-append_count xs ys)
  where
    one : (b : Bool) → open_count (xs ++ ys) ≡ open_count xs + open_count ys
        → cond b (open_count (xs ++ ys)) (suc (open_count (xs ++ ys))) ≡ cond b (open_count xs) (suc (open_count xs))
        + open_count ys
    one true h = h
    one false h = omega (arith, h)

pub stopped-append_count : (xs ys : List (List PrimitiveTree)) → stopped_count (xs ++ ys)
    ≡ stopped_count xs + stopped_count ys
stopped-append_count [] ys = omega arith
stopped-append_count (p ∷ xs) ys = one (has_abort p) (stopped-append_count xs ys)
  where
    one : (b : Bool) → stopped_count (xs ++ ys) ≡ stopped_count xs + stopped_count ys
        → cond b (suc (stopped_count (xs ++ ys))) (stopped_count (xs ++ ys))
        ≡ cond b (suc (stopped_count xs)) (stopped_count xs) + stopped_count ys
    one true h = omega (arith, h)
    one false h = h

open-under : (p : List PrimitiveTree) (qs : List (List PrimitiveTree)) → has_abort p ≡ false
    → open_count (map (λ q. p ++ q) qs) ≡ open_count qs
open-under p [] e = refl
open-under p (q ∷ qs) e =
    ap (λ b. cond b (open_count (map (λ q. p ++ q) qs)) (suc (open_count (map (λ q. p ++ q) qs)))) (open-append p q e)
    ∙ ap (λ n. cond (has_abort q) n (suc n)) (open-under p qs e)

stopped-under : (p : List PrimitiveTree) (qs : List (List PrimitiveTree)) → has_abort p ≡ false
    → stopped_count (map (λ q. p ++ q) qs) ≡ stopped_count qs
stopped-under p [] e = refl
stopped-under p (q ∷ qs) e =
    ap (λ b. cond b (suc (stopped_count (map (λ q. p ++ q) qs))) (stopped_count (map (λ q. p ++ q) qs)))
    (open-append p q e) ∙ ap (λ n. cond (has_abort q) (suc n) n) (stopped-under p qs e)

pub open-continued : (ps rest : List (List PrimitiveTree)) → open_count (flat_map (continued rest) ps)
    ≡ open_count ps * open_count rest
open-continued [] rest = omega arith
open-continued (p ∷ ps) rest =
    open-append_count (continued rest p) (flat_map (continued rest) ps)
    ∙ one (has_abort p) refl (open-continued ps rest)
  where
    one : (b : Bool) → has_abort p ≡ b → open_count (flat_map (continued rest) ps) ≡ open_count ps * open_count rest
        → open_count (cond b (p ∷ []) (map (λ q. p ++ q) rest)) + open_count (flat_map (continued rest) ps)
        ≡ cond b (open_count ps) (suc (open_count ps)) * open_count rest
    one true e h = let z : open_count (p ∷ []) ≡ 0 = ap (λ b. cond b 0 (suc 0)) e in omega (arith, z, h)
    one false e h = omega (arith, open-under p rest e, h)

pub stopped-continued : (ps rest : List (List PrimitiveTree)) → stopped_count (flat_map (continued rest) ps)
    ≡ stopped_count ps + open_count ps * stopped_count rest
stopped-continued [] rest = omega arith
stopped-continued (p ∷ ps) rest =
    stopped-append_count (continued rest p) (flat_map (continued rest) ps)
    ∙ one (has_abort p) refl (stopped-continued ps rest)
  where
    one : (b : Bool) → has_abort p ≡ b → stopped_count (flat_map (continued rest) ps) ≡ stopped_count ps + open_count ps
        * stopped_count rest → stopped_count (cond b (p ∷ []) (map (λ q. p ++ q) rest))
        + stopped_count (flat_map (continued rest) ps) ≡ cond b (suc (stopped_count ps)) (stopped_count ps)
        + cond b (open_count ps) (suc (open_count ps)) * stopped_count rest
    one true e h = let z : stopped_count (p ∷ []) ≡ 1 = ap (λ b. cond b (suc 0) 0) e in omega (arith, z, h)
    one false e h = omega (arith, stopped-under p rest e, h)

-- counts that stop at 4097
one_or_more : (n : ℕ) → (n ≡ 0) ⊎ (1 ≤ n)
one_or_more zero = inl refl
one_or_more (suc n) = inr (omega arith)

pub capped-product_left : (x y : ℕ) → capped (capped x * y) ≡ capped (x * y)
capped-product_left x y =
    elim (cases_lt x 4097) [
      | inl below ↦ (let e : capped x ≡ x = omega arith in ap (λ n. capped (n * y)) e)
      | inr above ↦ large above
          (one_or_more y)
    ]
  where
    large : 4097 ≤ x → (y ≡ 0) ⊎ (1 ≤ y) → capped (capped x * y) ≡ capped (x * y)
    large above (inl none) = subst (λ n. capped (capped x * n) ≡ capped (x * n)) (sym none) (omega arith)
    large above (inr some) =
        let e : capped x ≡ 4097 = omega arith in
        let a : 4097 * 1 ≤ 4097 * y = mul-le-mul_left 4097 some in
        let b : 4097 * y ≤ x * y = mul-le-mul_right y above in
        ap (λ n. capped (n * y)) e ∙ omega (arith, a, b)

pub capped-product_right : (x y : ℕ) → capped (x * capped y) ≡ capped (x * y)
capped-product_right x y = let a : x * capped y ≡ capped y * x = omega arith in let b : x * y ≡ y * x = omega arith in
    ap capped a ∙ capped-product_left y x ∙ sym (ap capped b)
