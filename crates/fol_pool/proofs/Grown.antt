-- What a pool keeps, as shapes are added.
use Rattle.std.proofs.Common.{◌≡◌, ℕ, zero, suc, ◌+◌, ◌<◌, ◌≤◌, Bool, true, false, true≢false, List, [], ◌∷◌, ◌++◌}
use Rattle.std.proofs.Common.{length, get_or, refl, sym, ap, subst, ◌∙◌, arith, append_assoc, append-nil, cond}
use Rattle.std.proofs.Common.{inl, inr, ◌⊎◌, map}
use Rattle.std.specs.Prelude.{not}
use Rattle.std.specs.List.{list_any}
use Rattle.std.proofs.lemmas.List.{get_or_append_left, get_or-append-add, length-append, map-append}
use Rattle.std.proofs.lemmas.List.Folds.{list_any_at}
use Rattle.std.proofs.lemmas.Bool.{cases_lt}
use Rattle.fol_pool.specs.Trees.{Tree, a_form, tree_at, IsAt, EachOnce}
use Rattle.fol_formula.specs.Syntax.{top}
use Rattle.fol_formula.specs.Counts.{saturated}
use Rattle.fol_pool.specs.Shapes.{tree_of, IsOver, PartsAreBelow}
use Rattle.fol_pool.specs.Facts.{tree_nodes, tree_depth, tree_existential, tree_facts}
use Rattle.fol_pool.specs.declared.facts.TreeFacts.{TreeFacts}
use Rattle.fol_pool.specs.Pools.{grown, AreOver, ArePooled}
use Rattle.fol_pool.specs.declared.shape.Shape.{Shape}
use Rattle.fol_pool.specs.declared.shape.Shape.TheVariants as shape
use Rattle.fol_pool.proofs.Nodes.{over_grows, tree_stays, one_tree, parts_below}
use Rattle.fol_pool.proofs.Same.{equal, equal_self, same}

pub grown_push : (ts : List Tree) (xs : List Shape) (s : Shape)
    → grown ts (xs ++ s ∷ []) ≡ grown ts xs ++ tree_of (grown ts xs) s ∷ []
grown_push ts [] s = refl
grown_push ts (x ∷ xs) s = grown_push (ts ++ tree_of ts x ∷ []) xs s

over_push : (ts : List Tree) (xs : List Shape) (s : Shape) → AreOver ts xs → IsOver (grown ts xs) s
    → AreOver ts (xs ++ s ∷ [])
over_push ts [] s h over = (over, tt)
over_push ts (x ∷ xs) s h over = (h.0, over_push (ts ++ tree_of ts x ∷ []) xs s h.1 over)

-- one node a shape
length_from : (ts : List Tree) (xs : List Shape) → length (grown ts xs) ≡ length ts + length xs
length_from ts [] = omega arith
length_from ts (x ∷ xs) =
    let t = tree_of ts x ∷ [] in
    length_from (ts ++ t) xs ∙ omega (arith, length-append ts t)

pub length_grown : (xs : List Shape) → length (grown [] xs) ≡ length xs
length_grown xs = length_from [] xs ∙ omega arith

-- the nodes that were there stand in front
pub front : (ts : List Tree) (xs : List Shape) → (more : List Tree) × (grown ts xs ≡ ts ++ more)
front ts [] = ([], sym (append-nil ts))
front ts (x ∷ xs) =
    let t = tree_of ts x in
    let rest = front (ts ++ t ∷ []) xs in
    (t ∷ rest.0, rest.1 ∙ append_assoc ts (t ∷ []) rest.0)

-- the shape at a place, over the nodes before it
record Placed (ts : List Tree) (xs : List Shape) (i : ℕ) : Type 0 where
  before : List Tree
  behind : List Tree
  whole : grown ts xs ≡ before ++ behind
  count : length before ≡ length ts + i
  over : IsOver before (get_or xs i shape.True)
  tree : tree_at (grown ts xs) (length ts + i) ≡ tree_of before (get_or xs i shape.True)

placed : (ts : List Tree) (xs : List Shape) → AreOver ts xs → (i : ℕ) → i < length xs → Placed ts xs i
placed ts [] h i lt = absurd (omega (arith, lt))
placed ts (x ∷ xs) h zero lt =
    let t = tree_of ts x in
    let rest = front (ts ++ t ∷ []) xs in
    let whole : grown ts (x ∷ xs) ≡ ts ++ t ∷ rest.0 = rest.1 ∙ append_assoc ts (t ∷ []) rest.0 in
    record {
      before = ts;
      behind = t ∷ rest.0;
      whole = whole;
      count = omega arith;
      over = h.0;
      tree = ap (λ (l : List Tree). tree_at l (length ts + 0)) whole ∙ get_or-append-add ts (t ∷ rest.0) 0 (a_form top);
    }
placed ts (x ∷ xs) h (suc i) lt =
    let t = tree_of ts x in
    let p = placed (ts ++ t ∷ []) xs h.1 i (omega (arith, lt)) in
    let n : length (ts ++ t ∷ []) + i ≡ length ts + suc i = omega (arith, length-append ts (t ∷ [])) in
    record {
      before = p.before;
      behind = p.behind;
      whole = p.whole;
      count = p.count ∙ n;
      over = p.over;
      tree = ap (λ (m : ℕ). tree_at (grown ts (x ∷ xs)) m) (sym n) ∙ p.tree;
    }

-- what is kept of the shape at a place: the nodes before it, and its tree
pub record Kept (xs : List Shape) (i : ℕ) : Type 0 where
  pub before : List Tree
  pub behind : List Tree
  pub whole : grown [] xs ≡ before ++ behind
  pub count : length before ≡ i
  pub over : IsOver before (get_or xs i shape.True)
  pub tree : tree_at (grown [] xs) i ≡ tree_of (grown [] xs) (get_or xs i shape.True)

pub kept_at : (xs : List Shape) → AreOver [] xs → (i : ℕ) → i < length xs → Kept xs i
kept_at xs h i lt =
    let p = placed [] xs h i lt in
    let k = get_or xs i shape.True in
    let n : 0 + i ≡ i = omega arith in
    record {
      before = p.before;
      behind = p.behind;
      whole = p.whole;
      count = p.count ∙ n;
      over = p.over;
      tree = ap (λ (m : ℕ). tree_at (grown [] xs) m) (sym n) ∙ p.tree ∙ sym (tree_stays p.before p.behind k p.over)
          ∙ ap (λ (ts : List Tree). tree_of ts k) (sym p.whole);
    }

kept_over : (xs : List Shape) (i : ℕ) → Kept xs i → IsOver (grown [] xs) (get_or xs i shape.True)
kept_over xs i p =
    let k = get_or xs i shape.True in
    subst (λ (ts : List Tree). IsOver ts k) (sym p.whole) (over_grows p.before p.behind k p.over)

-- a shape that is not kept stands for a tree that is at no node
not_there : (xs : List Shape) (s : Shape) → ArePooled xs → IsOver (grown [] xs) s → list_any (equal s) xs ≡ false
    → (i : ℕ) → i < length (grown [] xs) → tree_at (grown [] xs) i ≡ tree_of (grown [] xs) s → ⊥
not_there xs s pooled over none i lt e =
    let within : i < length xs = subst (λ (n : ℕ). i < n) (length_grown xs) lt in
    let p = kept_at xs pooled.over i within in
    let k = get_or xs i shape.True in
    let is : k ≡ s = one_tree (grown [] xs) pooled.once s k over (kept_over xs i p) (sym e ∙ p.tree) in
    let found : equal s k ≡ true = subst (λ (k : Shape). equal s k ≡ true) (sym is) (equal_self s) in
    true≢false (sym (list_any_at (equal s) xs i shape.True within found) ∙ none)

-- a tree that is at no node behind the others
module _ (ts : List Tree) (t : Tree) (once : EachOnce ts)
    (new : (i : ℕ) → i < length ts → tree_at ts i ≡ t → ⊥) where
  old_at : (i : ℕ) → i < length ts → tree_at (ts ++ t ∷ []) i ≡ tree_at ts i
  old_at i lt = get_or_append_left ts (t ∷ []) (a_form top) i lt

  last_at : (i : ℕ) → length ts ≤ i → i < length (ts ++ t ∷ []) → tree_at (ts ++ t ∷ []) i ≡ t
  last_at i le lt =
      let n : length ts + 0 ≡ i = omega (arith, le, lt, length-append ts (t ∷ [])) in
      ap (λ (m : ℕ). tree_at (ts ++ t ∷ []) m) (sym n) ∙ get_or-append-add ts (t ∷ []) 0 (a_form top)

  once_push : EachOnce (ts ++ t ∷ [])
  once_push i j p q e =
      elim (cases_lt i (length ts)) [
        | inl a ↦ elim (cases_lt j (length ts)) [
          | inl b ↦ once i j a b (sym (old_at i a) ∙ e ∙ old_at j b)
          | inr b ↦ absurd (new i a (sym (old_at i a) ∙ e ∙ last_at j b q))
        ]
        | inr a ↦ elim (cases_lt j (length ts)) [
          | inl b ↦ absurd (new j b (sym (old_at j b) ∙ sym e ∙ last_at i a p))
          | inr b ↦ omega (arith, a, b, p, q, length-append ts (t ∷ []))
        ]
      ]

-- the shapes with one that may be kept already, and what stands for them
pub record Added (xs ys : List Shape) (s : Shape) : Type 0 where
  pub pooled : ArePooled ys
  pub grows : (grown [] ys ≡ grown [] xs) ⊎ (grown [] ys ≡ grown [] xs ++ tree_of (grown [] xs) s ∷ [])
  pub tree : tree_of (grown [] ys) s ≡ tree_of (grown [] xs) s

pub added : (xs : List Shape) (s : Shape) → ArePooled xs → IsOver (grown [] xs) s → (b : Bool)
    → list_any (equal s) xs ≡ b → Added xs (cond b xs (xs ++ s ∷ [])) s
added xs s pooled over true is = record { pooled = pooled; grows = inl refl; tree = refl }
added xs s pooled over false is =
    let ts = grown [] xs in
    let t = tree_of ts s in
    let new = grown_push [] xs s in
    record {
      pooled = record {
        over = over_push [] xs s pooled.over over;
        once = subst EachOnce (sym new) (once_push ts t pooled.once (not_there xs s pooled over is));
      };
      grows = inr new;
      tree = ap (λ (l : List Tree). tree_of l s) new ∙ tree_stays ts (t ∷ []) s over;
    }

-- the node of a shape that was added
pub node_is : (xs ys : List Shape) (s k : Shape) (i : ℕ) → Added xs ys s → i < length ys → get_or ys i shape.True ≡ k
    → equal s k ≡ true → IsAt (grown [] ys) i (tree_of (grown [] xs) s)
node_is xs ys s k i a lt at e =
    let p = kept_at ys a.pooled.over i lt in
    let is : get_or ys i shape.True ≡ s = at ∙ sym (same s k e) in (
      subst (λ (n : ℕ). i < n) (sym (length_grown ys)) lt,
      p.tree ∙ ap (λ (k : Shape). tree_of (grown [] ys) k) is ∙ a.tree,
    )

-- the shape at a node stands for its tree
pub shape_tree : (xs : List Shape) (n : ℕ) → ArePooled xs → n < length (grown [] xs)
    → tree_of (grown [] xs) (get_or xs n shape.True) ≡ tree_at (grown [] xs) n
shape_tree xs n pooled lt =
    let p = kept_at xs pooled.over n (subst (λ (m : ℕ). n < m) (length_grown xs) lt) in
    sym p.tree

-- and is over the nodes
pub shape_parts : (xs : List Shape) (n : ℕ) → ArePooled xs → n < length (grown [] xs)
    → IsOver (grown [] xs) (get_or xs n shape.True)
shape_parts xs n pooled lt =
    kept_over xs n (kept_at xs pooled.over n (subst (λ (m : ℕ). n < m) (length_grown xs) lt))

-- and its parts have smaller numbers
pub shape_below : (xs : List Shape) (n : ℕ) → ArePooled xs → n < length (grown [] xs)
    → PartsAreBelow n (get_or xs n shape.True)
shape_below xs n pooled lt =
    let p = kept_at xs pooled.over n (subst (λ (m : ℕ). n < m) (length_grown xs) lt) in
    let k = get_or xs n shape.True in
    subst (λ (m : ℕ). PartsAreBelow m k) p.count (parts_below p.before k p.over)

-- what is known of the trees, with one more where the shape is new
pub known_more : (xs : List Shape) (s : Shape) (zs : List TreeFacts) (z : TreeFacts)
    → zs ≡ map tree_facts (grown [] xs) → z.nodes ≡ saturated (tree_nodes (tree_of (grown [] xs) s))
    → z.depth ≡ saturated (tree_depth (tree_of (grown [] xs) s))
    → z.existential ≡ tree_existential (tree_of (grown [] xs) s) → (b : Bool)
    → cond (not b) (zs ++ z ∷ []) zs ≡ map tree_facts (grown [] (cond b xs (xs ++ s ∷ [])))
known_more xs s zs z are nodes depth existential true = are
known_more xs s zs z are nodes depth existential false =
    let ts = grown [] xs in
    let one : z ≡ tree_facts (tree_of ts s) =
    λ i. record { nodes = nodes i; depth = depth i; existential = existential i } in
    ap (λ (l : List TreeFacts). l ++ z ∷ []) are
    ∙ ap (λ (y : TreeFacts). map tree_facts ts ++ y ∷ []) one
    ∙ sym (map-append tree_facts ts (tree_of ts s ∷ []))
    ∙ ap (map tree_facts) (sym (grown_push [] xs s))
