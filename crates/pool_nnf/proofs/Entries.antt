-- The entries of a memo, as the pool grows and as one is added.
use Rattle.std.proofs.Common.{◌≡◌, ℕ, Bool, true, false, T, eqb→eq, cond, if◌then◌else◌, List, [], ◌∷◌, ◌++◌, ◌||◌}
use Rattle.std.proofs.Common.{◌<◌, length, refl, sym, ap, subst}
use mathlib.Core.Bool.{beq}
use Rattle.std.specs.Prelude.{Option, Some, None, IfSome, ◌==◌, ◌&&◌}
use Rattle.std.specs.Map.{lookup}
use Rattle.std.specs.List.{list_any}
use Rattle.indexmap.specs.IndexMap.{insert_entry}
use Rattle.indexmap.specs.IndexSet.{insert_key}
use Rattle.fol_formula.specs.Fragments.{IsIteFree}
use Rattle.fol_pool.specs.Trees.{Tree, IsAt, Grows, tree_at, term_at, as_term}
use Rattle.fol_pool.specs.declared.shape.Node.{Node}
use Rattle.pool_nnf.specs.Normals.{normal_tree, IsNormalOf, AreRight, ArePlain}
use Rattle.pool_nnf.specs.declared.signed.Signed.{Signed}
use Rattle.pool_nnf.specs.contracts.signed.SignedPartialEq.TheImpl as signed_eq
use Rattle.fol_pool.specs.Growing.{stays_below as below, tree_stays as stays, stays_at, read_stays}

abbrev pub equal : Signed → Signed → Bool
equal = (signed_eq.ghosts).eq

module _ (old new : List Tree) (grows : Grows old new) where
  -- an entry stays right
  normal_stays : (s : Signed) (node : Node) → IsNormalOf old s node → IsNormalOf new s node
  normal_stays s node h = (
    below old new grows s.node.0 h.0,
    subst (λ (t : Tree). IsAt new node.0 (normal_tree s.positive t)) (sym (stays old new grows s.node.0 h.0))
        (stays_at old new grows node.0 (normal_tree s.positive (tree_at old s.node.0)) h.1),
  )

  right_stays : (es : List (Signed × Node)) → AreRight old es → AreRight new es
  right_stays [] h = tt
  right_stays (e ∷ es) h = (normal_stays e.0 e.1 h.0, right_stays es h.1)

a_node : (a b : Node) → (a.0 == b.0) ≡ true → a ≡ b
a_node a b h = ap (λ (n : ℕ). let node : Node = record { 0 = n } in node) (eqb→eq a.0 b.0 (subst T (sym h) tt))

first_is : (s t : Bool) → (s && t) ≡ true → s ≡ true
first_is true t h = refl
first_is false t h = h

second_is : (s t : Bool) → (s && t) ≡ true → t ≡ true
second_is true t h = h
second_is false t h = absurd (cc h)

a_sign : (s t : Bool) → beq s t ≡ true → s ≡ t
a_sign true true h = refl
a_sign true false h = absurd (cc h)
a_sign false true h = absurd (cc h)
a_sign false false h = refl

-- what == finds the same is the same
same : (s k : Signed) → equal s k ≡ true → s ≡ k
same s k h =
    let nodes : s.node ≡ k.node =
    a_node s.node k.node (first_is (s.node.0 == k.node.0) (beq s.positive k.positive) h) in
    let signs : s.positive ≡ k.positive =
    a_sign s.positive k.positive (second_is (s.node.0 == k.node.0) (beq s.positive k.positive) h) in
    λ i. record { node = nodes i; positive = signs i }

value : (a b : Node) → Some a ≡ Some b → a ≡ b
value a b e = ap (λ (o : Option Node). elim o [ Some n ↦ n | None ↦ a ]) e

module _ (ts : List Tree) where
  -- what a look-up finds is right
  pub found : (es : List (Signed × Node)) (s : Signed) (node : Node) → AreRight ts es
      → lookup (equal s) es ≡ Some node → IsNormalOf ts s node
  found [] s node right e = absurd (cc e)
  found (x ∷ es) s node right e = by (equal s x.0) refl (found es s node right.1) e
    where
      by : (b : Bool) → equal s x.0 ≡ b → (lookup (equal s) es ≡ Some node → IsNormalOf ts s node)
          → cond b (Some x.1) (lookup (equal s) es) ≡ Some node → IsNormalOf ts s node
      by true is rest e =
          subst (λ (n : Node). IsNormalOf ts s n) (value x.1 node e)
          (subst (λ (k : Signed). IsNormalOf ts k x.1) (sym (same s x.0 is)) right.0)
      by false is rest e = rest e

  pub is_found : (es : List (Signed × Node)) (s : Signed) (r : Option Node) → AreRight ts es → r ≡ lookup (equal s) es
      → IfSome r (λ node. IsAt ts node.0 (normal_tree s.positive (tree_at ts s.node.0)))
  is_found es s None right e = tt
  is_found es s (Some node) right e = let is = found es s node right (sym e) in is.1

  -- one more entry
  pub noted : (es : List (Signed × Node)) (s : Signed) (node : Node) → AreRight ts es → IsNormalOf ts s node
      → AreRight ts (insert_entry equal es s node)
  noted [] s node right new = (new, tt)
  noted (x ∷ es) s node right new = by (equal s x.0) refl (noted es s node right.1 new)
    where
      by : (b : Bool) → equal s x.0 ≡ b → AreRight ts (insert_entry equal es s node)
          → AreRight ts (if b then (x.0, node) ∷ es else x ∷ insert_entry equal es s node)
      by true is rest = (subst (λ (k : Signed). IsNormalOf ts k node) (same s x.0 is) new, right.1)
      by false is rest = (right.0, rest)

-- whether two nodes are the same by ==
abbrev pub node_equal : Node → Node → Bool
node_equal a b = a.0 == b.0

plain_stay : (old new : List Tree) → Grows old new → (ns : List Node) → ArePlain old ns → ArePlain new ns
plain_stay old new grows [] h = tt
plain_stay old new grows (n ∷ ns) h = (
  below old new grows n.0 h.0,
  subst IsIteFree (sym (read_stays old new grows as_term n.0 h.0)) h.1,
  plain_stay old new grows ns h.2,
)

-- what is kept beside the pool
pub kept_stays : (old new : List Tree) → Grows old new → (es : List (Signed × Node)) (ns : List Node)
    → AreRight old es × ArePlain old ns → AreRight new es × ArePlain new ns
kept_stays old new grows es ns h = (right_stays old new grows es h.0, plain_stay old new grows ns h.1)

module _ (ts : List Tree) where
  -- a term that is found is plain
  pub plain_found : (ns : List Node) (n : Node) → ArePlain ts ns → list_any (node_equal n) ns ≡ true
      → IsIteFree (term_at ts n.0)
  plain_found [] n h e = absurd (cc e)
  plain_found (m ∷ ns) n h e = by (node_equal n m) refl (plain_found ns n h.2) e
    where
      by : (b : Bool) → node_equal n m ≡ b → (list_any (node_equal n) ns ≡ true → IsIteFree (term_at ts n.0))
          → (b || list_any (node_equal n) ns) ≡ true → IsIteFree (term_at ts n.0)
      by true is rest e = subst (λ (k : Node). IsIteFree (term_at ts k.0)) (sym (a_node n m is)) h.1
      by false is rest e = rest e

  plain_push : (ns : List Node) (n : Node) → ArePlain ts ns → n.0 < length ts → IsIteFree (term_at ts n.0)
      → ArePlain ts (ns ++ n ∷ [])
  plain_push [] n h lt plain = (lt, plain, tt)
  plain_push (m ∷ ns) n h lt plain = (h.0, h.1, plain_push ns n h.2 lt plain)

  -- one more
  pub plain_noted : (ns : List Node) (n : Node) → ArePlain ts ns → n.0 < length ts → IsIteFree (term_at ts n.0)
      → ArePlain ts (insert_key node_equal ns n)
  plain_noted ns n h lt plain = by (list_any (node_equal n) ns)
    where
      by : (b : Bool) → ArePlain ts (if b then ns else ns ++ n ∷ [])
      by true = h
      by false = plain_push ns n h lt plain
