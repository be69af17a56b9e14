use Rattle.std.proofs.Common.{◌≡◌, ◌<◌, ◌⊎◌, ◌++◌, ◌∷◌, [], ℕ, Some, refl, sym, subst, length, List, slice_get, get_or}
use Rattle.std.proofs.Common.{inl, inr, ◌∙◌, append-nil}
use Rattle.std.proofs.Common.{Bool, map, ap, cond}
use Rattle.std.specs.Prelude.{true, not}
use Rattle.fol_formula.specs.Counts.{saturated}
use Rattle.std.specs.List.{list_any}
use Rattle.std.proofs.lemmas.Option.{slice_get_within, get_or_from_slice_get}
use Rattle.indexmap.specs.IndexSet.{insert_key}
use Rattle.fol_pool.specs.Trees.{Tree, IsAt, Grows}
use Rattle.fol_pool.specs.Shapes.{tree_of, IsOver}
use Rattle.fol_pool.specs.Facts.{tree_nodes, tree_depth, tree_existential, tree_facts}
use Rattle.fol_pool.specs.declared.facts.TreeFacts.{TreeFacts}
use Rattle.fol_pool.specs.Pools.{grown, ArePooled}
use Rattle.fol_pool.specs.declared.shape.Shape.{Shape}
use Rattle.fol_pool.specs.declared.shape.Shape.TheVariants as shape
use Rattle.fol_pool.proofs.Same.{equal}
use Rattle.fol_pool.proofs.Grown.{Added, added, node_is, known_more}
use Rattle.fol_pool.proofs.pool.Pool.add.Goals as goal

module _ (ts : List Tree) (xs ys : List Shape) (s : Shape) (is : grown [] xs ≡ ts) (over : IsOver ts s)
    (pooled : ArePooled xs) (keys : ys ≡ insert_key equal xs s) where
  more : Added xs ys s
  more =
      subst (λ (ks : List Shape). Added xs ks s) (sym keys)
      (added xs s pooled (subst (λ (l : List Tree). IsOver l s) (sym is) over) (list_any (equal s) xs) refl)

  node : (i : ℕ) (k : Shape) → i < length ys → get_or ys i shape.True ≡ k → equal s k ≡ true
      → IsAt (grown [] ys) i (tree_of ts s)
  node i k lt at e =
      subst (λ (l : List Tree). IsAt (grown [] ys) i (tree_of l s)) is (node_is xs ys s k i more lt at e)

  added_one : (grown [] ys ≡ ts) ⊎ (grown [] ys ≡ ts ++ tree_of ts s ∷ [])
  added_one =
      subst (λ (l : List Tree). (grown [] ys ≡ l) ⊎ (grown [] ys ≡ l ++ tree_of l s ∷ [])) is more.grows

  grows : Grows ts (grown [] ys)
  grows = elim added_one [ inl e ↦ ([], e ∙ sym (append-nil ts)) | inr e ↦ (tree_of ts s ∷ [], e) ]

  facts : (old new : List TreeFacts) (z : TreeFacts) (b : Bool) → old ≡ map tree_facts (grown [] xs)
      → z.nodes ≡ saturated (tree_nodes (tree_of ts s)) → z.depth ≡ saturated (tree_depth (tree_of ts s))
      → z.existential ≡ tree_existential (tree_of ts s)
      → b ≡ not (list_any (equal s) xs) → new ≡ cond b (old ++ z ∷ []) old → new ≡ map tree_facts (grown [] ys)
  facts old new z b are nodes depth existential is_new made =
      made ∙ ap (λ (b : Bool). cond b (old ++ z ∷ []) old) is_new
      ∙ known_more xs s old z are
      (subst (λ (l : List Tree). z.nodes ≡ saturated (tree_nodes (tree_of l s))) (sym is) nodes)
      (subst (λ (l : List Tree). z.depth ≡ saturated (tree_depth (tree_of l s))) (sym is) depth)
      (subst (λ (l : List Tree). z.existential ≡ tree_existential (tree_of l s)) (sym is) existential)
      (list_any (equal s) xs)
      ∙ ap (λ (ks : List Shape). map tree_facts (grown [] ks)) (sym keys)

-- what is read at a place stands there
in_list : (ys : List Shape) (i : ℕ) (k : Shape) → slice_get ys i ≡ Some k
    → (i < length ys) × (get_or ys i shape.True ≡ k)
in_list ys i k e = (slice_get_within ys i k e, get_or_from_slice_get ys i k shape.True e)

pub invariant_of-self-2 : goal.invariant_of-self-2
invariant_of-self-2 c =
    let ts = c.args.self.now in
    let xs = c.self.inside.shapes.keys in
    let ys = c.insert_full.new.self.keys in
    let kept = c.self.invariant in
    let keys = c.in_ok-place.ensures.keys in
    let a = more ts xs ys c.args.shape c.self.view_is c.requires kept.pooled keys in
    record {
      pooled = a.pooled;
      known = facts ts xs ys c.args.shape c.self.view_is c.requires kept.pooled keys c.reserve.new.self.items
          c.push_where.new.facts.items c.shape_facts-known.result c.in_ok-place.is_new
          (c.reserve.ensures.items ∙ kept.known) c.shape_facts-known.ensures.nodes c.shape_facts-known.ensures.depth
          c.shape_facts-known.ensures.existential c.in_ok-place.ensures.added c.in_ok-push_where.ensures.items;
    }

pub returns-clause-node : goal.returns-clause-node
returns-clause-node c =
    let at = c.in_ok-place.ensures.stored in
    let there = in_list c.insert_full.new.self.keys c.in_ok-place.place at.0 at.1 in
    node c.args.self.now c.self.inside.shapes.keys c.insert_full.new.self.keys c.args.shape c.self.view_is c.requires
    c.self.invariant.pooled c.in_ok-place.ensures.keys c.in_ok-place.place at.0 there.0 there.1 at.2

pub returns-clause-added : goal.returns-clause-added
returns-clause-added c =
    added_one c.args.self.now c.self.inside.shapes.keys c.insert_full.new.self.keys c.args.shape c.self.view_is
    c.requires c.self.invariant.pooled c.in_ok-place.ensures.keys

pub returns-clause-grows : goal.returns-clause-grows
returns-clause-grows c =
    grows c.args.self.now c.self.inside.shapes.keys c.insert_full.new.self.keys c.args.shape c.self.view_is c.requires
    c.self.invariant.pooled c.in_ok-place.ensures.keys
