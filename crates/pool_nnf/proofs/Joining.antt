-- Lists of leaves, as the pool grows and as more are pushed.
use Rattle.std.proofs.Common.{◌≡◌, ℕ, zero, suc, ◌+◌, ◌<◌, List, [], ◌∷◌, ◌++◌, length, get_or, take, drop, map}
use Rattle.std.proofs.Common.{refl, sym}
use Rattle.std.proofs.Common.{ap, subst, ◌∙◌, arith}
use Rattle.std.specs.List.{flat_map}
use Rattle.std.proofs.lemmas.List.{take_more, drop_more, map_push, flat_map_more}
use Rattle.fol_formula.specs.Syntax.{FormTree, form_then, forms_of, list_of_forms}
use Rattle.fol_nnf.specs.Normal.{Leaf as LeafOf, leaf_form}
use Rattle.fol_pool.specs.Trees.{Tree, IsAt, Grows, a_form, some_forms, as_formula, as_formulas, form_at, forms_at}
use Rattle.fol_pool.specs.Trees.{tree_at}
use Rattle.pool_nnf.specs.Leaves.{leaf_at, IsLeaf, AreLeaves, atom_leaf, AreAtomLeaves}
use Rattle.pool_nnf.specs.declared.leaf.Leaf.{Leaf}
use Rattle.fol_pool.specs.Growing.{stays_at}

listed_forms : (ps : List FormTree) → list_of_forms (forms_of ps) ≡ ps
listed_forms [] = refl
listed_forms (p ∷ ps) = ap (λ (l : List FormTree). p ∷ l) (listed_forms ps)

module _ {A : Type 0} (of : A → Tree) where
  -- leaves stay as the pool grows
  pub leaf_stays : (old new : List Tree) → Grows old new → (l : Leaf) (m : LeafOf A) → IsLeaf of old l m
      → IsLeaf of new l m
  leaf_stays old new grows l m h = (
    stays_at old new grows l.conditions.0 (some_forms (forms_of m.0)) h.0,
    stays_at old new grows l.node.0 (of m.1) h.1,
  )

  pub leaves_stay : (old new : List Tree) → Grows old new → (ls : List Leaf) (ms : List (LeafOf A))
      → AreLeaves of old ls ms → AreLeaves of new ls ms
  leaves_stay old new grows [] [] h = tt
  leaves_stay old new grows [] (m ∷ ms) h = absurd h
  leaves_stay old new grows (l ∷ ls) [] h = absurd h
  leaves_stay old new grows (l ∷ ls) (m ∷ ms) h =
      (leaf_stays old new grows l m h.0, leaves_stay old new grows ls ms h.1)

  pub leaves_append : (ts : List Tree) (ls ks : List Leaf) (ms ns : List (LeafOf A)) → AreLeaves of ts ls ms
      → AreLeaves of ts ks ns → AreLeaves of ts (ls ++ ks) (ms ++ ns)
  leaves_append ts [] ks [] ns h more = more
  leaves_append ts [] ks (m ∷ ms) ns h more = absurd h
  leaves_append ts (l ∷ ls) ks [] ns h more = absurd h
  leaves_append ts (l ∷ ls) ks (m ∷ ms) ns h more = (h.0, leaves_append ts ls ks ms ns h.1 more)

  -- a leaf of some
  pub leaf_there : (ts : List Tree) (g : Leaf → LeafOf A) (ls : List Leaf) (i : ℕ) (d : Leaf)
      → AreLeaves of ts ls (map g ls) → i < length ls → IsLeaf of ts (get_or ls i d) (g (get_or ls i d))
  leaf_there ts g [] i d h lt = absurd (omega (arith, lt))
  leaf_there ts g (l ∷ ls) zero d h lt = h.0
  leaf_there ts g (l ∷ ls) (suc i) d h lt = leaf_there ts g ls i d h.1 (omega (arith, lt))

-- the one leaf of what stands at a node
pub bare_leaves : {A : Type 0} (of : A → Tree) (ts : List Tree) (ls : List Leaf) (t : Tree) (a : A) → t ≡ of a
    → AreLeaves (λ (u : Tree). u) ts ls (([], t) ∷ []) → AreLeaves of ts ls (([], a) ∷ [])
bare_leaves of ts [] t a e h = absurd h
bare_leaves of ts (l ∷ []) t a e h = ((h.0.0, (h.0.1.0, h.0.1.1 ∙ e)), tt)
bare_leaves of ts (l ∷ (k ∷ ls)) t a e h = absurd h.1

module _ {A : Type 0} (of : A → Tree) (read : Tree → A) (back : (a : A) → read (of a) ≡ a) where
  -- a leaf is read as the one that it is
  pub leaf_is : (ts : List Tree) (l : Leaf) (m : LeafOf A) → IsLeaf of ts l m → leaf_at read ts l ≡ m
  leaf_is ts l m h =
      let conditions : list_of_forms (forms_at ts l.conditions.0) ≡ m.0 =
      ap (λ (t : Tree). list_of_forms (as_formulas t)) h.0.1 ∙ listed_forms m.0 in
      let value : read (tree_at ts l.node.0) ≡ m.1 = ap read h.1.1 ∙ back m.1 in
      λ i. (conditions i, value i)

  pub leaves_are : (ts : List Tree) (ls : List Leaf) (ms : List (LeafOf A)) → AreLeaves of ts ls ms
      → map (leaf_at read ts) ls ≡ ms
  leaves_are ts [] [] h = refl
  leaves_are ts [] (m ∷ ms) h = absurd h
  leaves_are ts (l ∷ ls) [] h = absurd h
  leaves_are ts (l ∷ ls) (m ∷ ms) h = λ i. leaf_is ts l m h.0 i ∷ leaves_are ts ls ms h.1 i

  -- some leaves are those that are read
  pub leaves_read : (ts : List Tree) (ls : List Leaf) (ms : List (LeafOf A)) → AreLeaves of ts ls ms
      → AreLeaves of ts ls (map (leaf_at read ts) ls)
  leaves_read ts ls ms h = subst (λ (k : List (LeafOf A)). AreLeaves of ts ls k) (sym (leaves_are ts ls ms h)) h

  -- leaves that are lent are read as the ones that they are
  module _ (ts : List Tree) (lent ls : List Leaf) (ms : List (LeafOf A)) (is : lent ≡ ls) (are : AreLeaves of ts ls ms)
    where
      lent_leaves : AreLeaves of ts lent ms
      lent_leaves = subst (λ (ks : List Leaf). AreLeaves of ts ks ms) (sym is) are

      pub lent_read : AreLeaves of ts lent (map (leaf_at read ts) lent)
      lent_read = leaves_read ts lent ms lent_leaves

      pub lent_are : map (leaf_at read ts) lent ≡ ms
      lent_are = leaves_are ts lent ms lent_leaves

  module _ (start old : List Tree) (grows : Grows start old) where
    -- what was a leaf is one, and is read as before
    pub leaf_read : (l : Leaf) → IsLeaf of start l (leaf_at read start l) → IsLeaf of old l (leaf_at read old l)
    leaf_read l h =
        let there = leaf_stays of start old grows l (leaf_at read start l) h in
        subst (λ (m : LeafOf A). IsLeaf of old l m) (sym (leaf_is old l (leaf_at read start l) there)) there

    pub leaf_same : (l : Leaf) → IsLeaf of start l (leaf_at read start l) → leaf_at read old l ≡ leaf_at read start l
    leaf_same l h = leaf_is old l (leaf_at read start l) (leaf_stays of start old grows l (leaf_at read start l) h)

    module _ (ls : List Leaf) (are : AreLeaves of start ls (map (leaf_at read start) ls)) where
      pub leaves_here : AreLeaves of old ls (map (leaf_at read old) ls)
      leaves_here =
          leaves_read old ls (map (leaf_at read start) ls) (leaves_stay of start old grows ls
          (map (leaf_at read start) ls) are)

      pub leaves_same : map (leaf_at read old) ls ≡ map (leaf_at read start) ls
      leaves_same =
          leaves_are old ls (map (leaf_at read start) ls) (leaves_stay of start old grows ls
          (map (leaf_at read start) ls) are)

      module _ (i : ℕ) (d : Leaf) (lt : i < length ls) where
        -- the leaf of a turn
        pub turn_leaf : IsLeaf of old (get_or ls i d) (leaf_at read old (get_or ls i d))
        turn_leaf = leaf_read (get_or ls i d) (leaf_there of start (leaf_at read start) ls i d are lt)

        pub turn_same : leaf_at read old (get_or ls i d) ≡ leaf_at read start (get_or ls i d)
        turn_same = leaf_same (get_or ls i d) (leaf_there of start (leaf_at read start) ls i d are lt)

        module _ {B : Type 0} (to : B → Tree) (new : List Tree) (more : Grows old new) (all : List Leaf) where
          -- a turn that pushes what is made of the leaf
          pub turned : (f g : LeafOf A → LeafOf B) (l : Leaf) (whole : List Leaf) → g ≡ f → whole ≡ all ++ l ∷ []
              → AreLeaves to old all (map f (map (leaf_at read start) (take i ls)))
              → IsLeaf to new l (g (leaf_at read old (get_or ls i d)))
              → AreLeaves to new whole (map f (map (leaf_at read start) (take (i + 1) ls)))
          turned f g l whole same is done made =
              let r : Leaf → LeafOf A = leaf_at read start in
              let x = get_or ls i d in
              let value : g (leaf_at read old x) ≡ f (r x) = λ j. same j (turn_same j) in
              let last = subst (λ (m : LeafOf B). IsLeaf to new l m) value made in
              let kept = leaves_stay to old new more all (map f (map r (take i ls))) done in
              let list : map f (map r (take (i + 1) ls)) ≡ map f (map r (take i ls)) ++ f (r x) ∷ [] =
              ap (λ (ks : List Leaf). map f (map r ks)) (take_more ls i d lt) ∙ ap (map f) (map_push r (take i ls) x)
              ∙ map_push f (map r (take i ls)) (r x) in
              subst (λ (ks : List Leaf). AreLeaves to new ks (map f (map r (take (i + 1) ls)))) (sym is)
              (subst (λ (ms : List (LeafOf B)). AreLeaves to new (all ++ l ∷ []) ms) (sym list)
              (leaves_append to new all (l ∷ []) (map f (map r (take i ls))) (f (r x) ∷ []) kept (last, tt)))

          -- a turn that appends what is made of it
          pub appended : (F G : LeafOf A → List (LeafOf B)) (ks whole : List Leaf) → G ≡ F → whole ≡ all ++ ks
              → AreLeaves to old all (flat_map F (map (leaf_at read start) (take i ls)))
              → AreLeaves to new ks (G (leaf_at read old (get_or ls i d)))
              → AreLeaves to new whole (flat_map F (map (leaf_at read start) (take (i + 1) ls)))
          appended F G ks whole same is done made =
              let r : Leaf → LeafOf A = leaf_at read start in
              let x = get_or ls i d in
              let value : G (leaf_at read old x) ≡ F (r x) = λ j. same j (turn_same j) in
              let last = subst (λ (ms : List (LeafOf B)). AreLeaves to new ks ms) value made in
              let kept = leaves_stay to old new more all (flat_map F (map r (take i ls))) done in
              let list : flat_map F (map r (take (i + 1) ls)) ≡ flat_map F (map r (take i ls)) ++ F (r x) =
              ap (λ (ks : List Leaf). flat_map F (map r ks)) (take_more ls i d lt) ∙ ap (flat_map F)
              (map_push r (take i ls) x)
              ∙ sym (flat_map_more F [] (map r (take i ls)) (r x)) in
              subst (λ (ns : List Leaf). AreLeaves to new ns (flat_map F (map r (take (i + 1) ls)))) (sym is)
              (subst (λ (ms : List (LeafOf B)). AreLeaves to new (all ++ ks) ms) (sym list)
              (leaves_append to new all ks (flat_map F (map r (take i ls))) (F (r x)) kept last))

-- a turn of the loop that makes one formula of the leaves
pub literals_step : (start old taken new : List Tree) (ls : List Leaf) (i k row part next : ℕ) (d : Leaf) → Grows start
    old
    → Grows old taken → AreAtomLeaves start ls → k < length ls → i ≡ k + 1
    → IsAt old row (some_forms (forms_of (map leaf_form (map (atom_leaf start) (drop i ls)))))
    → IsAt taken part (a_form (leaf_form (atom_leaf old (get_or ls k d))))
    → IsAt new next (some_forms (form_then (form_at taken part) (forms_at taken row)))
    → IsAt new next (some_forms (forms_of (map leaf_form (map (atom_leaf start) (drop k ls)))))
literals_step start old taken new ls i k row part next d before grows are lt count there here made =
    let rest = forms_of (map leaf_form (map (atom_leaf start) (drop i ls))) in
    let x = get_or ls k d in
    let same : atom_leaf old x ≡ atom_leaf start x =
    turn_same a_form as_formula (λ p. refl) start old before ls are k d lt in
    let first : form_at taken part ≡ leaf_form (atom_leaf start x) = ap as_formula here.1 ∙ ap leaf_form same in
    let behind : forms_at taken row ≡ rest = ap as_formulas (stays_at old taken grows row (some_forms rest) there).1 in
    let left : form_then (leaf_form (atom_leaf start x)) rest
    ≡ forms_of (map leaf_form (map (atom_leaf start) (drop k ls))) =
    ap (λ (m : ℕ). form_then (leaf_form (atom_leaf start x)) (forms_of
    (map leaf_form (map (atom_leaf start) (drop m ls))))) count
    ∙ sym (ap (λ (ks : List Leaf). forms_of (map leaf_form (map (atom_leaf start) ks))) (drop_more ls k d lt)) in
    (made.0, made.1 ∙ (λ j. some_forms (form_then (first j) (behind j))) ∙ ap some_forms left)
