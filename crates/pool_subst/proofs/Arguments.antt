-- The nodes of arguments, and the terms there.
use Rattle.std.proofs.Common.{◌≡◌, ℕ, zero, suc, ◌-◌, ◌<◌, ◌≤◌, List, [], ◌∷◌, ◌++◌, length, get_or, map, refl, sym}
use Rattle.std.proofs.Common.{ap, subst, ◌∙◌, arith, append_assoc}
use Rattle.std.specs.Prelude.{reverse}
use Rattle.std.proofs.lemmas.Bool.{le-ltb}
use Rattle.base.proofs.Lists.{all_push}
use Rattle.std.proofs.lemmas.List.{get_or-map, reverse-append, map-append}
use Rattle.fol_formula.specs.Syntax.{TermTree, bound, list_of, term_then}
use Rattle.fol_subst.specs.Shift.{shift_term}
use Rattle.fol_subst.specs.Replace.{picked}
use Rattle.fol_pool.specs.Trees.{Tree, IsAt, HasTerm, a_term, some_terms, as_terms, term_at, terms_at, tree_at}
use Rattle.fol_pool.specs.declared.shape.Node.{Node}
use Rattle.pool_subst.specs.Nodes.{HaveTerms, terms_of}

module _ (ts : List Tree) where
  pub have_at : (nodes : List Node) (i : ℕ) (d : Node) → i < length nodes → HaveTerms ts nodes
      → HasTerm ts (get_or nodes i d).0
  have_at [] i d lt h = absurd (omega (arith, lt))
  have_at (n ∷ rest) zero d lt h = h.0
  have_at (n ∷ rest) (suc i) d lt h = have_at rest i d (omega (arith, lt)) h.1

  pub have_reverse : (nodes : List Node) → HaveTerms ts nodes → HaveTerms ts (reverse nodes)
  have_reverse [] h = tt
  have_reverse (n ∷ rest) h =
      subst (HaveTerms ts) (sym (reverse-append (n ∷ []) rest))
      (all_push (λ m. HasTerm ts m.0) (reverse rest) n (have_reverse rest h.1) h.0)

  pub terms_reverse : (nodes : List Node) → terms_of ts (reverse nodes) ≡ reverse (terms_of ts nodes)
  terms_reverse [] = refl
  terms_reverse (n ∷ rest) =
      let f : Node → TermTree = λ m. term_at ts m.0 in
      ap (map f) (reverse-append (n ∷ []) rest) ∙ map-append f (reverse rest) (n ∷ [])
      ∙ ap (λ l. l ++ f n ∷ []) (terms_reverse rest) ∙ sym (reverse-append (f n ∷ []) (map f rest))

  -- one more node of a row
  pub terms_push : (nodes : List Node) (first after rest : Node) (whole : List TermTree)
      → some_terms (term_then (term_at ts first.0) (terms_at ts after.0)) ≡ tree_at ts rest.0
      → terms_of ts nodes ++ list_of (terms_at ts rest.0) ≡ whole
      → terms_of ts (nodes ++ first ∷ []) ++ list_of (terms_at ts after.0) ≡ whole
  terms_push nodes first after rest whole is h =
      let f : Node → TermTree = λ m. term_at ts m.0 in
      let behind = list_of (terms_at ts after.0) in
      ap (λ l. l ++ behind) (map-append f nodes (first ∷ [])) ∙ append_assoc (map f nodes) (f first ∷ []) behind
      ∙ ap (λ t. map f nodes ++ list_of (as_terms t)) is ∙ h

-- an argument that was raised over the binders above an index
pub argument_is : (old new : List Tree) (nodes : List Node) (depth i made : ℕ) (d : Node) → depth ≤ i
    → i - depth < length nodes
    → IsAt new made (a_term (shift_term 0 depth (term_at old (get_or nodes (i - depth) d).0)))
    → IsAt new made (a_term (picked depth (terms_of old nodes) i))
argument_is old new nodes depth i made d le lt h =
    let f : Node → TermTree = λ m. term_at old m.0 in
    let other = bound (i - depth - length (map f nodes)) in
    let above : picked depth (map f nodes) i ≡ shift_term 0 depth (get_or (map f nodes) (i - depth) other) =
    rw (le-ltb i depth le) refl in (
      h.0,
      h.1 ∙ ap (λ t. a_term (shift_term 0 depth t)) (sym (get_or-map f nodes (i - depth) d other lt))
          ∙ ap a_term (sym above),
    )
