-- Laws: nodes keep their trees as the pool grows, so rules that have nodes of their own stay the same.
use Rattle.std.specs.Prelude.{◌≡◌, ℕ, List, [], ◌∷◌}
use Rattle.std.proofs.Common.{refl, ap}
use Rattle.fol_subst.specs.Replace.{putting}
use Rattle.fol_pool.specs.Trees.{Tree, Grows, as_formula, as_term, form_at, term_at, HasForm, HasTerm}
use Rattle.fol_pool.specs.Growing.{has_form, has_term, read_stays}
use Rattle.fol_pool.specs.declared.shape.Node.{Node}
use Rattle.pool_subst.specs.Nodes.{HaveTerms, terms_of}

module _ (old new : List Tree) (grows : Grows old new) where
  -- the formula at a node
  pub form_stays : (n : ℕ) → HasForm old n → HasForm new n × (form_at new n ≡ form_at old n)
  form_stays n h = (has_form old new grows n h, read_stays old new grows as_formula n h.0)

  -- the term at a node
  pub term_stays : (n : ℕ) → HasTerm old n → HasTerm new n × (term_at new n ≡ term_at old n)
  term_stays n h = (has_term old new grows n h, read_stays old new grows as_term n h.0)

  -- the terms at some nodes
  terms_stay : (nodes : List Node) → HaveTerms old nodes
      → HaveTerms new nodes × (terms_of new nodes ≡ terms_of old nodes)
  terms_stay [] h = (tt, refl)
  terms_stay (n ∷ rest) h =
      let first = term_stays n.0 h.0 in
      let behind = terms_stay rest h.1 in
      ((first.0, behind.0), (λ i. first.1 i ∷ behind.1 i))

-- arguments that are put in stay the same
pub putting_stays : (nodes : List Node) (old new : List Tree) → HaveTerms old nodes → Grows old new
    → HaveTerms new nodes × (putting (terms_of new nodes) ≡ putting (terms_of old nodes))
putting_stays nodes old new has grows =
    let s = terms_stay old new grows nodes has in
    (s.0, ap putting s.1)
