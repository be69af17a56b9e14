-- Trees and shapes as a pool grows: what stands at a node stays there, and no two shapes have one tree.
use Rattle.std.proofs.Common.{◌≡◌, ℕ, ◌<◌, List, ◌++◌, length, refl, sym, ap, subst, ◌∙◌}
use Rattle.fol_formula.specs.Syntax.{top, bottom, rel, equal, negation}
use Rattle.fol_formula.specs.Syntax.{conjunction, disjunction, implication, equivalence, for_all, for_some, no_forms}
use Rattle.fol_formula.specs.Syntax.{form_then, bound, app, ite, no_terms, term_then}
use Rattle.fol_pool.specs.Trees.{Tree, a_form, some_forms, a_term, some_terms, tree_at, IsAt, Grows, EachOnce}
use Rattle.fol_pool.specs.Trees.{as_formula, as_formulas, as_term, as_terms, form_at, forms_at, term_at, terms_at}
use Rattle.fol_pool.specs.Trees.{HasForm, HasForms, HasTerm, HasTerms}
use Rattle.fol_pool.specs.Growing.{has_form as form_grows, has_forms as forms_grow, has_term as term_grows}
use Rattle.fol_pool.specs.Growing.{has_terms as terms_grow, tree_stays as node_stays}
use Rattle.fol_pool.specs.Shapes.{tree_of, IsOver, PartsAreBelow}
use Rattle.fol_pool.specs.declared.shape.Node.{Node}
use Rattle.fol_pool.specs.declared.shape.Shape.{Shape}
use Rattle.fol_pool.specs.declared.shape.Shape.TheVariants as shape

module _ (ts more : List Tree) where
  grows : Grows ts (ts ++ more)
  grows = (more, refl)

  stays : (n : ℕ) → n < length ts → tree_at (ts ++ more) n ≡ tree_at ts n
  stays = node_stays ts (ts ++ more) grows

  has_form : (n : ℕ) → HasForm ts n → HasForm (ts ++ more) n
  has_form = form_grows ts (ts ++ more) grows

  has_forms : (n : ℕ) → HasForms ts n → HasForms (ts ++ more) n
  has_forms = forms_grow ts (ts ++ more) grows

  has_term : (n : ℕ) → HasTerm ts n → HasTerm (ts ++ more) n
  has_term = term_grows ts (ts ++ more) grows

  has_terms : (n : ℕ) → HasTerms ts n → HasTerms (ts ++ more) n
  has_terms = terms_grow ts (ts ++ more) grows

  -- a shape over some nodes is over more
  pub over_grows : (s : Shape) → IsOver ts s → IsOver (ts ++ more) s
  over_grows shape.True h = tt
  over_grows shape.False h = tt
  over_grows (shape.Rel a b) h = has_terms b.0 h
  over_grows (shape.Eq a b) h = (has_term a.0 h.0, has_term b.0 h.1)
  over_grows (shape.Not a) h = has_form a.0 h
  over_grows (shape.And a) h = has_forms a.0 h
  over_grows (shape.Or a) h = has_forms a.0 h
  over_grows (shape.Implies a b) h = (has_form a.0 h.0, has_form b.0 h.1)
  over_grows (shape.Iff a b) h = (has_form a.0 h.0, has_form b.0 h.1)
  over_grows (shape.Forall a b) h = has_form b.0 h
  over_grows (shape.Exists a b) h = has_form b.0 h
  over_grows shape.NoForms h = tt
  over_grows (shape.FormThen a b) h = (has_form a.0 h.0, has_forms b.0 h.1)
  over_grows (shape.Bound a) h = tt
  over_grows (shape.App a b) h = has_terms b.0 h
  over_grows (shape.Ite a b c) h = (has_form a.0 h.0, has_term b.0 h.1, has_term c.0 h.2)
  over_grows shape.NoTerms h = tt
  over_grows (shape.TermThen a b) h = (has_term a.0 h.0, has_terms b.0 h.1)

  -- and stands for the same tree
  pub tree_stays : (s : Shape) → IsOver ts s → tree_of (ts ++ more) s ≡ tree_of ts s
  tree_stays shape.True h = refl
  tree_stays shape.False h = refl
  tree_stays (shape.Rel a b) h = λ i. a_form (rel a.0 (as_terms (stays b.0 h.0 i)))
  tree_stays (shape.Eq a b) h = λ i. a_form (equal (as_term (stays a.0 h.0.0 i)) (as_term (stays b.0 h.1.0 i)))
  tree_stays (shape.Not a) h = λ i. a_form (negation (as_formula (stays a.0 h.0 i)))
  tree_stays (shape.And a) h = λ i. a_form (conjunction (as_formulas (stays a.0 h.0 i)))
  tree_stays (shape.Or a) h = λ i. a_form (disjunction (as_formulas (stays a.0 h.0 i)))
  tree_stays (shape.Implies a b) h =
      λ i. a_form (implication (as_formula (stays a.0 h.0.0 i)) (as_formula (stays b.0 h.1.0 i)))
  tree_stays (shape.Iff a b) h =
      λ i. a_form (equivalence (as_formula (stays a.0 h.0.0 i)) (as_formula (stays b.0 h.1.0 i)))
  tree_stays (shape.Forall a b) h = λ i. a_form (for_all a.0 (as_formula (stays b.0 h.0 i)))
  tree_stays (shape.Exists a b) h = λ i. a_form (for_some a.0 (as_formula (stays b.0 h.0 i)))
  tree_stays shape.NoForms h = refl
  tree_stays (shape.FormThen a b) h =
      λ i. some_forms (form_then (as_formula (stays a.0 h.0.0 i)) (as_formulas (stays b.0 h.1.0 i)))
  tree_stays (shape.Bound a) h = refl
  tree_stays (shape.App a b) h = λ i. a_term (app a.0 (as_terms (stays b.0 h.0 i)))
  tree_stays (shape.Ite a b c) h =
      λ i. a_term (ite (as_formula (stays a.0 h.0.0 i)) (as_term (stays b.0 h.1.0 i)) (as_term (stays c.0 h.2.0 i)))
  tree_stays shape.NoTerms h = refl
  tree_stays (shape.TermThen a b) h =
      λ i. some_terms (term_then (as_term (stays a.0 h.0.0 i)) (as_terms (stays b.0 h.1.0 i)))

-- the parts are nodes
pub parts_below : (ts : List Tree) (s : Shape) → IsOver ts s → PartsAreBelow (length ts) s
parts_below ts shape.True h = tt
parts_below ts shape.False h = tt
parts_below ts (shape.Rel a b) h = h.0
parts_below ts (shape.Eq a b) h = (h.0.0, h.1.0)
parts_below ts (shape.Not a) h = h.0
parts_below ts (shape.And a) h = h.0
parts_below ts (shape.Or a) h = h.0
parts_below ts (shape.Implies a b) h = (h.0.0, h.1.0)
parts_below ts (shape.Iff a b) h = (h.0.0, h.1.0)
parts_below ts (shape.Forall a b) h = h.0
parts_below ts (shape.Exists a b) h = h.0
parts_below ts shape.NoForms h = tt
parts_below ts (shape.FormThen a b) h = (h.0.0, h.1.0)
parts_below ts (shape.Bound a) h = tt
parts_below ts (shape.App a b) h = h.0
parts_below ts (shape.Ite a b c) h = (h.0.0, h.1.0, h.2.0)
parts_below ts shape.NoTerms h = tt
parts_below ts (shape.TermThen a b) h = (h.0.0, h.1.0)

-- how a shape stands for a tree, by the tree
abbrev Stands : List Tree → Tree → Shape → Type 0
Stands ts (a_form top) s = s ≡ shape.True
Stands ts (a_form bottom) s = s ≡ shape.False
Stands ts (a_form (rel a b)) s = (y : Node) × (s ≡ shape.Rel (record { 0 = a }) y) × IsAt ts y.0 (some_terms b)
Stands ts (a_form (equal a b)) s =
    (x : Node) × (y : Node) × (s ≡ shape.Eq x y) × IsAt ts x.0 (a_term a) × IsAt ts y.0 (a_term b)
Stands ts (a_form (negation a)) s = (x : Node) × (s ≡ shape.Not x) × IsAt ts x.0 (a_form a)
Stands ts (a_form (conjunction a)) s = (x : Node) × (s ≡ shape.And x) × IsAt ts x.0 (some_forms a)
Stands ts (a_form (disjunction a)) s = (x : Node) × (s ≡ shape.Or x) × IsAt ts x.0 (some_forms a)
Stands ts (a_form (implication a b)) s =
    (x : Node) × (y : Node) × (s ≡ shape.Implies x y) × IsAt ts x.0 (a_form a) × IsAt ts y.0 (a_form b)
Stands ts (a_form (equivalence a b)) s =
    (x : Node) × (y : Node) × (s ≡ shape.Iff x y) × IsAt ts x.0 (a_form a) × IsAt ts y.0 (a_form b)
Stands ts (a_form (for_all a b)) s = (y : Node) × (s ≡ shape.Forall (record { 0 = a }) y) × IsAt ts y.0 (a_form b)
Stands ts (a_form (for_some a b)) s = (y : Node) × (s ≡ shape.Exists (record { 0 = a }) y) × IsAt ts y.0 (a_form b)
Stands ts (some_forms no_forms) s = s ≡ shape.NoForms
Stands ts (some_forms (form_then a b)) s =
    (x : Node) × (y : Node) × (s ≡ shape.FormThen x y) × IsAt ts x.0 (a_form a) × IsAt ts y.0 (some_forms b)
Stands ts (a_term (bound a)) s = s ≡ shape.Bound a
Stands ts (a_term (app a b)) s = (y : Node) × (s ≡ shape.App (record { 0 = a }) y) × IsAt ts y.0 (some_terms b)
Stands ts (a_term (ite a b c)) s =
    (x : Node) × (y : Node) × (z : Node) × (s ≡ shape.Ite x y z) × IsAt ts x.0 (a_form a) × IsAt ts y.0 (a_term b)
    × IsAt ts z.0 (a_term c)
Stands ts (some_terms no_terms) s = s ≡ shape.NoTerms
Stands ts (some_terms (term_then a b)) s =
    (x : Node) × (y : Node) × (s ≡ shape.TermThen x y) × IsAt ts x.0 (a_term a) × IsAt ts y.0 (some_terms b)

-- a shape stands for its tree
stands : (ts : List Tree) (s : Shape) → IsOver ts s → Stands ts (tree_of ts s) s
stands ts shape.True h = refl
stands ts shape.False h = refl
stands ts (shape.Rel a b) h = (b, refl, h)
stands ts (shape.Eq a b) h = (a, b, refl, h.0, h.1)
stands ts (shape.Not a) h = (a, refl, h)
stands ts (shape.And a) h = (a, refl, h)
stands ts (shape.Or a) h = (a, refl, h)
stands ts (shape.Implies a b) h = (a, b, refl, h.0, h.1)
stands ts (shape.Iff a b) h = (a, b, refl, h.0, h.1)
stands ts (shape.Forall a b) h = (b, refl, h)
stands ts (shape.Exists a b) h = (b, refl, h)
stands ts shape.NoForms h = refl
stands ts (shape.FormThen a b) h = (a, b, refl, h.0, h.1)
stands ts (shape.Bound a) h = refl
stands ts (shape.App a b) h = (b, refl, h)
stands ts (shape.Ite a b c) h = (a, b, c, refl, h.0, h.1, h.2)
stands ts shape.NoTerms h = refl
stands ts (shape.TermThen a b) h = (a, b, refl, h.0, h.1)

module _ (ts : List Tree) (once : EachOnce ts) where
  -- the node at which a tree stands
  one_node : (a b : Node) (t : Tree) → IsAt ts a.0 t → IsAt ts b.0 t → a ≡ b
  one_node a b t p q =
      ap (λ (n : ℕ). let node : Node = record { 0 = n } in node) (once a.0 b.0 p.0 q.0 (p.1 ∙ sym q.1))

  -- the shape that stands for the tree of a shape
  one_shape : (s k : Shape) → IsOver ts s → Stands ts (tree_of ts s) k → k ≡ s
  one_shape shape.True k over h = h
  one_shape shape.False k over h = h
  one_shape (shape.Rel a b) k over h =
      h.1 ∙ (λ i. shape.Rel a (one_node h.0 b (some_terms (terms_at ts b.0)) h.2 over i))
  one_shape (shape.Eq a b) k over h =
      h.2 ∙ (λ i. shape.Eq (one_node h.0 a (a_term (term_at ts a.0)) h.3 over.0 i)
      (one_node h.1 b (a_term (term_at ts b.0)) h.4 over.1 i))
  one_shape (shape.Not a) k over h =
      h.1 ∙ (λ i. shape.Not (one_node h.0 a (a_form (form_at ts a.0)) h.2 over i))
  one_shape (shape.And a) k over h =
      h.1 ∙ (λ i. shape.And (one_node h.0 a (some_forms (forms_at ts a.0)) h.2 over i))
  one_shape (shape.Or a) k over h =
      h.1 ∙ (λ i. shape.Or (one_node h.0 a (some_forms (forms_at ts a.0)) h.2 over i))
  one_shape (shape.Implies a b) k over h =
      h.2 ∙ (λ i. shape.Implies (one_node h.0 a (a_form (form_at ts a.0)) h.3 over.0 i)
      (one_node h.1 b (a_form (form_at ts b.0)) h.4 over.1 i))
  one_shape (shape.Iff a b) k over h =
      h.2 ∙ (λ i. shape.Iff (one_node h.0 a (a_form (form_at ts a.0)) h.3 over.0 i)
      (one_node h.1 b (a_form (form_at ts b.0)) h.4 over.1 i))
  one_shape (shape.Forall a b) k over h =
      h.1 ∙ (λ i. shape.Forall a (one_node h.0 b (a_form (form_at ts b.0)) h.2 over i))
  one_shape (shape.Exists a b) k over h =
      h.1 ∙ (λ i. shape.Exists a (one_node h.0 b (a_form (form_at ts b.0)) h.2 over i))
  one_shape shape.NoForms k over h = h
  one_shape (shape.FormThen a b) k over h =
      h.2 ∙ (λ i. shape.FormThen (one_node h.0 a (a_form (form_at ts a.0)) h.3 over.0 i)
      (one_node h.1 b (some_forms (forms_at ts b.0)) h.4 over.1 i))
  one_shape (shape.Bound a) k over h = h
  one_shape (shape.App a b) k over h =
      h.1 ∙ (λ i. shape.App a (one_node h.0 b (some_terms (terms_at ts b.0)) h.2 over i))
  one_shape (shape.Ite a b c) k over h =
      h.3 ∙ (λ i. shape.Ite (one_node h.0 a (a_form (form_at ts a.0)) h.4 over.0 i)
      (one_node h.1 b (a_term (term_at ts b.0)) h.5 over.1 i) (one_node h.2 c (a_term (term_at ts c.0)) h.6 over.2 i))
  one_shape shape.NoTerms k over h = h
  one_shape (shape.TermThen a b) k over h =
      h.2 ∙ (λ i. shape.TermThen (one_node h.0 a (a_term (term_at ts a.0)) h.3 over.0 i)
      (one_node h.1 b (some_terms (terms_at ts b.0)) h.4 over.1 i))

  -- no two shapes have one tree
  pub one_tree : (s k : Shape) → IsOver ts s → IsOver ts k → tree_of ts s ≡ tree_of ts k → k ≡ s
  one_tree s k over other e =
      one_shape s k over (subst (λ (t : Tree). Stands ts t k) (sym e) (stands ts k other))
