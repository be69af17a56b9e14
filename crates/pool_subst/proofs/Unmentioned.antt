-- A tree in which the replaced symbol does not occur stays as it is.
use Rattle.std.proofs.Common.{◌≡◌, ℕ, suc, ◌<◌, ◌==◌, ◌||◌, Bool, true, false, List, not}
use Rattle.std.proofs.Common.{length, get_or, take, refl, sym, ap, ◌∙◌, arith}
use Rattle.std.proofs.lemmas.Bool.{or_parts, eqb-false, ne_eqb, not-true}
use Rattle.std.proofs.lemmas.List.{get_or-take, get_or-map, length-map}
use Rattle.fol_formula.specs.Syntax.{FormTree, FormTrees, TermTree, TermTrees, top, bottom, rel, equal, negation}
use Rattle.fol_formula.specs.Syntax.{conjunction, disjunction, implication, equivalence, for_all, for_some, no_forms}
use Rattle.fol_formula.specs.Syntax.{form_then, bound, app, ite, no_terms, term_then}
use Rattle.fol_occurs.specs.Occurs.{Named, is_relation, is_function, form_mentions, forms_mention, term_mentions}
use Rattle.fol_occurs.specs.Occurs.{terms_mention}
use Rattle.fol_subst.specs.Rules.{Rules, form_by, forms_by, term_by, terms_by}
use Rattle.fol_subst.specs.Replace.{changing}
use Rattle.fol_pool.specs.Trees.{Tree, a_form, some_forms, a_term, some_terms, tree_at}
use Rattle.pool_subst.specs.Replacements.{change_in}
use Rattle.pool_subst.specs.Mentions.{replaced, tree_mentions, TellsOf}
use Rattle.pool_subst.specs.Walks.{tree_by}
use Rattle.pool_subst.specs.declared.replacement.Replacement.{Replacement}
use Rattle.pool_subst.specs.declared.replacement.Replacement.TheVariants.{Rel, Fun, Const}

-- the rules leave alone what is not this symbol
record Leave (x : Named) (r : Rules) : Type 0 where
  index : (d i : ℕ) → r.index d i ≡ bound i
  relation : (q : ℕ) (args : TermTrees) → is_relation x q ≡ false → r.relation q args ≡ rel q args
  function : (d f : ℕ) (args : TermTrees) → is_function x f ≡ false → r.function d f args ≡ app f args

module _ (x : Named) (r : Rules) (leave : Leave x r) where
  mutual
    form : (p : FormTree) (d : ℕ) → form_mentions x p ≡ false → form_by r d p ≡ p
    form top d h = refl
    form bottom d h = refl
    form (rel q args) d h =
        let in_parts = or_parts (is_relation x q) (terms_mention x args) h in
        ap (r.relation q) (terms args d in_parts.1) ∙ leave.relation q args in_parts.0
    form (equal a b) d h =
        let in_parts = or_parts (term_mentions x a) (term_mentions x b) h in
        λ i. equal (term a d in_parts.0 i) (term b d in_parts.1 i)
    form (negation p) d h = ap negation (form p d h)
    form (conjunction ps) d h = ap conjunction (forms ps d h)
    form (disjunction ps) d h = ap disjunction (forms ps d h)
    form (implication p q) d h =
        let in_parts = or_parts (form_mentions x p) (form_mentions x q) h in
        λ i. implication (form p d in_parts.0 i) (form q d in_parts.1 i)
    form (equivalence p q) d h =
        let in_parts = or_parts (form_mentions x p) (form_mentions x q) h in
        λ i. equivalence (form p d in_parts.0 i) (form q d in_parts.1 i)
    form (for_all k p) d h = ap (for_all k) (form p (suc d) h)
    form (for_some k p) d h = ap (for_some k) (form p (suc d) h)

    forms : (ps : FormTrees) (d : ℕ) → forms_mention x ps ≡ false → forms_by r d ps ≡ ps
    forms no_forms d h = refl
    forms (form_then p ps) d h =
        let in_parts = or_parts (form_mentions x p) (forms_mention x ps) h in
        λ i. form_then (form p d in_parts.0 i) (forms ps d in_parts.1 i)

    term : (t : TermTree) (d : ℕ) → term_mentions x t ≡ false → term_by r d t ≡ t
    term (bound n) d h = leave.index d n
    term (app f args) d h =
        let in_parts = or_parts (is_function x f) (terms_mention x args) h in
        ap (r.function d f) (terms args d in_parts.1) ∙ leave.function d f args in_parts.0
    term (ite p a b) d h =
        let in_parts = or_parts (form_mentions x p) (term_mentions x a || term_mentions x b) h in
        let none = or_parts (term_mentions x a) (term_mentions x b) in_parts.1 in
        λ i. ite (form p d in_parts.0 i) (term a d none.0 i) (term b d none.1 i)

    terms : (ts : TermTrees) (d : ℕ) → terms_mention x ts ≡ false → terms_by r d ts ≡ ts
    terms no_terms d h = refl
    terms (term_then t ts) d h =
        let in_parts = or_parts (term_mentions x t) (terms_mention x ts) h in
        λ i. term_then (term t d in_parts.0 i) (terms ts d in_parts.1 i)

  tree : (t : Tree) (d : ℕ) → tree_mentions x t ≡ false → tree_by r d t ≡ t
  tree (a_form p) d h = ap a_form (form p d h)
  tree (some_forms ps) d h = ap some_forms (forms ps d h)
  tree (a_term t) d h = ap a_term (term t d h)
  tree (some_terms ts) d h = ap some_terms (terms ts d h)

-- each replacement leaves alone what is not its symbol
other : (a b : ℕ) → (a == b) ≡ false → (b == a) ≡ false
other a b h = ne_eqb b a (λ e. eqb-false a b h (sym e))

leaves : (ts : List Tree) (c : Replacement) → Leave (replaced c) (changing (change_in ts c))
leaves ts (Rel r by) = record {
  index = λ d i. refl;
  relation = λ q args differ. rw (other r.0 q differ) refl;
  function = λ d f args differ. refl;
}
leaves ts (Fun g by) = record {
  index = λ d i. refl;
  relation = λ q args differ. refl;
  function = λ d f args differ. rw (other g.0 f differ) refl;
}
leaves ts (Const g index) = record {
  index = λ d i. refl;
  relation = λ q args differ. refl;
  function = λ d f args differ. rw (other g.0 f differ) refl;
}

-- ---- the table

module _ (x : Named) (ts : List Tree) (table : List Bool) (tells : TellsOf x ts table) where
  -- what it says of a node
  told : (n : ℕ) (d : Bool) → n < length table → get_or table n d ≡ tree_mentions x (tree_at ts n)
  told n d lt =
      let f = tree_mentions x in
      let count = length table in
      let long = ap length tells ∙ length-map (take count ts) f in
      ap (λ (l : List Bool). get_or l n d) tells
      ∙ get_or-map f (take count ts) n (a_form top) d (omega (arith, lt, long))
      ∙ ap f (get_or-take count ts n (a_form top) lt)

-- where it says no, the node stays as it is
pub left_alone : (c : Replacement) (ts : List Tree) (table : List Bool) (n : ℕ) (e : Bool)
    → TellsOf (replaced c) ts table → n < length table → not (get_or table n e) ≡ true → (d : ℕ)
    → tree_by (changing (change_in ts c)) d (tree_at ts n) ≡ tree_at ts n
left_alone c ts table n e tells lt silent d =
    tree (replaced c) (changing (change_in ts c)) (leaves ts c) (tree_at ts n) d
    (sym (told (replaced c) ts table tells n e lt) ∙ not-true (get_or table n e) silent)
