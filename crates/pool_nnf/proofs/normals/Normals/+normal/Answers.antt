use Rattle.std.proofs.Common.{List, map, refl, sym, ap, subst, ◌∙◌, arith}
use Rattle.fol_formula.specs.Syntax.{TermTree, TermTrees, bound, no_terms, app}
use Rattle.fol_nnf.specs.Normal.{Leaf as LeafOf, normal, normals, made, one_of, relation_literal, leaves}
use Rattle.fol_nnf.specs.Normal.{leaves_of_terms}
use Rattle.fol_pool.specs.Trees.{Tree, a_form, as_formula, a_term, as_term, some_terms, as_terms, some_forms}
use Rattle.fol_pool.specs.Trees.{tree_at, forms_at}
use Rattle.pool_nnf.specs.Leaves.{AreLeaves}
use Rattle.fol_pool.specs.Growing.{grows_on}
use Rattle.fol_pool.specs.Rows.{row_behind, lent_forms}
use Rattle.pool_nnf.proofs.Joining.{lent_read, lent_are, leaves_stay, bare_leaves}
use Rattle.pool_nnf.proofs.Walking.{choice_leaves, row_leaves, equation_leaves, more_parts, whole_row}
use Rattle.pool_nnf.proofs.Walking.{equivalence_made, if_ok}
use Rattle.pool_nnf.proofs.normals.Normals.+normal.Goals as goal

pub lifted_leaves-applications-requires : goal.lifted_leaves-applications-requires
lifted_leaves-applications-requires t c =
    lent_read some_terms as_terms (λ ts. refl) c.leaves_of_row.new.self c.deref.result.now
    c.in_ok-leaves-in-App.leaves.items _ c.deref.ensures.value c.in_ok-leaves-in-App.ensures.leaves

pub lifted_leaves-choice-requires-clause-first : goal.lifted_leaves-choice-requires-clause-first
lifted_leaves-choice-requires-clause-first t c =
    let old = c.leaves_of.new.self in
    let new = c.leaves_of-in-Ite.new.self in
    let items = c.in_ok-first-in-Ite.first.items in
    let grows =
    grows_on old c.normal_node-in-Ite.new.self new c.normal_node-in-Ite.ensures.grows c.leaves_of-in-Ite.ensures.grows
    in
    lent_read a_term as_term (λ t. refl) new c.deref-in-Ite.result.now items _ c.deref-in-Ite.ensures.value
    (leaves_stay a_term old new grows items _ c.in_ok-first-in-Ite.ensures.leaves)

pub lifted_leaves-choice-requires-clause-second : goal.lifted_leaves-choice-requires-clause-second
lifted_leaves-choice-requires-clause-second t c =
    lent_read a_term as_term (λ t. refl) c.leaves_of-in-Ite.new.self c.deref-in-Ite-2.result.now
    c.in_ok-second-in-Ite.second.items _ c.deref-in-Ite-2.ensures.value c.in_ok-second-in-Ite.ensures.leaves

pub lifted_leaves-returns-in-Bound-clause-leaves :
    goal.lifted_leaves-returns-in-Bound-clause-leaves
lifted_leaves-returns-in-Bound-clause-leaves t c =
    let new = c.bare.new.self in
    if_ok c.bare.result _ _ (λ ls are.
    subst (λ (u : Tree). AreLeaves a_term new ls.items (leaves (as_term u))) c.in-Bound.ensures.tree
    (bare_leaves a_term new ls.items (tree_at c.args.self.now c.args.at.0) (bound c.in-Bound.field-0)
    (sym c.in-Bound.ensures.tree) are)) c.bare.ensures.leaves

pub lifted_leaves-returns-in_ok-leaves-in-App-clause-leaves :
    goal.lifted_leaves-returns-in_ok-leaves-in-App-clause-leaves
lifted_leaves-returns-in_ok-leaves-in-App-clause-leaves t c =
    let new = c.applications.new.self in
    let same =
    lent_are some_terms as_terms (λ ts. refl) c.leaves_of_row.new.self c.deref.result.now
    c.in_ok-leaves-in-App.leaves.items _ c.deref.ensures.value c.in_ok-leaves-in-App.ensures.leaves in
    if_ok c.applications.result _ _ (λ ls are.
    subst (λ (u : Tree). AreLeaves a_term new ls.items (leaves (as_term u))) c.in-App.ensures.tree
    (subst (λ (ms : List (LeafOf TermTrees)). AreLeaves a_term new ls.items (map (made (app c.in-App.f.0)) ms)) same
    are)) c.applications.ensures.leaves

pub lifted_leaves-returns-in_ok-second-in-Ite-clause-leaves :
    goal.lifted_leaves-returns-in_ok-second-in-Ite-clause-leaves
lifted_leaves-returns-in_ok-second-in-Ite-clause-leaves t c =
    let t0 = c.args.self.now in
    let t1 = c.normal_node.new.self in
    let t2 = c.leaves_of.new.self in
    let t3 = c.normal_node-in-Ite.new.self in
    let t4 = c.leaves_of-in-Ite.new.self in
    let g3 = c.normal_node-in-Ite.ensures.grows in
    let g4 = c.leaves_of-in-Ite.ensures.grows in
    let new = c.choice.new.self in
    let w = c.in-Ite in
    let first_items = c.in_ok-first-in-Ite.first.items in
    let first =
    lent_are a_term as_term (λ t. refl) t4 c.deref-in-Ite.result.now first_items _ c.deref-in-Ite.ensures.value
    (leaves_stay a_term t2 t4 (grows_on t2 t3 t4 g3 g4) first_items _ c.in_ok-first-in-Ite.ensures.leaves) in
    let second =
    lent_are a_term as_term (λ t. refl) t4 c.deref-in-Ite-2.result.now c.in_ok-second-in-Ite.second.items _
    c.deref-in-Ite-2.ensures.value c.in_ok-second-in-Ite.ensures.leaves in
    let parts = w.ensures.parts in
    let whole =
    choice_leaves t0 t1 t2 t3 t4 c.normal_node.ensures.grows c.leaves_of.ensures.grows g3 g4 w.p.0 w.a.0 w.b.0
    c.in_ok-yes-in-Ite.yes.0 c.in_ok-no-in-Ite.no.0 parts.0 parts.1 parts.2 _ _ c.in_ok-yes-in-Ite.ensures.node first
    c.in_ok-no-in-Ite.ensures.node second in
    if_ok c.choice.result _ _ (λ ls are.
    subst (λ (u : Tree). AreLeaves a_term new ls.items (leaves (as_term u))) w.ensures.tree
    (subst (λ (ms : List (LeafOf TermTree)). AreLeaves a_term new ls.items ms) whole are)) c.choice.ensures.leaves

pub leaves_of_row-joined_terms-requires-clause-first : goal.leaves_of_row-joined_terms-requires-clause-first
leaves_of_row-joined_terms-requires-clause-first t c =
    let items = c.in_ok-first-in-TermThen.first.items in
    lent_read a_term as_term (λ t. refl) c.leaves_of_row.new.self c.deref.result.now items _ c.deref.ensures.value
    (leaves_stay a_term c.leaves_of.new.self c.leaves_of_row.new.self c.leaves_of_row.ensures.grows items _
    c.in_ok-first-in-TermThen.ensures.leaves)

pub leaves_of_row-joined_terms-requires-clause-rest : goal.leaves_of_row-joined_terms-requires-clause-rest
leaves_of_row-joined_terms-requires-clause-rest t c =
    lent_read some_terms as_terms (λ ts. refl) c.leaves_of_row.new.self c.deref-in-TermThen.result.now
    c.in_ok-behind-in-TermThen.behind.items _ c.deref-in-TermThen.ensures.value
    c.in_ok-behind-in-TermThen.ensures.leaves

pub leaves_of_row-returns-in-NoTerms-clause-leaves :
    goal.leaves_of_row-returns-in-NoTerms-clause-leaves
leaves_of_row-returns-in-NoTerms-clause-leaves t c =
    let new = c.bare.new.self in
    if_ok c.bare.result _ _ (λ ls are.
    subst (λ (u : Tree). AreLeaves some_terms new ls.items (leaves_of_terms (as_terms u))) c.in-NoTerms.ensures.tree
    (bare_leaves some_terms new ls.items (tree_at c.args.self.now c.args.row.0) no_terms
    (sym c.in-NoTerms.ensures.tree) are)) c.bare.ensures.leaves

pub leaves_of_row-returns-in_ok-behind-in-TermThen-clause-leaves :
    goal.leaves_of_row-returns-in_ok-behind-in-TermThen-clause-leaves
leaves_of_row-returns-in_ok-behind-in-TermThen-clause-leaves t c =
    let t0 = c.args.self.now in
    let t1 = c.leaves_of.new.self in
    let t2 = c.leaves_of_row.new.self in
    let new = c.joined_terms.new.self in
    let w = c.in-TermThen in
    let first_items = c.in_ok-first-in-TermThen.first.items in
    let first =
    lent_are a_term as_term (λ t. refl) t2 c.deref.result.now first_items _ c.deref.ensures.value
    (leaves_stay a_term t1 t2 c.leaves_of_row.ensures.grows first_items _ c.in_ok-first-in-TermThen.ensures.leaves) in
    let behind =
    lent_are some_terms as_terms (λ ts. refl) t2 c.deref-in-TermThen.result.now c.in_ok-behind-in-TermThen.behind.items
    _
    c.deref-in-TermThen.ensures.value c.in_ok-behind-in-TermThen.ensures.leaves in
    let parts = w.ensures.parts in
    let whole = row_leaves t0 t1 c.leaves_of.ensures.grows w.t.0 w.rest.0 parts.1 _ _ first behind in
    if_ok c.joined_terms.result _ _ (λ ls are.
    subst (λ (u : Tree). AreLeaves some_terms new ls.items (leaves_of_terms (as_terms u))) w.ensures.tree
    (subst (λ (ms : List (LeafOf TermTrees)). AreLeaves some_terms new ls.items ms) whole are))
    c.joined_terms.ensures.leaves

pub lifted_atom-relation_of-requires : goal.lifted_atom-relation_of-requires
lifted_atom-relation_of-requires t c =
    lent_read some_terms as_terms (λ ts. refl) c.leaves_of_row.new.self c.deref.result.now
    c.in_ok-leaves-in-Rel.leaves.items _ c.deref.ensures.value c.in_ok-leaves-in-Rel.ensures.leaves

pub lifted_atom-equation_of-requires-clause-first : goal.lifted_atom-equation_of-requires-clause-first
lifted_atom-equation_of-requires-clause-first t c =
    let items = c.in_ok-first-in-Eq.first.items in
    lent_read a_term as_term (λ t. refl) c.leaves_of-in-Eq.new.self c.deref-in-Eq.result.now items _
    c.deref-in-Eq.ensures.value
    (leaves_stay a_term c.leaves_of.new.self c.leaves_of-in-Eq.new.self c.leaves_of-in-Eq.ensures.grows items _
    c.in_ok-first-in-Eq.ensures.leaves)

pub lifted_atom-equation_of-requires-clause-second : goal.lifted_atom-equation_of-requires-clause-second
lifted_atom-equation_of-requires-clause-second t c =
    lent_read a_term as_term (λ t. refl) c.leaves_of-in-Eq.new.self c.deref-in-Eq-2.result.now
    c.in_ok-second-in-Eq.second.items _ c.deref-in-Eq-2.ensures.value c.in_ok-second-in-Eq.ensures.leaves

pub lifted_atom-returns-in_ok-leaves-in-Rel-clause-node :
    goal.lifted_atom-returns-in_ok-leaves-in-Rel-clause-node
lifted_atom-returns-in_ok-leaves-in-Rel-clause-node t c =
    let w = c.in-Rel in
    let same =
    lent_are some_terms as_terms (λ ts. refl) c.leaves_of_row.new.self c.deref.result.now
    c.in_ok-leaves-in-Rel.leaves.items _ c.deref.ensures.value c.in_ok-leaves-in-Rel.ensures.leaves in
    let whole =
    ap (λ (ms : List (LeafOf TermTrees)). a_form (one_of (map (made (relation_literal c.args.positive w.r.0)) ms))) same
    ∙ ap (λ (u : Tree). a_form (normal c.args.positive (as_formula u))) w.ensures.tree in
    if_ok c.relation_of.result _ _ (λ node is. (is.0, is.1 ∙ whole)) c.relation_of.ensures.node

pub lifted_atom-returns-in_ok-second-in-Eq-clause-node :
    goal.lifted_atom-returns-in_ok-second-in-Eq-clause-node
lifted_atom-returns-in_ok-second-in-Eq-clause-node t c =
    let t0 = c.args.self.now in
    let t1 = c.leaves_of.new.self in
    let t2 = c.leaves_of-in-Eq.new.self in
    let w = c.in-Eq in
    let first_items = c.in_ok-first-in-Eq.first.items in
    let first =
    lent_are a_term as_term (λ t. refl) t2 c.deref-in-Eq.result.now first_items _ c.deref-in-Eq.ensures.value
    (leaves_stay a_term t1 t2 c.leaves_of-in-Eq.ensures.grows first_items _ c.in_ok-first-in-Eq.ensures.leaves) in
    let second =
    lent_are a_term as_term (λ t. refl) t2 c.deref-in-Eq-2.result.now c.in_ok-second-in-Eq.second.items _
    c.deref-in-Eq-2.ensures.value c.in_ok-second-in-Eq.ensures.leaves in
    let parts = w.ensures.parts in
    let leaves = equation_leaves t0 t1 c.leaves_of.ensures.grows c.args.positive w.a.0 w.b.0 parts.1 _ _ first second in
    let whole = ap a_form leaves ∙ ap (λ (u : Tree). a_form (normal c.args.positive (as_formula u))) w.ensures.tree in
    if_ok c.equation_of.result _ _ (λ node is. (is.0, is.1 ∙ whole)) c.equation_of.ensures.node

pub normal_row-row_of-requires : goal.normal_row-row_of-requires
normal_row-row_of-requires t c =
    let h = c.loop-first.invariant in
    lent_forms c.loop-first.self c.loop-first.parts.items c.deref.result.now h.made.0 h.made.1 c.deref.ensures.value

pub normal_row-returns : goal.normal_row-returns
normal_row-returns t c =
    let h = c.loop-first.invariant in
    let whole =
    whole_row c.args.self.now c.loop-first.self h.grows c.args.positive c.loop-first.parts.items c.loop-first.rest h.row
    (normals c.args.positive (forms_at c.args.self.now c.args.row.0)) h.made.0 h.made.1 h.made.2 c.shape.result
    c.shape.ensures.tree c.in_default.not-FormThen c.deref.result.now c.deref.ensures.value in
    let is = c.in_ok-node.ensures.node in
    record {
      node = (is.0, is.1 ∙ ap some_forms whole);
      grows = grows_on c.args.self.now c.loop-first.self c.row_of.new.self h.grows c.row_of.ensures.grows;
    }

pub normal_row-loop-first-preserved : goal.normal_row-loop-first-preserved
normal_row-loop-first-preserved t c =
    let h = c.loop-first.invariant in
    let start = c.args.self.now in
    let old = c.loop-first.self in
    let new = c.normal_node.new.self in
    let rest = c.loop-first.rest in
    let w = c.in-FormThen in
    let below = w.ensures.below in
    let parts = w.ensures.parts in
    let whole = normals c.args.positive (forms_at start c.args.row.0) in
    let behind = row_behind start old h.grows rest h.row w.first w.after w.ensures.tree below.1 parts.1 in
    let made =
    more_parts start old h.grows c.args.positive c.loop-first.parts.items rest h.row whole h.made.0 h.made.1 h.made.2
    w.first w.after w.ensures.tree below.1 parts.1 new c.in_ok-part.part c.push.new.self.items
    c.normal_node.ensures.grows c.in_ok-part.ensures.node c.in_ok-push.ensures.items in
    record {
      within = omega (arith, below.1, h.within);
      grows = grows_on start old new h.grows c.normal_node.ensures.grows;
      row = behind;
      made = made;
    }

pub made_anew-returns-in_ok-other-in-Iff-clause-node :
    goal.made_anew-returns-in_ok-other-in-Iff-clause-node
made_anew-returns-in_ok-other-in-Iff-clause-node t c =
    let w = c.in-Iff in
    let parts = w.ensures.parts in
    let made =
    equivalence_made c.args.self.now c.normal_node-in-Iff.new.self c.normal_node-in-Iff-2.new.self
    c.normal_node-in-Iff-3.new.self c.normal_node-in-Iff-4.new.self c.normal_node-in-Iff.ensures.grows
    c.normal_node-in-Iff-2.ensures.grows c.normal_node-in-Iff-3.ensures.grows c.normal_node-in-Iff-4.ensures.grows
    c.args.positive w.p.0 w.q.0 parts.0 parts.1 c.in_ok-yes-in-Iff.yes.0 c.in_ok-same-in-Iff.same.0
    c.in_ok-no-in-Iff.no.0 c.in_ok-other-in-Iff.other.0 c.in_ok-yes-in-Iff.ensures.node c.in_ok-same-in-Iff.ensures.node
    c.in_ok-no-in-Iff.ensures.node c.in_ok-other-in-Iff.ensures.node in
    let whole = ap a_form made ∙ ap (λ (u : Tree). a_form (normal c.args.positive (as_formula u))) w.ensures.tree in
    if_ok c.either_two.result _ _ (λ node is. (is.0, is.1 ∙ whole)) c.either_two.ensures.node
