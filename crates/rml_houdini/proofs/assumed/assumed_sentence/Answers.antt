use Rattle.std.proofs.Common.{[], sym, ◌∙◌, subst}
use Rattle.fol_sig.specs.Symbols.{symbols}
use Rattle.fol_formula.specs.View.{form}
use Rattle.fol_formula.specs.Fits.{BoundForm}
use Rattle.fol_formula.specs.Fragments.{IsEa}
use Rattle.rml_wp.specs.Preconditions.{answered}
use Rattle.rml_houdini.specs.Assuming.{assumed_sentence}
use Rattle.rml_houdini.proofs.Assuming.{assembled, assumed_ea, assumed_fits}
use Rattle.rml_houdini.proofs.assumed.assumed_sentence.Goals as goal

pub of-requires : goal.of-requires
of-requires c =
    let m = c.args.checked.now in
    let a = c.args.assumed.now in
    let g = c.args.goal.now in
    let is = assembled m g a _ _ _ _ _ _ _ _ (form c.in_ok-formula.formula) c.model-model.ensures.value
    c.axioms.ensures.value c.conjectures.ensures.value c.deref.ensures.value c.in_ok-parts.ensures
    c.in_ok-push_held.ensures (c.in_ok-broken.ensures ∙ c.formula.ensures.value ∙ c.sentence.ensures.value)
    c.requires.precondition c.in_ok-formula.ensures in
    let checked = c.model-model.ensures.checked in
    let added = (c.sentence_law.ensures.conjectures m [] checked tt tt).some a.held.items in
    subst (BoundForm 0) (sym is)
    (c.indices.ensures.bound (symbols (answered m g)) [] (assumed_sentence m a g)
    (assumed_fits m g a c.sentence_law.ensures.fit c.sentence_law.ensures.alone checked
    c.answered_goal.ensures.signature c.requires.goal added))

pub new-requires : goal.new-requires
new-requires c =
    let m = c.args.checked.now in
    let a = c.args.assumed.now in
    let g = c.args.goal.now in
    let is = assembled m g a _ _ _ _ _ _ _ _ (form c.in_ok-formula.formula) c.model-model.ensures.value
    c.axioms.ensures.value c.conjectures.ensures.value c.deref.ensures.value c.in_ok-parts.ensures
    c.in_ok-push_held.ensures (c.in_ok-broken.ensures ∙ c.formula.ensures.value ∙ c.sentence.ensures.value)
    c.requires.precondition c.in_ok-formula.ensures in
    let checked = c.model-model.ensures.checked in
    let added = (c.sentence_law.ensures.conjectures m [] checked tt tt).some a.held.items in
    subst IsEa (sym (c.of.ensures ∙ is))
    (assumed_ea m g a c.sentence_law.ensures.fit c.sentence_law.ensures.alone checked
    c.answered_goal.ensures.signature c.requires.goal added)

pub returns : goal.returns
returns c =
    c.new.ensures ∙ c.of.ensures
    ∙ assembled c.args.checked.now c.args.goal.now c.args.assumed.now _ _ _ _ _ _ _ _ (form c.in_ok-formula.formula)
    c.model-model.ensures.value c.axioms.ensures.value c.conjectures.ensures.value c.deref.ensures.value
    c.in_ok-parts.ensures c.in_ok-push_held.ensures
    (c.in_ok-broken.ensures ∙ c.formula.ensures.value ∙ c.sentence.ensures.value) c.requires.precondition
    c.in_ok-formula.ensures
