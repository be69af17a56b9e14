use Rattle.std.proofs.Common.{◌≡◌, [], sym, ap, ◌∙◌, subst}
use Rattle.fol_sig.specs.Symbols.{symbols}
use Rattle.fol_formula.specs.Syntax.{FormTree}
use Rattle.fol_formula.specs.View.{form}
use Rattle.fol_formula.specs.Fits.{BoundForm}
use Rattle.fol_formula.specs.Fragments.{IsEa}
use Rattle.rml_wp.specs.declared.premises.Premises.TheVariants.{All}
use Rattle.rml_wp.specs.Preconditions.{answered}
use Rattle.rml_wp.specs.Added.{refuting_where}
use Rattle.obligation_decide.specs.Restricted.{with_parts}
use Rattle.obligation_decide.proofs.Restricting.{restricted_is}
use Rattle.obligation_decide.proofs.parts.restricted.Goals as goal

pub of-requires : goal.of-requires
of-requires c =
    let m = c.args.checked.now in
    let g = c.args.goal.now in
    let more = c.args.more.now in
    let checked = c.model-checked.ensures.checked in
    let added = (c.sentence_law.ensures.conjectures m more checked c.requires.fragment c.requires.fits).all in
    let fit = (c.sentence_law.ensures.fit All m m.conjectures more g checked
    c.answered_goal.ensures.signature c.requires.goal added).fits in
    let before = c.into_formula-formula.ensures.value ∙ c.into_sentence.ensures.value
    ∙ c.in_ok-answered.ensures.sentence in
    let is : form c.in_ok-all.all ≡ refuting_where All m m.conjectures more g =
    c.in_ok-all.ensures ∙ ap (λ (q : FormTree). with_parts q more) before ∙ restricted_is All m more g in
    subst (BoundForm 0) (sym is)
    (c.indices.ensures.bound (symbols (answered m g)) [] (refuting_where All m m.conjectures more g) fit)

pub new-requires : goal.new-requires
new-requires c =
    let m = c.args.checked.now in
    let g = c.args.goal.now in
    let more = c.args.more.now in
    let checked = c.model-checked.ensures.checked in
    let added = (c.sentence_law.ensures.conjectures m more checked c.requires.fragment c.requires.fits).all in
    let fragment = (c.sentence_law.ensures.fit All m m.conjectures more g checked
    c.answered_goal.ensures.signature c.requires.goal added).fragment in
    let before = c.into_formula-formula.ensures.value ∙ c.into_sentence.ensures.value
    ∙ c.in_ok-answered.ensures.sentence in
    let is : c.of.result ≡ refuting_where All m m.conjectures more g =
    c.of.ensures ∙ c.in_ok-all.ensures ∙ ap (λ (q : FormTree). with_parts q more) before ∙ restricted_is All m more g in
    subst (λ (q : FormTree). IsEa q) (sym is) fragment
