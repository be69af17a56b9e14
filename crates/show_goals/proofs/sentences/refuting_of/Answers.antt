use Rattle.std.proofs.Common.{[], sym, subst}
use Rattle.fol_sig.specs.Tables.{Declared}
use Rattle.fol_sig.specs.Symbols.{symbols}
use Rattle.fol_sig.specs.Strata.{IsStrata}
use Rattle.fol_formula.specs.Syntax.{FormTree}
use Rattle.fol_formula.specs.Fits.{FitsForm}
use Rattle.rml_wp.specs.declared.premises.Premises.TheVariants.{All}
use Rattle.rml_wp.specs.Preconditions.{answered, refuting}
use Rattle.show_goals.proofs.sentences.refuting_of.Goals as goal

pub ground_of-ground-requires-clause-strata : goal.ground_of-ground-requires-clause-strata
ground_of-ground-requires-clause-strata c =
    subst (λ (d : Declared). IsStrata (symbols d) c.strata.result.now) (sym c.in-Ok.ensures.signature)
    (c.answered_goal.ensures.answered.strata c.strata.result.now c.strata.ensures)

pub ground_of-ground-requires-clause-fits : goal.ground_of-ground-requires-clause-fits
ground_of-ground-requires-clause-fits c =
    let m = c.args.checked.now in
    let of = c.args.goal.now in
    let checked = c.model-checked.ensures.checked in
    let added = (c.sentence_law.ensures.conjectures m [] checked tt tt).all in
    let sentence = c.sentence_law.ensures.fit All m m.conjectures [] of checked c.answered_goal.ensures.signature
    c.requires added in
    let alone = c.sentence_law.ensures.alone All m m.conjectures of in
    let fits = subst (FitsForm (symbols (answered m of)) []) alone sentence.fits in
    subst (λ (p : FormTree). FitsForm (symbols c.in-Ok.answered) [] p) (sym c.in-Ok.ensures.sentence)
    (subst (λ (d : Declared). FitsForm (symbols d) [] (refuting All m m.conjectures of)) (sym c.in-Ok.ensures.signature)
    fits)
