use Rattle.std.proofs.Common.{[], sym, subst}
use Rattle.fol_sig.specs.Tables.{Declared}
use Rattle.fol_sig.specs.Symbols.{symbols}
use Rattle.fol_formula.specs.Fits.{FitsForm}
use Rattle.fol_formula.specs.Fragments.{IsEa}
use Rattle.rml_wp.specs.Added.{refuting_where}
use Rattle.rml_wp.specs.declared.premises.Premises.TheVariants.{All}
use Rattle.show_pool.proofs.sizes.measured.Goals as goal

pub ground_size-requires-clause-fragment : goal.ground_size-requires-clause-fragment
ground_size-requires-clause-fragment c =
    let m = c.args.checked.now in
    let added = c.sentence_law.ensures.conjectures m [] c.model-model.ensures.checked tt tt in
    subst IsEa (sym c.requires.sentence)
    (c.sentence_law.ensures.fit All m m.conjectures [] c.args.goal.now c.model-model.ensures.checked
    c.answered_goal.ensures.signature c.requires.goal added.all).fragment

pub ground_size-requires-clause-fits : goal.ground_size-requires-clause-fits
ground_size-requires-clause-fits c =
    let m = c.args.checked.now in
    let added = c.sentence_law.ensures.conjectures m [] c.model-model.ensures.checked tt tt in
    subst (FitsForm (symbols c.args.answered.now) []) (sym c.requires.sentence)
    (subst (λ (d : Declared). FitsForm (symbols d) [] (refuting_where All m m.conjectures [] c.args.goal.now))
    (sym c.requires.answered)
    (c.sentence_law.ensures.fit All m m.conjectures [] c.args.goal.now c.model-model.ensures.checked
    c.answered_goal.ensures.signature c.requires.goal added.all).fits)
