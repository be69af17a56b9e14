use Rattle.std.proofs.Common.{[], None, refl, sym, subst}
use Rattle.fol_sig.specs.Tables.{Declared}
use Rattle.fol_sig.specs.Symbols.{symbols}
use Rattle.fol_formula.specs.Syntax.{FormTree}
use Rattle.fol_formula.specs.Fits.{FitsForm}
use Rattle.rml_wp.specs.Preconditions.{answered}
use Rattle.limits.specs.Ceilings.{ceilings}
use Rattle.ea_decide.specs.Passing.{Passes}
use Rattle.ea_decide.specs.Decisions.{IsOver}
use Rattle.pruned_decide.specs.Decisions.{lean_signature, lean_sentence}
use Rattle.rml_houdini.proofs.Assuming.{strata_of, same_answer, assumed_fits, none_assumed}
use Rattle.rml_houdini.proofs.trying.try_sentence.Goals as goal

pub decide-requires-clause-strata : goal.decide-requires-clause-strata
decide-requires-clause-strata c =
    strata_of c.args.checked.now c.args.goal.now c.answered_goal.ensures.answered c.args.answered.now
    c.requires.answered c.strata.result.now c.strata.ensures

pub decide-requires-clause-fits : goal.decide-requires-clause-fits
decide-requires-clause-fits c =
    let m = c.args.checked.now in
    let a = c.args.assumed.now in
    let law = c.sentence_law.ensures in
    let checked = c.model-checked.ensures.checked in
    let added = (law.conjectures m [] checked tt tt).some a.held.items in
    let g = c.args.goal.now in
    let sig = c.requires.answered in
    subst (λ (z : Declared). FitsForm (symbols z) [] c.args.sentence.now) (sym sig)
    (subst (λ (p : FormTree). FitsForm (symbols (answered m g)) [] p) (sym c.requires.sentence)
    (assumed_fits m g a law.fit law.alone checked c.answered_goal.ensures.signature c.requires.goal added))

pub returns-in-Ok-Refuted : goal.returns-in-Ok-Refuted
returns-in-Ok-Refuted c =
    let m = c.args.checked.now in
    let limits = ceilings c.args.limits.now in
    let g = c.args.goal.now in
    let sig = c.requires.answered in
    let decided = same_answer limits _ (answered m g) c.args.sentence.now _ _ sig c.in-Ok-Refuted.field-0-is
    c.in-Ok-Refuted.ensures.decided in (
      subst (λ (p : FormTree). Passes limits (lean_signature (answered m g) p) (lean_sentence (answered m g) p) None)
          c.requires.sentence decided.0,
      none_assumed m g c.args.assumed.now c.answered_law.ensures.cuts c.model-checked.ensures.checked.model.fits
          c.answered_goal.ensures.signature
          ((c.sentence_law.ensures.conjectures m [] c.model-checked.ensures.checked tt tt).some
          c.args.assumed.now.held.items) c.requires.goal c.args.sentence.now c.requires.sentence decided.1,
    )

pub returns-in-Ok-Over : goal.returns-in-Ok-Over
returns-in-Ok-Over c =
    let m = c.args.checked.now in
    let limits = ceilings c.args.limits.now in
    let g = c.args.goal.now in
    let sig = c.requires.answered in
    subst (λ (p : FormTree). IsOver limits (lean_signature (answered m g) p) (lean_sentence (answered m g) p)
    c.in-Ok-Over.passed) c.requires.sentence
    (same_answer limits _ (answered m g) c.args.sentence.now _ _ sig c.in-Ok-Over.field-0-is
    c.in-Ok-Over.ensures.decided)

pub shown_by-requires-clause-model : goal.shown_by-requires-clause-model
shown_by-requires-clause-model c =
    same_answer (ceilings c.args.limits.now) _ _ c.args.sentence.now _ _ refl c.in-Ok-Satisfied.field-0-is
    c.in-Ok-Satisfied.ensures.decided
