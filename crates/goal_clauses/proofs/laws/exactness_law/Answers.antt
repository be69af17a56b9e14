use Rattle.std.proofs.Common.{[], subst}
use Rattle.fol_sig.specs.Symbols.{symbols}
use Rattle.fol_sig.specs.Constants.{reduct}
use Rattle.fol_formula.specs.Fits.{FitsForm}
use Rattle.fol_formula.specs.Fragments.{IsEa}
use Rattle.rml_wp.specs.declared.premises.Premises.TheVariants.{All}
use Rattle.rml_wp.specs.Preconditions.{answered}
use Rattle.rml_wp.specs.Laws.{goal_havocs}
use Rattle.obligation_decide.specs.GoalPassing.{refuting_sentence}
use Rattle.goal_clauses.proofs.laws.exactness_law.Goals as goal

pub returns : goal.returns
returns c = λ m goal order f checked ok sorted strata is_goal form.
    let added = (c.sentence_law.ensures.conjectures m [] checked tt tt).all in
    let sentence = c.sentence_law.ensures.fit All m m.conjectures [] goal checked ok is_goal added in
    let alone = c.sentence_law.ensures.alone All m m.conjectures goal in
    let is = c.answered_law.ensures.answered m goal checked.model.fits ok is_goal in
    let exact = c.exactness_law.ensures (answered m goal) (refuting_sentence m goal) order f (is.sorted sorted)
    (is.strata order strata) (subst IsEa alone sentence.fragment)
    (subst (FitsForm (symbols (answered m goal)) []) alone sentence.fits) form in (
      λ satisfied.
          let model = exact.0 satisfied in
          let shown = (c.refuting_law.ensures.exact m m.conjectures goal model.0 checked.model.fits ok
          checked.model.fits.conjectures is_goal model.1).0 model.2 in (
            reduct (symbols m.signature) model.0,
            goal_havocs m goal model.0 shown.0,
            shown.1,
            shown.2.shown,
          ),
      λ shown.
          let w = c.answered_law.ensures.cuts All m m.conjectures goal shown.0 shown.1 shown.2 checked.model.fits ok
          checked.model.fits.conjectures is_goal shown.3 in
          exact.1 (w.whole, w.fits, w.holds),
    )
