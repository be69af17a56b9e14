use Rattle.std.proofs.Common.{◌≤◌, ◌<◌, ◌+◌, ◌^◌, true, [], length, sum, refl, sym, subst, arith}
use Rattle.fol_sig.specs.Tables.{Declared, Tables}
use Rattle.fol_sig.specs.Symbols.{symbols}
use Rattle.fol_formula.specs.Fits.{FitsForm}
use Rattle.fol_nnf.specs.Normal.{normal}
use Rattle.rml_wp.specs.declared.premises.Premises.TheVariants.{All}
use Rattle.rml_wp.specs.Preconditions.{answered}
use Rattle.limits.specs.Ceilings.{ceilings}
use Rattle.obligation_decide.specs.WithConstants.{constant_sorts}
use Rattle.obligation_decide.proofs.SameAnswer.{strata_of, same_answer}
use Rattle.obligation_decide.proofs.Shown.{normal-fits, given_fits}
use Rattle.obligation_decide.proofs.FewConstants.{few}
use Rattle.obligation_decide.proofs.decide_sentence.Goals as goal

pub decide-requires-clause-strata : goal.decide-requires-clause-strata
decide-requires-clause-strata c =
    strata_of c.args.checked.now c.args.goal.now c.answered_goal.ensures.answered c.args.answered.now
    c.requires.answered c.strata.result.now c.strata.ensures

pub decide-requires-clause-fits : goal.decide-requires-clause-fits
decide-requires-clause-fits c =
    let m = c.args.checked.now in
    let p = c.args.sentence.now in
    subst (λ (z : Declared). FitsForm (symbols z) [] p) (sym c.requires.answered)
    (given_fits c.sentence_law.ensures.fit All m c.args.goal.now p c.model-checked.ensures.checked
    c.answered_goal.ensures.signature c.requires.goal c.requires.sentence)

pub read_counterexample-requires-clause-few : goal.read_counterexample-requires-clause-few
read_counterexample-requires-clause-few c =
    let m = c.args.checked.now in
    let g = c.args.goal.now in
    let p = c.args.sentence.now in
    let limits = ceilings c.args.limits.now in
    let checked = c.model-checked.ensures.checked in
    let fits = normal-fits c.sentence_law-2.ensures All m g checked c.answered_goal.ensures.signature c.requires.goal p
    c.requires.sentence in
    let skolem = c.exactness.ensures.models (answered m g) (normal true p) fits in
    let same = c.requires.answered in
    let decided = same_answer limits _ (answered m g) p p _ _ same refl c.in-Satisfied.is c.in_ok-proof.ensures in
    let model = checked.model.few in
    let terms : limits.terms ≤ 100000 = omega arith in
    let here = few limits (answered m g) (constant_sorts p) p skolem.grows terms (omega (arith, model)) decided.0 in
    subst (λ (z : Declared). length z.functions + length (constant_sorts p) < 2 ^ 32) (sym same) here

pub returns-in-Refuted : goal.returns-in-Refuted
returns-in-Refuted c =
    let m = c.args.checked.now in
    let p = c.args.sentence.now in
    same_answer (ceilings c.args.limits.now) _ (answered m c.args.goal.now) p p _ _ c.requires.answered refl
    c.in-Refuted.is c.in_ok-proof.ensures

pub returns-in_ok-shown-in-Satisfied : goal.returns-in_ok-shown-in-Satisfied
returns-in_ok-shown-in-Satisfied c =
    let m = c.args.checked.now in
    let g = c.args.goal.now in
    let p = c.args.sentence.now in
    let limits = ceilings c.args.limits.now in
    let t = c.in-Satisfied.model in
    let shown = c.in_ok-shown-in-Satisfied.ensures in
    let decided = same_answer limits _ (answered m g) p p _ _ c.requires.answered refl c.in-Satisfied.is
    c.in_ok-proof.ensures in (
      decided.0,
      record {
        same = shown.goal;
        path = shown.path;
        refutes = shown.refutes;
        holds = shown.holds;
        few = subst (λ (s : Tables). sum s.sizes ≤ limits.terms) (sym shown.structure)
            (c.elements_law.ensures limits (answered m g) p t decided.0 decided.1.few);
      },
    )
