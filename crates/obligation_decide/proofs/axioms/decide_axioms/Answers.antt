use Rattle.std.proofs.Common.{[], sym, subst}
use Rattle.fol_sig.specs.Tables.{Declared}
use Rattle.fol_sig.specs.Symbols.{symbols}
use Rattle.fol_sig.specs.Constants.{reduct}
use Rattle.fol_formula.specs.Syntax.{FormTree}
use Rattle.fol_formula.specs.Fits.{FitsForm}
use Rattle.fol_formula.specs.Sentences.{all_of}
use Rattle.limits.specs.Ceilings.{ceilings}
use Rattle.obligation_decide.proofs.SameAnswer.{signature_of, same_answer}
use Rattle.obligation_decide.proofs.Conjoined.{axioms-fit, satisfied}
use Rattle.obligation_decide.proofs.axioms.decide_axioms.Goals as goal

pub decide-decided-requires-clause-fits : goal.decide-decided-requires-clause-fits
decide-decided-requires-clause-fits c =
    let m = c.args.checked.now in
    let sig = signature_of _ _ m c.signature-signature.ensures.value c.model.ensures.value in
    let fits = axioms-fit m c.model.ensures.checked.model.fits in
    subst (λ (z : Declared). FitsForm (symbols z) [] c.in_ok-sentence.sentence) (sym sig)
    (subst (λ (p : FormTree). FitsForm (symbols m.signature) [] p) (sym c.in_ok-sentence.ensures) fits)

pub returns-in-Satisfied : goal.returns-in-Satisfied
returns-in-Satisfied c =
    let m = c.args.checked.now in
    let t = c.in-Satisfied.field-0 in
    let p = all_of m.axioms in
    let limits = ceilings c.args.limits.now in
    let fits = c.model.ensures.checked.model.fits in
    let sig = signature_of _ _ m c.signature-signature.ensures.value c.model.ensures.value in
    let answer = same_answer limits _ m.signature _ p _ _ sig c.in_ok-sentence.ensures c.in-Satisfied.is in
    let decided = answer c.in_ok-decided.ensures in
    let shown = satisfied m c.exactness-2.ensures.truth c.exactness-2.ensures.fits c.exactness.ensures.models fits t
    decided.1.model in
    (decided.0, (reduct (symbols m.signature) t, shown))
