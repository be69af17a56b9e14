use Rattle.std.proofs.Common.{[], sym, subst, arith}
use Rattle.std.specs.List.{AllByRecursion}
use Rattle.fol_sig.specs.Symbols.{symbols}
use Rattle.fol_formula.specs.Fits.{FitsForm}
use Rattle.fol_formula.specs.Fragments.{IsEa}
use Rattle.cti_minimise.specs.Saying.{said_by}
use Rattle.cti_minimise.specs.Within.{numbers_within}
use Rattle.cti_minimise.proofs.Bounded.{bounds-are-ea, bounds-all-fit}
use Rattle.cti_minimise.proofs.Attempts.{few-within}
use Rattle.cti_minimise.proofs.bounds.bounds_on.Goals as goal

pub returns-clause-fragment : goal.returns-clause-fragment
returns-clause-fragment c =
    let sig = c.args.signature.now in
    let b = c.args.bounds.now in
    let laws = c.saying_law.ensures sig c.args.saying b.place in
    subst (AllByRecursion IsEa) (sym c.in_ok-sentences.ensures)
    (bounds-are-ea (said_by sig c.args.saying b.place) sig laws 0 (numbers_within b))

pub returns-clause-fits : goal.returns-clause-fits
returns-clause-fits c =
    let sig = c.args.signature.now in
    let b = c.args.bounds.now in
    let laws = c.saying_law.ensures sig c.args.saying b.place in
    let few = few-within sig b c.requires in
    subst (AllByRecursion (FitsForm (symbols sig) [])) (sym c.in_ok-sentences.ensures)
    (bounds-all-fit (said_by sig c.args.saying b.place) sig laws 0 (numbers_within b) c.sorts-sorts.ensures.sorted
    (omega (arith, few)))
