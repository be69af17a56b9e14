use Rattle.fol_sig.specs.Symbols.{symbols}
use Rattle.fol_sig.proofs.Cycles.{found, is_on_cycle}
use Rattle.fol_sig.proofs.passes.first_cycle.Goals as goal

pub returns : goal.returns
returns c =
    let sig = symbols c.args.signature.now in
    let first =
    found sig c.loop-ordered.ordered c.loop-ordered.cyclic c.loop-ordered.invariant c.loop-ordered-test.false in
    record { first = first; cyclic = is_on_cycle sig c.loop-ordered.ordered first }
