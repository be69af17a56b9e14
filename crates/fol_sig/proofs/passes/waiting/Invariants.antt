use Rattle.fol_sig.specs.Symbols.{symbols}
use Rattle.fol_sig.specs.Strata.{with_functions}
use Rattle.fol_sig.specs.Passes.{AreWaiting}
use Rattle.fol_sig.proofs.passes.waiting.Given as goal

abbrev pub invariant-loop-f : goal.invariant-loop-f
invariant-loop-f l = AreWaiting (with_functions (symbols l.signature) l.f) l.placed l.waits.items
