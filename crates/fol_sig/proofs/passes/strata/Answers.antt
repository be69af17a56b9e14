use Rattle.std.proofs.Common.{subst, Some}
use Rattle.fol_sig.specs.Symbols.{symbols}
use Rattle.fol_sig.specs.Strata.{with_functions}
use Rattle.fol_sig.specs.Passes.{HasOrder}
use Rattle.fol_sig.proofs.passes.strata.Goals as goal

pub returns-in-Some-clause-acyclic : goal.returns-in-Some-clause-acyclic
returns-in-Some-clause-acyclic c =
    let sig = symbols c.args.signature.now in
    (subst (λ n. HasOrder (with_functions sig n) (Some c.in-Some.strata)) c.function_count.ensures
    (subst (HasOrder (with_functions sig c.function_count.result)) c.in-Some.is c.in_ok-strata.ensures)).1
