use Rattle.std.proofs.Common.{Some, None}
use Rattle.rml_fragment.proofs.Leaving.{ordered, cyclic}
use Rattle.rml_fragment.proofs.fragment.fragment_strata.Goals as goal

pub returns-in-None-clause-faultless : goal.returns-in-None-clause-faultless
returns-in-None-clause-faultless c =
    ordered c.args.model.now c.signature.result.now c.signature.ensures.value c.in-Ok.ensures.acyclic None
    c.in-None.ensures

pub returns-in-Some-clause-fault : goal.returns-in-Some-clause-fault
returns-in-Some-clause-fault c =
    ordered c.args.model.now c.signature.result.now c.signature.ensures.value c.in-Ok.ensures.acyclic
    (Some c.in-Some.fault) c.in-Some.ensures

pub returns-in-Err-For-clause-fault : goal.returns-in-Err-For-clause-fault
returns-in-Err-For-clause-fault c =
    cyclic c.args.model.now c.closing.result c.first_with.result c.sentences_fault-sentences.result c.closing.ensures
    c.sentences_fault-sentences.ensures c.first_with.ensures
