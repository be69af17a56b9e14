use Rattle.rml_command.proofs.RouteLists.{last_of, shorter}
use Rattle.rml_command.proofs.path.PrimitivesDoubleEndedIterator.next_back.Goals as goal

pub returns-in-Some-split_last-clause-steps : goal.returns-in-Some-split_last-clause-steps
returns-in-Some-split_last-clause-steps c =
    let s = c.self.inside in
    last_of s.block.now s.front.now s.spans.now c.in-Some-split_last.before.now c.in-Some-split_last.span.now s.back.now
    c.piece-piece.result.now c.index-piece-piece.result c.args.self.now c.self.invariant.0
    c.in-Some-split_last.ensures.cases.0 c.in_default.ensures.cases c.piece-piece.ensures c.index-piece-piece.is
    c.self.view_is

pub returns-in-Some-split_last-clause-goes : goal.returns-in-Some-split_last-clause-goes
returns-in-Some-split_last-clause-goes c =
    let less = shorter _ _ c.args.self.now (returns-in-Some-split_last-clause-steps c) in
    record { on = λ finite. (tt, tt, less); keeps = tt; rests = λ finite. tt }
