use Rattle.std.proofs.Common.{◌+◌}
use Rattle.rml_sample.proofs.Pieces.{one_more, none_left, all_left}
use Rattle.rml_sample.proofs.pushing.push_pieces.Goals as goal

pub loop-i-init : goal.loop-i-init
loop-i-init c = all_left c.args.piece c.args.from c.args.count c.args.out.now.items

pub loop-i-preserved : goal.loop-i-preserved
loop-i-preserved c =
    one_more c.args.piece c.loop-i.i (c.args.from + c.args.count) c.loop-i.out.items c.push_piece.new.out.items _
    c.loop-i-test.true c.in_ok-push_piece.ensures c.loop-i.invariant

pub returns : goal.returns
returns c =
    none_left c.args.piece c.loop-i.i (c.args.from + c.args.count) c.loop-i.out.items _ c.loop-i-test.false
    c.loop-i.invariant
