use Rattle.std.proofs.Common.{sym, ◌∙◌, get_or}
use Rattle.rml_houdini.proofs.Members.{has-named}
use Rattle.rml_houdini.proofs.Sufficing.{within_more, within_end}
use Rattle.rml_houdini.proofs.sets.are_within.Goals as goal

pub loop-number-preserved : goal.loop-number-preserved
loop-number-preserved c =
    let i = c.loop-number.number-index in
    within_more c.args.numbers.now c.args.others.now i c.loop-number-test.true
    (has-named c.args.others.now (get_or c.args.numbers.now i 0)
    (sym c.contains.ensures.value ∙ c.if-not-contains.false)) c.loop-number.invariant

pub returns : goal.returns
returns c = λ _.
    within_end c.args.numbers.now c.args.others.now c.loop-number.number-index c.loop-number-test.false
    c.loop-number.invariant
