use Rattle.std.proofs.Common.{◌∙◌}
use Rattle.expectations.proofs.Deciding.{asked, told}
use Rattle.expectations.proofs.trying.may_stand.Goals as goal

pub goes_on-requires : goal.goes_on-requires
goes_on-requires c =
    asked c.one_tree_or_fault.ensures.fault c.args.text.now c.args.beyond.now c.args.front.now c.deref.result.now
    c.args.kind c.requires.beyond c.requires.front (c.deref.ensures.value ∙ c.in_ok-tried.ensures)

pub returns : goal.returns
returns c =
    told c.one_tree_or_fault.ensures.fault c.args.text.now c.args.beyond.now c.args.front.now c.deref.result.now
    c.args.kind c.requires.beyond c.requires.front (c.deref.ensures.value ∙ c.in_ok-tried.ensures)
    c.in_ok-may.may c.in_ok-may.ensures
