use Rattle.rml_houdini.proofs.Fewer.{fewer_none}
use Rattle.rml_houdini.proofs.Sufficing.{grow_on}
use Rattle.rml_houdini.proofs.settling.settle_within.Goals as goal

pub returns-in-Holds-clause-settled : goal.returns-in-Holds-clause-settled
returns-in-Holds-clause-settled c =
    let none = rw c.in-Holds.is at c.in_ok-keep.ensures.turn in (
      (
        c.requires.limit,
        fewer_none c.args.checked.now c.keep.new.assumed.held.items c.args.held.now c.args.goal.now
            (c.in_ok-keep.ensures.grows.1 c.requires.within) none,
      ),
      none,
    )

pub settle_wholly-requires-clause-within : goal.settle_wholly-requires-clause-within
settle_wholly-requires-clause-within c = c.in_ok-keep.ensures.grows.1 c.requires.within

pub returns-in_ok-settled-in-Again-clause-grows : goal.returns-in_ok-settled-in-Again-clause-grows
returns-in_ok-settled-in-Again-clause-grows c =
    grow_on c.args.held.now c.args.assumed.now.held.items c.keep.new.assumed.held.items
    c.settle_wholly.new.assumed.held.items c.in_ok-keep.ensures.grows c.in_ok-settled-in-Again.ensures.grows
