use Rattle.std.proofs.Common.{length}
use Rattle.rml_houdini.proofs.Sufficing.{all_below}
use Rattle.rml_houdini.proofs.keeping.take_turn.Goals as goal

pub try_with-requires-clause-held : goal.try_with-requires-clause-held
try_with-requires-clause-held c =
    all_below (length c.args.checked.now.conjectures) c.args.held.now c.args.assumed.now.held.items c.requires.held
    c.requires.within
