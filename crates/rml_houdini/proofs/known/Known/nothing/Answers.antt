use Rattle.rml_houdini.proofs.Sufficing.{nothing_kept}
use Rattle.rml_houdini.proofs.known.Known.nothing.Goals as goal

pub returns : goal.returns
returns c = λ counted limits m held. nothing_kept counted limits m held c.loop.groups.items c.loop.invariant
