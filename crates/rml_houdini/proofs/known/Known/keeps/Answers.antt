use Rattle.std.proofs.Common.{ℕ, List, subst}
use Rattle.rml_command.specs.InductiveSets.{IsWithin}
use Rattle.rml_houdini.proofs.Sufficing.{remembered}
use Rattle.rml_houdini.proofs.known.Known.keeps.Goals as goal

pub returns-in-Some : goal.returns-in-Some
returns-in-Some c = λ limits m is all.
    let found = c.in-Some.ensures in
    let held = c.args.held.now in
    remembered limits m held c.args.self.now.groups.items c.in-Some.kept.now c.args.stage c.args.conjecture found.0
    found.1 found.2
    (subst (λ (ks : List ℕ). IsWithin ks held) c.deref.ensures.value (c.are_within.ensures is)) all
