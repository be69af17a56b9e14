use Rattle.std.proofs.Common.{ℕ, List, sym, subst}
use Rattle.rml_command.specs.InductiveSets.{conjectures_of}
use Rattle.rml_command.specs.Goals.{HasNone}
use Rattle.rml_houdini.proofs.Sufficing.{grows_to_all}
use Rattle.rml_houdini.proofs.settling.settle_wholly.Goals as goal

pub returns-in_ok-assume_all-in-Holds-clause-grows : goal.returns-in_ok-assume_all-in-Holds-clause-grows
returns-in_ok-assume_all-in-Holds-clause-grows c =
    grows_to_all c.args.held.now c.args.assumed.now.held.items c.assume_all.new.assumed.held.items c.requires.within
    c.in_ok-assume_all-in-Holds.ensures.held

pub returns-in_ok-assume_all-in-Holds-clause-settled : goal.returns-in_ok-assume_all-in-Holds-clause-settled
returns-in_ok-assume_all-in-Holds-clause-settled c =
    let m = c.args.checked.now in
    let decided = rw c.in-Holds.is at c.in_ok-proof.ensures in (
      (decided.0, decided.1),
      subst (λ (ks : List ℕ). HasNone m (conjectures_of m ks) c.args.goal.now)
          (sym c.in_ok-assume_all-in-Holds.ensures.held) decided.1,
    )
