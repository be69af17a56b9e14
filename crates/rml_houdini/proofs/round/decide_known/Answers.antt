use Rattle.std.proofs.Common.{None, ap, ◌∙◌, subst}
use Rattle.rml_command.specs.Goals.{group_goals}
use Rattle.limits.specs.Ceilings.{ceilings}
use Rattle.lean_decide.specs.declared.settling.Counted.TheVariants.{Whole}
use Rattle.rml_houdini.specs.Rounds.{group_at}
use Rattle.rml_houdini.specs.Progress.{IsRound}
use Rattle.rml_houdini.specs.declared.round.Round.{Round}
use Rattle.rml_houdini.specs.declared.round.Round.TheVariants.{Passes}
use Rattle.rml_houdini.proofs.Steps.{all_safe, settled}
use Rattle.rml_houdini.proofs.Sufficing.{kept_by}
use Rattle.rml_houdini.proofs.round.decide_known.Goals as goal

pub returns-then-keeps-clause-round : goal.returns-then-keeps-clause-round
returns-then-keeps-clause-round c =
    let limits = ceilings c.args.limits.now in
    let m = c.args.checked.now in
    all_safe Whole limits m c.args.held.now None (group_goals m (group_at c.args.stage c.args.conjecture))
    (c.keeps.ensures limits m c.if-keeps.true c.requires.known)

pub returns-in-Passes-None-clause-known : goal.returns-in-Passes-None-clause-known
returns-in-Passes-None-clause-known c =
    let limits = ceilings c.args.limits.now in
    let m = c.args.checked.now in
    let held = c.args.held.now in
    let goals = group_goals m (group_at c.args.stage c.args.conjecture) in
    let is = c.in-Passes-None.is ∙ ap (λ o. Passes o) c.in-Passes-None.field-0-is in
    let found : IsRound Whole limits m held None goals (Passes None) =
    subst (λ (r : Round). IsRound Whole limits m held None goals r) is c.in_ok-other.ensures.round in
    c.keep.ensures limits m held c.requires.known
    (kept_by limits m held c.args.stage c.args.conjecture c.decide_paths.new.assumed.held.items
    (settled Whole limits m held goals None found) (c.in_ok-other.ensures.suffice is))
