-- What holds before a stage: before init it does not matter.
use Rattle.std.proofs.Common.{◌≡◌, refl}
use Rattle.fol_formula.specs.Syntax.{FormTree, top}
use Rattle.rml_command.specs.declared.goal.Stage.{Stage}
use Rattle.rml_command.specs.declared.goal.Stage.TheVariants as stage
use Rattle.rml_wp.specs.Preconditions.{parts_before}
use Rattle.rml_wp.specs.Held.{held_at}

pub same-parts : (st : Stage) (lawful held : FormTree) → parts_before st lawful (held_at st held)
    ≡ parts_before st lawful held
same-parts stage.Init lawful held = refl
same-parts (stage.Action a) lawful held = refl
same-parts stage.Final lawful held = refl

pub holds-at : (P : FormTree → Type 0) (st : Stage) (held : FormTree) → P top → P held → P (held_at st held)
holds-at P stage.Init held t h = t
holds-at P (stage.Action a) held t h = h
holds-at P stage.Final held t h = h
