use Rattle.std.proofs.Common.{List, ◌-◌, ◌<◌, length, sym, subst}
use Rattle.rml_command.specs.Trees.{PrimitiveTree}
use Rattle.bounded_text.proofs.Numbered.{numbered-below}
use Rattle.bounded_text.proofs.showing.path_of.Goals as goal

pub path-requires : goal.path-requires
path-requires c =
    let place = c.args.part.now.trace.path - 1 in
    subst (λ (ps : List (List PrimitiveTree)). place < length ps) (sym c.stage_paths-paths.ensures.paths)
    (numbered-below _ c.args.part.now.trace.path c.requires.path c.requires.is_path)
