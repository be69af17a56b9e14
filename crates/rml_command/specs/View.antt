-- The trees that a `Primitive` and a `Command` stand for.
use Rattle.std.specs.Prelude.{List, map}
use Rattle.fol_formula.specs.View.{form, term}
use Rattle.rml_command.specs.Trees.{
  PrimitiveTree,
  assume,
  set_rel,
  set_fun,
  havoc,
  havoc_rel,
  abort,
  CommandTree,
  CommandTrees,
  prim,
  seq,
  choose,
  commands_of,
}
use Rattle.rml_command.specs.declared.command.Primitive.{Primitive}
use Rattle.rml_command.specs.declared.command.Primitive.TheVariants as p
use Rattle.rml_command.specs.declared.command.Command.{Command, fold-Command}
use Rattle.rml_command.specs.declared.command.Command.TheOpen.{Command-F}

-- a primitive with its symbols by number
abbrev pub primitive : Primitive → PrimitiveTree
primitive (p.Assume sentence) = assume sentence
primitive (p.SetRel r by) = set_rel r.0 (form by)
primitive (p.SetFun f by) = set_fun f.0 (term by)
primitive (p.Havoc v) = havoc v.0
primitive (p.HavocRel r) = havoc_rel r.0
primitive p.Abort = abort

-- one level, with the tree of each part in its place
abbrev pub command_step : Command-F CommandTree → CommandTree
command_step (Command-F.Prim q) = prim (primitive q)
command_step (Command-F.Seq cs) = seq (commands_of cs.items)
command_step (Command-F.Choose cs) = choose (commands_of cs.items)

abbrev pub command : Command → CommandTree
command = fold-Command CommandTree command_step

abbrev pub commands : List Command → CommandTrees
commands cs = commands_of (map command cs)
