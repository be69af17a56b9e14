use Rattle.std.proofs.Common.{ap, get_or, subst, sym, ◌∙◌}
use Rattle.fol_sig.specs.Tables.{FunctionTable, Tables, IsStructure}
use Rattle.fol_sig.proofs.Sets.{function_is_written, function_is_set}
use Rattle.fol_sig.proofs.structure.Structure.set_fun.Goals as goal

pub returns-clause-value : goal.returns-clause-value
returns-clause-value c =
    let inside : Tables =
    record {
      sizes = c.self.inside.sizes.items;
      relations = c.self.inside.relations.items;
      functions = c.self.inside.functions.items;
    } in
    let t : FunctionTable =
    record {
      sorts = c.function.inside.table.sorts;
      into = c.function.inside.into.0;
      cells = c.function.inside.table.cells;
    } in
    let read = c.function.view_is ∙ c.index_mut-function.ensures.value
    ∙ ap (get_or inside.functions c.args.fun.0) (sym c.function.view_is) in
    function_is_written c.args.self.now inside c.args.fun.0 c.args.tuple.now c.args.value c.deref.result.now t
    c.set_cell.new.self c.self.view_is read c.deref.ensures.value c.set_cell.ensures c.requires.known

pub returns-clause-set : goal.returns-clause-set
returns-clause-set c =
    function_is_set c.args.self.now _ c.args.fun.0 c.args.tuple.now c.args.value (returns-clause-value c)
    (subst IsStructure c.self.view_is c.self.invariant) c.requires.known c.requires.in_range
