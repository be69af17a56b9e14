use Rattle.fol_sig.specs.Tables.{numbers}
use Rattle.fol_formula.specs.View.{term}
use Rattle.rml_exec.proofs.Ready.{function_ready}
use Rattle.rml_exec.proofs.tables.set_function.Goals as goal

pub fill_function-requires : goal.fill_function-requires
fill_function-requires c =
    function_ready c.args.structure.now c.args.fun.0 (term c.args.by.now) (numbers c.function_sorts.result.now)
    c.requires c.function_sorts.ensures
