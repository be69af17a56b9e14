use Rattle.std.proofs.Common.{◌<◌, length, rules, sym, ap, ◌∙◌}
use Rattle.fol_sig.specs.Tables.{Tables}
use Rattle.fol_sig.specs.Symbols.{symbols}
use Rattle.report_read.proofs.Turns.{functions_turn, functions_stop, reads_err}
use Rattle.report_read.proofs.tables.read_functions.Goals as goal

pub returns-in-Err-clause-reads : goal.returns-in-Err-clause-reads
returns-in-Err-clause-reads c =
    let lt : c.loop-fun.fun < length c.args.checked.now.signature.functions = search rules in
    reads_err _ _ c.read_images.new.reader c.in-Err.refused
    (λ e. sym c.loop-fun.invariant.reads
    ∙ functions_stop c.args.checked.now.names c.loop-fun.fun (length c.args.checked.now.signature.functions)
    c.loop-fun.structure c.loop-fun.reader c.read_images.new.reader lt e)
    c.in-Err.ensures.reads

pub loop-fun-preserved : goal.loop-fun-preserved
loop-fun-preserved c =
    let lt : c.loop-fun.fun < length c.args.checked.now.signature.functions = search rules in
    let set_is = c.set_function_cells.ensures.value in
    record {
      reads = functions_turn c.args.checked.now.names c.loop-fun.fun
          (length c.args.checked.now.signature.functions) c.loop-fun.structure c.set_function_cells.new.self
          c.in-Ok.cells _ c.loop-fun.reader c.read_images.new.reader lt c.in-Ok.ensures.reads c.into_vec.ensures set_is
          ∙ c.loop-fun.invariant.reads;
      has = record {
        fits = c.set_function_cells.ensures.fits (symbols c.args.checked.now.signature) c.loop-fun.invariant.has.fits;
        sizes_are = ap (λ (t : Tables). t.sizes) set_is ∙ c.loop-fun.invariant.has.sizes_are;
      };
    }
