use Rattle.std.proofs.Common.{◌<◌, length, rules, sym, ap, ◌∙◌}
use Rattle.fol_sig.specs.Tables.{Tables}
use Rattle.fol_sig.specs.Symbols.{symbols}
use Rattle.report_read.proofs.Turns.{relations_turn, relations_stop, reads_err}
use Rattle.report_read.proofs.tables.read_relations.Goals as goal

pub returns-in-Err-clause-reads : goal.returns-in-Err-clause-reads
returns-in-Err-clause-reads c =
    let lt : c.loop-rel.rel < length c.args.checked.now.signature.relations = search rules in
    reads_err _ _ c.read_truths.new.reader c.in-Err.refused
    (λ e. sym c.loop-rel.invariant.reads
    ∙ relations_stop c.args.checked.now.names c.loop-rel.rel (length c.args.checked.now.signature.relations)
    c.loop-rel.structure c.loop-rel.reader c.read_truths.new.reader lt e)
    c.in-Err.ensures.reads

pub loop-rel-preserved : goal.loop-rel-preserved
loop-rel-preserved c =
    let lt : c.loop-rel.rel < length c.args.checked.now.signature.relations = search rules in
    let set_is = c.set_relation_cells.ensures.value in
    record {
      reads = relations_turn c.args.checked.now.names c.loop-rel.rel
          (length c.args.checked.now.signature.relations) c.loop-rel.structure c.set_relation_cells.new.self
          c.in-Ok.cells _ c.loop-rel.reader c.read_truths.new.reader lt c.in-Ok.ensures.reads c.into_vec.ensures set_is
          ∙ c.loop-rel.invariant.reads;
      has = record {
        fits = c.set_relation_cells.ensures.fits (symbols c.args.checked.now.signature) c.loop-rel.invariant.has.fits;
        sizes_are = ap (λ (t : Tables). t.sizes) set_is ∙ c.loop-rel.invariant.has.sizes_are;
      };
    }
