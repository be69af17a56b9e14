use Rattle.std.proofs.Common.{refl}
use Rattle.fol_sig.specs.SymbolTables.{HasSymbol}
use Rattle.told_states.specs.SymbolText.{cells_text}
use Rattle.told_states.proofs.Pieces.{next_written, known_after}
use Rattle.told_states.proofs.cells.push_all_cells.Goals as goal

pub loop-rest-preserved : goal.loop-rest-preserved
loop-rest-preserved g c = record {
  known = known_after (HasSymbol c.args.here.now) c.loop-rest.rest.now c.loop-rest.invariant.known;
  text = next_written
      (cells_text c.args.here.now (g.T.OfCells.text c.args.told.now c.args.here.now c.args.there.now)) _
      c.loop-rest.rest.now _ c.args.out.now c.loop-rest.out _ _ refl c.in-len1-up.len_at_least c.push_cells.ensures
      c.loop-rest.invariant.text;
}
