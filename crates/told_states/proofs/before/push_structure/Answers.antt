use Rattle.std.proofs.Common.{◌≡◌, true, [], refl, ap}
use Rattle.fol_sig.specs.Tables.{Tables}
use Rattle.fol_sig.specs.SymbolTables.{HasSymbol}
use Rattle.told_text.specs.Written.{Written}
use Rattle.told_states.specs.Labels.{Labels, labels_of}
use Rattle.told_states.specs.BeforeText.{symbol_line, variable_text}
use Rattle.told_states.proofs.Pieces.{next_written, known_after}
use Rattle.told_states.proofs.before.push_structure.Goals as goal

pub loop-rest-preserved : goal.loop-rest-preserved
loop-rest-preserved c =
    let s : Tables = c.args.structure.now in
    let of : Labels = labels_of c.args.model.now s in
    let same : c.in-Ok.labels ≡ of = c.in-Ok.ensures in
    let nothing : Written = record { whole = true; text = [] } in
    record {
      known = known_after (HasSymbol s) c.loop-rest.rest.now c.loop-rest.invariant.known;
      lines = next_written (symbol_line of s) (symbol_line c.in-Ok.labels s) c.loop-rest.rest.now _ c.args.out.now
          c.loop-rest.out _ _ (ap (λ (l : Labels). symbol_line l s) same) c.in-len1-up.len_at_least
          c.push_symbol.ensures.line c.loop-rest.invariant.lines;
      variables = λ whole. (next_written (variable_text of s) (variable_text c.in-Ok.labels s) c.loop-rest.rest.now _
          nothing c.loop-rest.variables _ _ (ap (λ (l : Labels). variable_text l s) same) c.in-len1-up.len_at_least
          c.push_symbol.ensures.variable (λ old. (refl, c.loop-rest.invariant.variables old)) whole).1;
    }
