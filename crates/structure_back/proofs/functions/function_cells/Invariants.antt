use Rattle.std.proofs.Common.{◌≡◌, ℕ, ◌<◌, length, get_or}
use Rattle.fol_sig.specs.Tables.{tuple_count}
use Rattle.fol_sig.specs.Tuples.{tuple_at}
use Rattle.ground_terms.specs.Universe.{symbols_in, names_in}
use Rattle.structure_back.specs.Rows.{looked_up}
use Rattle.structure_back.specs.Tables.{value_at}
use Rattle.structure_back.proofs.functions.function_cells.Given as goal

abbrev pub invariant-loop-number : goal.invariant-loop-number
invariant-loop-number l = record {
  long : length l.cells.items ≡ tuple_count l.classes.sizes.items ((symbols_in l.universe).from_of l.function.0);
  end : l.number-end ≡ length l.cells.items;
  each : (n : ℕ) → n < l.number → get_or l.cells.items n 0 ≡ value_at (symbols_in l.universe)
      (names_in l.universe) (looked_up l.classes.numbers) (looked_up l.classes.members) l.function.0
      (tuple_at l.classes.sizes.items ((symbols_in l.universe).from_of l.function.0) n);
  within : (n : ℕ) → n < l.number
      → get_or l.cells.items n 0 < get_or l.classes.sizes.items ((symbols_in l.universe).into_of l.function.0) 0;
}
