use Rattle.std.proofs.Common.{◌≡◌, ℕ, length}
use Rattle.std.specs.Prelude.{slice_index}
use Rattle.fol_formula.specs.Counts.{saturated}
use Rattle.fol_pool.specs.Trees.{form_at}
use Rattle.pool_size.specs.Existentials.{AreAwaited}
use Rattle.pool_size.proofs.existentials.count_down.Given as goal

abbrev pub invariant-loop-i : goal.invariant-loop-i
invariant-loop-i l = record {
  sorts : length l.counts ≡ length l.fn.counts;
  nodes : length l.table ≡ l.fn.sentence.0;
  capped : (k : ℕ) → slice_index l.counts k ≡ saturated (slice_index l.counts k);
  awaited : AreAwaited (length l.fn.counts) (form_at l.pool l.fn.sentence.0) l.pool l.counts l.table l.i;
}
