use Rattle.std.proofs.Common.{◌≡◌, ℕ, ◌≤◌, take}
use Rattle.std.specs.Prelude.{count_by}
use Rattle.fol_sig.specs.Tables.{rel_at, relation_at}
use Rattle.fol_sig.specs.Tuples.{tuples}
use Rattle.cti_minimise.proofs.extents.true_tuples.Given as goal

pub record Counted (count number : ℕ) (so_far : ℕ) : Type 0 where
  pub few : count ≤ number
  pub is : count ≡ so_far

abbrev pub invariant-loop-number : goal.invariant-loop-number
invariant-loop-number l =
    Counted l.count l.number (count_by (rel_at l.structure l.rel.0)
    (take l.number (tuples l.structure.sizes (relation_at l.structure l.rel.0).sorts)))
