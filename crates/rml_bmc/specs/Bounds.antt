-- What is answered of the runs with at most so many actions.
use Rattle.std.specs.Prelude.{◌≡◌, ℕ, ◌+◌, Some, slice_get}
use Rattle.rml_command.specs.Models.{ModelTree}
use Rattle.limits.specs.Ceilings.{Ceilings}
use Rattle.lean_decide.specs.declared.settling.Counted.{Counted}
use Rattle.walks.specs.Runs.{SafeWithin, IsSafeLength}
use Rattle.rml_bmc.specs.Shown.{IsShownRun, BreaksOff}
use Rattle.rml_bmc.specs.Lengths.{AreLengths, verdict_of}
use Rattle.rml_bmc.specs.declared.answer.Run.{Run}
use Rattle.rml_bmc.specs.declared.answer.Bounded.{Bounded}
use Rattle.rml_bmc.specs.declared.answer.Length.TheVariants as answer
use Rattle.rml_bmc.specs.declared.answer.Verdict.TheVariants as verdict

-- The run is one of the model, from its first structure to the abort, or to the end where the conjecture's body is
-- false under the values; and each of its parts is shown.
pub record ShowsBreak (m : ModelTree) (run : Run) : Type 0 where
  pub shown : IsShownRun m run
  pub breaks : BreaksOff m run

-- The lengths 0, 1, .. are answered in order, up to the bound or to the first that is broken. Where the verdict is
-- safe, no run with at most so many actions aborts or breaks a conjecture; no goal of a length that is called safe
-- has a run; and a length that is broken shows a run of the model that aborts or breaks a conjecture at its last
-- part.
pub record IsBounded (counted : Counted) (limits : Ceilings) (m : ModelTree) (steps : ℕ) (b : Bounded) : Type 0 where
  pub lengths : AreLengths counted limits m 0 (steps + 1) b.lengths
  pub safe : verdict_of b.lengths ≡ verdict.Safe → SafeWithin m steps
  pub safe_lengths : (k : ℕ) → slice_get b.lengths k ≡ Some answer.Safe → IsSafeLength m k
  pub broken : (k : ℕ) (run : Run) → slice_get b.lengths k ≡ Some (answer.Broken run) → ShowsBreak m run
