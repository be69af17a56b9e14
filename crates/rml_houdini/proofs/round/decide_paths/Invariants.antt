use Rattle.std.proofs.Common.{◌≡◌, ◌≤◌, length, None}
use Rattle.rml_command.specs.Goals.{stage_paths}
use Rattle.limits.specs.Ceilings.{ceilings}
use Rattle.rml_command.specs.InductiveSets.{IsWithin}
use Rattle.rml_houdini.proofs.Turns.{ThroughPaths}
use Rattle.rml_houdini.proofs.Sufficing.{SufficesThrough}
use Rattle.rml_houdini.proofs.round.decide_paths.Given as goal

abbrev pub invariant-loop-i : goal.invariant-loop-i
invariant-loop-i l = record {
  paths : l.paths ≡ stage_paths l.checked l.stage;
  few : length l.paths ≤ 4096;
  within : IsWithin l.assumed.held.items l.held;
  whole : ThroughPaths l.counted (ceilings l.limits) l.checked l.held None
      (record { stage = l.fn.stage; about = l.fn.about }) l.paths l.first l.i;
  suffices : SufficesThrough l.checked (record { stage = l.fn.stage; about = l.fn.about }) l.paths l.first
      l.assumed.held.items l.i;
}
