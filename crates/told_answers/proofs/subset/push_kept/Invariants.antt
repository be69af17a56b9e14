use Rattle.std.proofs.Common.{◌≡◌, ◌++◌, length}
use Rattle.std.specs.Prelude.{IsTrue}
use Rattle.std.specs.List.{flat_map}
use Rattle.told_answers.specs.SubsetText.{keep_line}
use Rattle.told_answers.proofs.subset.push_kept.Given as goal

abbrev pub invariant-loop-rest : goal.invariant-loop-rest
invariant-loop-rest l = IsTrue l.out.whole → IsTrue l.fn.out.whole
    × (l.out.text ++ flat_map (keep_line l.names) l.rest ≡ l.fn.out.text ++ flat_map (keep_line l.names) l.kept)

abbrev pub decreases-loop-rest : goal.decreases-loop-rest
decreases-loop-rest l = length l.rest
