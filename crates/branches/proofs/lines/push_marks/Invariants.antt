use Rattle.std.proofs.Common.{◌≡◌, ◌++◌, length}
use Rattle.std.specs.Prelude.{IsTrue}
use Rattle.branches.specs.Within.{MarksWithin}
use Rattle.branches.specs.MarkText.{marks_text}
use Rattle.branches.proofs.lines.push_marks.Given as goal

abbrev pub invariant-loop-rest : goal.invariant-loop-rest
invariant-loop-rest l = record {
  within : MarksWithin (length l.text) l.rest;
  text : IsTrue l.out.whole → IsTrue l.initial.out.whole
      × (l.out.text ++ marks_text l.text l.rest ≡ l.initial.out.text ++ marks_text l.text l.marks);
}

abbrev pub decreases-loop-rest : goal.decreases-loop-rest
decreases-loop-rest l = length l.rest
