use Rattle.std.proofs.Common.{◌≡◌, drop}
use Rattle.fol_formula.specs.Syntax.{forms_of}
use Rattle.ground_size.specs.Conjoined.{parts_of}
use Rattle.ground_size.specs.Walks.{all_raised}
use Rattle.ground_size.proofs.parts.add_existentials_of_parts.Given as goal

abbrev pub invariant-loop-part : goal.invariant-loop-part
invariant-loop-part l =
    all_raised 1 0 (forms_of (parts_of (drop l.part-index l.parts))) l.counts ≡ all_raised 1 0
    (forms_of (parts_of l.parts)) l.initial.counts
