use Rattle.std.proofs.Common.{◌≡◌, ◌++◌}
use Rattle.fol_sig.specs.Tuples.{join_below}
use Rattle.rml_report.specs.TableText.{function_line}
use Rattle.rml_report.proofs.structures.push_functions.Given as goal

abbrev pub invariant-loop-fun : goal.invariant-loop-fun
invariant-loop-fun l = l.out.items ≡ l.initial.out.items ++ join_below l.fun (function_line l.names l.structure)
