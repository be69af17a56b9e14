use Rattle.std.proofs.Common.{map}
use Rattle.fol_sig.specs.Symbols.{symbols}
use Rattle.ground_terms.specs.FunctionRows.{AreFunctionRows}
use Rattle.ground_terms.proofs.Rows.{number}
use Rattle.ground_terms.proofs.functions_into.FunctionsInto.new.Given as goal

abbrev pub invariant-loop-f : goal.invariant-loop-f
invariant-loop-f l = AreFunctionRows (symbols l.signature) l.f (map (λ v. map number v.items) l.rows.items)
