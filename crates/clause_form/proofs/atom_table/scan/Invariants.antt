use Rattle.std.proofs.Common.{◌≡◌, drop}
use Rattle.clause_form.specs.Numbers.{variable_in}
use Rattle.clause_form.proofs.atom_table.scan.Given as goal

abbrev pub invariant-loop-entry : goal.invariant-loop-entry
invariant-loop-entry l = variable_in (drop l.entry-index l.atoms) l.atom ≡ variable_in l.atoms l.atom
