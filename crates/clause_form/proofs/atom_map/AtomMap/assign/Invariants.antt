use Rattle.std.proofs.Common.{◌≡◌, ◌++◌, drop}
use Rattle.clause_form.specs.Meaning.{true_atoms}
use Rattle.clause_form.proofs.atom_map.AtomMap.assign.Given as goal

abbrev pub invariant-loop-entry : goal.invariant-loop-entry
invariant-loop-entry l = l.atoms.items ++ true_atoms l.values (drop l.entry-index l.self) ≡ true_atoms l.values l.self
