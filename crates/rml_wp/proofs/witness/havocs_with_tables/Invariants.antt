use Rattle.std.proofs.Common.{◌≡◌, ◌+◌, ◌≤◌, ◌++◌, length}
use Rattle.rml_command.specs.Fresh.{havocs_under}
use Rattle.rml_wp.specs.Written.{relation_havocs}
use Rattle.rml_wp.proofs.witness.havocs_with_tables.Given as goal

-- what is left of the path gives what the whole gives, and each of its relation havocs has a table
abbrev pub invariant-loop-primitive : goal.invariant-loop-primitive
invariant-loop-primitive l = record {
  there : l.number + relation_havocs l.primitive-iterator ≤ length l.structure.relations;
  taken : l.havocs.items ++ havocs_under l.structure l.number l.primitive-iterator l.rest
      ≡ havocs_under l.structure l.fresh l.path l.elements;
}
