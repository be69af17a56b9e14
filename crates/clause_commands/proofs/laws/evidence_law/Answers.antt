use Rattle.clause_commands.proofs.laws.evidence_law.Goals as goal

pub returns-clause-proves : goal.returns-clause-proves
returns-clause-proves c = λ m goal f text log a clauses read is refuted.
    clauses.refute.0 (is.unsatisfiable refuted f read)
