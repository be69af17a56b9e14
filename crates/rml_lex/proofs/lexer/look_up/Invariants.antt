use Rattle.std.proofs.Common.{◌≡◌, length, map}
use Rattle.rml_lex.specs.Spelling.{spelled}
use Rattle.rml_lex.proofs.lexer.look_up.Given as goal

abbrev pub invariant-loop-rest : goal.invariant-loop-rest
invariant-loop-rest l = record {
  value : spelled (map (λ row. (row.0.now, row.1)) l.rest) l.spelling
      ≡ spelled (map (λ row. (row.0.now, row.1)) l.rows) l.spelling;
}

abbrev pub decreases-loop-rest : goal.decreases-loop-rest
decreases-loop-rest l = length l.rest
