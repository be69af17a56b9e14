use Rattle.std.proofs.Common.{◌≡◌, [], length}
use Rattle.std.specs.List.{AllByRecursion}
use Rattle.rml_lex.specs.Tokens.{EndsBy}
use Rattle.told_fault.specs.Hints.{round_at}
use Rattle.told_fault.proofs.looking.words_round.Given as goal

abbrev pub invariant-loop-rest : goal.invariant-loop-rest
invariant-loop-rest l = record {
  value : round_at l.text l.at l.earlier l.before l.rest ≡ round_at l.text l.at [] [] l.tokens;
  within : AllByRecursion (EndsBy (length l.text)) l.rest;
}

abbrev pub decreases-loop-rest : goal.decreases-loop-rest
decreases-loop-rest l = length l.rest
