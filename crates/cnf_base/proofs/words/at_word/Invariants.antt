use Rattle.std.proofs.Common.{◌≡◌, ◌+◌, length}
use Rattle.cnf_base.specs.Modes.{words_from}
use Rattle.cnf_base.proofs.words.at_word.Given as goal

abbrev pub invariant-loop-rest : goal.invariant-loop-rest
invariant-loop-rest l = record {
  place : l.at + length l.rest ≡ l.fn.at + length l.fn.rest;
  words : words_from l.mode l.at l.rest ≡ words_from l.fn.mode l.fn.at l.fn.rest;
}

abbrev pub decreases-loop-rest : goal.decreases-loop-rest
decreases-loop-rest l = length l.rest
