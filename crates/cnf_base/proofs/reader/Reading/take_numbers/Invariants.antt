use Rattle.std.proofs.Common.{◌≡◌, ◌≤◌, ℕ, length}
use Rattle.cnf_base.specs.WordByWord.{read_words}
use Rattle.cnf_base.specs.ReaderState.{state_of}
use Rattle.cnf_base.proofs.reader.Reading.take_numbers.Given as goal

abbrev pub invariant-loop-self : goal.invariant-loop-self
invariant-loop-self l = record {
  same : (end : ℕ) → read_words (state_of l.self) l.words end ≡ read_words (state_of l.fn.self) l.fn.words end;
  shorter : length l.words ≤ length l.fn.words;
}

abbrev pub decreases-loop-self : goal.decreases-loop-self
decreases-loop-self l = length l.words
