use Rattle.std.proofs.Common.{◌≡◌, ◌≤◌, ℕ, length}
use Rattle.lrat_log.specs.WordByWord.{read_words}
use Rattle.lrat_log.specs.ReaderState.{state_of}
use Rattle.lrat_log.proofs.reader.Reading.take_numbers.Given as goal

abbrev pub invariant-loop-at : goal.invariant-loop-at
invariant-loop-at l = record {
  same : (end : ℕ) → read_words (state_of l.self) l.words end ≡ read_words (state_of l.fn.self) l.fn.words end;
  shorter : length l.words ≤ length l.fn.words;
}

abbrev pub decreases-loop-at : goal.decreases-loop-at
decreases-loop-at l = length l.words
