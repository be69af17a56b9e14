use Rattle.std.proofs.Common.{◌≡◌, ◌≤◌, ℕ, length}
use Rattle.lrat_log.specs.WordByWord.{read_words}
use Rattle.lrat_log.specs.ReaderState.{state_of}
use Rattle.lrat_log.proofs.reader.Reading.take_ids.Given as goal

abbrev pub invariant-loop-words : goal.invariant-loop-words
invariant-loop-words l = record {
  same : (end : ℕ) → read_words (state_of l.self) l.words end ≡ read_words (state_of l.fn.self) l.fn.words end;
  shorter : length l.words ≤ length l.fn.words;
}

abbrev pub decreases-loop-words : goal.decreases-loop-words
decreases-loop-words l = length l.words
