use Rattle.std.proofs.Common.{◌≡◌, length}
use Rattle.cnf_base.specs.WordByWord.{read_words, read_by_words}
use Rattle.cnf_base.specs.ReaderState.{state_of}
use Rattle.cnf_base.proofs.reader.read_text.Given as goal

abbrev pub invariant-loop-word : goal.invariant-loop-word
invariant-loop-word l = read_words (state_of l.reading) l.words (length l.text) ≡ read_by_words l.text

abbrev pub decreases-loop-word : goal.decreases-loop-word
decreases-loop-word l = length l.words
