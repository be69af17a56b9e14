use Rattle.std.proofs.Common.{◌≡◌, length}
use Rattle.lrat_log.specs.WordByWord.{read_words, read_by_words}
use Rattle.lrat_log.specs.ReaderState.{state_of}
use Rattle.lrat_log.proofs.reader.read_text.Given as goal

abbrev pub invariant-loop-word : goal.invariant-loop-word
invariant-loop-word l = read_words (state_of l.reading) l.words (length l.text)
    ≡ read_by_words l.variables l.clauses l.text

abbrev pub decreases-loop-word : goal.decreases-loop-word
decreases-loop-word l = length l.words
