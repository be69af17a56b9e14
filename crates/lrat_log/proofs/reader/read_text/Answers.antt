use Rattle.std.proofs.Common.{◌≡◌, arith, length}
use Rattle.std.proofs.lemmas.Grind.{common_steps}
use Rattle.lrat_log.specs.Logs.{IsLogOver}
use Rattle.lrat_log.specs.WordByWord.{ended, read_words, read_by_words}
use Rattle.lrat_log.specs.ReaderState.{state_of}
use Rattle.lrat_log.proofs.Readings.{read_is_over, end_is_read, answered, fails_as}
use Rattle.lrat_log.proofs.reader.read_text.Goals as goal

pub returns-in-Err-take_numbers-clause-log : goal.returns-in-Err-take_numbers-clause-log
returns-in-Err-take_numbers-clause-log c =
    let same : read_words (state_of c.take_word.new.self) c.next_word.new.self (length c.args.text.now)
    ≡ read_by_words c.args.variables c.args.clauses c.args.text.now =
    grind (arith, common_steps, c.loop-word.invariant, c.in-Some.ensures, c.in-Ok.ensures) in
    fails_as _ _ c.in-Err-take_numbers.e same (c.in-Err-take_numbers.ensures.taken (length c.args.text.now))

pub finish-requires : goal.finish-requires
finish-requires c =
    λ lines h. read_is_over c.args.variables 2147483647 0
    (λ n _ small. small) c.args.clauses c.args.text.now lines c.word_laws.ensures.small (omega arith)
    (end_is_read c.args.variables c.args.clauses c.args.text.now c.loop-word.words
    (state_of c.loop-word.reading) lines c.in_default.ensures c.loop-word.invariant h)

pub returns-clause-over : goal.returns-clause-over
returns-clause-over c =
    answered (ended (state_of c.loop-word.reading) (length c.args.text.now)) c.finish.result
    (λ lines. IsLogOver c.args.variables c.args.clauses lines) c.finish.ensures
    (λ lines h. read_is_over c.args.variables c.args.variables c.args.clauses
    (λ n le _. le) c.args.clauses c.args.text.now lines c.word_laws.ensures.small (omega arith)
    (end_is_read c.args.variables c.args.clauses c.args.text.now c.loop-word.words
    (state_of c.loop-word.reading) lines c.in_default.ensures c.loop-word.invariant h))
