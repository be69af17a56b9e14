use Rattle.std.proofs.Common.{◌≡◌, length, arith}
use Rattle.std.proofs.lemmas.Grind.{common_steps}
use Rattle.cnf_base.specs.WordByWord.{read_words, read_by_words}
use Rattle.cnf_base.specs.ReaderState.{state_of}
use Rattle.cnf_base.proofs.Readings.{end_is_formula, fails_as}
use Rattle.cnf_base.proofs.reader.read_text.Goals as goal

pub returns-in-Err-take_numbers : goal.returns-in-Err-take_numbers
returns-in-Err-take_numbers c =
    let same : read_words (state_of c.take_word.new.self) c.next_word.new.self (length c.args.text.now)
    ≡ read_by_words c.args.text.now =
    grind (arith, common_steps, c.loop-word.invariant, c.in-Some.ensures, c.in-Ok.ensures) in
    fails_as _ _ c.in-Err-take_numbers.e same (c.in-Err-take_numbers.ensures.taken (length c.args.text.now))

pub finish-requires : goal.finish-requires
finish-requires c =
    λ f h. end_is_formula c.args.text.now c.loop-word.words
    (state_of c.loop-word.reading) f c.in_default.ensures c.loop-word.invariant h
