use Rattle.lrat_log.proofs.Again.{AreWords, read_again}
use Rattle.lrat_log.proofs.laws.round_trip.Goals as goal

pub returns : goal.returns
returns c =
    let words : AreWords = record {
      number = c.word_laws.ensures.number;
      number_value = c.word_laws.ensures.number_value;
      literal = c.word_laws.ensures.literal;
      literal_value = c.word_laws.ensures.literal_value;
      same = c.word_laws.ensures.same;
    } in
    read_again words c.word_laws.ensures.words c.piece_law.ensures
