use Rattle.cnf_base.proofs.Numbers.{decimal_word, number_of-decimal, literal_word, number_of-literal, number_small}
use Rattle.cnf_base.proofs.Again.{twice}
use Rattle.cnf_base.proofs.Lines.{words_are}
use Rattle.cnf_base.proofs.Standing.{text_words_begin}
use Rattle.cnf_base.proofs.laws.word_laws.Goals as goal

pub returns : goal.returns
returns c = record {
  number = decimal_word;
  number_value = number_of-decimal;
  literal = literal_word;
  literal_value = number_of-literal;
  small = number_small;
  same = twice;
  words = words_are;
  places = text_words_begin;
}
