use Rattle.std.proofs.Common.{◌+◌, ◌<◌, ◌∷◌, sym, ◌∙◌, ap, take, drop, arith}
use Rattle.cnf_base.specs.Modes.{words_from}
use Rattle.cnf_base.specs.declared.text.LineMode.TheVariants.{InWord}
use Rattle.cnf_base.proofs.Scanning.{first_word}
use Rattle.cnf_base.proofs.words.Words.next_word.Goals as goal

pub returns : goal.returns
returns c =
    let rest = c.at_word-at.result.0.now in
    let at = c.at_word-at.result.1 in
    let len = c.word_len-len.ensures.value in
    let some : 0 < c.word_len-len.result = omega arith in
    let text = c.split_at.ensures.front ∙ ap (λ k. take k rest) len in
    let behind = c.split_at.ensures.back ∙ ap (λ k. drop k rest) len in
    sym c.self.view_is ∙ sym c.at_word-at.ensures.words
    ∙ first_word c.at_word-at.result.2 at rest c.at_word-at.ensures.start (rw len at some)
    ∙ (λ i. record { at = at; text = sym text i } ∷ words_from InWord (at + sym len i) (sym behind i))
