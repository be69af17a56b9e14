use Rattle.std.proofs.Common.{◌-◌, ◌+◌, length, take, drop, sym, ◌∙◌, arith}
use Rattle.std.proofs.lemmas.Grind.{common_steps}
use Rattle.cnf_base.specs.Modes.{word_of}
use Rattle.cnf_base.proofs.Prefixes.{id_behind}
use Rattle.cnf_base.proofs.words.Words.next_id.Goals as goal

pub returns-clause-word : goal.returns-clause-word
returns-clause-word c some =
    let all = c.self.inside.rest.now in
    let d = c.front_digits-len in
    let b = id_behind c.self.inside.mode all c.self.inside.at d.result.1 d.result.2 d.result.0.now c.in-InWord.is
    (omega arith)
    (grind (arith, common_steps, c.is_blank.ensures, c.if-not-is_blank.false)) d.ensures.rest d.ensures.within
    d.ensures.len d.ensures.value
    (c.ends_word.ensures.0 c.if-not-ends_word.false) c.if-len-gt10.false c.if-value-eq0.false in
    (c.self.inside.at + 1, word_of (take (length all - 1) (drop 1 all)), sym c.self.view_is ∙ b.0, b.1)
