use Rattle.std.proofs.Common.{◌-◌, length, take, drop, sym, ◌∙◌, arith}
use Rattle.std.proofs.lemmas.Grind.{common_steps}
use Rattle.cnf_base.specs.Modes.{word_of}
use Rattle.cnf_base.proofs.Prefixes.{next_behind}
use Rattle.cnf_base.proofs.words.Words.next_number.Goals as goal

pub returns-clause-word : goal.returns-clause-word
returns-clause-word c =
    let all = c.self.inside.rest.now in (
      word_of (take (length all - 1) (drop 1 all)),
      sym c.self.view_is
          ∙ next_behind c.self.inside.mode all c.self.inside.at c.in-Some.len c.in-Some.after.now c.in-Some.number
          c.in-InWord.is (omega arith)
          (grind (arith, common_steps, c.is_blank.ensures, c.if-not-is_blank.false)) c.in-Some.ensures.rest
          c.in-Some.ensures.len c.in-Some.ensures.some c.in-Some.ensures.value,
      c.in-Some.ensures.value,
    )
