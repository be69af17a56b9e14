use Rattle.std.proofs.Common.{subst}
use Rattle.cnf_base.specs.Answers.{Answers}
use Rattle.cnf_base.proofs.Grammar.{by_words}
use Rattle.cnf_base.proofs.Standing.{answer_stands}
use Rattle.cnf_base.proofs.reader.read_cnf.Goals as goal

pub returns-clause-answer : goal.returns-clause-answer
returns-clause-answer c = subst (λ said. Answers said c.read_text-read.result)
    (by_words c.args.text.now) c.read_text-read.ensures

pub returns-clause-place : goal.returns-clause-place
returns-clause-place c = answer_stands c.args.text.now c.read_text-read.result c.read_text-read.ensures
