use Rattle.std.proofs.Common.{subst}
use Rattle.cnf_base.specs.Answers.{Answers}
use Rattle.lrat_log.proofs.Grammar.{by_words}
use Rattle.lrat_log.proofs.Standing.{answer_stands}
use Rattle.lrat_log.proofs.reader.read_log.Goals as goal

pub returns-clause-log : goal.returns-clause-log
returns-clause-log c =
    subst (λ said. Answers said c.read_text-read.result)
    (by_words c.piece_law.ensures c.args.variables c.args.clauses c.args.text.now) c.read_text-read.ensures.log

pub returns-clause-place : goal.returns-clause-place
returns-clause-place c =
    answer_stands c.word_laws.ensures.places c.args.variables c.args.clauses c.args.text.now c.read_text-read.result
    c.read_text-read.ensures.log
