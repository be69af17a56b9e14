-- What a question is answered with is carried over to the answer as one of all. Limits are on the counts that the
-- options ask for.
use Rattle.std.proofs.Common.{subst}
use Rattle.lean_decide.specs.declared.settling.Counted.{Counted}
use Rattle.view_line.specs.Asking.{question_line}
use Rattle.view_run.specs.Inquiries.{EndsAsShown}
use Rattle.view_run.proofs.CarriedOver.{asked_ends, asked_due}
use Rattle.view_run.proofs.perform.show_asked.Goals as goal

pub returns-clause-due : goal.returns-clause-due
returns-clause-due g c =
    let told = g.F.Files.told c.args.files.now in
    let before = g.F.Files.faults c.args.files.now in
    let now = g.F.Files.faults c.show_question.new.files in
    let first = c.show_question.new.first.items in
    let second = c.show_question.new.second.items in
    let done = c.show_question.result in
    let q = question_line c.args.question in
    let options = c.args.options in
    rw c.as_answer.ensures
    (asked_due told before now first second done q options
    (subst (λ (k : Counted). EndsAsShown q k options.form told before now first second done)
    c.counted_by-counted.ensures c.show_question.ensures.ends))

pub returns-clause-ends : goal.returns-clause-ends
returns-clause-ends g c =
    let told = g.F.Files.told c.args.files.now in
    let before = g.F.Files.faults c.args.files.now in
    let now = g.F.Files.faults c.show_question.new.files in
    let first = c.show_question.new.first.items in
    let second = c.show_question.new.second.items in
    let done = c.show_question.result in
    let q = question_line c.args.question in
    let options = c.args.options in
    rw c.as_answer.ensures
    (asked_ends told before now first second done q options
    (subst (λ (k : Counted). EndsAsShown q k options.form told before now first second done)
    c.counted_by-counted.ensures c.show_question.ensures.ends))
