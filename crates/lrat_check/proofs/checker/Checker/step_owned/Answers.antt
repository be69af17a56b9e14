use Rattle.std.proofs.lemmas.Result.{on_ok_weaker}
use Rattle.lrat_check.specs.Checked.{held_now}
use Rattle.lrat_check.proofs.checker.Checker.step_owned.Goals as goal

pub returns-in-Add-clause-follows : goal.returns-in-Add-clause-follows
returns-in-Add-clause-follows c =
    rw c.in-Add.is (on_ok_weaker c.step_addition.result
    (λ e v s. c.soundness.ensures.addition v
    (held_now c.args.self.now) c.in-Add.lits c.in-Add.hints s e) c.step_addition.ensures.accepted)

pub returns-in-Add-clause-refused : goal.returns-in-Add-clause-refused
returns-in-Add-clause-refused c = rw c.in-Add.is c.step_addition.ensures.refused

pub returns-in-Delete-clause-refused : goal.returns-in-Delete-clause-refused
returns-in-Delete-clause-refused c = rw c.in-Delete.is c.step_deletion.ensures.refused
