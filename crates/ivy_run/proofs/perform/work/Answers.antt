-- The words have the command line that was read.
use Rattle.ivy_run.proofs.perform.work.Goals as goal

pub returns-in-Ok-Some-clause-does : goal.returns-in-Ok-Some-clause-does
returns-in-Ok-Some-clause-does g c = rw (← c.in-Ok-Some.ensures.line, c.in-Ok-Some.field-0-is) c.perform.ensures.does
