use Rattle.rml_bmc.proofs.deciding.decide_known.Goals as goal

pub count_in-requires-clause-none : goal.count_in-requires-clause-none
count_in-requires-clause-none c = rw c.in-Infeasible.is at c.requires.known
