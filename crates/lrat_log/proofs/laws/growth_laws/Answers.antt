use Rattle.lrat_log.proofs.Growth.{after_lines-push, last_id-push, adds_empty-push, adds_empty-push_deletion}
use Rattle.lrat_log.proofs.Growth.{log-push, accepted-push, learnt_push}
use Rattle.lrat_log.proofs.laws.growth_laws.Goals as goal

pub returns : goal.returns
returns c = record {
  held = after_lines-push;
  last = last_id-push;
  addition = adds_empty-push;
  deletion = adds_empty-push_deletion;
  log = log-push;
  accepted = accepted-push;
  learnt = learnt_push;
}
