use Rattle.report_replay.proofs.Confirmed.{confirmed_is_right}
use Rattle.report_replay.proofs.Converse.{right_is_confirmed}
use Rattle.report_replay.proofs.Ascending.{denied_is_least}
use Rattle.report_replay.proofs.Heights.{verdict_is_last}
use Rattle.report_replay.proofs.laws.judgement_law.Goals as goal

pub returns-clause-right : goal.returns-clause-right
returns-clause-right c = confirmed_is_right c.tuple_laws.ensures c.path_law.ensures.followed c.path_law.ensures.kind

pub returns-clause-confirmed : goal.returns-clause-confirmed
returns-clause-confirmed c = right_is_confirmed c.tuple_laws.ensures

pub returns-clause-denied : goal.returns-clause-denied
returns-clause-denied c = denied_is_least

pub returns-clause-last : goal.returns-clause-last
returns-clause-last c = verdict_is_last
