use Rattle.confirmed_reports.proofs.Confirming.{are_confirmed}
use Rattle.confirmed_reports.proofs.laws.confirmed_law.Goals as goal

pub returns : goal.returns
returns c =
    are_confirmed c.names_law.ensures c.print_laws.ensures.rendered c.print_laws.ensures.shown
    c.judgement_law.ensures.confirmed c.line_laws.ensures
