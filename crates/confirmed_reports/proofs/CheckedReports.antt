-- What `check` prints is confirmed.
use Rattle.command_parts.specs.Limits.{ceilings_of}
use Rattle.confirmed_reports.specs.Confirmed.{ReportsAreConfirmed, CheckedIsConfirmed}
use Rattle.confirmed_reports.proofs.Numbers.{has_numbers}

pub checked_are_confirmed : ReportsAreConfirmed → CheckedIsConfirmed
checked_are_confirmed confirmed asked text m r a range is checked short replayed =
    let named = checked.model.named in
    confirmed text m r a is.0 checked is.1.reports
    (has_numbers (ceilings_of asked) range.terms.1 range.conflicts.1 m named r is.1.now short) short replayed
