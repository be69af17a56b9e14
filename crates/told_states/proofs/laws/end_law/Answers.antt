use Rattle.told_states.proofs.PathEnds.{keeps_sizes, alike}
use Rattle.told_states.proofs.laws.end_law.Goals as goal

pub returns : goal.returns
returns c = λ axioms path havocs sig s t fits_s fits_t ends.
    alike sig s t fits_s fits_t (keeps_sizes axioms path havocs s t ends)
