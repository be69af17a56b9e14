-- No line of an accepted log is refused.
use Rattle.std.proofs.Common.{◌≡◌, ℕ, List, [], ◌∷◌, refl, ap, ◌∙◌}
use Rattle.std.specs.Prelude.{None}
use Rattle.lrat_log.specs.Held.{Held, after_line}
use Rattle.lrat_log.specs.Accepted.{IsAcceptedFrom, outcome_of, last_id}
use Rattle.lrat_log.specs.declared.line.Line.{Line}
use Rattle.lrat_check.specs.Whole.{first_refusal, refusal_or}

pub none_refused : (variables : ℕ) (held : Held) (last : ℕ) (lines : List Line) → IsAcceptedFrom variables held last lines
    → first_refusal held lines ≡ None
none_refused variables held last [] h = refl
none_refused variables held last (line ∷ lines) h =
    ap (λ o. refusal_or o line (first_refusal (after_line held line) lines)) h.1
    ∙ none_refused variables (after_line held line) (last_id last (line ∷ [])) lines h.2
