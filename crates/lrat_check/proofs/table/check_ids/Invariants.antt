use Rattle.std.proofs.Common.{◌≡◌, ℕ, ◌<◌, get_or, drop, take, length, List}
use Rattle.cnf_base.specs.Literals.{member}
use Rattle.lrat_log.specs.Held.{without}
use Rattle.lrat_log.specs.Accepted.{outcome_of_deletion}
use Rattle.lrat_check.specs.declared.spans.Span.{Span}
use Rattle.lrat_check.specs.Spans.{marked, held_in, AreUpTo}
use Rattle.lrat_check.proofs.table.check_ids.Given as goal

abbrev pub invariant-loop-id : goal.invariant-loop-id
invariant-loop-id l = record {
  same : (literals : List ℕ) → outcome_of_deletion (held_in literals l.spans) l.ids
      ≡ outcome_of_deletion (without (held_in literals l.spans) (take l.id-index l.ids)) (drop l.id-index l.ids);
  marks : (k : ℕ) (d : Span) → k < length l.spans
      → marked l.marks l.epoch k ≡ member (get_or l.spans k d).id (take l.id-index l.ids);
  past : AreUpTo l.epoch l.marks;
}
