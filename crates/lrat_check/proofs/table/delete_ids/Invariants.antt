use Rattle.std.proofs.Common.{◌≡◌, ℕ, get_or, take, List}
use Rattle.lrat_log.specs.Held.{without}
use Rattle.lrat_check.specs.declared.spans.Span.{Span}
use Rattle.lrat_check.specs.Spans.{held_in, AreSorted, AreWithin}
use Rattle.lrat_check.proofs.table.delete_ids.Given as goal

abbrev pub invariant-loop-id : goal.invariant-loop-id
invariant-loop-id l = record {
  held : (literals : List ℕ) (k : ℕ) → held_in literals l.spans k
      ≡ without (held_in literals l.initial.spans) (take l.id-index l.ids) k;
  sorted : AreSorted l.spans;
  within : (n : ℕ) → AreWithin l.initial.spans n → AreWithin l.spans n;
  ids : (k : ℕ) (d : Span) → (get_or l.spans k d).id ≡ (get_or l.initial.spans k d).id;
}
