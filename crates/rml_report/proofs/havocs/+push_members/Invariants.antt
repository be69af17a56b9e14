use Rattle.std.proofs.Common.{◌≡◌, ◌++◌, ◌∷◌, [], length}
use Rattle.fol_sig.specs.Tables.{numbers}
use Rattle.fol_sig.specs.Tuples.{join_below}
use Rattle.rml_report.specs.TableText.{each_tuple, member_text}
use Rattle.rml_report.proofs.havocs.+push_members.Given as goal

abbrev pub decreases-push_members : goal.decreases-push_members
decreases-push_members l = length l.sorts.now

abbrev pub invariant-loop-element : goal.invariant-loop-element
invariant-loop-element l = record {
  text : l.out.items ≡ l.initial.out.items ++ join_below l.element
      (λ x. each_tuple l.structure.sizes (member_text l.tuples) (numbers l.rest) (l.initial.tuple.items ++ x ∷ []));
  tuple : l.tuple.items ≡ l.initial.tuple.items;
}
