use Rattle.std.proofs.Common.{◌≡◌, map}
use Rattle.ground_terms.specs.TermViews.{plain_term}
use Rattle.ground_terms.proofs.Made.{no_lists}
use Rattle.ground_terms.proofs.terms.empty_lists.Given as goal

abbrev pub invariant-loop-k : goal.invariant-loop-k
invariant-loop-k l = map (λ v. map plain_term v.items) l.lists.items ≡ no_lists l._k
