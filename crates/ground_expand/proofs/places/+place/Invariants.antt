use Rattle.std.proofs.Common.{◌≡◌, ◌≤◌, ◌+◌, ◌++◌, length, drop}
use Rattle.fol_formula.specs.Syntax.{size_of}
use Rattle.fol_formula.specs.View.{terms}
use Rattle.ground_terms.specs.Universe.{symbols_in, names_in}
use Rattle.ground_expand.specs.Instance.{places_of_terms}
use Rattle.ground_expand.specs.Scopes.{sorts_in, terms_in}
use Rattle.ground_expand.specs.Groundable.{AreGroundableTerms}
use Rattle.ground_expand.proofs.places.+place.Given as goal

abbrev pub invariant-places-loop-t : goal.invariant-places-loop-t
invariant-places-loop-t l = record {
  known : AreGroundableTerms (symbols_in l.universe) (sorts_in l.scope) (terms (drop l.t-index l.ts));
  few : length l.all + size_of (terms (drop l.t-index l.ts)) ≤ 8;
  made : l.all ++ places_of_terms (names_in l.universe) (terms (drop l.t-index l.ts))
      (terms_in l.scope) ≡ places_of_terms (names_in l.universe) (terms l.ts) (terms_in l.scope);
}
