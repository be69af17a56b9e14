use Rattle.std.proofs.Common.{subst, sym, ◌∙◌}
use Rattle.fol_sig.specs.Tables.{InRange}
use Rattle.fol_formula.specs.View.{terms}
use Rattle.ground_terms.specs.Terms.{term_counts}
use Rattle.ground_terms.specs.Numberings.{numbering}
use Rattle.ground_terms.specs.Universe.{symbols_in}
use Rattle.ground_expand.specs.Scopes.{sorts_in, terms_in}
use Rattle.ground_expand.proofs.Within.{places_are_in, places-within}
use Rattle.ground_expand.proofs.places.+place.Goals as goal

pub application-place-requires-clause-in_range : goal.application-place-requires-clause-in_range
application-place-requires-clause-in_range t c =
    let sig = symbols_in c.args.universe.now in
    let lists = c.args.universe.now.terms.now in
    subst (λ xs. InRange (term_counts lists) (sig.from_of c.args.function.0) xs)
    (sym (c.as_slice.ensures.value ∙ c.places-arguments.ensures))
    (places-within c.range_laws.ensures.along sig (numbering sig lists)
    (places_are_in c.place_laws.ensures.placed sig lists c.sorts-sorts.ensures.sorted c.args.universe.now.closed)
    (terms c.args.arguments.now) (sorts_in c.args.scope.now) (terms_in c.args.scope.now) (sig.from_of c.args.function.0)
    c.requires.known c.requires.fits c.requires.in_range)
