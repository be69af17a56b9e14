use Rattle.std.proofs.Common.{◌+◌, ◌<◌, ◌≤◌, length, get_or, map, ap, sym, subst, ◌∙◌}
use Rattle.fol_sig.specs.Symbols.{symbols}
use Rattle.fol_sig.specs.Tables.{numbers, InRange, tuple_count, place_of}
use Rattle.ground_terms.specs.Terms.{Lists, AreClosed, term_counts}
use Rattle.ground_terms.specs.TermViews.{plain_term}
use Rattle.ground_terms.specs.Numberings.{numbering, IsPlaced}
use Rattle.ground_terms.proofs.Firsts.{place_facts}
use Rattle.ground_terms.proofs.terms.Herbrand.place.Goals as goal

pub place_in-requires-clause-known : goal.place_in-requires-clause-known
place_in-requires-clause-known c =
    let sig = symbols c.args.self.now.signature.now in
    let f = c.args.function.0 in
    let xs = c.args.arguments.now in
    let lists = map (λ v. map plain_term v.items) c.terms.inside.lists.items in
    let closed : AreClosed sig lists = subst (AreClosed sig) (sym c.terms.view_is) c.args.self.now.closed in
    let inside =
    subst (λ (ls : Lists). InRange (term_counts ls) (sig.from_of f) xs) (sym c.terms.view_is) c.requires.in_range in
    let facts =
    place_facts c.tuple_laws.ensures sig lists c.terms.inside.counts.items c.terms.inside.firsts.items f xs
    c.sorts-sorts.ensures.sorted closed c.requires.known inside c.terms.invariant.0 c.terms.invariant.1 in
    subst (λ fs. f < length fs) (sym c.deref-2.ensures.value) facts.known

pub place_in-requires-clause-room : goal.place_in-requires-clause-room
place_in-requires-clause-room c =
    let sig = symbols c.args.self.now.signature.now in
    let f = c.args.function.0 in
    let xs = c.args.arguments.now in
    let lists = map (λ v. map plain_term v.items) c.terms.inside.lists.items in
    let closed : AreClosed sig lists = subst (AreClosed sig) (sym c.terms.view_is) c.args.self.now.closed in
    let inside =
    subst (λ (ls : Lists). InRange (term_counts ls) (sig.from_of f) xs) (sym c.terms.view_is) c.requires.in_range in
    let facts =
    place_facts c.tuple_laws.ensures sig lists c.terms.inside.counts.items c.terms.inside.firsts.items f xs
    c.sorts-sorts.ensures.sorted closed c.requires.known inside c.terms.invariant.0 c.terms.invariant.1 in
    let k = sig.into_of f in
    let a = subst (λ fs. get_or fs f 0 + tuple_count c.terms.inside.counts.items (sig.from_of f)
    ≤ get_or c.terms.inside.counts.items k 0) (sym c.deref-2.ensures.value) facts.room in
    let b = subst (λ d. get_or c.deref-2.result.now f 0 + tuple_count d (sig.from_of f) ≤ get_or d k 0)
    (sym c.deref.ensures.value) a in (
      k,
      subst (λ ks. get_or c.deref-2.result.now f 0 + tuple_count c.deref.result.now ks
          ≤ get_or c.deref.result.now k 0) (sym c.from_of.ensures.value) b,
    )

pub returns-clause-value : goal.returns-clause-value
returns-clause-value c =
    let sig = symbols c.args.self.now.signature.now in
    let f = c.args.function.0 in
    let xs = c.args.arguments.now in
    let lists = map (λ v. map plain_term v.items) c.terms.inside.lists.items in
    let closed : AreClosed sig lists = subst (AreClosed sig) (sym c.terms.view_is) c.args.self.now.closed in
    let inside =
    subst (λ (ls : Lists). InRange (term_counts ls) (sig.from_of f) xs) (sym c.terms.view_is) c.requires.in_range in
    let facts =
    place_facts c.tuple_laws.ensures sig lists c.terms.inside.counts.items c.terms.inside.firsts.items f xs
    c.sorts-sorts.ensures.sorted closed c.requires.known inside c.terms.invariant.0 c.terms.invariant.1 in
    c.place_in.ensures
    ∙ ap (λ fs. get_or fs f 0 + place_of c.deref.result.now (numbers c.from_of.result.now) xs) c.deref-2.ensures.value
    ∙ ap (λ d. get_or c.terms.inside.firsts.items f 0 + place_of d (numbers c.from_of.result.now) xs)
    c.deref.ensures.value
    ∙ ap (λ ks. get_or c.terms.inside.firsts.items f 0 + place_of c.terms.inside.counts.items ks xs)
    c.from_of.ensures.value
    ∙ facts.sum
    ∙ ap (λ (ls : Lists). (numbering sig ls).place f xs) c.terms.view_is

pub returns-clause-placed : goal.returns-clause-placed
returns-clause-placed c =
    let sig = symbols c.args.self.now.signature.now in
    let f = c.args.function.0 in
    let xs = c.args.arguments.now in
    let lists = map (λ v. map plain_term v.items) c.terms.inside.lists.items in
    let closed : AreClosed sig lists = subst (AreClosed sig) (sym c.terms.view_is) c.args.self.now.closed in
    let inside =
    subst (λ (ls : Lists). InRange (term_counts ls) (sig.from_of f) xs) (sym c.terms.view_is) c.requires.in_range in
    let facts =
    place_facts c.tuple_laws.ensures sig lists c.terms.inside.counts.items c.terms.inside.firsts.items f xs
    c.sorts-sorts.ensures.sorted closed c.requires.known inside c.terms.invariant.0 c.terms.invariant.1 in
    subst (λ (ls : Lists). IsPlaced sig ls f xs) c.terms.view_is facts.placed
