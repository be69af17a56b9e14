use Rattle.std.proofs.Common.{◌≡◌, ap, sym, subst, ◌∙◌}
use Rattle.fol_sig.specs.Tables.{InRange, numbers}
use Rattle.fol_sig.specs.Tuples.{tuple_at}
use Rattle.ground_terms.specs.Terms.{term_counts}
use Rattle.ground_terms.specs.Values.{elements_of}
use Rattle.ground_terms.specs.Universe.{symbols_in, names_in}
use Rattle.structure_back.specs.Rows.{looked_up}
use Rattle.structure_back.proofs.Setting.{picked-within}
use Rattle.structure_back.proofs.functions.function_cell.Goals.{After-as_slice-2}
use Rattle.structure_back.proofs.functions.function_cell.Goals as goal

picked : (c : After-as_slice-2)
    → c.as_slice-2.result.now ≡ elements_of (looked_up c.args.classes.now.members)
    ((symbols_in c.args.universe.now).from_of c.args.function.0) c.tuple_of_number-tuple.result
picked c =
    let member = looked_up c.args.classes.now.members in
    c.as_slice-2.ensures.value ∙ c.elements-members.ensures
    ∙ ap (elements_of member (numbers c.from_of-sorts.result.now)) c.as_slice.ensures.value
    ∙ ap (λ ks. elements_of member ks c.tuple_of_number-tuple.result) c.from_of-sorts.ensures.value

pub place-place-requires-clause-in_range : goal.place-place-requires-clause-in_range
place-place-requires-clause-in_range c =
    let sig = symbols_in c.args.universe.now in
    let f = c.args.function.0 in
    let sizes = c.args.classes.now.sizes.items in
    let tuple = c.tuple_of_number-tuple.result in
    let inside : InRange sizes (sig.from_of f) tuple =
    subst (λ ns. InRange ns (sig.from_of f) tuple) c.deref.ensures.value
    (subst (λ ks. InRange c.deref.result.now ks tuple) c.from_of-sorts.ensures.value
    c.tuple_of_number-tuple.ensures.in_range) in
    subst (InRange (term_counts c.args.universe.now.terms.now) (sig.from_of f)) (sym (picked c))
    (picked-within sizes (term_counts c.args.universe.now.terms.now) sig.sorts
    (looked_up c.args.classes.now.members) c.requires.classes.within (sig.from_of f) tuple
    (c.sorts-sorts.ensures.sorted.functions f c.requires.known) inside)

pub returns-clause-value : goal.returns-clause-value
returns-clause-value c =
    let sig = symbols_in c.args.universe.now in
    let names = names_in c.args.universe.now in
    let f = c.args.function.0 in
    let v = looked_up c.args.classes.now.numbers in
    let member = looked_up c.args.classes.now.members in
    let tuple : c.tuple_of_number-tuple.result ≡ tuple_at c.args.classes.now.sizes.items (sig.from_of f) c.args.number =
    c.tuple_of_number-tuple.ensures.value
    ∙ ap (λ ns. tuple_at ns (numbers c.from_of-sorts.result.now) c.args.number) c.deref.ensures.value
    ∙ ap (λ ks. tuple_at c.args.classes.now.sizes.items ks c.args.number) c.from_of-sorts.ensures.value in
    c.get.ensures ∙ ap (λ k. v k c.place-place.result) c.into_of-into.ensures
    ∙ ap (v (sig.into_of f))
    (c.place-place.ensures.value ∙ ap (names.place f)
    (picked ((goal.at.returns-clause-value c).After-as_slice-2) ∙ ap (elements_of member (sig.from_of f)) tuple))
