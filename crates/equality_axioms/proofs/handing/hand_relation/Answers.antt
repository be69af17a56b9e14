use Rattle.std.proofs.Common.{◌≡◌, ℕ, ◌<◌, List, [], length, sym, ◌∙◌, ap, subst, arith}
use Rattle.std.proofs.lemmas.List.{length-map}
use Rattle.fol_sig.specs.Tuples.{join_below}
use Rattle.ground_terms.specs.Trees.{Tree}
use Rattle.ground_terms.specs.Calls.{Call}
use Rattle.ground_terms.specs.Taking.{TakesAll, calls_of_each, refused, each_taken, some_taken}
use Rattle.ground_terms.specs.Universe.{symbols_in, names_in}
use Rattle.equality_axioms.specs.declared.scheme.Scheme.TheVariants.{Relation}
use Rattle.equality_axioms.specs.Axioms.{scheme_axioms}
use Rattle.equality_axioms.proofs.handing.hand_relation.Goals as goal

pub loop-place-preserved : goal.loop-place-preserved
loop-place-preserved g c =
    let P : List Call → Type 0 = g.S.GroundSink.stands c.args.sink.now in
    let Q : List Call → Type 0 = g.S.GroundSink.stands c.loop-place.sink in
    let R : List Call → Type 0 = g.S.GroundSink.stands c.hand_scheme.new.sink in
    let f : ℕ → List Tree =
    λ (i : ℕ). scheme_axioms (symbols_in c.args.universe.now)
    (names_in c.args.universe.now) (Relation c.args.relation i) in
    each_taken P Q R [] f c.loop-place.place c.loop-place.invariant c.in_ok-hand_scheme.ensures

pub returns-in_err-hand_scheme : goal.returns-in_err-hand_scheme
returns-in_err-hand_scheme g c =
    let P : List Call → Type 0 = g.S.GroundSink.stands c.args.sink.now in
    let Q : List Call → Type 0 = g.S.GroundSink.stands c.loop-place.sink in
    let R : List Call → Type 0 = g.S.GroundSink.stands c.hand_scheme.new.sink in
    let f : ℕ → List Tree =
    λ (i : ℕ). scheme_axioms (symbols_in c.args.universe.now)
    (names_in c.args.universe.now) (Relation c.args.relation i) in
    let n = length ((symbols_in c.args.universe.now).sorts_of c.args.relation.0) in
    let e : (length c.sorts_of-sorts.result.now)
    ≡ n =
    (sym (length-map c.sorts_of-sorts.result.now (λ k. k.0)) ∙ ap length c.sorts_of-sorts.ensures.value) in
    let lt : c.loop-place.place < n =
    subst (λ n. c.loop-place.place < n) e c.loop-place-test.true in
    refused P R c.from_residual.result _ c.from_residual.ensures.0
    (some_taken P Q R [] f c.loop-place.place c.loop-place.invariant
    n lt c.in_err-hand_scheme.ensures)

pub returns : goal.returns
returns g c =
    let P : List Call → Type 0 = g.S.GroundSink.stands c.args.sink.now in
    let Q : List Call → Type 0 = g.S.GroundSink.stands c.loop-place.sink in
    let f : ℕ → List Tree =
    λ (i : ℕ). scheme_axioms (symbols_in c.args.universe.now)
    (names_in c.args.universe.now) (Relation c.args.relation i) in
    let n = length ((symbols_in c.args.universe.now).sorts_of c.args.relation.0) in
    let e : (length c.sorts_of-sorts.result.now)
    ≡ n =
    (sym (length-map c.sorts_of-sorts.result.now (λ k. k.0)) ∙ ap length c.sorts_of-sorts.ensures.value) in
    let end : c.loop-place.place ≡ n =
    omega (arith, c.loop-place.auto.place-end, c.loop-place-test.false, e) in
    subst (λ m. TakesAll P Q (calls_of_each (join_below m f))) end c.loop-place.invariant
