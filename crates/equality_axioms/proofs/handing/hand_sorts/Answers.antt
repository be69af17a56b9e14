use Rattle.std.proofs.Common.{◌≡◌, ℕ, ◌<◌, List, [], subst, arith}
use Rattle.fol_sig.specs.Tuples.{join_below}
use Rattle.ground_terms.specs.Trees.{Tree}
use Rattle.ground_terms.specs.Calls.{Call}
use Rattle.ground_terms.specs.Taking.{TakesAll, calls_of_each, refused, each_taken, some_taken}
use Rattle.ground_terms.specs.Universe.{symbols_in, names_in}
use Rattle.equality_axioms.specs.Axioms.{sort_axioms}
use Rattle.equality_axioms.proofs.handing.hand_sorts.Goals as goal

pub loop-k-preserved : goal.loop-k-preserved
loop-k-preserved g c =
    let P : List Call → Type 0 = g.S.GroundSink.stands c.args.sink.now in
    let Q : List Call → Type 0 = g.S.GroundSink.stands c.loop-k.sink in
    let R : List Call → Type 0 = g.S.GroundSink.stands c.hand_sort.new.sink in
    let f : ℕ → List Tree =
    sort_axioms (symbols_in c.args.universe.now) (names_in c.args.universe.now) in
    each_taken P Q R [] f c.loop-k.k c.loop-k.invariant c.in_ok-hand_sort.ensures

pub returns-in_err-hand_sort : goal.returns-in_err-hand_sort
returns-in_err-hand_sort g c =
    let P : List Call → Type 0 = g.S.GroundSink.stands c.args.sink.now in
    let Q : List Call → Type 0 = g.S.GroundSink.stands c.loop-k.sink in
    let R : List Call → Type 0 = g.S.GroundSink.stands c.hand_sort.new.sink in
    let f : ℕ → List Tree =
    sort_axioms (symbols_in c.args.universe.now) (names_in c.args.universe.now) in
    let n = c.args.universe.now.signature.now.sorts in
    let e : c.sorts-k-end.result ≡ n = c.sorts-k-end.ensures.value in
    let lt : c.loop-k.k < n = subst (λ n. c.loop-k.k < n) e c.loop-k-test.true in
    refused P R c.from_residual.result _ c.from_residual.ensures.0
    (some_taken P Q R [] f c.loop-k.k c.loop-k.invariant n lt c.in_err-hand_sort.ensures)

pub returns : goal.returns
returns g c =
    let P : List Call → Type 0 = g.S.GroundSink.stands c.args.sink.now in
    let Q : List Call → Type 0 = g.S.GroundSink.stands c.loop-k.sink in
    let f : ℕ → List Tree =
    sort_axioms (symbols_in c.args.universe.now) (names_in c.args.universe.now) in
    let n = c.args.universe.now.signature.now.sorts in
    let e : c.sorts-k-end.result ≡ n = c.sorts-k-end.ensures.value in
    let end : c.loop-k.k ≡ n = omega (arith, c.loop-k.auto.k-end, c.loop-k-test.false, e) in
    subst (λ m. TakesAll P Q (calls_of_each (join_below m f))) end c.loop-k.invariant
