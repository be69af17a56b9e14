use Rattle.std.proofs.Common.{◌≡◌, ℕ, ◌<◌, List, [], length, subst, arith}
use Rattle.fol_sig.specs.Tuples.{join_below}
use Rattle.ground_terms.specs.Trees.{Tree}
use Rattle.ground_terms.specs.Calls.{Call}
use Rattle.ground_terms.specs.Taking.{TakesAll, calls_of_each, refused, each_taken, some_taken}
use Rattle.ground_terms.specs.Universe.{symbols_in, names_in}
use Rattle.equality_axioms.specs.Axioms.{relation_axioms}
use Rattle.equality_axioms.proofs.handing.hand_relations.Goals as goal

pub loop-r-preserved : goal.loop-r-preserved
loop-r-preserved g c =
    let P : List Call → Type 0 = g.S.GroundSink.stands c.args.sink.now in
    let Q : List Call → Type 0 = g.S.GroundSink.stands c.loop-r.sink in
    let R : List Call → Type 0 = g.S.GroundSink.stands c.hand_relation.new.sink in
    let f : ℕ → List Tree =
    relation_axioms (symbols_in c.args.universe.now) (names_in c.args.universe.now) in
    each_taken P Q R [] f c.loop-r.r c.loop-r.invariant c.in_ok-hand_relation.ensures

pub returns-in_err-hand_relation : goal.returns-in_err-hand_relation
returns-in_err-hand_relation g c =
    let P : List Call → Type 0 = g.S.GroundSink.stands c.args.sink.now in
    let Q : List Call → Type 0 = g.S.GroundSink.stands c.loop-r.sink in
    let R : List Call → Type 0 = g.S.GroundSink.stands c.hand_relation.new.sink in
    let f : ℕ → List Tree =
    relation_axioms (symbols_in c.args.universe.now) (names_in c.args.universe.now) in
    let n = length c.args.universe.now.signature.now.relations in
    let e : c.relation_count-r-end.result ≡ n = c.relation_count-r-end.ensures in
    let lt : c.loop-r.r < n = subst (λ n. c.loop-r.r < n) e c.loop-r-test.true in
    refused P R c.from_residual.result _ c.from_residual.ensures.0
    (some_taken P Q R [] f c.loop-r.r c.loop-r.invariant n lt
    c.in_err-hand_relation.ensures)

pub returns : goal.returns
returns g c =
    let P : List Call → Type 0 = g.S.GroundSink.stands c.args.sink.now in
    let Q : List Call → Type 0 = g.S.GroundSink.stands c.loop-r.sink in
    let f : ℕ → List Tree =
    relation_axioms (symbols_in c.args.universe.now) (names_in c.args.universe.now) in
    let n = length c.args.universe.now.signature.now.relations in
    let e : c.relation_count-r-end.result ≡ n = c.relation_count-r-end.ensures in
    let end : c.loop-r.r ≡ n =
    omega (arith, c.loop-r.auto.r-end, c.loop-r-test.false, e) in
    subst (λ m. TakesAll P Q (calls_of_each (join_below m f))) end c.loop-r.invariant
