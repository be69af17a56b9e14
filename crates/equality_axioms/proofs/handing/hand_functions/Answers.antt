use Rattle.std.proofs.Common.{◌≡◌, ℕ, ◌<◌, List, [], length, subst, arith}
use Rattle.fol_sig.specs.Tuples.{join_below}
use Rattle.ground_terms.specs.Trees.{Tree}
use Rattle.ground_terms.specs.Calls.{Call}
use Rattle.ground_terms.specs.Taking.{TakesAll, calls_of_each, refused, each_taken, some_taken}
use Rattle.ground_terms.specs.Universe.{symbols_in, names_in}
use Rattle.equality_axioms.specs.Axioms.{function_axioms}
use Rattle.equality_axioms.proofs.handing.hand_functions.Goals as goal

pub loop-f-preserved : goal.loop-f-preserved
loop-f-preserved g c =
    let P : List Call → Type 0 = g.S.GroundSink.stands c.args.sink.now in
    let Q : List Call → Type 0 = g.S.GroundSink.stands c.loop-f.sink in
    let R : List Call → Type 0 = g.S.GroundSink.stands c.hand_function.new.sink in
    let f : ℕ → List Tree =
    function_axioms (symbols_in c.args.universe.now) (names_in c.args.universe.now) in
    each_taken P Q R [] f c.loop-f.f c.loop-f.invariant c.in_ok-hand_function.ensures

pub returns-in_err-hand_function : goal.returns-in_err-hand_function
returns-in_err-hand_function g c =
    let P : List Call → Type 0 = g.S.GroundSink.stands c.args.sink.now in
    let Q : List Call → Type 0 = g.S.GroundSink.stands c.loop-f.sink in
    let R : List Call → Type 0 = g.S.GroundSink.stands c.hand_function.new.sink in
    let f : ℕ → List Tree =
    function_axioms (symbols_in c.args.universe.now) (names_in c.args.universe.now) in
    let n = length c.args.universe.now.signature.now.functions in
    let e : c.function_count-f-end.result ≡ n = c.function_count-f-end.ensures in
    let lt : c.loop-f.f < n = subst (λ n. c.loop-f.f < n) e c.loop-f-test.true in
    refused P R c.from_residual.result _ c.from_residual.ensures.0
    (some_taken P Q R [] f c.loop-f.f c.loop-f.invariant n lt
    c.in_err-hand_function.ensures)

pub returns : goal.returns
returns g c =
    let P : List Call → Type 0 = g.S.GroundSink.stands c.args.sink.now in
    let Q : List Call → Type 0 = g.S.GroundSink.stands c.loop-f.sink in
    let f : ℕ → List Tree =
    function_axioms (symbols_in c.args.universe.now) (names_in c.args.universe.now) in
    let n = length c.args.universe.now.signature.now.functions in
    let e : c.function_count-f-end.result ≡ n = c.function_count-f-end.ensures in
    let end : c.loop-f.f ≡ n =
    omega (arith, c.loop-f.auto.f-end, c.loop-f-test.false, e) in
    subst (λ m. TakesAll P Q (calls_of_each (join_below m f))) end c.loop-f.invariant
