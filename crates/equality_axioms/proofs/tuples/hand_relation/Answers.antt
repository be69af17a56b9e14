use Rattle.std.proofs.Common.{◌≡◌, ℕ, ◌<◌, List, ◌∷◌, [], get_or, set, ap, subst, arith}
use Rattle.fol_sig.specs.Tuples.{join_below}
use Rattle.ground_terms.specs.Terms.{term_counts}
use Rattle.ground_terms.specs.declared.atom.Atom.TheVariants.{Rel, Eq}
use Rattle.ground_terms.specs.Trees.{Tree}
use Rattle.ground_terms.specs.Calls.{Call}
use Rattle.ground_terms.specs.Taking.{TakesAll, calls_of_each, refused, each_taken, some_taken}
use Rattle.equality_axioms.specs.Axioms.{clause}
use Rattle.equality_axioms.proofs.tuples.hand_relation.Goals as goal

pub loop-term-preserved : goal.loop-term-preserved
loop-term-preserved g c =
    let P : List Call → Type 0 = g.S.GroundSink.stands c.args.sink.now in
    let Q : List Call → Type 0 = g.S.GroundSink.stands c.loop-term.sink in
    let R : List Call → Type 0 = g.S.GroundSink.stands c.exchange_in_relation.new.sink in
    let f : ℕ → List Tree =
    λ (y : ℕ). clause (Eq c.args.sort (get_or c.args.tuple.now c.args.place 0) y
    ∷ Rel c.args.relation c.args.tuple.now ∷ []) (Rel c.args.relation (set c.args.tuple.now c.args.place y))
    ∷ [] in
    each_taken P Q R [] f c.loop-term.term c.loop-term.invariant c.in_ok-exchange_in_relation.ensures

pub returns-in_err-exchange_in_relation : goal.returns-in_err-exchange_in_relation
returns-in_err-exchange_in_relation g c =
    let P : List Call → Type 0 = g.S.GroundSink.stands c.args.sink.now in
    let Q : List Call → Type 0 = g.S.GroundSink.stands c.loop-term.sink in
    let R : List Call → Type 0 = g.S.GroundSink.stands c.exchange_in_relation.new.sink in
    let f : ℕ → List Tree =
    λ (y : ℕ). clause (Eq c.args.sort (get_or c.args.tuple.now c.args.place 0) y
    ∷ Rel c.args.relation c.args.tuple.now ∷ []) (Rel c.args.relation (set c.args.tuple.now c.args.place y))
    ∷ [] in
    let e : get_or c.counts.result.now c.args.sort.0 0 ≡ get_or (term_counts c.args.terms.now) c.args.sort.0 0 =
    ap (λ ns. get_or ns c.args.sort.0 0) c.counts.ensures in
    let lt : c.loop-term.term < get_or (term_counts c.args.terms.now) c.args.sort.0 0 =
    subst (λ n. c.loop-term.term < n) e c.loop-term-test.true in
    refused P R c.from_residual.result _ c.from_residual.ensures.0
    (some_taken P Q R [] f c.loop-term.term c.loop-term.invariant
    (get_or (term_counts c.args.terms.now) c.args.sort.0 0) lt c.in_err-exchange_in_relation.ensures)

pub returns : goal.returns
returns g c =
    let P : List Call → Type 0 = g.S.GroundSink.stands c.args.sink.now in
    let Q : List Call → Type 0 = g.S.GroundSink.stands c.loop-term.sink in
    let f : ℕ → List Tree =
    λ (y : ℕ). clause (Eq c.args.sort (get_or c.args.tuple.now c.args.place 0) y
    ∷ Rel c.args.relation c.args.tuple.now ∷ []) (Rel c.args.relation (set c.args.tuple.now c.args.place y))
    ∷ [] in
    let e : get_or c.counts.result.now c.args.sort.0 0 ≡ get_or (term_counts c.args.terms.now) c.args.sort.0 0 =
    ap (λ ns. get_or ns c.args.sort.0 0) c.counts.ensures in
    let end : c.loop-term.term ≡ get_or (term_counts c.args.terms.now) c.args.sort.0 0 =
    omega (arith, c.loop-term.auto.term-end, c.loop-term-test.false, e) in
    subst (λ m. TakesAll P Q (calls_of_each (join_below m f))) end c.loop-term.invariant
