use Rattle.std.proofs.Common.{◌≡◌, ℕ, ◌<◌, List, ◌∷◌, [], get_or, set, sym, ap, ◌∙◌, subst, arith}
use Rattle.fol_sig.specs.Tuples.{join_below}
use Rattle.ground_terms.specs.Terms.{term_counts}
use Rattle.ground_terms.specs.declared.atom.Atom.TheVariants.{Eq}
use Rattle.ground_terms.specs.Trees.{Tree}
use Rattle.ground_terms.specs.Calls.{Call}
use Rattle.ground_terms.specs.Taking.{TakesAll, calls_of_each, refused, each_taken, some_taken}
use Rattle.ground_terms.specs.Universe.{symbols_in, names_in}
use Rattle.equality_axioms.specs.Axioms.{clause, equation}
use Rattle.equality_axioms.proofs.Elements.{exchanged, range-length}
use Rattle.equality_axioms.proofs.tuples.hand_function.Goals as goal

pub loop-term-preserved : goal.loop-term-preserved
loop-term-preserved g c =
    let P : List Call → Type 0 = g.S.GroundSink.stands c.args.sink.now in
    let Q : List Call → Type 0 = g.S.GroundSink.stands c.loop-term.sink in
    let R : List Call → Type 0 = g.S.GroundSink.stands c.exchange_in_function.new.sink in
    let f : ℕ → List Tree =
    λ (y : ℕ). clause (Eq c.args.sort (get_or c.args.tuple.now c.args.place 0) y ∷ [])
    (equation ((symbols_in c.args.universe.now).into_of c.args.function.0)
    ((names_in c.args.universe.now).place c.args.function.0 c.args.tuple.now)
    ((names_in c.args.universe.now).place c.args.function.0
    (set c.args.tuple.now c.args.place y))) ∷ [] in
    each_taken P Q R [] f c.loop-term.term c.loop-term.invariant c.in_ok-exchange_in_function.ensures

pub returns-in_err-exchange_in_function : goal.returns-in_err-exchange_in_function
returns-in_err-exchange_in_function g c =
    let P : List Call → Type 0 = g.S.GroundSink.stands c.args.sink.now in
    let Q : List Call → Type 0 = g.S.GroundSink.stands c.loop-term.sink in
    let R : List Call → Type 0 = g.S.GroundSink.stands c.exchange_in_function.new.sink in
    let f : ℕ → List Tree =
    λ (y : ℕ). clause (Eq c.args.sort (get_or c.args.tuple.now c.args.place 0) y ∷ [])
    (equation ((symbols_in c.args.universe.now).into_of c.args.function.0)
    ((names_in c.args.universe.now).place c.args.function.0 c.args.tuple.now)
    ((names_in c.args.universe.now).place c.args.function.0
    (set c.args.tuple.now c.args.place y))) ∷ [] in
    let n = get_or (term_counts c.args.universe.now.terms.now) c.args.sort.0 0 in
    let e : get_or c.counts.result.now c.args.sort.0 0 ≡ n =
    ap (λ ns. get_or ns c.args.sort.0 0) c.counts.ensures in
    let lt : c.loop-term.term < n =
    subst (λ n. c.loop-term.term < n) e c.loop-term-test.true in
    refused P R c.from_residual.result _ c.from_residual.ensures.0
    (some_taken P Q R [] f c.loop-term.term c.loop-term.invariant
    n lt c.in_err-exchange_in_function.ensures)

pub returns : goal.returns
returns g c =
    let P : List Call → Type 0 = g.S.GroundSink.stands c.args.sink.now in
    let Q : List Call → Type 0 = g.S.GroundSink.stands c.loop-term.sink in
    let f : ℕ → List Tree =
    λ (y : ℕ). clause (Eq c.args.sort (get_or c.args.tuple.now c.args.place 0) y ∷ [])
    (equation ((symbols_in c.args.universe.now).into_of c.args.function.0)
    ((names_in c.args.universe.now).place c.args.function.0 c.args.tuple.now)
    ((names_in c.args.universe.now).place c.args.function.0
    (set c.args.tuple.now c.args.place y))) ∷ [] in
    let n = get_or (term_counts c.args.universe.now.terms.now) c.args.sort.0 0 in
    let e : get_or c.counts.result.now c.args.sort.0 0 ≡ n =
    ap (λ ns. get_or ns c.args.sort.0 0) c.counts.ensures in
    let end : c.loop-term.term ≡ n =
    omega (arith, c.loop-term.auto.term-end, c.loop-term-test.false, e) in
    subst (λ m. TakesAll P Q (calls_of_each (join_below m f))) end c.loop-term.invariant

pub exchange_in_function-requires-clause-term : goal.exchange_in_function-requires-clause-term
exchange_in_function-requires-clause-term g c =
    let counts = term_counts c.args.universe.now.terms.now in
    let from = (symbols_in c.args.universe.now).from_of c.args.function.0 in
    let e : get_or c.counts.result.now c.args.sort.0 0 ≡ get_or counts (get_or from c.args.place 0) 0 =
    ap (λ ns. get_or ns c.args.sort.0 0) c.counts.ensures ∙ ap (λ k. get_or counts k 0) c.requires.sort in
    exchanged counts from c.args.tuple.now c.args.place c.loop-term.term c.requires.in_range
    (subst (λ n. c.loop-term.term < n) e c.loop-term-test.true) c.requires.place

pub exchange_in_function-requires-clause-place : goal.exchange_in_function-requires-clause-place
exchange_in_function-requires-clause-place g c =
    subst (λ n. c.args.place < n)
    (sym (range-length (term_counts c.args.universe.now.terms.now)
    ((symbols_in c.args.universe.now).from_of c.args.function.0) c.args.tuple.now c.requires.in_range)) c.requires.place
