use Rattle.std.proofs.Common.{◌≡◌, ℕ, zero, suc, ◌<◌, ◌≤◌, List, [], ◌∷◌, ◌++◌, length, get_or, sym, ap, subst, arith}
use Rattle.std.specs.Prelude.{All}
use Rattle.std.proofs.lemmas.List.{append-nil}
use Rattle.fol_sig.specs.Tables.{InRange, numbers}
use Rattle.ground_terms.specs.Terms.{term_counts}
use Rattle.ground_terms.specs.Trees.{Tree}
use Rattle.ground_terms.specs.Calls.{Call}
use Rattle.ground_terms.specs.Taking.{TakesAll, TakesSome, calls_of_each, refused, each_taken, some_taken}
use Rattle.ground_terms.specs.Universe.{symbols_in, names_in}
use Rattle.equality_axioms.specs.Axioms.{scheme_sorts, axioms_at, join_tuples}
use Rattle.equality_axioms.specs.Walk.{FillsScheme}
use Rattle.equality_axioms.proofs.Walks.{no_sorts, first_and_rest, rest-length, longer_tuples}
use Rattle.equality_axioms.proofs.tuples.+tuples.Goals as goal

pub hand_tuples-hand_at-requires-clause-in_range : goal.hand_tuples-hand_at-requires-clause-in_range
hand_tuples-hand_at-requires-clause-in_range g t c =
    let counts = term_counts c.args.universe.now.terms.now in
    let none = no_sorts c.args.sorts.now (omega (arith, c.in-empty.len_below)) in
    subst (InRange counts (scheme_sorts (symbols_in c.args.universe.now) c.args.scheme)) (append-nil c.args.tuple.now)
    (c.requires.filled [] (subst (λ ks. InRange counts ks []) (sym none) tt))

pub hand_tuples-hand_longer-requires : goal.hand_tuples-hand_longer-requires
hand_tuples-hand_longer-requires g t c κs within =
    let ks = c.args.sorts.now in
    let counts = term_counts c.args.universe.now.terms.now in
    let le : 1 ≤ length ks = omega (arith, c.in-len1-up.len_at_least) in
    let e = first_and_rest ks (record { 0 = 0 }) le in
    let sorted = subst (All (λ k. k < length c.args.universe.now.terms.now)) e c.requires.sorted in
    let more = rest-length ks le in (
      omega (arith, c.decreases, more),
      (
        within,
        (
          c.requires.scheme,
          (
            sorted zero 0 (omega arith),
            (
              (λ i d lt. sorted (suc i) d (omega arith)),
              (
                omega (arith, more, c.requires.few),
                (subst (FillsScheme (symbols_in c.args.universe.now) counts c.args.scheme c.args.tuple.now) e
                    c.requires.filled),
              ),
            ),
          ),
        ),
      ),
    )

pub hand_longer-loop-term-preserved : goal.hand_longer-loop-term-preserved
hand_longer-loop-term-preserved g t c =
    let P : List Call → Type 0 = g.S.GroundSink.stands c.args.sink.now in
    let Q : List Call → Type 0 = g.S.GroundSink.stands c.loop-term.sink in
    let R : List Call → Type 0 = g.S.GroundSink.stands c.hand_tuples.new.sink in
    let sig = symbols_in c.args.universe.now in
    let counts = term_counts c.args.universe.now.terms.now in
    let rest = numbers c.args.rest.now in
    let at : List ℕ → List Tree = axioms_at sig (names_in c.args.universe.now) c.args.scheme in
    let f : ℕ → List Tree = λ x. join_tuples counts rest (λ xs. at (c.args.tuple.now ++ (x ∷ xs))) in
    let e = longer_tuples counts rest c.args.tuple.now c.longer_tuple-longer.result c.loop-term.term at
    c.longer_tuple-longer.ensures in
    each_taken P Q R [] f c.loop-term.term c.loop-term.invariant
    (subst (λ ts. TakesAll Q R (calls_of_each ts)) e c.in_ok-hand_tuples.ensures)

pub hand_longer-returns-in_err-hand_tuples : goal.hand_longer-returns-in_err-hand_tuples
hand_longer-returns-in_err-hand_tuples g t c =
    let P : List Call → Type 0 = g.S.GroundSink.stands c.args.sink.now in
    let Q : List Call → Type 0 = g.S.GroundSink.stands c.loop-term.sink in
    let R : List Call → Type 0 = g.S.GroundSink.stands c.hand_tuples.new.sink in
    let sig = symbols_in c.args.universe.now in
    let counts = term_counts c.args.universe.now.terms.now in
    let rest = numbers c.args.rest.now in
    let at : List ℕ → List Tree = axioms_at sig (names_in c.args.universe.now) c.args.scheme in
    let f : ℕ → List Tree = λ x. join_tuples counts rest (λ xs. at (c.args.tuple.now ++ (x ∷ xs))) in
    let e = longer_tuples counts rest c.args.tuple.now c.longer_tuple-longer.result c.loop-term.term at
    c.longer_tuple-longer.ensures in
    let n : get_or c.counts.result.now c.args.sort.0 0 ≡ get_or counts c.args.sort.0 0 =
    ap (λ ns. get_or ns c.args.sort.0 0) c.counts.ensures in
    refused P R c.from_residual.result _ c.from_residual.ensures.0
    (some_taken P Q R [] f c.loop-term.term c.loop-term.invariant (get_or counts c.args.sort.0 0)
    (subst (λ n. c.loop-term.term < n) n c.loop-term-test.true)
    (subst (λ ts. TakesSome Q R (calls_of_each ts)) e c.in_err-hand_tuples.ensures))
