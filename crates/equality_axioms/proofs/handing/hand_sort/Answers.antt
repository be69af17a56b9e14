use Rattle.std.proofs.Common.{List, ◌++◌, subst}
use Rattle.ground_terms.specs.Trees.{Tree}
use Rattle.ground_terms.specs.Calls.{Call}
use Rattle.ground_terms.specs.Taking.{TakesSome, Hands, calls_of_each, refused, begins, cut, step, stop, last}
use Rattle.ground_terms.specs.Universe.{symbols_in, names_in}
use Rattle.equality_axioms.specs.declared.scheme.Scheme.TheVariants.{Reflexive, Symmetric, Transitive}
use Rattle.equality_axioms.specs.Axioms.{scheme_axioms}
use Rattle.equality_axioms.proofs.Walks.{three_parts}
use Rattle.equality_axioms.proofs.handing.hand_sort.Goals as goal

pub returns-in_err-hand_scheme : goal.returns-in_err-hand_scheme
returns-in_err-hand_scheme g c =
    let P : List Call → Type 0 = g.S.GroundSink.stands c.args.sink.now in
    let Q : List Call → Type 0 = g.S.GroundSink.stands c.hand_scheme.new.sink in
    let ps : List Tree =
    scheme_axioms (symbols_in c.args.universe.now) (names_in c.args.universe.now)
    (Reflexive c.args.sort) in
    let qs : List Tree =
    scheme_axioms (symbols_in c.args.universe.now) (names_in c.args.universe.now)
    (Symmetric c.args.sort) in
    let rs : List Tree =
    scheme_axioms (symbols_in c.args.universe.now) (names_in c.args.universe.now)
    (Transitive c.args.sort) in
    let whole = calls_of_each ps ++ (calls_of_each qs ++ calls_of_each rs) in
    refused P Q c.from_residual.result _ c.from_residual.ensures.0
    (subst (TakesSome P Q) (three_parts ps qs rs)
    (cut P Q (calls_of_each ps) (calls_of_each qs ++ calls_of_each rs) c.in_err-hand_scheme.ensures))

pub returns-in_err-hand_scheme-2 : goal.returns-in_err-hand_scheme-2
returns-in_err-hand_scheme-2 g c =
    let P : List Call → Type 0 = g.S.GroundSink.stands c.args.sink.now in
    let Q : List Call → Type 0 = g.S.GroundSink.stands c.hand_scheme.new.sink in
    let R : List Call → Type 0 = g.S.GroundSink.stands c.hand_scheme-2.new.sink in
    let ps : List Tree =
    scheme_axioms (symbols_in c.args.universe.now) (names_in c.args.universe.now)
    (Reflexive c.args.sort) in
    let qs : List Tree =
    scheme_axioms (symbols_in c.args.universe.now) (names_in c.args.universe.now)
    (Symmetric c.args.sort) in
    let rs : List Tree =
    scheme_axioms (symbols_in c.args.universe.now) (names_in c.args.universe.now)
    (Transitive c.args.sort) in
    let whole = calls_of_each ps ++ (calls_of_each qs ++ calls_of_each rs) in
    refused P R c.from_residual-in_err-hand_scheme-2.result _ c.from_residual-in_err-hand_scheme-2.ensures.0
    (subst (TakesSome P R) (three_parts ps qs rs)
    (stop P Q R whole (calls_of_each qs) (calls_of_each rs)
    (begins P Q (calls_of_each ps) (calls_of_each qs ++ calls_of_each rs) c.in_ok-hand_scheme.ensures)
    c.in_err-hand_scheme-2.ensures))

pub returns : goal.returns
returns g c =
    let P : List Call → Type 0 = g.S.GroundSink.stands c.args.sink.now in
    let Q : List Call → Type 0 = g.S.GroundSink.stands c.hand_scheme.new.sink in
    let R : List Call → Type 0 = g.S.GroundSink.stands c.hand_scheme-2.new.sink in
    let T : List Call → Type 0 = g.S.GroundSink.stands c.hand_scheme-3.new.sink in
    let ps : List Tree =
    scheme_axioms (symbols_in c.args.universe.now) (names_in c.args.universe.now)
    (Reflexive c.args.sort) in
    let qs : List Tree =
    scheme_axioms (symbols_in c.args.universe.now) (names_in c.args.universe.now)
    (Symmetric c.args.sort) in
    let rs : List Tree =
    scheme_axioms (symbols_in c.args.universe.now) (names_in c.args.universe.now)
    (Transitive c.args.sort) in
    let whole = calls_of_each ps ++ (calls_of_each qs ++ calls_of_each rs) in
    subst (Hands P T c.hand_scheme-3.result) (three_parts ps qs rs)
    (last P R T whole (calls_of_each rs) c.hand_scheme-3.result
    (step P Q R whole (calls_of_each qs) (calls_of_each rs)
    (begins P Q (calls_of_each ps) (calls_of_each qs ++ calls_of_each rs) c.in_ok-hand_scheme.ensures)
    c.in_ok-hand_scheme-2.ensures) c.hand_scheme-3.ensures)
