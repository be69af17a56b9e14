use Rattle.std.proofs.Common.{List, ◌++◌, length, subst}
use Rattle.fol_sig.specs.Tuples.{join_below}
use Rattle.ground_terms.specs.Trees.{Tree}
use Rattle.ground_terms.specs.Calls.{Call}
use Rattle.ground_terms.specs.Taking.{TakesSome, Hands, calls_of_each, refused, begins, cut, step, stop, last}
use Rattle.ground_terms.specs.Universe.{symbols_in, names_in}
use Rattle.equality_axioms.specs.Axioms.{sort_axioms, relation_axioms, function_axioms}
use Rattle.equality_axioms.proofs.Walks.{three_parts}
use Rattle.equality_axioms.proofs.handing.axioms_into.Goals as goal

pub returns-in_err-hand_sorts : goal.returns-in_err-hand_sorts
returns-in_err-hand_sorts g c =
    let P : List Call → Type 0 = g.S.GroundSink.stands c.args.sink.now in
    let Q : List Call → Type 0 = g.S.GroundSink.stands c.hand_sorts.new.sink in
    let ps : List Tree =
    join_below c.args.universe.now.signature.now.sorts
    (sort_axioms (symbols_in c.args.universe.now) (names_in c.args.universe.now)) in
    let qs : List Tree =
    join_below (length c.args.universe.now.signature.now.relations)
    (relation_axioms (symbols_in c.args.universe.now)
    (names_in c.args.universe.now)) in
    let rs : List Tree =
    join_below (length c.args.universe.now.signature.now.functions)
    (function_axioms (symbols_in c.args.universe.now)
    (names_in c.args.universe.now)) in
    let whole = calls_of_each ps ++ (calls_of_each qs ++ calls_of_each rs) in
    refused P Q c.from_residual.result _ c.from_residual.ensures.0
    (subst (TakesSome P Q) (three_parts ps qs rs)
    (cut P Q (calls_of_each ps) (calls_of_each qs ++ calls_of_each rs) c.in_err-hand_sorts.ensures))

pub returns-in_err-hand_relations : goal.returns-in_err-hand_relations
returns-in_err-hand_relations g c =
    let P : List Call → Type 0 = g.S.GroundSink.stands c.args.sink.now in
    let Q : List Call → Type 0 = g.S.GroundSink.stands c.hand_sorts.new.sink in
    let R : List Call → Type 0 = g.S.GroundSink.stands c.hand_relations.new.sink in
    let ps : List Tree =
    join_below c.args.universe.now.signature.now.sorts
    (sort_axioms (symbols_in c.args.universe.now) (names_in c.args.universe.now)) in
    let qs : List Tree =
    join_below (length c.args.universe.now.signature.now.relations)
    (relation_axioms (symbols_in c.args.universe.now)
    (names_in c.args.universe.now)) in
    let rs : List Tree =
    join_below (length c.args.universe.now.signature.now.functions)
    (function_axioms (symbols_in c.args.universe.now)
    (names_in c.args.universe.now)) in
    let whole = calls_of_each ps ++ (calls_of_each qs ++ calls_of_each rs) in
    refused P R c.from_residual-in_err-hand_relations.result _ c.from_residual-in_err-hand_relations.ensures.0
    (subst (TakesSome P R) (three_parts ps qs rs)
    (stop P Q R whole (calls_of_each qs) (calls_of_each rs)
    (begins P Q (calls_of_each ps) (calls_of_each qs ++ calls_of_each rs) c.in_ok-hand_sorts.ensures)
    c.in_err-hand_relations.ensures))

pub returns : goal.returns
returns g c =
    let P : List Call → Type 0 = g.S.GroundSink.stands c.args.sink.now in
    let Q : List Call → Type 0 = g.S.GroundSink.stands c.hand_sorts.new.sink in
    let R : List Call → Type 0 = g.S.GroundSink.stands c.hand_relations.new.sink in
    let T : List Call → Type 0 = g.S.GroundSink.stands c.hand_functions.new.sink in
    let ps : List Tree =
    join_below c.args.universe.now.signature.now.sorts
    (sort_axioms (symbols_in c.args.universe.now) (names_in c.args.universe.now)) in
    let qs : List Tree =
    join_below (length c.args.universe.now.signature.now.relations)
    (relation_axioms (symbols_in c.args.universe.now)
    (names_in c.args.universe.now)) in
    let rs : List Tree =
    join_below (length c.args.universe.now.signature.now.functions)
    (function_axioms (symbols_in c.args.universe.now)
    (names_in c.args.universe.now)) in
    let whole = calls_of_each ps ++ (calls_of_each qs ++ calls_of_each rs) in
    subst (Hands P T c.hand_functions.result) (three_parts ps qs rs)
    (last P R T whole (calls_of_each rs) c.hand_functions.result
    (step P Q R whole (calls_of_each qs) (calls_of_each rs)
    (begins P Q (calls_of_each ps) (calls_of_each qs ++ calls_of_each rs) c.in_ok-hand_sorts.ensures)
    c.in_ok-hand_relations.ensures) c.hand_functions.ensures)
