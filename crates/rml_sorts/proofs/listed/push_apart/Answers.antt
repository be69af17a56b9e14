use Rattle.std.proofs.Common.{◌++◌, ◌-◌, ◌∷◌, [], map, refl}
use Rattle.base.specs.Lists.{count_from}
use Rattle.fol_formula.specs.View.{form}
use Rattle.rml_sorts.specs.Listed.{apart, apart_from}
use Rattle.rml_sorts.proofs.ListedLists.{number_turn, pushed_form}
use Rattle.rml_sorts.proofs.listed.push_apart.Goals as goal

pub loop-other-preserved : goal.loop-other-preserved
loop-other-preserved c =
    let name = c.args.name in
    let old = c.loop-other.parts.items in
    let new = c.push.new.self.items in
    number_turn (apart_from name) (λ k ks. apart name k ∷ []) (λ k ks. refl) c.loop-other.other c.args.end old new
    (map form c.args.parts.now.items ++ apart_from name (count_from c.args.from (c.args.end - c.args.from)))
    c.loop-other-test.true
    (pushed_form old new c.in_ok-part.part (apart name c.loop-other.other) c.in_ok-push.ensures.items
    c.in_ok-part.ensures) c.loop-other.invariant
