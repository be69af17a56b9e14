use Rattle.std.proofs.Common.{◌-◌, ◌∷◌, [], refl}
use Rattle.base.specs.Lists.{count_from}
use Rattle.fol_formula.specs.Syntax.{equal, bound}
use Rattle.rml_sorts.specs.Listed.{constant, is_one_of}
use Rattle.rml_sorts.proofs.ListedLists.{number_turn, pushed_form}
use Rattle.rml_sorts.proofs.listed.one_of.Goals as goal

pub loop-name-preserved : goal.loop-name-preserved
loop-name-preserved c =
    let name = c.loop-name.name in
    let old = c.loop-name.parts.items in
    let new = c.push.new.self.items in
    number_turn is_one_of (λ k ks. equal (bound 0) (constant k) ∷ []) (λ k ks. refl) name c.args.end old new
    (is_one_of (count_from c.args.first (c.args.end - c.args.first))) c.loop-name-test.true
    (pushed_form old new c.is_named.result (equal (bound 0) (constant name)) c.in_ok-push.ensures.items
    c.is_named.ensures) c.loop-name.invariant
