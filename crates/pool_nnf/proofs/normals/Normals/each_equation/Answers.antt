use Rattle.std.proofs.Common.{refl, ap}
use Rattle.fol_formula.specs.Syntax.{FormTree, TermTree}
use Rattle.fol_nnf.specs.Normal.{Leaf as LeafOf, behind, equal_literal}
use Rattle.fol_pool.specs.Trees.{a_form, a_term, as_term}
use Rattle.pool_nnf.specs.Leaves.{term_leaf}
use Rattle.pool_nnf.specs.declared.leaf.Leaf.{Leaf}
use Rattle.fol_pool.specs.Growing.{grows_on}
use Rattle.pool_nnf.proofs.Joining.{leaf_same, turn_leaf, turned}
use Rattle.pool_nnf.proofs.normals.Normals.each_equation.Goals as goal

pub equation_leaf-requires-clause-second : goal.equation_leaf-requires-clause-second
equation_leaf-requires-clause-second c =
    turn_leaf a_term as_term (λ t. refl) c.args.self.now c.loop-b.self c.loop-b.invariant.grows c.args.others.now
    c.requires.others c.loop-b.b-index (record { conditions = record { 0 = 0 }; node = record { 0 = 0 } })
    c.loop-b-test.true

pub loop-b-preserved : goal.loop-b-preserved
loop-b-preserved c =
    let h = c.loop-b.invariant in
    let start = c.args.self.now in
    let old = c.loop-b.self in
    let new = c.equation_leaf.new.self in
    let none : Leaf = record { conditions = record { 0 = 0 }; node = record { 0 = 0 } } in
    let f : LeafOf TermTree → LeafOf FormTree = behind (equal_literal c.args.positive) (term_leaf start c.args.a) in
    let g : LeafOf TermTree → LeafOf FormTree = behind (equal_literal c.args.positive) (term_leaf old c.args.a) in
    record {
      grows = grows_on start old new h.grows c.equation_leaf.ensures.grows;
      made = turned a_term as_term (λ t. refl) start old h.grows c.args.others.now c.requires.others c.loop-b.b-index
          none c.loop-b-test.true a_form new c.equation_leaf.ensures.grows c.loop-b.all.items f g
          c.in_ok-leaf.leaf c.push.new.self.items (ap (behind (equal_literal c.args.positive))
          (leaf_same a_term as_term (λ t. refl) start old h.grows c.args.a c.requires.first))
          c.in_ok-push.ensures.items h.made c.in_ok-leaf.ensures.leaf;
    }

pub returns-in_err-push-clause-grows : goal.returns-in_err-push-clause-grows
returns-in_err-push-clause-grows c =
    grows_on c.args.self.now c.loop-b.self c.equation_leaf.new.self c.loop-b.invariant.grows
    c.equation_leaf.ensures.grows
