use Rattle.std.proofs.Common.{refl, ap}
use Rattle.fol_formula.specs.Syntax.{TermTree}
use Rattle.fol_nnf.specs.Normal.{Leaf as LeafOf, given}
use Rattle.fol_pool.specs.Trees.{as_formula, a_term, as_term, form_at}
use Rattle.pool_nnf.specs.declared.leaf.Leaf.{Leaf}
use Rattle.fol_pool.specs.Growing.{grows_on, read_stays}
use Rattle.pool_nnf.proofs.Joining.{turn_leaf, turned}
use Rattle.pool_nnf.proofs.normals.Normals.each_given.Goals as goal

pub given_leaf-requires-clause-leaf : goal.given_leaf-requires-clause-leaf
given_leaf-requires-clause-leaf c =
    turn_leaf a_term as_term (λ t. refl) c.args.self.now c.loop-leaf.self c.loop-leaf.invariant.grows c.args.leaves.now
    c.requires.leaves c.loop-leaf.leaf-index (record { conditions = record { 0 = 0 }; node = record { 0 = 0 } })
    c.loop-leaf-test.true

pub loop-leaf-preserved : goal.loop-leaf-preserved
loop-leaf-preserved c =
    let h = c.loop-leaf.invariant in
    let start = c.args.self.now in
    let old = c.loop-leaf.self in
    let new = c.given_leaf.new.self in
    let none : Leaf = record { conditions = record { 0 = 0 }; node = record { 0 = 0 } } in
    let f : LeafOf TermTree → LeafOf TermTree = given (form_at start c.args.condition.0) in
    let g : LeafOf TermTree → LeafOf TermTree = given (form_at old c.args.condition.0) in
    record {
      grows = grows_on start old new h.grows c.given_leaf.ensures.grows;
      made = turned a_term as_term (λ t. refl) start old h.grows c.args.leaves.now c.requires.leaves
          c.loop-leaf.leaf-index
          none c.loop-leaf-test.true a_term new c.given_leaf.ensures.grows c.loop-leaf.all.items f g
          c.in_ok-leaf.leaf c.push.new.self.items (ap given (read_stays start old h.grows as_formula c.args.condition.0
          c.requires.condition.0))
          c.in_ok-push.ensures.items h.made c.in_ok-leaf.ensures.leaf;
    }

pub returns-in_err-push-clause-grows : goal.returns-in_err-push-clause-grows
returns-in_err-push-clause-grows c =
    grows_on c.args.self.now c.loop-leaf.self c.given_leaf.new.self c.loop-leaf.invariant.grows
    c.given_leaf.ensures.grows
