use Rattle.std.proofs.Common.{List, map, refl, ap}
use Rattle.fol_formula.specs.Syntax.{FormTree, TermTree}
use Rattle.fol_nnf.specs.Normal.{Leaf as LeafOf, behind, equal_literal}
use Rattle.fol_pool.specs.Trees.{a_form, a_term, as_term}
use Rattle.pool_nnf.specs.Leaves.{term_leaf}
use Rattle.pool_nnf.specs.declared.leaf.Leaf.{Leaf}
use Rattle.fol_pool.specs.Growing.{grows_on}
use Rattle.pool_nnf.proofs.Joining.{leaves_here, leaves_same, turn_leaf, appended}
use Rattle.pool_nnf.proofs.normals.Normals.joined_equations.Goals as goal

pub each_equation-requires-clause-first : goal.each_equation-requires-clause-first
each_equation-requires-clause-first c =
    turn_leaf a_term as_term (λ t. refl) c.args.self.now c.loop-leaf.self c.loop-leaf.invariant.grows c.args.first.now
    c.requires.first c.loop-leaf.leaf-index (record { conditions = record { 0 = 0 }; node = record { 0 = 0 } })
    c.loop-leaf-test.true

pub each_equation-requires-clause-others : goal.each_equation-requires-clause-others
each_equation-requires-clause-others c =
    leaves_here a_term as_term (λ t. refl) c.args.self.now c.loop-leaf.self c.loop-leaf.invariant.grows
    c.args.second.now
    c.requires.second

pub returns-in_err-append-clause-grows : goal.returns-in_err-append-clause-grows
returns-in_err-append-clause-grows c =
    grows_on c.args.self.now c.loop-leaf.self c.each_equation.new.self c.loop-leaf.invariant.grows
    c.each_equation.ensures.grows

pub loop-leaf-preserved : goal.loop-leaf-preserved
loop-leaf-preserved c =
    let h = c.loop-leaf.invariant in
    let start = c.args.self.now in
    let old = c.loop-leaf.self in
    let new = c.each_equation.new.self in
    let none : Leaf = record { conditions = record { 0 = 0 }; node = record { 0 = 0 } } in
    let others = c.args.second.now in
    let F : List (LeafOf TermTree) → LeafOf TermTree → List (LeafOf FormTree) =
    λ ms l. map (behind (equal_literal c.args.positive) l) ms in
    record {
      grows = grows_on start old new h.grows c.each_equation.ensures.grows;
      made = appended a_term as_term (λ t. refl) start old h.grows c.args.first.now c.requires.first
          c.loop-leaf.leaf-index
          none c.loop-leaf-test.true a_form new c.each_equation.ensures.grows c.loop-leaf.all.items
          (F (map (term_leaf start) others)) (F (map (term_leaf old) others)) c.in_ok-more.more.items
          c.append.new.self.items
          (ap F (leaves_same a_term as_term (λ t. refl) start old h.grows others c.requires.second))
          c.in_ok-append.ensures.items h.made c.in_ok-more.ensures.leaves;
    }
