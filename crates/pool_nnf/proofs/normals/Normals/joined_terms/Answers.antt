use Rattle.std.proofs.Common.{List, map, refl, ap}
use Rattle.fol_formula.specs.Syntax.{TermTree, TermTrees, term_then}
use Rattle.fol_nnf.specs.Normal.{Leaf as LeafOf, behind}
use Rattle.fol_pool.specs.Trees.{a_term, as_term, some_terms, as_terms}
use Rattle.pool_nnf.specs.Leaves.{terms_leaf}
use Rattle.pool_nnf.specs.declared.leaf.Leaf.{Leaf}
use Rattle.fol_pool.specs.Growing.{grows_on}
use Rattle.pool_nnf.proofs.Joining.{leaves_here, leaves_same, turn_leaf, appended}
use Rattle.pool_nnf.proofs.normals.Normals.joined_terms.Goals as goal

pub each_before-requires-clause-first : goal.each_before-requires-clause-first
each_before-requires-clause-first c =
    turn_leaf a_term as_term (λ t. refl) c.args.self.now c.loop-leaf.self c.loop-leaf.invariant.grows c.args.first.now
    c.requires.first c.loop-leaf.leaf-index (record { conditions = record { 0 = 0 }; node = record { 0 = 0 } })
    c.loop-leaf-test.true

pub each_before-requires-clause-rest : goal.each_before-requires-clause-rest
each_before-requires-clause-rest c =
    leaves_here some_terms as_terms (λ ts. refl) c.args.self.now c.loop-leaf.self c.loop-leaf.invariant.grows
    c.args.rest.now
    c.requires.rest

pub returns-in_err-append-clause-grows : goal.returns-in_err-append-clause-grows
returns-in_err-append-clause-grows c =
    grows_on c.args.self.now c.loop-leaf.self c.each_before.new.self c.loop-leaf.invariant.grows
    c.each_before.ensures.grows

pub loop-leaf-preserved : goal.loop-leaf-preserved
loop-leaf-preserved c =
    let h = c.loop-leaf.invariant in
    let start = c.args.self.now in
    let old = c.loop-leaf.self in
    let new = c.each_before.new.self in
    let none : Leaf = record { conditions = record { 0 = 0 }; node = record { 0 = 0 } } in
    let others = c.args.rest.now in
    let F : List (LeafOf TermTrees) → LeafOf TermTree → List (LeafOf TermTrees) =
    λ ms l. map (behind (term_then) l) ms in
    record {
      grows = grows_on start old new h.grows c.each_before.ensures.grows;
      made = appended a_term as_term (λ t. refl) start old h.grows c.args.first.now c.requires.first
          c.loop-leaf.leaf-index
          none c.loop-leaf-test.true some_terms new c.each_before.ensures.grows c.loop-leaf.all.items
          (F (map (terms_leaf start) others)) (F (map (terms_leaf old) others)) c.in_ok-more.more.items
          c.append.new.self.items
          (ap F (leaves_same some_terms as_terms (λ ts. refl) start old h.grows others c.requires.rest))
          c.in_ok-append.ensures.items h.made c.in_ok-more.ensures.leaves;
    }
