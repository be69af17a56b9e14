use Rattle.std.proofs.Common.{refl, ap}
use Rattle.fol_formula.specs.Syntax.{TermTrees, term_then}
use Rattle.fol_nnf.specs.Normal.{Leaf as LeafOf, behind}
use Rattle.fol_pool.specs.Trees.{a_term, as_term, some_terms, as_terms}
use Rattle.pool_nnf.specs.Leaves.{term_leaf}
use Rattle.pool_nnf.specs.declared.leaf.Leaf.{Leaf}
use Rattle.fol_pool.specs.Growing.{grows_on}
use Rattle.pool_nnf.proofs.Joining.{leaf_same, turn_leaf, turned}
use Rattle.pool_nnf.proofs.normals.Normals.each_before.Goals as goal

pub term_before-requires-clause-rest : goal.term_before-requires-clause-rest
term_before-requires-clause-rest c =
    turn_leaf some_terms as_terms (λ ts. refl) c.args.self.now c.loop-other.self c.loop-other.invariant.grows
    c.args.rest.now
    c.requires.rest c.loop-other.other-index (record { conditions = record { 0 = 0 }; node = record { 0 = 0 } })
    c.loop-other-test.true

pub loop-other-preserved : goal.loop-other-preserved
loop-other-preserved c =
    let h = c.loop-other.invariant in
    let start = c.args.self.now in
    let old = c.loop-other.self in
    let new = c.term_before.new.self in
    let none : Leaf = record { conditions = record { 0 = 0 }; node = record { 0 = 0 } } in
    let f : LeafOf TermTrees → LeafOf TermTrees = behind term_then (term_leaf start c.args.first) in
    let g : LeafOf TermTrees → LeafOf TermTrees = behind term_then (term_leaf old c.args.first) in
    record {
      grows = grows_on start old new h.grows c.term_before.ensures.grows;
      made = turned some_terms as_terms (λ ts. refl) start old h.grows c.args.rest.now c.requires.rest
          c.loop-other.other-index
          none c.loop-other-test.true some_terms new c.term_before.ensures.grows c.loop-other.all.items f g
          c.in_ok-leaf.leaf c.push.new.self.items (ap (behind term_then)
          (leaf_same a_term as_term (λ t. refl) start old h.grows c.args.first c.requires.first))
          c.in_ok-push.ensures.items h.made c.in_ok-leaf.ensures.leaf;
    }

pub returns-in_err-push-clause-grows : goal.returns-in_err-push-clause-grows
returns-in_err-push-clause-grows c =
    grows_on c.args.self.now c.loop-other.self c.term_before.new.self c.loop-other.invariant.grows
    c.term_before.ensures.grows
