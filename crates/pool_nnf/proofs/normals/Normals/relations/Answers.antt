use Rattle.std.proofs.Common.{refl}
use Rattle.fol_formula.specs.Syntax.{FormTree, TermTrees}
use Rattle.fol_nnf.specs.Normal.{Leaf as LeafOf, made, relation_literal}
use Rattle.fol_pool.specs.Trees.{a_form, some_terms, as_terms}
use Rattle.pool_nnf.specs.declared.leaf.Leaf.{Leaf}
use Rattle.fol_pool.specs.Growing.{grows_on}
use Rattle.pool_nnf.proofs.Joining.{turn_leaf, turned}
use Rattle.pool_nnf.proofs.normals.Normals.relations.Goals as goal

pub relation_leaf-requires : goal.relation_leaf-requires
relation_leaf-requires c =
    turn_leaf some_terms as_terms (λ ts. refl) c.args.self.now c.loop-args.self c.loop-args.invariant.grows
    c.args.leaves.now
    c.requires c.loop-args.args-index (record { conditions = record { 0 = 0 }; node = record { 0 = 0 } })
    c.loop-args-test.true

pub loop-args-preserved : goal.loop-args-preserved
loop-args-preserved c =
    let h = c.loop-args.invariant in
    let start = c.args.self.now in
    let old = c.loop-args.self in
    let new = c.relation_leaf.new.self in
    let none : Leaf = record { conditions = record { 0 = 0 }; node = record { 0 = 0 } } in
    let f : LeafOf TermTrees → LeafOf FormTree = made (relation_literal c.args.positive c.args.rel.0) in
    let g : LeafOf TermTrees → LeafOf FormTree = made (relation_literal c.args.positive c.args.rel.0) in
    record {
      grows = grows_on start old new h.grows c.relation_leaf.ensures.grows;
      made = turned some_terms as_terms (λ ts. refl) start old h.grows c.args.leaves.now c.requires
          c.loop-args.args-index
          none c.loop-args-test.true a_form new c.relation_leaf.ensures.grows c.loop-args.all.items f g
          c.in_ok-leaf.leaf c.push.new.self.items refl
          c.in_ok-push.ensures.items h.made c.in_ok-leaf.ensures.leaf;
    }

pub returns-in_err-push-clause-grows : goal.returns-in_err-push-clause-grows
returns-in_err-push-clause-grows c =
    grows_on c.args.self.now c.loop-args.self c.relation_leaf.new.self c.loop-args.invariant.grows
    c.relation_leaf.ensures.grows
