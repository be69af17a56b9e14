use Rattle.std.proofs.Common.{refl}
use Rattle.fol_pool.specs.Trees.{a_form, as_formula}
use Rattle.pool_nnf.specs.declared.leaf.Leaf.{Leaf}
use Rattle.fol_pool.specs.Growing.{grows_on}
use Rattle.pool_nnf.proofs.Joining.{turn_leaf}
use Rattle.pool_nnf.proofs.normals.Normals.any_of.Goals as goal
use Rattle.std.proofs.Common.{◌≡◌, ◌+◌, ◌-◌, ◌<◌, length, arith}
use Rattle.pool_nnf.proofs.Joining.{literals_step}

pub conjunction_of-requires : goal.conjunction_of-requires
conjunction_of-requires c =
    let k = c.loop-i.i - 1 in
    let lt : k < length c.args.leaves.now = omega arith in
    turn_leaf a_form as_formula (λ p. refl) c.args.self.now c.loop-i.self c.loop-i.invariant.grows c.args.leaves.now
    c.requires k (record { conditions = record { 0 = 0 }; node = record { 0 = 0 } }) lt

pub loop-i-preserved : goal.loop-i-preserved
loop-i-preserved c =
    let h = c.loop-i.invariant in
    let k = c.loop-i.i - 1 in
    let start = c.args.self.now in
    let old = c.loop-i.self in
    let taken = c.conjunction_of.new.self in
    let new = c.add-in-loop-i.new.self in
    let lt : k < length c.args.leaves.now = omega arith in
    let count : c.loop-i.i ≡ k + 1 = omega arith in
    let none : Leaf = record { conditions = record { 0 = 0 }; node = record { 0 = 0 } } in
    record {
      grows = grows_on start taken new (grows_on start old taken h.grows c.conjunction_of.ensures.grows)
          c.add-in-loop-i.ensures.grows;
      row = literals_step start old taken new c.args.leaves.now c.loop-i.i k c.loop-i.row.0 c.in_ok-part.part.0
          c.in_ok-row-2.row.0 none h.grows c.conjunction_of.ensures.grows c.requires lt count h.row
          c.in_ok-part.ensures.node c.in_ok-row-2.ensures.node;
    }
