use Rattle.std.proofs.Common.{ℕ, [], ◌∷◌, length, map, sym, subst}
use Rattle.base.specs.Lists.{count_from}
use Rattle.rml_command.specs.declared.goal.About.TheVariants as about
use Rattle.limits.specs.Ceilings.{ceilings}
use Rattle.walks.specs.declared.leg.Walk.{Walk}
use Rattle.walks.specs.Walks.{goal_along}
use Rattle.walks.specs.Laws.{IsWalk}
use Rattle.rml_bmc.specs.Infeasible.{IsKnownGoal}
use Rattle.rml_bmc.specs.Tallies.{Passed, Met}
use Rattle.rml_bmc.proofs.FrontWalks.{known_here}
use Rattle.rml_bmc.proofs.Walking.{count-step, count-none, counted_first, of_next, next_is, next_room, go_on, stop}
use Rattle.rml_bmc.proofs.Walking.{at_end}
use Rattle.rml_bmc.proofs.lengths.decide_conjectures.Goals as goal

pub loop-k-init : goal.loop-k-init
loop-k-init c = record {
  count = c.conjecture_count-count.ensures;
  left = counted_first c.args.counted (ceilings c.args.limits.now) c.args.checked.now (IsWalk c.args.checked.now)
      (λ k. goal_along c.args.legs.now (about.Conjecture k)) (length c.args.checked.now.conjectures)
      c.conjecture_count-count.result c.args.tally c.conjecture_count-count.ensures c.requires.goals c.requires.room;
}

pub decide_one-requires-clause-walk : goal.decide_one-requires-clause-walk
decide_one-requires-clause-walk c =
    let m = c.args.checked.now in
    let f = λ (k : ℕ). goal_along c.args.legs.now (about.Conjecture k) in
    let k = c.loop-k.k in
    let here = of_next c.args.counted (ceilings c.args.limits.now) m (IsWalk m)
    (map f (count_from 0 (length m.conjectures))) c.args.tally
    _ _ (f k) c.loop-k.now (count-step f k _ c.loop-k-test.true) c.loop-k.invariant.left in
    subst (IsWalk m) (sym c.in_ok-walk.ensures)
    (next_is c.args.counted (ceilings c.args.limits.now) m (IsWalk m) _ _ _ (f k) c.loop-k.now here)

pub decide_one-requires-clause-known : goal.decide_one-requires-clause-known
decide_one-requires-clause-known c =
    let m = c.args.checked.now in
    subst (λ (w : Walk). IsKnownGoal m w c.args.known) (sym c.in_ok-walk.ensures)
    (known_here m c.args.legs.now (about.Conjecture c.loop-k.k) c.args.known c.requires.known)

pub decide_one-requires-clause-room : goal.decide_one-requires-clause-room
decide_one-requires-clause-room c =
    let m = c.args.checked.now in
    let f = λ (k : ℕ). goal_along c.args.legs.now (about.Conjecture k) in
    let k = c.loop-k.k in
    let here = of_next c.args.counted (ceilings c.args.limits.now) m (IsWalk m)
    (map f (count_from 0 (length m.conjectures))) c.args.tally
    _ _ (f k) c.loop-k.now (count-step f k _ c.loop-k-test.true) c.loop-k.invariant.left in
    next_room c.args.counted (ceilings c.args.limits.now) m (IsWalk m) _ _ _ (f k) c.loop-k.now here

pub loop-k-preserved : goal.loop-k-preserved
loop-k-preserved c =
    let m = c.args.checked.now in
    let limits = ceilings c.args.limits.now in
    let f = λ (k : ℕ). goal_along c.args.legs.now (about.Conjecture k) in
    let k = c.loop-k.k in
    let here = of_next c.args.counted limits m (IsWalk m) (map f (count_from 0 (length m.conjectures))) c.args.tally
    _ _ (f k) c.loop-k.now (count-step f k _ c.loop-k-test.true) c.loop-k.invariant.left in
    let passed = subst (λ (w : Walk). Passed c.args.counted limits m (w ∷ []) c.loop-k.now c.in-On.next)
    c.in_ok-walk.ensures
    (rw c.in-On.is at c.in_ok-turn.ensures) in
    record {
      count = c.loop-k.invariant.count;
      left = go_on c.args.counted limits m (IsWalk m) (map f (count_from 0 (length m.conjectures))) c.args.tally _
          (f k) c.loop-k.now
          c.in-On.next here passed;
    }

pub returns-in-Met : goal.returns-in-Met
returns-in-Met c =
    let m = c.args.checked.now in
    let limits = ceilings c.args.limits.now in
    let f = λ (k : ℕ). goal_along c.args.legs.now (about.Conjecture k) in
    let k = c.loop-k.k in
    let here = of_next c.args.counted limits m (IsWalk m) (map f (count_from 0 (length m.conjectures))) c.args.tally
    _ _ (f k) c.loop-k.now (count-step f k _ c.loop-k-test.true) c.loop-k.invariant.left in
    let met = subst (λ (w : Walk). Met c.args.counted limits m (w ∷ []) c.in-Met.run') c.in_ok-walk.ensures
    (rw c.in-Met.is at c.in_ok-turn.ensures) in
    stop c.args.counted limits m (IsWalk m) (map f (count_from 0 (length m.conjectures))) c.args.tally _ (f k)
    c.loop-k.now c.in-Met.run'
    here met

pub returns : goal.returns
returns c =
    let m = c.args.checked.now in
    let f = λ (k : ℕ). goal_along c.args.legs.now (about.Conjecture k) in
    at_end c.args.counted (ceilings c.args.limits.now) m (IsWalk m) (map f (count_from 0 (length m.conjectures)))
    c.args.tally _
    c.loop-k.now (count-none f c.loop-k.k _ c.loop-k-test.false) c.loop-k.invariant.left
