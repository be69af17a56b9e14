use Rattle.std.proofs.Common.{ℕ, [], ◌∷◌, ◌++◌, length, map, sym, subst}
use Rattle.std.specs.List.{AllByRecursion}
use Rattle.base.proofs.Lists.{all_front, all_back}
use Rattle.base.specs.Lists.{count_from}
use Rattle.rml_command.specs.Paths.{has_abort}
use Rattle.rml_command.specs.declared.goal.Stage.TheVariants as stage
use Rattle.rml_command.specs.declared.goal.About.TheVariants as about
use Rattle.limits.specs.Ceilings.{ceilings}
use Rattle.walks.specs.declared.leg.Leg.{Leg}
use Rattle.walks.specs.Walks.{goal_along, stage_legs}
use Rattle.walks.specs.Laws.{IsWalk}
use Rattle.rml_bmc.specs.Tallies.{HasRoom, IsTurn}
use Rattle.rml_bmc.proofs.Tallying.{met_first}
use Rattle.rml_bmc.proofs.Opening.{front_room, back_room, both}
use Rattle.rml_bmc.proofs.lengths.decide_open.Goals as goal

pub decide_conjectures-requires-clause-goals : goal.decide_conjectures-requires-clause-goals
decide_conjectures-requires-clause-goals c =
    let m = c.args.checked.now in
    let f = λ (k : ℕ). goal_along c.args.legs.now (about.Conjecture k) in
    let g = λ (leg : Leg). goal_along (c.args.legs.now ++ leg ∷ []) about.Abort in
    all_front (IsWalk m) (map f (count_from 0 (length m.conjectures))) (map g (stage_legs m has_abort stage.Final))
    c.requires.goals

pub decide_conjectures-requires-clause-room : goal.decide_conjectures-requires-clause-room
decide_conjectures-requires-clause-room c =
    let m = c.args.checked.now in
    let f = λ (k : ℕ). goal_along c.args.legs.now (about.Conjecture k) in
    let g = λ (leg : Leg). goal_along (c.args.legs.now ++ leg ∷ []) about.Abort in
    front_room c.args.counted (ceilings c.args.limits.now) m f g (length m.conjectures)
    (stage_legs m has_abort stage.Final)
    c.args.tally c.requires.room

pub decide_ends-requires-clause-goals : goal.decide_ends-requires-clause-goals
decide_ends-requires-clause-goals c =
    let m = c.args.checked.now in
    let f = λ (k : ℕ). goal_along c.args.legs.now (about.Conjecture k) in
    let g = λ (leg : Leg). goal_along (c.args.legs.now ++ leg ∷ []) about.Abort in
    subst (λ ends. AllByRecursion (IsWalk m) (map g ends)) (sym c.requires.ends)
    (all_back (IsWalk m) (map f (count_from 0 (length m.conjectures))) (map g (stage_legs m has_abort stage.Final))
    c.requires.goals)

pub decide_ends-requires-clause-room : goal.decide_ends-requires-clause-room
decide_ends-requires-clause-room c =
    let m = c.args.checked.now in
    let f = λ (k : ℕ). goal_along c.args.legs.now (about.Conjecture k) in
    let g = λ (leg : Leg). goal_along (c.args.legs.now ++ leg ∷ []) about.Abort in
    subst (λ ends. HasRoom c.in-On.next (length ends)) (sym c.requires.ends)
    (back_room c.args.counted (ceilings c.args.limits.now) m f g (length m.conjectures)
    (stage_legs m has_abort stage.Final)
    c.args.tally c.in-On.next c.requires.room (rw c.in-On.is at c.in_ok-turn.ensures))

pub returns-in_ok-last-in-On : goal.returns-in_ok-last-in-On
returns-in_ok-last-in-On c =
    let m = c.args.checked.now in
    let limits = ceilings c.args.limits.now in
    let f = λ (k : ℕ). goal_along c.args.legs.now (about.Conjecture k) in
    let g = λ (leg : Leg). goal_along (c.args.legs.now ++ leg ∷ []) about.Abort in
    both c.args.counted limits m (map f (count_from 0 (length m.conjectures)))
    (map g (stage_legs m has_abort stage.Final)) c.args.tally
    c.in-On.next c.in_ok-last-in-On.last (rw c.in-On.is at c.in_ok-turn.ensures)
    (subst (λ ends. IsTurn c.args.counted limits m (map g ends) c.in-On.next c.in_ok-last-in-On.last) c.requires.ends
    c.in_ok-last-in-On.ensures)

pub returns-in-Met : goal.returns-in-Met
returns-in-Met c =
    let m = c.args.checked.now in
    let f = λ (k : ℕ). goal_along c.args.legs.now (about.Conjecture k) in
    let g = λ (leg : Leg). goal_along (c.args.legs.now ++ leg ∷ []) about.Abort in
    met_first c.args.counted (ceilings c.args.limits.now) m (map f (count_from 0 (length m.conjectures)))
    (map g (stage_legs m has_abort stage.Final)) c.in-Met.run' (rw c.in-Met.is at c.in_ok-turn.ensures)
