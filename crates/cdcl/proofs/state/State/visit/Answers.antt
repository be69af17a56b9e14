use Rattle.std.proofs.Common.{ap, sym, ◌∙◌}
use Rattle.cnf_base.specs.Literals.{opposite}
use Rattle.cdcl.specs.declared.trail.Step.{Step}
use Rattle.cdcl.proofs.Visiting.{IsVisit, blocker_small, blocker_true, other_small, other_true, is_conflict, open_small}
use Rattle.cdcl.proofs.Visiting.{moved_grows, moved_visited, pushed_state, pushed_grows, pushed_visited}
use Rattle.cdcl.proofs.state.State.visit.Goals as goal

pub is_set-requires : goal.is_set-requires
is_set-requires c =
    blocker_small c.args.self.now c.args.head c.args.list.now c.args.i c.get-watch.result c.requires.state
    c.requires.visited c.requires.index c.get-watch.ensures

pub returns-then-is_set-clause-visited : goal.returns-then-is_set-clause-visited
returns-then-is_set-clause-visited c =
    blocker_true c.args.self.now c.args.head c.args.list.now c.args.i c.get-watch.result c.requires.visited
    c.requires.index c.get-watch.ensures
    (sym c.is_set.ensures ∙ c.if-is_set.true)

pub is_set-requires-2 : goal.is_set-requires-2
is_set-requires-2 c =
    let v : IsVisit c.args.self.now c.args.head c.args.list.now c.args.i c.get-watch.result c.pair.result
    c.opposite-false_one.result c.other_of-other.result = record {
      state = c.requires.state;
      visiting = c.requires.visited;
      index = c.requires.index;
      watch = c.get-watch.ensures;
      paired = c.pair.ensures;
      false_one = c.opposite-false_one.ensures ∙ ap (λ (x : Step). opposite x.literal) c.step.ensures.step;
      which = c.other_of-other.ensures.stands;
      different = c.other_of-other.ensures.different;
    } in
    (other_small c.args.self.now c.args.head c.args.list.now c.args.i c.get-watch.result c.pair.result
    c.opposite-false_one.result c.other_of-other.result v).0

pub returns-then-is_set-2-clause-visited : goal.returns-then-is_set-2-clause-visited
returns-then-is_set-2-clause-visited c =
    let v : IsVisit c.args.self.now c.args.head c.args.list.now c.args.i c.get-watch.result c.pair.result
    c.opposite-false_one.result c.other_of-other.result = record {
      state = c.requires.state;
      visiting = c.requires.visited;
      index = c.requires.index;
      watch = c.get-watch.ensures;
      paired = c.pair.ensures;
      false_one = c.opposite-false_one.ensures ∙ ap (λ (x : Step). opposite x.literal) c.step.ensures.step;
      which = c.other_of-other.ensures.stands;
      different = c.other_of-other.ensures.different;
    } in
    rw c.set.ensures (other_true c.args.self.now c.args.head c.args.list.now c.args.i c.get-watch.result c.pair.result
    c.opposite-false_one.result c.other_of-other.result v (sym c.is_set-2.ensures ∙ c.if-is_set-2.true))

pub move_to-requires-clause-first : goal.move_to-requires-clause-first
move_to-requires-clause-first c =
    let v : IsVisit c.args.self.now c.args.head c.args.list.now c.args.i c.get-watch.result c.pair.result
    c.opposite-false_one.result c.other_of-other.result = record {
      state = c.requires.state;
      visiting = c.requires.visited;
      index = c.requires.index;
      watch = c.get-watch.ensures;
      paired = c.pair.ensures;
      false_one = c.opposite-false_one.ensures ∙ ap (λ (x : Step). opposite x.literal) c.step.ensures.step;
      which = c.other_of-other.ensures.stands;
      different = c.other_of-other.ensures.different;
    } in
    open_small c.args.self.now c.args.head c.args.list.now c.args.i c.get-watch.result c.pair.result
    c.opposite-false_one.result c.other_of-other.result v c.clause-clause.result.now
    c.in-Some.open.literal c.clause-clause.ensures
    c.in-Some.ensures

pub is_set-requires-in-None : goal.is_set-requires-in-None
is_set-requires-in-None c =
    let v : IsVisit c.args.self.now c.args.head c.args.list.now c.args.i c.get-watch.result c.pair.result
    c.opposite-false_one.result c.other_of-other.result = record {
      state = c.requires.state;
      visiting = c.requires.visited;
      index = c.requires.index;
      watch = c.get-watch.ensures;
      paired = c.pair.ensures;
      false_one = c.opposite-false_one.ensures ∙ ap (λ (x : Step). opposite x.literal) c.step.ensures.step;
      which = c.other_of-other.ensures.stands;
      different = c.other_of-other.ensures.different;
    } in
    rw c.opposite.ensures
    (other_small c.args.self.now c.args.head c.args.list.now c.args.i c.get-watch.result c.pair.result
    c.opposite-false_one.result c.other_of-other.result v).1

pub returns-then-is_set-3-clause-conflict : goal.returns-then-is_set-3-clause-conflict
returns-then-is_set-3-clause-conflict c =
    let v : IsVisit c.args.self.now c.args.head c.args.list.now c.args.i c.get-watch.result c.pair.result
    c.opposite-false_one.result c.other_of-other.result = record {
      state = c.requires.state;
      visiting = c.requires.visited;
      index = c.requires.index;
      watch = c.get-watch.ensures;
      paired = c.pair.ensures;
      false_one = c.opposite-false_one.ensures ∙ ap (λ (x : Step). opposite x.literal) c.step.ensures.step;
      which = c.other_of-other.ensures.stands;
      different = c.other_of-other.ensures.different;
    } in
    is_conflict c.args.self.now c.args.head c.args.list.now c.args.i c.get-watch.result c.pair.result
    c.opposite-false_one.result c.other_of-other.result v c.clause-clause.result.now
    c.clause-clause.ensures c.in-None.ensures
    (rw (← c.opposite.ensures) (sym c.is_set-in-None.ensures ∙ c.if-is_set-3.true))

pub push-requires-clause-small : goal.push-requires-clause-small
push-requires-clause-small c =
    let v : IsVisit c.args.self.now c.args.head c.args.list.now c.args.i c.get-watch.result c.pair.result
    c.opposite-false_one.result c.other_of-other.result = record {
      state = c.requires.state;
      visiting = c.requires.visited;
      index = c.requires.index;
      watch = c.get-watch.ensures;
      paired = c.pair.ensures;
      false_one = c.opposite-false_one.ensures ∙ ap (λ (x : Step). opposite x.literal) c.step.ensures.step;
      which = c.other_of-other.ensures.stands;
      different = c.other_of-other.ensures.different;
    } in
    (other_small c.args.self.now c.args.head c.args.list.now c.args.i c.get-watch.result c.pair.result
    c.opposite-false_one.result c.other_of-other.result v).0

pub returns-in_ok-move_to-in-Some-clause-grows : goal.returns-in_ok-move_to-in-Some-clause-grows
returns-in_ok-move_to-in-Some-clause-grows c =
    let v : IsVisit c.args.self.now c.args.head c.args.list.now c.args.i c.get-watch.result c.pair.result
    c.opposite-false_one.result c.other_of-other.result = record {
      state = c.requires.state;
      visiting = c.requires.visited;
      index = c.requires.index;
      watch = c.get-watch.ensures;
      paired = c.pair.ensures;
      false_one = c.opposite-false_one.ensures ∙ ap (λ (x : Step). opposite x.literal) c.step.ensures.step;
      which = c.other_of-other.ensures.stands;
      different = c.other_of-other.ensures.different;
    } in
    rw c.set_position.ensures
    (moved_grows c.args.self.now c.args.head c.args.list.now c.args.i c.get-watch.result c.pair.result
    c.opposite-false_one.result c.other_of-other.result v c.clause-clause.result.now c.in-Some.open.literal
    c.move_to.new.self c.clause-clause.ensures c.in-Some.ensures c.in_ok-move_to-in-Some.ensures.pairs
    c.in_ok-move_to-in-Some.ensures.lists)

pub returns-in_ok-move_to-in-Some-clause-visited : goal.returns-in_ok-move_to-in-Some-clause-visited
returns-in_ok-move_to-in-Some-clause-visited c =
    let v : IsVisit c.args.self.now c.args.head c.args.list.now c.args.i c.get-watch.result c.pair.result
    c.opposite-false_one.result c.other_of-other.result = record {
      state = c.requires.state;
      visiting = c.requires.visited;
      index = c.requires.index;
      watch = c.get-watch.ensures;
      paired = c.pair.ensures;
      false_one = c.opposite-false_one.ensures ∙ ap (λ (x : Step). opposite x.literal) c.step.ensures.step;
      which = c.other_of-other.ensures.stands;
      different = c.other_of-other.ensures.different;
    } in
    rw c.set_position.ensures
    (moved_visited c.args.self.now c.args.head c.args.list.now c.args.i c.get-watch.result c.pair.result
    c.opposite-false_one.result c.other_of-other.result v c.clause-clause.result.now c.in-Some.open.literal
    c.move_to.new.self c.clause-clause.ensures c.in-Some.ensures c.in_ok-move_to-in-Some.ensures.pairs
    c.in_ok-move_to-in-Some.ensures.lists c.remove.new.self
    (record { len = c.remove.ensures.len; moved = c.remove.ensures.moved; kept = c.remove.ensures.kept }))

pub returns-in_ok-push-in-None-clause-state : goal.returns-in_ok-push-in-None-clause-state
returns-in_ok-push-in-None-clause-state c =
    let v : IsVisit c.args.self.now c.args.head c.args.list.now c.args.i c.get-watch.result c.pair.result
    c.opposite-false_one.result c.other_of-other.result = record {
      state = c.requires.state;
      visiting = c.requires.visited;
      index = c.requires.index;
      watch = c.get-watch.ensures;
      paired = c.pair.ensures;
      false_one = c.opposite-false_one.ensures ∙ ap (λ (x : Step). opposite x.literal) c.step.ensures.step;
      which = c.other_of-other.ensures.stands;
      different = c.other_of-other.ensures.different;
    } in
    pushed_state c.args.self.now c.args.head c.args.list.now c.args.i c.get-watch.result c.pair.result
    c.opposite-false_one.result c.other_of-other.result v c.clause-clause.result.now
    c.push.new.self c.clause-clause.ensures
    c.in-None.ensures (sym c.is_set-2.ensures ∙ c.if-is_set-2.false)
    (rw (← c.opposite.ensures) (sym c.is_set-in-None.ensures ∙ c.if-is_set-3.false))
    c.in_ok-push-in-None.ensures.steps c.in_ok-push-in-None.ensures.size

pub returns-in_ok-push-in-None-clause-grows : goal.returns-in_ok-push-in-None-clause-grows
returns-in_ok-push-in-None-clause-grows c =
    let v : IsVisit c.args.self.now c.args.head c.args.list.now c.args.i c.get-watch.result c.pair.result
    c.opposite-false_one.result c.other_of-other.result = record {
      state = c.requires.state;
      visiting = c.requires.visited;
      index = c.requires.index;
      watch = c.get-watch.ensures;
      paired = c.pair.ensures;
      false_one = c.opposite-false_one.ensures ∙ ap (λ (x : Step). opposite x.literal) c.step.ensures.step;
      which = c.other_of-other.ensures.stands;
      different = c.other_of-other.ensures.different;
    } in
    pushed_grows c.args.self.now c.args.head c.args.list.now c.args.i c.get-watch.result c.pair.result
    c.opposite-false_one.result c.other_of-other.result v c.clause-clause.result.now
    c.push.new.self c.clause-clause.ensures
    c.in-None.ensures (sym c.is_set-2.ensures ∙ c.if-is_set-2.false)
    (rw (← c.opposite.ensures) (sym c.is_set-in-None.ensures ∙ c.if-is_set-3.false))
    c.in_ok-push-in-None.ensures.steps c.in_ok-push-in-None.ensures.size

pub returns-in_ok-push-in-None-clause-visited : goal.returns-in_ok-push-in-None-clause-visited
returns-in_ok-push-in-None-clause-visited c =
    let v : IsVisit c.args.self.now c.args.head c.args.list.now c.args.i c.get-watch.result c.pair.result
    c.opposite-false_one.result c.other_of-other.result = record {
      state = c.requires.state;
      visiting = c.requires.visited;
      index = c.requires.index;
      watch = c.get-watch.ensures;
      paired = c.pair.ensures;
      false_one = c.opposite-false_one.ensures ∙ ap (λ (x : Step). opposite x.literal) c.step.ensures.step;
      which = c.other_of-other.ensures.stands;
      different = c.other_of-other.ensures.different;
    } in
    rw c.set-in-None.ensures (pushed_visited c.args.self.now c.args.head c.args.list.now c.args.i c.get-watch.result
    c.pair.result c.opposite-false_one.result c.other_of-other.result v c.clause-clause.result.now c.push.new.self
    c.clause-clause.ensures c.in-None.ensures (sym c.is_set-2.ensures ∙ c.if-is_set-2.false)
    (rw (← c.opposite.ensures) (sym c.is_set-in-None.ensures ∙ c.if-is_set-3.false))
    c.in_ok-push-in-None.ensures.steps c.in_ok-push-in-None.ensures.size)
