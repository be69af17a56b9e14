use Rattle.std.proofs.Common.{◌≡◌, ◌<◌, ap, sym, ◌∙◌, length}
use Rattle.cnf_base.specs.Literals.{opposite}
use Rattle.cdcl.specs.declared.trail.Step.{Step}
use Rattle.cdcl.specs.declared.state.State.{State}
use Rattle.cdcl.specs.Trail.{literal_at}
use Rattle.cdcl.proofs.Growth.{grows_trans}
use Rattle.cdcl.proofs.Options.{none_map, some_map}
use Rattle.cdcl.proofs.Visiting.{taken, relisted_grows, put_back, put_back_early, same_head}
use Rattle.cdcl.proofs.state.State.propagate_one.Goals as goal

pub visit_list-requires-clause-visited : goal.visit_list-requires-clause-visited
visit_list-requires-clause-visited c =
    let fe : c.opposite-false_one.result ≡ opposite (literal_at c.args.self.now.trail.steps c.args.head) =
    c.opposite-false_one.ensures ∙ ap (λ (x : Step). opposite x.literal) c.step.ensures.step in
    let small : c.opposite-false_one.result < length c.args.self.now.watches.lists.items =
    rw (c.opposite-false_one.ensures, c.requires.state.listed) c.step.ensures.small.1 in
    taken c.args.self.now c.args.head c.take_list-list.new.self c.opposite-false_one.result c.take_list-list.result
    c.requires.within fe c.requires.watching small
    c.take_list-list.ensures.pairs c.take_list-list.ensures.lists c.take_list-list.ensures.list

pub returns-clause-grows : goal.returns-clause-grows
returns-clause-grows c =
    let s0 = c.args.self.now in
    let s1 : State = record { clauses = s0.clauses; trail = s0.trail; watches = c.take_list-list.new.self } in
    let s2 = c.visit_list.new.self in
    let s3 : State = record { clauses = s2.clauses; trail = s2.trail; watches = c.put_list.new.self } in
    grows_trans s0 s1 s3 (relisted_grows s0 c.take_list-list.new.self c.take_list-list.ensures.pairs)
    (grows_trans s1 s2 s3 c.in_ok-conflict.ensures.grows
    (relisted_grows s2 c.put_list.new.self c.put_list.ensures.pairs))

pub returns-clause-watching : goal.returns-clause-watching
returns-clause-watching c =
    let s0 = c.args.self.now in
    let s1 : State = record { clauses = s0.clauses; trail = s0.trail; watches = c.take_list-list.new.self } in
    let s2 = c.visit_list.new.self in
    let fe : c.opposite-false_one.result ≡ opposite (literal_at s2.trail.steps c.args.head) =
    c.opposite-false_one.ensures ∙ ap (λ (x : Step). opposite x.literal) c.step.ensures.step
    ∙ ap opposite (sym (same_head s1 s2 c.args.head c.in_ok-conflict.ensures.grows c.requires.within)) in
    let small : c.opposite-false_one.result < length s2.watches.lists.items =
    rw (
      c.opposite-false_one.ensures,
      c.in_ok-conflict.ensures.state.listed,
      c.in_ok-conflict.ensures.grows.extends.size,
    ) c.step.ensures.small.1 in
    none_map c.in_ok-conflict.conflict _ _
    (put_back s2 c.args.head c.put_list.new.self c.opposite-false_one.result c.visit_list.new.list fe small
    c.put_list.ensures.pairs c.put_list.ensures.lists)
    c.in_ok-conflict.ensures.visited

pub returns-clause-stopped : goal.returns-clause-stopped
returns-clause-stopped c =
    let s0 = c.args.self.now in
    let s1 : State = record { clauses = s0.clauses; trail = s0.trail; watches = c.take_list-list.new.self } in
    let s2 = c.visit_list.new.self in
    let fe : c.opposite-false_one.result ≡ opposite (literal_at s2.trail.steps c.args.head) =
    c.opposite-false_one.ensures ∙ ap (λ (x : Step). opposite x.literal) c.step.ensures.step
    ∙ ap opposite (sym (same_head s1 s2 c.args.head c.in_ok-conflict.ensures.grows c.requires.within)) in
    let small : c.opposite-false_one.result < length s2.watches.lists.items =
    rw (
      c.opposite-false_one.ensures,
      c.in_ok-conflict.ensures.state.listed,
      c.in_ok-conflict.ensures.grows.extends.size,
    ) c.step.ensures.small.1 in
    some_map c.in_ok-conflict.conflict _ _
    (λ id v. put_back_early s2 c.args.head c.put_list.new.self c.opposite-false_one.result c.visit_list.new.list fe
    small c.put_list.ensures.pairs c.put_list.ensures.lists v.0 v.1)
    c.in_ok-conflict.ensures.stopped
