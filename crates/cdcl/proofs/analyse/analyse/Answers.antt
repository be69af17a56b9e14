use Rattle.std.proofs.Common.{◌≡◌, ℕ, ◌+◌, ◌-◌, ◌<◌, ◌≤◌, ◌⊎◌, ◌&&◌, not, eqb, true, false, arith, length, ap, ◌∙◌}
use Rattle.std.proofs.Common.{reverse, inl, refl}
use Rattle.std.proofs.lemmas.List.{reverse-append}
use Rattle.cdcl.specs.declared.trail.Step.{Step}
use Rattle.cdcl.specs.Trail.{literal_at, reason_at, HasReason}
use Rattle.lrat_log.specs.Held.{held_by}
use Rattle.cdcl.specs.Learning.{is_marked}
use Rattle.cdcl.proofs.Walking.{walk_begins, walk_keeps, walk_resolves, walk_ends, walk_at, walk_passes}
use Rattle.cdcl.proofs.Marking.{begins_marked, resolved_marks, tops_next, some_clause, reason_not_zero}
use Rattle.cdcl.proofs.Marking.{reason_or_clause, from_not_below}
use Rattle.cdcl.proofs.Opening.{open_begins, open_keeps, open_resolves, one_keeps, one_goes_down, learnt_below}
use Rattle.cdcl.proofs.Second.{second_next, second_from, second_stands, from_down_one}
use Rattle.cdcl.proofs.analyse.analyse.Goals as goal

pub loop-t-init : goal.loop-t-init
loop-t-init c =
    let held = held_by c.args.clauses.now in
    let k = c.requires.conflict in
    let same = some_clause (held c.args.analysis.conflict) k.clause c.clause-clause.result.now k.held_as
    c.clause-clause.ensures in
    let marks =
    begins_marked c.args.marks.now c.mark_clause-open.new.marks k.clause c.clause-clause.result.now
    c.mark_clause-open.ensures c.requires.clear same in
    record {
      within = omega arith;
      walk = rw (c.len-t.ensures.len, c.new-found.ensures.items, c.in_ok-push.ensures.items, c.new-hints.ensures.items)
          (walk_begins held c.args.trail.now.steps (is_marked c.mark_clause-open.new.marks) c.args.analysis.conflict
          k.clause k.held_as k.all_false marks);
      tops = rw c.new-found.ensures.items (λ x s. (let t = s in absurd (cc)));
      left = λ y. open_begins held c.args.trail.now.steps c.args.analysis.levels.top c.args.analysis.conflict
          (is_marked c.mark_clause-open.new.marks) k.clause y k.held_as k.all_false marks;
      none = λ r t d. c.new-found.ensures.items;
      one = λ o. inl refl;
      before = rw c.new-found.ensures.items (λ x s. (let t = s in absurd (cc)));
      stands = λ h. absurd (omega arith);
      from = inl refl;
      most = omega arith;
    }

pub loop-t-preserved-in-Continue-branch-2 : goal.loop-t-preserved-in-Continue-branch-2
loop-t-preserved-in-Continue-branch-2 c =
    let held = held_by c.args.clauses.now in
    let trail = c.args.trail.now.steps in
    let q = c.loop-t.t - 1 in
    let w = walk_at held trail c.loop-t.t q (is_marked c.loop-t.marks) c.loop-t.found.items
    (reverse c.loop-t.hints.items) (omega arith) c.loop-t.invariant.walk in
    let within : q < length trail = (let h = c.loop-t.invariant.within in let g = c.loop-t-test.true in omega arith) in
    let lit : c.step-step.result.literal ≡ literal_at trail q = ap (λ (x : Step). x.literal) c.step-step.ensures.step in
    let why : c.step-step.result.reason ≡ reason_at trail q = ap (λ (x : Step). x.reason) c.step-step.ensures.step in
    let marked : is_marked c.loop-t.marks (literal_at trail q) ≡ true =
    rw (← lit, ← c.code.ensures.code) c.if-marks-code.true in
    let unmarked : (l : ℕ) → is_marked c.unmark.new.marks l
    ≡ (is_marked c.loop-t.marks l && not (eqb l (literal_at trail q))) = λ l. rw (← lit) (c.unmark.ensures l) in
    let from_q : (c.loop-t.second ≡ 0) ⊎ (q + 1 ≤ c.loop-t.second) =
    from_down_one c.loop-t.t q c.loop-t.second (omega arith) c.loop-t.invariant.from in
    let next = second_from c.args.analysis.levels.top q c.loop-t.second c.second_place-second.result
    c.second_place-second.ensures.at_top c.second_place-second.ensures.first c.second_place-second.ensures.later
    from_q c.loop-t.invariant.most in
    let only = rw why at c.is_kept-kept.ensures.only in
    let root = rw why at c.is_kept-kept.ensures.root in
    record {
      within = omega arith;
      walk = rw (c.in_ok-push-2.ensures.items, c.opposite.ensures, lit)
          (walk_keeps held trail q (is_marked c.loop-t.marks) (is_marked c.unmark.new.marks) c.loop-t.found.items
          (reverse c.loop-t.hints.items) within marked unmarked w);
      tops = rw (c.in_ok-push-2.ensures.items, c.opposite.ensures, lit)
          (tops_next trail c.args.analysis.levels.top q c.loop-t.tops c.count_tops-tops.result c.loop-t.found.items
          within c.count_tops-tops.ensures.at_top c.count_tops-tops.ensures.below
          (λ h x m. from_not_below held trail c.args.analysis.levels.top q x c.requires.tables.trail h
          (w.learnt_from x m)) c.loop-t.invariant.tops);
      left = λ y. open_keeps held trail c.args.analysis.levels.top q c.loop-t.tops c.count_tops-tops.result
          (is_marked c.loop-t.marks) (is_marked c.unmark.new.marks) c.loop-t.found.items (reverse c.loop-t.hints.items)
          c.requires.tables.trail within w c.count_tops-tops.ensures.at_top c.count_tops-tops.ensures.below
          (c.loop-t.invariant.left y);
      none = λ r t d. absurd (let f = root (d q within) (omega arith) (omega arith) in let g = c.if-kept.true in cc);
      one = one_keeps trail c.args.analysis.levels.top q c.loop-t.tops c.count_tops-tops.result
          c.args.analysis.decisions_only c.is_kept-kept.result within c.requires.decisions only c.if-kept.true
          c.count_tops-tops.ensures.at_top c.count_tops-tops.ensures.below
          (λ o. one_goes_down c.args.analysis.levels.top c.loop-t.t (q + 1) c.loop-t.tops (omega arith)
          (c.loop-t.invariant.one o));
      before = rw (c.in_ok-push-2.ensures.items, c.opposite.ensures, lit)
          (second_next trail c.args.analysis.levels.top q c.loop-t.second c.second_place-second.result
          c.loop-t.found.items within c.second_place-second.ensures.at_top c.second_place-second.ensures.first
          c.second_place-second.ensures.later
          from_q c.loop-t.invariant.before);
      stands = rw (c.in_ok-push-2.ensures.items, c.opposite.ensures, lit)
          (second_stands trail c.args.analysis.levels.top q c.loop-t.second c.second_place-second.result
          c.loop-t.found.items c.second_place-second.ensures.at_top c.second_place-second.ensures.first
          c.second_place-second.ensures.later c.loop-t.invariant.stands);
      from = next.0;
      most = next.1;
    }

pub loop-t-preserved-else-kept : goal.loop-t-preserved-else-kept
loop-t-preserved-else-kept c =
    let held = held_by c.args.clauses.now in
    let trail = c.args.trail.now.steps in
    let q = c.loop-t.t - 1 in
    let w = walk_at held trail c.loop-t.t q (is_marked c.loop-t.marks) c.loop-t.found.items
    (reverse c.loop-t.hints.items) (omega arith) c.loop-t.invariant.walk in
    let within : q < length trail = (let h = c.loop-t.invariant.within in let g = c.loop-t-test.true in omega arith) in
    let lit : c.step-step.result.literal ≡ literal_at trail q = ap (λ (x : Step). x.literal) c.step-step.ensures.step in
    let why : c.step-step.result.reason ≡ reason_at trail q = ap (λ (x : Step). x.reason) c.step-step.ensures.step in
    let marked : is_marked c.loop-t.marks (literal_at trail q) ≡ true =
    rw (← lit, ← c.code.ensures.code) c.if-marks-code.true in
    let unmarked : (l : ℕ) → is_marked c.unmark.new.marks l
    ≡ (is_marked c.loop-t.marks l && not (eqb l (literal_at trail q))) = λ l. rw (← lit) (c.unmark.ensures l) in
    let reason : HasReason held trail q =
    reason_not_zero held trail q (c.requires.tables.trail.reasons q within)
    (λ z. (let e = c.is_kept-kept.ensures.decision (why ∙ z) in let f = c.if-kept.false in cc)) in
    let same = some_clause (held (reason_at trail q)) reason.clause c.clause-reason.result.now reason.held_as
    (rw (← why) c.clause-reason.ensures) in
    let marks =
    resolved_marks c.loop-t.marks c.unmark.new.marks c.mark_clause-more.new.marks (literal_at trail q) reason.clause
    c.clause-reason.result.now unmarked same (λ l. rw (← lit) (c.mark_clause-more.ensures l)) in
    record {
      within = omega arith;
      walk = rw (c.in_ok-push-3.ensures.items, reverse-append, why)
          (walk_resolves held trail q (is_marked c.loop-t.marks) (is_marked c.mark_clause-more.new.marks)
          c.loop-t.found.items (reverse c.loop-t.hints.items) reason c.requires.tables.trail within
          marked marks w);
      tops = c.loop-t.invariant.tops;
      left = λ y. open_resolves held trail c.args.analysis.levels.top q c.loop-t.tops (is_marked c.loop-t.marks)
          (is_marked c.mark_clause-more.new.marks) reason c.requires.tables.trail y within marks
          (c.loop-t.invariant.left y);
      none = c.loop-t.invariant.none;
      one = λ o. one_goes_down c.args.analysis.levels.top c.loop-t.t q c.loop-t.tops (omega arith)
          (c.loop-t.invariant.one o);
      before = c.loop-t.invariant.before;
      stands = c.loop-t.invariant.stands;
      from = from_down_one c.loop-t.t q c.loop-t.second (omega arith) c.loop-t.invariant.from;
      most = c.loop-t.invariant.most;
    }

pub loop-t-preserved : goal.loop-t-preserved
loop-t-preserved c =
    let held = held_by c.args.clauses.now in
    let trail = c.args.trail.now.steps in
    let q = c.loop-t.t - 1 in
    let w = walk_at held trail c.loop-t.t q (is_marked c.loop-t.marks) c.loop-t.found.items
    (reverse c.loop-t.hints.items) (omega arith) c.loop-t.invariant.walk in
    let lit : c.step-step.result.literal ≡ literal_at trail q = ap (λ (x : Step). x.literal) c.step-step.ensures.step in
    let unmarked : is_marked c.loop-t.marks (literal_at trail q) ≡ false =
    rw (← lit, ← c.code.ensures.code) c.if-marks-code.false in
    record {
      within = omega arith;
      walk = walk_passes held trail q (is_marked c.loop-t.marks) c.loop-t.found.items (reverse c.loop-t.hints.items)
          unmarked w;
      tops = c.loop-t.invariant.tops;
      left = c.loop-t.invariant.left;
      none = c.loop-t.invariant.none;
      one = λ o. one_goes_down c.args.analysis.levels.top c.loop-t.t q c.loop-t.tops (omega arith)
          (c.loop-t.invariant.one o);
      before = c.loop-t.invariant.before;
      stands = c.loop-t.invariant.stands;
      from = from_down_one c.loop-t.t q c.loop-t.second (omega arith) c.loop-t.invariant.from;
      most = c.loop-t.invariant.most;
    }

pub returns-clause-resolvent : goal.returns-clause-resolvent
returns-clause-resolvent c =
    let zero_is : c.loop-t.t ≡ 0 = omega arith in
    walk_ends (held_by c.args.clauses.now) c.args.trail.now.steps (is_marked c.loop-t.marks) c.loop-t.found.items
    (reverse c.loop-t.hints.items)
    (rw zero_is at c.loop-t.invariant.walk)

pub returns-clause-below : goal.returns-clause-below
returns-clause-below c =
    let zero_is : c.loop-t.t ≡ 0 = omega arith in
    learnt_below (held_by c.args.clauses.now) c.args.trail.now.steps (is_marked c.loop-t.marks) c.loop-t.found.items
    (reverse c.loop-t.hints.items)
    (rw zero_is at c.loop-t.invariant.walk)

pub is_kept-kept-requires-clause-held : goal.is_kept-kept-requires-clause-held
is_kept-kept-requires-clause-held c =
    let within : c.loop-t.t - 1 < length c.args.trail.now.steps =
    (let h = c.loop-t.invariant.within in let g = c.loop-t-test.true in omega arith) in
    let why : c.step-step.result.reason ≡ reason_at c.args.trail.now.steps (c.loop-t.t - 1) =
    ap (λ (x : Step). x.reason) c.step-step.ensures.step in
    rw why (reason_or_clause (held_by c.args.clauses.now) c.args.trail.now.steps (c.loop-t.t - 1)
    (c.requires.tables.trail.reasons (c.loop-t.t - 1) within))

pub clause-reason-requires : goal.clause-reason-requires
clause-reason-requires c =
    let held = held_by c.args.clauses.now in
    let trail = c.args.trail.now.steps in
    let q = c.loop-t.t - 1 in
    let within : q < length trail = (let h = c.loop-t.invariant.within in let g = c.loop-t-test.true in omega arith) in
    let why : c.step-step.result.reason ≡ reason_at trail q = ap (λ (x : Step). x.reason) c.step-step.ensures.step in
    let reason : HasReason held trail q =
    reason_not_zero held trail q (c.requires.tables.trail.reasons q within)
    (λ z. (let e = c.is_kept-kept.ensures.decision (why ∙ z) in let f = c.if-kept.false in cc)) in
    (reason.clause, ap held why ∙ reason.held_as)
