use Rattle.std.proofs.Common.{◌≤◌, ◌+◌, length, sym, ◌∙◌, subst, Option, None, arith}
use Rattle.rml_command.specs.declared.goal.Head.{Head}
use Rattle.rml_command.specs.declared.goal.Goal.{Goal}
use Rattle.limits.specs.declared.cause.Cause.{Cause}
use Rattle.limits.specs.Ceilings.{ceilings}
use Rattle.rml_houdini.proofs.Paths.{is_goal}
use Rattle.rml_houdini.proofs.Turns.{ThroughPaths, first_path, path_passed, path_safe, path_open, path_fails, paths_end}
use Rattle.rml_houdini.proofs.Sufficing.{
  SufficesThrough,
  first_suffices,
  passed_suffices,
  kept_suffices,
  open_suffices,
  suffices_end,
}
use Rattle.rml_houdini.proofs.round.decide_paths.Goals as goal
use Rattle.rml_houdini.proofs.round.decide_paths.Goals.{in-Holds, in-Undecided}

pub loop-i-init : goal.loop-i-init
loop-i-init c = record {
  paths = c.stage_paths-paths.ensures.paths;
  few = c.stage_paths-paths.ensures.few;
  within = c.requires.within;
  whole = first_path c.args.counted (ceilings c.args.limits.now) c.args.checked.now c.args.held.now None
      (record { stage = c.args.stage; about = c.args.about }) c.stage_paths-paths.result.now
      c.stage_paths-paths.ensures.paths;
  suffices = first_suffices c.args.checked.now (record { stage = c.args.stage; about = c.args.about })
      c.stage_paths-paths.result.now c.args.assumed.now.held.items c.stage_paths-paths.ensures.paths;
}

pub loop-i-preserved-then-not-is_for : goal.loop-i-preserved-then-not-is_for
loop-i-preserved-then-not-is_for c =
    let other = sym c.is_for.ensures ∙ c.if-not-is_for.true in
    record {
      paths = c.loop-i.invariant.paths;
      few = c.loop-i.invariant.few;
      within = c.loop-i.invariant.within;
      whole = path_passed c.args.counted (ceilings c.args.limits.now) c.args.checked.now c.args.held.now None
          (record { stage = c.args.stage; about = c.args.about }) c.stage_paths-paths.result.now c.loop-i.first c.loop-i.i
          c.path.result c.path.ensures c.loop-i.invariant.whole other;
      suffices = passed_suffices c.args.checked.now (record { stage = c.args.stage; about = c.args.about })
          c.stage_paths-paths.result.now c.loop-i.first _ c.loop-i.i c.path.result c.path.ensures
          c.loop-i.invariant.suffices other;
    }

pub settle-requires-clause-goal : goal.settle-requires-clause-goal
settle-requires-clause-goal c =
    is_goal c.args.checked.now (record { stage = c.args.stage; about = c.args.about }) c.loop-i.i
    c.stage_paths-paths.result.now c.path.result c.stage_paths-paths.ensures.paths c.path.ensures
    (sym c.is_for.ensures ∙ c.if-not-is_for.false) c.requires.about

pub returns-in-Fails-clause-round : goal.returns-in-Fails-clause-round
returns-in-Fails-clause-round c =
    let m = c.args.checked.now in
    let group : Head = record { stage = c.args.stage; about = c.args.about } in
    let kind = sym c.is_for.ensures ∙ c.if-not-is_for.false in
    let decided = rw c.in-Fails.is at c.in_ok-settle.ensures.settled in
    path_fails c.args.counted (ceilings c.args.limits.now) m c.args.held.now None group c.stage_paths-paths.result.now
    c.loop-i.first c.loop-i.i c.path.result c.path.ensures c.loop-i.invariant.whole kind c.in-Fails.shown
    (is_goal m group c.loop-i.i c.stage_paths-paths.result.now c.path.result c.stage_paths-paths.ensures.paths
    c.path.ensures kind c.requires.about) decided.0 decided.1

pub loop-i-preserved : goal.loop-i-preserved
loop-i-preserved c =
    let counted = c.args.counted in
    let limits = ceilings c.args.limits.now in
    let m = c.args.checked.now in
    let held = c.args.held.now in
    let group : Head = record { stage = c.args.stage; about = c.args.about } in
    let ps = c.stage_paths-paths.result.now in
    let i = c.loop-i.i in
    let before = c.loop-i.invariant in
    let old = c.loop-i.assumed.held.items in
    let new = c.settle.new.assumed.held.items in
    let grows = c.in_ok-settle.ensures.grows in
    let kind = sym c.is_for.ensures ∙ c.if-not-is_for.false in
    record {
      paths = before.paths;
      few = before.few;
      within = grows.1 before.within;
      whole = elim c.match-branch-2.branch [
        | in-Holds w ↦
            let decided = rw w.in-Holds.is at c.in_ok-settle.ensures.settled in
            subst (λ (o : Option (Goal × Cause)). ThroughPaths counted limits m held None group ps o (i + 1))
            (sym w.first-is)
            (path_safe counted limits m held None group ps c.loop-i.first i c.path.result c.path.ensures before.whole
            kind decided.0)
        | in-Undecided w ↦
            subst (λ (o : Option (Goal × Cause)). ThroughPaths counted limits m held None group ps o (i + 1))
            (sym (w.first-is ∙ w.or-first.ensures))
            (path_open counted limits m held None group ps c.loop-i.first i c.path.result c.path.ensures before.whole
            kind w.in-Undecided.cause (rw w.in-Undecided.is at c.in_ok-settle.ensures.settled))
      ];
      suffices = elim c.match-branch-2.branch [
        | in-Holds w ↦
            let decided = rw w.in-Holds.is at c.in_ok-settle.ensures.settled in
            subst (λ (o : Option (Goal × Cause)). SufficesThrough m group ps o new (i + 1)) (sym w.first-is)
            (kept_suffices m group ps c.loop-i.first old i c.path.result c.path.ensures before.suffices kind new grows.0
            decided.1)
        | in-Undecided w ↦
            subst (λ (o : Option (Goal × Cause)). SufficesThrough m group ps o new (i + 1))
            (sym (w.first-is ∙ w.or-first.ensures))
            (open_suffices m group ps c.loop-i.first _ w.in-Undecided.cause new (i + 1))
      ];
    }

pub returns-clause-round : goal.returns-clause-round
returns-clause-round c =
    let end = c.len-i-end.ensures in
    let past = c.loop-i-test.false in
    let le : length c.stage_paths-paths.result.now ≤ c.loop-i.i = omega (arith, end, past) in
    paths_end c.args.counted (ceilings c.args.limits.now) c.args.checked.now c.args.held.now None
    (record { stage = c.args.stage; about = c.args.about }) c.stage_paths-paths.result.now c.loop-i.first c.loop-i.i le
    c.loop-i.invariant.whole

pub returns-clause-suffice : goal.returns-clause-suffice
returns-clause-suffice c = λ is.
    let end = c.len-i-end.ensures in
    let past = c.loop-i-test.false in
    let le : length c.stage_paths-paths.result.now ≤ c.loop-i.i = omega (arith, end, past) in
    suffices_end c.args.checked.now (record { stage = c.args.stage; about = c.args.about })
    c.stage_paths-paths.result.now c.loop-i.first _ c.loop-i.i le c.loop-i.invariant.suffices (cc is)
