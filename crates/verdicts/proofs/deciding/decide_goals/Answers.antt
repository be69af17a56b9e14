use Rattle.std.proofs.Common.{◌+◌, ◌∙◌, get_or, drop, sym, subst, Option}
use Rattle.rml_command.specs.Goals.{IsGoal}
use Rattle.rml_command.specs.declared.goal.Stage.TheVariants as stage
use Rattle.rml_command.specs.declared.goal.About.TheVariants as about
use Rattle.rml_command.specs.declared.goal.Goal.{Goal}
use Rattle.rml_report.specs.declared.report.Answer.{Answer}
use Rattle.limits.specs.Ceilings.{ceilings}
use Rattle.verdicts.specs.Answers.{Failure, IsAnswerTo}
use Rattle.verdicts.specs.declared.deciding.OpenGoal.{OpenGoal}
use Rattle.verdicts.proofs.Completing.{Completes, next, next_each, behind_safe, behind_open, at_failing, at_last}
use Rattle.verdicts.proofs.deciding.decide_goals.Goals as goal
use Rattle.verdicts.proofs.deciding.decide_goals.Goals.{in-Holds, in-Undecided}

-- what stands where a list has no goal
abbrev none : Goal
none = record { stage = stage.Init; path = 0; about = about.Abort }

pub returns-in-Fails-clause-answered : goal.returns-in-Fails-clause-answered
returns-in-Fails-clause-answered c =
    let limits = ceilings c.args.limits.now in
    let here = next c.args.counted limits c.args.checked.now c.args.paths c.args.goals.now c.loop-goal.earliest
    c.loop-goal.goal-index
    none c.loop-goal-test.true c.loop-goal.invariant.whole in
    let decided = rw c.in-Fails.is at c.in_ok-settle.ensures.settled in
    let sized = c.in_ok-shown-in-Fails.ensures in
    let f : Failure = record { shown = c.in_ok-shown-in-Fails.shown; least = c.in_ok-shown-in-Fails.least } in
    at_failing c.args.counted limits c.args.checked.now c.args.paths c.args.goals.now c.loop-goal.earliest _ _ f here
    (decided.0, sized.failing, sized.least)

pub loop-goal-preserved : goal.loop-goal-preserved
loop-goal-preserved c =
    let limits = ceilings c.args.limits.now in
    let m = c.args.checked.now in
    let next_goal = get_or c.args.goals.now c.loop-goal.goal-index none in
    let rest = drop (c.loop-goal.goal-index + 1) c.args.goals.now in
    let here = next c.args.counted limits m c.args.paths c.args.goals.now c.loop-goal.earliest c.loop-goal.goal-index
    none
    c.loop-goal-test.true c.loop-goal.invariant.whole in
    record {
      shared = c.in_ok-settle.ensures.shared;
      each = next_each c.args.counted limits m c.args.paths c.args.goals.now
          (IsGoal m) c.loop-goal.goal-index none c.loop-goal-test.true c.loop-goal.invariant.each;
      whole = elim c.match-branch-2.branch [
        | in-Holds w ↦
            let is = rw w.in-Holds.is at c.in_ok-settle.ensures.settled in
            subst (λ (e : Option OpenGoal). Completes c.args.counted limits m c.args.paths c.args.goals.now e rest)
            (sym w.earliest-is)
            (behind_safe c.args.counted limits m c.args.paths c.args.goals.now c.loop-goal.earliest next_goal rest
            here (is.0, is.1))
        | in-Undecided w ↦
            subst (λ (e : Option OpenGoal). Completes c.args.counted limits m c.args.paths c.args.goals.now e rest)
            (sym (w.earliest-is ∙ w.or-earliest.ensures))
            (behind_open c.args.counted limits m c.args.paths c.args.goals.now c.loop-goal.earliest next_goal rest
            w.in-Undecided.cause
            here (rw w.in-Undecided.is at c.in_ok-settle.ensures.settled))
      ];
    }

pub returns-clause-answered : goal.returns-clause-answered
returns-clause-answered c =
    subst (λ (a : Answer). IsAnswerTo c.args.counted (ceilings c.args.limits.now) c.args.checked.now c.args.paths
    c.args.goals.now a)
    (sym c.answer_of.ensures)
    (at_last c.args.counted (ceilings c.args.limits.now) c.args.checked.now c.args.paths c.args.goals.now
    c.loop-goal.earliest
    c.loop-goal.goal-index c.loop-goal-test.false c.loop-goal.invariant.whole)
