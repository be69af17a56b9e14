-- The lines of groups, and whole reports.
use Rattle.std.proofs.Common.{◌≡◌, ℕ, zero, suc, ◌+◌, ◌<◌, ◌≤◌, Bool, true, false, List, [], ◌∷◌, ◌++◌, length, map}
use Rattle.std.proofs.Common.{Option}
use Rattle.std.proofs.Common.{Some, None, refl, sym, ap, ◌∙◌, subst, cond, arith, append_assoc, append-nil}
use Rattle.std.specs.Prelude.{codes, slice_get}
use Rattle.std.specs.List.{AllByRecursion, flat_map}
use Rattle.base.specs.Lists.{count_from, numbered}
use Rattle.base.proofs.Lists.{all_append, all_at}
use Rattle.fol_sig.specs.Tables.{IsSignature}
use Rattle.fol_sig.specs.Tuples.{TuplesAreNumbered}
use Rattle.rml_command.specs.Trees.{PrimitiveTree, CommandTree}
use Rattle.rml_command.specs.Fragment.{IsChecked, HasFewPaths}
use Rattle.rml_command.specs.Models.{ModelTree, FitsModel}
use Rattle.rml_command.specs.Goals.{stage_groups, groups_of, stage_paths, paths_of_block, is_for, HasAbout}
use Rattle.rml_command.specs.Goals.{IsGoal}
use Rattle.rml_command.specs.Laws.{GoalPathsFit}
use Rattle.rml_command.specs.declared.goal.Head.{Head}
use Rattle.rml_command.specs.declared.goal.Stage.{Stage}
use Rattle.rml_command.specs.declared.goal.Stage.TheVariants as stage
use Rattle.rml_command.specs.declared.goal.About.{About}
use Rattle.rml_command.specs.declared.goal.About.TheVariants as about
use Rattle.rml_report.specs.ReportText.{verdict_text, stage_text, about_text}
use Rattle.rml_report.specs.Reports.{goal_at}
use Rattle.rml_report.specs.declared.report.Verdict.{Verdict}
use Rattle.line_scan.specs.Lines.{LinesLeft}
use Rattle.line_scan.specs.Scanning.{behind}
use Rattle.line_scan.specs.Laws.{ScansAreExact}
use Rattle.printed_report.specs.Lines.{IsAxiomsLine}
use Rattle.printed_report.specs.PrintedReports.{head_line, Says, IsGroup, AreGroups, IsPrinted, BeginsReport}
use Rattle.printed_report.specs.PrintedReports.{IsUnexpected}
use Rattle.printed_report.specs.PrintedReports.{IsUnread}
use Rattle.printed_report.specs.declared.printed.Printed.{Printed}
use Rattle.printed_report.specs.declared.printed.PrintedGroup.{PrintedGroup}
use Rattle.printed_report.specs.declared.printed.PrintedAnswer.{PrintedAnswer}
use Rattle.printed_report.specs.declared.printed.PrintedAnswer.TheVariants as answer
use Rattle.report_read.specs.Got.{Got, got, stuck, and_then}
use Rattle.report_values.specs.ValueReading.{on}
use Rattle.report_read.specs.LineReading.{has_goal, has_goal_among, head_in, head_end, is_axioms_line, verdict_in}
use Rattle.report_read.specs.Reading.{passing, read_axioms, read_head, read_answer, read_said, group_of, read_group}
use Rattle.report_read.specs.Reading.{read_groups, read_verdict, printed_of, read_lines, ended, read_nothing, read_all}
use Rattle.report_read.specs.Laws.{ReadingIsExact, PrintedIsOne}
use Rattle.report_read.specs.declared.heads.Standing.{Standing}
use Rattle.report_read.specs.declared.heads.Standing.TheVariants as head
use Rattle.report_read.proofs.Parts.{Lines, left, IsPart, IsOne, IsBoth, IsMade, IsNothing, part_as, nothing, one_part}
use Rattle.report_read.proofs.Parts.{both_part, made_part, got_value, stuck_rest}
use Rattle.report_read.proofs.HeadLines.{IsHead, head_line_is, verdict_line}
use Rattle.report_read.proofs.LeastLines.{axioms_line_is}
use Rattle.report_read.proofs.BlockLines.{IsBlockText, block_part}

-- a group that may fail has a goal
goal_among : (a : About) (ps : List (List PrimitiveTree)) → has_goal_among a ps ≡ true
    → (n : ℕ) × (p : List PrimitiveTree) × (numbered ps (suc n) ≡ Some p) × (is_for a p ≡ true)
goal_among a [] e = absurd (cc e)
goal_among a (p ∷ ps) e = by (is_for a p) refl e (goal_among a ps)
  where
    by : (t : Bool) → is_for a p ≡ t → cond t true (has_goal_among a ps) ≡ true
        → (has_goal_among a ps ≡ true
        → (n : ℕ) × (q : List PrimitiveTree) × (numbered ps (suc n) ≡ Some q) × (is_for a q ≡ true))
        → (n : ℕ) × (q : List PrimitiveTree) × (numbered (p ∷ ps) (suc n) ≡ Some q) × (is_for a q ≡ true)
    by true is f more = (0, p, refl, is)
    by false is f more = let r = more f in (suc r.0, r.1, r.2, r.3)

among_goal : (a : About) (ps : List (List PrimitiveTree)) (n : ℕ) (p : List PrimitiveTree) → numbered ps n ≡ Some p
    → is_for a p ≡ true → has_goal_among a ps ≡ true
among_goal a ps zero p is kind = absurd (cc is)
among_goal a [] (suc n) p is kind = absurd (cc is)
among_goal a (q ∷ qs) (suc zero) p is kind =
    let e : q ≡ p = cc is in
    ap (λ t. cond t true (has_goal_among a qs)) (ap (is_for a) e ∙ kind)
among_goal a (q ∷ qs) (suc (suc n)) p is kind =
    or_right (is_for a q) (has_goal_among a qs) (among_goal a qs (suc n) p is kind)
  where
    or_right : (t u : Bool) → u ≡ true → cond t true u ≡ true
    or_right true u e = refl
    or_right false u e = e

module _ (m : ModelTree) (group : Head) where
  some_goal : HasAbout m group.stage group.about → has_goal m group ≡ true → (n : ℕ) × IsGoal m (goal_at group n)
  some_goal has e =
      let r = goal_among group.about (stage_paths m group.stage) e in
      (suc r.0, record { path = r.1; is_path = r.2; kind = r.3; about = has })

  goal_has : (n : ℕ) → IsGoal m (goal_at group n) → has_goal m group ≡ true
  goal_has n is = among_goal group.about (stage_paths m group.stage) n is.path is.is_path is.kind

no_head : (m : ModelTree) (group : Head) → head_in m group [] ≡ None
no_head m group = by group.stage
  where
    by : (s : Stage) → on (behind (stage_text m.names s) []) (λ a. on (behind (about_text m.names group.about) a)
        (head_end m group)) ≡ None
    by stage.Init = refl
    by (stage.Action a) = refl
    by stage.Final = refl

abbrev make_group : Stage → About → ℕ → PrintedAnswer → PrintedGroup
make_group s a n said = record { stage = s; about = a; line = n; answer = said }

suc_place : (n : ℕ) → 1 + n ≡ n + 1
suc_place n = omega arith

-- what is so of each group of a model
abbrev pub HasForm : ModelTree → Head → Type 0
HasForm m g = HasAbout m g.stage g.about

conjecture_groups : (m : ModelTree) (s : Stage)
    → ((k : ℕ) → k < length m.conjectures → HasAbout m s (about.Conjecture k)) → (n k : ℕ)
    → k + n ≤ length m.conjectures
    → AllByRecursion (HasForm m) (map (λ k. record { stage = s; about = about.Conjecture k }) (count_from k n))
conjecture_groups m s of zero k le = tt
conjecture_groups m s of (suc n) k le =
    (of k (omega (arith, le)), conjecture_groups m s of n (suc k) (omega (arith, le)))

action_groups : (m : ModelTree) (n k : ℕ)
    → AllByRecursion (HasForm m) (flat_map (λ a. stage_groups m (stage.Action a)) (count_from k n))
action_groups m zero k = tt
action_groups m (suc n) k =
    all_append (HasForm m) (stage_groups m (stage.Action k))
    (flat_map (λ a. stage_groups m (stage.Action a)) (count_from (suc k) n))
    (tt, conjecture_groups m (stage.Action k) (λ j lt. lt) (length m.conjectures) 0 (omega arith))
    (action_groups m n (suc k))

about_groups : (m : ModelTree) → AllByRecursion (HasForm m) (groups_of m)
about_groups m =
    all_append (HasForm m) (stage_groups m stage.Init)
    (flat_map (λ a. stage_groups m (stage.Action a)) (count_from 0 (length m.actions))
    ++ (record { stage = stage.Final; about = about.Abort } ∷ []))
    (tt, conjecture_groups m stage.Init (λ k lt. lt) (length m.conjectures) 0 (omega arith))
    (all_append (HasForm m) (flat_map (λ a. stage_groups m (stage.Action a)) (count_from 0 (length m.actions)))
    (record { stage = stage.Final; about = about.Abort } ∷ [])
    (action_groups m (length m.actions) 0) (tt, tt))

module _ (x : ScansAreExact) (numbered_are : TuplesAreNumbered) (m : ModelTree) (ok : IsSignature m.signature)
    (fits : FitsModel m) (law : GoalPathsFit) (few : (s : Stage) → length (stage_paths m s) ≤ 4096) where
  module _ (group : Head) (has : HasAbout m group.stage group.about) where
    abbrev HeadOf : Standing → List ℕ → Type 0
    HeadOf = IsHead x m group has (few group.stage)

    abbrev AnswerOf : Standing → ℕ → PrintedAnswer → Lines → Type 0
    AnswerOf head.Holds = IsNothing answer.Holds
    AnswerOf head.Fails = IsBlockText m group
    AnswerOf head.Undecided = IsNothing answer.Undecided

    answer_part : (h : Standing) (line : List ℕ) → HeadOf h line → IsPart (read_answer m group h) (AnswerOf h)
    answer_part head.Holds line is = nothing answer.Holds
    answer_part head.Fails line is =
        let g = some_goal m group has is.1 in
        block_part x numbered_are m ok fits law group has (few group.stage) g.0 g.1
    answer_part head.Undecided line is = nothing answer.Undecided

    abbrev SaidFrom : ℕ → PrintedAnswer → Lines → Type 0
    SaidFrom = IsBoth (IsOne HeadOf) AnswerOf

    said_by : (n : ℕ) (a : PrintedAnswer) (h : Standing) (line : List ℕ) (back lines : Lines) → HeadOf h line
        → AnswerOf h n a back → lines ≡ line ∷ back → Says m group a lines
    said_by n a head.Holds line back lines is next cut =
        subst (λ b. Says m group b lines) next.0
        (cut ∙ ap (λ l. line ∷ l) next.1 ∙ ap (λ l. l ∷ []) is)
    said_by n a head.Fails line back lines is next cut =
        subst (λ b. Says m group b lines) (sym next.3)
        (back, next.4, cut ∙ ap (λ l. l ∷ back) is.0)
    said_by n a head.Undecided line back lines is next cut =
        subst (λ b. Says m group b lines) next.0
        (line, is, cut ∙ ap (λ l. line ∷ l) next.1)

    said_to : (n : ℕ) (a : PrintedAnswer) (lines : Lines) → SaidFrom n a lines → Says m group a lines
    said_to n a lines is =
        said_by (n + length is.1) a is.0 is.3.0 is.2 lines is.3.1 is.4 (is.5 ∙ ap (λ l. l ++ is.2) is.3.2)

    said_back : (n : ℕ) (a : PrintedAnswer) (lines : Lines) → Says m group a lines → SaidFrom n a lines
    said_back n answer.Holds lines is = (
      head.Holds,
      head_line m group (codes ": holds\n") ∷ [],
      [],
      (head_line m group (codes ": holds\n"), refl, refl),
      (refl, refl),
      is,
    )
    said_back n (answer.Fails paths shown after) lines is = (
      head.Fails,
      head_line m group (codes ": fails\n") ∷ [],
      is.0,
      (
        head_line m group (codes ": fails\n"),
        (
          refl,
          goal_has m group shown.trace.path
              (subst (IsGoal m) is.1.execution.goal is.1.execution.is_goal),
        ),
        refl,
      ),
      (paths, shown, after, refl, is.1),
      is.2,
    )
    said_back n answer.Undecided lines is =
        (head.Undecided, is.0 ∷ [], [], (is.0, is.1, refl), (refl, refl), is.2)

    said_part : IsPart (read_said m group) (λ (_ : ℕ). Says m group)
    said_part =
        part_as (read_said m group) SaidFrom (λ (_ : ℕ). Says m group) said_to said_back
        (both_part (read_head m group) (IsOne HeadOf) (read_answer m group) AnswerOf
        (one_part (head_in m group) HeadOf (head_line_is x m group has (few group.stage) (no_head m group)))
        (λ h n front is. answer_part h is.0 is.1))

    abbrev OfGroup : ℕ → PrintedGroup → Lines → Type 0
    OfGroup n g lines = IsGroup m n group g lines

    group_to : (n : ℕ) (g : PrintedGroup) (lines : Lines)
        → IsMade (λ (_ : ℕ). Says m group) (group_of group) n g lines → OfGroup n g lines
    group_to n g lines is =
        subst (λ h. IsGroup m n group h lines) is.2
        (record { stage = refl; about = refl; line = refl; answer = is.1 })

    group_back : (n : ℕ) (g : PrintedGroup) (lines : Lines) → OfGroup n g lines
        → IsMade (λ (_ : ℕ). Says m group) (group_of group) n g lines
    group_back n g lines is = (
      g.answer,
      is.answer,
      ap (λ s. make_group s group.about n g.answer) (sym is.stage)
          ∙ ap (λ a. make_group g.stage a n g.answer) (sym is.about)
          ∙ ap (λ k. make_group g.stage g.about k g.answer) (sym is.line),
    )

    group_part : IsPart (read_group m group) OfGroup
    group_part =
        part_as (read_group m group) (IsMade (λ (_ : ℕ). Says m group) (group_of group)) OfGroup group_to group_back
        (made_part (read_said m group) (λ (_ : ℕ). Says m group) (group_of group) said_part)

  -- groups behind others
  record GroupsFrom (groups : List Head) (done : List PrintedGroup) (n : ℕ) (gs : List PrintedGroup) (lines : Lines)
      : Type 0 where
    more : List PrintedGroup
    all : gs ≡ done ++ more
    are : AreGroups m n groups more lines

  abbrev GroupStep : Head → List Head → List PrintedGroup → ℕ → List PrintedGroup → Lines → Type 0
  GroupStep group groups done =
      IsBoth (λ n g lines. IsGroup m n group g lines) (λ g. GroupsFrom groups (done ++ g ∷ []))

  groups_none_to : (done : List PrintedGroup) (n : ℕ) (gs : List PrintedGroup) (lines : Lines)
      → IsNothing done n gs lines → GroupsFrom [] done n gs lines
  groups_none_to done n gs lines is = record {
    more = [];
    all = sym is.0 ∙ sym (append-nil done);
    are = is.1;
  }

  groups_none_back : (done : List PrintedGroup) (n : ℕ) (gs : List PrintedGroup) (lines : Lines)
      → GroupsFrom [] done n gs lines → IsNothing done n gs lines
  groups_none_back done n gs lines is = by is.more is.all is.are
    where
      by : (more : List PrintedGroup) → gs ≡ done ++ more → AreGroups m n [] more lines → IsNothing done n gs lines
      by [] all are = (sym (all ∙ append-nil done), are)
      by (g ∷ more) all are = absurd are

  groups_step_to : (group : Head) (groups : List Head) (done : List PrintedGroup) (n : ℕ) (gs : List PrintedGroup)
      (lines : Lines) → GroupStep group groups done n gs lines → GroupsFrom (group ∷ groups) done n gs lines
  groups_step_to group groups done n gs lines is =
      let next = is.4 in
      record {
        more = is.0 ∷ next.more;
        all = next.all ∙ append_assoc done (is.0 ∷ []) next.more;
        are = (is.1, is.2, is.3, next.are, is.5);
      }

  groups_step_back : (group : Head) (groups : List Head) (done : List PrintedGroup) (n : ℕ) (gs : List PrintedGroup)
      (lines : Lines) → GroupsFrom (group ∷ groups) done n gs lines → GroupStep group groups done n gs lines
  groups_step_back group groups done n gs lines is = by is.more is.all is.are
    where
      by : (more : List PrintedGroup) → gs ≡ done ++ more → AreGroups m n (group ∷ groups) more lines
          → GroupStep group groups done n gs lines
      by [] all are = absurd are
      by (g ∷ more) all are = (
        g,
        are.0,
        are.1,
        are.2,
        record { more = more; all = all ∙ sym (append_assoc done (g ∷ []) more); are = are.3 },
        are.4,
      )

  groups_part : (groups : List Head) → AllByRecursion (HasForm m) groups
      → (done : List PrintedGroup) → IsPart (read_groups m groups done) (GroupsFrom groups done)
  groups_part [] all done =
      part_as (λ l. got done l) (IsNothing done) (GroupsFrom [] done) (groups_none_to done) (groups_none_back done)
      (nothing done)
  groups_part (group ∷ groups) all done =
      part_as (read_groups m (group ∷ groups) done) (GroupStep group groups done) (GroupsFrom (group ∷ groups) done)
      (groups_step_to group groups done) (groups_step_back group groups done)
      (both_part (read_group m group) (λ n g lines. IsGroup m n group g lines)
      (λ g more. read_groups m groups (done ++ g ∷ []) more) (λ g. GroupsFrom groups (done ++ g ∷ []))
      (group_part group all.0) (λ g _ _ _. groups_part groups all.1 (done ++ g ∷ [])))

  -- a whole report, from its first line on
  abbrev AxiomsOf : Unit {0} → List ℕ → Type 0
  AxiomsOf u line = IsAxiomsLine line

  abbrev VerdictFrom : List PrintedGroup → ℕ → Printed → Lines → Type 0
  VerdictFrom groups =
      IsMade (IsOne (λ (v : Verdict) line. line ≡ verdict_text v)) (λ _ v. printed_of groups v)

  abbrev LinesFrom : ℕ → Printed → Lines → Type 0
  LinesFrom = IsBoth (IsOne AxiomsOf) (λ _. IsBoth (GroupsFrom (groups_of m) []) VerdictFrom)

  lines_part : IsPart (read_lines m) LinesFrom
  lines_part =
      both_part read_axioms (IsOne AxiomsOf)
      (λ _ more. and_then (read_groups m (groups_of m) [] more)
      (λ groups next. and_then (read_verdict next) (λ v rest. got (printed_of groups v) rest)))
      (λ _. IsBoth (GroupsFrom (groups_of m) []) VerdictFrom)
      (one_part (λ l. passing (is_axioms_line l)) AxiomsOf (axioms_line_is x))
      (λ _ _ _ _. both_part (read_groups m (groups_of m) []) (GroupsFrom (groups_of m) [])
      (λ groups next. and_then (read_verdict next) (λ v rest. got (printed_of groups v) rest)) VerdictFrom
      (groups_part (groups_of m) (about_groups m) [])
      (λ groups _ _ _. made_part read_verdict (IsOne (λ v line. line ≡ verdict_text v)) (λ _ v. printed_of groups v)
      (one_part verdict_in (λ v line. line ≡ verdict_text v) verdict_line)))

  printed_to : (p : Printed) (lines : Lines) → LinesFrom 1 p lines → IsPrinted m p lines
  printed_to p lines is =
      let first = is.3 in
      let groups = is.4.3 in
      let made = is.4.4 in
      let two : 1 + length is.1 ≡ 2 = ap (λ (l : Lines). 1 + length l) first.2 in
      subst (λ q. IsPrinted m q lines) made.2
      (record {
        axioms = first.0;
        is_axioms = first.1;
        middle = is.4.1;
        groups = subst (λ k. AreGroups m k (groups_of m) is.4.0 is.4.1) two
            (subst (λ gs. AreGroups m (1 + length is.1) (groups_of m) gs is.4.1) (sym groups.all) groups.are);
        text = is.5 ∙ ap (λ l. l ++ is.2) first.2
            ∙ ap (λ l. first.0 ∷ l) (is.4.5 ∙ ap (λ l. is.4.1 ++ l) (made.1.2 ∙ ap (λ l. l ∷ []) made.1.1));
      })

  printed_back : (p : Printed) (lines : Lines) → IsPrinted m p lines → LinesFrom 1 p lines
  printed_back p lines is = (
    tt,
    is.axioms ∷ [],
    is.middle ++ verdict_text p.verdict ∷ [],
    (is.axioms, is.is_axioms, refl),
    (
      p.groups,
      is.middle,
      verdict_text p.verdict ∷ [],
      record { more = p.groups; all = refl; are = is.groups },
      (p.verdict, (verdict_text p.verdict, refl, refl), refl),
      refl,
    ),
    is.text,
  )

  -- what the whole reader answers
  abbrev start : Lines → LinesLeft
  start lines = left 1 lines

  whole_at : (lines : Lines) (p q : Printed) (n : ℕ) (ls : Lines) (rest : LinesLeft)
      → read_lines m (left 1 lines) ≡ got q (left n ls) → ended q ls n ≡ got p rest → IsPrinted m p lines
  whole_at lines p q n (line ∷ more) rest is h = absurd (cc h)
  whole_at lines p q n [] rest is h =
      let a = lines_part.sound 1 lines q (left n []) is in
      let same : q ≡ p = got_value q p (left n []) rest h in
      let all : lines ≡ a.front = a.cut ∙ append-nil a.front in
      subst (λ z. IsPrinted m z lines) same (subst (IsPrinted m q) (sym all) (printed_to q a.front a.is))

  pub read_whole : (lines : Lines) (p : Printed) (rest : LinesLeft) → read_all m (left 1 lines) ≡ got p rest
      → IsPrinted m p lines
  read_whole lines p rest e = by (read_lines m (left 1 lines)) refl e
    where
      by : (g : Got Printed) → read_lines m (left 1 lines) ≡ g → and_then g read_nothing ≡ got p rest
          → IsPrinted m p lines
      by (stuck l) is f = absurd (cc f)
      by (got q l) is f = whole_at lines p q l.number l.lines rest is f

  pub whole_read : (lines : Lines) (p : Printed) → IsPrinted m p lines
      → read_all m (left 1 lines) ≡ got p (left (1 + length lines) [])
  whole_read lines p is =
      ap (λ l. read_all m (left 1 l)) (sym (append-nil lines))
      ∙ ap (λ g. and_then g read_nothing) (lines_part.there 1 p lines [] (printed_back p lines is))

  pub one_report : (p q : Printed) (lines : Lines) → IsPrinted m p lines → IsPrinted m q lines → p ≡ q
  one_report p q lines a b =
      got_value p q (left (1 + length lines) []) (left (1 + length lines) [])
      (sym (whole_read lines p a) ∙ whole_read lines q b)

  -- a report that begins with lines at which the reader halts
  not_begun : (front : Lines) (line : List ℕ) (n : ℕ)
      → ((next : Lines) → read_all m (left 1 (front ++ line ∷ next)) ≡ stuck (left n (line ∷ next)))
      → BeginsReport m (front ++ line ∷ []) → ⊥
  not_begun front line n halts is =
      let all : (front ++ line ∷ []) ++ is.1 ≡ front ++ line ∷ is.1 = append_assoc front (line ∷ []) is.1 in
      let e : stuck (left n (line ∷ is.1)) ≡ got is.0 (left (1 + length ((front ++ line ∷ []) ++ is.1)) []) =
      sym (halts is.1) ∙ ap (λ l. read_all m (left 1 l)) (sym all)
      ∙ whole_read ((front ++ line ∷ []) ++ is.1) is.0 is.2 in
      absurd (cc e)

  -- where it is stuck
  module _ (lines : Lines) (rest : LinesLeft) (e : read_all m (left 1 lines) ≡ stuck rest) where
    unexpected_at : (front : Lines) (n : ℕ) (ls : Lines) → lines ≡ front ++ ls
        → ((line : List ℕ) (others next : Lines) → ls ≡ line ∷ others
        → read_all m (left 1 (front ++ line ∷ next)) ≡ stuck (left n (line ∷ next)))
        → IsUnexpected m front ls
    unexpected_at front n [] cut halts = λ p is.
        let f : stuck rest ≡ got p (left (1 + length front) []) =
        sym e ∙ ap (λ l. read_all m (left 1 l)) (cut ∙ append-nil front) ∙ whole_read front p is in
        absurd (cc f)
    unexpected_at front n (line ∷ others) cut halts =
        not_begun front line n (λ next. halts line others next refl)

    in_lines : (l : LinesLeft) → read_lines m (left 1 lines) ≡ stuck l → l ≡ rest → IsUnread m lines rest.number
    in_lines l is same =
        let h = lines_part.halts 1 lines l is in
        record {
          before = h.front;
          rest = l.lines;
          cut = h.cut;
          place = sym (ap (λ (k : LinesLeft). k.number) same) ∙ h.number ∙ suc_place (length h.front);
          begins = (h.value, h.more, printed_to h.value (h.front ++ h.more) h.begun);
          unexpected = unexpected_at h.front l.number l.lines h.cut
              (λ line others next f. ap (λ g. and_then g read_nothing) (h.same line others next f));
        }

    behind_lines : (p : Printed) (n : ℕ) (ls : Lines) → read_lines m (left 1 lines) ≡ got p (left n ls)
        → ended p ls n ≡ stuck rest → IsUnread m lines rest.number
    behind_lines p n [] is f = absurd (cc f)
    behind_lines p n (line ∷ more) is f =
        let same : left n (line ∷ more) ≡ rest = stuck_rest Printed (left n (line ∷ more)) rest f in
        let a = lines_part.sound 1 lines p (left n (line ∷ more)) is in
        record {
          before = a.front;
          rest = line ∷ more;
          cut = a.cut;
          place = sym (ap (λ (k : LinesLeft). k.number) same) ∙ a.number ∙ suc_place (length a.front);
          begins = (p, [], subst (IsPrinted m p) (sym (append-nil a.front)) (printed_to p a.front a.is));
          unexpected = not_begun a.front line (1 + length a.front)
              (λ next. ap (λ g. and_then g read_nothing) (lines_part.there 1 p a.front (line ∷ next) a.is));
        }

    pub stuck_unread : IsUnread m lines rest.number
    stuck_unread = by (read_lines m (left 1 lines)) refl e
      where
        by : (g : Got Printed) → read_lines m (left 1 lines) ≡ g → and_then g read_nothing ≡ stuck rest
            → IsUnread m lines rest.number
        by (stuck l) is f = in_lines l is (stuck_rest Printed l rest f)
        by (got p l) is f = behind_lines p l.number l.lines is f

-- the blocks of a checked model have few paths
few_of : (block : Option CommandTree) → ((c : CommandTree) → block ≡ Some c → HasFewPaths c)
    → length (paths_of_block block) ≤ 4096
few_of None h = omega arith
few_of (Some c) h = h c refl

pub few_paths : (m : ModelTree) → IsChecked m → (s : Stage) → length (stage_paths m s) ≤ 4096
few_paths m ok stage.Init = ok.few_paths.init
few_paths m ok (stage.Action a) =
    few_of (slice_get m.actions a) (λ c is. all_at HasFewPaths m.actions a c is ok.few_paths.actions)
few_paths m ok stage.Final = ok.few_paths.last

pub exact : ScansAreExact → TuplesAreNumbered → GoalPathsFit → ReadingIsExact
exact x numbered_are law = record {
  whole = λ m ok sig lines p rest e. read_whole x numbered_are m sig ok.model.fits law (few_paths m ok) lines p rest e;
  unread = λ m ok sig lines rest e.
      stuck_unread x numbered_are m sig ok.model.fits law (few_paths m ok) lines rest e;
  there = λ m ok sig lines p is.
      (left (1 + length lines) [], whole_read x numbered_are m sig ok.model.fits law (few_paths m ok) lines p is);
}

pub is_one : ScansAreExact → TuplesAreNumbered → GoalPathsFit → PrintedIsOne
is_one x numbered_are law = λ m p q lines ok sig a b.
    one_report x numbered_are m sig ok.model.fits law (few_paths m ok) p q lines a b
