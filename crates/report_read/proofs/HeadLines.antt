-- The lines of a group's head, of a path and of a verdict, and lines of words alone.
use Rattle.std.proofs.Common.{◌≡◌, ℕ, ◌≤◌, Bool, true, false, List, [], ◌++◌, length, Option, Some, None, refl, sym}
use Rattle.std.proofs.Common.{ap, ◌∙◌, subst, cond, arith}
use Rattle.std.specs.Prelude.{codes, decimal}
use Rattle.std.specs.Str.{bytes_eq}
use Rattle.base.specs.Lists.{numbered}
use Rattle.rml_command.specs.Trees.{PrimitiveTree}
use Rattle.rml_command.specs.Models.{ModelTree}
use Rattle.rml_command.specs.Goals.{stage_paths, HasAbout, IsGoal}
use Rattle.rml_command.specs.declared.goal.Head.{Head}
use Rattle.rml_report.specs.Words.{cause_text}
use Rattle.rml_report.specs.ReportText.{stage_text, about_text, head_text, path_line, undecided_text, verdict_text}
use Rattle.rml_report.specs.Reports.{goal_at}
use Rattle.limits.specs.declared.cause.Cause.{Cause}
use Rattle.limits.specs.declared.cause.Cause.TheVariants as cause
use Rattle.rml_report.specs.declared.report.Verdict.{Verdict}
use Rattle.rml_report.specs.declared.report.Verdict.TheVariants as verdict
use Rattle.line_scan.specs.Scanning.{behind, number_at, is_end, most}
use Rattle.line_scan.specs.Laws.{ScansAreExact}
use Rattle.printed_report.specs.Lines.{IsCause, IsCounted, IsUndecidedLine}
use Rattle.printed_report.specs.PrintedReports.{head_line}
use Rattle.report_values.specs.ValueReading.{choose, on}
use Rattle.report_read.specs.LineReading.{behind_counted, behind_cause, ends, is_goal_path, is_goal_at}
use Rattle.report_read.specs.LineReading.{has_goal, is_open_path, head_end, head_in, path_end, path_in, words_in}
use Rattle.report_read.specs.LineReading.{verdict_in}
use Rattle.report_read.specs.declared.heads.Standing.{Standing}
use Rattle.report_read.specs.declared.heads.Standing.TheVariants as head
use Rattle.report_read.proofs.Pieces.{apart3, apart5, tested, passed_test, numbered_below, behind_then, number_then}
use Rattle.report_read.proofs.Parts.{IsLine}
use Rattle.report_read.proofs.LineLaws.{chosen, taken, kept, same_words, are_words, other_words, counted_end}
use Rattle.report_read.proofs.LineLaws.{counted_end_sound, not_words}

-- a line of words
pub words_line : (words : List ℕ) → bytes_eq [] words ≡ false → IsLine (words_in words) (λ _ line. line ≡ words)
words_line words full = record {
  there = λ u line is. ap (λ t. cond t (Some tt) None) (same_words words line is);
  sound = λ line u e. are_words words line (kept (bytes_eq line words) tt u e).test;
  empty = ap (λ t. cond t (Some tt) None) full;
  value = tt;
  line = words;
  some = refl;
}

-- the verdict
verdict_there : (v : Verdict) (line : List ℕ) → line ≡ verdict_text v → verdict_in line ≡ Some v
verdict_there verdict.Inductive line is = ap verdict_in is
verdict_there verdict.NotInductive line is = ap verdict_in is
verdict_there verdict.Undecided line is = ap verdict_in is

verdict_sound : (line : List ℕ) (v : Verdict) → verdict_in line ≡ Some v → line ≡ verdict_text v
verdict_sound line v e =
    by (bytes_eq line (codes "verdict: inductive\n")) (bytes_eq line (codes "verdict: not inductive\n"))
    (bytes_eq line (codes "verdict: undecided\n")) refl refl refl e
  where
    by : (a b c : Bool) → bytes_eq line (codes "verdict: inductive\n") ≡ a
        → bytes_eq line (codes "verdict: not inductive\n") ≡ b → bytes_eq line (codes "verdict: undecided\n") ≡ c
        → cond a (Some verdict.Inductive) (cond b (Some verdict.NotInductive) (cond c (Some verdict.Undecided) None))
        ≡ Some v → line ≡ verdict_text v
    by true b c i j k f = are_words (codes "verdict: inductive\n") line i
        ∙ ap verdict_text (let s : verdict.Inductive ≡ v = cc f in s)
    by false true c i j k f = are_words (codes "verdict: not inductive\n") line j
        ∙ ap verdict_text (let s : verdict.NotInductive ≡ v = cc f in s)
    by false false true i j k f = are_words (codes "verdict: undecided\n") line k
        ∙ ap verdict_text (let s : verdict.Undecided ≡ v = cc f in s)
    by false false false i j k f = absurd (cc f)

pub verdict_line : IsLine verdict_in (λ v line. line ≡ verdict_text v)
verdict_line = record {
  there = verdict_there;
  sound = verdict_sound;
  empty = refl;
  value = verdict.Undecided;
  line = codes "verdict: undecided\n";
  some = refl;
}

-- the goals of a group
pub goal_there : (m : ModelTree) (group : Head) (n : ℕ) → IsGoal m (goal_at group n) → is_goal_at m group n ≡ true
goal_there m group n is = ap (is_goal_path group.about) is.is_path ∙ is.kind

pub goal_sound : (m : ModelTree) (group : Head) (n : ℕ) → HasAbout m group.stage group.about
    → is_goal_at m group n ≡ true → IsGoal m (goal_at group n)
goal_sound m group n has e = by (numbered (stage_paths m group.stage) n) refl e
  where
    by : (o : Option (List PrimitiveTree)) → numbered (stage_paths m group.stage) n ≡ o
        → is_goal_path group.about o ≡ true → IsGoal m (goal_at group n)
    by None is f = absurd (cc f)
    by (Some p) is f = record { path = p; is_path = is; kind = f; about = has }

-- any cause, and the end of the line
pub record HasCauseEnd (bs : List ℕ) : Type 0 where
  pub cause_is : Cause
  pub can : IsCause cause_is
  pub text : bs ≡ cause_text cause_is ++ codes "\n"

counted_cause : (c : Cause) → IsCounted c → IsCause c
counted_cause cause.Formula can = absurd can
counted_cause (cause.Terms n) can = can
counted_cause (cause.Ground n) can = can
counted_cause (cause.Conflicts n) can = can

module _ (x : ScansAreExact) where
  cause_end : (c : Cause) → IsCause c → ends (behind_cause (cause_text c ++ codes "\n")) ≡ true
  cause_end cause.Formula can = x.end_there
  cause_end (cause.Terms n) can = counted_end x (cause.Terms n) can
  cause_end (cause.Ground n) can = counted_end x (cause.Ground n) can
  cause_end (cause.Conflicts n) can = counted_end x (cause.Conflicts n) can

  cause_end_sound : (bs : List ℕ) → ends (behind_cause bs) ≡ true → HasCauseEnd bs
  cause_end_sound bs e = by (behind (codes "formula") bs) refl e
    where
      by : (o : Option (List ℕ)) → behind (codes "formula") bs ≡ o → ends (choose o Some (behind_counted bs)) ≡ true
          → HasCauseEnd bs
      by (Some a) is f = record {
        cause_is = cause.Formula;
        can = tt;
        text = behind_then x (codes "formula") bs a (codes "\n") is (x.end_sound a f);
      }
      by None is f =
          let h = counted_end_sound x bs f in
          record { cause_is = h.cause_is; can = counted_cause h.cause_is h.can; text = h.text }

  module _ (m : ModelTree) (group : Head) (has : HasAbout m group.stage group.about)
      (few : length (stage_paths m group.stage) ≤ 4096) where
    small_path : (n : ℕ) → IsGoal m (goal_at group n) → n ≤ most
    small_path n is = omega (arith, numbered_below (stage_paths m group.stage) n is.path is.is_path, few)

    -- the line of a path
    pub record IsPathLine (paths path : ℕ) (line : List ℕ) : Type 0 where
      pub goal_is : IsGoal m (goal_at group path)
      pub text : line ≡ path_line path paths

    path_there : (paths path : ℕ) (line : List ℕ) → IsPathLine paths path line
        → path_in m group paths line ≡ Some path
    unfolding path_line
    path_there paths path line is =
        ap (path_in m group paths)
        (is.text ∙ apart5 (codes "  path ") (decimal path) (codes " of ") (decimal paths) (codes "\n"))
        ∙ ap (λ o. on o (λ (n : ℕ × List ℕ). cond (is_goal_at m group n.0) (path_end n.0 paths n.1) None))
        (x.number_there path (codes " of " ++ (decimal paths ++ codes "\n")) (small_path path is.goal_is) refl)
        ∙ ap (λ t. cond t (path_end path paths (codes " of " ++ (decimal paths ++ codes "\n"))) None)
        (goal_there m group path is.goal_is)
        ∙ ap (λ o. on o (λ (b : List ℕ). cond (is_end b) (Some path) None))
        (x.behind_there (decimal paths) (codes "\n"))
        ∙ ap (λ t. cond t (Some path) None) x.end_there

    path_sound : (paths : ℕ) (line : List ℕ) (path : ℕ) → path_in m group paths line ≡ Some path
        → IsPathLine paths path line
    unfolding path_line
    path_sound paths line path e =
        let a = taken (behind (codes "  path ") line) (λ (l : List ℕ). on (number_at l) (λ (n : ℕ × List ℕ).
        cond (is_goal_at m group n.0) (path_end n.0 paths n.1) None)) path e in
        let b = taken (number_at a.value) (λ (n : ℕ × List ℕ).
        cond (is_goal_at m group n.0) (path_end n.0 paths n.1) None) path a.gives in
        let c : (is_goal_at m group b.value.0 ≡ true) × (path_end b.value.0 paths b.value.1 ≡ Some path) =
        tested (is_goal_at m group b.value.0) (path_end b.value.0 paths b.value.1) path b.gives in
        let d = taken (behind (codes " of ") b.value.1) (λ (l : List ℕ). on (behind (decimal paths) l)
        (λ (r : List ℕ). cond (is_end r) (Some b.value.0) None)) path c.1 in
        let f = taken (behind (decimal paths) d.value) (λ (r : List ℕ). cond (is_end r) (Some b.value.0) None) path
        d.gives in
        let k = kept (is_end f.value) b.value.0 path f.gives in
        let here : line ≡ codes "  path " ++ (decimal b.value.0 ++ (codes " of " ++ (decimal paths ++ codes "\n"))) =
        behind_then x (codes "  path ") line a.value
        (decimal b.value.0 ++ (codes " of " ++ (decimal paths ++ codes "\n")))
        a.found
        (number_then x a.value b.value (codes " of " ++ (decimal paths ++ codes "\n")) b.found
        (behind_then x (codes " of ") b.value.1 d.value (decimal paths ++ codes "\n") d.found
        (behind_then x (decimal paths) d.value f.value (codes "\n") f.found (x.end_sound f.value k.test)))) in
        record {
          goal_is = subst (λ n. IsGoal m (goal_at group n)) k.value (goal_sound m group b.value.0 has c.0);
          text = here
              ∙ ap (λ n. codes "  path " ++ (decimal n ++ (codes " of " ++ (decimal paths ++ codes "\n")))) k.value
              ∙ sym (apart5 (codes "  path ") (decimal path) (codes " of ") (decimal paths) (codes "\n"));
        }

    pub path_line_is : (paths path : ℕ) → IsGoal m (goal_at group path)
        → IsLine (path_in m group paths) (IsPathLine paths)
    path_line_is paths path is = record {
      there = path_there paths;
      sound = path_sound paths;
      empty = refl;
      value = path;
      line = path_line path paths;
      some = record { goal_is = is; text = refl };
    }

    -- the line of a head
    abbrev pub IsHead : Standing → List ℕ → Type 0
    IsHead head.Holds line = line ≡ head_line m group (codes ": holds\n")
    IsHead head.Fails line = (line ≡ head_line m group (codes ": fails\n")) × (has_goal m group ≡ true)
    IsHead head.Undecided line = IsUndecidedLine m group line

    head_there_end : (line rest : List ℕ) → line ≡ head_line m group rest → head_in m group line ≡ head_end m group rest
    unfolding head_text
    head_there_end line rest is =
        ap (head_in m group) (is ∙ apart3 (stage_text m.names group.stage) (about_text m.names group.about) rest)
        ∙ ap (λ o. on o (λ (l : List ℕ). on (behind (about_text m.names group.about) l) (head_end m group)))
        (x.behind_there (stage_text m.names group.stage) (about_text m.names group.about ++ rest))
        ∙ ap (λ o. on o (head_end m group)) (x.behind_there (about_text m.names group.about) rest)

    open_path_there : (path : ℕ) (c : Cause) → IsGoal m (goal_at group path) → IsCause c
        → is_open_path m group (decimal path ++ (codes " " ++ (cause_text c ++ codes "\n"))) ≡ true
    open_path_there path c is can =
        ap (λ o. choose o (λ (n : ℕ × List ℕ). cond (is_goal_at m group n.0)
        (choose (behind (codes " ") n.1) (λ a. ends (behind_cause a)) false) false) false)
        (x.number_there path (codes " " ++ (cause_text c ++ codes "\n")) (small_path path is) refl)
        ∙ ap (λ t. cond t (ends (behind_cause (cause_text c ++ codes "\n"))) false) (goal_there m group path is)
        ∙ cause_end c can

    undecided_there : (path : ℕ) (c : Cause) → IsGoal m (goal_at group path) → IsCause c
        → head_end m group (undecided_text path c) ≡ Some head.Undecided
    unfolding undecided_text
    undecided_there path c is can =
        let rest : List ℕ = decimal path ++ (codes " " ++ (cause_text c ++ codes "\n")) in
        let bs : List ℕ = codes ": undecided path " ++ (decimal path ++ (codes " " ++ (cause_text c ++ codes "\n"))) in
        let found : behind (codes ": undecided path ") bs ≡ Some rest = refl in
        let a = other_words (codes ": holds\n") bs (not_words x (codes ": undecided path ") rest bs
        (codes ": holds\n") found refl) in
        let b = other_words (codes ": fails\n") bs (not_words x (codes ": undecided path ") rest bs
        (codes ": fails\n") found refl) in
        let end : Option Standing = on (behind (codes ": undecided path ") bs)
        (λ a. cond (is_open_path m group a) (Some head.Undecided) None) in
        ap (head_end m group)
        (apart5 (codes ": undecided path ") (decimal path) (codes " ") (cause_text c) (codes "\n"))
        ∙ ap (λ t. cond t (Some head.Holds) (cond (bytes_eq bs (codes ": fails\n"))
        (cond (has_goal m group) (Some head.Fails) None) end)) a
        ∙ ap (λ t. cond t (cond (has_goal m group) (Some head.Fails) None) end) b
        ∙ ap (λ t. cond t (Some head.Undecided) None) (open_path_there path c is can)

    head_there : (h : Standing) (line : List ℕ) → IsHead h line → head_in m group line ≡ Some h
    head_there head.Holds line is = head_there_end line (codes ": holds\n") is
    head_there head.Fails line is =
        head_there_end line (codes ": fails\n") is.0 ∙ ap (λ t. cond t (Some head.Fails) None) is.1
    head_there head.Undecided line is =
        head_there_end line (undecided_text is.path is.cause) is.text ∙ undecided_there is.path is.cause is.goal is.can

    undecided_sound : (bs : List ℕ) → is_open_path m group bs ≡ true
        → (path : ℕ) × (c : Cause) × IsGoal m (goal_at group path) × IsCause c
        × (bs ≡ decimal path ++ (codes " " ++ (cause_text c ++ codes "\n")))
    undecided_sound bs e =
        let a = chosen (number_at bs) (λ (n : ℕ × List ℕ). cond (is_goal_at m group n.0)
        (choose (behind (codes " ") n.1) (λ a. ends (behind_cause a)) false) false) e in
        let c : (is_goal_at m group a.value.0 ≡ true)
        × (choose (behind (codes " ") a.value.1) (λ a. ends (behind_cause a)) false ≡ true) =
        passed_test (is_goal_at m group a.value.0)
        (choose (behind (codes " ") a.value.1) (λ a. ends (behind_cause a)) false) a.holds in
        let d = chosen (behind (codes " ") a.value.1) (λ a. ends (behind_cause a)) c.1 in
        let h = cause_end_sound d.value d.holds in (
          a.value.0,
          h.cause_is,
          goal_sound m group a.value.0 has c.0,
          h.can,
          number_then x bs a.value (codes " " ++ (cause_text h.cause_is ++ codes "\n")) a.found
              (behind_then x (codes " ") a.value.1 d.value (cause_text h.cause_is ++ codes "\n") d.found h.text),
        )

    open_sound : (line bs : List ℕ) (h : Standing) → line ≡ head_line m group bs
        → on (behind (codes ": undecided path ") bs) (λ a. cond (is_open_path m group a) (Some head.Undecided) None)
        ≡ Some h → IsHead h line
    unfolding undecided_text
    open_sound line bs h is e =
        let a = taken (behind (codes ": undecided path ") bs)
        (λ a. cond (is_open_path m group a) (Some head.Undecided) None) h e in
        let k = kept (is_open_path m group a.value) head.Undecided h a.gives in
        let u = undecided_sound a.value k.test in
        let text : bs ≡ undecided_text u.0 u.1 =
        behind_then x (codes ": undecided path ") bs a.value
        (decimal u.0 ++ (codes " " ++ (cause_text u.1 ++ codes "\n")))
        a.found u.4
        ∙ sym (apart5 (codes ": undecided path ") (decimal u.0) (codes " ") (cause_text u.1) (codes "\n")) in
        subst (λ g. IsHead g line) k.value
        (record { path = u.0; cause = u.1; goal = u.2; can = u.3; text = is ∙ ap (head_line m group) text })

    head_end_sound : (line bs : List ℕ) (h : Standing) → line ≡ head_line m group bs → head_end m group bs ≡ Some h
        → IsHead h line
    head_end_sound line bs h is e =
        by (bytes_eq bs (codes ": holds\n")) (bytes_eq bs (codes ": fails\n")) refl refl e
      where
        by : (t u : Bool) → bytes_eq bs (codes ": holds\n") ≡ t → bytes_eq bs (codes ": fails\n") ≡ u
            → cond t (Some head.Holds) (cond u (cond (has_goal m group) (Some head.Fails) None)
            (on (behind (codes ": undecided path ") bs)
            (λ a. cond (is_open_path m group a) (Some head.Undecided) None))) ≡ Some h → IsHead h line
        by true u i j f =
            let s : head.Holds ≡ h = cc f in
            subst (λ g. IsHead g line) s (is ∙ ap (head_line m group) (are_words (codes ": holds\n") bs i))
        by false true i j f =
            let k = kept (has_goal m group) head.Fails h f in
            subst (λ g. IsHead g line) k.value
            (is ∙ ap (head_line m group) (are_words (codes ": fails\n") bs j), k.test)
        by false false i j f = open_sound line bs h is f

    head_sound : (line : List ℕ) (h : Standing) → head_in m group line ≡ Some h → IsHead h line
    unfolding head_text
    head_sound line h e =
        let a = taken (behind (stage_text m.names group.stage) line)
        (λ (l : List ℕ). on (behind (about_text m.names group.about) l) (head_end m group)) h e in
        let b = taken (behind (about_text m.names group.about) a.value) (head_end m group) h a.gives in
        head_end_sound line b.value h
        (behind_then x (stage_text m.names group.stage) line a.value (about_text m.names group.about ++ b.value) a.found
        (x.behind_sound (about_text m.names group.about) a.value b.value b.found)
        ∙ sym (apart3 (stage_text m.names group.stage) (about_text m.names group.about) b.value)) b.gives

    pub head_line_is : head_in m group [] ≡ None → IsLine (head_in m group) IsHead
    head_line_is none = record {
      there = head_there;
      sound = head_sound;
      empty = none;
      value = head.Holds;
      line = head_line m group (codes ": holds\n");
      some = refl;
    }
