-- The lines of what is shown of a group that fails.
use Rattle.std.proofs.Common.{◌≡◌, ℕ, zero, suc, ◌<◌, ◌≤◌, List, [], ◌∷◌, ◌++◌, length, map, All, Option, Some}
use Rattle.std.proofs.Common.{None, refl, sym, ap, ◌∙◌, subst, arith, append_assoc}
use Rattle.std.specs.Prelude.{codes, slice_index, slice_get}
use Rattle.std.specs.List.{AllByRecursion}
use Rattle.std.proofs.lemmas.List.Elements.{All-from_recursion, recursion_from_All}
use Rattle.base.specs.Lists.{count_from}
use Rattle.base.proofs.Lists.{all_more, all_at}
use Rattle.fol_sig.specs.Tables.{Tables, IsSignature, InRange}
use Rattle.fol_sig.specs.Symbols.{Symbols, FitsStructure, symbols}
use Rattle.fol_sig.specs.Tuples.{TuplesAreNumbered}
use Rattle.fol_formula.specs.Syntax.{FormTree, for_all}
use Rattle.fol_formula.specs.Fits.{FitsForm}
use Rattle.rml_command.specs.Models.{ModelTree, FitsModel}
use Rattle.rml_command.specs.declared.havoc.Havoc.{Havoc}
use Rattle.rml_command.specs.Goals.{stage_paths, goal_path, leading_sorts, HasAbout, IsGoal}
use Rattle.rml_command.specs.Laws.{GoalPathsFit}
use Rattle.rml_command.specs.declared.goal.Head.{Head}
use Rattle.rml_command.specs.declared.goal.Stage.{Stage}
use Rattle.rml_command.specs.declared.goal.Stage.TheVariants as stage
use Rattle.rml_command.specs.declared.goal.About.{About}
use Rattle.rml_command.specs.declared.goal.About.TheVariants as about
use Rattle.rml_command.specs.declared.goal.Goal.{Goal}
use Rattle.rml_exec.specs.declared.trace.Counterexample.{Counterexample}
use Rattle.rml_exec.specs.declared.trace.Trace.{Trace}
use Rattle.rml_report.specs.Words.{numbers_line}
use Rattle.rml_report.specs.TableText.{sort_line}
use Rattle.rml_report.specs.HavocText.{havoc_line}
use Rattle.rml_report.specs.ReportText.{path_line}
use Rattle.rml_report.specs.Reports.{goal_at}
use Rattle.line_scan.specs.Scanning.{most}
use Rattle.line_scan.specs.Laws.{ScansAreExact}
use Rattle.printed_report.specs.Executions.{IsSize, AreAskedAlong, HasEnd}
use Rattle.printed_report.specs.Lines.{IsLeastLine, sort_lines, table_lines, end_lines}
use Rattle.printed_report.specs.PrintedReports.{IsBlock}
use Rattle.printed_report.specs.declared.printed.PrintedAnswer.{PrintedAnswer}
use Rattle.printed_report.specs.declared.printed.PrintedAnswer.TheVariants as answer
use Rattle.report_read.specs.Got.{got, and_then}
use Rattle.report_values.specs.ValueReading.{elements_in}
use Rattle.report_read.specs.LineReading.{is_least_line, path_in, words_in}
use Rattle.report_values.specs.HavocReading.{entries_along}
use Rattle.report_read.specs.Reading.{passing, read_sizes, read_tables, read_structure, value_sorts, read_words}
use Rattle.report_read.specs.Reading.{end_in, no_end, read_end_tables, read_after, read_abort, read_end, read_path}
use Rattle.report_read.specs.Reading.{read_least}
use Rattle.report_read.specs.Reading.{read_values, read_havoc, read_opening, read_course, shown_of, fails_of}
use Rattle.report_read.specs.Reading.{read_execution}
use Rattle.report_read.specs.Reading.{read_block, AreSizes}
use Rattle.report_read.specs.declared.block.End.{End}
use Rattle.report_read.specs.declared.block.Course.{Course}
use Rattle.report_read.proofs.HavocLines.{IsTrace, trace_line_is}
use Rattle.report_read.proofs.Parts.{Lines, IsPart, IsLine, IsOne, IsBoth, IsMade, part_as, one_part, both_part}
use Rattle.report_read.proofs.Parts.{made_part}
use Rattle.report_read.proofs.HeadLines.{words_line, IsPathLine, path_line_is}
use Rattle.report_read.proofs.LeastLines.{least_line_is, IsElements, elements_line_is, zeros_in, small_at}
use Rattle.report_read.proofs.SizeLines.{IsSortSize, SizesFrom, sizes_part, size_lines_are, positive_sizes}
use Rattle.report_read.proofs.SizeLines.{few_elements}
use Rattle.report_read.proofs.TableParts.{AreTables, tables_part}

about_known : (m : ModelTree) (s : Stage) (k : ℕ) → HasAbout m s (about.Conjecture k) → k < length m.conjectures
about_known m stage.Init k has = has
about_known m (stage.Action a) k has = has
about_known m stage.Final k has = absurd has

pub get_known : (cs : List FormTree) (k : ℕ) → k < length cs → (c : FormTree) × (slice_get cs k ≡ Some c)
get_known [] k lt = absurd (omega (arith, lt))
get_known (c ∷ cs) zero lt = (c, refl)
get_known (c ∷ cs) (suc k) lt = get_known cs k (omega (arith, lt))

-- the leading quantifiers of a sentence are over sorts
pub leading_known : (sig : Symbols) (env : List ℕ) (c : FormTree) → FitsForm sig env c
    → AllByRecursion (λ k. k < sig.sorts) (leading_sorts c)
leading_known sig env (for_all k p) fits = (fits.0, leading_known sig (k ∷ env) p fits.1)
leading_known sig env _ fits = tt

abbrev make_end : Option Tables → List ℕ → End
make_end t values = record { after = t; values = values }

abbrev make_course : List Havoc → End → Course
make_course havocs end = record { havoc = havocs; end = end }

abbrev make_trace : ℕ → List Havoc → Trace
make_trace path havocs = record { path = path; havoc = havocs }

abbrev make_shown : Tables → Trace → Goal → List ℕ → Counterexample
make_shown s trace goal values = record { structure = s; trace = trace; goal = goal; values = values }

-- what is shown of a group, and the lines that show it
abbrev pub IsBlockText : ModelTree → Head → ℕ → PrintedAnswer → Lines → Type 0
IsBlockText m group n a lines =
    (paths : ℕ) × (shown : Counterexample) × (after : Option Tables) × (a ≡ answer.Fails paths shown after)
    × IsBlock m group paths shown after lines

-- a structure, as its lines give it
abbrev pub IsStructureText : ModelTree → ℕ → Tables → Lines → Type 0
IsStructureText m n s lines =
    FitsStructure (symbols m.signature) s × All IsSize s.sizes
    × (lines ≡ sort_lines m.names s ++ table_lines m.names s)

module _ (x : ScansAreExact) (numbered_are : TuplesAreNumbered) (m : ModelTree) (ok : IsSignature m.signature) where
  sizes_are : (sizes : List ℕ) (front : Lines) → SizesFrom m.names 0 m.signature.sorts [] sizes front
      → AreSizes m sizes
  sizes_are sizes front is = record {
    count = ap (λ (l : List ℕ). length l) is.all ∙ is.count;
    positive = subst (All (λ n. 0 < n)) (sym is.all) (positive_sizes is.values is.can);
  }

  sizes_small : (sizes : List ℕ) (front : Lines) → SizesFrom m.names 0 m.signature.sorts [] sizes front
      → (j : ℕ) → slice_index sizes j ≤ most
  sizes_small sizes front is =
      small_at sizes (subst (AllByRecursion (λ n. n ≤ 100000)) (sym is.all) (few_elements is.values is.can))

  abbrev StructureFrom : ℕ → Tables → Lines → Type 0
  StructureFrom =
      IsBoth (λ (_ : ℕ). SizesFrom m.names 0 m.signature.sorts []) (λ sizes. AreTables m sizes)

  structure_to : (n : ℕ) (s : Tables) (lines : Lines) → StructureFrom n s lines → IsStructureText m n s lines
  structure_to n s lines is =
      let a = is.3 in
      let values : s.sizes ≡ a.values = is.4.0.sizes_are ∙ a.all in (
        is.4.0.fits,
        subst (All IsSize) (sym values) (All-from_recursion IsSize a.values (few_elements a.values a.can)),
        is.5
            ∙ ap (λ l. l ++ is.2) (a.text ∙ sym (size_lines_are m.names a.values)
            ∙ ap (λ z. map (λ j. sort_line m.names j (slice_index z j)) (count_from 0 (length z))) (sym values))
            ∙ ap (λ l. sort_lines m.names s ++ l) is.4.1,
      )

  -- sizes that are printed, from a structure
  sort_sizes : (sizes : List ℕ) → AllByRecursion (λ n. 0 < n) sizes → AllByRecursion IsSize sizes
      → AllByRecursion IsSortSize sizes
  sort_sizes [] a b = tt
  sort_sizes (v ∷ vs) a b = ((omega (arith, a.0), b.0), sort_sizes vs a.1 b.1)

  structure_back : (n : ℕ) (s : Tables) (lines : Lines) → IsStructureText m n s lines → StructureFrom n s lines
  structure_back n s lines is = (
    s.sizes,
    sort_lines m.names s,
    table_lines m.names s,
    record {
      values = s.sizes;
      count = sym is.0.sorts;
      can = sort_sizes s.sizes (recursion_from_All (λ n. 0 < n) s.sizes is.0.whole.positive)
          (recursion_from_All IsSize s.sizes is.1);
      all = refl;
      text = size_lines_are m.names s.sizes;
    },
    (record { fits = is.0; sizes_are = refl }, refl),
    is.2,
  )

  structure_part : IsPart (read_structure m) (IsStructureText m)
  structure_part =
      part_as (read_structure m) StructureFrom (IsStructureText m) structure_to structure_back
      (both_part (read_sizes m.names 0 m.signature.sorts []) (λ (_ : ℕ). SizesFrom m.names 0 m.signature.sorts [])
      (read_tables m) (λ sizes. AreTables m sizes) (sizes_part x m.names m.signature.sorts 0 [])
      (λ sizes _ front is. tables_part x numbered_are m ok sizes (sizes_are sizes front is)
      (sizes_small sizes front is)))

  words_part : (words : List ℕ) → IsLine (words_in words) (λ (_ : Unit {0}) line. line ≡ words)
      → IsPart (read_words words) (IsOne (λ (_ : Unit {0}) line. line ≡ words))
  words_part words line = one_part (words_in words) (λ _ line. line ≡ words) line

  module _ (fits : FitsModel m) (law : GoalPathsFit) (group : Head) (has : HasAbout m group.stage group.about)
      (few : length (stage_paths m group.stage) ≤ 4096) where
    module _ (s : Tables) (fs : FitsStructure (symbols m.signature) s) (small : All IsSize s.sizes) where
      size_bound : (j : ℕ) → slice_index s.sizes j ≤ most
      size_bound = small_at s.sizes (recursion_from_All IsSize s.sizes small)

      in_structure : (ks : List ℕ) → AllByRecursion (λ k. k < m.signature.sorts) ks
          → AllByRecursion (λ k. k < length s.sizes) ks
      in_structure ks all = all_more (λ k. k < m.signature.sorts) (λ k. k < length s.sizes)
          (λ k lt. let e : m.signature.sorts ≡ length s.sizes = fs.sorts in omega (arith, lt, e)) ks all

      -- how the path ends
      abbrev IsEnd : About → ℕ → End → Lines → Type 0
      IsEnd a n end lines =
          HasEnd m s a end.values end.after × (lines ≡ end_lines m.names a end.values end.after)

      abbrev AbortFrom : ℕ → End → Lines → Type 0
      AbortFrom = IsMade (IsOne (λ (_ : Unit {0}) line. line ≡ codes "  aborts\n")) (λ _ _. no_end)

      abort_to : (n : ℕ) (end : End) (lines : Lines) → AbortFrom n end lines → IsEnd about.Abort n end lines
      abort_to n end lines is =
          let one = is.1 in (
            (sym (ap (λ (e : End). e.values) is.2), sym (ap (λ (e : End). e.after) is.2)),
            one.2 ∙ ap (λ l. l ∷ []) one.1,
          )

      abort_back : (n : ℕ) (end : End) (lines : Lines) → IsEnd about.Abort n end lines → AbortFrom n end lines
      abort_back n end lines is = (
        tt,
        (codes "  aborts\n", refl, is.1),
        ap (λ vs. make_end None vs) (sym is.0.0) ∙ ap (λ t. make_end t end.values) (sym is.0.1),
      )

      abort_part : IsPart read_abort (IsEnd about.Abort)
      abort_part =
          part_as read_abort AbortFrom (IsEnd about.Abort) abort_to abort_back
          (made_part (read_words (codes "  aborts\n")) (IsOne (λ _ line. line ≡ codes "  aborts\n")) (λ _ _. no_end)
          (words_part (codes "  aborts\n") (words_line (codes "  aborts\n") refl)))

      -- of a conjecture
      module _ (k : ℕ) (c : FormTree) (is_c : slice_get m.conjectures k ≡ Some c) where
        leading : value_sorts (slice_get m.conjectures k) ≡ leading_sorts c
        leading = ap value_sorts is_c

        abbrev ValuesOf : List ℕ → List ℕ → Type 0
        ValuesOf = IsElements x s.sizes (value_sorts (slice_get m.conjectures k)) (codes "  values:")

        abbrev EndTablesFrom : ℕ → Tables → Lines → Type 0
        EndTablesFrom = IsBoth (IsOne (λ (_ : Unit {0}) line. line ≡ codes "  after\n")) (λ _. AreTables m s.sizes)

        abbrev AfterFrom : ℕ → End → Lines → Type 0
        AfterFrom = IsBoth EndTablesFrom (λ t. IsMade (IsOne ValuesOf) (λ _ values. end_in t values))

        after_to : (n : ℕ) (end : End) (lines : Lines) → AfterFrom n end lines → IsEnd (about.Conjecture k) n end lines
        after_to n end lines is =
            let tables = is.3.4 in
            let words = is.3.3 in
            let values = is.4.1 in
            let head : is.1 ≡ codes "  after\n" ∷ table_lines m.names is.0 =
            is.3.5 ∙ ap (λ l. l ++ is.3.2) words.2 ∙ ap (λ l. l ∷ is.3.2) words.1
            ∙ ap (λ l. codes "  after\n" ∷ l) tables.1 in
            let last : is.2 ≡ numbers_line (codes "  values:") is.4.0 ∷ [] =
            values.2 ∙ ap (λ l. l ∷ []) values.1.text in
            subst (λ e. IsEnd (about.Conjecture k) n e lines) is.4.2 (
              (
                c,
                is.0,
                is_c,
                refl,
                record { structure = tables.0.fits; sizes = tables.0.sizes_are },
                subst (λ ks. InRange s.sizes ks is.4.0) leading values.1.in_range,
              ),
              is.5 ∙ ap (λ l. l ++ is.2) head ∙ ap (λ l. (codes "  after\n" ∷ table_lines m.names is.0) ++ l) last,
            )

        after_back : (n : ℕ) (end : End) (lines : Lines) → IsEnd (about.Conjecture k) n end lines
            → AfterFrom n end lines
        after_back n end lines is =
            let h = is.0 in
            let same : h.0 ≡ c = (let e : Some h.0 ≡ Some c = sym h.2 ∙ is_c in cc e) in
            let end_is : end_in h.1 end.values ≡ end = ap (λ o. make_end o end.values) (sym h.3) in
            let text : lines ≡ end_lines m.names (about.Conjecture k) end.values (Some h.1) =
            is.1 ∙ ap (end_lines m.names (about.Conjecture k) end.values) h.3 in (
              h.1,
              codes "  after\n" ∷ table_lines m.names h.1,
              numbers_line (codes "  values:") end.values ∷ [],
              (
                tt,
                codes "  after\n" ∷ [],
                table_lines m.names h.1,
                (codes "  after\n", refl, refl),
                (record { fits = h.4.structure; sizes_are = h.4.sizes }, refl),
                refl,
              ),
              (
                end.values,
                (
                  numbers_line (codes "  values:") end.values,
                  record {
                    in_range = subst (λ ks. InRange s.sizes ks end.values) (ap leading_sorts same ∙ sym leading) h.5;
                    text = refl;
                  },
                  refl,
                ),
                end_is,
              ),
              text,
            )

        values_known : AllByRecursion (λ j. j < m.signature.sorts) (leading_sorts c)
            → IsPart (read_values m k s) (IsOne ValuesOf)
        values_known all =
            one_part (elements_in s.sizes (value_sorts (slice_get m.conjectures k)) (codes "  values:")) ValuesOf
            (elements_line_is x s.sizes (value_sorts (slice_get m.conjectures k)) (codes "  values:") size_bound refl
            (zeros_in s.sizes (value_sorts (slice_get m.conjectures k)) fs.whole.positive
            (subst (AllByRecursion (λ j. j < length s.sizes)) (sym leading) (in_structure (leading_sorts c) all))))

        after_part : AllByRecursion (λ j. j < m.signature.sorts) (leading_sorts c)
            → IsPart (read_after m k s) (IsEnd (about.Conjecture k))
        after_part all =
            part_as (read_after m k s) AfterFrom (IsEnd (about.Conjecture k)) after_to after_back
            (both_part (read_end_tables m s) EndTablesFrom
            (λ t more. and_then (read_values m k s more) (λ values rest. got (end_in t values) rest))
            (λ t. IsMade (IsOne ValuesOf) (λ _ values. end_in t values))
            (both_part (read_words (codes "  after\n")) (IsOne (λ _ line. line ≡ codes "  after\n"))
            (λ _ more. read_tables m s.sizes more) (λ _. AreTables m s.sizes)
            (words_part (codes "  after\n") (words_line (codes "  after\n") refl))
            (λ _ _ _ _. tables_part x numbered_are m ok s.sizes
            (record { count = sym fs.sorts; positive = fs.whole.positive }) size_bound))
            (λ t _ _ _. made_part (read_values m k s) (IsOne ValuesOf) (λ _ values. end_in t values)
            (values_known all)))

      end_part : (a : About) → HasAbout m group.stage a → IsPart (read_end m a s) (IsEnd a)
      end_part about.Abort of_stage = abort_part
      end_part (about.Conjecture k) of_stage =
          let c = get_known m.conjectures k (about_known m group.stage k of_stage) in
          after_part k c.0 c.1
          (leading_known (symbols m.signature) [] c.0
          (all_at (FitsForm (symbols m.signature) []) m.conjectures k c.0 c.1 fits.conjectures))

      -- the trace, and the end
      module _ (path : ℕ) (is_goal : IsGoal m (goal_at group path)) where
        abbrev TraceOf : List Havoc → List ℕ → Type 0
        TraceOf = IsTrace x numbered_are s size_bound (goal_path m (goal_at group path))

        abbrev IsCourse : ℕ → Course → Lines → Type 0
        IsCourse n course lines =
            AreAskedAlong s (goal_path m (goal_at group path)) course.havoc
            × HasEnd m s group.about course.end.values course.end.after
            × (lines ≡ havoc_line s (goal_path m (goal_at group path)) course.havoc
            ∷ end_lines m.names group.about course.end.values course.end.after)

        abbrev CourseFrom : ℕ → Course → Lines → Type 0
        CourseFrom = IsBoth (IsOne TraceOf) (λ havoc. IsMade (IsEnd group.about) (λ _ end. make_course havoc end))

        course_to : (n : ℕ) (course : Course) (lines : Lines) → CourseFrom n course lines → IsCourse n course lines
        course_to n course lines is =
            let one = is.3 in
            subst (λ c. IsCourse n c lines) is.4.2 (
              one.1.asked,
              is.4.1.0,
              is.5 ∙ ap (λ l. l ++ is.2) one.2 ∙ ap (λ l. l ∷ is.2) one.1.text
                  ∙ ap (λ ls. havoc_line s (goal_path m (goal_at group path)) is.0 ∷ ls) is.4.1.1,
            )

        course_back : (n : ℕ) (course : Course) (lines : Lines) → IsCourse n course lines → CourseFrom n course lines
        course_back n course lines is = (
          course.havoc,
          havoc_line s (goal_path m (goal_at group path)) course.havoc ∷ [],
          end_lines m.names group.about course.end.values course.end.after,
          (
            havoc_line s (goal_path m (goal_at group path)) course.havoc,
            record { asked = is.0; text = refl },
            refl,
          ),
          (course.end, (is.1, refl), refl),
          is.2,
        )

        course_part : IsPart (read_course m (goal_at group path) s) IsCourse
        course_part =
            part_as (read_course m (goal_at group path) s) CourseFrom IsCourse course_to course_back
            (both_part (read_havoc m (goal_at group path) s) (IsOne TraceOf)
            (λ havoc more. and_then (read_end m group.about s more)
            (λ end rest. got (make_course havoc end) rest))
            (λ havoc. IsMade (IsEnd group.about) (λ _ end. make_course havoc end))
            (one_part (entries_along s (goal_path m (goal_at group path))) TraceOf
            (trace_line_is x numbered_are s size_bound (symbols m.signature) fs (goal_path m (goal_at group path))
            is_goal.path is_goal.is_path
            (law.symbols_fit m (goal_at group path) is_goal.path fits is_goal.is_path)))
            (λ havoc _ _ _. made_part (read_end m group.about s) (IsEnd group.about)
            (λ _ end. make_course havoc end) (end_part group.about has)))

    -- the path, and the lines up to the structure
    abbrev paths : ℕ
    paths = length (stage_paths m group.stage)

    abbrev PathOf : ℕ → List ℕ → Type 0
    PathOf = IsPathLine x m group has few (length (stage_paths m group.stage))

    abbrev LeastOf : Unit {0} → List ℕ → Type 0
    LeastOf u line = IsLeastLine m line

    pub record IsOpening (n path : ℕ) (lines : Lines) : Type 0 where
      pub is_goal : IsGoal m (goal_at group path)
      pub least : List ℕ
      pub is_least : IsLeastLine m least
      pub text : lines ≡ path_line path (length (stage_paths m group.stage)) ∷ least ∷ codes "  before\n" ∷ []

    abbrev BeforeFrom : ℕ → ℕ → ℕ → Lines → Type 0
    BeforeFrom path =
        IsBoth (IsOne LeastOf) (λ _. IsMade (IsOne (λ (_ : Unit {0}) line. line ≡ codes "  before\n")) (λ _ _. path))

    abbrev OpeningFrom : ℕ → ℕ → Lines → Type 0
    OpeningFrom = IsBoth (IsOne PathOf) BeforeFrom

    opening_to : (n path : ℕ) (lines : Lines) → OpeningFrom n path lines → IsOpening n path lines
    opening_to n path lines is =
        let line = is.3 in
        let least = is.4.3 in
        let made = is.4.4 in
        let same : is.0 ≡ path = made.2 in
        let rest : is.2 ≡ least.0 ∷ codes "  before\n" ∷ [] =
        is.4.5 ∙ ap (λ l. l ++ is.4.2) least.2 ∙ ap (λ l. least.0 ∷ l) (made.1.2 ∙ ap (λ l. l ∷ []) made.1.1) in
        record {
          is_goal = subst (λ p. IsGoal m (goal_at group p)) same line.1.goal_is;
          least = least.0;
          is_least = least.1;
          text = is.5 ∙ ap (λ l. l ++ is.2) line.2 ∙ ap (λ l. line.0 ∷ l) rest
              ∙ ap (λ l. l ∷ least.0 ∷ codes "  before\n" ∷ [])
              (line.1.text ∙ ap (λ p. path_line p (length (stage_paths m group.stage))) same);
        }

    opening_back : (n path : ℕ) (lines : Lines) → IsOpening n path lines → OpeningFrom n path lines
    opening_back n path lines is = (
      path,
      path_line path (length (stage_paths m group.stage)) ∷ [],
      is.least ∷ codes "  before\n" ∷ [],
      (path_line path (length (stage_paths m group.stage)), record { goal_is = is.is_goal; text = refl }, refl),
      (
        tt,
        is.least ∷ [],
        codes "  before\n" ∷ [],
        (is.least, is.is_least, refl),
        (tt, (codes "  before\n", refl, refl), refl),
        refl,
      ),
      is.text,
    )

    module _ (first : ℕ) (first_is : IsGoal m (goal_at group first)) where
      opening_part : IsPart (read_opening m group (length (stage_paths m group.stage))) IsOpening
      opening_part =
          part_as (read_opening m group (length (stage_paths m group.stage))) OpeningFrom IsOpening opening_to
          opening_back
          (both_part (read_path m group (length (stage_paths m group.stage))) (IsOne PathOf)
          (λ path more. and_then (read_least m more)
          (λ _ next. and_then (read_words (codes "  before\n") next) (λ _ rest. got path rest)))
          BeforeFrom
          (one_part (path_in m group (length (stage_paths m group.stage))) PathOf
          (path_line_is x m group has few (length (stage_paths m group.stage)) first first_is))
          (λ path _ _ _. both_part (read_least m) (IsOne LeastOf)
          (λ _ next. and_then (read_words (codes "  before\n") next) (λ _ rest. got path rest))
          (λ _. IsMade (IsOne (λ (_ : Unit {0}) line. line ≡ codes "  before\n")) (λ _ _. path))
          (one_part (λ l. passing (is_least_line m.names l)) LeastOf (least_line_is x m))
          (λ _ _ _ _. made_part (read_words (codes "  before\n"))
          (IsOne (λ (_ : Unit {0}) line. line ≡ codes "  before\n"))
          (λ _ _. path) (words_part (codes "  before\n") (words_line (codes "  before\n") refl)))))

      -- what is shown
      abbrev CourseOf : Tables → ℕ → ℕ → Course → Lines → Type 0
      CourseOf s path n course lines =
          AreAskedAlong s (goal_path m (goal_at group path)) course.havoc
          × HasEnd m s group.about course.end.values course.end.after
          × (lines ≡ havoc_line s (goal_path m (goal_at group path)) course.havoc
          ∷ end_lines m.names group.about course.end.values course.end.after)

      abbrev ExecutionFrom : ℕ → ℕ → PrintedAnswer → Lines → Type 0
      ExecutionFrom path =
          IsBoth (IsStructureText m) (λ s. IsMade (CourseOf s path)
          (λ _ course. fails_of group (length (stage_paths m group.stage)) path s course))

      execution_part : (path : ℕ) → IsGoal m (goal_at group path)
          → IsPart (read_execution m group (length (stage_paths m group.stage)) path) (ExecutionFrom path)
      execution_part path is_goal =
          both_part (read_structure m) (IsStructureText m)
          (λ s more. and_then (read_course m (goal_at group path) s more)
          (λ course rest. got (fails_of group (length (stage_paths m group.stage)) path s course) rest))
          (λ s. IsMade (CourseOf s path)
          (λ _ course. fails_of group (length (stage_paths m group.stage)) path s course))
          structure_part
          (λ s _ _ is. made_part (read_course m (goal_at group path) s) (CourseOf s path)
          (λ _ course. fails_of group (length (stage_paths m group.stage)) path s course)
          (course_part s is.0 is.1 path is_goal))

      abbrev BlockFrom : ℕ → PrintedAnswer → Lines → Type 0
      BlockFrom = IsBoth IsOpening ExecutionFrom

      -- the whole block
      block_to : (n : ℕ) (a : PrintedAnswer) (lines : Lines) → BlockFrom n a lines → IsBlockText m group n a lines
      block_to n a lines is =
          let of = is.4.4.1 in (
            length (stage_paths m group.stage),
            shown_of group is.0 is.4.0 is.4.4.0,
            is.4.4.0.end.after,
            sym is.4.4.2,
            record {
              execution = record {
                goal = refl;
                is_goal = is.3.is_goal;
                count = refl;
                structure = is.4.3.0;
                sizes = is.4.3.1;
                trace = is.4.4.1.0;
                end = is.4.4.1.1;
              };
              least = is.3.least;
              is_least = is.3.is_least;
              text = is.5 ∙ ap (λ l. l ++ is.2) is.3.text
                  ∙ ap (λ l. path_line is.0 (length (stage_paths m group.stage)) ∷ is.3.least ∷ codes "  before\n" ∷ l)
                  (is.4.5 ∙ ap (λ l. l ++ is.4.2) is.4.3.2
                  ∙ ap (λ l. (sort_lines m.names is.4.0 ++ table_lines m.names is.4.0) ++ l) is.4.4.1.2
                  ∙ append_assoc (sort_lines m.names is.4.0) (table_lines m.names is.4.0)
                  (havoc_line is.4.0 (goal_path m (goal_at group is.0)) is.4.4.0.havoc
                  ∷ end_lines m.names group.about is.4.4.0.end.values is.4.4.0.end.after));
            },
          )

      block_back : (n : ℕ) (a : PrintedAnswer) (lines : Lines) → IsBlockText m group n a lines → BlockFrom n a lines
      block_back n a lines is =
          let is_goal : IsGoal m (goal_at group is.1.trace.path) = subst (IsGoal m) is.4.execution.goal
          is.4.execution.is_goal in
          let goal_is : goal_path m is.1.goal ≡ goal_path m (goal_at group is.1.trace.path) =
          ap (goal_path m) is.4.execution.goal in
          let same : fails_of group (length (stage_paths m group.stage)) is.1.trace.path is.1.structure
          (make_course is.1.trace.havoc (make_end is.2 is.1.values)) ≡ a =
          ap (λ k. answer.Fails k (shown_of group is.1.trace.path is.1.structure
          (make_course is.1.trace.havoc (make_end is.2 is.1.values))) is.2) (sym is.4.execution.count)
          ∙ ap (λ g. answer.Fails is.0 (make_shown is.1.structure is.1.trace g is.1.values) is.2)
          (sym is.4.execution.goal) ∙ sym is.3 in
          let last : Lines = havoc_line is.1.structure (goal_path m (goal_at group is.1.trace.path)) is.1.trace.havoc
          ∷ end_lines m.names group.about is.1.values is.2 in (
            is.1.trace.path,
            path_line is.1.trace.path (length (stage_paths m group.stage)) ∷ is.4.least ∷ codes "  before\n" ∷ [],
            (sort_lines m.names is.1.structure ++ table_lines m.names is.1.structure) ++ last,
            record { is_goal = is_goal; least = is.4.least; is_least = is.4.is_least; text = refl },
            (
              is.1.structure,
              sort_lines m.names is.1.structure ++ table_lines m.names is.1.structure,
              last,
              (is.4.execution.structure, is.4.execution.sizes, refl),
              (
                make_course is.1.trace.havoc (make_end is.2 is.1.values),
                (
                  subst (λ o. AreAskedAlong is.1.structure o is.1.trace.havoc) goal_is is.4.execution.trace,
                  is.4.execution.end,
                  refl,
                ),
                same,
              ),
              refl,
            ),
            is.4.text
                ∙ ap (λ k. path_line is.1.trace.path k ∷ is.4.least ∷ codes "  before\n"
                ∷ (sort_lines m.names is.1.structure ++ (table_lines m.names is.1.structure
                ++ havoc_line is.1.structure (goal_path m is.1.goal) is.1.trace.havoc ∷ end_lines m.names group.about
                is.1.values is.2)))
                is.4.execution.count
                ∙ ap (λ o. path_line is.1.trace.path (length (stage_paths m group.stage)) ∷ is.4.least
                ∷ codes "  before\n" ∷ (sort_lines m.names is.1.structure ++ (table_lines m.names is.1.structure
                ++ havoc_line is.1.structure o is.1.trace.havoc ∷ end_lines m.names group.about is.1.values is.2)))
                goal_is
                ∙ ap (λ l. path_line is.1.trace.path (length (stage_paths m group.stage)) ∷ is.4.least
                ∷ codes "  before\n" ∷ l)
                (sym (append_assoc (sort_lines m.names is.1.structure) (table_lines m.names is.1.structure) last)),
          )

      pub block_part : IsPart (read_block m group) (IsBlockText m group)
      block_part =
          part_as (read_block m group) BlockFrom (IsBlockText m group) block_to block_back
          (both_part (read_opening m group (length (stage_paths m group.stage))) IsOpening
          (read_execution m group (length (stage_paths m group.stage))) ExecutionFrom opening_part
          (λ path _ _ is. execution_part path is.is_goal))
