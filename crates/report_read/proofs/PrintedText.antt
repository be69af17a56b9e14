-- The text of a right report is a printed report.
use Rattle.std.proofs.Common.{◌≡◌, ℕ, zero, suc, ◌+◌, ◌<◌, ◌≤◌, List, [], ◌∷◌, ◌++◌, length, map, All, Option}
use Rattle.std.proofs.Common.{Some}
use Rattle.std.proofs.Common.{refl, sym, ap, ◌∙◌, subst, arith, append_assoc, append-nil}
use Rattle.std.specs.Prelude.{codes, slice_index}
use Rattle.std.specs.List.{AllByRecursion, flat_map}
use Rattle.std.proofs.lemmas.List.Elements.{recursion_from_All}
use Rattle.base.specs.Lists.{count_from}
use Rattle.base.proofs.Lists.{all_append}
use Rattle.fol_sig.specs.Tables.{Tables, InRange, size_at}
use Rattle.fol_sig.specs.Symbols.{FitsStructure, symbols}
use Rattle.fol_sig.specs.Tuples.{join_below, TuplesAreNumbered}
use Rattle.fol_sig.specs.TupleSets.{TablesAreTuples}
use Rattle.rml_command.specs.Trees.{PrimitiveTree}
use Rattle.rml_command.specs.Models.{ModelTree, FitsPath}
use Rattle.rml_command.specs.Fragment.{IsChecked}
use Rattle.rml_command.specs.Outcomes.{Outcome, ended, follow_path}
use Rattle.rml_command.specs.Goals.{stage_paths, goal_path, leading_sorts, IsGoal, FailsGoal}
use Rattle.rml_command.specs.Laws.{UpdatesKeepSymbols, GoalPathsFit, PathsEndAtAbort}
use Rattle.rml_command.specs.declared.names.Names.{Names}
use Rattle.rml_command.specs.declared.goal.Head.{Head}
use Rattle.rml_command.specs.declared.goal.Goal.{Goal}
use Rattle.rml_command.specs.declared.goal.About.{About}
use Rattle.rml_command.specs.declared.goal.About.TheVariants as about
use Rattle.rml_exec.specs.declared.trace.Counterexample.{Counterexample}
use Rattle.rml_report.specs.Words.{numbers_line}
use Rattle.rml_report.specs.HavocText.{havoc_line}
use Rattle.rml_report.specs.TableText.{sort_line, relation_line, function_line, tables_text, sorts_text}
use Rattle.rml_report.specs.ReportText.{head_text, path_line, least_line, undecided_text, axioms_text}
use Rattle.rml_report.specs.ReportText.{verdict_text, outcome_of, followed, end_tables, end_text, outcome_text}
use Rattle.rml_report.specs.ReportText.{execution_text, block_text, answer_text, group_text, report_text}
use Rattle.rml_report.specs.Reports.{head_of, goal_at, IsRight, IsAnswer, IsShown, Reports}
use Rattle.rml_report.specs.declared.least.Least.{Least}
use Rattle.rml_report.specs.declared.least.Least.TheVariants as least
use Rattle.rml_report.specs.declared.least.Bound.TheVariants as at
use Rattle.rml_report.specs.declared.report.Answer.{Answer}
use Rattle.rml_report.specs.declared.report.Answer.TheVariants as reported
use Rattle.rml_report.specs.declared.report.Group as report
use Rattle.rml_report.specs.declared.report.Report.{Report}
use Rattle.line_scan.specs.Lines.{lines_of}
use Rattle.line_scan.specs.Scanning.{most}
use Rattle.line_scan.specs.Laws.{join, LinesAreCut}
use Rattle.printed_report.specs.Executions.{IsSize, HasEnd, IsExecution}
use Rattle.printed_report.specs.Lines.{IsLeast, sort_lines, table_lines, end_lines, block_lines}
use Rattle.printed_report.specs.PrintedReports.{Says, AreGroups, IsPrinted}
use Rattle.report_read.specs.Printing.{end_of, printed_answer, answer_lines, group_lines, printed_groups, printed}
use Rattle.report_read.specs.Printing.{printed_shown, HasPlainNames, CanPrint, CanBeRead, ReportsArePrinted}
use Rattle.report_read.proofs.Pieces.{apart4, apart5, numbered_below}
use Rattle.report_read.proofs.LeastLines.{small_at}
use Rattle.report_read.proofs.GroupLines.{few_paths}
use Rattle.report_read.proofs.Following.{IsEndOf, ends_in}
use Rattle.report_read.proofs.InOrder.{asked_along, same_line}
use Rattle.report_read.proofs.Plain.{Whole, AreSmall, whole_numbers, whole_relation, whole_function, whole_sort}
use Rattle.report_read.proofs.Plain.{whole_axioms, whole_verdict, whole_path, whole_head, whole_least, plain_stopped}
use Rattle.report_read.proofs.Plain.{whole_undecided, whole_havocs}

abbrev Lines : Type 0
Lines = List (List ℕ)

-- lines that are joined
join_append : (xs ys : Lines) → join (xs ++ ys) ≡ join xs ++ join ys
join_append [] ys = refl
join_append (x ∷ xs) ys = ap (λ l. x ++ l) (join_append xs ys) ∙ sym (append_assoc x (join xs) (join ys))

count_last : (n k : ℕ) → count_from k (suc n) ≡ count_from k n ++ (k + n) ∷ []
count_last zero k = let z : k ≡ k + 0 = omega arith in ap (λ j. j ∷ []) z
count_last (suc n) k =
    let z : suc k + n ≡ k + suc n = omega arith in
    ap (λ (l : List ℕ). k ∷ l) (count_last n (suc k)) ∙ ap (λ j. k ∷ (count_from (suc k) n ++ j ∷ [])) z

join_mapped : (F : ℕ → List ℕ) (ks js : List ℕ) → join (map F (ks ++ js)) ≡ join (map F ks) ++ join (map F js)
join_mapped F [] js = refl
join_mapped F (k ∷ ks) js =
    ap (λ l. F k ++ l) (join_mapped F ks js) ∙ sym (append_assoc (F k) (join (map F ks)) (join (map F js)))

join_counted : (F : ℕ → List ℕ) (n : ℕ) → join (map F (count_from 0 n)) ≡ join_below n F
join_counted F zero = refl
join_counted F (suc n) =
    let z : 0 + n ≡ n = omega arith in
    ap (λ ks. join (map F ks)) (count_last n 0)
    ∙ join_mapped F (count_from 0 n) ((0 + n) ∷ [])
    ∙ ap (λ j. join (map F (count_from 0 n)) ++ (F j ++ [])) z
    ∙ ap (λ l. join (map F (count_from 0 n)) ++ l) (append-nil (F n))
    ∙ ap (λ l. l ++ F n) (join_counted F n)

join_tables : (names : Names) (s : Tables) → join (table_lines names s) ≡ tables_text names s
unfolding tables_text
join_tables names s =
    join_append (map (relation_line names s) (count_from 0 (length s.relations)))
    (map (function_line names s) (count_from 0 (length s.functions)))
    ∙ ap (λ l. l ++ join (map (function_line names s) (count_from 0 (length s.functions))))
    (join_counted (relation_line names s) (length s.relations))
    ∙ ap (λ l. join_below (length s.relations) (relation_line names s) ++ l)
    (join_counted (function_line names s) (length s.functions))

join_sorts : (names : Names) (s : Tables) → join (sort_lines names s) ≡ sorts_text names s
join_sorts names s = join_counted (λ k. sort_line names k (size_at s k)) (length s.sizes)

all_counted : (P : List ℕ → Type 0) (F : ℕ → List ℕ) (n k : ℕ) → ((j : ℕ) → j < k + n → P (F j))
    → AllByRecursion P (map F (count_from k n))
all_counted P F zero k h = tt
all_counted P F (suc n) k h =
    (h k (omega arith), all_counted P F n (suc k) (λ j lt. h j (omega (arith, lt))))

in_range_small : (sizes : List ℕ) → ((k : ℕ) → slice_index sizes k ≤ most) → (ks xs : List ℕ) → InRange sizes ks xs
    → AreSmall xs
in_range_small sizes small [] [] h = tt
in_range_small sizes small [] (x ∷ xs) h = absurd h
in_range_small sizes small (k ∷ ks) [] h = absurd h
in_range_small sizes small (k ∷ ks) (x ∷ xs) h = (omega (arith, h.0, small k), in_range_small sizes small ks xs h.1)

module _ (cuts : LinesAreCut) (updates : UpdatesKeepSymbols) (law : GoalPathsFit) (ends : PathsEndAtAbort)
    (numbered : TuplesAreNumbered) (tables : TablesAreTuples) (m : ModelTree) (ok : IsChecked m) (plain : HasPlainNames m.names) where
  -- a structure's lines
  module _ (s : Tables) (fits : FitsStructure (symbols m.signature) s) (sizes : All IsSize s.sizes) where
    small : (k : ℕ) → slice_index s.sizes k ≤ most
    small = small_at s.sizes (recursion_from_All IsSize s.sizes sizes)

    whole_tables : AllByRecursion Whole (table_lines m.names s)
    whole_tables =
        all_append Whole (map (relation_line m.names s) (count_from 0 (length s.relations)))
        (map (function_line m.names s) (count_from 0 (length s.functions)))
        (all_counted Whole (relation_line m.names s) (length s.relations) 0
        (λ r lt. whole_relation m.names plain s fits.whole small r))
        (all_counted Whole (function_line m.names s) (length s.functions) 0
        (λ f lt. whole_function m.names plain s fits.whole small f (omega (arith, lt))))

    whole_sorts : AllByRecursion Whole (sort_lines m.names s)
    whole_sorts = all_counted Whole (λ k. sort_line m.names k (size_at s k)) (length s.sizes) 0
        (λ k lt. whole_sort m.names plain s fits.whole small k)

  -- an execution that is shown
  module _ (group : Head) (paths : ℕ) (shown : Counterexample) (is : IsShown m group shown)
      (count : paths ≡ length (stage_paths m group.stage)) (sizes : All IsSize shown.structure.sizes) where
    abbrev path : List PrimitiveTree
    path = is.refutation.refutes.path

    path_fits : FitsPath (symbols m.signature) is.refutation.refutes.path
    path_fits = law.symbols_fit m shown.goal is.refutation.refutes.path ok.model.fits is.refutation.refutes.is_path

    outcome : outcome_of m shown
        ≡ follow_path m.axioms is.refutation.refutes.path shown.trace.havoc shown.structure
    outcome = ap (λ o. followed m o shown) is.refutation.refutes.is_path

    same_about : shown.goal.about ≡ group.about
    same_about = ap (λ (g : Goal). g.about) is.goal

    fails : FailsGoal m group.about shown.values (outcome_of m shown)
    fails =
        subst (λ a. FailsGoal m a shown.values (outcome_of m shown)) same_about
        (subst (FailsGoal m shown.goal.about shown.values) (sym outcome) is.refutation.refutes.fails)

    -- how it ends
    end_is : (t : Tables) → outcome_of m shown ≡ Some (ended t) → IsEndOf (symbols m.signature) shown.structure t
    end_is t e =
        ends_in (symbols m.signature) updates m.axioms is.refutation.refutes.path shown.trace.havoc shown.structure t
        path_fits is.refutation.refutes.structure (sym outcome ∙ e)

    has_end : (a : About) (o : Option Outcome) → outcome_of m shown ≡ o → FailsGoal m a shown.values o
        → HasEnd m shown.structure a shown.values (end_of a o)
    has_end about.Abort o e f = (f.1, refl)
    has_end (about.Conjecture k) o e f =
        let end = end_is f.1 (e ∙ f.3) in
        subst (λ p. HasEnd m shown.structure (about.Conjecture k) shown.values (end_of (about.Conjecture k) p))
        (sym f.3) (
          f.0,
          f.1,
          f.2,
          refl,
          record { structure = end.fits; sizes = end.sizes },
          subst (λ z. InRange z (leading_sorts f.0) shown.values) end.sizes f.4.in_range,
        )

    execution : IsExecution m group paths (printed_shown m shown) (end_of group.about (outcome_of m shown))
    execution = record {
      goal = is.goal;
      is_goal = is.refutation.goal;
      count = count;
      structure = is.refutation.refutes.structure;
      sizes = sizes;
      trace = asked_along numbered tables updates law ends m ok shown is.refutation.refutes;
      end = has_end group.about (outcome_of m shown) refl fails;
    }

    -- its lines are its text
    join_end : (a : About) (o : Option Outcome) → outcome_of m shown ≡ o → FailsGoal m a shown.values o
        → join (end_lines m.names a shown.values (end_of a o)) ≡ outcome_text m a shown
    unfolding end_text
    join_end about.Abort o e f = append-nil (codes "  aborts\n")
    join_end (about.Conjecture k) o e f =
        ap (λ p. join (end_lines m.names (about.Conjecture k) shown.values (end_of (about.Conjecture k) p))) f.3
        ∙ ap (λ l. codes "  after\n" ++ l)
        (join_append (table_lines m.names f.1) (numbers_line (codes "  values:") shown.values ∷ [])
        ∙ ap (λ l. l ++ (numbers_line (codes "  values:") shown.values ++ [])) (join_tables m.names f.1)
        ∙ ap (λ l. tables_text m.names f.1 ++ l) (append-nil (numbers_line (codes "  values:") shown.values)))
        ∙ sym (append_assoc (codes "  after\n") (tables_text m.names f.1)
        (numbers_line (codes "  values:") shown.values))
        ∙ ap (λ p. (codes "  after\n" ++ end_tables m.names p) ++ numbers_line (codes "  values:") shown.values)
        (sym (e ∙ f.3))

    abbrev after : Option Tables
    after = end_of group.about (outcome_of m shown)

    join_block : (l : Least) → join (block_lines m group.about paths (least_line m.names l) (printed_shown m shown)
        (end_of group.about (outcome_of m shown)))
        ≡ path_line shown.trace.path paths ++ (least_line m.names l ++ (codes "  before\n"
        ++ (sorts_text m.names shown.structure ++ (tables_text m.names shown.structure
        ++ (havoc_line shown.structure (goal_path m shown.goal) shown.trace.havoc
        ++ outcome_text m group.about shown)))))
    join_block l =
        let s : Tables = shown.structure in
        let havoc : List ℕ = havoc_line s (goal_path m shown.goal) (printed_shown m shown).trace.havoc in
        let last : Lines = end_lines m.names group.about shown.values (end_of group.about (outcome_of m shown)) in
        ap (λ t. path_line shown.trace.path paths ++ (least_line m.names l ++ (codes "  before\n" ++ t)))
        (join_append (sort_lines m.names s) (table_lines m.names s ++ havoc ∷ last)
        ∙ ap (λ t. t ++ join (table_lines m.names s ++ havoc ∷ last)) (join_sorts m.names s)
        ∙ ap (λ t. sorts_text m.names s ++ t)
        (join_append (table_lines m.names s) (havoc ∷ last)
        ∙ ap (λ t. t ++ (havoc ++ join last)) (join_tables m.names s)
        ∙ ap (λ t. tables_text m.names s ++ (havoc ++ t))
        (join_end group.about (outcome_of m shown) refl fails)
        ∙ ap (λ t. tables_text m.names s ++ (t ++ outcome_text m group.about shown))
        (same_line numbered tables updates law ends m ok shown is.refutation.refutes)))

    block_is : (l : Least) → block_text m group.about paths l shown
        ≡ codes ": fails\n" ++ join (block_lines m group.about paths (least_line m.names l) (printed_shown m shown)
        (end_of group.about (outcome_of m shown)))
    unfolding block_text execution_text
    block_is l =
        let s : Tables = shown.structure in
        let havoc : List ℕ = havoc_line s (goal_path m shown.goal) shown.trace.havoc in
        apart4 (codes ": fails\n") (path_line shown.trace.path paths) (least_line m.names l)
        ((((codes "  before\n" ++ sorts_text m.names s) ++ tables_text m.names s) ++ havoc)
        ++ outcome_text m group.about shown)
        ∙ ap (λ t. codes ": fails\n" ++ (path_line shown.trace.path paths ++ (least_line m.names l ++ t)))
        (apart5 (codes "  before\n") (sorts_text m.names s) (tables_text m.names s) havoc
        (outcome_text m group.about shown))
        ∙ ap (λ t. codes ": fails\n" ++ t) (sym (join_block l))

    -- and each is a line
    small_paths : paths ≤ most
    small_paths = omega (arith, count, few_paths m ok group.stage)

    small_path : shown.trace.path ≤ most
    small_path =
        let at_path : IsGoal m (goal_at group shown.trace.path) = subst (IsGoal m) is.goal is.refutation.goal in
        omega (
          arith,
          numbered_below (stage_paths m group.stage) shown.trace.path at_path.path at_path.is_path,
          few_paths m ok group.stage,
        )

    values_small : (a : About) → HasEnd m shown.structure a shown.values (end_of a (outcome_of m shown))
        → AreSmall shown.values
    values_small about.Abort h = subst AreSmall (sym h.0) tt
    values_small (about.Conjecture k) h =
        in_range_small shown.structure.sizes (small shown.structure is.refutation.refutes.structure sizes)
        (leading_sorts h.0) shown.values h.5

    whole_end : (a : About) (o : Option Outcome) → outcome_of m shown ≡ o → FailsGoal m a shown.values o
        → AreSmall shown.values → AllByRecursion Whole (end_lines m.names a shown.values (end_of a o))
    whole_end about.Abort o e f values = (refl, tt)
    whole_end (about.Conjecture k) o e f values =
        let end = end_is f.1 (e ∙ f.3) in
        subst (λ p. AllByRecursion Whole (end_lines m.names (about.Conjecture k) shown.values
        (end_of (about.Conjecture k) p))) (sym f.3) (
          refl,
          all_append Whole (table_lines m.names f.1) (numbers_line (codes "  values:") shown.values ∷ [])
              (whole_tables f.1 end.fits (subst (All IsSize) (sym end.sizes) sizes))
              (whole_numbers (codes "  values:") shown.values refl values, tt),
        )

    whole_block : (line : List ℕ) → Whole line
        → AllByRecursion Whole (block_lines m group.about paths line (printed_shown m shown)
        (end_of group.about (outcome_of m shown)))
    whole_block line h =
        let s : Tables = shown.structure in
        let fs = is.refutation.refutes.structure in
        let havoc : List ℕ = havoc_line s (goal_path m shown.goal) (printed_shown m shown).trace.havoc in
        let last : Lines = end_lines m.names group.about shown.values (end_of group.about (outcome_of m shown)) in (
          whole_path shown.trace.path paths small_path small_paths,
          (
            h,
            (
              refl,
              all_append Whole (sort_lines m.names s)
                  (table_lines m.names s ++ havoc ∷ last)
                  (whole_sorts s fs sizes)
                  (all_append Whole (table_lines m.names s) (havoc ∷ last)
                  (whole_tables s fs sizes) (
                    whole_havocs s (small s fs sizes) (goal_path m shown.goal) (printed_shown m shown).trace.havoc
                        (asked_along numbered tables updates law ends m ok shown is.refutation.refutes),
                    whole_end group.about (outcome_of m shown) refl fails (values_small group.about execution.end),
                  )),
            ),
          ),
        )

  least_whole : (l : Least) → IsLeast m l → Whole (least_line m.names l)
  least_whole least.Yes can = whole_least m.names plain least.Yes refl
  least_whole (least.Stopped (at.Sort k) size c) can =
      whole_least m.names plain (least.Stopped (at.Sort k) size c)
      (plain_stopped m.names plain (at.Sort k) size c (omega (arith, can.0.1)) can.1)
  least_whole (least.Stopped (at.Rel r) size c) can =
      whole_least m.names plain (least.Stopped (at.Rel r) size c)
      (plain_stopped m.names plain (at.Rel r) size c (omega (arith, can.0.1)) can.1)

  -- a group
  says : (a : Answer) (group : Head) → IsAnswer m group a → CanPrint m a
      → Says m group (printed_answer m group.about a)
      (answer_lines m group.about (head_text m.names group.stage group.about) a)
  says reported.Holds group right can = refl
  says (reported.Fails paths l shown) group right can = (
    block_lines m group.about paths (least_line m.names l) (printed_shown m shown)
        (end_of group.about (outcome_of m shown)),
    record {
      execution = execution group paths shown right.0 right.1 can.0;
      least = least_line m.names l;
      is_least = record { least = l; can = can.1; text = refl };
      text = refl;
    },
    refl,
  )
  says (reported.Undecided path cause) group right can = (
    head_text m.names group.stage group.about ++ undecided_text path cause,
    record { path = path; cause = cause; goal = right.is_goal; can = can; text = refl },
    refl,
  )

  answer_whole : (a : Answer) (group : Head) → IsAnswer m group a → CanPrint m a
      → AllByRecursion Whole (answer_lines m group.about (head_text m.names group.stage group.about) a)
  answer_whole reported.Holds group right can =
      (whole_head m.names plain group.stage group.about (codes ": holds\n") refl, tt)
  answer_whole (reported.Fails paths l shown) group right can = (
    whole_head m.names plain group.stage group.about (codes ": fails\n") refl,
    whole_block group paths shown right.0 right.1 can.0 (least_line m.names l) (least_whole l can.1),
  )
  answer_whole (reported.Undecided path cause) group right can =
      let goal = right.is_goal in (
        whole_head m.names plain group.stage group.about (undecided_text path cause)
            (whole_undecided path cause
            (omega (
              arith,
              numbered_below (stage_paths m group.stage) path goal.path goal.is_path,
              few_paths m ok group.stage,
            )) can),
        tt,
      )

  answer_joined : (a : Answer) (group : Head) → IsAnswer m group a → CanPrint m a → (head : List ℕ)
      → join (answer_lines m group.about head a) ≡ head ++ answer_text m group.about a
  answer_joined reported.Holds group right can head = append-nil (head ++ codes ": holds\n")
  answer_joined (reported.Fails paths l shown) group right can head =
      append_assoc head (codes ": fails\n") (join (block_lines m group.about paths (least_line m.names l) (printed_shown m shown)
      (end_of group.about (outcome_of m shown))))
      ∙ ap (λ t. head ++ t) (sym (block_is group paths shown right.0 right.1 can.0 l))
  answer_joined (reported.Undecided path cause) group right can head = append-nil (head ++ undecided_text path cause)

  -- all groups
  abbrev all_lines : List report.Group → Lines
  all_lines [] = []
  all_lines (g ∷ gs) = group_lines m g ++ all_lines gs

  groups_are : (gs : List report.Group) (n : ℕ) → AllByRecursion (IsRight m) gs
      → AllByRecursion (λ (g : report.Group). CanPrint m g.answer) gs
      → AreGroups m n (map head_of gs) (printed_groups m n gs) (all_lines gs)
  groups_are [] n right can = refl
  groups_are (g ∷ gs) n right can = (
    group_lines m g,
    all_lines gs,
    record { stage = refl; about = refl; line = refl; answer = says g.answer (head_of g) right.0 can.0 },
    groups_are gs (n + length (group_lines m g)) right.1 can.1,
    refl,
  )

  groups_whole : (gs : List report.Group) → AllByRecursion (IsRight m) gs
      → AllByRecursion (λ (g : report.Group). CanPrint m g.answer) gs → AllByRecursion Whole (all_lines gs)
  groups_whole [] right can = tt
  groups_whole (g ∷ gs) right can =
      all_append Whole (group_lines m g) (all_lines gs) (answer_whole g.answer (head_of g) right.0 can.0)
      (groups_whole gs right.1 can.1)

  groups_joined : (gs : List report.Group) → AllByRecursion (IsRight m) gs
      → AllByRecursion (λ (g : report.Group). CanPrint m g.answer) gs
      → join (all_lines gs) ≡ flat_map (group_text m) gs
  unfolding group_text
  groups_joined [] right can = refl
  groups_joined (g ∷ gs) right can =
      join_append (group_lines m g) (all_lines gs)
      ∙ ap (λ t. t ++ join (all_lines gs))
      (answer_joined g.answer (head_of g) right.0 can.0 (head_text m.names g.stage g.about))
      ∙ ap (λ t. group_text m g ++ t) (groups_joined gs right.1 can.1)

  abbrev report_lines : Report → Lines
  report_lines r = axioms_text r.axioms ∷ (all_lines r.groups ++ verdict_text r.verdict ∷ [])

  report_joined : (r : Report) → Reports m r → CanBeRead m r → join (report_lines r) ≡ report_text m r
  unfolding report_text
  report_joined r right can =
      ap (λ t. axioms_text r.axioms ++ t)
      (join_append (all_lines r.groups) (verdict_text r.verdict ∷ [])
      ∙ ap (λ t. t ++ (verdict_text r.verdict ++ [])) (groups_joined r.groups right.right can.groups)
      ∙ ap (λ t. flat_map (group_text m) r.groups ++ t) (append-nil (verdict_text r.verdict)))
      ∙ sym (append_assoc (axioms_text r.axioms) (flat_map (group_text m) r.groups) (verdict_text r.verdict))

  report_whole : (r : Report) → Reports m r → CanBeRead m r → AllByRecursion Whole (report_lines r)
  report_whole r right can = (
    whole_axioms r.axioms can.axioms,
    all_append Whole (all_lines r.groups) (verdict_text r.verdict ∷ [])
        (groups_whole r.groups right.right can.groups) (whole_verdict r.verdict, tt),
  )

  report_printed : (r : Report) → Reports m r → CanBeRead m r → IsPrinted m (printed m r) (report_lines r)
  report_printed r right can = record {
    axioms = axioms_text r.axioms;
    is_axioms = record { axioms = r.axioms; can = can.axioms; text = refl };
    middle = all_lines r.groups;
    groups = subst (λ gs. AreGroups m 2 gs (printed_groups m 2 r.groups) (all_lines r.groups)) right.groups
        (groups_are r.groups 2 right.right can.groups);
    text = refl;
  }

  pub text_printed : (r : Report) → Reports m r → CanBeRead m r → IsPrinted m (printed m r) (lines_of (report_text m r))
  text_printed r right can =
      subst (IsPrinted m (printed m r))
      (sym (cuts.cut (report_lines r) (report_whole r right can)) ∙ ap lines_of (report_joined r right can))
      (report_printed r right can)

pub are_printed : LinesAreCut → UpdatesKeepSymbols → GoalPathsFit → PathsEndAtAbort → TuplesAreNumbered
    → TablesAreTuples → ReportsArePrinted
are_printed cuts updates law ends numbered tables = λ m r ok right can.
    text_printed cuts updates law ends numbered tables m ok can.names r right can
