-- How many lines the parts of a printed report take.
use Rattle.std.proofs.Common.{◌≡◌, ℕ, zero, suc, ◌+◌, List, [], ◌∷◌, ◌++◌, length, map, refl, sym, ap, ◌∙◌, arith}
use Rattle.std.proofs.Common.{length-append, Option, Some, None}
use Rattle.std.specs.Prelude.{codes}
use Rattle.base.specs.Lists.{count_from}
use Rattle.fol_sig.specs.Tables.{Tables, size_at}
use Rattle.fol_sig.specs.Symbols.{FitsStructure, symbols}
use Rattle.rml_command.specs.Models.{ModelTree}
use Rattle.rml_command.specs.Goals.{groups_of, goal_path}
use Rattle.rml_command.specs.declared.names.Names.{Names}
use Rattle.rml_command.specs.declared.goal.Head.{Head}
use Rattle.rml_command.specs.declared.goal.About.{About}
use Rattle.rml_command.specs.declared.goal.About.TheVariants as about
use Rattle.rml_exec.specs.declared.trace.Counterexample.{Counterexample}
use Rattle.rml_report.specs.Words.{numbers_line}
use Rattle.rml_report.specs.HavocText.{havoc_line}
use Rattle.rml_report.specs.TableText.{sort_line, relation_line, function_line}
use Rattle.rml_report.specs.ReportText.{verdict_text}
use Rattle.printed_report.specs.Executions.{IsExecution, HasEnd}
use Rattle.printed_report.specs.Lines.{sort_lines, table_lines, end_lines, block_lines}
use Rattle.printed_report.specs.PrintedReports.{Says, IsGroup, AreGroups}
use Rattle.printed_report.specs.declared.printed.PrintedGroup.{PrintedGroup}
use Rattle.printed_report.specs.declared.printed.PrintedAnswer.{PrintedAnswer}
use Rattle.printed_report.specs.declared.printed.PrintedAnswer.TheVariants as answer
use Rattle.report_replay.specs.Demands.{table_count}
use Rattle.report_replay.specs.Judgements.{fails_height, height, line_behind}
use Rattle.report_replay.specs.Laws.{VerdictIsLast}
use Rattle.report_replay.proofs.Ready.{has_after}

counted : {A : Type 0} (f : ℕ → A) (k n : ℕ) → length (map f (count_from k n)) ≡ n
counted f k zero = refl
counted f k (suc n) = ap suc (counted f (suc k) n)

sorts_take : (names : Names) (s : Tables) → length (sort_lines names s) ≡ length s.sizes
sorts_take names s = counted (λ k. sort_line names k (size_at s k)) 0 (length s.sizes)

tables_take : (m : ModelTree) (s : Tables) → FitsStructure (symbols m.signature) s
    → length (table_lines m.names s) ≡ table_count m
tables_take m s fits =
    let sum = length-append (map (relation_line m.names s) (count_from 0 (length s.relations)))
    (map (function_line m.names s) (count_from 0 (length s.functions))) in
    let rs = counted (relation_line m.names s) 0 (length s.relations) in
    let fs = counted (function_line m.names s) 0 (length s.functions) in
    let r : length m.signature.relations ≡ length s.relations = fits.relations in
    let f : length m.signature.functions ≡ length s.functions = fits.functions in
    omega (arith, sum, rs, fs, r, f)

-- how many lines the end of an execution takes
abbrev end_height : ModelTree → About → ℕ
end_height m about.Abort = 1
end_height m (about.Conjecture k) = 2 + table_count m

end_takes : (m : ModelTree) (a : About) (s : Tables) (values : List ℕ) (after : Option Tables)
    → HasEnd m s a values after → length (end_lines m.names a values after) ≡ end_height m a
end_takes m about.Abort s values after has = refl
end_takes m (about.Conjecture k) s values None has = absurd (cc has.3)
end_takes m (about.Conjecture k) s values (Some t) has =
    let h = has_after m s t k values has in
    let tables = tables_take m t h.alike.structure in
    let sum = length-append (table_lines m.names t) (numbers_line (codes "  values:") values ∷ []) in
    omega (arith, tables, sum)

fails_takes : (m : ModelTree) (a : About) → 5 + (m.signature.sorts + (table_count m + end_height m a))
    ≡ fails_height m a
fails_takes m about.Abort = omega arith
fails_takes m (about.Conjecture k) = omega arith

block_takes : (m : ModelTree) (group : Head) (paths : ℕ) (least : List ℕ) (shown : Counterexample)
    (after : Option Tables) → IsExecution m group paths shown after
    → 1 + length (block_lines m group.about paths least shown after) ≡ fails_height m group.about
block_takes m group paths least shown after exec =
    let end_of : List (List ℕ) = end_lines m.names group.about shown.values after in
    let sorts = sorts_take m.names shown.structure in
    let of_sig : m.signature.sorts ≡ length shown.structure.sizes = exec.structure.sorts in
    let tables = tables_take m shown.structure exec.structure in
    let last = end_takes m group.about shown.structure shown.values after exec.end in
    let inner = length-append (table_lines m.names shown.structure)
    (havoc_line shown.structure (goal_path m shown.goal) shown.trace.havoc ∷ end_lines m.names group.about shown.values
    after) in
    let outer = length-append (sort_lines m.names shown.structure)
    (table_lines m.names shown.structure
    ++ havoc_line shown.structure (goal_path m shown.goal) shown.trace.havoc ∷ end_lines m.names group.about
    shown.values after) in
    let whole = fails_takes m group.about in
    omega (arith, sorts, of_sig, tables, last, inner, outer, whole)

says_takes : (m : ModelTree) (group : Head) (a : PrintedAnswer) (lines : List (List ℕ)) → Says m group a lines
    → length lines ≡ height m group.about a
says_takes m group answer.Holds lines says = ap (length {A = List ℕ}) says
says_takes m group (answer.Fails paths shown after) lines says =
    let block = block_takes m group paths says.1.least shown after says.1.execution in
    let text = ap (length {A = List ℕ}) says.1.text in
    let all = ap (length {A = List ℕ}) says.2 in
    omega (arith, block, text, all)
says_takes m group answer.Undecided lines says = ap (length {A = List ℕ}) says.2

pub group_takes : (m : ModelTree) (n : ℕ) (group : Head) (g : PrintedGroup) (lines : List (List ℕ))
    → IsGroup m n group g lines → length lines ≡ height m g.about g.answer
group_takes m n group g lines is =
    says_takes m group g.answer lines is.answer ∙ ap (λ a. height m a g.answer) (sym is.about)

line_behind_is : (m : ModelTree) (n : ℕ) (groups : List Head) (gs : List PrintedGroup) (lines : List (List ℕ))
    → AreGroups m n groups gs lines → line_behind m n gs ≡ n + length lines
line_behind_is m n [] [] lines are = let e = ap (length {A = List ℕ}) are in omega (arith, e)
line_behind_is m n [] (g ∷ gs) lines are = absurd are
line_behind_is m n (group ∷ groups) [] lines are = absurd are
line_behind_is m n (group ∷ groups) (g ∷ gs) lines are =
    let at = are.2.line in
    let tall = group_takes m n group g are.0 are.2 in
    let next : g.line + height m g.about g.answer ≡ n + length are.0 = omega (arith, at, tall) in
    let more = line_behind_is m (n + length are.0) groups gs are.1 are.3 in
    let all = ap (length {A = List ℕ}) are.4 in
    let sum = length-append are.0 are.1 in
    ap (λ j. line_behind m j gs) next ∙ omega (arith, more, all, sum)

pub verdict_is_last : VerdictIsLast
verdict_is_last m p lines printed =
    let behind = line_behind_is m 2 (groups_of m) p.groups printed.middle printed.groups in
    let all = ap (length {A = List ℕ}) printed.text in
    let sum = length-append printed.middle (verdict_text p.verdict ∷ []) in
    omega (arith, behind, all, sum)
