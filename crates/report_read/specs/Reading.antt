-- What the lines say, read one after another.
use Rattle.std.specs.Prelude.{◌≡◌, ◌<◌, ℕ, zero, suc, Bool, if◌then◌else◌, List, [], ◌∷◌, ◌++◌, length, codes, All}
use Rattle.std.specs.Prelude.{Option, Some, None, Result, Ok, Err, slice_get}
use Rattle.fol_sig.specs.Tables.{Tables, blank, size_at, relation_at, function_at}
use Rattle.fol_sig.specs.Symbols.{FitsStructure, symbols}
use Rattle.fol_sig.specs.Updates.{with_relation_cells, with_function_cells}
use Rattle.fol_formula.specs.Syntax.{FormTree}
use Rattle.rml_command.specs.Models.{ModelTree}
use Rattle.rml_command.specs.Goals.{stage_paths, goal_path, leading_sorts, groups_of}
use Rattle.rml_command.specs.declared.names.Names.{Names}
use Rattle.rml_command.specs.declared.havoc.Havoc.{Havoc}
use Rattle.rml_command.specs.declared.goal.Head.{Head}
use Rattle.rml_command.specs.declared.goal.Goal.{Goal}
use Rattle.rml_command.specs.declared.goal.Stage.{Stage}
use Rattle.rml_command.specs.declared.goal.Stage.TheVariants as stage
use Rattle.rml_command.specs.declared.goal.About.{About}
use Rattle.rml_command.specs.declared.goal.About.TheVariants as about
use Rattle.rml_exec.specs.declared.trace.Counterexample.{Counterexample}
use Rattle.rml_report.specs.Reports.{goal_at}
use Rattle.rml_report.specs.declared.report.Verdict.{Verdict}
use Rattle.base.specs.declared.refused.Refused.{Refused}
use Rattle.base.specs.declared.refused.Refused.TheVariants.{For, NoMemory}
use Rattle.line_scan.specs.Lines.{first_of, LinesLeft}
use Rattle.line_scan.specs.Scanning.{name_at}
use Rattle.printed_report.specs.declared.printed.Unread.{Unread}
use Rattle.printed_report.specs.declared.printed.Printed.{Printed}
use Rattle.printed_report.specs.declared.printed.PrintedGroup.{PrintedGroup}
use Rattle.printed_report.specs.declared.printed.PrintedAnswer.{PrintedAnswer}
use Rattle.printed_report.specs.declared.printed.PrintedAnswer.TheVariants as answer
use Rattle.report_read.specs.Got.{Got, got, stuck, one, and_then}
use Rattle.report_values.specs.ValueReading.{truths_in, values_in, elements_in}
use Rattle.report_read.specs.LineReading.{is_axioms_line, is_least_line, head_in, path_in, size_in}
use Rattle.report_read.specs.LineReading.{words_in, verdict_in}
use Rattle.report_values.specs.HavocReading.{entries_along}
use Rattle.report_read.specs.declared.heads.Standing.{Standing}
use Rattle.report_read.specs.declared.heads.Standing.TheVariants as head
use Rattle.report_read.specs.declared.block.End.{End}
use Rattle.report_read.specs.declared.block.Course.{Course}

-- what a call answers of it
abbrev pub Reads : {A : Type 0} → Got A → LinesLeft → Result A (Refused Unread) → Type 0
Reads read left (Ok x) = read ≡ got x left
Reads read left (Err (For unread)) = (read ≡ stuck left) × (unread.line ≡ left.number)
Reads read left (Err NoMemory) = Unit {0}

-- a line that says nothing else
abbrev pub passing : Bool → Option (Unit {0})
passing b = if b then Some tt else None

-- the line of the axioms, of which nothing is kept
abbrev pub read_axioms : LinesLeft → Got (Unit {0})
read_axioms left = one (passing (is_axioms_line (first_of left.lines))) left

-- the sizes of n sorts from k on, behind those that were read
abbrev pub read_sizes : Names → ℕ → ℕ → List ℕ → LinesLeft → Got (List ℕ)
read_sizes names k zero done left = got done left
read_sizes names k (suc n) done left =
    and_then (one (size_in (name_at names.sorts k) (first_of left.lines)) left)
    (λ size more. read_sizes names (suc k) n (done ++ size ∷ []) more)

-- the cells of one relation, and of one function
abbrev pub read_truths : Names → Tables → ℕ → LinesLeft → Got (List Bool)
read_truths names s k left =
    one (truths_in s.sizes (relation_at s k).sorts (name_at names.relations k) (first_of left.lines)) left

-- the values of a function, tuple by tuple
abbrev pub read_images : Names → Tables → ℕ → LinesLeft → Got (List ℕ)
read_images names s k left =
    one (values_in s.sizes (function_at s k).sorts (size_at s (function_at s k).into) (name_at names.functions k)
    (first_of left.lines)) left

-- the tables of n relations from k on
abbrev pub read_relations : Names → ℕ → ℕ → Tables → LinesLeft → Got Tables
read_relations names k zero s left = got s left
read_relations names k (suc n) s left =
    and_then (read_truths names s k left)
    (λ cells more. read_relations names (suc k) n (with_relation_cells s k cells) more)

-- those of n functions from k on
abbrev pub read_functions : Names → ℕ → ℕ → Tables → LinesLeft → Got Tables
read_functions names k zero s left = got s left
read_functions names k (suc n) s left =
    and_then (read_images names s k left)
    (λ cells more. read_functions names (suc k) n (with_function_cells s k cells) more)

-- a structure of these sizes
abbrev pub read_tables : ModelTree → List ℕ → LinesLeft → Got Tables
read_tables m sizes left =
    and_then (read_relations m.names 0 (length m.signature.relations) (blank m.signature sizes) left)
    (read_functions m.names 0 (length m.signature.functions))

-- the sizes of the sorts, and all tables
abbrev pub read_structure : ModelTree → LinesLeft → Got Tables
read_structure m left = and_then (read_sizes m.names 0 m.signature.sorts [] left) (read_tables m)

-- the elements of these sorts in a line that begins with the word
abbrev pub read_elements : List ℕ → List ℕ → List ℕ → LinesLeft → Got (List ℕ)
read_elements sizes ks word left = one (elements_in sizes ks word (first_of left.lines)) left

-- the entries that the line `havoc:` gives for the path of the goal
abbrev pub read_havoc : ModelTree → Goal → Tables → LinesLeft → Got (List Havoc)
read_havoc m goal s left = one (entries_along s (goal_path m goal) (first_of left.lines)) left

-- the sorts of the values of a conjecture
abbrev pub value_sorts : Option FormTree → List ℕ
value_sorts None = []
value_sorts (Some c) = leading_sorts c

-- the line `values:` of conjecture k
abbrev pub read_values : ModelTree → ℕ → Tables → LinesLeft → Got (List ℕ)
read_values m k s = read_elements s.sizes (value_sorts (slice_get m.conjectures k)) (codes "  values:")

-- a line that is these words and nothing else
abbrev pub read_words : List ℕ → LinesLeft → Got (Unit {0})
read_words words left = one (words_in words (first_of left.lines)) left

-- the end of a conjecture's path
abbrev pub end_in : Tables → List ℕ → End
end_in t values = record { after = Some t; values = values }

-- the end of a path that aborts: no structure and no values
abbrev pub no_end : End
no_end = record { after = None; values = [] }

-- the line `after`, and the tables of the end, which has the sizes of this structure
abbrev pub read_end_tables : ModelTree → Tables → LinesLeft → Got Tables
read_end_tables m s left = and_then (read_words (codes "  after\n") left) (λ _ more. read_tables m s.sizes more)

-- the end of a path that breaks conjecture k
abbrev pub read_after : ModelTree → ℕ → Tables → LinesLeft → Got End
read_after m k s left =
    and_then (read_end_tables m s left) (λ t more. and_then (read_values m k s more)
    (λ values rest. got (end_in t values) rest))

-- the line `aborts`
abbrev pub read_abort : LinesLeft → Got End
read_abort left = and_then (read_words (codes "  aborts\n") left) (λ _ rest. got no_end rest)

-- how the path ends, by what the goal is about
abbrev pub read_end : ModelTree → About → Tables → LinesLeft → Got End
read_end m about.Abort s left = read_abort left
read_end m (about.Conjecture k) s left = read_after m k s left

-- the number of the shown path, in a stage with so many paths
abbrev pub read_path : ModelTree → Head → ℕ → LinesLeft → Got ℕ
read_path m group paths left = one (path_in m group paths (first_of left.lines)) left

-- the line `least:`, of which nothing is kept
abbrev pub read_least : ModelTree → LinesLeft → Got (Unit {0})
read_least m left = one (passing (is_least_line m.names (first_of left.lines))) left

-- the path, and the lines up to the structure
abbrev pub read_opening : ModelTree → Head → ℕ → LinesLeft → Got ℕ
read_opening m group paths left =
    and_then (read_path m group paths left) (λ path more. and_then (read_least m more)
    (λ _ next. and_then (read_words (codes "  before\n") next) (λ _ rest. got path rest)))

-- the entries of the trace and the end
abbrev pub read_course : ModelTree → Goal → Tables → LinesLeft → Got Course
read_course m goal s left =
    and_then (read_havoc m goal s left) (λ havoc more. and_then (read_end m goal.about s more)
    (λ end rest. got (record { havoc = havoc; end = end }) rest))

-- the execution of a group along this path, from this structure
abbrev pub shown_of : Head → ℕ → Tables → Course → Counterexample
shown_of group path s course = record {
  structure = s;
  trace = record { path = path; havoc = course.havoc };
  goal = goal_at group path;
  values = course.end.values;
}

-- the answer that the group fails, with this execution
abbrev pub fails_of : Head → ℕ → ℕ → Tables → Course → PrintedAnswer
fails_of group paths path s course = answer.Fails paths (shown_of group path s course) course.end.after

-- the structure, the trace and the end
abbrev pub read_execution : ModelTree → Head → ℕ → ℕ → LinesLeft → Got PrintedAnswer
read_execution m group paths path left =
    and_then (read_structure m left) (λ s more. and_then (read_course m (goal_at group path) s more)
    (λ course rest. got (fails_of group paths path s course) rest))

-- what stands behind the head of a group that fails
abbrev pub read_block : ModelTree → Head → LinesLeft → Got PrintedAnswer
read_block m group left =
    and_then (read_opening m group (length (stage_paths m group.stage)) left)
    (read_execution m group (length (stage_paths m group.stage)))

-- the first line of a group, and what it says of the group
abbrev pub read_head : ModelTree → Head → LinesLeft → Got Standing
read_head m group left = one (head_in m group (first_of left.lines)) left

-- what stands behind a head that says this
abbrev pub read_answer : ModelTree → Head → Standing → LinesLeft → Got PrintedAnswer
read_answer m group head.Holds left = got answer.Holds left
read_answer m group head.Fails left = read_block m group left
read_answer m group head.Undecided left = got answer.Undecided left

-- a head, and what it says
abbrev pub read_said : ModelTree → Head → LinesLeft → Got PrintedAnswer
read_said m group left = and_then (read_head m group left) (read_answer m group)

-- the group with this answer, and its head on line n
abbrev pub group_of : Head → ℕ → PrintedAnswer → PrintedGroup
group_of group n a = record { stage = group.stage; about = group.about; line = n; answer = a }

-- the lines of one group
abbrev pub read_group : ModelTree → Head → LinesLeft → Got PrintedGroup
read_group m group left = and_then (read_said m group left) (λ a rest. got (group_of group left.number a) rest)

-- groups behind those that were read
abbrev pub read_groups : ModelTree → List Head → List PrintedGroup → LinesLeft → Got (List PrintedGroup)
read_groups m [] done left = got done left
read_groups m (group ∷ groups) done left =
    and_then (read_group m group left) (λ g more. read_groups m groups (done ++ g ∷ []) more)

-- the line of the verdict
abbrev pub read_verdict : LinesLeft → Got Verdict
read_verdict left = one (verdict_in (first_of left.lines)) left

abbrev pub printed_of : List PrintedGroup → Verdict → Printed
printed_of groups v = record { verdict = v; groups = groups }

-- the lines of a report
abbrev pub read_lines : ModelTree → LinesLeft → Got Printed
read_lines m left =
    and_then (read_axioms left) (λ _ more. and_then (read_groups m (groups_of m) [] more)
    (λ groups next. and_then (read_verdict next) (λ v rest. got (printed_of groups v) rest)))

-- nothing is left
abbrev pub ended : {A : Type 0} → A → List (List ℕ) → ℕ → Got A
ended x [] n = got x (record { lines = []; number = n })
ended x (line ∷ lines) n = stuck (record { lines = line ∷ lines; number = n })

-- no line is left
abbrev pub read_nothing : {A : Type 0} → A → LinesLeft → Got A
read_nothing x left = ended x left.lines left.number

-- a whole report
abbrev pub read_all : ModelTree → LinesLeft → Got Printed
read_all m left = and_then (read_lines m left) read_nothing

-- a text is read to this end: what it says, or the number of the line that can't stand there
abbrev pub ReadsText : ModelTree → List (List ℕ) → Result Printed (Refused Unread) → Type 0
ReadsText m lines (Ok p) = (rest : LinesLeft) × (read_all m (record { lines = lines; number = 1 }) ≡ got p rest)
ReadsText m lines (Err (For unread)) =
    (rest : LinesLeft) × (read_all m (record { lines = lines; number = 1 }) ≡ stuck rest)
    × (unread.line ≡ rest.number)
ReadsText m lines (Err NoMemory) = Unit {0}

-- sizes of the model's sorts
pub record AreSizes (m : ModelTree) (sizes : List ℕ) : Type 0 where
  pub count : length sizes ≡ m.signature.sorts
  pub positive : All (λ n. 0 < n) sizes

-- a structure of the model with these sizes
pub record HasTables (m : ModelTree) (sizes : List ℕ) (s : Tables) : Type 0 where
  pub fits : FitsStructure (symbols m.signature) s
  pub sizes_are : s.sizes ≡ sizes

-- a stage that has each conjecture
abbrev pub IsBeforeFinal : Stage → Type 0
IsBeforeFinal stage.Init = Unit {0}
IsBeforeFinal (stage.Action a) = Unit {0}
IsBeforeFinal stage.Final = ⊥
