-- What a line says, read from left to right; None, or false, where it is no such line.
use Rattle.std.specs.Prelude.{ℕ, Bool, true, false, ◌&&◌, nat_le, if◌then◌else◌, List, [], ◌∷◌, codes}
use Rattle.std.specs.Prelude.{Option, Some, None, decimal}
use Rattle.std.specs.Str.{bytes_eq}
use Rattle.rml_command.specs.Trees.{PrimitiveTree}
use Rattle.base.specs.Lists.{numbered}
use Rattle.rml_command.specs.Models.{ModelTree}
use Rattle.rml_command.specs.Goals.{stage_paths, is_for}
use Rattle.rml_command.specs.declared.names.Names.{Names}
use Rattle.rml_command.specs.declared.goal.Head.{Head}
use Rattle.rml_command.specs.declared.goal.About.{About}
use Rattle.rml_report.specs.ReportText.{stage_text, about_text}
use Rattle.rml_report.specs.declared.report.Verdict.{Verdict}
use Rattle.rml_report.specs.declared.report.Verdict.TheVariants as verdict
use Rattle.line_scan.specs.Scanning.{behind, number_at, is_end, most}
use Rattle.report_values.specs.ValueReading.{choose, on, behind_labelled}
use Rattle.report_read.specs.declared.heads.Standing.{Standing}
use Rattle.report_read.specs.declared.heads.Standing.TheVariants as head

-- behind a number
abbrev pub behind_number : List ℕ → Option (List ℕ)
behind_number bs = on (number_at bs) (λ n. Some n.1)

-- behind a cause with a number
abbrev pub behind_counted : List ℕ → Option (List ℕ)
behind_counted bs =
    choose (behind (codes "terms ") bs) behind_number
    (choose (behind (codes "ground ") bs) behind_number
    (choose (behind (codes "conflicts ") bs) behind_number None))

-- behind any cause
abbrev pub behind_cause : List ℕ → Option (List ℕ)
behind_cause bs = choose (behind (codes "formula") bs) Some (behind_counted bs)

-- and the end of the line
abbrev pub ends : Option (List ℕ) → Bool
ends found = choose found is_end false

-- it is left open whether the axioms are consistent, with a cause that has a number
abbrev pub is_open_axioms : List ℕ → Bool
is_open_axioms line = choose (behind (codes "axioms: undecided ") line) (λ a. ends (behind_counted a)) false

-- the first line of a report
abbrev pub is_axioms_line : List ℕ → Bool
is_axioms_line line =
    if bytes_eq line (codes "axioms: consistent\n") then true
    else (if bytes_eq line (codes "axioms: inconsistent\n") then true else is_open_axioms line)

-- a number up to the most, a blank, a cause and the end
abbrev pub is_stop : ℕ → List ℕ → Bool
is_stop most bs =
    choose (number_at bs)
    (λ n. if nat_le n.0 most then choose (behind (codes " ") n.1) (λ a. ends (behind_counted a)) false else false) false

-- it stops at this name
abbrev pub stops_at : ℕ → List ℕ → List ℕ → Bool
stops_at most bs name = choose (behind name bs) (λ a. choose (behind (codes " ") a) (is_stop most) false) false

-- it stops at one of these names
abbrev pub stops_at_some : ℕ → List (List ℕ) → List ℕ → Bool
stops_at_some bound [] bs = false
stops_at_some bound (name ∷ names) bs = if stops_at bound bs name then true else stops_at_some bound names bs

-- it stops at a relation, where the number of tuples may be any of 64 bits
abbrev pub stops_at_relation : Names → List ℕ → Bool
stops_at_relation names bs = choose (behind (codes "relation ") bs) (stops_at_some most names.relations) false

-- it stops at a sort, or at a relation
abbrev pub is_stopped : Names → List ℕ → Bool
is_stopped names bs = if stops_at_some 100000 names.sorts bs then true else stops_at_relation names bs

-- the line `least:` of a group that fails
abbrev pub is_least_line : Names → List ℕ → Bool
is_least_line names line =
    if bytes_eq line (codes "  least: yes\n") then true
    else choose (behind (codes "  least: stopped ") line) (is_stopped names) false

-- whether the path, if there is one, is a goal
abbrev pub is_goal_path : About → Option (List PrimitiveTree) → Bool
is_goal_path a None = false
is_goal_path a (Some path) = is_for a path

-- whether the path of this number is one of the goals of the group
abbrev pub is_goal_at : ModelTree → Head → ℕ → Bool
is_goal_at m group n = is_goal_path group.about (numbered (stage_paths m group.stage) n)

-- whether a group has a goal
abbrev pub has_goal_among : About → List (List PrimitiveTree) → Bool
has_goal_among a [] = false
has_goal_among a (p ∷ ps) = if is_for a p then true else has_goal_among a ps

-- the same of the group with this head, by the paths of its stage
abbrev pub has_goal : ModelTree → Head → Bool
has_goal m group = has_goal_among group.about (stage_paths m group.stage)

-- the path of a group that is left open, a blank, a cause and the end
abbrev pub is_open_path : ModelTree → Head → List ℕ → Bool
is_open_path m group bs =
    choose (number_at bs)
    (λ n. if is_goal_at m group n.0 then choose (behind (codes " ") n.1) (λ a. ends (behind_cause a)) false else false)
    false

-- what stands behind the stage and what it is about
abbrev pub head_end : ModelTree → Head → List ℕ → Option Standing
head_end m group bs =
    if bytes_eq bs (codes ": holds\n") then Some head.Holds
    else (if bytes_eq bs (codes ": fails\n") then (if has_goal m group then Some head.Fails else None)
    else on (behind (codes ": undecided path ") bs) (λ a. if is_open_path m group a then Some head.Undecided else None))

-- what the first line of the group says of it
abbrev pub head_in : ModelTree → Head → List ℕ → Option Standing
head_in m group line =
    on (behind (stage_text m.names group.stage) line) (λ a. on (behind (about_text m.names group.about) a)
    (head_end m group))

-- behind a path, the number of paths and the end
abbrev pub path_end : ℕ → ℕ → List ℕ → Option ℕ
path_end path paths bs =
    on (behind (codes " of ") bs) (λ a. on (behind (decimal paths) a) (λ b. if is_end b then Some path else None))

-- the number of the shown path, which is one of the group's goals
abbrev pub path_in : ModelTree → Head → ℕ → List ℕ → Option ℕ
path_in m group paths line =
    on (behind (codes "  path ") line) (λ a. on (number_at a) (λ n.
    if is_goal_at m group n.0 then path_end n.0 paths n.1 else None))

-- a size of a sort, which is from 1 to 100,000, and the end
abbrev pub size_end : List ℕ → Option ℕ
size_end bs =
    on (number_at bs) (λ n. if nat_le 1 n.0 && nat_le n.0 100000 && is_end n.1 then Some n.0 else None)

-- the size of the sort of this name
abbrev pub size_in : List ℕ → List ℕ → Option ℕ
size_in name line = on (behind_labelled (codes "    sort ") name (codes " ") line) size_end

-- the line is these words and nothing else
abbrev pub words_in : List ℕ → List ℕ → Option (Unit {0})
words_in words line = if bytes_eq line words then Some tt else None

-- the verdict in the last line
abbrev pub verdict_in : List ℕ → Option Verdict
verdict_in line =
    if bytes_eq line (codes "verdict: inductive\n") then Some verdict.Inductive
    else (if bytes_eq line (codes "verdict: not inductive\n") then Some verdict.NotInductive
    else (if bytes_eq line (codes "verdict: undecided\n") then Some verdict.Undecided else None))
