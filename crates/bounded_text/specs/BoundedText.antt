-- The text of what is answered of bounded runs, a definition for each kind of line.
use Rattle.std.specs.Prelude.{◌≡◌, ℕ, ◌+◌, List, [], ◌∷◌, ◌++◌, length, Option, Some, None, codes}
use Rattle.std.specs.List.{AllByRecursion, flat_map}
use Rattle.std.specs.Fmt.{decimal}
use Rattle.fol_sig.specs.Tables.{Tables}
use Rattle.fol_sig.specs.Symbols.{FitsStructure, symbols}
use Rattle.base.specs.Lists.{numbered}
use Rattle.rml_command.specs.Trees.{PrimitiveTree}
use Rattle.rml_command.specs.Models.{ModelTree}
use Rattle.rml_command.specs.Goals.{stage_paths}
use Rattle.rml_command.specs.declared.names.Names.{Names}
use Rattle.rml_command.specs.declared.goal.About.{About}
use Rattle.rml_command.specs.declared.goal.About.TheVariants as about
use Rattle.rml_report.specs.Words.{name_at, labelled, cause_text, numbers_line}
use Rattle.rml_report.specs.TableText.{tables_text, sorts_text}
use Rattle.rml_report.specs.HavocText.{havoc_line}
use Rattle.rml_report.specs.ReportText.{stage_text}
use Rattle.rml_bmc.specs.Lengths.{verdict_of}
use Rattle.rml_bmc.specs.Shown.{EndFits}
use Rattle.rml_bmc.specs.declared.answer.Part.{Part}
use Rattle.rml_bmc.specs.declared.answer.Run.{Run}
use Rattle.rml_bmc.specs.declared.answer.BoundCause.{BoundCause}
use Rattle.rml_bmc.specs.declared.answer.BoundCause.TheVariants as cause
use Rattle.rml_bmc.specs.declared.answer.Length.{Length}
use Rattle.rml_bmc.specs.declared.answer.Length.TheVariants as answer
use Rattle.rml_bmc.specs.declared.answer.Bounded.{Bounded}
use Rattle.rml_bmc.specs.declared.answer.Verdict.{Verdict}
use Rattle.rml_bmc.specs.declared.answer.Verdict.TheVariants as verdict

-- how a part ends: with the tables of its end, or it aborts
abbrev pub end_text : Names → Option Tables → List ℕ
end_text names None = codes "  aborts\n"
end_text names (Some end) = codes "  after\n" ++ tables_text names end

-- STAGE path P of N
unfoldable pub part_line : ModelTree → Part → List ℕ
part_line m part =
    codes "  " ++ stage_text m.names part.stage ++ codes " path " ++ decimal part.trace.path ++ codes " of "
    ++ decimal (length (stage_paths m part.stage)) ++ codes "\n"

-- What the havocs of a part gave. The structure has the sizes of the sorts.
abbrev pub havocs_line : ModelTree → Tables → Part → List ℕ
havocs_line m s part = havoc_line s (numbered (stage_paths m part.stage) part.trace.path) part.trace.havoc

-- the path that is taken, what its havocs gave, and how it ends
unfoldable pub part_text : ModelTree → Tables → Part → List ℕ
part_text m s part = part_line m part ++ havocs_line m s part ++ end_text m.names part.end

-- the values, of a conjecture that is broken
abbrev pub values_text : About → List ℕ → List ℕ
values_text about.Abort values = []
values_text (about.Conjecture k) values = numbers_line (codes "  values:") values

-- abort, or breaks NAME
abbrev pub broken_text : Names → About → List ℕ
broken_text names about.Abort = codes "abort\n"
broken_text names (about.Conjecture k) = labelled (codes "breaks ") (name_at names.conjectures k) (codes "\n")

-- what the run does, the structure in which it begins, its parts, the values
unfoldable pub run_text : ModelTree → Run → List ℕ
run_text m run =
    broken_text m.names run.about ++ codes "  before\n" ++ sorts_text m.names run.start ++ tables_text m.names run.start
    ++ flat_map (λ part. part_text m run.start part) run.parts ++ values_text run.about run.values

-- paths N, or the limit that a goal passes
abbrev pub bound_cause_text : BoundCause → List ℕ
bound_cause_text (cause.Paths n) = codes "paths " ++ decimal n
bound_cause_text (cause.Goal place c) = cause_text c

-- what stands behind the number of a length that is left open
unfoldable pub undecided_text : BoundCause → List ℕ
undecided_text c = codes "undecided " ++ bound_cause_text c ++ codes "\n"

-- what stands behind the number of a length
abbrev pub answer_text : ModelTree → Length → List ℕ
answer_text m answer.Safe = codes "safe\n"
answer_text m (answer.Undecided c) = undecided_text c
answer_text m (answer.Broken run) = run_text m run

-- steps K: ANSWER
unfoldable pub length_text : ModelTree → ℕ → Length → List ℕ
length_text m k l = codes "steps " ++ decimal k ++ codes ": " ++ answer_text m l

-- the lengths from k on
abbrev pub lengths_text : ModelTree → ℕ → List Length → List ℕ
lengths_text m k [] = []
lengths_text m k (l ∷ ls) = length_text m k l ++ lengths_text m (k + 1) ls

-- the last line of the text
abbrev pub verdict_text : Verdict → List ℕ
verdict_text verdict.Safe = codes "verdict: safe\n"
verdict_text verdict.NotSafe = codes "verdict: not safe\n"
verdict_text verdict.Undecided = codes "verdict: undecided\n"

-- the lengths from 0 on, the verdict
unfoldable pub bounded_text : ModelTree → Bounded → List ℕ
bounded_text m b = lengths_text m 0 b.lengths ++ verdict_text (verdict_of b.lengths)

-- the part takes a path of the model
pub record HasPath (m : ModelTree) (part : Part) : Type 0 where
  pub path : List PrimitiveTree
  pub is_path : numbered (stage_paths m part.stage) part.trace.path ≡ Some path

-- a run can be written out: its structures have the model's symbols, and its paths are the model's
pub record CanShow (m : ModelTree) (run : Run) : Type 0 where
  pub start : FitsStructure (symbols m.signature) run.start
  pub paths : AllByRecursion (HasPath m) run.parts
  pub ends : AllByRecursion (λ part. EndFits (symbols m.signature) part.end) run.parts

-- the answer to a length can be
abbrev pub CanRender : ModelTree → Length → Type 0
CanRender m answer.Safe = Unit {0}
CanRender m (answer.Undecided c) = Unit {0}
CanRender m (answer.Broken run) = CanShow m run
