-- The graphs of what is answered: of a report a counterexample for each group that fails, of what is dropped the
-- executions that break it, and of a run its states.
use Rattle.std.specs.Prelude.{ℕ, ◌+◌, List, [], ◌∷◌, ◌++◌, Option, Some, None, codes}
use Rattle.fol_sig.specs.Tables.{Tables}
use Rattle.rml_command.specs.Models.{ModelTree}
use Rattle.rml_command.specs.declared.names.Names.{Names}
use Rattle.rml_command.specs.declared.goal.Stage.{Stage}
use Rattle.rml_report.specs.ReportText.{stage_text}
use Rattle.rml_report.specs.declared.report.Answer.{Answer}
use Rattle.rml_report.specs.declared.report.Answer.TheVariants as answer
use Rattle.rml_report.specs.declared.report.Group.{Group}
use Rattle.rml_bmc.specs.declared.answer.Part.{Part}
use Rattle.rml_bmc.specs.declared.answer.Run.{Run}
use Rattle.rml_houdini.specs.declared.houdini.Dropped.{Dropped}
use Rattle.dot_graph.specs.GraphText.{state_graph, counterexample_graph}

-- a group that fails
abbrev pub group_graph : ℕ → ModelTree → Answer → List ℕ
group_graph n m answer.Holds = []
group_graph n m (answer.Fails paths least shown) = counterexample_graph n m shown
group_graph n m (answer.Undecided path cause) = []

-- the groups from the one of this number on
abbrev pub group_graphs : ℕ → ModelTree → List Group → List ℕ
group_graphs n m [] = []
group_graphs n m (g ∷ gs) = group_graph n m g.answer ++ group_graphs (n + 1) m gs

-- the drops from the one of this number on
abbrev pub drop_graphs : ℕ → ModelTree → List Dropped → List ℕ
drop_graphs n m [] = []
drop_graphs n m (d ∷ ds) = counterexample_graph n m d.shown ++ drop_graphs (n + 1) m ds

-- where a part ends, under the stage that leads there; nothing of a part that aborts
abbrev pub end_graph : ℕ → Names → Stage → Option Tables → List ℕ
end_graph n names stage None = []
end_graph n names stage (Some end) = state_graph n (stage_text names stage) names end

-- the ends of these parts, the first with this number
abbrev pub part_graphs : ℕ → ModelTree → List Part → List ℕ
part_graphs n m [] = []
part_graphs n m (part ∷ parts) = end_graph n m.names part.stage part.end ++ part_graphs (n + 1) m parts

-- the start of a run, and the end of each part
unfoldable pub run_graphs : ModelTree → Run → List ℕ
run_graphs m run = state_graph 0 (codes "start") m.names run.start ++ part_graphs 1 m run.parts
