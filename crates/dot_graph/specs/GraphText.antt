-- A picture of a state, one of a step, and one of a counterexample.
use Rattle.std.specs.Prelude.{ℕ, List, ◌++◌, Option, Some, None, codes}
use Rattle.std.specs.Fmt.{decimal}
use Rattle.fol_sig.specs.Tables.{Tables}
use Rattle.rml_command.specs.Outcomes.{Outcome, ended, aborted}
use Rattle.rml_command.specs.Models.{ModelTree}
use Rattle.rml_command.specs.declared.names.Names.{Names}
use Rattle.rml_exec.specs.declared.trace.Counterexample.{Counterexample}
use Rattle.rml_report.specs.ReportText.{head_text, outcome_of}
use Rattle.dot_graph.specs.NodeText.{frames_text}
use Rattle.dot_graph.specs.EdgeText.{edges_text}

-- the frame and the title of one structure of a picture, and a point that is not seen: a frame with nothing in it would
-- not be drawn
unfoldable pub side_head : List ℕ → List ℕ → List ℕ
side_head letter title =
    codes "  subgraph cluster_" ++ letter ++ codes " {\n    label=<" ++ title ++ codes ">;\n    " ++ letter
    ++ codes " [shape=point, style=invis];\n"

-- a structure, with what differs from the other one in red
unfoldable pub side_text : List ℕ → List ℕ → Names → Tables → Tables → List ℕ
side_text letter title names s t =
    side_head letter title ++ frames_text letter names s t ++ edges_text letter names s t ++ codes "  }\n"

-- the name of a graph is a word and a number, so that the graphs of one text have different names
unfoldable pub graph_head : List ℕ → ℕ → List ℕ
graph_head word n = codes "digraph " ++ word ++ decimal n ++ codes " {\n"

-- the structure before beside the one after, under a title that stands above the picture
unfoldable pub step_graph : ℕ → List ℕ → Names → Tables → Tables → List ℕ
step_graph n title names s t =
    graph_head (codes "step") n ++ codes "  label=<" ++ title ++ codes ">;\n  labelloc=t;\n"
    ++ side_text (codes "b") (codes "before") names s t
    ++ side_text (codes "a") (codes "after") names t s ++ codes "}\n"

-- one structure under a title, in which nothing is red
unfoldable pub state_graph : ℕ → List ℕ → Names → Tables → List ℕ
state_graph n title names s = graph_head (codes "state") n ++ side_text (codes "s") title names s s ++ codes "}\n"

-- A counterexample as a step. One that aborts has no end, and is the state in which it begins.
abbrev pub outcome_graph : ℕ → List ℕ → Names → Tables → Option Outcome → List ℕ
outcome_graph n title names s None = state_graph n title names s
outcome_graph n title names s (Some aborted) = state_graph n title names s
outcome_graph n title names s (Some (ended t)) = step_graph n title names s t

-- under this title
abbrev pub execution_graph : ℕ → List ℕ → ModelTree → Counterexample → List ℕ
execution_graph n title m shown = outcome_graph n title m.names shown.structure (outcome_of m shown)

-- under what it is a counterexample of
abbrev pub counterexample_graph : ℕ → ModelTree → Counterexample → List ℕ
counterexample_graph n m shown = execution_graph n (head_text m.names shown.goal.stage shown.goal.about) m shown
