-- An execution: what is true before it, which elements, tables and branches it takes, what it changes, and what is
-- false after it.
use Rattle.std.specs.Prelude.{ℕ, List, [], ◌∷◌, ◌++◌, Option, Some, None, codes, slice_get}
use Rattle.fol_sig.specs.Tables.{Tables, function_at}
use Rattle.fol_formula.specs.Syntax.{FormTree}
use Rattle.rml_command.specs.Trees.{PrimitiveTree, havoc, havoc_rel}
use Rattle.rml_command.specs.Outcomes.{Outcome, ended, aborted}
use Rattle.rml_command.specs.Models.{ModelTree}
use Rattle.rml_command.specs.declared.havoc.Havoc.{Havoc}
use Rattle.rml_command.specs.declared.havoc.Havoc.TheVariants.{Element, Tuples}
use Rattle.base.specs.Lists.{numbered}
use Rattle.rml_command.specs.Goals.{stage_paths, leading_sorts}
use Rattle.rml_command.specs.declared.names.Names.{Names}
use Rattle.rml_command.specs.declared.goal.Stage.{Stage}
use Rattle.rml_command.specs.declared.goal.About.{About}
use Rattle.rml_command.specs.declared.goal.About.TheVariants as about
use Rattle.rml_exec.specs.Steps.{havocs_after}
use Rattle.rml_exec.specs.declared.trace.Counterexample.{Counterexample}
use Rattle.rml_report.specs.Words.{name_at, labelled}
use Rattle.rml_report.specs.ReportText.{outcome_of}
use Rattle.told_states.specs.Labels.{Labels, labels_of}
use Rattle.told_states.specs.ElementText.{label_text, elements_text, line_text}
use Rattle.told_states.specs.TableText.{table_text}
use Rattle.told_states.specs.BeforeText.{before_text}
use Rattle.told_states.specs.ChangeText.{changes_text}
use Rattle.told_report.specs.InText.{TextTold}

-- a comma, and m := node1
abbrev pub element_havoc : Labels → ℕ → ℕ → ℕ → List ℕ
element_havoc l v k x = labelled (codes ", ") (name_at l.names.functions v) (codes " := ") ++ label_text l k x

-- a comma, and r := {(node0, node1), (node1, node1)}
abbrev pub table_havoc : Labels → Tables → ℕ → List (List ℕ) → List ℕ
table_havoc l s r xss = labelled (codes ", ") (name_at l.names.relations r) (codes " := ") ++ table_text l s r xss

-- What is told of a step of a path, where these entries of the trace are left: of a havoc what its entry gives to its
-- symbol, if there is one of its kind.
abbrev pub havoc_text : Labels → Tables → PrimitiveTree → List Havoc → List ℕ
havoc_text l s (havoc v) (Element x ∷ hs) = element_havoc l v (function_at s v).into x
havoc_text l s (havoc_rel r) (Tuples xss ∷ hs) = table_havoc l s r xss
havoc_text l s q hs = []

-- what is told of all of its steps
abbrev pub havocs_text : Labels → Tables → List PrimitiveTree → List Havoc → List ℕ
havocs_text l s [] hs = []
havocs_text l s (q ∷ qs) hs = havoc_text l s q hs ++ havocs_text l s qs (havocs_after q hs)

-- no line where there is no havoc
abbrev pub takes_along : ModelTree → Tables → List Havoc → Option (List PrimitiveTree) → List ℕ
takes_along m s havocs None = []
takes_along m s havocs (Some path) = line_text (codes "  takes: ") (havocs_text (labels_of m s) s path havocs)

-- what the path of this number takes from a structure, and the lines of the branches that it takes
unfoldable pub step_text : ModelTree → (Stage → ℕ → List ℕ) → Stage → ℕ → Tables → List Havoc → List ℕ
step_text m lines stage path s havocs =
    takes_along m s havocs (numbered (stage_paths m stage) path) ++ lines stage path

-- what differs between two structures; the derived relations have changed only where the others have
unfoldable pub differences_text : ModelTree → TextTold → Tables → Tables → List ℕ
differences_text m told s t = changes_text m s t ++ told.changes m s t

-- what the path has changed where it ends
abbrev pub changes_to : ModelTree → TextTold → Tables → Option Outcome → List ℕ
changes_to m told s None = []
changes_to m told s (Some aborted) = []
changes_to m told s (Some (ended t)) = differences_text m told s t

-- what is true in a structure
unfoldable pub state_text : ModelTree → TextTold → Tables → List ℕ
state_text m told s = before_text m s ++ told.facts m s

-- the values of the conjecture's leading quantifiers
unfoldable pub values_text : Labels → Option FormTree → List ℕ → List ℕ
values_text l None values = []
values_text l (Some c) values = elements_text l (codes " of ") (leading_sorts c) values

-- "  after this linked_down is false", where the line may go on
unfoldable pub claim_text : Names → ℕ → List ℕ
claim_text names k = labelled (codes "  after this ") (name_at names.conjectures k) (codes " is false")

-- after this linked_down is false of client0, server0
unfoldable pub false_text : ModelTree → Tables → ℕ → List ℕ → List ℕ
false_text m s k values =
    claim_text m.names k ++ values_text (labels_of m s) (slice_get m.conjectures k) values ++ codes "\n"

-- that the execution aborts; or that a conjecture is false where it ends, and of which elements
abbrev pub after_text : ModelTree → Tables → About → List ℕ → List ℕ
after_text m s about.Abort values = codes "  after this it aborts\n"
after_text m s (about.Conjecture k) values = false_text m s k values

-- Behind a path that aborts stands no structure, so nothing is told of changes.
unfoldable pub execution_text : ModelTree → TextTold → About → Counterexample → List ℕ
execution_text m told a shown =
    state_text m told shown.structure
    ++ step_text m told.lines shown.goal.stage shown.goal.path shown.structure shown.trace.havoc
    ++ changes_to m told shown.structure (outcome_of m shown) ++ after_text m shown.structure a shown.values
