-- An execution as data: the structure in which it begins, what its havocs take, and the structure in which it ends.
use Rattle.std.specs.Prelude.{ℕ, List, [], ◌∷◌, ◌++◌, Option, Some, None, codes}
use Rattle.serde_json.specs.Data.{Data, null}
use Rattle.rml_command.specs.Trees.{PrimitiveTree, havoc, havoc_rel}
use Rattle.fol_sig.specs.Tables.{Tables}
use Rattle.rml_command.specs.Outcomes.{Outcome, ended, aborted}
use Rattle.rml_command.specs.Models.{ModelTree}
use Rattle.rml_command.specs.declared.havoc.Havoc.{Havoc}
use Rattle.rml_command.specs.declared.havoc.Havoc.TheVariants.{Element, Tuples}
use Rattle.rml_command.specs.Goals.{goal_path}
use Rattle.rml_command.specs.declared.names.Names.{Names}
use Rattle.rml_exec.specs.Steps.{havocs_after}
use Rattle.rml_exec.specs.declared.trace.Counterexample.{Counterexample}
use Rattle.rml_report.specs.ReportText.{outcome_of}
use Rattle.json_values.specs.Values.{list_data, number_data, numbers_data, object_of}
use Rattle.json_outcome.specs.GroupData.{name_data}
use Rattle.told_states.specs.SymbolText.{relation_symbol}
use Rattle.json_outcome.specs.StructureData.{members_data, structure_data}

-- {"variable":"m","element":1}
unfoldable pub element_data : Names → ℕ → ℕ → Data
element_data names v x = object_of
    ((codes "variable", name_data names.functions v) ∷ (codes "element", number_data x) ∷ [])

-- {"relation":"r","tuples":[[0,1],[1,1]]}; one without arguments is true of [], or of nothing
unfoldable pub table_data : Names → Tables → ℕ → List (List ℕ) → Data
table_data names s r xss = object_of
    ((codes "relation", name_data names.relations r)
    ∷ (codes "tuples", list_data (members_data s (relation_symbol r) xss)) ∷ [])

-- What is told of a step of a path, where these entries of the trace are left: of a havoc what its entry gives to its
-- symbol, if there is one of its kind.
abbrev pub havoc_data : Names → Tables → PrimitiveTree → List Havoc → List Data
havoc_data names s (havoc v) (Element x ∷ hs) = element_data names v x ∷ []
havoc_data names s (havoc_rel r) (Tuples xss ∷ hs) = table_data names s r xss ∷ []
havoc_data names s q hs = []

-- what is told of all of its steps
abbrev pub havocs_data : Names → Tables → List PrimitiveTree → List Havoc → List Data
havocs_data names s [] hs = []
havocs_data names s (q ∷ qs) hs = havoc_data names s q hs ++ havocs_data names s qs (havocs_after q hs)

-- those of the path that is taken from a structure
abbrev pub takes_along : Names → Tables → Option (List PrimitiveTree) → List Havoc → Data
takes_along names s None havocs = list_data []
takes_along names s (Some path) havocs = list_data (havocs_data names s path havocs)

-- the structure in which the path ends; null where it aborts
abbrev pub end_data : Names → Option Outcome → Data
end_data names None = null
end_data names (Some aborted) = null
end_data names (Some (ended s)) = structure_data names s

-- the structures in which it begins and ends
abbrev pub end_members : ModelTree → Counterexample → List (List ℕ × Data)
end_members m shown =
    (codes "before", structure_data m.names shown.structure)
    ∷ (codes "after", end_data m.names (outcome_of m shown)) ∷ []

-- the first of what is told of executions, or null
abbrev pub first_or_null : List Data → Data
first_or_null [] = null
first_or_null (d ∷ ds) = d

-- What else is told of it stands under "branches".
unfoldable pub execution_data : ModelTree → Counterexample → Data → Data
execution_data m shown branches =
    object_of ((codes "branches", branches) ∷ (codes "before", structure_data m.names shown.structure)
    ∷ (codes "after", end_data m.names (outcome_of m shown))
    ∷ (codes "takes", takes_along m.names shown.structure (goal_path m shown.goal) shown.trace.havoc)
    ∷ (codes "values", numbers_data shown.values) ∷ [])
