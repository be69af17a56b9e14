-- What is wrong with the text of a model, as data.
use Rattle.std.specs.Prelude.{ℕ, List, [], ◌∷◌, ◌++◌, codes}
use Rattle.std.specs.Fmt.{decimal}
use Rattle.serde_json.specs.Data.{Data, Members, string, no_members}
use Rattle.rml_lex.specs.Place.{line_of, column_of}
use Rattle.rml_lex.specs.FaultCodes.{number_of, text_of}
use Rattle.rml_lex.specs.declared.fault_code.FaultCode.{FaultCode}
use Rattle.rml_lex.specs.declared.token.Fault.{Fault}
use Rattle.json_values.specs.Values.{text_data, number_data, object_of, set_each}

-- "F9"
abbrev pub code_data : FaultCode → Data
code_data code = text_data (codes "F" ++ decimal (number_of code))

-- the fault of this text: its code, what it is, and where it stands
unfoldable pub fault_data : List ℕ → Fault → Data
fault_data text fault =
    object_of ((codes "code", code_data fault.code) ∷ (codes "text", string (text_of fault.code))
    ∷ (codes "line", number_data (line_of text fault.at)) ∷ (codes "column", number_data (column_of text fault.at))
    ∷ [])

-- what a command answers to such a text
unfoldable pub faulty_members : List ℕ → List ℕ → Fault → Members
faulty_members command text fault =
    set_each no_members ((codes "command", string command) ∷ (codes "fault", fault_data text fault) ∷ [])
