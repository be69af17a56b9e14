-- The line of what the havocs of a path gave.
use Rattle.std.specs.Prelude.{ℕ, List, [], ◌∷◌, ◌++◌, Option, Some, None, codes}
use Rattle.std.specs.Fmt.{decimal}
use Rattle.fol_sig.specs.Tables.{Tables, relation_at}
use Rattle.rml_command.specs.Trees.{PrimitiveTree, havoc, havoc_rel}
use Rattle.rml_command.specs.declared.havoc.Havoc.{Havoc}
use Rattle.rml_command.specs.declared.havoc.Havoc.TheVariants.{Element, Tuples}
use Rattle.rml_exec.specs.Steps.{havocs_after}
use Rattle.rml_report.specs.TableText.{set_text}

-- a blank and the element of a variable
unfoldable pub element_text : ℕ → List ℕ
element_text x = codes " " ++ decimal x

-- a blank and the table of the relation r that is true of these tuples
unfoldable pub relation_text : Tables → ℕ → List (List ℕ) → List ℕ
relation_text s r xss = codes " " ++ set_text s.sizes (relation_at s r).sorts xss

-- What stands for a step of a path, where these entries of the trace are left: for a havoc its entry, if there is one
-- of its kind.
abbrev pub havoc_text : Tables → PrimitiveTree → List Havoc → List ℕ
havoc_text s (havoc v) (Element x ∷ hs) = element_text x
havoc_text s (havoc_rel r) (Tuples xss ∷ hs) = relation_text s r xss
havoc_text s q hs = []

-- what stands for all of its steps
abbrev pub havocs_text : Tables → List PrimitiveTree → List Havoc → List ℕ
havocs_text s [] hs = []
havocs_text s (q ∷ qs) hs = havoc_text s q hs ++ havocs_text s qs (havocs_after q hs)

-- what stands for all steps of a path, if there is one
abbrev pub taken_text : Tables → Option (List PrimitiveTree) → List Havoc → List ℕ
taken_text s None hs = []
taken_text s (Some path) hs = havocs_text s path hs

-- The elements and tables of a path's havocs, in order. The structure has the sizes of the sorts.
unfoldable pub havoc_line : Tables → Option (List PrimitiveTree) → List Havoc → List ℕ
havoc_line s path hs = codes "  havoc:" ++ taken_text s path hs ++ codes "\n"
