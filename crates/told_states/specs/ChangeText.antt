-- What differs between the structure in which an execution begins and the one in which it ends.
use Rattle.std.specs.Prelude.{ℕ, ◌==◌, Bool, true, false, if◌then◌else◌, List, [], ◌∷◌, ◌++◌, codes}
use Rattle.fol_sig.specs.Tables.{Tables, function_at, rel_at, fun_at}
use Rattle.rml_command.specs.Models.{ModelTree}
use Rattle.told_states.specs.Labels.{Labels, labels_of}
use Rattle.told_states.specs.ElementText.{atom_text, label_text}
use Rattle.told_states.specs.SymbolText.{all_cells}
use Rattle.fol_sig.specs.declared.symbol.Symbol.{Symbol}
use Rattle.fol_sig.specs.declared.symbol.Symbol.TheVariants as symbol

-- + linked(client0, server0), or - where it is true no more
unfoldable pub signed_text : Labels → Tables → List ℕ → Symbol → List ℕ → List ℕ
signed_text l s sign q xs = sign ++ atom_text l s q xs ++ codes "\n"

-- what a tuple of a relation was, and what it is
abbrev pub flip_text : Labels → Tables → Symbol → List ℕ → Bool → Bool → List ℕ
flip_text l s q xs false false = []
flip_text l s q xs false true = signed_text l s (codes "    + ") q xs
flip_text l s q xs true false = signed_text l s (codes "    - ") q xs
flip_text l s q xs true true = []

-- next(node0): node1 -> node0
unfoldable pub moved_text : Labels → Tables → Symbol → List ℕ → ℕ → ℕ → ℕ → List ℕ
moved_text l s q xs k old new =
    codes "    " ++ atom_text l s q xs ++ codes ": " ++ label_text l k old ++ codes " -> "
    ++ label_text l k new ++ codes "\n"

-- the value that a function had at a tuple, and the value that it has
abbrev pub move_text : Labels → Tables → Symbol → List ℕ → ℕ → ℕ → ℕ → List ℕ
move_text l s q xs k old new = if old == new then [] else moved_text l s q xs k old new

-- how a symbol differs at a tuple from the first structure to the second; empty where it does not
abbrev pub change_text : Labels → Tables → Tables → Symbol → List ℕ → List ℕ
change_text l s t (symbol.Relation r) xs =
    flip_text l s (symbol.Relation r) xs (rel_at s r.0 xs) (rel_at t r.0 xs)
change_text l s t (symbol.Function f) xs =
    move_text l s (symbol.Function f) xs (function_at s f.0).into (fun_at s f.0 xs) (fun_at t f.0 xs)

-- of the relations, and then of the functions and variables
abbrev pub change_lines : Labels → Tables → Tables → List ℕ
change_lines l s t = all_cells s (change_text l s t)

-- the lines below a head, or that there are none
abbrev pub below_changes : List ℕ → List ℕ
below_changes [] = codes "  changes nothing\n"
below_changes (b ∷ bs) = codes "  changes\n" ++ (b ∷ bs)

-- how the second structure differs from the first; elements have the names that they have in the first
abbrev pub changes_text : ModelTree → Tables → Tables → List ℕ
changes_text m s t = below_changes (change_lines (labels_of m s) s t)
