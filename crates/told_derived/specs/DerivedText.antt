-- What is told of derived relations: the tuples of which they are true, and those of which they come to be true or
-- false.
use Rattle.std.specs.Prelude.{ℕ, Bool, true, false, if◌then◌else◌, List, [], ◌++◌, length, codes}
use Rattle.std.specs.List.{flat_map}
use Rattle.fol_sig.specs.Tables.{Tables}
use Rattle.fol_sig.specs.Tuples.{join_below, tuples}
use Rattle.rml_command.specs.Models.{ModelTree}
use Rattle.told_states.specs.Labels.{Labels, labels_of}
use Rattle.told_states.specs.ElementText.{arguments_text, line_text}
use Rattle.told_derived.specs.Definitions.{Derived, Definitions, definition_at, is_true_of}

-- reaches(node0, node1)
abbrev pub atom_text : Labels → Derived → List ℕ → List ℕ
atom_text l r xs = r.name ++ arguments_text l r.sorts xs

-- a comma, and reaches(node0, node1)
unfoldable pub true_text : Labels → Derived → List ℕ → List ℕ
true_text l r xs = codes ", " ++ atom_text l r xs

-- a tuple of which it is true
abbrev pub fact_text : Labels → Tables → Derived → List ℕ → List ℕ
fact_text l s r xs = if is_true_of s r xs then true_text l r xs else []

-- in a line, which is missing where it is true of none
abbrev pub facts_line : Labels → Tables → Derived → List ℕ
facts_line l s r = line_text (codes "    ") (flat_map (fact_text l s r) (tuples s.sizes r.sorts))

-- of each a line
abbrev pub facts_text : Definitions → ModelTree → Tables → List ℕ
facts_text d m s = join_below (length d.sorts) (λ k. facts_line (labels_of m s) s (definition_at d k))

-- + reaches(node0, node1), or - where it is true no more
unfoldable pub signed_text : Labels → List ℕ → Derived → List ℕ → List ℕ
signed_text l sign r xs = sign ++ atom_text l r xs ++ codes "\n"

-- by whether it was true of a tuple, and whether it is
abbrev pub flip_text : Labels → Derived → List ℕ → Bool → Bool → List ℕ
flip_text l r xs false false = []
flip_text l r xs false true = signed_text l (codes "    + ") r xs
flip_text l r xs true false = signed_text l (codes "    - ") r xs
flip_text l r xs true true = []

-- how a derived relation differs at a tuple from the first structure to the second; empty where it does not
abbrev pub change_text : Labels → Tables → Tables → Derived → List ℕ → List ℕ
change_text l s t r xs = flip_text l r xs (is_true_of s r xs) (is_true_of t r xs)

-- a line for each tuple at which it differs, in lexicographic order
abbrev pub change_lines : Labels → Tables → Tables → Derived → List ℕ
change_lines l s t r = flat_map (change_text l s t r) (tuples s.sizes r.sorts)

-- what differs between two structures of the same sizes; the elements have their names of the first
abbrev pub changes_text : Definitions → ModelTree → Tables → Tables → List ℕ
changes_text d m s t = join_below (length d.sorts) (λ k. change_lines (labels_of m s) s t (definition_at d k))
