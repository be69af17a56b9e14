-- What the line of a path's havocs gives, read from left to right; None where it is no such line.
use Rattle.std.specs.Prelude.{ℕ, if◌then◌else◌, List, [], ◌∷◌, ◌++◌, codes, Option, Some, None}
use Rattle.fol_sig.specs.Tables.{Tables, relation_at}
use Rattle.rml_command.specs.Trees.{PrimitiveTree, havoc, havoc_rel}
use Rattle.rml_command.specs.Outcomes.{range_of}
use Rattle.rml_command.specs.declared.havoc.Havoc.{Havoc}
use Rattle.rml_command.specs.declared.havoc.Havoc.TheVariants.{Element, Tuples}
use Rattle.rml_report.specs.TableText.{bare_text}
use Rattle.line_scan.specs.Scanning.{behind, is_end}
use Rattle.report_values.specs.ValueReading.{choose, on, element_at, all_tuples}

-- the tuples of a relation without arguments that is true or false, and what stands behind the word
abbrev pub truth_at : List ℕ → Option (List (List ℕ) × List ℕ)
truth_at bs =
    choose (behind (codes "true") bs) (λ a. Some ([] ∷ [], a))
    (on (behind (codes "false") bs) (λ a. Some ([], a)))

-- a tuple that stands in front, behind those that were read, and what is left
abbrev pub member_in : List ℕ → List (List ℕ) → List ℕ → List (List ℕ) × List ℕ
member_in xs done bs = choose (behind (bare_text xs) bs) (λ a. (done ++ xs ∷ [], a)) (done, bs)

-- those of these tuples that stand there in order, behind those that were read, and what stands behind the brace
abbrev pub members_at : List (List ℕ) → List (List ℕ) → List ℕ → Option (List (List ℕ) × List ℕ)
members_at [] done bs = on (behind (codes "}") bs) (λ a. Some (done, a))
members_at (xs ∷ tuples) done bs =
    choose (behind (bare_text xs) bs) (members_at tuples (done ++ xs ∷ [])) (members_at tuples done bs)

-- the table of a relation over these sorts
abbrev pub set_at : List ℕ → List ℕ → List ℕ → Option (List (List ℕ) × List ℕ)
set_at sizes [] bs = truth_at bs
set_at sizes (k ∷ ks) bs = on (behind (codes "{") bs) (members_at (all_tuples sizes (k ∷ ks)) [])

-- a blank and the table of the relation r, and what stands behind it
abbrev pub table_at : Tables → ℕ → List ℕ → Option (List (List ℕ) × List ℕ)
table_at s r bs = on (behind (codes " ") bs) (set_at s.sizes (relation_at s r).sorts)

-- the entry that a step of the path asks for, behind those that were read
abbrev pub entry_at : Tables → PrimitiveTree → List Havoc → List ℕ → Option (List Havoc × List ℕ)
entry_at s (havoc v) done bs = on (element_at (range_of s v) bs) (λ n. Some (done ++ Element n.0 ∷ [], n.1))
entry_at s (havoc_rel r) done bs = on (table_at s r bs) (λ n. Some (done ++ Tuples n.0 ∷ [], n.1))
entry_at s q done bs = Some (done, bs)

-- those of all steps, and the end
abbrev pub entries_end : Tables → List PrimitiveTree → List Havoc → List ℕ → Option (List Havoc)
entries_end s [] done bs = if is_end bs then Some done else None
entries_end s (q ∷ qs) done bs = on (entry_at s q done bs) (λ n. entries_end s qs n.0 n.1)

-- the entries that the line `havoc:` gives for a path
abbrev pub entries_in : Tables → List PrimitiveTree → List ℕ → Option (List Havoc)
entries_in s path line = on (behind (codes "  havoc:") line) (entries_end s path [])

-- the same, where the path has to be there
abbrev pub entries_along : Tables → Option (List PrimitiveTree) → List ℕ → Option (List Havoc)
entries_along s path line = on path (λ p. entries_in s p line)
