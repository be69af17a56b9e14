-- What a line gives of values, read from left to right; None where it gives no such.
use Rattle.std.specs.Prelude.{ℕ, Bool, true, false, nat_lt, if◌then◌else◌, List, [], ◌∷◌, ◌++◌, codes}
use Rattle.std.specs.Prelude.{Option, Some, None, map, slice_index}
use Rattle.std.specs.Str.{bytes_eq}
use Rattle.base.specs.Lists.{count_from}
use Rattle.fol_sig.specs.Tables.{tuple_count}
use Rattle.fol_sig.specs.Tuples.{tuple_at}
use Rattle.rml_report.specs.TableText.{tuple_text}
use Rattle.line_scan.specs.Scanning.{behind, number_at, is_end}

-- what is made of what was found, or something else
abbrev pub choose : {A B : Type 0} → Option A → (A → B) → B → B
choose None f other = other
choose (Some x) f other = f x

-- what is made of what was found, or None
abbrev pub on : {A B : Type 0} → Option A → (A → Option B) → Option B
on found f = choose found f None

-- a name between two words
abbrev pub behind_labelled : List ℕ → List ℕ → List ℕ → List ℕ → Option (List ℕ)
behind_labelled before name after bs = on (behind before bs) (λ a. on (behind name a) (behind after))

-- an element below the size, and what stands behind it
abbrev pub value_at : ℕ → List ℕ → Option (ℕ × List ℕ)
value_at size bs = on (number_at bs) (λ n. if nat_lt n.0 size then Some n else None)

-- a blank and an element below the size, and what stands behind it
abbrev pub element_at : ℕ → List ℕ → Option (ℕ × List ℕ)
element_at size bs = on (behind (codes " ") bs) (value_at size)

-- the elements of these sorts, behind those that were read, and the end
abbrev pub elements_end : List ℕ → List ℕ → List ℕ → List ℕ → Option (List ℕ)
elements_end sizes [] done bs = if is_end bs then Some done else None
elements_end sizes (k ∷ ks) done bs =
    on (element_at (slice_index sizes k) bs) (λ n. elements_end sizes ks (done ++ n.0 ∷ []) n.1)

-- the elements of these sorts in a line that begins with the word
abbrev pub elements_in : List ℕ → List ℕ → List ℕ → List ℕ → Option (List ℕ)
elements_in sizes ks word line = on (behind word line) (elements_end sizes ks [])

-- the tuples of elements of these sorts from the one with the number k on, n of them
abbrev pub tuples_from : List ℕ → List ℕ → ℕ → ℕ → List (List ℕ)
tuples_from sizes ks k n = map (tuple_at sizes ks) (count_from k n)

-- all tuples of elements of these sorts, in lexicographic order
abbrev pub all_tuples : List ℕ → List ℕ → List (List ℕ)
all_tuples sizes ks = tuples_from sizes ks 0 (tuple_count sizes ks)

-- whether a tuple stands in front, and what is left behind it
abbrev pub tuple_in : List ℕ → List ℕ → Bool × List ℕ
tuple_in xs bs = choose (behind (tuple_text xs) bs) (λ a. (true, a)) (false, bs)

-- whether each tuple stands there, behind what was read, and the end
abbrev pub truths_end : List (List ℕ) → List Bool → List ℕ → Option (List Bool)
truths_end [] done bs = if is_end bs then Some done else None
truths_end (xs ∷ tuples) done bs =
    choose (behind (tuple_text xs) bs) (truths_end tuples (done ++ true ∷ []))
    (truths_end tuples (done ++ false ∷ []) bs)

-- this tuple and behind it a value of the function below the size, and what is left
abbrev pub mapped_at : ℕ → List ℕ → List ℕ → Option (ℕ × List ℕ)
mapped_at size xs bs = on (behind (tuple_text xs) bs) (λ a. on (behind (codes "->") a) (value_at size))

-- the value behind each tuple, behind what was read, and the end
abbrev pub values_end : ℕ → List (List ℕ) → List ℕ → List ℕ → Option (List ℕ)
values_end size [] done bs = if is_end bs then Some done else None
values_end size (xs ∷ tuples) done bs = on (mapped_at size xs bs) (λ n. values_end size tuples (done ++ n.0 ∷ []) n.1)

-- the one cell of a relation without arguments, and the end
abbrev pub truth_end : List ℕ → Option (List Bool)
truth_end bs =
    if bytes_eq bs (codes " true\n") then Some (true ∷ [])
    else (if bytes_eq bs (codes " false\n") then Some (false ∷ []) else None)

-- the cells of a relation over these sorts
abbrev pub relation_end : List ℕ → List ℕ → List ℕ → Option (List Bool)
relation_end sizes [] bs = truth_end bs
relation_end sizes (k ∷ ks) bs = truths_end (all_tuples sizes (k ∷ ks)) [] bs

-- the cells in the line of the relation of this name, over these sorts
abbrev pub truths_in : List ℕ → List ℕ → List ℕ → List ℕ → Option (List Bool)
truths_in sizes ks name line =
    on (behind_labelled (codes "    relation ") name (codes ":") line) (relation_end sizes ks)

-- the value of a variable, and the end
abbrev pub variable_end : ℕ → List ℕ → Option (List ℕ)
variable_end size bs = on (element_at size bs) (λ n. if is_end n.1 then Some (n.0 ∷ []) else None)

-- the cells of a function over these sorts into one of this size
abbrev pub values_in : List ℕ → List ℕ → ℕ → List ℕ → List ℕ → Option (List ℕ)
values_in sizes [] size name line =
    on (behind_labelled (codes "    variable ") name (codes ":") line) (variable_end size)
values_in sizes (k ∷ ks) size name line =
    on (behind_labelled (codes "    function ") name (codes ":") line) (values_end size (all_tuples sizes (k ∷ ks)) [])
