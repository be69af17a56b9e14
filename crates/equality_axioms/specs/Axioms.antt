-- The axioms of equality over the ground terms: that it is an equivalence of the terms of each sort, and that no
-- relation and no function tells equal terms apart.
use Rattle.std.specs.Prelude.{ℕ, true, false, List, [], ◌∷◌, ◌++◌, length, map, slice_index, slice_set}
use Rattle.fol_sig.specs.Symbols.{Symbols}
use Rattle.fol_sig.specs.Tuples.{join_below}
use Rattle.ground_terms.specs.Terms.{Lists}
use Rattle.ground_terms.specs.Numberings.{Numbering, numbering}
use Rattle.ground_terms.specs.Trees.{Tree, literal, node, trees_of}
use Rattle.ground_terms.specs.declared.atom.Atom.{Atom}
use Rattle.ground_terms.specs.declared.atom.Atom.TheVariants.{Rel, Eq}
use Rattle.ground_terms.specs.declared.ground.Junction.TheVariants.{Or}
use Rattle.equality_axioms.specs.declared.scheme.Scheme.{Scheme}
use Rattle.equality_axioms.specs.declared.scheme.Scheme.TheVariants.{Reflexive, Symmetric, Transitive, Relation}
use Rattle.equality_axioms.specs.declared.scheme.Scheme.TheVariants.{Function}

-- the lists of the tuples of elements of these sorts, in lexicographic order, one after another
abbrev pub join_tuples : {A : Type 0} → List ℕ → List ℕ → (List ℕ → List A) → List A
join_tuples sizes [] f = f []
join_tuples sizes (k ∷ ks) f = join_below (slice_index sizes k) (λ x. join_tuples sizes ks (λ xs. f (x ∷ xs)))

-- the premises imply the conclusion
abbrev pub clause : List Atom → Atom → Tree
clause premises conclusion = node Or (trees_of (map (λ a. literal a false) premises ++ literal conclusion true ∷ []))

-- the terms x and y of sort k are equal
abbrev pub equation : ℕ → ℕ → ℕ → Atom
equation k x y = Eq (record { 0 = k }) x y

-- the sorts of the terms that a scheme ranges over; congruence has one more term, that of the changed argument
abbrev pub scheme_sorts : Symbols → Scheme → List ℕ
scheme_sorts sig (Reflexive k) = k.0 ∷ []
scheme_sorts sig (Symmetric k) = k.0 ∷ k.0 ∷ []
scheme_sorts sig (Transitive k) = k.0 ∷ k.0 ∷ k.0 ∷ []
scheme_sorts sig (Relation r i) = sig.sorts_of r.0
scheme_sorts sig (Function f i) = sig.from_of f.0

-- a relation holds of some terms with argument i exchanged for the equal term y, if it holds of them
abbrev pub relation_at : Symbols → ℕ → ℕ → List ℕ → ℕ → Tree
relation_at sig r i xs y =
    clause (equation (slice_index (sig.sorts_of r) i) (slice_index xs i) y ∷ Rel (record { 0 = r }) xs ∷ [])
    (Rel (record { 0 = r }) (slice_set xs i y))

-- a function has equal values at some terms and at these with argument i exchanged for the equal term y
abbrev pub function_at : Symbols → Numbering → ℕ → ℕ → List ℕ → ℕ → Tree
function_at sig names f i xs y =
    clause (equation (slice_index (sig.from_of f) i) (slice_index xs i) y ∷ [])
    (equation (sig.into_of f) (names.place f xs) (names.place f (slice_set xs i y)))

-- the axioms of a scheme at some terms
abbrev pub axioms_at : Symbols → Numbering → Scheme → List ℕ → List Tree
axioms_at sig names (Reflexive k) xs = literal (Eq k (slice_index xs 0) (slice_index xs 0)) true ∷ []
axioms_at sig names (Symmetric k) xs =
    clause (Eq k (slice_index xs 0) (slice_index xs 1) ∷ []) (Eq k (slice_index xs 1) (slice_index xs 0)) ∷ []
axioms_at sig names (Transitive k) xs =
    clause (Eq k (slice_index xs 0) (slice_index xs 1) ∷ Eq k (slice_index xs 1) (slice_index xs 2) ∷ [])
    (Eq k (slice_index xs 0) (slice_index xs 2)) ∷ []
axioms_at sig names (Relation r i) xs =
    join_below (slice_index names.counts (slice_index (sig.sorts_of r.0) i)) (λ y. relation_at sig r.0 i xs y ∷ [])
axioms_at sig names (Function f i) xs =
    join_below (slice_index names.counts (slice_index (sig.from_of f.0) i)) (λ y. function_at sig names f.0 i xs y ∷ [])

-- the axioms of a scheme at all terms
abbrev pub scheme_axioms : Symbols → Numbering → Scheme → List Tree
scheme_axioms sig names s = join_tuples names.counts (scheme_sorts sig s) (axioms_at sig names s)

-- equality is an equivalence of the terms of a sort
abbrev pub sort_axioms : Symbols → Numbering → ℕ → List Tree
sort_axioms sig names k =
    scheme_axioms sig names (Reflexive (record { 0 = k }))
    ++ (scheme_axioms sig names (Symmetric (record { 0 = k }))
    ++ scheme_axioms sig names (Transitive (record { 0 = k })))

-- no argument place of a relation tells equal terms apart
abbrev pub relation_axioms : Symbols → Numbering → ℕ → List Tree
relation_axioms sig names r =
    join_below (length (sig.sorts_of r)) (λ i. scheme_axioms sig names (Relation (record { 0 = r }) i))

-- no argument place of a function tells equal terms apart
abbrev pub function_axioms : Symbols → Numbering → ℕ → List Tree
function_axioms sig names f =
    join_below (length (sig.from_of f)) (λ i. scheme_axioms sig names (Function (record { 0 = f }) i))

-- all axioms of equality over the terms
abbrev pub axioms_of : Symbols → Numbering → List Tree
axioms_of sig names =
    join_below sig.sorts (sort_axioms sig names)
    ++ (join_below sig.relations (relation_axioms sig names)
    ++ join_below sig.functions (function_axioms sig names))

-- the axioms over closed lists of terms
abbrev pub equality_axioms : Symbols → Lists → List Tree
equality_axioms sig lists = axioms_of sig (numbering sig lists)
