-- The elements that ground terms stand for in a structure, and the truth of ground atoms there.
use Rattle.std.specs.Prelude.{◌≡◌, ℕ, ◌<◌, Bool, ◌==◌, if◌then◌else◌, List, [], ◌∷◌, slice_index}
use Rattle.fol_sig.specs.declared.Sort.{Sort}
use Rattle.fol_sig.specs.declared.RelId.{RelId}
use Rattle.fol_sig.specs.Symbols.{Symbols, AreSorted, FitsStructure}
use Rattle.fol_sig.specs.Strata.{IsStrata}
use Rattle.fol_sig.specs.Tables.{Tables, Reading, InRange, reading}
use Rattle.ground_terms.specs.Terms.{PlainTerm, default_constant, application, Lists, term_at, term_counts, AreClosed}
use Rattle.ground_terms.specs.Numberings.{Numbering, numbering}
use Rattle.ground_terms.specs.declared.atom.Atom.{Atom}
use Rattle.ground_terms.specs.declared.atom.Atom.TheVariants.{Rel, Eq}

-- an element for the term at each place of each sort
abbrev pub Elements : Type 0
Elements = ℕ → ℕ → ℕ

-- the elements of terms of these sorts
abbrev pub elements_of : Elements → List ℕ → List ℕ → List ℕ
elements_of v [] xs = []
elements_of v (k ∷ ks) [] = []
elements_of v (k ∷ ks) (x ∷ xs) = v k x ∷ elements_of v ks xs

-- the value of a term, where those of its arguments are known; a default constant is element 0
abbrev pub value_of_term : Symbols → Reading → Elements → PlainTerm → ℕ
value_of_term sig s v default_constant = 0
value_of_term sig s v (application f xs) = s.fun f (elements_of v (sig.from_of f) xs)

-- the values of the terms of the sorts in this order
abbrev pub values_in_order : Symbols → Lists → Reading → List ℕ → Elements → Elements
values_in_order sig lists s [] v = v
values_in_order sig lists s (k ∷ order) v =
    values_in_order sig lists s order (λ q i. if q == k then value_of_term sig s v (term_at lists k i) else v q i)

-- the values of all terms, where the arguments of a sort's terms are of sorts before it in the order
abbrev pub term_values : Symbols → Lists → List ℕ → Reading → Elements
term_values sig lists order s = values_in_order sig lists s order (λ k i. 0)

-- each term of the lists has the value that its arguments' values give it
abbrev pub AreValues : Symbols → Lists → Tables → Elements → Type 0
AreValues sig lists s v = (k x : ℕ) → k < sig.sorts → x < slice_index (term_counts lists) k
    → v k x ≡ value_of_term sig (reading s) v (term_at lists k x)

-- the truth of each ground atom in a structure where the terms have these values
abbrev pub atoms_in : Symbols → Reading → Elements → Atom → Bool
atoms_in sig s v (Rel r xs) = s.rel r.0 (elements_of v (sig.sorts_of r.0) xs)
atoms_in sig s v (Eq k x y) = v k.0 x == v k.0 y

-- these elements are the values of the terms in the structure, and each atom is true there as assigned
pub record Realises (sig : Symbols) (names : Numbering) (a : Atom → Bool) (s : Tables) (v : Elements) : Type 0 where
  pub within : (k x : ℕ) → k < sig.sorts → x < slice_index names.counts k → v k x < slice_index s.sizes k
  pub applied : (f : ℕ) (xs : List ℕ) → f < sig.functions → InRange names.counts (sig.from_of f) xs
      → v (sig.into_of f) (names.place f xs) ≡ (reading s).fun f (elements_of v (sig.from_of f) xs)
  pub related : (r : RelId) (xs : List ℕ) → r.0 < sig.relations → InRange names.counts (sig.sorts_of r.0) xs
      → a (Rel r xs) ≡ (reading s).rel r.0 (elements_of v (sig.sorts_of r.0) xs)
  pub equal : (k : Sort) (x y : ℕ) → k.0 < sig.sorts → x < slice_index names.counts k.0
      → y < slice_index names.counts k.0 → a (Eq k x y) ≡ (v k.0 x == v k.0 y)

-- each element is the value of a term
abbrev pub IsOnto : Symbols → Numbering → Tables → Elements → Type 0
IsOnto sig names s v =
    (k c : ℕ) → k < sig.sorts → c < slice_index s.sizes k → (x : ℕ) × (x < slice_index names.counts k) × (v k x ≡ c)

-- in a structure that has the symbols each term has a value, and these values realise what is true there
pub record HasValues (sig : Symbols) (lists : Lists) (s : Tables) (v : Elements) : Type 0 where
  pub values : AreValues sig lists s v
  pub realises : Realises sig (numbering sig lists) (atoms_in sig (reading s) v) s v

-- where the sorts have an order, the terms of closed lists have values in each structure that fits
abbrev pub StructuresGiveValues : Type 0
StructuresGiveValues = (sig : Symbols) (order : List ℕ) (lists : Lists) (s : Tables)
    → AreSorted sig → IsStrata sig order → AreClosed sig lists → FitsStructure sig s
    → HasValues sig lists s (term_values sig lists order (reading s))
