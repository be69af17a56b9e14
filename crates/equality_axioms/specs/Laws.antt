-- The axioms of equality are true where equations are true of the terms that stand for one element, and where they are
-- true, equations are an equality.
use Rattle.std.specs.Prelude.{◌≡◌, ℕ, ◌<◌, Bool, true, List, length, slice_index, slice_set}
use Rattle.fol_sig.specs.declared.Sort.{Sort}
use Rattle.fol_sig.specs.declared.RelId.{RelId}
use Rattle.fol_sig.specs.Tables.{Tables, InRange, reading}
use Rattle.fol_sig.specs.Symbols.{Symbols, AreSorted, FitsStructure}
use Rattle.fol_sig.specs.Strata.{IsStrata}
use Rattle.ground_terms.specs.Terms.{Lists, AreClosed}
use Rattle.ground_terms.specs.Numberings.{Numbering, numbering}
use Rattle.ground_terms.specs.Trees.{Tree, all_true, trees_of}
use Rattle.ground_terms.specs.Literals.{AreFlat, AreOver, all_positives}
use Rattle.ground_terms.specs.Values.{Elements, Realises, term_values, atoms_in}
use Rattle.ground_terms.specs.declared.atom.Atom.{Atom}
use Rattle.ground_terms.specs.declared.atom.Atom.TheVariants.{Rel, Eq}
use Rattle.equality_axioms.specs.Axioms.{equation, equality_axioms}

-- where the atoms are true as in a structure, each axiom is true
abbrev pub AxiomsAreTrue : Type 0
AxiomsAreTrue = (sig : Symbols) (lists : Lists) (a : Atom → Bool) (s : Tables) (v : Elements)
    → AreSorted sig → AreClosed sig lists → Realises sig (numbering sig lists) a s v
    → all_true a (trees_of (equality_axioms sig lists)) ≡ true

-- what is true of the atoms in a structure makes each axiom true
abbrev pub StructuresSatisfyAxioms : Type 0
StructuresSatisfyAxioms = (sig : Symbols) (order : List ℕ) (lists : Lists) (s : Tables)
    → AreSorted sig → IsStrata sig order → AreClosed sig lists → FitsStructure sig s
    → all_true (atoms_in sig (reading s) (term_values sig lists order (reading s)))
    (trees_of (equality_axioms sig lists)) ≡ true

-- the true equations are an equivalence of the terms of each sort, and no argument place of a relation or a function
-- tells equal terms apart
pub record IsEquality (sig : Symbols) (names : Numbering) (a : Atom → Bool) : Type 0 where
  pub reflexive : (k : Sort) (x : ℕ) → k.0 < sig.sorts → x < slice_index names.counts k.0 → a (Eq k x x) ≡ true
  pub symmetric : (k : Sort) (x y : ℕ) → k.0 < sig.sorts → x < slice_index names.counts k.0
      → y < slice_index names.counts k.0
      → a (Eq k x y) ≡ true → a (Eq k y x) ≡ true
  pub transitive : (k : Sort) (x y z : ℕ) → k.0 < sig.sorts → x < slice_index names.counts k.0
      → y < slice_index names.counts k.0 → z < slice_index names.counts k.0
      → a (Eq k x y) ≡ true → a (Eq k y z) ≡ true → a (Eq k x z) ≡ true
  pub relations : (r : RelId) (i : ℕ) (xs : List ℕ) (y : ℕ) → r.0 < sig.relations → i < length (sig.sorts_of r.0)
      → InRange names.counts (sig.sorts_of r.0) xs → y < slice_index names.counts (slice_index (sig.sorts_of r.0) i)
      → a (equation (slice_index (sig.sorts_of r.0) i) (slice_index xs i) y) ≡ true → a (Rel r xs) ≡ true
      → a (Rel r (slice_set xs i y)) ≡ true
  pub functions : (f i : ℕ) (xs : List ℕ) (y : ℕ) → f < sig.functions → i < length (sig.from_of f)
      → InRange names.counts (sig.from_of f) xs → y < slice_index names.counts (slice_index (sig.from_of f) i)
      → a (equation (slice_index (sig.from_of f) i) (slice_index xs i) y) ≡ true
      → a (equation (sig.into_of f) (names.place f xs) (names.place f (slice_set xs i y))) ≡ true

-- an assignment that makes each axiom true makes equations an equality
abbrev pub AxiomsGiveEquality : Type 0
AxiomsGiveEquality = (sig : Symbols) (lists : Lists) (a : Atom → Bool)
    → all_true a (trees_of (equality_axioms sig lists)) ≡ true → IsEquality sig (numbering sig lists) a

-- each formula is a clause with one positive literal, and each atom stands positive in one of them
pub record AreImplications (axioms : List Tree) : Type 0 where
  pub flat : AreFlat axioms
  pub single : length (all_positives (trees_of axioms)) ≡ length axioms
  pub over : AreOver (all_positives (trees_of axioms)) (trees_of axioms)

-- each axiom over closed lists is a clause with one positive literal, and no atom stands in negative literals alone
abbrev pub AxiomsAreImplications : Type 0
AxiomsAreImplications = (sig : Symbols) (lists : Lists) → AreSorted sig → AreClosed sig lists
    → AreImplications (equality_axioms sig lists)
