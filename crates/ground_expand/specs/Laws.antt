-- The instance of a sentence is true of the atoms as the sentence is in a structure.
use Rattle.std.specs.Prelude.{◌≡◌, ℕ, Bool, true, List, []}
use Rattle.fol_sig.specs.Tables.{Tables, reading}
use Rattle.fol_sig.specs.Symbols.{Symbols, AreSorted, FitsStructure}
use Rattle.fol_sig.specs.Strata.{IsStrata}
use Rattle.fol_formula.specs.Syntax.{FormTree}
use Rattle.fol_formula.specs.Truth.{truth}
use Rattle.fol_formula.specs.Fits.{FitsForm}
use Rattle.fol_formula.specs.Fragments.{IsUniversal, IsNormalForm}
use Rattle.ground_terms.specs.Terms.{Lists, AreClosed}
use Rattle.ground_terms.specs.Numberings.{numbering}
use Rattle.ground_terms.specs.Trees.{truth as ground_truth}
use Rattle.ground_terms.specs.Values.{Elements, Realises, IsOnto, term_values, atoms_in}
use Rattle.ground_terms.specs.declared.atom.Atom.{Atom}
use Rattle.ground_expand.specs.Instance.{instance_of}

-- a universal sentence in normal form that fits the symbols, and closed lists of their terms
pub record HasInstance (sig : Symbols) (lists : Lists) (p : FormTree) : Type 0 where
  pub sorted : AreSorted sig
  pub closed : AreClosed sig lists
  pub fits : FitsForm sig [] p
  pub universal : IsUniversal true p
  pub normal : IsNormalForm p

-- where the atoms are true as in a structure in which the sentence is true, the instance is true
abbrev pub InstanceIsTrue : Type 0
InstanceIsTrue = (sig : Symbols) (lists : Lists) (p : FormTree) (a : Atom → Bool) (s : Tables) (v : Elements)
    → HasInstance sig lists p → Realises sig (numbering sig lists) a s v
    → truth (reading s) p [] ≡ true → ground_truth a (instance_of sig lists p) ≡ true

-- where the instance is true and each element is the value of a term, the sentence is true
abbrev pub SentenceIsTrue : Type 0
SentenceIsTrue = (sig : Symbols) (lists : Lists) (p : FormTree) (a : Atom → Bool) (s : Tables) (v : Elements)
    → HasInstance sig lists p → Realises sig (numbering sig lists) a s v → IsOnto sig (numbering sig lists) s v
    → ground_truth a (instance_of sig lists p) ≡ true → truth (reading s) p [] ≡ true

-- what is true of the atoms in a structure in which the sentence is true makes the instance true
abbrev pub StructuresSatisfyInstance : Type 0
StructuresSatisfyInstance = (sig : Symbols) (order : List ℕ) (lists : Lists) (p : FormTree) (s : Tables)
    → HasInstance sig lists p → IsStrata sig order → FitsStructure sig s
    → truth (reading s) p [] ≡ true
    → ground_truth (atoms_in sig (reading s) (term_values sig lists order (reading s))) (instance_of sig lists p) ≡ true
