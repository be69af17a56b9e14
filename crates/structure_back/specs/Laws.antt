-- A structure can be read back from each assignment that satisfies the axioms of equality.
use Rattle.std.specs.Prelude.{◌≡◌, Bool, true}
use Rattle.fol_sig.specs.Symbols.{Symbols, AreSorted}
use Rattle.fol_sig.specs.Tables.{Tables}
use Rattle.ground_terms.specs.Terms.{Lists, AreClosed}
use Rattle.ground_terms.specs.Trees.{all_true, trees_of}
use Rattle.ground_terms.specs.declared.atom.Atom.{Atom}
use Rattle.equality_axioms.specs.Axioms.{equality_axioms}
use Rattle.structure_back.specs.ReadBack.{IsReadBack}

-- over closed lists of terms there is one
abbrev pub AssignmentsAreReadable : Type 0
AssignmentsAreReadable = (sig : Symbols) (lists : Lists) (a : Atom → Bool) → AreSorted sig → AreClosed sig lists
    → all_true a (trees_of (equality_axioms sig lists)) ≡ true → (s : Tables) × IsReadBack sig lists a s
