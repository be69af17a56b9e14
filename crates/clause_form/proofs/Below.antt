-- What the crates below say: atoms that are found equal are one, and what a list of literals makes.
use Rattle.std.proofs.Common.{◌≡◌, ℕ, Bool, true, List, []}
use Rattle.std.specs.Prelude.{◌↔◌, not}
use Rattle.cnf_base.specs.Literals.{opposite, is_true, IsLiteral, AreLiterals}
use Rattle.cnf_base.specs.Clauses.{IsEntry, entry_of, SatisfiesClause, SatisfiesEntry}
use Rattle.ground_terms.specs.declared.atom.Atom.{Atom}
use Rattle.ground_terms.specs.Same.{same_atom}

pub record AtomsAreSame : Type 0 where
  pub same : (a b : Atom) → same_atom a b ≡ true → a ≡ b
  pub reflexive : (a : Atom) → same_atom a a ≡ true

pub record EntriesAreTrue : Type 0 where
  pub opposite_true : (value : ℕ → Bool) (l : ℕ) → is_true value (opposite l) ≡ not (is_true value l)
  pub entry_true : (value : ℕ → Bool) (ls : List ℕ) → SatisfiesEntry value (entry_of [] ls) ↔ SatisfiesClause value ls

pub record EntriesAreIn : Type 0 where
  pub opposite_in : (n l : ℕ) → IsLiteral n l → IsLiteral n (opposite l)
  pub entry_in : (n : ℕ) (ls : List ℕ) → AreLiterals n ls → IsEntry n (entry_of [] ls)
