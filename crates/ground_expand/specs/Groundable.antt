-- Universal formulas in normal form that fit, along the tree: what the walk over a formula asks of each part.
use Rattle.std.specs.Prelude.{ℕ, ◌<◌, ◌≤◌, List, ◌∷◌, length}
use Rattle.fol_sig.specs.Symbols.{Symbols}
use Rattle.fol_formula.specs.Syntax.{FormTree, FormTrees, TermTree, TermTrees, top, bottom, rel, equal, negation}
use Rattle.fol_formula.specs.Syntax.{conjunction, disjunction, implication, equivalence, for_all, for_some, no_forms}
use Rattle.fol_formula.specs.Syntax.{form_then, bound, app, ite, no_terms, term_then, size_of}
use Rattle.fol_formula.specs.Fits.{FitsTerms}

-- a term that fits and has no `ite`; the sorts are those of the bound variables, the nearest first
abbrev mutual
  pub IsGroundableTerm : Symbols → List ℕ → TermTree → Type 0
  IsGroundableTerm sig sorts (bound i) = i < length sorts
  IsGroundableTerm sig sorts (app f args) =
      (f < sig.functions) × (size_of args ≤ 8) × FitsTerms sig sorts args (sig.from_of f)
      × AreGroundableTerms sig sorts args
  IsGroundableTerm sig sorts (ite p a b) = ⊥

  pub AreGroundableTerms : Symbols → List ℕ → TermTrees → Type 0
  AreGroundableTerms sig sorts no_terms = Unit {0}
  AreGroundableTerms sig sorts (term_then t ts) = IsGroundableTerm sig sorts t × AreGroundableTerms sig sorts ts

-- a relation or an equation of such terms
abbrev pub IsGroundableAtom : Symbols → List ℕ → FormTree → Type 0
IsGroundableAtom sig sorts (rel r args) = (size_of args ≤ 8) × AreGroundableTerms sig sorts args
IsGroundableAtom sig sorts (equal a b) = IsGroundableTerm sig sorts a × IsGroundableTerm sig sorts b
IsGroundableAtom sig sorts _ = ⊥

-- a formula of such atoms without existentials, whose negations stand at atoms
abbrev mutual
  pub IsGroundable : Symbols → List ℕ → FormTree → Type 0
  IsGroundable sig sorts top = Unit {0}
  IsGroundable sig sorts bottom = Unit {0}
  IsGroundable sig sorts (rel r args) = IsGroundableAtom sig sorts (rel r args)
  IsGroundable sig sorts (equal a b) = IsGroundableAtom sig sorts (equal a b)
  IsGroundable sig sorts (negation p) = IsGroundableAtom sig sorts p
  IsGroundable sig sorts (conjunction ps) = AreGroundable sig sorts ps
  IsGroundable sig sorts (disjunction ps) = AreGroundable sig sorts ps
  IsGroundable sig sorts (implication p q) = ⊥
  IsGroundable sig sorts (equivalence p q) = ⊥
  IsGroundable sig sorts (for_all k p) = (k < sig.sorts) × IsGroundable sig (k ∷ sorts) p
  IsGroundable sig sorts (for_some k p) = ⊥

  pub AreGroundable : Symbols → List ℕ → FormTrees → Type 0
  AreGroundable sig sorts no_forms = Unit {0}
  AreGroundable sig sorts (form_then p ps) = IsGroundable sig sorts p × AreGroundable sig sorts ps
