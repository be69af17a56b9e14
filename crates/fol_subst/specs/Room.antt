-- What the building of a formula needs: the depth and the indices of the result stay within their types, and wherever
-- the symbol stands it has as many arguments as what replaces it has parameters.
use Rattle.std.specs.Prelude.{◌≡◌, ℕ, suc, ◌<◌, ◌≤◌, ◌^◌}
use Rattle.fol_sig.specs.Arguments.{max_arguments}
use Rattle.fol_formula.specs.Fits.{BoundForm, BoundTerm}
use Rattle.fol_formula.specs.Syntax.{FormTree, FormTrees, TermTree, TermTrees, top, bottom, rel, equal, negation}
use Rattle.fol_formula.specs.Syntax.{conjunction, disjunction, implication, equivalence, for_all, for_some, no_forms}
use Rattle.fol_formula.specs.Syntax.{form_then, bound, app, ite, no_terms, term_then}
use Rattle.fol_subst.specs.Rules.{EachForm, EachForms, EachTerm, EachTerms}
use Rattle.fol_subst.specs.Replace.{Change, change_rel, change_fun, change_const}

-- under so many binders
abbrev mutual
  pub RoomForm : ℕ → FormTree → Type 0
  RoomForm depth top = Unit {0}
  RoomForm depth bottom = Unit {0}
  RoomForm depth (rel r args) = RoomTerms depth args
  RoomForm depth (equal a b) = RoomTerm depth a × RoomTerm depth b
  RoomForm depth (negation p) = RoomForm depth p
  RoomForm depth (conjunction ps) = RoomForms depth ps
  RoomForm depth (disjunction ps) = RoomForms depth ps
  RoomForm depth (implication p q) = RoomForm depth p × RoomForm depth q
  RoomForm depth (equivalence p q) = RoomForm depth p × RoomForm depth q
  RoomForm depth (for_all k p) = (suc depth < 2 ^ 63) × RoomForm (suc depth) p
  RoomForm depth (for_some k p) = (suc depth < 2 ^ 63) × RoomForm (suc depth) p

  pub RoomForms : ℕ → FormTrees → Type 0
  RoomForms depth no_forms = Unit {0}
  RoomForms depth (form_then p ps) = RoomForm depth p × RoomForms depth ps

  pub RoomTerm : ℕ → TermTree → Type 0
  RoomTerm depth (bound i) = i < 2 ^ 32
  RoomTerm depth (app f args) = RoomTerms depth args
  RoomTerm depth (ite p a b) = RoomForm depth p × RoomTerm depth a × RoomTerm depth b

  pub RoomTerms : ℕ → TermTrees → Type 0
  RoomTerms depth no_terms = Unit {0}
  RoomTerms depth (term_then t ts) = RoomTerm depth t × RoomTerms depth ts

-- what replaces the relation has no more parameters than there are arguments
abbrev pub RelTakes : Change → ℕ → ℕ → Type 0
RelTakes (change_rel r by) q count = q ≡ r → BoundForm count by
RelTakes (change_fun g by) q count = Unit {0}
RelTakes (change_const g index) q count = Unit {0}

-- the same of a function; a variable that is replaced has no arguments
abbrev pub AppTakes : Change → ℕ → ℕ → Type 0
AppTakes (change_rel r by) f count = Unit {0}
AppTakes (change_fun g by) f count = f ≡ g → BoundTerm count by
AppTakes (change_const g index) f count = f ≡ g → count ≡ 0

-- before so many arguments
abbrev pub RelReady : Change → ℕ → ℕ → Type 0
RelReady c q count = (count ≤ max_arguments) × RelTakes c q count

-- the same of a function
abbrev pub AppReady : Change → ℕ → ℕ → Type 0
AppReady c f count = (count ≤ max_arguments) × AppTakes c f count

-- each symbol of the formula stands before at most 8 arguments, and the one that is replaced before enough
abbrev pub ReadyForm : Change → FormTree → Type 0
ReadyForm c p = EachForm (RelReady c) (AppReady c) p

-- the same of a row of formulas
abbrev pub ReadyForms : Change → FormTrees → Type 0
ReadyForms c ps = EachForms (RelReady c) (AppReady c) ps

-- the same of a term
abbrev pub ReadyTerm : Change → TermTree → Type 0
ReadyTerm c t = EachTerm (RelReady c) (AppReady c) t

-- the same of a row of terms
abbrev pub ReadyTerms : Change → TermTrees → Type 0
ReadyTerms c ts = EachTerms (RelReady c) (AppReady c) ts
