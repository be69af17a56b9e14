-- The numbers that the indices of a formula may have: those of four bytes, as the code keeps them.
use Rattle.std.specs.Prelude.{◌<◌, ◌^◌}
use Rattle.fol_formula.specs.Syntax.{FormTree, FormTrees, TermTree, TermTrees, top, bottom, rel, equal, negation}
use Rattle.fol_formula.specs.Syntax.{conjunction, disjunction, implication, equivalence, for_all, for_some, no_forms}
use Rattle.fol_formula.specs.Syntax.{form_then, bound, app, ite, no_terms, term_then}

-- no index is above 4294967295
abbrev mutual
  pub IndicesFit : FormTree → Type 0
  IndicesFit top = Unit {0}
  IndicesFit bottom = Unit {0}
  IndicesFit (rel r args) = IndicesFitTerms args
  IndicesFit (equal a b) = IndicesFitTerm a × IndicesFitTerm b
  IndicesFit (negation p) = IndicesFit p
  IndicesFit (conjunction ps) = IndicesFitAll ps
  IndicesFit (disjunction ps) = IndicesFitAll ps
  IndicesFit (implication p q) = IndicesFit p × IndicesFit q
  IndicesFit (equivalence p q) = IndicesFit p × IndicesFit q
  IndicesFit (for_all k p) = IndicesFit p
  IndicesFit (for_some k p) = IndicesFit p

  pub IndicesFitAll : FormTrees → Type 0
  IndicesFitAll no_forms = Unit {0}
  IndicesFitAll (form_then p ps) = IndicesFit p × IndicesFitAll ps

  pub IndicesFitTerm : TermTree → Type 0
  IndicesFitTerm (bound i) = i < 2 ^ 32
  IndicesFitTerm (app f args) = IndicesFitTerms args
  IndicesFitTerm (ite p a b) = IndicesFit p × IndicesFitTerm a × IndicesFitTerm b

  pub IndicesFitTerms : TermTrees → Type 0
  IndicesFitTerms no_terms = Unit {0}
  IndicesFitTerms (term_then t ts) = IndicesFitTerm t × IndicesFitTerms ts
