-- The fragments of sentences, by polarity: a formula stands as it is where `positive` is true, and is negated where it
-- is false. Each is what it says of the formula's normal form (NormalForms).
use Rattle.std.specs.Prelude.{Bool, true, false, not}
use Rattle.fol_formula.specs.Syntax.{FormTree, FormTrees, TermTree, TermTrees, top, bottom, rel, equal, negation}
use Rattle.fol_formula.specs.Syntax.{conjunction, disjunction, implication, equivalence, for_all, for_some, no_forms}
use Rattle.fol_formula.specs.Syntax.{form_then, bound, app, ite, no_terms, term_then}

-- no existential
abbrev mutual
  pub IsUniversal : Bool → FormTree → Type 0
  IsUniversal positive top = Unit {0}
  IsUniversal positive bottom = Unit {0}
  IsUniversal positive (rel r args) = Unit {0}
  IsUniversal positive (equal a b) = Unit {0}
  IsUniversal positive (negation p) = IsUniversal (not positive) p
  IsUniversal positive (conjunction ps) = AreUniversal positive ps
  IsUniversal positive (disjunction ps) = AreUniversal positive ps
  IsUniversal positive (implication p q) = IsUniversal (not positive) p × IsUniversal positive q
  IsUniversal positive (equivalence p q) =
      IsUniversal true p × IsUniversal false p × IsUniversal true q × IsUniversal false q
  IsUniversal true (for_all k p) = IsUniversal true p
  IsUniversal false (for_all k p) = ⊥
  IsUniversal true (for_some k p) = ⊥
  IsUniversal false (for_some k p) = IsUniversal false p

  pub AreUniversal : Bool → FormTrees → Type 0
  AreUniversal positive no_forms = Unit {0}
  AreUniversal positive (form_then p ps) = IsUniversal positive p × AreUniversal positive ps

-- no existential in the scope of a universal
abbrev mutual
  pub IsExistsForall : Bool → FormTree → Type 0
  IsExistsForall positive top = Unit {0}
  IsExistsForall positive bottom = Unit {0}
  IsExistsForall positive (rel r args) = Unit {0}
  IsExistsForall positive (equal a b) = Unit {0}
  IsExistsForall positive (negation p) = IsExistsForall (not positive) p
  IsExistsForall positive (conjunction ps) = AreExistsForall positive ps
  IsExistsForall positive (disjunction ps) = AreExistsForall positive ps
  IsExistsForall positive (implication p q) = IsExistsForall (not positive) p × IsExistsForall positive q
  IsExistsForall positive (equivalence p q) =
      IsExistsForall true p × IsExistsForall false p × IsExistsForall true q × IsExistsForall false q
  IsExistsForall true (for_all k p) = IsUniversal true p
  IsExistsForall false (for_all k p) = IsExistsForall false p
  IsExistsForall true (for_some k p) = IsExistsForall true p
  IsExistsForall false (for_some k p) = IsUniversal false p

  pub AreExistsForall : Bool → FormTrees → Type 0
  AreExistsForall positive no_forms = Unit {0}
  AreExistsForall positive (form_then p ps) = IsExistsForall positive p × AreExistsForall positive ps

-- no quantifier, also inside terms
abbrev mutual
  pub IsQuantifierFree : FormTree → Type 0
  IsQuantifierFree top = Unit {0}
  IsQuantifierFree bottom = Unit {0}
  IsQuantifierFree (rel r args) = AreQuantifierFreeTerms args
  IsQuantifierFree (equal a b) = IsQuantifierFreeTerm a × IsQuantifierFreeTerm b
  IsQuantifierFree (negation p) = IsQuantifierFree p
  IsQuantifierFree (conjunction ps) = AreQuantifierFree ps
  IsQuantifierFree (disjunction ps) = AreQuantifierFree ps
  IsQuantifierFree (implication p q) = IsQuantifierFree p × IsQuantifierFree q
  IsQuantifierFree (equivalence p q) = IsQuantifierFree p × IsQuantifierFree q
  IsQuantifierFree (for_all k p) = ⊥
  IsQuantifierFree (for_some k p) = ⊥

  pub AreQuantifierFree : FormTrees → Type 0
  AreQuantifierFree no_forms = Unit {0}
  AreQuantifierFree (form_then p ps) = IsQuantifierFree p × AreQuantifierFree ps

  pub IsQuantifierFreeTerm : TermTree → Type 0
  IsQuantifierFreeTerm (bound i) = Unit {0}
  IsQuantifierFreeTerm (app f args) = AreQuantifierFreeTerms args
  IsQuantifierFreeTerm (ite p a b) = IsQuantifierFree p × IsQuantifierFreeTerm a × IsQuantifierFreeTerm b

  pub AreQuantifierFreeTerms : TermTrees → Type 0
  AreQuantifierFreeTerms no_terms = Unit {0}
  AreQuantifierFreeTerms (term_then t ts) = IsQuantifierFreeTerm t × AreQuantifierFreeTerms ts

-- no quantifier inside an `ite`
abbrev mutual
  pub HasPlainTerms : FormTree → Type 0
  HasPlainTerms top = Unit {0}
  HasPlainTerms bottom = Unit {0}
  HasPlainTerms (rel r args) = AreQuantifierFreeTerms args
  HasPlainTerms (equal a b) = IsQuantifierFreeTerm a × IsQuantifierFreeTerm b
  HasPlainTerms (negation p) = HasPlainTerms p
  HasPlainTerms (conjunction ps) = HavePlainTerms ps
  HasPlainTerms (disjunction ps) = HavePlainTerms ps
  HasPlainTerms (implication p q) = HasPlainTerms p × HasPlainTerms q
  HasPlainTerms (equivalence p q) = HasPlainTerms p × HasPlainTerms q
  HasPlainTerms (for_all k p) = HasPlainTerms p
  HasPlainTerms (for_some k p) = HasPlainTerms p

  pub HavePlainTerms : FormTrees → Type 0
  HavePlainTerms no_forms = Unit {0}
  HavePlainTerms (form_then p ps) = HasPlainTerms p × HavePlainTerms ps

-- without `ite`
abbrev mutual
  pub IsIteFree : TermTree → Type 0
  IsIteFree (bound i) = Unit {0}
  IsIteFree (app f args) = AreIteFree args
  IsIteFree (ite p a b) = ⊥

  pub AreIteFree : TermTrees → Type 0
  AreIteFree no_terms = Unit {0}
  AreIteFree (term_then t ts) = IsIteFree t × AreIteFree ts

-- an atom without `ite`
abbrev pub IsPlainAtom : FormTree → Type 0
IsPlainAtom (rel r args) = AreIteFree args
IsPlainAtom (equal a b) = IsIteFree a × IsIteFree b
IsPlainAtom _ = ⊥

-- positive normal form without `ite`: atoms, negated atoms, and what And, Or and quantifiers make of them
abbrev mutual
  pub IsNormalForm : FormTree → Type 0
  IsNormalForm top = Unit {0}
  IsNormalForm bottom = Unit {0}
  IsNormalForm (rel r args) = AreIteFree args
  IsNormalForm (equal a b) = IsIteFree a × IsIteFree b
  IsNormalForm (negation p) = IsPlainAtom p
  IsNormalForm (conjunction ps) = AreNormalForms ps
  IsNormalForm (disjunction ps) = AreNormalForms ps
  IsNormalForm (implication p q) = ⊥
  IsNormalForm (equivalence p q) = ⊥
  IsNormalForm (for_all k p) = IsNormalForm p
  IsNormalForm (for_some k p) = IsNormalForm p

  pub AreNormalForms : FormTrees → Type 0
  AreNormalForms no_forms = Unit {0}
  AreNormalForms (form_then p ps) = IsNormalForm p × AreNormalForms ps

-- what the passed types keep
abbrev pub IsEa : FormTree → Type 0
IsEa p = IsExistsForall true p × HasPlainTerms p

-- its negation is exists-forall
abbrev pub IsAe : FormTree → Type 0
IsAe p = IsExistsForall false p × HasPlainTerms p

-- universal, with no quantifier inside a term
abbrev pub IsPlainUniversal : FormTree → Type 0
IsPlainUniversal p = IsUniversal true p × HasPlainTerms p

-- exists-forall, and in positive normal form without `ite`
abbrev pub IsNormal : FormTree → Type 0
IsNormal p = IsExistsForall true p × IsNormalForm p
