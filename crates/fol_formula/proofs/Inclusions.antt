-- How the fragments lie in one another.
use Rattle.std.proofs.Common.{Bool, true, false, not}
use Rattle.fol_formula.specs.Syntax.{FormTree, FormTrees, TermTree, TermTrees, top, bottom, rel, equal, negation}
use Rattle.fol_formula.specs.Syntax.{conjunction, disjunction, implication, equivalence, for_all, for_some, no_forms}
use Rattle.fol_formula.specs.Syntax.{form_then, bound, app, ite, no_terms, term_then}
use Rattle.fol_formula.specs.Fragments.{IsUniversal, AreUniversal, IsExistsForall, AreExistsForall, IsQuantifierFree}
use Rattle.fol_formula.specs.Fragments.{AreQuantifierFree, IsQuantifierFreeTerm, AreQuantifierFreeTerms, HasPlainTerms}
use Rattle.fol_formula.specs.Fragments.{HavePlainTerms, IsIteFree, AreIteFree, IsPlainAtom, IsNormalForm}
use Rattle.fol_formula.specs.Fragments.{AreNormalForms}
use Rattle.fol_formula.specs.Inclusions.{NegationExchanges, UniversalIsExistsForall, UniversalIsEa, UniversalIsAe}
use Rattle.fol_formula.specs.Inclusions.{NormalHasPlainTerms, NormalIsEa, QuantifierFreeIsUniversal}

pub negation_exchanges : NegationExchanges
negation_exchanges = record { of_ae = λ p. (λ h. h, λ h. h); of_ea = λ p. (λ h. h, λ h. h) }

mutual
  pub universal-ea : (positive : Bool) (p : FormTree) → IsUniversal positive p → IsExistsForall positive p
  universal-ea positive top h = tt
  universal-ea positive bottom h = tt
  universal-ea positive (rel r args) h = tt
  universal-ea positive (equal a b) h = tt
  universal-ea positive (negation p) h = universal-ea (not positive) p h
  universal-ea positive (conjunction ps) h = universals-ea positive ps h
  universal-ea positive (disjunction ps) h = universals-ea positive ps h
  universal-ea positive (implication p q) h = (universal-ea (not positive) p h.0, universal-ea positive q h.1)
  universal-ea positive (equivalence p q) h =
      (universal-ea true p h.0, universal-ea false p h.1, universal-ea true q h.2, universal-ea false q h.3)
  universal-ea true (for_all k p) h = h
  universal-ea false (for_all k p) h = absurd h
  universal-ea true (for_some k p) h = absurd h
  universal-ea false (for_some k p) h = h

  universals-ea : (positive : Bool) (ps : FormTrees) → AreUniversal positive ps → AreExistsForall positive ps
  universals-ea positive no_forms h = tt
  universals-ea positive (form_then p ps) h = (universal-ea positive p h.0, universals-ea positive ps h.1)

pub universal_is_ea : UniversalIsEa
universal_is_ea p h = (universal-ea true p h.0, h.1)

mutual
  ite_free-plain : (t : TermTree) → IsIteFree t → IsQuantifierFreeTerm t
  ite_free-plain (bound i) h = tt
  ite_free-plain (app f args) h = ite_frees-plain args h
  ite_free-plain (ite p a b) h = absurd h

  ite_frees-plain : (ts : TermTrees) → AreIteFree ts → AreQuantifierFreeTerms ts
  ite_frees-plain no_terms h = tt
  ite_frees-plain (term_then t ts) h = (ite_free-plain t h.0, ite_frees-plain ts h.1)

plain_atom-plain : (p : FormTree) → IsPlainAtom p → HasPlainTerms p
plain_atom-plain (rel r args) h = ite_frees-plain args h
plain_atom-plain (equal a b) h = (ite_free-plain a h.0, ite_free-plain b h.1)
plain_atom-plain top h = absurd h
plain_atom-plain bottom h = absurd h
plain_atom-plain (negation p) h = absurd h
plain_atom-plain (conjunction ps) h = absurd h
plain_atom-plain (disjunction ps) h = absurd h
plain_atom-plain (implication p q) h = absurd h
plain_atom-plain (equivalence p q) h = absurd h
plain_atom-plain (for_all k p) h = absurd h
plain_atom-plain (for_some k p) h = absurd h

mutual
  normal-plain : (p : FormTree) → IsNormalForm p → HasPlainTerms p
  normal-plain top h = tt
  normal-plain bottom h = tt
  normal-plain (rel r args) h = ite_frees-plain args h
  normal-plain (equal a b) h = (ite_free-plain a h.0, ite_free-plain b h.1)
  normal-plain (negation p) h = plain_atom-plain p h
  normal-plain (conjunction ps) h = normals-plain ps h
  normal-plain (disjunction ps) h = normals-plain ps h
  normal-plain (implication p q) h = absurd h
  normal-plain (equivalence p q) h = absurd h
  normal-plain (for_all k p) h = normal-plain p h
  normal-plain (for_some k p) h = normal-plain p h

  normals-plain : (ps : FormTrees) → AreNormalForms ps → HavePlainTerms ps
  normals-plain no_forms h = tt
  normals-plain (form_then p ps) h = (normal-plain p h.0, normals-plain ps h.1)

pub normal_is_ea : NormalIsEa
normal_is_ea p h = (h.0, normal-plain p h.1)

mutual
  free-universal : (positive : Bool) (p : FormTree) → IsQuantifierFree p → IsUniversal positive p
  free-universal positive top h = tt
  free-universal positive bottom h = tt
  free-universal positive (rel r args) h = tt
  free-universal positive (equal a b) h = tt
  free-universal positive (negation p) h = free-universal (not positive) p h
  free-universal positive (conjunction ps) h = frees-universal positive ps h
  free-universal positive (disjunction ps) h = frees-universal positive ps h
  free-universal positive (implication p q) h = (free-universal (not positive) p h.0, free-universal positive q h.1)
  free-universal positive (equivalence p q) h =
      (free-universal true p h.0, free-universal false p h.0, free-universal true q h.1, free-universal false q h.1)
  free-universal positive (for_all k p) h = absurd h
  free-universal positive (for_some k p) h = absurd h

  frees-universal : (positive : Bool) (ps : FormTrees) → AreQuantifierFree ps → AreUniversal positive ps
  frees-universal positive no_forms h = tt
  frees-universal positive (form_then p ps) h = (free-universal positive p h.0, frees-universal positive ps h.1)

mutual
  free-plain : (p : FormTree) → IsQuantifierFree p → HasPlainTerms p
  free-plain top h = tt
  free-plain bottom h = tt
  free-plain (rel r args) h = h
  free-plain (equal a b) h = h
  free-plain (negation p) h = free-plain p h
  free-plain (conjunction ps) h = frees-plain ps h
  free-plain (disjunction ps) h = frees-plain ps h
  free-plain (implication p q) h = (free-plain p h.0, free-plain q h.1)
  free-plain (equivalence p q) h = (free-plain p h.0, free-plain q h.1)
  free-plain (for_all k p) h = absurd h
  free-plain (for_some k p) h = absurd h

  frees-plain : (ps : FormTrees) → AreQuantifierFree ps → HavePlainTerms ps
  frees-plain no_forms h = tt
  frees-plain (form_then p ps) h = (free-plain p h.0, frees-plain ps h.1)

pub quantifier_free_is_universal : QuantifierFreeIsUniversal
quantifier_free_is_universal p h = record {
  universal = λ positive. free-universal positive p h;
  exists_forall = λ positive. universal-ea positive p (free-universal positive p h);
  plain = free-plain p h;
}

mutual
  universal-opposed : (positive : Bool) (p : FormTree) → IsUniversal positive p → IsExistsForall (not positive) p
  universal-opposed positive top h = tt
  universal-opposed positive bottom h = tt
  universal-opposed positive (rel r args) h = tt
  universal-opposed positive (equal a b) h = tt
  universal-opposed true (negation p) h = universal-opposed false p h
  universal-opposed false (negation p) h = universal-opposed true p h
  universal-opposed positive (conjunction ps) h = universals-opposed positive ps h
  universal-opposed positive (disjunction ps) h = universals-opposed positive ps h
  universal-opposed true (implication p q) h = (universal-opposed false p h.0, universal-opposed true q h.1)
  universal-opposed false (implication p q) h = (universal-opposed true p h.0, universal-opposed false q h.1)
  universal-opposed positive (equivalence p q) h = (
    universal-opposed false p h.1,
    universal-opposed true p h.0,
    universal-opposed false q h.3,
    universal-opposed true q h.2,
  )
  universal-opposed true (for_all k p) h = universal-opposed true p h
  universal-opposed false (for_all k p) h = absurd h
  universal-opposed true (for_some k p) h = absurd h
  universal-opposed false (for_some k p) h = universal-opposed false p h

  universals-opposed : (positive : Bool) (ps : FormTrees) → AreUniversal positive ps → AreExistsForall (not positive) ps
  universals-opposed positive no_forms h = tt
  universals-opposed positive (form_then p ps) h =
      (universal-opposed positive p h.0, universals-opposed positive ps h.1)

pub universal_is_exists_forall : UniversalIsExistsForall
universal_is_exists_forall true true p h = universal-ea true p h
universal_is_exists_forall true false p h = universal-opposed true p h
universal_is_exists_forall false true p h = universal-opposed false p h
universal_is_exists_forall false false p h = universal-ea false p h

pub universal_is_ae : UniversalIsAe
universal_is_ae p h = (universal-opposed true p h.0, h.1)

pub normal_has_plain_terms : NormalHasPlainTerms
normal_has_plain_terms p h = normal-plain p h
