-- The tests of the fragments are true exactly there.
use Rattle.std.proofs.Common.{Bool, true, false, ◌&&◌, refl, Decides}
use Rattle.std.proofs.lemmas.Bool.Decides.{Decides-and}
use Rattle.fol_formula.specs.Syntax.{FormTree, FormTrees, TermTree, TermTrees, top, bottom, rel, equal, negation}
use Rattle.fol_formula.specs.Syntax.{conjunction, disjunction, implication, equivalence, for_all, for_some, no_forms}
use Rattle.fol_formula.specs.Syntax.{form_then, bound, app, ite, no_terms, term_then}
use Rattle.fol_formula.specs.Fragments.{IsUniversal, AreUniversal, IsExistsForall, AreExistsForall, IsQuantifierFree}
use Rattle.fol_formula.specs.Fragments.{AreQuantifierFree, IsQuantifierFreeTerm, AreQuantifierFreeTerms, HasPlainTerms}
use Rattle.fol_formula.specs.Fragments.{HavePlainTerms, IsIteFree, AreIteFree, IsPlainAtom, IsNormalForm}
use Rattle.fol_formula.specs.Fragments.{AreNormalForms}
use Rattle.fol_formula.specs.Deciding.{classes, common_classes, is_quantifier_free, are_quantifier_free}
use Rattle.fol_formula.specs.Deciding.{is_quantifier_free_term, are_quantifier_free_terms, has_plain_terms}
use Rattle.fol_formula.specs.Deciding.{have_plain_terms, is_ite_free, are_ite_free, is_plain_atom, is_normal_form}
use Rattle.fol_formula.specs.Deciding.{are_normal_forms}
use Rattle.fol_formula.specs.declared.classes.PrefixClasses.{PrefixClasses}

always : Decides true (Unit {0})
always = (λ e. tt, λ h. refl)

never : Decides false ⊥
never = (λ e. cc, λ h. absurd h)

-- both, for each of the two
both_sides : {P Q R S : Type 0} (x y z w : Bool) → Decides x P → Decides y Q → Decides z R → Decides w S
    → Decides ((x && y) && (z && w)) (P × Q × R × S)
both_sides x y z w p q r s =
    let left = Decides-and x y p q in
    let right = Decides-and z w r s in
    let all = Decides-and (x && y) (z && w) left right in
    (λ e. let h = all.0 e in (h.0.0, h.0.1, h.1.0, h.1.1), λ h. all.1 ((h.0, h.1), (h.2, h.3)))

all_three : {P Q R : Type 0} (x y z : Bool) → Decides x P → Decides y Q → Decides z R
    → Decides (x && (y && z)) (P × Q × R)
all_three x y z p q r =
    let rest = Decides-and y z q r in
    let all = Decides-and x (y && z) p rest in
    (λ e. let h = all.0 e in (h.0, h.1.0, h.1.1), λ h. all.1 (h.0, (h.1, h.2)))

-- the class as the formula stands, or negated
abbrev pub universal_in : Bool → PrefixClasses → Bool
universal_in true c = c.universal
universal_in false c = c.existential

abbrev pub exists_forall_in : Bool → PrefixClasses → Bool
exists_forall_in true c = c.exists_forall
exists_forall_in false c = c.forall_exists

mutual
  pub universal-decides : (positive : Bool) (p : FormTree)
      → Decides (universal_in positive (classes p)) (IsUniversal positive p)
  universal-decides true top = always
  universal-decides false top = always
  universal-decides true bottom = always
  universal-decides false bottom = always
  universal-decides true (rel r args) = always
  universal-decides false (rel r args) = always
  universal-decides true (equal a b) = always
  universal-decides false (equal a b) = always
  universal-decides true (negation p) = universal-decides false p
  universal-decides false (negation p) = universal-decides true p
  universal-decides true (conjunction ps) = universals-decide true ps
  universal-decides false (conjunction ps) = universals-decide false ps
  universal-decides true (disjunction ps) = universals-decide true ps
  universal-decides false (disjunction ps) = universals-decide false ps
  universal-decides true (implication p q) =
      Decides-and (classes p).existential (classes q).universal (universal-decides false p) (universal-decides true q)
  universal-decides false (implication p q) =
      Decides-and (classes p).universal (classes q).existential (universal-decides true p) (universal-decides false q)
  universal-decides true (equivalence p q) =
      both_sides (classes p).universal (classes p).existential (classes q).universal (classes q).existential
      (universal-decides true p) (universal-decides false p) (universal-decides true q) (universal-decides false q)
  universal-decides false (equivalence p q) =
      both_sides (classes p).universal (classes p).existential (classes q).universal (classes q).existential
      (universal-decides true p) (universal-decides false p) (universal-decides true q) (universal-decides false q)
  universal-decides true (for_all k p) = universal-decides true p
  universal-decides false (for_all k p) = never
  universal-decides true (for_some k p) = never
  universal-decides false (for_some k p) = universal-decides false p

  universals-decide : (positive : Bool) (ps : FormTrees)
      → Decides (universal_in positive (common_classes ps)) (AreUniversal positive ps)
  universals-decide true no_forms = always
  universals-decide false no_forms = always
  universals-decide true (form_then p ps) =
      Decides-and (classes p).universal (common_classes ps).universal (universal-decides true p)
      (universals-decide true ps)
  universals-decide false (form_then p ps) =
      Decides-and (classes p).existential (common_classes ps).existential (universal-decides false p)
      (universals-decide false ps)

mutual
  pub exists_forall-decides : (positive : Bool) (p : FormTree)
      → Decides (exists_forall_in positive (classes p)) (IsExistsForall positive p)
  exists_forall-decides true top = always
  exists_forall-decides false top = always
  exists_forall-decides true bottom = always
  exists_forall-decides false bottom = always
  exists_forall-decides true (rel r args) = always
  exists_forall-decides false (rel r args) = always
  exists_forall-decides true (equal a b) = always
  exists_forall-decides false (equal a b) = always
  exists_forall-decides true (negation p) = exists_forall-decides false p
  exists_forall-decides false (negation p) = exists_forall-decides true p
  exists_forall-decides true (conjunction ps) = exists_foralls-decide true ps
  exists_forall-decides false (conjunction ps) = exists_foralls-decide false ps
  exists_forall-decides true (disjunction ps) = exists_foralls-decide true ps
  exists_forall-decides false (disjunction ps) = exists_foralls-decide false ps
  exists_forall-decides true (implication p q) =
      Decides-and (classes p).forall_exists (classes q).exists_forall (exists_forall-decides false p)
      (exists_forall-decides true q)
  exists_forall-decides false (implication p q) =
      Decides-and (classes p).exists_forall (classes q).forall_exists (exists_forall-decides true p)
      (exists_forall-decides false q)
  exists_forall-decides true (equivalence p q) =
      both_sides (classes p).exists_forall (classes p).forall_exists (classes q).exists_forall (classes q).forall_exists
      (exists_forall-decides true p) (exists_forall-decides false p) (exists_forall-decides true q)
      (exists_forall-decides false q)
  exists_forall-decides false (equivalence p q) =
      both_sides (classes p).exists_forall (classes p).forall_exists (classes q).exists_forall (classes q).forall_exists
      (exists_forall-decides true p) (exists_forall-decides false p) (exists_forall-decides true q)
      (exists_forall-decides false q)
  exists_forall-decides true (for_all k p) = universal-decides true p
  exists_forall-decides false (for_all k p) = exists_forall-decides false p
  exists_forall-decides true (for_some k p) = exists_forall-decides true p
  exists_forall-decides false (for_some k p) = universal-decides false p

  exists_foralls-decide : (positive : Bool) (ps : FormTrees)
      → Decides (exists_forall_in positive (common_classes ps)) (AreExistsForall positive ps)
  exists_foralls-decide true no_forms = always
  exists_foralls-decide false no_forms = always
  exists_foralls-decide true (form_then p ps) =
      Decides-and (classes p).exists_forall (common_classes ps).exists_forall (exists_forall-decides true p)
      (exists_foralls-decide true ps)
  exists_foralls-decide false (form_then p ps) =
      Decides-and (classes p).forall_exists (common_classes ps).forall_exists (exists_forall-decides false p)
      (exists_foralls-decide false ps)

mutual
  pub quantifier_free-decides : (p : FormTree) → Decides (is_quantifier_free p) (IsQuantifierFree p)
  quantifier_free-decides top = always
  quantifier_free-decides bottom = always
  quantifier_free-decides (rel r args) = quantifier_free_terms-decide args
  quantifier_free-decides (equal a b) =
      Decides-and (is_quantifier_free_term a) (is_quantifier_free_term b) (quantifier_free_term-decides a)
      (quantifier_free_term-decides b)
  quantifier_free-decides (negation p) = quantifier_free-decides p
  quantifier_free-decides (conjunction ps) = quantifier_frees-decide ps
  quantifier_free-decides (disjunction ps) = quantifier_frees-decide ps
  quantifier_free-decides (implication p q) =
      Decides-and (is_quantifier_free p) (is_quantifier_free q) (quantifier_free-decides p) (quantifier_free-decides q)
  quantifier_free-decides (equivalence p q) =
      Decides-and (is_quantifier_free p) (is_quantifier_free q) (quantifier_free-decides p) (quantifier_free-decides q)
  quantifier_free-decides (for_all k p) = never
  quantifier_free-decides (for_some k p) = never

  quantifier_frees-decide : (ps : FormTrees) → Decides (are_quantifier_free ps) (AreQuantifierFree ps)
  quantifier_frees-decide no_forms = always
  quantifier_frees-decide (form_then p ps) =
      Decides-and (is_quantifier_free p) (are_quantifier_free ps) (quantifier_free-decides p)
      (quantifier_frees-decide ps)

  pub quantifier_free_term-decides : (t : TermTree) → Decides (is_quantifier_free_term t) (IsQuantifierFreeTerm t)
  quantifier_free_term-decides (bound i) = always
  quantifier_free_term-decides (app f args) = quantifier_free_terms-decide args
  quantifier_free_term-decides (ite p a b) =
      all_three (is_quantifier_free p) (is_quantifier_free_term a) (is_quantifier_free_term b)
      (quantifier_free-decides p) (quantifier_free_term-decides a) (quantifier_free_term-decides b)

  pub quantifier_free_terms-decide : (ts : TermTrees)
      → Decides (are_quantifier_free_terms ts) (AreQuantifierFreeTerms ts)
  quantifier_free_terms-decide no_terms = always
  quantifier_free_terms-decide (term_then t ts) =
      Decides-and (is_quantifier_free_term t) (are_quantifier_free_terms ts) (quantifier_free_term-decides t)
      (quantifier_free_terms-decide ts)

mutual
  pub plain-decides : (p : FormTree) → Decides (has_plain_terms p) (HasPlainTerms p)
  plain-decides top = always
  plain-decides bottom = always
  plain-decides (rel r args) = quantifier_free_terms-decide args
  plain-decides (equal a b) =
      Decides-and (is_quantifier_free_term a) (is_quantifier_free_term b) (quantifier_free_term-decides a)
      (quantifier_free_term-decides b)
  plain-decides (negation p) = plain-decides p
  plain-decides (conjunction ps) = plains-decide ps
  plain-decides (disjunction ps) = plains-decide ps
  plain-decides (implication p q) =
      Decides-and (has_plain_terms p) (has_plain_terms q) (plain-decides p) (plain-decides q)
  plain-decides (equivalence p q) =
      Decides-and (has_plain_terms p) (has_plain_terms q) (plain-decides p) (plain-decides q)
  plain-decides (for_all k p) = plain-decides p
  plain-decides (for_some k p) = plain-decides p

  plains-decide : (ps : FormTrees) → Decides (have_plain_terms ps) (HavePlainTerms ps)
  plains-decide no_forms = always
  plains-decide (form_then p ps) =
      Decides-and (has_plain_terms p) (have_plain_terms ps) (plain-decides p) (plains-decide ps)

mutual
  ite_free-decides : (t : TermTree) → Decides (is_ite_free t) (IsIteFree t)
  ite_free-decides (bound i) = always
  ite_free-decides (app f args) = ite_frees-decide args
  ite_free-decides (ite p a b) = never

  ite_frees-decide : (ts : TermTrees) → Decides (are_ite_free ts) (AreIteFree ts)
  ite_frees-decide no_terms = always
  ite_frees-decide (term_then t ts) =
      Decides-and (is_ite_free t) (are_ite_free ts) (ite_free-decides t) (ite_frees-decide ts)

plain_atom-decides : (p : FormTree) → Decides (is_plain_atom p) (IsPlainAtom p)
plain_atom-decides (rel r args) = ite_frees-decide args
plain_atom-decides (equal a b) = Decides-and (is_ite_free a) (is_ite_free b) (ite_free-decides a) (ite_free-decides b)
plain_atom-decides top = never
plain_atom-decides bottom = never
plain_atom-decides (negation p) = never
plain_atom-decides (conjunction ps) = never
plain_atom-decides (disjunction ps) = never
plain_atom-decides (implication p q) = never
plain_atom-decides (equivalence p q) = never
plain_atom-decides (for_all k p) = never
plain_atom-decides (for_some k p) = never

mutual
  pub normal-decides : (p : FormTree) → Decides (is_normal_form p) (IsNormalForm p)
  normal-decides top = always
  normal-decides bottom = always
  normal-decides (rel r args) = ite_frees-decide args
  normal-decides (equal a b) = Decides-and (is_ite_free a) (is_ite_free b) (ite_free-decides a) (ite_free-decides b)
  normal-decides (negation p) = plain_atom-decides p
  normal-decides (conjunction ps) = normals-decide ps
  normal-decides (disjunction ps) = normals-decide ps
  normal-decides (implication p q) = never
  normal-decides (equivalence p q) = never
  normal-decides (for_all k p) = normal-decides p
  normal-decides (for_some k p) = normal-decides p

  normals-decide : (ps : FormTrees) → Decides (are_normal_forms ps) (AreNormalForms ps)
  normals-decide no_forms = always
  normals-decide (form_then p ps) =
      Decides-and (is_normal_form p) (are_normal_forms ps) (normal-decides p) (normals-decide ps)
