-- Which quantifiers a formula has that rules change, and so one that is replaced by what has none.
use Rattle.std.proofs.Common.{◌≡◌, ℕ, zero, suc, ◌+◌, ◌-◌, ◌<◌, ◌≤◌, Bool, true, false, not, ◌==◌, cond, List, [], ◌∷◌}
use Rattle.std.proofs.Common.{◌++◌, get_or, refl, sym, ap, ◌∙◌, subst, ⊎_elim}
use Rattle.std.specs.Prelude.{reverse}
use mathlib.Core.List.{reverse_aux}
use Rattle.std.proofs.lemmas.Bool.{cases_lt}
use Rattle.fol_formula.specs.Syntax.{FormTree, FormTrees, TermTree, TermTrees, top, bottom, rel, equal, negation}
use Rattle.fol_formula.specs.Syntax.{conjunction, disjunction, implication, equivalence, for_all, for_some, no_forms}
use Rattle.fol_formula.specs.Syntax.{form_then, bound, app, ite, no_terms, term_then, list_of}
use Rattle.fol_formula.specs.Fragments.{IsUniversal, AreUniversal, IsExistsForall, AreExistsForall, IsQuantifierFree}
use Rattle.fol_formula.specs.Fragments.{AreQuantifierFree, IsQuantifierFreeTerm, AreQuantifierFreeTerms, HasPlainTerms}
use Rattle.fol_formula.specs.Fragments.{HavePlainTerms}
use Rattle.fol_formula.specs.Inclusions.{UniversalIsExistsForall, QuantifierFreeIsUniversal}
use Rattle.fol_formula.specs.NormalForms.{normal_form, normal_forms}
use Rattle.fol_formula.specs.Witnesses.{some_sorts, some_sorts_of, UniversalNeedsNoWitness}
use Rattle.fol_subst.specs.Rules.{Rules, form_by, forms_by, term_by, terms_by}
use Rattle.fol_subst.specs.Shift.{shifting}
use Rattle.fol_subst.specs.Replace.{picked, putting, put_form, put_term, Change, change_rel, change_fun, change_const}
use Rattle.fol_subst.specs.Replace.{rel_instance, app_instance, changing, changed_form}
use Rattle.fol_subst.specs.KeptFragments.{HasNoQuantifier, KeepsFragments}
use Rattle.fol_subst.proofs.Truth.{argument, picked-below, picked-above}

-- without quantifiers stays without quantifiers
pub record KeepsFree (rules : Rules) : Type 0 where
  pub index : (depth i : ℕ) → IsQuantifierFreeTerm (rules.index depth i)
  pub relation : (q : ℕ) (args : TermTrees) → AreQuantifierFreeTerms args → IsQuantifierFree (rules.relation q args)
  pub function : (depth f : ℕ) (args : TermTrees) → AreQuantifierFreeTerms args
      → IsQuantifierFreeTerm (rules.function depth f args)

module _ (rules : Rules) (keeps : KeepsFree rules) where
  mutual
    pub free-by : (p : FormTree) (depth : ℕ) → IsQuantifierFree p → IsQuantifierFree (form_by rules depth p)
    free-by top depth h = tt
    free-by bottom depth h = tt
    free-by (rel q args) depth h = keeps.relation q (terms_by rules depth args) (free_terms-by args depth h)
    free-by (equal a b) depth h = (free_term-by a depth h.0, free_term-by b depth h.1)
    free-by (negation p) depth h = free-by p depth h
    free-by (conjunction ps) depth h = free_forms-by ps depth h
    free-by (disjunction ps) depth h = free_forms-by ps depth h
    free-by (implication p q) depth h = (free-by p depth h.0, free-by q depth h.1)
    free-by (equivalence p q) depth h = (free-by p depth h.0, free-by q depth h.1)
    free-by (for_all k p) depth h = absurd h
    free-by (for_some k p) depth h = absurd h

    free_forms-by : (ps : FormTrees) (depth : ℕ) → AreQuantifierFree ps → AreQuantifierFree (forms_by rules depth ps)
    free_forms-by no_forms depth h = tt
    free_forms-by (form_then p ps) depth h = (free-by p depth h.0, free_forms-by ps depth h.1)

    pub free_term-by : (t : TermTree) (depth : ℕ) → IsQuantifierFreeTerm t
        → IsQuantifierFreeTerm (term_by rules depth t)
    free_term-by (bound i) depth h = keeps.index depth i
    free_term-by (app f args) depth h = keeps.function depth f (terms_by rules depth args) (free_terms-by args depth h)
    free_term-by (ite p a b) depth h = (free-by p depth h.0, free_term-by a depth h.1, free_term-by b depth h.2)

    free_terms-by : (ts : TermTrees) (depth : ℕ) → AreQuantifierFreeTerms ts
        → AreQuantifierFreeTerms (terms_by rules depth ts)
    free_terms-by no_terms depth h = tt
    free_terms-by (term_then t ts) depth h = (free_term-by t depth h.0, free_terms-by ts depth h.1)

-- the quantifiers of the formula alone, as those of terms don't count: what a relation becomes has none
abbrev pub RelationsAreFree : Rules → Type 0
RelationsAreFree rules = (positive : Bool) (q : ℕ) (args : TermTrees) → IsUniversal positive (rules.relation q args)

module _ (prefix : UniversalIsExistsForall) (rules : Rules) (free : RelationsAreFree rules) where
  mutual
    pub universal-by : (positive : Bool) (p : FormTree) (depth : ℕ) → IsUniversal positive p
        → IsUniversal positive (form_by rules depth p)
    universal-by positive top depth h = tt
    universal-by positive bottom depth h = tt
    universal-by positive (rel q args) depth h = free positive q (terms_by rules depth args)
    universal-by positive (equal a b) depth h = tt
    universal-by positive (negation p) depth h = universal-by (not positive) p depth h
    universal-by positive (conjunction ps) depth h = universals-by positive ps depth h
    universal-by positive (disjunction ps) depth h = universals-by positive ps depth h
    universal-by positive (implication p q) depth h =
        (universal-by (not positive) p depth h.0, universal-by positive q depth h.1)
    universal-by positive (equivalence p q) depth h = (
      universal-by true p depth h.0,
      universal-by false p depth h.1,
      universal-by true q depth h.2,
      universal-by false q depth h.3,
    )
    universal-by true (for_all k p) depth h = universal-by true p (suc depth) h
    universal-by false (for_all k p) depth h = absurd h
    universal-by true (for_some k p) depth h = absurd h
    universal-by false (for_some k p) depth h = universal-by false p (suc depth) h

    universals-by : (positive : Bool) (ps : FormTrees) (depth : ℕ) → AreUniversal positive ps
        → AreUniversal positive (forms_by rules depth ps)
    universals-by positive no_forms depth h = tt
    universals-by positive (form_then p ps) depth h =
        (universal-by positive p depth h.0, universals-by positive ps depth h.1)

  mutual
    pub prefix-by : (positive : Bool) (p : FormTree) (depth : ℕ) → IsExistsForall positive p
        → IsExistsForall positive (form_by rules depth p)
    prefix-by positive top depth h = tt
    prefix-by positive bottom depth h = tt
    prefix-by positive (rel q args) depth h =
        prefix positive positive (rules.relation q (terms_by rules depth args))
        (free positive q (terms_by rules depth args))
    prefix-by positive (equal a b) depth h = tt
    prefix-by positive (negation p) depth h = prefix-by (not positive) p depth h
    prefix-by positive (conjunction ps) depth h = prefixes-by positive ps depth h
    prefix-by positive (disjunction ps) depth h = prefixes-by positive ps depth h
    prefix-by positive (implication p q) depth h =
        (prefix-by (not positive) p depth h.0, prefix-by positive q depth h.1)
    prefix-by positive (equivalence p q) depth h = (
      prefix-by true p depth h.0,
      prefix-by false p depth h.1,
      prefix-by true q depth h.2,
      prefix-by false q depth h.3,
    )
    prefix-by true (for_all k p) depth h = universal-by true p (suc depth) h
    prefix-by false (for_all k p) depth h = prefix-by false p (suc depth) h
    prefix-by true (for_some k p) depth h = prefix-by true p (suc depth) h
    prefix-by false (for_some k p) depth h = universal-by false p (suc depth) h

    prefixes-by : (positive : Bool) (ps : FormTrees) (depth : ℕ) → AreExistsForall positive ps
        → AreExistsForall positive (forms_by rules depth ps)
    prefixes-by positive no_forms depth h = tt
    prefixes-by positive (form_then p ps) depth h = (prefix-by positive p depth h.0, prefixes-by positive ps depth h.1)

module _ (no_witness : UniversalNeedsNoWitness) (rules : Rules) (free : RelationsAreFree rules) where
  joined : (a a' b b' : List ℕ) → a ≡ a' → b ≡ b' → a ++ b ≡ a' ++ b'
  joined a a' b b' e h = ap (λ z. z ++ b) e ∙ ap (λ z. a' ++ z) h

  pair : (a a' b b' : List ℕ) → a ≡ a' → b ≡ b' → a ++ (b ++ []) ≡ a' ++ (b' ++ [])
  pair a a' b b' e h = joined a a' (b ++ []) (b' ++ []) e (ap (λ z. z ++ []) h)

  -- the existentials of the normal form, and their order
  mutual
    pub sorts-by : (positive : Bool) (p : FormTree) (depth : ℕ)
        → some_sorts (normal_form positive (form_by rules depth p)) ≡ some_sorts (normal_form positive p)
    sorts-by true top depth = refl
    sorts-by false top depth = refl
    sorts-by true bottom depth = refl
    sorts-by false bottom depth = refl
    sorts-by true (rel q args) depth =
        (no_witness true (rules.relation q (terms_by rules depth args)) (free true q (terms_by rules depth args))).sorts
    sorts-by false (rel q args) depth =
        (no_witness false (rules.relation q (terms_by rules depth args))
        (free false q (terms_by rules depth args))).sorts
    sorts-by true (equal a b) depth = refl
    sorts-by false (equal a b) depth = refl
    sorts-by true (negation p) depth = sorts-by false p depth
    sorts-by false (negation p) depth = sorts-by true p depth
    sorts-by true (conjunction ps) depth = all_sorts-by true ps depth
    sorts-by false (conjunction ps) depth = all_sorts-by false ps depth
    sorts-by true (disjunction ps) depth = all_sorts-by true ps depth
    sorts-by false (disjunction ps) depth = all_sorts-by false ps depth
    sorts-by true (implication p q) depth = pair _ _ _ _ (sorts-by false p depth) (sorts-by true q depth)
    sorts-by false (implication p q) depth = pair _ _ _ _ (sorts-by true p depth) (sorts-by false q depth)
    sorts-by true (equivalence p q) depth =
        pair _ _ _ _ (pair _ _ _ _ (sorts-by true p depth) (sorts-by true q depth))
        (pair _ _ _ _ (sorts-by false p depth) (sorts-by false q depth))
    sorts-by false (equivalence p q) depth =
        pair _ _ _ _ (pair _ _ _ _ (sorts-by true p depth) (sorts-by false q depth))
        (pair _ _ _ _ (sorts-by false p depth) (sorts-by true q depth))
    sorts-by true (for_all k p) depth = sorts-by true p (suc depth)
    sorts-by false (for_all k p) depth = ap (λ z. k ∷ z) (sorts-by false p (suc depth))
    sorts-by true (for_some k p) depth = ap (λ z. k ∷ z) (sorts-by true p (suc depth))
    sorts-by false (for_some k p) depth = sorts-by false p (suc depth)

    all_sorts-by : (positive : Bool) (ps : FormTrees) (depth : ℕ)
        → some_sorts_of (normal_forms positive (forms_by rules depth ps)) ≡ some_sorts_of (normal_forms positive ps)
    all_sorts-by positive no_forms depth = refl
    all_sorts-by positive (form_then p ps) depth =
        joined _ _ _ _ (sorts-by positive p depth) (all_sorts-by positive ps depth)

shift_keeps : (by : ℕ) → KeepsFree (shifting by)
shift_keeps by = record { index = λ depth i. tt; relation = λ q args h. h; function = λ depth f args h. h }

-- each term of a list without quantifiers
abbrev AllFree : List TermTree → Type 0
AllFree [] = Unit {0}
AllFree (t ∷ ts) = IsQuantifierFreeTerm t × AllFree ts

free-at : (ts : List TermTree) (i n : ℕ) → AllFree ts → IsQuantifierFreeTerm (get_or ts i (bound n))
free-at [] i n h = tt
free-at (t ∷ ts) zero n h = h.0
free-at (t ∷ ts) (suc i) n h = free-at ts i n h.1

free-list : (ts : TermTrees) → AreQuantifierFreeTerms ts → AllFree (list_of ts)
free-list no_terms h = tt
free-list (term_then t ts) h = (h.0, free-list ts h.1)

free-reversed : (ts us : List TermTree) → AllFree ts → AllFree us → AllFree (reverse_aux ts us)
free-reversed [] us h g = g
free-reversed (t ∷ ts) us h g = free-reversed ts (t ∷ us) h.1 (h.0, g)

picked-free : (args : List TermTree) (depth i : ℕ) → AllFree args → IsQuantifierFreeTerm (picked depth args i)
picked-free args depth i h =
    ⊎_elim
    (λ (l : i < depth). subst IsQuantifierFreeTerm (sym (picked-below depth args i l)) tt)
    (λ (l : depth ≤ i). subst IsQuantifierFreeTerm (sym (picked-above depth args i l))
    (free_term-by (shifting depth) (shift_keeps depth) (argument args (i - depth)) 0
    (free-at args (i - depth) _ h)))
    (cases_lt i depth)

pub put_keeps : (args : TermTrees) → AreQuantifierFreeTerms args → KeepsFree (putting (reverse (list_of args)))
put_keeps args h = record {
  index = λ depth i. picked-free (reverse (list_of args)) depth i
      (free-reversed (list_of args) [] (free-list args h) tt);
  relation = λ q ts g. g;
  function = λ depth f ts g. g;
}

rel-free : (c : Change) → HasNoQuantifier c → (q : ℕ) (args : TermTrees) → AreQuantifierFreeTerms args
    → IsQuantifierFree (rel_instance c q args)
rel-free (change_rel r by) none q args h = which (q == r)
  where
    which : (b : Bool) → IsQuantifierFree (cond b (put_form 0 (reverse (list_of args)) by) (rel q args))
    which true = free-by (putting (reverse (list_of args))) (put_keeps args h) by 0 none
    which false = h
rel-free (change_fun g by) none q args h = h
rel-free (change_const g index) none q args h = h

app-free : (c : Change) → HasNoQuantifier c → (depth f : ℕ) (args : TermTrees) → AreQuantifierFreeTerms args
    → IsQuantifierFreeTerm (app_instance c depth f args)
app-free (change_rel r by) none depth f args h = h
app-free (change_fun g by) none depth f args h = which (f == g)
  where
    which : (b : Bool) → IsQuantifierFreeTerm (cond b (put_term 0 (reverse (list_of args)) by) (app f args))
    which true = free_term-by (putting (reverse (list_of args))) (put_keeps args h) by 0 none
    which false = h
app-free (change_const g index) none depth f args h = which (f == g)
  where
    which : (b : Bool) → IsQuantifierFreeTerm (cond b (bound (depth + index)) (app f args))
    which true = tt
    which false = h

-- plain terms stay plain, where what quantifier-free arguments become is quantifier-free
module _ (free : QuantifierFreeIsUniversal) (rules : Rules) (keeps : KeepsFree rules) where
  mutual
    pub plain-by : (p : FormTree) (depth : ℕ) → HasPlainTerms p → HasPlainTerms (form_by rules depth p)
    plain-by top depth h = tt
    plain-by bottom depth h = tt
    plain-by (rel q args) depth h =
        (free (form_by rules depth (rel q args)) (free-by rules keeps (rel q args) depth h)).plain
    plain-by (equal a b) depth h = free-by rules keeps (equal a b) depth h
    plain-by (negation p) depth h = plain-by p depth h
    plain-by (conjunction ps) depth h = plains-by ps depth h
    plain-by (disjunction ps) depth h = plains-by ps depth h
    plain-by (implication p q) depth h = (plain-by p depth h.0, plain-by q depth h.1)
    plain-by (equivalence p q) depth h = (plain-by p depth h.0, plain-by q depth h.1)
    plain-by (for_all k p) depth h = plain-by p (suc depth) h
    plain-by (for_some k p) depth h = plain-by p (suc depth) h

    plains-by : (ps : FormTrees) (depth : ℕ) → HavePlainTerms ps → HavePlainTerms (forms_by rules depth ps)
    plains-by no_forms depth h = tt
    plains-by (form_then p ps) depth h = (plain-by p depth h.0, plains-by ps depth h.1)

pub record Fragments : Type 0 where
  pub prefix : UniversalIsExistsForall
  pub free : QuantifierFreeIsUniversal
  pub no_witness : UniversalNeedsNoWitness

module _ (known : Fragments) (c : Change) (none : HasNoQuantifier c) where
  change_keeps : KeepsFree (changing c)
  change_keeps =
      record {
        index = λ depth i. tt;
        relation = λ q args h. rel-free c none q args h;
        function = λ depth f args h. app-free c none depth f args h;
      }

  -- what a relation becomes has no quantifier, also where the arguments have some
  relations_free : (d : Change) → HasNoQuantifier d → (positive : Bool) (q : ℕ) (args : TermTrees)
      → IsUniversal positive (rel_instance d q args)
  relations_free (change_rel r by) h positive q args = which (q == r)
    where
      which : (b : Bool) → IsUniversal positive (cond b (put_form 0 (reverse (list_of args)) by) (rel q args))
      which true =
          universal-by known.prefix (putting (reverse (list_of args))) (λ p r ts. tt) positive by 0
          ((known.free by h).universal positive)
      which false = tt
  relations_free (change_fun g by) h positive q args = tt
  relations_free (change_const g index) h positive q args = tt

  pub keeps_fragments : (within : FormTree) → KeepsFragments within (changed_form c 0 within)
  keeps_fragments within = record {
    universal = λ positive h. universal-by known.prefix (changing c) (relations_free c none) positive within 0 h;
    exists_forall = λ positive h. prefix-by known.prefix (changing c) (relations_free c none) positive within 0 h;
    plain = λ h. plain-by known.free (changing c) change_keeps within 0 h;
    quantifier_free = λ h. free-by (changing c) change_keeps within 0 h;
    existentials = λ positive. sorts-by known.no_witness (changing c) (relations_free c none) positive within 0;
  }
