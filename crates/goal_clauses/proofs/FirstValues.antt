-- Truth values by a function, and by the list of its values at the variables of a formula, satisfy the same clauses.
use Rattle.std.proofs.Common.{◌≡◌, ◌<◌, ◌≤◌, ◌+◌, ◌-◌, ℕ, zero, suc, Bool, true, false, not, List, [], ◌∷◌, length}
use Rattle.std.proofs.Common.{Some, if◌then◌else◌, inl, inr, slice_index_or, refl, sym, ap, subst, ◌∙◌, arith}
use Rattle.std.specs.Prelude.{eqb}
use Rattle.std.specs.List.{slice_get}
use Rattle.std.proofs.lemmas.Bool.{or_cases, eqb-true}
use Rattle.cnf_base.specs.declared.cnf.Entry.{Entry}
use Rattle.cnf_base.specs.declared.cnf.Entry.TheVariants.{Clause, True}
use Rattle.cnf_base.specs.Literals.{variable_of, is_positive, is_true, member, IsLiteral, AreLiterals}
use Rattle.cnf_base.specs.Clauses.{IsEntry, SatisfiesEntry}
use Rattle.cnf_base.specs.Formulas.{Formula, IsFormula, AreEntries, IsUnsatisfiable, Satisfies, value_of}
use Rattle.ea_decide.specs.Laws.{IsSatisfiable}

-- the values of n variables from k on
values_from : (ℕ → Bool) → ℕ → ℕ → List Bool
values_from value k zero = []
values_from value k (suc n) = value k ∷ values_from value (suc k) n

count : (value : ℕ → Bool) (k n : ℕ) → length (values_from value k n) ≡ n
unfolding values_from
count value k zero = refl
count value k (suc n) = let e = count value (suc k) n in omega (arith, e)

at : (value : ℕ → Bool) (k n i : ℕ) → i < n → slice_index_or (values_from value k n) i false ≡ value (k + i)
unfolding values_from
at value k zero i lt = absurd (omega (arith, lt))
at value k (suc n) zero lt = ap value (omega arith)
at value k (suc n) (suc i) lt = at value (suc k) n i (omega (arith, lt)) ∙ ap value (omega arith)

module _ (value : ℕ → Bool) (n : ℕ) where
  listed : List Bool
  listed = values_from value 1 n

  same_value : (v : ℕ) → 0 < v → v ≤ n → value_of listed v ≡ value v
  unfolding listed
  same_value v some few = at value 1 n (v - 1) (omega (arith, some, few)) ∙ ap value (omega (arith, some))

  same_truth : (l : ℕ) → IsLiteral n l → is_true (value_of listed) l ≡ is_true value l
  unfolding is_true
  same_truth l is = ap (λ (b : Bool). if is_positive l then b else not b) (same_value (variable_of l) is.0 is.1)

  is_literal : (ls : List ℕ) (l : ℕ) → AreLiterals n ls → member l ls ≡ true → IsLiteral n l
  is_literal [] l are e = absurd (cc e)
  is_literal (y ∷ ls) l are e = elim (or_cases (eqb l y) (member l ls) e) [
    | inl same ↦ subst (IsLiteral n) (sym (eqb-true l y same)) are.0
    | inr later ↦ is_literal ls l are.1 later
  ]

  satisfies : (e : Entry) → IsEntry n e → SatisfiesEntry value e → SatisfiesEntry (value_of listed) e
  satisfies (Clause ls) is h = (h.0, h.1, same_truth h.0 (is_literal ls h.0 is.1 h.1) ∙ h.2)
  satisfies True is h = tt

  entry : (es : List Entry) (k : ℕ) (e : Entry) → AreEntries n es → slice_get es k ≡ Some e → IsEntry n e
  entry [] k e are is = absurd (cc is)
  entry (x ∷ es) zero e are is = let same : x ≡ e = cc is in subst (IsEntry n) same are.0
  entry (x ∷ es) (suc k) e are is = entry es k e are.1 is

-- where some function satisfies it, some list does
pub some_list : (f : Formula) (value : ℕ → Bool) → IsFormula f → Satisfies value f → IsSatisfiable f
unfolding listed
some_list f value is h = (
  listed value f.variables,
  (
    count value 1 f.variables,
    λ k e at. satisfies value f.variables e (entry value f.variables f.clauses k e is at) (h k e at),
  ),
)

pub none_satisfies : (f : Formula) → IsFormula f → (IsSatisfiable f → ⊥) → IsUnsatisfiable f
none_satisfies f is none value h = none (some_list f value is h)
