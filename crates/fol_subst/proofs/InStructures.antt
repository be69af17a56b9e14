-- A replaced symbol and a changed structure give a formula one truth.
use Rattle.std.proofs.Common.{◌≡◌, ℕ, ◌<◌, Bool, true, false, ◌==◌, cond, List, get_or, refl, sym, ap, ◌∙◌, subst}
use Rattle.std.specs.Prelude.{reverse}
use Rattle.std.proofs.lemmas.Bool.{eqb-true, eqb-false}
use Rattle.fol_sig.specs.Tables.{Tables, InRange, reading, relation_at, function_at, rel_at, fun_at, size_at}
use Rattle.fol_sig.specs.Symbols.{Symbols, FitsStructure}
use Rattle.fol_sig.specs.Updates.{with_relation, with_function}
use Rattle.fol_sig.specs.Updates.{UpdatesRelation, UpdatesFunction}
use Rattle.fol_sig.specs.Ranges.{RangesAreAlong, FunctionsStayInRange}
use Rattle.fol_formula.specs.Syntax.{FormTree, TermTree}
use Rattle.fol_formula.specs.Truth.{truth, value}
use Rattle.fol_formula.specs.Agree.{Agree, TruthAgrees, ValuesAreInRange}
use Rattle.fol_subst.specs.Replace.{Change, change_rel, change_fun, change_const, with_rel, with_fun, updated}
use Rattle.fol_subst.specs.Replace.{CanChange, IsReplaced}
use Rattle.fol_subst.specs.Structures.{changed_structure, IsReplacedInStructures}

-- what the crates below promise of updates, of values and of truth
pub record Updates : Type 0 where
  pub relations : (s : Tables) (r : ℕ) (f : List ℕ → Bool) → UpdatesRelation s r f
  pub functions : (s : Tables) (g : ℕ) (f : List ℕ → ℕ) → UpdatesFunction s g f
  pub along : RangesAreAlong
  pub elements : FunctionsStayInRange
  pub agree : TruthAgrees
  pub in_range : ValuesAreInRange

module _ (laws : Updates) (sig : Symbols) (s : Tables) (fits : FitsStructure sig s) where
  agree_relation : (r : ℕ) (f : List ℕ → Bool) → r < sig.relations
      → Agree sig s.sizes (with_rel (reading s) r (λ xs. f (reverse xs))) (reading (with_relation s r f))
  agree_relation r f known = record {
    size = λ k lt. refl;
    same_size = λ k lt. refl;
    rel = λ q xs lt h. which q xs (q == r) refl (subst (λ ks. InRange s.sizes ks xs) (fits.sorts_of q lt) h);
    fun = λ g xs lt h. refl;
    within = λ g xs lt h.
        subst (λ m. fun_at s g xs < size_at s m) (sym (fits.into_of g lt))
        (laws.elements s g xs fits.whole (subst (λ n. g < n) fits.functions lt)
        (subst (λ ks. InRange s.sizes ks xs) (fits.from_of g lt) h));
  }
    where
      which : (q : ℕ) (xs : List ℕ) (b : Bool) → (q == r) ≡ b → InRange s.sizes (relation_at s q).sorts xs
          → cond b (f (reverse xs)) (rel_at s q xs) ≡ rel_at (with_relation s r f) q xs
      which q xs true e h =
          let same = eqb-true q r e in
          sym ((laws.relations s r f).here xs (subst (λ n. r < n) fits.relations known)
          (subst (λ m. InRange s.sizes (relation_at s m).sorts xs) same h))
          ∙ ap (λ m. rel_at (with_relation s r f) m xs) (sym same)
      which q xs false e h = sym ((laws.relations s r f).others q xs (eqb-false q r e))

  agree_function : (g : ℕ) (f : List ℕ → ℕ) → g < sig.functions → FitsStructure sig (with_function s g f)
      → Agree sig s.sizes (with_fun (reading s) g (λ xs. f (reverse xs))) (reading (with_function s g f))
  agree_function g f known new_fits = record {
    size = λ k lt. refl;
    same_size = λ k lt. refl;
    rel = λ q xs lt h. refl;
    fun = λ q xs lt h. same q xs lt h;
    within = λ q xs lt h.
        subst (λ y. y < get_or s.sizes (sig.into_of q) 0) (sym (same q xs lt h))
        (subst (λ m. fun_at (with_function s g f) q xs < size_at (with_function s g f) m) (sym (new_fits.into_of q lt))
        (laws.elements (with_function s g f) q xs new_fits.whole (subst (λ n. q < n) new_fits.functions lt)
        (subst (λ ks. InRange s.sizes ks xs) (new_fits.from_of q lt) h)));
  }
    where
      which : (q : ℕ) (xs : List ℕ) (b : Bool) → (q == g) ≡ b → InRange s.sizes (function_at s q).sorts xs
          → cond b (f (reverse xs)) (fun_at s q xs) ≡ fun_at (with_function s g f) q xs
      which q xs true e h =
          let same = eqb-true q g e in
          sym ((laws.functions s g f).here xs (subst (λ n. g < n) fits.functions known)
          (subst (λ m. InRange s.sizes (function_at s m).sorts xs) same h))
          ∙ ap (λ m. fun_at (with_function s g f) m xs) (sym same)
      which q xs false e h = sym ((laws.functions s g f).others q xs (eqb-false q g e))

      same : (q : ℕ) (xs : List ℕ) → q < sig.functions → InRange s.sizes (sig.from_of q) xs
          → cond (q == g) (f (reverse xs)) (fun_at s q xs) ≡ fun_at (with_function s g f) q xs
      same q xs lt h = which q xs (q == g) refl (subst (λ ks. InRange s.sizes ks xs) (fits.from_of q lt) h)

  -- the values of a term that fits a function, and of an index that fits a variable, are elements of its sort
  term-fits : (g : ℕ) (by : TermTree) (sorts env : List ℕ) → CanChange sig sorts (change_fun g by)
      → FitsStructure sig (with_function s g (λ tuple. value (reading s) by tuple))
  term-fits g by sorts env can =
      (laws.functions s g (λ tuple. value (reading s) by tuple)).fits sig can.0
      (λ xs h.
      subst (λ m. value (reading s) by xs < size_at s m) (fits.into_of g can.0)
      (laws.in_range sig s by (reverse (sig.from_of g)) xs (sig.into_of g) fits can.1
      (subst (λ ks. InRange s.sizes (reverse ks) xs) (sym (fits.from_of g can.0)) h)))
      fits

  index-fits : (g index : ℕ) (sorts env : List ℕ) → CanChange sig sorts (change_const g index)
      → InRange s.sizes sorts env → FitsStructure sig (with_function s g (λ tuple. get_or env index 0))
  index-fits g index sorts env can inside =
      (laws.functions s g (λ tuple. get_or env index 0)).fits sig can.0
      (λ xs h. subst (λ m. get_or env index 0 < size_at s m) (can.3 ∙ fits.into_of g can.0)
      ((laws.along s.sizes sorts env inside).each index can.2))
      fits

  agree : (c : Change) (sorts env : List ℕ) → CanChange sig sorts c → InRange s.sizes sorts env
      → Agree sig s.sizes (updated (reading s) c env) (reading (changed_structure s c env))
  agree (change_rel r by) sorts env can inside = agree_relation r (λ tuple. truth (reading s) by tuple) can.0
  agree (change_fun g by) sorts env can inside =
      agree_function g (λ tuple. value (reading s) by tuple) can.0 (term-fits g by sorts env can)
  agree (change_const g index) sorts env can inside =
      agree_function g (λ tuple. get_or env index 0) can.0 (index-fits g index sorts env can inside)

pub in_structures : Updates → (within new : FormTree) (c : Change) → IsReplaced within c new
    → IsReplacedInStructures within c new
in_structures known within new c replaced sig sorts s env fits h can inside =
    replaced (reading s) env ∙ known.agree sig s.sizes (updated (reading s) c env) (reading (changed_structure s c env))
    within sorts env (agree known sig s fits c sorts env can inside) h inside
