-- What fits may be evaluated at each tuple.
use Rattle.std.proofs.Common.{◌≡◌, ℕ, suc, ◌<◌, List, [], ◌∷◌, length, All, sym, subst, arith}
use Rattle.std.specs.Prelude.{reverse}
use mathlib.Core.List.{reverse_aux}
use Rattle.std.proofs.lemmas.List.Elements.{All-get_or}
use Rattle.fol_sig.specs.Tables.{Tables, InRange, IsFullRelation, IsFullFunction, relation_at, function_at}
use Rattle.fol_sig.specs.Symbols.{Symbols, FitsStructure}
use Rattle.fol_formula.specs.Syntax.{FormTree, TermTree}
use Rattle.fol_formula.specs.Fits.{FitsForm, FitsTerm, HasTruth, HasValue}
use Rattle.rml_command.specs.Trees.{set_rel, set_fun}
use Rattle.rml_command.specs.Models.{FitsPrimitive}
use Rattle.rml_exec.specs.Steps.{CanUpdate, AtEachTuple}

module _ (sig : Symbols) (s : Tables) (fits : FitsStructure sig s) where
  each_truth : (by : FormTree) (ks done before : List ℕ) → All (λ k. k < length s.sizes) ks
      → FitsForm sig (reverse_aux ks done) by → InRange s.sizes done before → AtEachTuple s (HasTruth s by) ks before
  each_truth by [] done before h f e = record { sig = sig; sorts = done; structure = fits; formula = f; elements = e }
  each_truth by (k ∷ ks) done before h f e = (
    h 0 0 (omega arith),
    λ x lt. each_truth by ks (k ∷ done) (x ∷ before) (λ i d l. h (suc i) d (omega arith)) f
        (lt, e),
  )

  each_value : (by : TermTree) (into : ℕ) (ks done before : List ℕ) → All (λ k. k < length s.sizes) ks
      → FitsTerm sig (reverse_aux ks done) by into → InRange s.sizes done before
      → AtEachTuple s (HasValue s by) ks before
  each_value by into [] done before h f e =
      record { sig = sig; sorts = done; into = into; structure = fits; term = f; elements = e }
  each_value by into (k ∷ ks) done before h f e = (
    h 0 0 (omega arith),
    λ x lt. each_value by into ks (k ∷ done) (x ∷ before) (λ i d l. h (suc i) d (omega arith)) f
        (lt, e),
  )

  ready_relation : (r : ℕ) (by : FormTree) → FitsPrimitive sig (set_rel r by)
      → AtEachTuple s (HasTruth s by) (relation_at s r).sorts []
  ready_relation r by f =
      each_truth by (relation_at s r).sorts [] []
      (All-get_or (IsFullRelation s.sizes) s.relations r (record { sorts = []; cells = [] })
      (subst (λ n. r < n) fits.relations f.0) fits.whole.relations_full).sorted
      (subst (λ ks. FitsForm sig (reverse ks) by) (fits.sorts_of r f.0) f.1) tt

  ready_function : (g : ℕ) (by : TermTree) → FitsPrimitive sig (set_fun g by)
      → AtEachTuple s (HasValue s by) (function_at s g).sorts []
  ready_function g by f =
      each_value by (sig.into_of g) (function_at s g).sorts [] []
      (All-get_or (IsFullFunction s.sizes) s.functions g (record { sorts = []; into = 0; cells = [] })
      (subst (λ n. g < n) fits.functions f.0) fits.whole.functions_full).sorted
      (subst (λ ks. FitsTerm sig (reverse ks) by (sig.into_of g)) (fits.from_of g f.0) f.1) tt

-- the same for the facts that a call requires, with the sorts as it reads them
pub relation_ready : (s : Tables) (r : ℕ) (by : FormTree) (ks : List ℕ) → CanUpdate (set_rel r by) s
    → ks ≡ (relation_at s r).sorts → AtEachTuple s (HasTruth s by) ks []
relation_ready s r by ks can is =
    subst (λ ks. AtEachTuple s (HasTruth s by) ks []) (sym is) (ready_relation can.sig s can.structure r by can.fits)

pub function_ready : (s : Tables) (g : ℕ) (by : TermTree) (ks : List ℕ) → CanUpdate (set_fun g by) s
    → ks ≡ (function_at s g).sorts → AtEachTuple s (HasValue s by) ks []
function_ready s g by ks can is =
    subst (λ ks. AtEachTuple s (HasValue s by) ks []) (sym is) (ready_function can.sig s can.structure g by can.fits)
