-- What fits, is universal and is in normal form can be walked over.
use Rattle.std.proofs.Common.{◌≡◌, ℕ, suc, ◌≤◌, true, List, ◌∷◌, [], length, refl, sym, ap, subst}
use Rattle.fol_sig.specs.Symbols.{Symbols}
use Rattle.fol_formula.specs.Syntax.{FormTree, FormTrees, TermTree, TermTrees, top, bottom, rel, equal, negation}
use Rattle.fol_formula.specs.Syntax.{conjunction, disjunction, implication, equivalence, for_all, for_some, no_forms}
use Rattle.fol_formula.specs.Syntax.{form_then, bound, app, ite, no_terms, term_then, size_of}
use Rattle.fol_formula.specs.Fits.{FitsForm, FitsForms, FitsTerm, FitsTerms}
use Rattle.fol_formula.specs.Fragments.{IsUniversal, AreUniversal, IsNormalForm, AreNormalForms, IsPlainAtom, IsIteFree}
use Rattle.fol_formula.specs.Fragments.{AreIteFree}
use Rattle.ground_expand.specs.Groundable.{IsGroundable, AreGroundable, IsGroundableAtom, IsGroundableTerm}
use Rattle.ground_expand.specs.Groundable.{AreGroundableTerms}

fitting-size : (sig : Symbols) (sorts : List ℕ) (ts : TermTrees) (ks : List ℕ) → FitsTerms sig sorts ts ks
    → size_of ts ≡ length ks
fitting-size sig sorts no_terms [] f = refl
fitting-size sig sorts no_terms (k ∷ ks) f = absurd f
fitting-size sig sorts (term_then t ts) [] f = absurd f
fitting-size sig sorts (term_then t ts) (k ∷ ks) f = ap suc (fitting-size sig sorts ts ks f.1)

few : (sig : Symbols) (sorts : List ℕ) (ts : TermTrees) (ks : List ℕ) → FitsTerms sig sorts ts ks → length ks ≤ 8
    → size_of ts ≤ 8
few sig sorts ts ks f lt = subst (λ n. n ≤ 8) (sym (fitting-size sig sorts ts ks f)) lt

mutual
  pub known-term : (sig : Symbols) (sorts : List ℕ) (t : TermTree) (k : ℕ) → IsIteFree t → FitsTerm sig sorts t k
      → IsGroundableTerm sig sorts t
  known-term sig sorts (bound i) k p f = f.0
  known-term sig sorts (app g args) k p f =
      (f.0, few sig sorts args (sig.from_of g) f.3 f.2, f.3, known-terms sig sorts args (sig.from_of g) p f.3)
  known-term sig sorts (ite c a b) k p f = absurd p

  pub known-terms : (sig : Symbols) (sorts : List ℕ) (ts : TermTrees) (ks : List ℕ) → AreIteFree ts
      → FitsTerms sig sorts ts ks → AreGroundableTerms sig sorts ts
  known-terms sig sorts no_terms ks p f = tt
  known-terms sig sorts (term_then t ts) [] p f = absurd f
  known-terms sig sorts (term_then t ts) (k ∷ ks) p f =
      (known-term sig sorts t k p.0 f.0, known-terms sig sorts ts ks p.1 f.1)

known-atom : (sig : Symbols) (sorts : List ℕ) (p : FormTree) → IsPlainAtom p → FitsForm sig sorts p
    → IsGroundableAtom sig sorts p
known-atom sig sorts (rel r args) n f =
    (few sig sorts args (sig.sorts_of r) f.2 f.1, known-terms sig sorts args (sig.sorts_of r) n f.2)
known-atom sig sorts (equal a b) n f = (known-term sig sorts a f.0 n.0 f.1, known-term sig sorts b f.0 n.1 f.2)
known-atom sig sorts top n f = absurd n
known-atom sig sorts bottom n f = absurd n
known-atom sig sorts (negation q) n f = absurd n
known-atom sig sorts (conjunction ps) n f = absurd n
known-atom sig sorts (disjunction ps) n f = absurd n
known-atom sig sorts (implication p q) n f = absurd n
known-atom sig sorts (equivalence p q) n f = absurd n
known-atom sig sorts (for_all k q) n f = absurd n
known-atom sig sorts (for_some k q) n f = absurd n

mutual
  pub known : (sig : Symbols) (sorts : List ℕ) (p : FormTree) → IsUniversal true p → IsNormalForm p
      → FitsForm sig sorts p → IsGroundable sig sorts p
  known sig sorts top u n f = tt
  known sig sorts bottom u n f = tt
  known sig sorts (rel r args) u n f = known-atom sig sorts (rel r args) n f
  known sig sorts (equal a b) u n f = known-atom sig sorts (equal a b) n f
  known sig sorts (negation q) u n f = known-atom sig sorts q n f
  known sig sorts (conjunction ps) u n f = all-known sig sorts ps u n f
  known sig sorts (disjunction ps) u n f = all-known sig sorts ps u n f
  known sig sorts (for_all k q) u n f = (f.0, known sig (k ∷ sorts) q u n f.1)
  known sig sorts (implication p q) u n f = absurd n
  known sig sorts (equivalence p q) u n f = absurd n
  known sig sorts (for_some k q) u n f = absurd u

  all-known : (sig : Symbols) (sorts : List ℕ) (ps : FormTrees) → AreUniversal true ps → AreNormalForms ps
      → FitsForms sig sorts ps → AreGroundable sig sorts ps
  all-known sig sorts no_forms u n f = tt
  all-known sig sorts (form_then p ps) u n f = (known sig sorts p u.0 n.0 f.0, all-known sig sorts ps u.1 n.1 f.1)
