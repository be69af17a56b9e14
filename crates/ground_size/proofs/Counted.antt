-- The counts of a sentence's signature.
use Rattle.std.proofs.Common.{
  ◌≡◌,
  ℕ,
  ◌+◌,
  ◌*◌,
  ◌<◌,
  true,
  false,
  List,
  [],
  set,
  replicate,
  map,
  sym,
  ap,
  ◌∙◌,
  subst,
  arith,
}
use Rattle.std.specs.Prelude.{slice_index}
use Rattle.std.proofs.lemmas.List.{length-replicate, get_or-replicate, map-set}
use Rattle.std.proofs.Math.Nat.{zero-mul, one-mul}
use Rattle.fol_sig.specs.Tables.{Declared}
use Rattle.fol_sig.specs.Symbols.{symbols}
use Rattle.fol_sig.specs.Strata.{IsStrata}
use Rattle.fol_sig.specs.Growing.{grown, SortsAreKept}
use Rattle.fol_formula.specs.Syntax.{
  FormTree,
  FormTrees,
  top,
  bottom,
  rel,
  equal,
  negation,
  conjunction,
  disjunction,
  implication,
  equivalence,
  for_all,
  for_some,
  no_forms,
  form_then,
}
use Rattle.fol_formula.specs.Counts.{saturated}
use Rattle.fol_formula.specs.Fits.{FitsForm}
use Rattle.fol_formula.specs.Fragments.{IsEa}
use Rattle.fol_formula.specs.NormalForms.{normal_form}
use Rattle.fol_formula.specs.Witnesses.{some_sorts}
use Rattle.fol_nnf.specs.Normal.{normal}
use Rattle.fol_nnf.specs.Laws.{FittingIsKept, IsAlwaysNormal, FragmentsAreKept, NormalFormsShareWitnesses}
use Rattle.skolem.specs.Constants.{new_sorts}
use Rattle.skolem.specs.Laws.{EachIsSkolemised, EachExistentialIsConstant}
use Rattle.ground_size.specs.Counting.{AreCounted}
use Rattle.ground_size.specs.Existentials.{times, some, AreConstants}
use Rattle.ground_size.specs.Walks.{raised_at, raised, all_raised, capped_counts}
use Rattle.ground_size.proofs.Saturated.{sat-sat, at-saturated}
use Rattle.ground_size.proofs.Raised.{at-raised}
use Rattle.ground_size.proofs.Along.{counts_from, counts-from, capped-along, capped-zeros}

-- no count is above the greatest number of 64 bits
abbrev IsCapped : List ℕ → Type 0
IsCapped counts = map saturated counts ≡ counts

capped-raised_at : (counts : List ℕ) (k n : ℕ) → IsCapped counts → IsCapped (raised_at counts k n)
capped-raised_at counts k n h =
    map-set saturated counts k (saturated (slice_index counts k + n)) ∙ ap (λ m. set (map saturated counts) k m)
    (sat-sat (slice_index counts k + n)) ∙ ap (λ ns. set ns k (saturated (slice_index counts k + n))) h

mutual
  capped-raised : (y n : ℕ) (p : FormTree) (counts : List ℕ) → IsCapped counts → IsCapped (raised y n p counts)
  capped-raised y n top counts h = h
  capped-raised y n bottom counts h = h
  capped-raised y n (rel r args) counts h = h
  capped-raised y n (equal a b) counts h = h
  capped-raised y n (negation p) counts h = capped-raised n y p counts h
  capped-raised y n (conjunction ps) counts h = capped-all_raised y n ps counts h
  capped-raised y n (disjunction ps) counts h = capped-all_raised y n ps counts h
  capped-raised y n (implication p q) counts h = capped-raised y n q (raised n y p counts)
      (capped-raised n y p counts h)
  capped-raised y n (equivalence p q) counts h =
      capped-raised (saturated (y + n)) (saturated (y + n)) q (raised (saturated (y + n)) (saturated (y + n)) p counts)
      (capped-raised (saturated (y + n)) (saturated (y + n)) p counts h)
  capped-raised y n (for_all k p) counts h = capped-raised y n p (raised_at counts k n) (capped-raised_at counts k n h)
  capped-raised y n (for_some k p) counts h = capped-raised y n p (raised_at counts k y) (capped-raised_at counts k y h)

  capped-all_raised : (y n : ℕ) (ps : FormTrees) (counts : List ℕ) → IsCapped counts
      → IsCapped (all_raised y n ps counts)
  capped-all_raised y n no_forms counts h = h
  capped-all_raised y n (form_then p ps) counts h = capped-all_raised y n ps (raised y n p counts)
      (capped-raised y n p counts h)

-- the walk over a sentence from zeros on
raised-sentence : (p : FormTree) (n k : ℕ) → k < n → slice_index (raised 1 0 p (replicate n 0)) k
    ≡ saturated (some k true p)
raised-sentence p n k lt =
    let end = raised 1 0 p (replicate n 0) in
    let capped : saturated (slice_index end k) ≡ slice_index end k = sym (at-saturated end k)
    ∙ ap (λ ns. slice_index ns k) (capped-raised 1 0 p (replicate n 0) (capped-zeros n)) in
    let counted = at-raised k 1 0 p (replicate n 0) (subst (λ m. k < m) (sym (length-replicate n 0)) lt) in
    let zero_there = get_or-replicate {A = ℕ} n k 0 0 lt in
    let one = one-mul (some k true p) in
    let none = zero-mul (some k false p) in
    let sum : slice_index (replicate n 0) k + (1 * some k true p + 0 * some k false p) ≡ some k true p = omega
    (arith, zero_there, one, none) in
    sym capped ∙ counted ∙ ap saturated sum

pub constants-raised : (p : FormTree) (n : ℕ) (constants : List ℕ) → constants ≡ raised 1 0 p (replicate n 0)
    → AreConstants n p constants
constants-raised p n constants walked k lt = ap (λ ns. slice_index ns k) walked ∙ raised-sentence p n k lt

-- the laws of the crates below
pub record AreLaws : Type 0 where
  pub kept : SortsAreKept
  pub fits : FittingIsKept
  pub normal : IsAlwaysNormal
  pub fragments : FragmentsAreKept
  pub witnesses : NormalFormsShareWitnesses
  pub skolemised : EachIsSkolemised
  pub sorts : EachExistentialIsConstant

module _ (laws : AreLaws) where
  -- the constants of a sentence are the existentials of its normal form
  constants : (p : FormTree) → IsEa p → new_sorts (normal true p) ≡ some_sorts (normal_form true p)
  constants p ea = laws.sorts (normal true p) ((laws.fragments true p ea.1).exists_forall ea.0, laws.normal true p)
      ∙ (laws.witnesses true p ea.1).sorts

  pub counted : (sig : Declared) (p : FormTree) (order cs end : List ℕ) → IsStrata (symbols sig) order
      → IsEa p → FitsForm (symbols sig) [] p → AreConstants sig.sorts p cs
      → end ≡ capped_counts (symbols sig) cs order (replicate sig.sorts 0)
      → AreCounted sig p end
  counted sig p order cs end strata ea fits are e =
      let ks = new_sorts (normal true p) in
      let more = symbols (grown sig ks) in
      let grows = (laws.skolemised sig (normal true p) (laws.fits (symbols sig) [] true p fits)).grows in
      let each : (k : ℕ) → k < sig.sorts → slice_index cs k ≡ saturated (times k ks) = λ k lt.
      are k lt ∙ ap (λ qs. saturated (times k qs)) (sym (constants p ea)) in
      record {
        counts = counts_from more order (replicate sig.sorts 0);
        terms = counts-from more order ((laws.kept (symbols sig) more grows.grows).strata order strata);
        capped = e ∙ ap (capped_counts (symbols sig) cs order) (sym (capped-zeros sig.sorts))
            ∙ capped-along (symbols sig) more ks grows cs each order (replicate sig.sorts 0) strata.sorts;
      }
