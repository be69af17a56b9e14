-- The instance of a sentence with constants has the nodes that its normal form tells.
use Rattle.std.proofs.Common.{◌≡◌, ℕ, zero, suc, ◌+◌, ◌*◌, true, List, [], ◌∷◌, ◌++◌, length, refl, sym, ap, ◌∙◌, arith}
use Rattle.std.specs.Prelude.{slice_index}
use Rattle.std.proofs.Math.Nat.{suc-mul, zero-mul}
use Rattle.fol_sig.specs.Symbols.{Symbols, symbols}
use Rattle.fol_sig.specs.Tuples.{join_below}
use Rattle.fol_formula.specs.Syntax.{
  FormTree,
  FormTrees,
  top,
  bottom,
  rel,
  equal,
  negation,
  conjunction,
  disjunction,
  implication,
  equivalence,
  for_all,
  for_some,
  no_forms,
  form_then,
}
use Rattle.fol_formula.specs.Fragments.{IsUniversal, AreUniversal, IsExistsForall, AreExistsForall}
use Rattle.fol_nnf.specs.Normal.{normal}
use Rattle.fol_nnf.specs.Laws.{FragmentsAreKept}
use Rattle.skolem.specs.Constants.{
  Slot,
  binder,
  constant,
  new_sorts,
  named_form,
  named_forms,
  skolem_form,
  skolem_forms,
}
use Rattle.ground_terms.specs.Numberings.{Numbering, numbering}
use Rattle.ground_terms.specs.Trees.{Tree, nodes, nodes_all, trees_of}
use Rattle.ground_expand.specs.Instance.{instance, instances}
use Rattle.ground_size.specs.Sizes.{instance_nodes, all_instance_nodes}
use Rattle.ground_size.specs.Laws.{InstancesAreCounted}
use Rattle.ground_size.specs.Counting.{skolem_signature}

pub nodes-append : (ts us : List Tree) → nodes_all (trees_of (ts ++ us)) ≡ nodes_all (trees_of ts) + nodes_all
    (trees_of us)
nodes-append [] us = omega arith
nodes-append (t ∷ ts) us = let h = nodes-append ts us in omega (arith, h)

-- one part for each number
nodes-join : (n m : ℕ) (f : ℕ → Tree) → ((x : ℕ) → nodes (f x) ≡ m)
    → nodes_all (trees_of (join_below n (λ x. f x ∷ []))) ≡ n * m
nodes-join zero m f h = sym (zero-mul m)
nodes-join (suc n) m f h =
    let i = nodes-join n m f h in
    let e = suc-mul n m in
    let d = nodes-append (join_below n (λ x. f x ∷ [])) (f n ∷ []) in
    let last = h n in
    omega (arith, i, e, d, last)

module _ (sig : Symbols) (names : Numbering) where
  atom-nodes : (sorts : List ℕ) (scope : List Slot) (p : FormTree) (env : List ℕ)
      → nodes (instance sig names sorts (named_form scope (negation p)) env) ≡ 1
  atom-nodes sorts scope top env = refl
  atom-nodes sorts scope bottom env = refl
  atom-nodes sorts scope (rel r args) env = refl
  atom-nodes sorts scope (equal a b) env = refl
  atom-nodes sorts scope (negation p) env = refl
  atom-nodes sorts scope (conjunction ps) env = refl
  atom-nodes sorts scope (disjunction ps) env = refl
  atom-nodes sorts scope (implication p q) env = refl
  atom-nodes sorts scope (equivalence p q) env = refl
  atom-nodes sorts scope (for_all k p) env = refl
  atom-nodes sorts scope (for_some k p) env = refl

  mutual
    named-nodes : (sorts : List ℕ) (scope : List Slot) (p : FormTree) (env : List ℕ) → IsUniversal true p
        → nodes (instance sig names sorts (named_form scope p) env) ≡ instance_nodes names.counts p
    named-nodes sorts scope top env u = refl
    named-nodes sorts scope bottom env u = refl
    named-nodes sorts scope (rel r args) env u = refl
    named-nodes sorts scope (equal a b) env u = refl
    named-nodes sorts scope (negation p) env u = atom-nodes sorts scope p env
    named-nodes sorts scope (conjunction ps) env u = ap (λ n. n + 1) (all-named-nodes sorts scope ps env u)
    named-nodes sorts scope (disjunction ps) env u = ap (λ n. n + 1) (all-named-nodes sorts scope ps env u)
    named-nodes sorts scope (implication p q) env u = refl
    named-nodes sorts scope (equivalence p q) env u = refl
    named-nodes sorts scope (for_all k p) env u =
        ap (λ n. n + 1)
        (nodes-join (slice_index names.counts k) (instance_nodes names.counts p)
        (λ x. instance sig names (k ∷ sorts) (named_form (binder ∷ scope) p) (x ∷ env))
        (λ x. named-nodes (k ∷ sorts) (binder ∷ scope) p (x ∷ env) u))
    named-nodes sorts scope (for_some k p) env u = absurd u

    all-named-nodes : (sorts : List ℕ) (scope : List Slot) (ps : FormTrees) (env : List ℕ) → AreUniversal true ps
        → nodes_all (instances sig names sorts (named_forms scope ps) env) ≡ all_instance_nodes names.counts ps
    all-named-nodes sorts scope no_forms env u = refl
    all-named-nodes sorts scope (form_then p ps) env u =
        ap (λ n. n + nodes_all (instances sig names sorts (named_forms scope ps) env))
        (named-nodes sorts scope p env u.0) ∙ ap (λ n. instance_nodes names.counts p + n)
        (all-named-nodes sorts scope ps env u.1)

  mutual
    skolem-nodes : (next : ℕ) (sorts : List ℕ) (scope : List Slot) (p : FormTree) (env : List ℕ)
        → IsExistsForall true p → nodes (instance sig names sorts (skolem_form next scope p) env)
        ≡ instance_nodes names.counts p
    skolem-nodes next sorts scope top env u = refl
    skolem-nodes next sorts scope bottom env u = refl
    skolem-nodes next sorts scope (rel r args) env u = refl
    skolem-nodes next sorts scope (equal a b) env u = refl
    skolem-nodes next sorts scope (negation p) env u = atom-nodes sorts scope p env
    skolem-nodes next sorts scope (conjunction ps) env u = ap (λ n. n + 1) (all-skolem-nodes next sorts scope ps env u)
    skolem-nodes next sorts scope (disjunction ps) env u = ap (λ n. n + 1) (all-skolem-nodes next sorts scope ps env u)
    skolem-nodes next sorts scope (implication p q) env u = refl
    skolem-nodes next sorts scope (equivalence p q) env u = refl
    skolem-nodes next sorts scope (for_all k p) env u = named-nodes sorts scope (for_all k p) env u
    skolem-nodes next sorts scope (for_some k p) env u = skolem-nodes (suc next) sorts (constant next ∷ scope) p env u

    all-skolem-nodes : (next : ℕ) (sorts : List ℕ) (scope : List Slot) (ps : FormTrees) (env : List ℕ)
        → AreExistsForall true ps → nodes_all (instances sig names sorts (skolem_forms next scope ps) env)
        ≡ all_instance_nodes names.counts ps
    all-skolem-nodes next sorts scope no_forms env u = refl
    all-skolem-nodes next sorts scope (form_then p ps) env u =
        ap (λ n. n + nodes_all (instances sig names sorts (skolem_forms (next + length (new_sorts p)) scope ps) env))
        (skolem-nodes next sorts scope p env u.0)
        ∙ ap (λ n. instance_nodes names.counts p + n)
        (all-skolem-nodes (next + length (new_sorts p)) sorts scope ps env u.1)

pub instances-counted : FragmentsAreKept → InstancesAreCounted
instances-counted kept sig p lists ea closed =
    let more = symbols (skolem_signature sig p) in
    skolem-nodes more (numbering more lists) (length sig.functions) [] [] (normal true p) []
    ((kept true p ea.1).exists_forall ea.0)
