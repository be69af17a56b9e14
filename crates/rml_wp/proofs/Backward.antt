-- What holds of a path in the signature with its fresh relations, and the loop that lists those that it havocs.
use Rattle.std.proofs.Common.{map, get_or, ◌≡◌, ℕ, zero, suc, ◌<◌, List, [], ◌∷◌, ◌++◌, length, sym}
use Rattle.std.proofs.Common.{ap, ◌∙◌, subst, arith, append_assoc}
use Rattle.std.specs.List.{AllByRecursion}
use Rattle.base.proofs.Lists.{all_more, all_push, map-map}
use Rattle.fol_sig.specs.declared.RelId.{RelId}
use Rattle.std.proofs.lemmas.List.{map-append, append-nil}
use Rattle.fol_sig.specs.Tables.{Declared, IsSignature}
use Rattle.fol_sig.specs.Symbols.{symbols}
use Rattle.fol_sig.specs.Growing.{GrowsByRelations}
use Rattle.fol_formula.specs.Syntax.{FormTree}
use Rattle.fol_formula.specs.Fits.{FitsForm}
use Rattle.fol_formula.specs.Growing.{FittingIsKept}
use Rattle.rml_command.specs.Trees.{PrimitiveTree, assume, set_rel, set_fun, havoc, havoc_rel, abort}
use Rattle.rml_command.specs.Models.{FitsPrimitive, FitsPath, FitsSteps}
use Rattle.rml_command.specs.Fresh.{written, havocked, with_fresh, WrittenPathsFit, FreshSignaturesGrow}
use Rattle.rml_wp.specs.Written.{havoc_of}
use Rattle.rml_wp.proofs.Under.{steps-of}

module _ (sig : Declared) (p : List PrimitiveTree) (ok : IsSignature sig) (fits : FitsPath (symbols sig) p) where
  pub grown : FreshSignaturesGrow → GrowsByRelations (symbols sig) (havocked (symbols sig) p)
      (symbols (with_fresh sig p))
  grown law = (law sig p ok fits).grows

  pub all-steps : FreshSignaturesGrow → WrittenPathsFit
      → FitsSteps (symbols (with_fresh sig p)) (written (symbols sig) (length sig.relations) p)
  all-steps law written-law =
      steps-of (symbols sig) (symbols (with_fresh sig p)) (length sig.relations) p
      (written-law (symbols sig) (symbols (with_fresh sig p)) p (grown law) fits).fits

  pub one-wide : FreshSignaturesGrow → FittingIsKept → (c : FormTree) → FitsForm (symbols sig) [] c
      → FitsForm (symbols (with_fresh sig p)) [] c
  one-wide law keeps c h = (keeps (symbols sig) (symbols (with_fresh sig p)) (grown law).grows).formulas [] c h

  pub all-wide : FreshSignaturesGrow → FittingIsKept → (cs : List FormTree)
      → AllByRecursion (FitsForm (symbols sig) []) cs
      → AllByRecursion (FitsForm (symbols (with_fresh sig p)) []) cs
  all-wide law keeps cs h =
      all_more (FitsForm (symbols sig) []) (FitsForm (symbols (with_fresh sig p)) []) (one-wide law keeps) cs h

-- the loop that lists the relations that a path havocs
abbrev pub sorts_at : Declared → List ℕ → List (List ℕ)
sorts_at sig rs = map (λ r. (symbols sig).sorts_of r) rs

pub listed-turn : (sig : Declared) (found more : List ℕ) (q : PrimitiveTree) (rest : List PrimitiveTree)
    → more ≡ found ++ havoc_of q → sorts_at sig more ++ havocked (symbols sig) rest
    ≡ sorts_at sig found ++ havocked (symbols sig) (q ∷ rest)
listed-turn sig found more (assume p) rest e =
    ap (λ z. sorts_at sig z ++ havocked (symbols sig) rest) (e ∙ append-nil found)
listed-turn sig found more (set_rel r by) rest e =
    ap (λ z. sorts_at sig z ++ havocked (symbols sig) rest) (e ∙ append-nil found)
listed-turn sig found more (set_fun f by) rest e =
    ap (λ z. sorts_at sig z ++ havocked (symbols sig) rest) (e ∙ append-nil found)
listed-turn sig found more (havoc v) rest e =
    ap (λ z. sorts_at sig z ++ havocked (symbols sig) rest) (e ∙ append-nil found)
listed-turn sig found more (havoc_rel r) rest e =
    ap (λ z. sorts_at sig z ++ havocked (symbols sig) rest) e
    ∙ ap (λ z. z ++ havocked (symbols sig) rest) (map-append (λ k. (symbols sig).sorts_of k) found (r ∷ []))
    ∙ append_assoc (sorts_at sig found) ((symbols sig).sorts_of r ∷ []) (havocked (symbols sig) rest)
listed-turn sig found more abort rest e = ap (λ z. sorts_at sig z ++ havocked (symbols sig) rest) (e ∙ append-nil found)

pub known-turn : (sig : Declared) (found more : List ℕ) (q : PrimitiveTree) → FitsPrimitive (symbols sig) q
    → more ≡ found ++ havoc_of q → AllByRecursion (λ r. r < length sig.relations) found
    → AllByRecursion (λ r. r < length sig.relations) more
known-turn sig found more (assume p) f e h =
    subst (AllByRecursion (λ r. r < length sig.relations)) (sym (e ∙ append-nil found)) h
known-turn sig found more (set_rel r by) f e h =
    subst (AllByRecursion (λ r. r < length sig.relations)) (sym (e ∙ append-nil found)) h
known-turn sig found more (set_fun k by) f e h =
    subst (AllByRecursion (λ r. r < length sig.relations)) (sym (e ∙ append-nil found)) h
known-turn sig found more (havoc v) f e h =
    subst (AllByRecursion (λ r. r < length sig.relations)) (sym (e ∙ append-nil found)) h
known-turn sig found more (havoc_rel r) f e h =
    subst (AllByRecursion (λ r. r < length sig.relations)) (sym e)
    (all_push (λ r. r < length sig.relations) found r h f)
known-turn sig found more abort f e h =
    subst (AllByRecursion (λ r. r < length sig.relations)) (sym (e ∙ append-nil found)) h

-- what the list of ids says
pub ids-known : (n : ℕ) (rs : List RelId) → AllByRecursion (λ r. r < n) (map (λ (r : RelId). r.0) rs)
    → (k : ℕ) (d : RelId) → k < length rs → (get_or rs k d).0 < n
ids-known n [] h k d lt = absurd (omega (arith, lt))
ids-known n (r ∷ rs) h zero d lt = h.0
ids-known n (r ∷ rs) h (suc k) d lt = ids-known n rs h.1 k d (omega (arith, lt))

pub ids-sorts : (sig : Declared) (rs : List RelId)
    → map (λ (r : RelId). (symbols sig).sorts_of r.0) rs ≡ sorts_at sig (map (λ (r : RelId). r.0) rs)
ids-sorts sig rs = sym (map-map (λ k. (symbols sig).sorts_of k) (λ (r : RelId). r.0) rs)
