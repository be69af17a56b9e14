-- A path is gone back, from its end to its beginning, while its relation havocs are written out: what is known on the
-- way, and the limit from a rest to the whole.
use Rattle.std.specs.Prelude.{◌≡◌, ℕ, ◌+◌, ◌≤◌, ◌||◌, true, false, List, [], ◌∷◌, ◌++◌, IsTrue}
use Rattle.std.proofs.Common.{sym, ap, ◌∙◌, subst, arith, append_assoc, append-nil}
use Rattle.std.proofs.lemmas.Bool.{or_left, or_right}
use Rattle.base.proofs.Lists.{all_back}
use Rattle.base.specs.Because.{Because}
use Rattle.base.specs.declared.refused.Refused.{Refused}
use Rattle.base.specs.declared.refused.Refused.TheVariants.{For, NoMemory}
use Rattle.fol_sig.specs.Symbols.{Symbols}
use Rattle.fol_formula.specs.Syntax.{FormTree}
use Rattle.fol_subst.specs.Limits.{is_too_large}
use Rattle.fol_subst.specs.declared.FormulaLimit.{FormulaLimit}
use Rattle.rml_command.specs.Trees.{PrimitiveTree}
use Rattle.rml_command.specs.Models.{FitsPrimitive, FitsPath}
use Rattle.rml_command.specs.Fresh.{written}
use Rattle.rml_wp.specs.Written.{relation_havocs, written_step, havocs_append, written_append, written_first}
use Rattle.rml_wp.specs.Preconditions.{back_of, precondition_of, passes_limit}

-- What must hold before a primitive that is written out, by the signature `own`, with the relation n. These axioms are
-- premises behind each primitive.
abbrev pub back_by : Symbols → Symbols → (PrimitiveTree → List FormTree) → ℕ → PrimitiveTree → FormTree → FormTree
back_by own sig premises n q rest = back_of sig (premises (written_step own n q)) (written_step own n q) rest

-- Havocs are written out by the signature `own`, with the fresh relations from number n on; the precondition is over
-- the signature `sig`.
module _ (own sig : Symbols) (premises : PrimitiveTree → List FormTree) (target : FormTree) (n : ℕ) where
  -- A path was gone back as far as these primitives before, and the formula is the precondition of those behind. The
  -- fresh relations of those behind are numbered from `fresh` on.
  pub record IsBack (path before : List PrimitiveTree) (fresh : ℕ) (now : FormTree) : Type 0 where
    pub behind : List PrimitiveTree
    pub split : path ≡ before ++ behind
    pub count : fresh ≡ n + relation_havocs before
    pub tree : now ≡ precondition_of sig premises target (written own fresh behind)
    pub small : passes_limit sig premises target (written own fresh behind) ≡ false

  -- the whole path, written out, passes the limit
  abbrev pub Passes : List PrimitiveTree → FormulaLimit → Type 0
  Passes path = λ x. IsTrue (passes_limit sig premises target (written own n path))

  -- a path passes the limit where a rest of it does
  limit_append : (front behind : List PrimitiveTree) → passes_limit sig premises target behind ≡ true
      → passes_limit sig premises target (front ++ behind) ≡ true
  limit_append [] behind e = e
  limit_append (q ∷ front) behind e =
      or_right (is_too_large (precondition_of sig premises target (q ∷ (front ++ behind)))) _
      (limit_append front behind e)

  -- ---- laws

  -- the way begins with the target
  pub at_end : (path before : List PrimitiveTree) (fresh : ℕ) (now : FormTree) → before ≡ path
      → fresh ≡ n + relation_havocs before → now ≡ target → is_too_large now ≡ false → IsBack path before fresh now
  at_end path before fresh now whole count is small =
      record {
        behind = [];
        split = sym (append-nil path) ∙ ap (λ z. z ++ []) (sym whole);
        count = count;
        tree = is;
        small = ap is_too_large (sym is) ∙ small;
      }

  -- or ends there
  pub stops_at_end : (given : FormTree) (path : List PrimitiveTree) (e : Refused FormulaLimit) → given ≡ target
      → Because (λ x. IsTrue (is_too_large given)) e → Because (Passes path) e
  stops_at_end given path (For x) is h =
      ap (passes_limit sig premises target) (sym (append-nil (written own n path)))
      ∙ limit_append (written own n path) [] (ap is_too_large (sym is) ∙ h)
  stops_at_end given path NoMemory is h = tt

  module _ (path before : List PrimitiveTree) (fresh : ℕ) (now : FormTree) (none : before ≡ [])
      (h : IsBack path before fresh now) where
    -- where no primitive is left before, the whole path is behind
    all_behind : written own fresh h.behind ≡ written own n path
    all_behind =
        let zero : n + relation_havocs [] ≡ n = omega arith in
        let number : fresh ≡ n = h.count ∙ ap (λ z. n + relation_havocs z) none ∙ zero in
        ap (λ k. written own k h.behind) number
        ∙ ap (written own n) (sym (h.split ∙ ap (λ z. z ++ h.behind) none))

    -- so the formula is the path's precondition
    pub at_start : now ≡ precondition_of sig premises target (written own n path)
    at_start = h.tree ∙ ap (precondition_of sig premises target) all_behind

    -- which is within the limit
    pub within_limit : passes_limit sig premises target (written own n path) ≡ false
    within_limit = ap (passes_limit sig premises target) (sym all_behind) ∙ h.small

  -- the last primitive before
  module _ (path before rest : List PrimitiveTree) (q : PrimitiveTree) (behind : ℕ) (now : FormTree)
      (step : before ≡ rest ++ q ∷ []) (h : IsBack path before behind now) where
    -- it stands in the path
    whole : path ≡ rest ++ (q ∷ h.behind)
    whole = h.split ∙ ap (λ z. z ++ h.behind) step ∙ append_assoc rest (q ∷ []) h.behind

    -- its fresh relation is one of those that there are
    pub room : relation_havocs (q ∷ []) ≤ behind
    room = omega (arith, h.count, ap relation_havocs step ∙ havocs_append rest (q ∷ []))

    -- it fits the signature where the path does
    pub step_fits : FitsPath own path → FitsPrimitive own q
    step_fits f = (all_back (FitsPrimitive own) rest (q ∷ h.behind) (subst (FitsPath own) whole f)).0

    -- its fresh relation has this number
    module _ (fresh : ℕ) (less : fresh + relation_havocs (q ∷ []) ≡ behind) where
      -- those before it have the numbers below
      number : fresh ≡ n + relation_havocs rest
      number = omega (arith, h.count, less, ap relation_havocs step ∙ havocs_append rest (q ∷ []))

      -- it is written out with that relation
      abbrev one : PrimitiveTree
      one = written_step own fresh q

      -- in front of the primitives behind
      front : written own fresh (q ∷ h.behind) ≡ one ∷ written own behind h.behind
      front = written_first own fresh q h.behind ∙ ap (λ k. one ∷ written own k h.behind) less

      -- the path, written out: those before, the primitive, and those behind
      pub written_whole : written own n path ≡ written own n rest ++ one ∷ written own behind h.behind
      written_whole =
          ap (written own n) whole
          ∙ written_append own n rest (q ∷ h.behind)
          ∙ ap (λ k. written own n rest ++ written own k (q ∷ h.behind)) (sym number)
          ∙ ap (λ z. written own n rest ++ z) front

      -- before it must hold what must hold behind, gone back once
      made : precondition_of sig premises target (one ∷ written own behind h.behind)
          ≡ back_by own sig premises fresh q now
      made = ap (back_of sig (premises one) one) (sym h.tree)

      -- where the step passes the limit, the path does
      pub stops_at : (e : Refused FormulaLimit)
          → Because (λ x. IsTrue (is_too_large (back_by own sig premises fresh q now))) e → Because (Passes path) e
      stops_at (For x) large =
          ap (passes_limit sig premises target) written_whole
          ∙ limit_append (written own n rest) (one ∷ written own behind h.behind)
          (or_left (is_too_large (precondition_of sig premises target (one ∷ written own behind h.behind))) _
          (ap is_too_large made ∙ large))
      stops_at NoMemory large = tt

      -- and else one primitive less is left before
      pub goes_back : (next : FormTree) → next ≡ back_by own sig premises fresh q now → is_too_large next ≡ false
          → IsBack path rest fresh next
      goes_back next is small = record {
        behind = q ∷ h.behind;
        split = whole;
        count = number;
        tree = is ∙ sym (ap (precondition_of sig premises target) front ∙ made);
        small = ap (passes_limit sig premises target) front
            ∙ ap (λ b. b || passes_limit sig premises target (written own behind h.behind))
            (ap is_too_large (made ∙ sym is) ∙ small)
            ∙ h.small;
      }
