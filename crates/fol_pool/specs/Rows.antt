-- Formulas at some nodes, which a row has one by one; with laws as the pool grows, as one is pushed behind the others,
-- and as the row is made from the last on.
use Rattle.std.specs.Prelude.{◌≡◌, ℕ, zero, suc, ◌+◌, ◌<◌, List, [], ◌∷◌, ◌++◌, length, map}
use Rattle.std.specs.List.{AllZip}
use Rattle.std.proofs.Common.{get_or, drop, refl, sym, ap, subst, ◌∙◌, arith}
use Rattle.std.proofs.lemmas.List.{drop_more}
use Rattle.fol_formula.specs.Syntax.{FormTree, FormTrees, no_forms, form_then, forms_of, forms_then}
use Rattle.fol_pool.specs.Trees.{Tree, IsAt, Grows, a_form, some_forms, as_formula, as_formulas, HasForm, HasForms}
use Rattle.fol_pool.specs.Trees.{tree_at, form_at, forms_at}
use Rattle.fol_pool.specs.Growing.{tree_stays, stays_at, read_stays}
use Rattle.fol_pool.specs.Shapes.{tree_of}
use Rattle.fol_pool.specs.declared.shape.Node.{Node}
use Rattle.fol_pool.specs.declared.shape.Shape.{Shape}
use Rattle.fol_pool.specs.declared.shape.Shape.TheVariants as shape

-- these formulas stand at these nodes, one by one
abbrev pub AreForms : List Tree → List Node → List FormTree → Type 0
AreForms ts ns ps = AllZip (λ n p. IsAt ts n.0 (a_form p)) ns ps

-- the formulas at some nodes
abbrev pub formulas : List Tree → List Node → List FormTree
formulas ts ns = map (λ n. form_at ts n.0) ns

-- ---- laws

-- one of some formulas
pub form_there : (ts : List Tree) (ns : List Node) (i : ℕ) (d : Node) → AreForms ts ns (formulas ts ns) → i < length ns
    → HasForm ts (get_or ns i d).0
form_there ts [] i d h lt = absurd (omega (arith, lt))
form_there ts (n ∷ ns) zero d h lt = h.0
form_there ts (n ∷ ns) (suc i) d h lt = form_there ts ns i d h.1 (omega (arith, lt))

-- formulas at nodes, as the pool grows and as one more is pushed
pub forms_stay : (old new : List Tree) → Grows old new → (ns : List Node) (ps : List FormTree) → AreForms old ns ps
    → AreForms new ns ps
forms_stay old new grows [] [] h = tt
forms_stay old new grows [] (p ∷ ps) h = absurd h
forms_stay old new grows (n ∷ ns) [] h = absurd h
forms_stay old new grows (n ∷ ns) (p ∷ ps) h =
    (stays_at old new grows n.0 (a_form p) h.0, forms_stay old new grows ns ps h.1)

pub forms_push : (ts : List Tree) (ns : List Node) (ps : List FormTree) (n : Node) (p : FormTree) → AreForms ts ns ps
    → IsAt ts n.0 (a_form p) → AreForms ts (ns ++ n ∷ []) (ps ++ p ∷ [])
forms_push ts [] [] n p h is = (is, tt)
forms_push ts [] (q ∷ ps) n p h is = absurd h
forms_push ts (m ∷ ns) [] n p h is = absurd h
forms_push ts (m ∷ ns) (q ∷ ps) n p h is = (h.0, forms_push ts ns ps n p h.1 is)

pub forms_are : (ts : List Tree) (ns : List Node) (ps : List FormTree) → AreForms ts ns ps → formulas ts ns ≡ ps
forms_are ts [] [] h = refl
forms_are ts [] (p ∷ ps) h = absurd h
forms_are ts (n ∷ ns) [] h = absurd h
forms_are ts (n ∷ ns) (p ∷ ps) h = λ i. as_formula (h.0.1 i) ∷ forms_are ts ns ps h.1 i

pub then_push : (ps : List FormTree) (p : FormTree) (rest : FormTrees)
    → forms_then (ps ++ p ∷ []) rest ≡ forms_then ps (form_then p rest)
then_push [] p rest = refl
then_push (q ∷ ps) p rest = ap (form_then q) (then_push ps p rest)

-- one turn of a loop that puts the formulas before the row from the last on
pub row_step : (start old new : List Tree) (ns : List Node) (i k row next : ℕ) (d : Node) → Grows start old
    → AreForms start ns (formulas start ns) → k < length ns → i ≡ k + 1
    → IsAt old row (some_forms (forms_of (formulas start (drop i ns))))
    → IsAt new next (some_forms (form_then (form_at old (get_or ns k d).0) (forms_at old row)))
    → IsAt new next (some_forms (forms_of (formulas start (drop k ns))))
row_step start old new ns i k row next d grows forms lt count there made =
    let n = (get_or ns k d).0 in
    let rest = forms_of (formulas start (drop i ns)) in
    let same : form_at old n ≡ form_at start n =
    read_stays start old grows as_formula n (form_there start ns k d forms lt).0 in
    let left : form_then (form_at start n) rest ≡ forms_of (formulas start (drop k ns)) =
    ap (λ (m : ℕ). form_then (form_at start n) (forms_of (formulas start (drop m ns)))) count
    ∙ sym (ap (λ (l : List Node). forms_of (formulas start l)) (drop_more ns k d lt)) in
    (made.0, made.1 ∙ (λ i. some_forms (form_then (same i) (as_formulas (there.1 i)))) ∙ ap some_forms left)

-- a row whose shape has no first formula is empty
pub no_more : (ts : List Tree) (s : Shape) (ps : FormTrees) → tree_of ts s ≡ some_forms ps
    → ((a b : Node) → s ≡ shape.FormThen a b → ⊥) → ps ≡ no_forms
no_more ts shape.NoForms ps e none = ap as_formulas (sym e)
no_more ts (shape.FormThen a b) ps e none = absurd (none a b refl)
no_more ts shape.True ps e none = absurd (cc e)
no_more ts shape.False ps e none = absurd (cc e)
no_more ts (shape.Rel a b) ps e none = absurd (cc e)
no_more ts (shape.Eq a b) ps e none = absurd (cc e)
no_more ts (shape.Not a) ps e none = absurd (cc e)
no_more ts (shape.And a) ps e none = absurd (cc e)
no_more ts (shape.Or a) ps e none = absurd (cc e)
no_more ts (shape.Implies a b) ps e none = absurd (cc e)
no_more ts (shape.Iff a b) ps e none = absurd (cc e)
no_more ts (shape.Forall a b) ps e none = absurd (cc e)
no_more ts (shape.Exists a b) ps e none = absurd (cc e)
no_more ts (shape.Bound a) ps e none = absurd (cc e)
no_more ts (shape.App a b) ps e none = absurd (cc e)
no_more ts (shape.Ite a b c) ps e none = absurd (cc e)
no_more ts shape.NoTerms ps e none = absurd (cc e)
no_more ts (shape.TermThen a b) ps e none = absurd (cc e)

-- ---- a row that stood in an older pool, read by the shape at its node now

module _ (start old : List Tree) (grows : Grows start old) (rest : Node) (row : HasForms start rest.0) where
  stood : tree_at old rest.0 ≡ some_forms (forms_at start rest.0)
  stood = tree_stays start old grows rest.0 row.0 ∙ row.1

  module _ (first after : Node) (is : tree_of old (shape.FormThen first after) ≡ tree_at old rest.0)
      (lt : after.0 < rest.0) (there : HasForms old after.0) where
    within : after.0 < length start
    within = omega (arith, lt, row.0)

    -- what is behind its first formula stood there too
    pub row_behind : HasForms start after.0
    row_behind = (
      within,
      subst (λ (t : Tree). t ≡ some_forms (as_formulas t)) (tree_stays start old grows after.0 within) there.1,
    )

    pub row_front : forms_at start rest.0 ≡ form_then (form_at old first.0) (forms_at start after.0)
    row_front =
        ap as_formulas (sym (is ∙ stood))
        ∙ ap (form_then (form_at old first.0)) (read_stays start old grows as_formulas after.0 within)

  pub row_end : (s : Shape) → tree_of old s ≡ tree_at old rest.0 → ((a b : Node) → s ≡ shape.FormThen a b → ⊥)
      → forms_at start rest.0 ≡ no_forms
  row_end s is none = no_more old s (forms_at start rest.0) (is ∙ stood) none

-- some formulas, where they are lent
module _ (ts : List Tree) (ns lent : List Node) (ps : List FormTree) (are : AreForms ts ns ps) (e : lent ≡ ns) where
  lent_are : AreForms ts lent ps
  lent_are = subst (λ (ns : List Node). AreForms ts ns ps) (sym e) are

  pub lent_formulas : formulas ts lent ≡ ps
  lent_formulas = forms_are ts lent ps lent_are

  pub lent_forms : AreForms ts lent (formulas ts lent)
  lent_forms = subst (λ (qs : List FormTree). AreForms ts lent qs) (sym lent_formulas) lent_are
