-- What a walk makes of a row, one formula after the other, is what is made of the row.
use Rattle.std.proofs.Common.{◌≡◌, ℕ, ◌+◌, ◌<◌, ◌^◌, List, [], ◌∷◌, ◌++◌, length, sym, ap, ◌∙◌, arith}
use Rattle.std.proofs.Common.{append_assoc, append-nil}
use Rattle.std.proofs.lemmas.List.{length-append}
use Rattle.fol_formula.specs.Syntax.{FormTree, FormTrees, form_then, forms_of, forms_then, no_forms}
use Rattle.skolem.specs.Constants.{Slot, new_sorts, all_new_sorts, skolem_form, skolem_forms}
use Rattle.fol_pool.specs.Rows.{then_push}

-- a row that begins with a formula
module _ (p : FormTree) (rest after : FormTrees) (front : rest ≡ form_then p after) where
  -- what was made of the formulas before it, and of it
  pub made_more : (scope : List Slot) (ps : List FormTree) (next new : ℕ) (whole : FormTrees)
      → new ≡ next + length (new_sorts p) → forms_then ps (skolem_forms next scope rest) ≡ whole
      → forms_then (ps ++ skolem_form next scope p ∷ []) (skolem_forms new scope after) ≡ whole
  made_more scope ps next new whole count so =
      then_push ps (skolem_form next scope p) (skolem_forms new scope after)
      ∙ ap (λ (n : ℕ). forms_then ps (form_then (skolem_form next scope p) (skolem_forms n scope after))) count
      ∙ ap (λ (qs : FormTrees). forms_then ps (skolem_forms next scope qs)) (sym front) ∙ so

  -- the sorts of the constants before it, and of its own
  pub sorts_more : (sorts new whole : List ℕ) → new ≡ sorts ++ new_sorts p → sorts ++ all_new_sorts rest ≡ whole
      → new ++ all_new_sorts after ≡ whole
  sorts_more sorts new whole pushed so =
      ap (λ (l : List ℕ). l ++ all_new_sorts after) pushed
      ∙ append_assoc sorts (new_sorts p) (all_new_sorts after)
      ∙ ap (λ (qs : FormTrees). sorts ++ all_new_sorts qs) (sym front) ∙ so

  -- there is room for its constants
  pub few_more : (functions : ℕ) (sorts before all : List ℕ) → sorts ++ all_new_sorts rest ≡ before ++ all
      → functions + length before + length all < 2 ^ 32
      → functions + length sorts + length (new_sorts p) < 2 ^ 32
  few_more functions sorts before all so few =
      let whole = sym (length-append sorts (all_new_sorts rest)) ∙ ap length so ∙ length-append before all in
      let first = ap (λ (qs : FormTrees). length (all_new_sorts qs)) front
      ∙ length-append (new_sorts p) (all_new_sorts after) in
      omega (arith, whole, first, few)

-- where none is left
module _ (rest : FormTrees) where
  pub made_all : (scope : List Slot) (ps : List FormTree) (next : ℕ) (whole : FormTrees) → rest ≡ no_forms
      → forms_then ps (skolem_forms next scope rest) ≡ whole → forms_of ps ≡ whole
  made_all scope ps next whole end so =
      ap (λ (qs : FormTrees). forms_then ps (skolem_forms next scope qs)) (sym end) ∙ so

  pub sorts_all : (sorts whole : List ℕ) → rest ≡ no_forms → sorts ++ all_new_sorts rest ≡ whole → sorts ≡ whole
  sorts_all sorts whole end so =
      sym (append-nil sorts) ∙ ap (λ (qs : FormTrees). sorts ++ all_new_sorts qs) (sym end) ∙ so
