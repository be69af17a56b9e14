use Rattle.std.proofs.Common.{◌≡◌, ◌<◌, ◌++◌, ℕ, length, refl, sym, subst, ap, ◌∙◌, arith}
use Rattle.rml_terms.specs.Places.{name_places}
use Rattle.rml_names.specs.Vocabulary.{Vocabulary}
use Rattle.rml_names.specs.Growth.{with_sort, with_elements}
use Rattle.rml_names.specs.Drafts.{DraftTree, draft_in}
use Rattle.rml_sorts.specs.Sound.{AreElements}
use Rattle.rml_sorts.proofs.Growing.{element_count, elements_are, grown_elements}
use Rattle.rml_sorts.proofs.ItemLists.{with_functions, listed_sort}
use Rattle.rml_sorts.proofs.items.build_sort.Goals as goal

pub push_listed_axiom-requires-clause-first : goal.push_listed_axiom-requires-clause-first
push_listed_axiom-requires-clause-first c =
    let old = (draft_in c.args.draft.now).vocabulary in
    let text = c.args.text.now in
    let xs = c.args.names.now in
    let ws = with_sort text old c.args.name in
    let v = with_elements text ws old.signature.sorts xs in
    let is : (draft_in c.push_elements.new.draft).vocabulary ≡ v =
    ap (λ (d : DraftTree). d.vocabulary) c.in_ok-push_elements.ensures ∙ c.in_ok-add_sort.ensures.0 in
    omega (
      arith,
      c.function_count-first.ensures,
      ap (λ (w : Vocabulary). length w.signature.functions) is,
      element_count text ws old.signature.sorts xs,
    )

pub push_listed_axiom-requires-clause-sort : goal.push_listed_axiom-requires-clause-sort
push_listed_axiom-requires-clause-sort c =
    let old = (draft_in c.args.draft.now).vocabulary in
    let text = c.args.text.now in
    let xs = c.args.names.now in
    let ws = with_sort text old c.args.name in
    let v = with_elements text ws old.signature.sorts xs in
    let is : (draft_in c.push_elements.new.draft).vocabulary ≡ v =
    ap (λ (d : DraftTree). d.vocabulary) c.in_ok-push_elements.ensures ∙ c.in_ok-add_sort.ensures.0 in
    omega (
      arith,
      c.sorts.ensures.value,
      ap (λ (w : Vocabulary). w.signature.sorts) is,
      (grown_elements text ws old.signature.sorts xs).sorts,
    )

pub push_listed_axiom-requires-clause-are : goal.push_listed_axiom-requires-clause-are
push_listed_axiom-requires-clause-are c =
    let old = (draft_in c.args.draft.now).vocabulary in
    let text = c.args.text.now in
    let xs = c.args.names.now in
    let ws = with_sort text old c.args.name in
    let v = with_elements text ws old.signature.sorts xs in
    let is : (draft_in c.push_elements.new.draft).vocabulary ≡ v =
    ap (λ (d : DraftTree). d.vocabulary) c.in_ok-push_elements.ensures ∙ c.in_ok-add_sort.ensures.0 in
    subst (λ (w : Vocabulary). AreElements w.signature c.sorts.result c.function_count-first.result) (sym is)
    (subst (λ (k : ℕ). AreElements v.signature k c.function_count-first.result) (sym c.sorts.ensures.value)
    (subst (λ (i : ℕ). AreElements v.signature old.signature.sorts i) (sym c.function_count-first.ensures)
    (elements_are text ws old.signature.sorts xs)))

pub returns-in_ok-push_listed_axiom : goal.returns-in_ok-push_listed_axiom
returns-in_ok-push_listed_axiom c =
    let d = draft_in c.args.draft.now in
    let xs = c.args.names.now in
    let some : 0 < length xs = grind (arith, c.if-not-is_empty.true, c.is_empty.ensures) in (
      listed_sort c.args.text.now d c.args.name xs (draft_in c.push_elements.new.draft)
          (draft_in c.push_listed_axiom.new.draft) c.sorts.result c.function_count-first.result some
          c.sorts.ensures.value c.function_count-first.ensures
          (c.in_ok-push_elements.ensures
          ∙ ap (λ (v : Vocabulary). with_functions (record d { vocabulary = v }) (d.places.functions ++ name_places xs))
          c.in_ok-add_sort.ensures.0)
          c.in_ok-push_listed_axiom.ensures,
      refl,
    )
