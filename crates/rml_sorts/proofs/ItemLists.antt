-- Items that are built, one after another.
use Rattle.std.proofs.Common.{◌≡◌, ◌+◌, ◌-◌, ◌<◌, ◌≤◌, ◌++◌, ℕ, List, [], ◌∷◌, length, drop, get_or, None, sym, subst, ap, ◌∙◌}
use Rattle.std.specs.List.{AllByRecursion}
use Rattle.std.proofs.Common.{slice_index_or, append_assoc, arith, length-append}
use Rattle.std.proofs.lemmas.List.{drop_all, drop_more, append-nil, length-map}
use Rattle.std.proofs.Math.Seq.{get_or-append_seam}
use Rattle.base.proofs.Lists.{drop_read}
use Rattle.base.specs.Lists.{count_from}
use Rattle.base.specs.declared.refused.Refused.{Refused}
use Rattle.rml_lex.specs.declared.token.Fault.{Fault}
use Rattle.rml_terms.specs.declared.tree.Name.{Name}
use Rattle.rml_terms.specs.declared.tree.Binder.{Binder}
use Rattle.rml_terms.specs.Tree.{ExprTree}
use Rattle.rml_terms.specs.Places.{name_places}
use Rattle.rml_syntax.specs.declared.tree.Format.{Format}
use Rattle.rml_syntax.specs.declared.tree.Item.{Item}
use Rattle.rml_syntax.specs.Tree.{ItemTree, Define, Sort, item_tree, item_trees}
use Rattle.rml_names.specs.Drafts.{DraftTree}
use Rattle.rml_names.specs.Vocabulary.{Vocabulary}
use Rattle.rml_names.specs.Meanings.{sort_number}
use Rattle.rml_names.specs.Growth.{with_sort}
use Rattle.rml_names.specs.Sound.{IsSorted}
use Rattle.rml_sort_check.specs.Demands.{first_fault, definition_demands}
use Rattle.rml_sort_check.specs.Firsts.{first_right}
use Rattle.rml_items.specs.Answered.{Refuses, refuses_as, refuses_left}
use Rattle.rml_items.specs.Items.{head_demands, words_with, parameter_sorts}
use Rattle.rml_sorts.specs.Items.{with_listed_axiom, draft_with, draft_of, items_sizes}
use Rattle.rml_sorts.specs.Listed.{listed_axiom}
use Rattle.rml_sorts.specs.Sizes.{item_sizes}
use Rattle.rml_sorts.proofs.Growing.{element_count}
use Rattle.rml_items.specs.Laws.{HaveMet, WordsStaySorted}

-- what is so of all from a place on is so of the item there, and of those behind it
pub all_next : (P : ItemTree → Type 0) (xs : List Item) (i : ℕ) (x : Item) → i < length xs → x ≡ get_or xs i x
    → AllByRecursion P (item_trees (drop i xs))
    → P (item_tree x) × AllByRecursion P (item_trees (drop (i + 1) xs))
all_next P xs i x lt is h = subst (λ l. AllByRecursion P (item_trees l)) (drop_read xs i x lt is) h

module _ (text : List ℕ) (xs : List Item) (i : ℕ) (x : Item) (lt : i < length xs) (is : x ≡ get_or xs i x)
    (from d : DraftTree) where
  -- the demands of the item there are met, and of those behind it
  pub met_next : (format : Format) → HaveMet text format d.vocabulary (item_trees (drop i xs))
      → HaveMet text format d.vocabulary (item_trees (x ∷ drop (i + 1) xs))
  met_next format h = subst (λ l. HaveMet text format d.vocabulary (item_trees l)) (drop_read xs i x lt is) h

  module _ (so : first_fault (items_sizes text d (item_trees (drop i xs)))
      ≡ first_fault (items_sizes text from (item_trees xs))) where
    at_place : first_fault (items_sizes text d (item_trees (drop i xs)))
        ≡ first_fault (item_sizes text d.vocabulary d.bodies (item_tree x)
        ++ items_sizes text (draft_with text d (item_tree x)) (item_trees (drop (i + 1) xs)))
    at_place = ap (λ l. first_fault (items_sizes text d (item_trees l))) (drop_read xs i x lt is)

    pub item_refused : (e : Refused Fault) → Refuses (item_sizes text d.vocabulary d.bodies (item_tree x)) e
        → Refuses (items_sizes text from (item_trees xs)) e
    item_refused e h =
        let front = item_sizes text d.vocabulary d.bodies (item_tree x) in
        let rest = items_sizes text (draft_with text d (item_tree x)) (item_trees (drop (i + 1) xs)) in
        refuses_as (front ++ rest) (items_sizes text from (item_trees xs)) e (sym at_place ∙ so)
        (refuses_left front rest e h)

    pub item_taken : (next : DraftTree) → next ≡ draft_with text d (item_tree x)
        → first_fault (item_sizes text d.vocabulary d.bodies (item_tree x)) ≡ None
        → first_fault (items_sizes text next (item_trees (drop (i + 1) xs)))
        ≡ first_fault (items_sizes text from (item_trees xs))
    item_taken next same met =
        let front = item_sizes text d.vocabulary d.bodies (item_tree x) in
        let rest = items_sizes text (draft_with text d (item_tree x)) (item_trees (drop (i + 1) xs)) in
        ap (λ (e : DraftTree). first_fault (items_sizes text e (item_trees (drop (i + 1) xs)))) same
        ∙ sym (first_right front rest met) ∙ sym at_place ∙ so

  -- the draft so far and the items that are left give what all items give
  pub item_built : (next : DraftTree) → next ≡ draft_with text d (item_tree x)
      → draft_of text d (item_trees (drop i xs)) ≡ draft_of text from (item_trees xs)
      → draft_of text next (item_trees (drop (i + 1) xs)) ≡ draft_of text from (item_trees xs)
  item_built next same so =
      ap (λ (e : DraftTree). draft_of text e (item_trees (drop (i + 1) xs))) same
      ∙ sym (ap (λ l. draft_of text d (item_trees l)) (drop_read xs i x lt is)) ∙ so

-- behind the last item
pub all_built : (text : List ℕ) (xs : List Item) (i : ℕ) (from d : DraftTree) → length xs ≤ i
    → draft_of text d (item_trees (drop i xs)) ≡ draft_of text from (item_trees xs)
    → d ≡ draft_of text from (item_trees xs)
all_built text xs i from d over so = sym (ap (λ l. draft_of text d (item_trees l)) (drop_all i xs over)) ∙ so

pub all_taken : (text : List ℕ) (xs : List Item) (i : ℕ) (from d : DraftTree) → length xs ≤ i
    → first_fault (items_sizes text d (item_trees (drop i xs))) ≡ first_fault (items_sizes text from (item_trees xs))
    → first_fault (items_sizes text from (item_trees xs)) ≡ None
all_taken text xs i from d over so =
    sym so ∙ ap (λ l. first_fault (items_sizes text d (item_trees l))) (drop_all i xs over)

-- ---- the places of names of elements

abbrev pub with_functions : DraftTree → List ℕ → DraftTree
with_functions d fs = record d { places = record d.places { functions = fs } }

pub element_placed : (xs : List Name) (i : ℕ) (x : Name) (d next whole : DraftTree) → i < length xs
    → next ≡ with_functions d (d.places.functions ++ (get_or xs i x).start ∷ [])
    → with_functions d (d.places.functions ++ name_places (drop i xs)) ≡ whole
    → with_functions next (next.places.functions ++ name_places (drop (i + 1) xs)) ≡ whole
element_placed xs i x d next whole lt same so =
    let rest = name_places (drop (i + 1) xs) in
    let at = (get_or xs i x).start in
    ap (λ (e : DraftTree). with_functions e (e.places.functions ++ rest)) same
    ∙ ap (with_functions d) (append_assoc d.places.functions (at ∷ []) rest)
    ∙ ap (λ l. with_functions d (d.places.functions ++ name_places l)) (sym (drop_more xs i x lt)) ∙ so

pub elements_placed : (xs : List Name) (i : ℕ) (d whole : DraftTree) → length xs ≤ i
    → with_functions d (d.places.functions ++ name_places (drop i xs)) ≡ whole → d ≡ whole
elements_placed xs i d whole over so =
    ap (with_functions d) (sym (append-nil d.places.functions))
    ∙ ap (λ l. with_functions d (d.places.functions ++ name_places l)) (sym (drop_all i xs over)) ∙ so

-- ---- listed sorts

-- a sort whose elements are listed, with their places and then with the axiom
pub listed_sort : (text : List ℕ) (d : DraftTree) (name : Name) (names : List Name) (placed next : DraftTree) (sort first : ℕ)
    → 0 < length names → sort ≡ d.vocabulary.signature.sorts → first ≡ length d.vocabulary.signature.functions
    → placed ≡ with_functions (record d { vocabulary = words_with text d.vocabulary (Sort name names) })
    (d.places.functions ++ name_places names)
    → next ≡ record placed {
      listed = with_listed_axiom text placed.listed name
          (listed_axiom sort (count_from first (length placed.vocabulary.signature.functions - first)));
    }
    → next ≡ draft_with text d (Sort name names)
listed_sort text d name [] placed next sort first some s f p made = absurd (omega (arith, some))
listed_sort text d name (one ∷ names) placed next sort first some s f p made =
    let v = words_with text d.vocabulary (Sort name (one ∷ names)) in
    let inside = with_functions (record d { vocabulary = v }) (d.places.functions ++ name_places (one ∷ names)) in
    let count : length v.signature.functions - length d.vocabulary.signature.functions ≡ length (one ∷ names) =
    omega (arith, element_count text (with_sort text d.vocabulary name) d.vocabulary.signature.sorts (one ∷ names)) in
    let listed : ℕ → ℕ → ℕ → DraftTree = λ k i n. record inside {
      listed = with_listed_axiom text d.listed name (listed_axiom k (count_from i n));
    } in
    made
    ∙ ap (λ (e : DraftTree). record e {
      listed = with_listed_axiom text e.listed name
          (listed_axiom sort (count_from first (length e.vocabulary.signature.functions - first)));
    }) p
    ∙ ap (λ (k : ℕ). listed k first (length v.signature.functions - first)) s
    ∙ ap (λ (i : ℕ). listed d.vocabulary.signature.sorts i (length v.signature.functions - i)) f
    ∙ ap (listed d.vocabulary.signature.sorts (length d.vocabulary.signature.functions)) count

-- ---- definitions

-- a derived relation has at most 8 arguments
pub parameters_few : (sorted : WordsStaySorted) (text : List ℕ) (format : Format) (v : Vocabulary) (name : Name)
    (bs : List Binder) (e : ExprTree) → IsSorted v → first_fault (head_demands text v (Define name bs e)) ≡ None
    → first_fault (definition_demands text v bs e) ≡ None → length bs ≤ 8
parameters_few sorted text format v name bs e s head body =
    let ks = parameter_sorts text v bs in
    let all = (sorted text format v (Define name bs e) s head body).derived_short in
    let last : length v.derived < length (v.derived ++ ks ∷ []) = omega (arith, length-append v.derived (ks ∷ [])) in
    let one : length ks ≤ 8 = subst (λ (l : List ℕ). length l ≤ 8) (get_or-append_seam v.derived ks [] [])
    (all (length v.derived) [] last) in
    subst (λ (n : ℕ). n ≤ 8) (length-map bs (λ b. sort_number text v b.sort)) one
