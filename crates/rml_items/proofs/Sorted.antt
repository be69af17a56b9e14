-- What is declared stays sorted with each item whose demands are met.
use Rattle.std.proofs.Common.{◌≡◌, ◌<◌, ◌≤◌, ◌+◌, ℕ, zero, suc, Bool, true, false, not, nat_lt, List, [], ◌∷◌, ◌++◌}
use Rattle.std.proofs.Common.{length, map, is_some, unwrap_or, None, Some, Option, slice_index_or, refl, sym, subst, arith}
use Rattle.std.proofs.Common.{length-append}
use Rattle.std.specs.List.{All}
use Rattle.std.specs.Str.{bytes_eq}
use Rattle.std.proofs.lemmas.List.{get_or_append_left, length-map, length_push}
use Rattle.std.proofs.lemmas.List.Quantifiers.{position-Some}
use Rattle.std.proofs.Math.Seq.{get_or-append_seam}
use Rattle.std.proofs.lemmas.Bool.Decides.{nat_tests}
use Rattle.fol_sig.specs.declared.Sort.{Sort}
use Rattle.fol_sig.specs.Tables.{Declared, AreSorts}
use Rattle.fol_sig.specs.Symbols.{symbols, AreSorted, no_function}
use Rattle.rml_lex.specs.declared.fault_code.FaultCode.TheVariants as fault_code
use Rattle.rml_terms.specs.declared.tree.Name.{Name}
use Rattle.rml_terms.specs.declared.tree.Binder.{Binder}
use Rattle.rml_syntax.specs.declared.tree.Format.{Format}
use Rattle.rml_syntax.specs.Tree as syntax
use Rattle.rml_syntax.specs.Tree.{ItemTree, Relation, Function, Variable, Axiom, Conjecture, Init, Action, Final, Define}
use Rattle.rml_terms.specs.Tree.{ExprTree}
use Rattle.rml_sort_check.specs.declared.wanted.Wanted.TheVariants.{Formula}
use Rattle.rml_sort_check.specs.Demands.{Demand, asks, first_fault, demands, binders_demands, definition_demands}
use Rattle.rml_sort_check.specs.Firsts.{met, met_left, met_right}
use Rattle.rml_names.specs.Vocabulary.{Vocabulary, name_count}
use Rattle.rml_names.specs.Meanings.{bytes_of, place_among, is_symbol, is_among, sort_by_name, sort_number, with_binders}
use Rattle.rml_names.specs.Growth.{with_sort, with_relation, with_function, with_element, with_elements}
use Rattle.rml_names.specs.Growth.{with_axiom, with_conjecture, with_action, with_definition}
use Rattle.rml_names.specs.Sound.{IsSorted}
use Rattle.rml_items.specs.Items.{Standing, declares, sort_known, sort_demands, declares_symbol, declares_sort}
use Rattle.rml_items.specs.Items.{element_demands, head_demands, once_demands, body_demands}
use Rattle.rml_items.specs.Items.{item_demands, words_with, parameter_sorts}
use Rattle.rml_items.specs.Laws.{WordsStaySorted}

-- one name more is allowed
few_more : (n : ℕ) → nat_lt n 1000 ≡ true → n + 1 ≤ 1000
few_more n h = grind (arith, nat_tests, h)

more_sorts : (n l : ℕ) → n ≤ l → (ks : List ℕ) → AreSorts n ks → AreSorts l ks
more_sorts n l le ks h = λ k d below. omega (arith, h k d below, le)

-- of a list with one more at its end, each is so
each_of : {A : Type 0} (P : A → Type 0) (xs : List A) (x d : A) → ((i : ℕ) → i < length xs → P (slice_index_or xs i d))
    → P x
    → (i : ℕ) → i < length (xs ++ x ∷ []) → P (slice_index_or (xs ++ x ∷ []) i d)
each_of P xs x d all one i h = by (nat_lt i (length xs)) refl
  where
    by : (b : Bool) → nat_lt i (length xs) ≡ b → P (slice_index_or (xs ++ x ∷ []) i d)
    by true e = let below : i < length xs = grind (arith, nat_tests, e) in
        subst P (sym (get_or_append_left xs (x ∷ []) d i below)) (all i below)
    by false e =
        let above : length xs ≤ i = grind (arith, nat_tests, e) in
        let last : length xs ≡ i = omega (arith, h, length-append xs (x ∷ [])) in
        subst P (sym (subst (λ (j : ℕ). slice_index_or (xs ++ x ∷ []) j d ≡ x) last (get_or-append_seam xs x [] d))) one

all_pushed : {A : Type 0} (P : A → Type 0) (xs : List A) (x : A) → All P xs → P x → All P (xs ++ x ∷ [])
all_pushed P xs x all one = λ k d below. each_of P xs x d (λ i h. all i d h) one k below

sorted_sorts : (sig : Declared) → AreSorted (symbols sig) → AreSorted (symbols (record sig { sorts = sig.sorts + 1 }))
sorted_sorts sig s = record {
  relations = λ r h. more_sorts sig.sorts (sig.sorts + 1) (omega arith) _ (s.relations r h);
  functions = λ f h. more_sorts sig.sorts (sig.sorts + 1) (omega arith) _ (s.functions f h);
  into = λ f h. omega (arith, s.into f h);
  relations_short = s.relations_short;
  functions_short = s.functions_short;
}

sorted_relations : (sig : Declared) (ks : List ℕ) → AreSorted (symbols sig) → AreSorts sig.sorts ks → length ks ≤ 8
    → AreSorted (symbols (record sig { relations = sig.relations ++ ks ∷ [] }))
sorted_relations sig ks s known short = record {
  relations = each_of (AreSorts sig.sorts) sig.relations ks [] s.relations known;
  functions = s.functions;
  into = s.into;
  relations_short = each_of (λ (l : List ℕ). length l ≤ 8) sig.relations ks [] s.relations_short short;
  functions_short = s.functions_short;
}

sorted_functions : (sig : Declared) (f : List ℕ × Sort) (listed : List ℕ) → AreSorted (symbols sig)
    → AreSorts sig.sorts f.0 → f.1.0 < sig.sorts → length f.0 ≤ 8
    → AreSorted (symbols (record sig { functions = sig.functions ++ f ∷ []; listed = listed }))
sorted_functions sig f listed s known into short = record {
  relations = s.relations;
  functions = each_of (λ (g : List ℕ × Sort). AreSorts sig.sorts g.0) sig.functions f no_function s.functions known;
  into = each_of (λ (g : List ℕ × Sort). g.1.0 < sig.sorts) sig.functions f no_function s.into into;
  relations_short = s.relations_short;
  functions_short = each_of (λ (g : List ℕ × Sort). length g.0 ≤ 8) sig.functions f no_function s.functions_short short;
}

pushed : {A B : Type 0} (xs : List A) (ys : List B) (x : A) (y : B) → length xs ≡ length ys
    → length (xs ++ x ∷ []) ≡ length (ys ++ y ∷ [])
pushed xs ys x y e = omega (arith, e, length-append xs (x ∷ []), length-append ys (y ∷ []))

known_below : (names : List (List ℕ)) (name : List ℕ) → is_some (place_among names name) ≡ true
    → unwrap_or (place_among names name) 0 < length names
known_below names name h = by (place_among names name) refl h
  where
    by : (o : Option ℕ) → place_among names name ≡ o → is_some o ≡ true → unwrap_or o 0 < length names
    by (Some k) e s = (position-Some (bytes_eq name) names k [] e).0
    by None e s = cc

module _ (text : List ℕ) where
  -- ---- one name more

  sort_sorted : (v : Vocabulary) (name : Name) → IsSorted v → name_count v + 1 ≤ 1000
      → IsSorted (with_sort text v name)
  sort_sorted v name s few = record {
    sorted = sorted_sorts v.signature s.sorted;
    derived_sorted = λ k d below. more_sorts v.signature.sorts (v.signature.sorts + 1) (omega arith) _
        (s.derived_sorted k d below);
    derived_short = s.derived_short;
    sorts = omega (arith, length_push v.names.sorts (bytes_of text name), s.sorts);
    relations = s.relations;
    functions = s.functions;
    derived = s.derived;
    few = omega (arith, few, length_push v.names.sorts (bytes_of text name));
  }

  relation_sorted : (v : Vocabulary) (name : Name) (ks : List ℕ) → IsSorted v → name_count v + 1 ≤ 1000
      → AreSorts v.signature.sorts ks → length ks ≤ 8 → IsSorted (with_relation text v name ks)
  relation_sorted v name ks s few known short = record {
    sorted = sorted_relations v.signature ks s.sorted known short;
    derived_sorted = s.derived_sorted;
    derived_short = s.derived_short;
    sorts = s.sorts;
    relations = pushed v.names.relations v.signature.relations (bytes_of text name) ks s.relations;
    functions = s.functions;
    derived = s.derived;
    few = omega (arith, few, length_push v.names.relations (bytes_of text name));
  }

  function_sorted : (v : Vocabulary) (name : Name) (ks : List ℕ) (k : ℕ) → IsSorted v → name_count v + 1 ≤ 1000
      → AreSorts v.signature.sorts ks → k < v.signature.sorts → length ks ≤ 8
      → IsSorted (with_function text v name ks k)
  function_sorted v name ks k s few known into short =
      let f : List ℕ × Sort = (ks, record { 0 = k }) in
      record {
        sorted = sorted_functions v.signature f v.signature.listed s.sorted known into short;
        derived_sorted = s.derived_sorted;
        derived_short = s.derived_short;
        sorts = s.sorts;
        relations = s.relations;
        functions = pushed v.names.functions v.signature.functions (bytes_of text name) f s.functions;
        derived = s.derived;
        few = omega (arith, few, length_push v.names.functions (bytes_of text name));
      }

  pub element_sorted : (v : Vocabulary) (sort : ℕ) (name : Name) → IsSorted v → name_count v + 1 ≤ 1000
      → sort < v.signature.sorts → IsSorted (with_element text v sort name)
  element_sorted v sort name s few into =
      let f : List ℕ × Sort = ([], record { 0 = sort }) in
      record {
        sorted = sorted_functions v.signature f (v.signature.listed ++ length v.signature.functions ∷ []) s.sorted
            (λ k d below. absurd (omega arith)) into (omega arith);
        derived_sorted = s.derived_sorted;
        derived_short = s.derived_short;
        sorts = s.sorts;
        relations = s.relations;
        functions = pushed v.names.functions v.signature.functions (bytes_of text name) f s.functions;
        derived = s.derived;
        few = omega (arith, few, length_push v.names.functions (bytes_of text name));
      }

  definition_sorted : (v : Vocabulary) (name : Name) (ks : List ℕ) → IsSorted v → name_count v + 1 ≤ 1000
      → AreSorts v.signature.sorts ks → length ks ≤ 8 → IsSorted (with_definition text v name ks)
  definition_sorted v name ks s few known short = record {
    sorted = s.sorted;
    derived_sorted = all_pushed (AreSorts v.signature.sorts) v.derived ks s.derived_sorted known;
    derived_short = all_pushed (λ (l : List ℕ). length l ≤ 8) v.derived ks s.derived_short short;
    sorts = s.sorts;
    relations = s.relations;
    functions = s.functions;
    derived = pushed v.derived_names v.derived (bytes_of text name) ks s.derived;
    few = omega (arith, few, length_push v.derived_names (bytes_of text name));
  }

  -- ---- demands that are met

  -- a declared name leaves room for one
  pub declared_few : (v : Vocabulary) (taken : Bool) (name : Name) (more : List Demand)
      → first_fault (declares v taken name ++ more) ≡ None → name_count v + 1 ≤ 1000
  declared_few v taken name more d =
      few_more (name_count v)
      (met (asks name.start fault_code.TooManyNames (nat_lt (name_count v) 1000)) more
      (met (asks name.start fault_code.DeclaredTwice (not taken))
      (asks name.start fault_code.TooManyNames (nat_lt (name_count v) 1000) ∷ more) d).1).0

  pub declared_few_alone : (v : Vocabulary) (taken : Bool) (name : Name) → first_fault (declares v taken name) ≡ None
      → name_count v + 1 ≤ 1000
  declared_few_alone v taken name d = declared_few v taken name [] d

  one_more : (n k : ℕ) (ks : List ℕ) → k < n → AreSorts n ks → AreSorts n (k ∷ ks)
  one_more n k ks h all zero x below = h
  one_more n k ks h all (suc j) x below = all j x (omega arith)

  sort_known_below : (v : Vocabulary) (sort : Name) → IsSorted v → is_some (sort_by_name text v sort) ≡ true
      → sort_number text v sort < v.signature.sorts
  sort_known_below v sort s h = omega (arith, known_below v.names.sorts (bytes_of text sort) h, s.sorts)

  -- known sorts, and no more than there may be
  sorts_known : (v : Vocabulary) (i : ℕ) (sorts : List Name) → IsSorted v
      → first_fault (sort_demands text v i sorts) ≡ None
      → AreSorts v.signature.sorts (map (sort_number text v) sorts)
  sorts_known v i [] s d = λ k x below. absurd (omega arith)
  sorts_known v i (sort ∷ sorts) s d =
      let a = met (sort_known text v sort)
      (asks sort.start fault_code.WrongArgumentCount (nat_lt i 8) ∷ sort_demands text v (suc i) sorts) d in
      let b = met (asks sort.start fault_code.WrongArgumentCount (nat_lt i 8)) (sort_demands text v (suc i) sorts)
      a.1 in
      one_more v.signature.sorts (sort_number text v sort) (map (sort_number text v) sorts)
      (sort_known_below v sort s a.0) (sorts_known v (suc i) sorts s b.1)

  sorts_few : (v : Vocabulary) (i : ℕ) (sorts : List Name) → i ≤ 8 → first_fault (sort_demands text v i sorts) ≡ None
      → length sorts + i ≤ 8
  sorts_few v i [] le d = omega arith
  sorts_few v i (sort ∷ sorts) le d =
      let a = met (sort_known text v sort)
      (asks sort.start fault_code.WrongArgumentCount (nat_lt i 8) ∷ sort_demands text v (suc i) sorts) d in
      let b = met (asks sort.start fault_code.WrongArgumentCount (nat_lt i 8)) (sort_demands text v (suc i) sorts)
      a.1 in
      let lt : i < 8 = grind (arith, nat_tests, b.0) in
      let rest : length sorts + suc i ≤ 8 = sorts_few v (suc i) sorts (omega arith) b.1 in omega arith

  binders_known : (v : Vocabulary) (earlier : List (List ℕ)) (i : ℕ) (bs : List Binder) → IsSorted v
      → first_fault (binders_demands text v earlier i bs) ≡ None
      → AreSorts v.signature.sorts (parameter_sorts text v bs)
  binders_known v earlier i [] s d = λ k x below. absurd (omega arith)
  binders_known v earlier i (b ∷ bs) s d =
      let more = binders_demands text v (bytes_of text b.name ∷ earlier) (suc i) bs in
      let last = asks b.sort.start fault_code.WrongArgumentCount (nat_lt i 8) in
      let known = asks b.sort.start fault_code.UnknownName (is_some (sort_by_name text v b.sort)) in
      let twice = asks b.name.start fault_code.DeclaredTwice (not (is_among earlier (bytes_of text b.name))) in
      let taken = asks b.name.start fault_code.TakenName (not (is_symbol v (bytes_of text b.name))) in
      let p = met taken (twice ∷ known ∷ last ∷ more) d in
      let q = met twice (known ∷ last ∷ more) p.1 in
      let r = met known (last ∷ more) q.1 in
      let t = met last more r.1 in
      one_more v.signature.sorts (sort_number text v b.sort) (parameter_sorts text v bs) (sort_known_below v b.sort s r.0)
      (binders_known v (bytes_of text b.name ∷ earlier) (suc i) bs s t.1)

  pub binders_few : (v : Vocabulary) (earlier : List (List ℕ)) (i : ℕ) (bs : List Binder) → i ≤ 8
      → first_fault (binders_demands text v earlier i bs) ≡ None → length bs + i ≤ 8
  binders_few v earlier i [] le d = omega arith
  binders_few v earlier i (b ∷ bs) le d =
      let more = binders_demands text v (bytes_of text b.name ∷ earlier) (suc i) bs in
      let last = asks b.sort.start fault_code.WrongArgumentCount (nat_lt i 8) in
      let known = asks b.sort.start fault_code.UnknownName (is_some (sort_by_name text v b.sort)) in
      let twice = asks b.name.start fault_code.DeclaredTwice (not (is_among earlier (bytes_of text b.name))) in
      let taken = asks b.name.start fault_code.TakenName (not (is_symbol v (bytes_of text b.name))) in
      let p = met taken (twice ∷ known ∷ last ∷ more) d in
      let q = met twice (known ∷ last ∷ more) p.1 in
      let r = met known (last ∷ more) q.1 in
      let t = met last more r.1 in
      let lt : i < 8 = grind (arith, nat_tests, t.0) in
      let rest : length bs + suc i ≤ 8 =
      binders_few v (bytes_of text b.name ∷ earlier) (suc i) bs (omega arith) t.1 in omega arith

  pub parameters_few : (v : Vocabulary) (bs : List Binder) (e : ExprTree)
      → first_fault (definition_demands text v bs e) ≡ None → length bs ≤ 8
  parameters_few v bs e d =
      let h = binders_few v [] 0 bs (omega arith)
      (met_left (binders_demands text v [] 0 bs) (demands text v (with_binders text v [] bs) Formula e) d) in
      omega (arith, h)

  -- ---- items

  elements_sorted : (v : Vocabulary) (sort : ℕ) (names : List Name) → IsSorted v → sort < v.signature.sorts
      → first_fault (element_demands text v sort names) ≡ None → IsSorted (with_elements text v sort names)
  elements_sorted v sort [] s into d = s
  elements_sorted v sort (name ∷ names) s into d =
      let n = bytes_of text name in
      let more = element_demands text (with_element text v sort name) sort names in
      elements_sorted (with_element text v sort name) sort names
      (element_sorted v sort name s (declared_few v (is_symbol v n) name more d) into) into
      (met_right (declares_symbol text v name) more d)

  -- a name of a sentence or an action more
  named : (v w : Vocabulary) → IsSorted v → w.signature ≡ v.signature → w.derived ≡ v.derived
      → w.names.sorts ≡ v.names.sorts → w.names.relations ≡ v.names.relations → w.names.functions ≡ v.names.functions
      → w.derived_names ≡ v.derived_names → name_count w ≤ 1000 → IsSorted w
  named v w s sig derived sorts relations functions names few = record {
    sorted = subst (λ (d : Declared). AreSorted (symbols d)) (sym sig) s.sorted;
    derived_sorted = rw (sig, derived) s.derived_sorted;
    derived_short = rw derived s.derived_short;
    sorts = rw (sig, sorts) s.sorts;
    relations = rw (sig, relations) s.relations;
    functions = rw (sig, functions) s.functions;
    derived = rw (derived, names) s.derived;
    few = few;
  }

  head_sorted : (v : Vocabulary) (item : ItemTree) → IsSorted v → first_fault (head_demands text v item) ≡ None
      → ((bs : List Binder) (name : Name) (e : ExprTree) → item ≡ Define name bs e
      → first_fault (binders_demands text v [] 0 bs) ≡ None) → IsSorted (words_with text v item)
  head_sorted v (syntax.Sort name names) s d binders =
      let more = element_demands text (with_sort text v name) v.signature.sorts names in
      elements_sorted (with_sort text v name) v.signature.sorts names
      (sort_sorted v name s (declared_few v (is_among v.names.sorts (bytes_of text name)) name more d)) (omega arith)
      (met_right (declares_sort text v name) more d)
  head_sorted v (Relation name sorts) s d binders =
      let ds = met_right (declares_symbol text v name) (sort_demands text v 0 sorts) d in
      relation_sorted v name (map (sort_number text v) sorts) s
      (declared_few v (is_symbol v (bytes_of text name)) name (sort_demands text v 0 sorts) d) (sorts_known v 0 sorts s ds)
      (omega (arith, length-map sorts (sort_number text v), sorts_few v 0 sorts (omega arith) ds))
  head_sorted v (Function name sorts sort) s d binders =
      let more = sort_demands text v 0 sorts ++ (sort_known text v sort ∷ []) in
      let both = met_right (declares_symbol text v name) more d in
      let ds = met_left (sort_demands text v 0 sorts) (sort_known text v sort ∷ []) both in
      let one = met_right (sort_demands text v 0 sorts) (sort_known text v sort ∷ []) both in
      function_sorted v name (map (sort_number text v) sorts) (sort_number text v sort) s
      (declared_few v (is_symbol v (bytes_of text name)) name more d) (sorts_known v 0 sorts s ds)
      (sort_known_below v sort s (met (sort_known text v sort) [] one).0)
      (omega (arith, length-map sorts (sort_number text v), sorts_few v 0 sorts (omega arith) ds))
  head_sorted v (Variable name sort) s d binders =
      let more = sort_known text v sort ∷ [] in
      let one = met_right (declares_symbol text v name) more d in
      function_sorted v name [] (sort_number text v sort) s
      (declared_few v (is_symbol v (bytes_of text name)) name more d) (λ k x below. absurd (omega arith))
      (sort_known_below v sort s (met (sort_known text v sort) [] one).0) (omega arith)
  head_sorted v (Axiom name e) s d binders = named v (with_axiom text v name) s refl refl refl refl refl refl
      (omega (arith, declared_few v _ name [] d, length_push v.names.axioms (bytes_of text name)))
  head_sorted v (Conjecture name e) s d binders =
      named v (with_conjecture text v name) s refl refl refl refl refl refl
      (omega (arith, declared_few v _ name [] d, length_push v.names.conjectures (bytes_of text name)))
  head_sorted v (Init at cs) s d binders = s
  head_sorted v (Action name cs) s d binders = named v (with_action text v name) s refl refl refl refl refl refl
      (omega (arith, declared_few v _ name [] d, length_push v.names.actions (bytes_of text name)))
  head_sorted v (Final at cs) s d binders = s
  head_sorted v (Define name bs e) s d binders =
      let ks = binders bs name e refl in
      definition_sorted v name (parameter_sorts text v bs) s
      (declared_few v (is_symbol v (bytes_of text name)) name [] d) (binders_known v [] 0 bs s ks)
      (omega (arith, length-map bs (λ b. sort_number text v b.sort), binders_few v [] 0 bs (omega arith) ks))

pub words_sorted : WordsStaySorted
words_sorted text format v item s head body =
    head_sorted text v item s head (λ bs name e same. binders_met bs name e same)
  where
    binders_met : (bs : List Binder) (name : Name) (e : ExprTree) → item ≡ Define name bs e
        → first_fault (binders_demands text v [] 0 bs) ≡ None
    binders_met bs name e same =
        met_left (binders_demands text v [] 0 bs) (demands text v (with_binders text v [] bs) Formula e)
        (subst (λ i. first_fault (body_demands text format v i) ≡ None) same body)

pub item_sorted : (text : List ℕ) (format : Format) (d : Standing) (item : ItemTree) → IsSorted d.words
    → first_fault (item_demands text format d item) ≡ None → IsSorted (words_with text d.words item)
item_sorted text format d item s is =
    let more = once_demands text d item ++ body_demands text format d.words item in
    words_sorted text format d.words item s (met_left (head_demands text d.words item) more is)
    (met_right (once_demands text d item) (body_demands text format d.words item)
    (met_right (head_demands text d.words item) more is))
