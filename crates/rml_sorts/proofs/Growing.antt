-- The symbols of a vocabulary are among those of one with an item more.
use Rattle.std.proofs.Common.{◌≡◌, ◌<◌, ◌≤◌, ◌+◌, ℕ, Bool, true, false, nat_lt, List, [], ◌∷◌, ◌++◌, length, refl, sym}
use Rattle.std.proofs.Common.{subst, ap, ◌∙◌, arith, length-append}
use Rattle.std.proofs.lemmas.List.{get_or_append_left}
use Rattle.std.proofs.Math.Seq.{get_or-append_seam}
use Rattle.std.proofs.lemmas.Bool.Decides.{nat_tests}
use Rattle.fol_sig.specs.declared.Sort.{Sort}
use Rattle.fol_sig.specs.Tables.{Declared}
use Rattle.fol_sig.specs.Symbols.{Symbols, symbols, no_function}
use Rattle.rml_terms.specs.declared.tree.Name.{Name}
use Rattle.rml_names.specs.Vocabulary.{Vocabulary}
use Rattle.rml_names.specs.Growth.{with_element, with_elements}
use Rattle.rml_sorts.specs.Sound.{AreElements}
use Rattle.rml_sorts.proofs.Extending.{Extends, same_symbols, further}

pub grown_sorts : (sig : Declared) → Extends (symbols sig) (symbols (record sig { sorts = sig.sorts + 1 }))
grown_sorts sig = record {
  sorts = omega arith;
  relations = omega arith;
  functions = omega arith;
  sorts_of = λ r h. refl;
  from_of = λ f h. refl;
  into_of = λ f h. refl;
}

pub grown_relations : (sig : Declared) (ks : List ℕ)
    → Extends (symbols sig) (symbols (record sig { relations = sig.relations ++ ks ∷ [] }))
grown_relations sig ks = record {
  sorts = omega arith;
  relations = omega (arith, length-append sig.relations (ks ∷ []));
  functions = omega arith;
  sorts_of = λ r h. get_or_append_left sig.relations (ks ∷ []) [] r h;
  from_of = λ f h. refl;
  into_of = λ f h. refl;
}

pub grown_functions : (sig : Declared) (f : List ℕ × Sort) (listed : List ℕ)
    → Extends (symbols sig) (symbols (record sig { functions = sig.functions ++ f ∷ []; listed = listed }))
grown_functions sig f listed = record {
  sorts = omega arith;
  relations = omega arith;
  functions = omega (arith, length-append sig.functions (f ∷ []));
  sorts_of = λ r h. refl;
  from_of = λ g h. ap (λ (x : List ℕ × Sort). x.0) (get_or_append_left sig.functions (f ∷ []) no_function g h);
  into_of = λ g h. ap (λ (x : List ℕ × Sort). x.1.0) (get_or_append_left sig.functions (f ∷ []) no_function g h);
}

module _ (text : List ℕ) where
  pub grown_elements : (v : Vocabulary) (sort : ℕ) (names : List Name)
      → Extends (symbols v.signature) (symbols (with_elements text v sort names).signature)
  grown_elements v sort [] = same_symbols (symbols v.signature)
  grown_elements v sort (name ∷ names) =
      further (symbols v.signature) (symbols (with_element text v sort name).signature)
      (symbols (with_elements text (with_element text v sort name) sort names).signature)
      (grown_functions v.signature ([], record { 0 = sort }) (v.signature.listed ++ length v.signature.functions ∷ []))
      (grown_elements (with_element text v sort name) sort names)

  pub element_count : (v : Vocabulary) (sort : ℕ) (names : List Name)
      → length (with_elements text v sort names).signature.functions ≡ length v.signature.functions + length names
  element_count v sort [] = omega arith
  element_count v sort (name ∷ names) =
      let f : List ℕ × Sort = ([], record { 0 = sort }) in
      omega (
        arith,
        element_count (with_element text v sort name) sort names,
        length-append v.signature.functions (f ∷ []),
      )

  -- the functions behind those before are the names of the elements
  pub elements_are : (v : Vocabulary) (sort : ℕ) (names : List Name)
      → AreElements (with_elements text v sort names).signature sort (length v.signature.functions)
  elements_are v sort [] f from below = absurd (omega (arith, from, below))
  elements_are v sort (name ∷ names) f from below =
      by (nat_lt (length v.signature.functions) f) refl (elements_are (with_element text v sort name) sort names f)
    where
      by : (b : Bool) → nat_lt (length v.signature.functions) f ≡ b
          → (length (with_element text v sort name).signature.functions ≤ f
          → f < length (with_elements text v sort (name ∷ names)).signature.functions
          → ((symbols (with_elements text v sort (name ∷ names)).signature).from_of f ≡ [])
          × ((symbols (with_elements text v sort (name ∷ names)).signature).into_of f ≡ sort))
          → ((symbols (with_elements text v sort (name ∷ names)).signature).from_of f ≡ [])
          × ((symbols (with_elements text v sort (name ∷ names)).signature).into_of f ≡ sort)
      by true e behind =
          let above : length v.signature.functions < f = grind (arith, nat_tests, e) in
          behind (omega (arith, above, length-append v.signature.functions (([], record { 0 = sort }) ∷ []))) below
      by false e behind =
          let at : f ≤ length v.signature.functions = grind (arith, nat_tests, e) in
          let same : length v.signature.functions ≡ f = omega (arith, at, from) in
          let x = grown_elements (with_element text v sort name) sort names in
          let little : f < length (with_element text v sort name).signature.functions =
          omega (arith, same, length-append v.signature.functions (([], record { 0 = sort }) ∷ [])) in
          let is = get_or-append_seam v.signature.functions (([], record { 0 = sort })) [] no_function in (
            x.from_of f little
                ∙ subst (λ (j : ℕ). (symbols (with_element text v sort name).signature).from_of j ≡ []) same
                (ap (λ (g : List ℕ × Sort). g.0) is),
            x.into_of f little
                ∙ subst (λ (j : ℕ). (symbols (with_element text v sort name).signature).into_of j ≡ sort) same
                (ap (λ (g : List ℕ × Sort). g.1.0) is),
          )
