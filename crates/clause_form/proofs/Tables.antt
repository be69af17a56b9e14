-- The row of the atoms' variables.
use Rattle.std.proofs.Common.{◌≡◌, ℕ, ◌<◌, ◌≤◌, ◌^◌, Bool, true, false, cond, List, [], ◌∷◌, ◌++◌, Option, Some, None}
use Rattle.std.proofs.Common.{length, get_or, slice_set, refl, sym, ◌∙◌, ap, subst, arith}
use Rattle.std.specs.Option.{unwrap_or}
use Rattle.std.proofs.lemmas.Grind.{common_steps}
use Rattle.fol_sig.specs.Symbols.{symbols}
use Rattle.ground_terms.specs.declared.atom.Atom.{Atom}
use Rattle.ground_terms.specs.Same.{same_atom}
use Rattle.ground_terms.specs.AtomNumbers.{FitsAtom, atom_number, atom_count, AtomsAreNumbered}
use Rattle.ground_terms.specs.AtomSpaces.{AtomSpace}
use Rattle.clause_form.specs.Numbers.{variable_in}
use Rattle.clause_form.specs.Tables.{IsNumbered, FindsEach}
use Rattle.clause_form.proofs.Below.{AtomsAreSame}
use Rattle.clause_form.proofs.Growth.{found_last, keeps_append}

-- a longer row
pub same-row : (s : AtomSpace) (row wider : List ℕ) (atoms : List (Atom × ℕ)) → FindsEach s row atoms
    → ((k : ℕ) → get_or wider k 0 ≡ get_or row k 0) → FindsEach s wider atoms
same-row s row wider atoms f same = record { found = λ a h. same _ ∙ f.found a h; given = f.given }

module _ (same : AtomsAreSame) where
  new-found : (xs : List (Atom × ℕ)) (a : Atom) (v : ℕ) → variable_in xs a ≡ None
      → variable_in (xs ++ (a, v) ∷ []) a ≡ Some v
  new-found xs a v h = found_last xs a a v h ∙ ap (λ t. cond t (Some v) None) (same.reflexive a)

  other-found : (xs : List (Atom × ℕ)) (a b : Atom) (v : ℕ) → same_atom b a ≡ false
      → variable_in (xs ++ (a, v) ∷ []) b ≡ variable_in xs b
  other-found xs a b v d = by (variable_in xs b) refl
    where
      by : (o : Option ℕ) → variable_in xs b ≡ o → variable_in (xs ++ (a, v) ∷ []) b ≡ variable_in xs b
      by None e = found_last xs a b v e ∙ ap (λ t. cond t (Some v) None) d ∙ sym e
      by (Some k) e = keeps_append xs ((a, v) ∷ []) b k e ∙ sym e

  given-more : (xs : List (Atom × ℕ)) (a : Atom) (v : ℕ)
      → ((b : Atom) (n : ℕ) → variable_in xs b ≡ Some n → (0 < n) × (n < 2 ^ 31)) → variable_in xs a ≡ None
      → (0 < v) × (v < 2 ^ 31)
      → (b : Atom) (n : ℕ) → variable_in (xs ++ (a, v) ∷ []) b ≡ Some n → (0 < n) × (n < 2 ^ 31)
  given-more xs a v f new r b n h = by (same_atom b a) refl
    where
      by : (t : Bool) → same_atom b a ≡ t → (0 < n) × (n < 2 ^ 31)
      by true e =
          let g : Some v ≡ Some n = sym (new-found xs a v new)
          ∙ ap (variable_in (xs ++ (a, v) ∷ [])) (sym (same.same b a e)) ∙ h in
          let i : v ≡ n = cc g in
          subst (λ m. (0 < m) × (m < 2 ^ 31)) i r
      by false e = f b n (sym (other-found xs a b v e) ∙ h)

  -- an atom without a number is added
  pub added-unnumbered : (s : AtomSpace) (row : List ℕ) (xs : List (Atom × ℕ)) (a : Atom) (v : ℕ) → FindsEach s row xs
      → variable_in xs a ≡ None → (0 < v) × (v < 2 ^ 31)
      → (FitsAtom (symbols s.signature) s.counts a → 2 ^ 32 ≤ atom_count (symbols s.signature) s.counts)
      → FindsEach s row (xs ++ (a, v) ∷ [])
  added-unnumbered s row xs a v f new r none = record {
    found = λ b h. f.found b h ∙ ap (λ o. unwrap_or o 0) (sym (other-found xs a b v (differs b h)));
    given = given-more xs a v f.given new r;
  }
    where
      differs : (b : Atom) → IsNumbered s b → same_atom b a ≡ false
      differs b h = by (same_atom b a) refl
        where
          by : (t : Bool) → same_atom b a ≡ t → t ≡ false
          by true e = let m = none (subst (FitsAtom (symbols s.signature) s.counts) (same.same b a e) h.0) in
              absurd (omega (arith, m, h.1))
          by false e = refl

  set-there : (row : List ℕ) (n m v : ℕ) → m ≡ n → n < length row → get_or (slice_set row n v) m 0 ≡ v
  set-there row n m v e lt = grind (arith, common_steps)

  set-elsewhere : (row : List ℕ) (n m v : ℕ) → (m ≡ n → ⊥) → get_or (slice_set row n v) m 0 ≡ get_or row m 0
  set-elsewhere row n m v d = grind (arith, common_steps)

  -- an atom with a number is added
  pub added-numbered : (s : AtomSpace) (row : List ℕ) (xs : List (Atom × ℕ)) (a : Atom) (v n : ℕ)
      → AtomsAreNumbered (symbols s.signature) s.counts → FindsEach s row xs → variable_in xs a ≡ None
      → (0 < v) × (v < 2 ^ 31) → FitsAtom (symbols s.signature) s.counts a
      → n ≡ atom_number (symbols s.signature) s.counts a → n < length row
      → FindsEach s (slice_set row n v) (xs ++ (a, v) ∷ [])
  added-numbered s row xs a v n numbered f new r fits is lt = record {
    found = λ b h. by b h (same_atom b a) refl;
    given = given-more xs a v f.given new r;
  }
    where
      by : (b : Atom) → IsNumbered s b → (t : Bool) → same_atom b a ≡ t
          → get_or (slice_set row n v) (atom_number (symbols s.signature) s.counts b) 0
          ≡ unwrap_or (variable_in (xs ++ (a, v) ∷ []) b) 0
      by b h true e =
          let i : b ≡ a = same.same b a e in
          set-there row n (atom_number (symbols s.signature) s.counts b) v
          (ap (atom_number (symbols s.signature) s.counts) i ∙ sym is) lt
          ∙ ap (λ o. unwrap_or o 0) (sym (new-found xs a v new))
          ∙ ap (λ x. unwrap_or (variable_in (xs ++ (a, v) ∷ []) x) 0) (sym i)
      by b h false e =
          set-elsewhere row n (atom_number (symbols s.signature) s.counts b) v
          (λ m. let i : true ≡ false = sym (same.reflexive a)
          ∙ ap (λ x. same_atom x a) (sym (numbered.once b a h.0 fits (m ∙ is))) ∙ e in cc i)
          ∙ f.found b h ∙ ap (λ o. unwrap_or o 0) (sym (other-found xs a b v e))
