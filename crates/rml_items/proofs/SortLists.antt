-- Argument sorts, one after another.
use Rattle.std.proofs.Common.{◌≡◌, ◌+◌, ◌<◌, ◌++◌, ℕ, zero, suc, Bool, true, false, nat_lt, if◌then◌else◌, List, []}
use Rattle.std.proofs.Common.{◌∷◌, length, drop, get_or, Option, Some, None, refl, sym, subst, ap, ◌∙◌, arith}
use Rattle.base.specs.declared.refused.Refused.{Refused}
use Rattle.rml_lex.specs.declared.token.Fault.{Fault}
use Rattle.rml_lex.specs.declared.fault_code.FaultCode.TheVariants as fault_code
use Rattle.fol_sig.specs.declared.Sort.{Sort}
use Rattle.fol_sig.specs.Tables.{AreSorts, numbers}
use Rattle.std.proofs.lemmas.List.{length-map}
use Rattle.base.proofs.Lists.{drop_read}
use Rattle.rml_terms.specs.declared.tree.Name.{Name}
use Rattle.rml_terms.specs.Within.{NamesWithin}
use Rattle.rml_names.specs.Vocabulary.{Vocabulary}
use Rattle.rml_sort_check.specs.Demands.{asks, first_fault}
use Rattle.rml_items.specs.Items.{sort_known, sort_demands, declares_symbol, element_demands}
use Rattle.rml_names.specs.Growth.{with_element, with_elements}
use Rattle.rml_sort_check.specs.Firsts.{first_left, first_right}
use Rattle.rml_items.specs.Answered.{Refuses, refuses_as, refuses_left}

module _ (text : List ℕ) (m : Vocabulary) where
  -- the demands from a place on
  at_place : (k : ℕ) (xs : List Name) (i : ℕ) (x : Name) → i < length xs → x ≡ get_or xs i x
      → sort_demands text m k (drop i xs) ≡ (sort_known text m x ∷ [])
      ++ (asks x.start fault_code.WrongArgumentCount (nat_lt k 8) ∷ sort_demands text m (suc k) (drop (i + 1) xs))
  at_place k xs i x lt is = ap (sort_demands text m k) (drop_read xs i x lt is)

  pub sort_refused : (k : ℕ) (xs : List Name) (i : ℕ) (x : Name) (e : Refused Fault) → i < length xs → x ≡ get_or xs i x
      → first_fault (sort_demands text m k (drop i xs)) ≡ first_fault (sort_demands text m 0 xs)
      → Refuses (sort_known text m x ∷ []) e → Refuses (sort_demands text m 0 xs) e
  sort_refused k xs i x e lt is so h =
      let front = sort_known text m x ∷ [] in
      let rest = asks x.start fault_code.WrongArgumentCount (nat_lt k 8)
      ∷ sort_demands text m (suc k) (drop (i + 1) xs) in
      refuses_as (front ++ rest) (sort_demands text m 0 xs) e (ap first_fault (sym (at_place k xs i x lt is)) ∙ so)
      (refuses_left front rest e h)

  -- behind a known sort
  behind_known : (k : ℕ) (xs : List Name) (i : ℕ) (x : Name) → i < length xs → x ≡ get_or xs i x
      → first_fault (sort_demands text m k (drop i xs)) ≡ first_fault (sort_demands text m 0 xs)
      → first_fault (sort_known text m x ∷ []) ≡ None
      → first_fault (asks x.start fault_code.WrongArgumentCount (nat_lt k 8)
      ∷ sort_demands text m (suc k) (drop (i + 1) xs)) ≡ first_fault (sort_demands text m 0 xs)
  behind_known k xs i x lt is so known =
      let front = sort_known text m x ∷ [] in
      let rest = asks x.start fault_code.WrongArgumentCount (nat_lt k 8)
      ∷ sort_demands text m (suc k) (drop (i + 1) xs) in
      sym (first_right front rest known) ∙ ap first_fault (sym (at_place k xs i x lt is)) ∙ so

  pub ninth_refused : (k : ℕ) (xs : List Name) (i : ℕ) (x : Name) → i < length xs → x ≡ get_or xs i x
      → first_fault (sort_demands text m k (drop i xs)) ≡ first_fault (sort_demands text m 0 xs)
      → first_fault (sort_known text m x ∷ []) ≡ None → nat_lt k 8 ≡ false
      → first_fault (sort_demands text m 0 xs) ≡ Some (record { code = fault_code.WrongArgumentCount; at = x.start })
  ninth_refused k xs i x lt is so known many =
      sym (behind_known k xs i x lt is so known)
      ∙ ap (λ (b : Bool). if b then first_fault (sort_demands text m (suc k) (drop (i + 1) xs)) else Some
      (record { code = fault_code.WrongArgumentCount; at = x.start })) many

  pub sort_turn : (k l : ℕ) (xs : List Name) (i : ℕ) (x : Name) → i < length xs → x ≡ get_or xs i x
      → first_fault (sort_demands text m k (drop i xs)) ≡ first_fault (sort_demands text m 0 xs)
      → first_fault (sort_known text m x ∷ []) ≡ None → nat_lt k 8 ≡ true → l ≡ suc k
      → first_fault (sort_demands text m l (drop (i + 1) xs)) ≡ first_fault (sort_demands text m 0 xs)
  sort_turn k l xs i x lt is so known few next =
      ap (λ (j : ℕ). first_fault (sort_demands text m j (drop (i + 1) xs))) next
      ∙ sym (ap (λ (b : Bool). if b then first_fault (sort_demands text m (suc k) (drop (i + 1) xs)) else Some
      (record { code = fault_code.WrongArgumentCount; at = x.start })) few)
      ∙ behind_known k xs i x lt is so known

pub names_left : (n : ℕ) (xs : List Name) (i : ℕ) (x : Name) → i < length xs → x ≡ get_or xs i x
    → NamesWithin n (drop i xs) → NamesWithin n (drop (i + 1) xs)
names_left n xs i x lt is h = let both : NamesWithin n (x ∷ drop (i + 1) xs) =
    subst (λ l. NamesWithin n l) (drop_read xs i x lt is) h in both.1

-- sorts and their numbers are as many
pub as_many : (ks : List Sort) (ns : List ℕ) → numbers ks ≡ ns → length ks ≡ length ns
as_many ks ns is = sym (length-map ks (λ k. k.0)) ∙ ap length is

pub sort_more : (n : ℕ) (old new : List ℕ) (k : ℕ) → new ≡ old ++ k ∷ [] → AreSorts n old → k < n → AreSorts n new
sort_more n old new k is all below = subst (AreSorts n) (sym is) (each old all)
  where
    each : (ks : List ℕ) → AreSorts n ks → AreSorts n (ks ++ k ∷ [])
    each [] h zero d lt = below
    each [] h (suc j) d lt = absurd (omega arith)
    each (l ∷ ks) h zero d lt = h 0 d (omega arith)
    each (l ∷ ks) h (suc j) d lt = each ks (λ i e less. h (suc i) e (omega arith)) j d (omega arith)

-- what stands at a place of the list does not hang on what is given for a place beyond it
pub read_again : {A : Type 0} (xs : List A) (i : ℕ) (d : A) → i < length xs
    → get_or xs i d ≡ get_or xs i (get_or xs i d)
read_again [] i d lt = absurd (omega arith)
read_again (x ∷ xs) zero d lt = refl
read_again (x ∷ xs) (suc i) d lt = read_beyond xs i d (get_or xs i d) (omega arith)
  where
    read_beyond : {A : Type 0} (xs : List A) (i : ℕ) (d e : A) → i < length xs → get_or xs i d ≡ get_or xs i e
    read_beyond [] i d e lt = absurd (omega arith)
    read_beyond (x ∷ xs) zero d e lt = refl
    read_beyond (x ∷ xs) (suc i) d e lt = read_beyond xs i d e (omega arith)

-- ---- names of elements, one after another

module _ (text : List ℕ) (sort : ℕ) (xs : List Name) (i : ℕ) (x : Name) (lt : i < length xs) (is : x ≡ get_or xs i x)
    (v : Vocabulary) where
  element_at : element_demands text v sort (drop i xs) ≡ declares_symbol text v x
      ++ element_demands text (with_element text v sort x) sort (drop (i + 1) xs)
  element_at = ap (element_demands text v sort) (drop_read xs i x lt is)

  pub element_refused : (whole : Option Fault) (f : Fault) → first_fault (declares_symbol text v x) ≡ Some f
      → first_fault (element_demands text v sort (drop i xs)) ≡ whole → whole ≡ Some f
  element_refused whole f found so =
      sym so ∙ ap first_fault element_at
      ∙ first_left (declares_symbol text v x) (element_demands text (with_element text v sort x) sort (drop (i + 1) xs)) f
      found

  pub element_turn : (next : Vocabulary) (whole : Option Fault) → next ≡ with_element text v sort x
      → first_fault (declares_symbol text v x) ≡ None
      → first_fault (element_demands text v sort (drop i xs)) ≡ whole
      → first_fault (element_demands text next sort (drop (i + 1) xs)) ≡ whole
  element_turn next whole same met so =
      ap (λ (w : Vocabulary). first_fault (element_demands text w sort (drop (i + 1) xs))) same
      ∙ sym (first_right (declares_symbol text v x)
      (element_demands text (with_element text v sort x) sort (drop (i + 1) xs)) met)
      ∙ sym (ap first_fault element_at) ∙ so

  pub elements_made : (next whole : Vocabulary) → next ≡ with_element text v sort x
      → with_elements text v sort (drop i xs) ≡ whole → with_elements text next sort (drop (i + 1) xs) ≡ whole
  elements_made next whole same so =
      ap (λ (w : Vocabulary). with_elements text w sort (drop (i + 1) xs)) same
      ∙ sym (ap (with_elements text v sort) (drop_read xs i x lt is)) ∙ so
