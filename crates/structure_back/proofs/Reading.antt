-- The structure of classes has the atoms as assigned.
use Rattle.std.proofs.Common.{
  ◌≡◌,
  ℕ,
  zero,
  suc,
  ◌<◌,
  ◌≤◌,
  Bool,
  true,
  false,
  List,
  [],
  ◌∷◌,
  length,
  get_or,
  set,
  drop,
  refl,
  sym,
  ap,
  ◌∙◌,
  subst,
  arith,
}
use Rattle.std.proofs.lemmas.Bool.{eqb-true, eq-eqb}
use Rattle.fol_sig.specs.Tables.{Tables, InRange, reading, AreSorts, rel_at}
use Rattle.fol_sig.specs.Symbols.{Symbols, FitsStructure, AreSorted}
use Rattle.ground_terms.specs.Terms.{
  PlainTerm,
  default_constant,
  application,
  Lists,
  term_at,
  term_counts,
  AreTerms,
  IsTermAt,
  StandOnce,
}
use Rattle.ground_terms.specs.Numberings.{Numbering, numbering, IsPlaced}
use Rattle.ground_terms.specs.Values.{Elements, elements_of, value_of_term, Realises, IsOnto, AreValues}
use Rattle.ground_terms.specs.declared.atom.Atom.{Atom}
use Rattle.ground_terms.specs.declared.atom.Atom.TheVariants.{Rel}
use Rattle.equality_axioms.specs.Axioms.{equation}
use Rattle.equality_axioms.specs.Laws.{IsEquality}
use Rattle.structure_back.specs.ReadBack.{IsReadBack}
use Rattle.structure_back.specs.Rows.{Rows, looked_up}
use Rattle.structure_back.specs.Classes.{AreClasses}
use Rattle.structure_back.specs.Tables.{AreRelationsRead, AreFunctionsRead}
use Rattle.structure_back.proofs.Setting.{picked-within, sorts-tail}

same_truths : (p q : Bool) → (p ≡ true → q ≡ true) → (q ≡ true → p ≡ true) → p ≡ q
same_truths true q h k = sym (h refl)
same_truths false true h k = k refl
same_truths false false h k = refl

module _ (sig : Symbols) (names : Numbering) (a : Atom → Bool) (sizes : List ℕ) (numbers members : Rows)
    (sorted : AreSorted sig) (eq : IsEquality sig names a)
    (h : AreClasses sig names.counts a sizes numbers members) where
  abbrev counts : List ℕ
  counts = names.counts

  abbrev v : Elements
  v = looked_up numbers

  abbrev member : Elements
  member = looked_up members

  -- terms that are equal one by one
  abbrev pub Alike : List ℕ → List ℕ → List ℕ → Type 0
  Alike [] xs ys = Unit {0}
  Alike (k ∷ ks) [] ys = Unit {0}
  Alike (k ∷ ks) (x ∷ xs) [] = Unit {0}
  Alike (k ∷ ks) (x ∷ xs) (y ∷ ys) = (a (equation k x y) ≡ true) × Alike ks xs ys

  -- terms of one class are
  pub alike : (ks xs ys : List ℕ) → AreSorts sig.sorts ks → InRange counts ks xs → InRange counts ks ys
      → elements_of v ks xs ≡ elements_of v ks ys → Alike ks xs ys
  alike [] xs ys o r s e = tt
  alike (k ∷ ks) [] ys o r s e = tt
  alike (k ∷ ks) (x ∷ xs) [] o r s e = tt
  alike (k ∷ ks) (x ∷ xs) (y ∷ ys) o r s e =
      let head : v k x ≡ v k y = ap (λ zs. get_or zs 0 0) e in
      let tail : elements_of v ks xs ≡ elements_of v ks ys = ap (drop 1) e in (
        h.equal (record { 0 = k }) x y (o zero 0 (omega arith)) r.0 s.0
            ∙ eq-eqb (v k x) (v k y) head,
        alike ks xs ys (sorts-tail sig.sorts k ks o) r.1 s.1 tail,
      )

  pub members-back : (ks cs : List ℕ) → AreSorts sig.sorts ks → InRange sizes ks cs
      → elements_of v ks (elements_of member ks cs) ≡ cs
  members-back [] [] o r = refl
  members-back [] (c ∷ cs) o r = absurd r
  members-back (k ∷ ks) [] o r = absurd r
  members-back (k ∷ ks) (c ∷ cs) o r =
      let head = h.member_number k c (o zero 0 (omega arith)) r.0 in
      let tail = members-back ks cs (sorts-tail sig.sorts k ks o) r.1 in
      λ i. head i ∷ tail i

  -- one place after another
  along : (ks : List ℕ) (into : ℕ) (g : List ℕ → ℕ) → AreSorts sig.sorts ks → into < sig.sorts
      → ((xs : List ℕ) → InRange counts ks xs → g xs < get_or counts into 0)
      → ((i : ℕ) (xs : List ℕ) (y : ℕ) → i < length ks → InRange counts ks xs → y < get_or counts (get_or ks i 0) 0
      → a (equation (get_or ks i 0) (get_or xs i 0) y) ≡ true → a (equation into (g xs) (g (set xs i y))) ≡ true)
      → (xs ys : List ℕ) → InRange counts ks xs → InRange counts ks ys → Alike ks xs ys
      → a (equation into (g xs) (g ys)) ≡ true
  along [] into g o lt room step [] [] r s e = eq.reflexive (record { 0 = into }) (g []) lt (room [] tt)
  along [] into g o lt room step [] (y ∷ ys) r s e = absurd s
  along [] into g o lt room step (x ∷ xs) ys r s e = absurd r
  along (k ∷ ks) into g o lt room step [] ys r s e = absurd r
  along (k ∷ ks) into g o lt room step (x ∷ xs) [] r s e = absurd s
  along (k ∷ ks) into g o lt room step (x ∷ xs) (y ∷ ys) r s e =
      let first = step zero (x ∷ xs) y (omega arith) r s.0 e.0 in
      let rest =
      along ks into (λ zs. g (y ∷ zs)) (sorts-tail sig.sorts k ks o) lt (λ zs t. room (y ∷ zs) (s.0, t))
      (λ i zs z l t lz d. step (suc i) (y ∷ zs) z (omega arith) (s.0, t) lz d) xs ys r.1 s.1 e.1 in
      eq.transitive (record { 0 = into }) (g (x ∷ xs)) (g (y ∷ xs)) (g (y ∷ ys)) lt (room (x ∷ xs) r)
      (room (y ∷ xs) (s.0, r.1)) (room (y ∷ ys) s) first rest

  pub along_truth : (ks : List ℕ) (g : List ℕ → Bool)
      → ((i : ℕ) (xs : List ℕ) (y : ℕ) → i < length ks → InRange counts ks xs → y < get_or counts (get_or ks i 0) 0
      → a (equation (get_or ks i 0) (get_or xs i 0) y) ≡ true → g xs ≡ true → g (set xs i y) ≡ true)
      → (xs ys : List ℕ) → InRange counts ks xs → InRange counts ks ys → Alike ks xs ys → g xs ≡ true → g ys ≡ true
  along_truth [] g step [] [] r s e t = t
  along_truth [] g step [] (y ∷ ys) r s e t = absurd s
  along_truth [] g step (x ∷ xs) ys r s e t = absurd r
  along_truth (k ∷ ks) g step [] ys r s e t = absurd r
  along_truth (k ∷ ks) g step (x ∷ xs) [] r s e t = absurd s
  along_truth (k ∷ ks) g step (x ∷ xs) (y ∷ ys) r s e t =
      along_truth ks (λ zs. g (y ∷ zs))
      (λ i zs z l u lz d. step (suc i) (y ∷ zs) z (omega arith) (s.0, u) lz d) xs ys r.1 s.1 e.1
      (step zero (x ∷ xs) y (omega arith) r s.0 e.0 t)

  module _ (s : Tables) (same : s.sizes ≡ sizes)
      (numbered : (f : ℕ) (xs : List ℕ) → f < sig.functions → InRange counts (sig.from_of f) xs
      → names.place f xs < get_or counts (sig.into_of f) 0)
      (relations : AreRelationsRead sig counts a v s) (functions : AreFunctionsRead sig names v member s) where
    pub realises : Realises sig names a s v
    realises = record {
      within = λ k x lk lx. subst (λ ns. v k x < get_or ns k 0) (sym same) (h.within k x lk lx);
      applied = λ f xs lt r.
          let ks = sig.from_of f in
          let into = sig.into_of f in
          let o = sorted.functions f lt in
          let cs = elements_of v ks xs in
          let ys = elements_of member ks cs in
          let inside = picked-within counts sizes sig.sorts v h.within ks xs o r in
          let there = picked-within sizes counts sig.sorts member h.member_within ks cs o inside in
          let is_alike = alike ks xs ys o r there (sym (members-back ks cs o inside)) in
          let equal =
          along ks into (names.place f) o (sorted.into f lt) (λ zs t. numbered f zs lt t)
          (λ i zs z l t lz d. eq.functions f i zs z lt l t lz d) xs ys r there is_alike in
          eqb-true (v into (names.place f xs)) (v into (names.place f ys))
          (sym
          (h.equal (record { 0 = into }) (names.place f xs) (names.place f ys) (sorted.into f lt)
          (numbered f xs lt r) (numbered f ys lt there)) ∙ equal)
          ∙ sym (functions f cs lt (subst (λ ns. InRange ns ks cs) (sym same) inside));
      related = λ r xs lt inside.
          let ks = sig.sorts_of r.0 in
          let o = sorted.relations r.0 lt in
          let cs = elements_of v ks xs in
          let there = picked-within counts sizes sig.sorts v h.within ks xs o inside in
          same_truths (a (Rel r xs)) (rel_at s r.0 cs) (relations.whole r xs (lt, inside)) (λ t.
          let found = relations.only r cs lt (subst (λ ns. InRange ns ks cs) (sym same) there) t in
          along_truth ks (λ zs. a (Rel r zs))
          (λ i zs z l u lz d w. eq.relations r i zs z lt l u lz d w) found.1.0 xs found.1.1.1 inside
          (alike ks found.1.0 xs o found.1.1.1 inside found.1.3) (subst (λ b. a b ≡ true) found.1.2 found.2));
      equal = h.equal;
    }

    pub onto : IsOnto sig names s v
    onto k c lk lc = let l =
        subst (λ ns. c < get_or ns k 0) same lc in (member k c, h.member_within k c lk l, h.member_number k c lk l)

module _ (sig : Symbols) (lists : Lists) (a : Atom → Bool) (sizes : List ℕ) (numbers members : Rows)
    (h : AreClasses sig (term_counts lists) a sizes numbers members)
    (once : StandOnce sig lists)
    (placed : (f : ℕ) (xs : List ℕ) → f < sig.functions → InRange (term_counts lists) (sig.from_of f) xs
    → IsPlaced sig lists f xs)
    (s : Tables) (real : Realises sig (numbering sig lists) a s (looked_up numbers)) where
  -- the element of a term, by what the term is
  value-is : (k x : ℕ) (t : PlainTerm) → k < sig.sorts → x < get_or (term_counts lists) k 0 → term_at lists k x ≡ t
      → IsTermAt sig (term_counts lists) k x t
      → looked_up numbers k x ≡ value_of_term sig (reading s) (looked_up numbers) t
  value-is k x default_constant lk lx e is = ap (looked_up numbers k) is ∙ h.first k lk
  value-is k x (application f xs) lk lx e is =
      let there = placed f xs is.0 is.2 in
      let at : x ≡ (numbering sig lists).place f xs =
      once k x ((numbering sig lists).place f xs) lk lx
      (subst (λ z. (numbering sig lists).place f xs < get_or (term_counts lists) z 0) is.1 there.within)
      (e ∙ sym there.term ∙ ap (λ z. term_at lists z ((numbering sig lists).place f xs)) is.1) in
      ap (looked_up numbers k) at ∙ ap (λ z. looked_up numbers z ((numbering sig lists).place f xs)) (sym is.1)
      ∙ real.applied f xs is.0 is.2

  pub values : ((k : ℕ) → k < sig.sorts → AreTerms sig lists k) → AreValues sig lists s (looked_up numbers)
  values terms k x lk lx = value-is k x (term_at lists k x) lk lx refl ((terms k lk).each x lx)

-- where no relation changes, what was read stays
pub relations-kept : (sig : Symbols) (counts : List ℕ) (a : Atom → Bool) (v : Elements) (old new : Tables)
    → new.sizes ≡ old.sizes → new.relations ≡ old.relations
    → AreRelationsRead sig counts a v old → AreRelationsRead sig counts a v new
relations-kept sig counts a v old new same kept h =
    let mixed : Tables = record { sizes = new.sizes; relations = new.relations; functions = old.functions } in
    let is : old ≡ mixed = λ i. record { sizes = sym same i; relations = sym kept i; functions = old.functions } in
    let there = subst (AreRelationsRead sig counts a v) is h in
    record { whole = there.whole; only = there.only }

pub read_back : (sig : Symbols) (lists : Lists) (a : Atom → Bool) (sizes : List ℕ) (numbers members : Rows) (s : Tables)
    → AreSorted sig → StandOnce sig lists → ((k : ℕ) → k < sig.sorts → AreTerms sig lists k)
    → ((f : ℕ) (xs : List ℕ) → f < sig.functions → InRange (term_counts lists) (sig.from_of f) xs
    → IsPlaced sig lists f xs)
    → IsEquality sig (numbering sig lists) a → AreClasses sig (term_counts lists) a sizes numbers members
    → FitsStructure sig s → s.sizes ≡ sizes → AreRelationsRead sig (term_counts lists) a (looked_up numbers) s
    → AreFunctionsRead sig (numbering sig lists) (looked_up numbers) (looked_up members) s → IsReadBack sig lists a s
read_back sig lists a sizes numbers members s sorted once terms placed eq h fits same relations functions =
    let names = numbering sig lists in
    let real =
    realises sig names a sizes numbers members sorted eq h s same
    (λ f xs lt r. (placed f xs lt r).within) relations functions in
    record {
      elements = looked_up numbers;
      fits = fits;
      values = values sig lists a sizes numbers members h once placed s real terms;
      realises = real;
      onto =
          onto sig names a sizes numbers members sorted eq h s same
          (λ f xs lt r. (placed f xs lt r).within) relations functions;
      few = λ k lk. subst (λ ns. get_or ns k 0 ≤ get_or (term_counts lists) k 0) (sym same) (h.few k lk);
    }
