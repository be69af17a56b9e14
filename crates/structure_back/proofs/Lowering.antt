-- Leaders that equations lower.
use Rattle.std.proofs.Common.{◌≡◌, ℕ, ◌+◌, ◌<◌, ◌≤◌, ◌⊎◌, inl, inr, Bool, true, List, [], ◌∷◌, ◌++◌, length, get_or}
use Rattle.std.proofs.Common.{map, take, refl, sym, ap, ◌∙◌, subst, arith, ⊎_elim}
use Rattle.std.proofs.lemmas.Bool.{cases_lt, cases_eq, or_cases, or_left, or_right}
use Rattle.std.proofs.lemmas.List.{length-map, length-append, map-append, get_or_append_left, get_or_push, get_or_past}
use Rattle.std.proofs.lemmas.List.{take_more, take_all}
use Rattle.fol_sig.specs.declared.Sort.{Sort}
use Rattle.ground_terms.specs.Same.{same_atom, holds_in}
use Rattle.ground_terms.specs.declared.atom.Atom.{Atom}
use Rattle.ground_terms.specs.declared.atom.Atom.TheVariants.{Rel, Eq}
use Rattle.structure_back.specs.Rows.{Rows, row_of, looked_up, with_number}
use Rattle.structure_back.specs.Leaders.{IsOwn, AreOwn, Lowers}
use Rattle.structure_back.proofs.RowFacts.{length-at, long-set, number-set, number-other_row, number-other}

-- the first n sorts have rows in which each number stands at its own place
pub record AreOwnTo (counts : List ℕ) (n : ℕ) (rows : Rows) : Type 0 where
  pub sorts : length rows ≡ n
  pub long : map length rows ≡ take n counts
  pub each : (k x : ℕ) → k < n → x < get_or counts k 0 → looked_up rows k x ≡ x

pub more-own : (counts : List ℕ) (n : ℕ) (rows new : Rows) (row : List ℕ) → n < length counts
    → AreOwnTo counts n rows → IsOwn (get_or counts n 0) row → new ≡ rows ++ row ∷ [] → AreOwnTo counts (n + 1) new
more-own counts n rows new row lt h own is = subst (AreOwnTo counts (n + 1)) (sym is) (record {
  sorts = length-append rows (row ∷ []) ∙ ap (λ m. m + 1) h.sorts;
  long = map-append length rows (row ∷ []) ∙ ap (λ ns. ns ++ length row ∷ []) h.long
      ∙ ap (λ m. take n counts ++ m ∷ []) own.long ∙ sym (take_more counts n 0 lt);
  each = λ k x lk lx.
      ⊎_elim
      (λ less.
      ap (λ zs. get_or zs x 0) (get_or_append_left rows (row ∷ []) [] k (omega (arith, h.sorts, less)))
      ∙ h.each k x less lx)
      (λ le.
      let at : n ≡ k = omega arith in
      ap (λ zs. get_or zs x 0) (get_or_push rows row [] k (h.sorts ∙ at))
      ∙ own.each x (subst (λ z. x < get_or counts z 0) (sym at) lx))
      (cases_lt k n);
})

pub all-own : (counts : List ℕ) (n : ℕ) (rows : Rows) → length counts ≤ n → AreOwnTo counts n rows → AreOwn counts rows
all-own counts n rows le h = record {
  long = h.long ∙ take_all n counts le;
  each = λ k x lx.
      ⊎_elim
      (λ less. h.each k x (omega arith) lx)
      (λ past. let none = get_or_past counts k 0 past in absurd (omega (arith, none, lx)))
      (cases_lt k (length counts));
}

-- the parts of an equation
sort_in : Atom → ℕ
sort_in (Rel r xs) = 0
sort_in (Eq k x y) = k.0

left_in : Atom → ℕ
left_in (Rel r xs) = 0
left_in (Eq k x y) = x

right_in : Atom → ℕ
right_in (Rel r xs) = 0
right_in (Eq k x y) = y

-- the left side was not below the leader of the right side
pub not_lower : (counts : List ℕ) (k : Sort) (left right : ℕ) (rows : Rows) → map length rows ≡ counts
    → (k.0 < length counts → right < get_or counts k.0 0 → looked_up rows k.0 right ≤ left)
    → Lowers counts (Eq k left right) rows rows
unfolding sort_in left_in right_in
not_lower counts k left right rows long h = record {
  long = long;
  lower = λ q x. omega arith;
  source = λ q x. inl refl;
  met = λ q x y lq lx e.
      let ke : k.0 ≡ q.0 = ap sort_in e in
      let le : left ≡ y = ap left_in e in
      let re : right ≡ x = ap right_in e in
      let lk = subst (λ z. z < length counts) (sym ke) lq in
      let lr =
      subst (λ z. z < get_or counts k.0 0) (sym re) (subst (λ z. x < get_or counts z 0) (sym ke) lx) in
      let there = h lk lr in
      let same : looked_up rows k.0 right ≡ looked_up rows q.0 x =
      ap (λ z. looked_up rows z right) ke ∙ ap (looked_up rows q.0) re in
      omega (arith, there, same, le);
}

pub lowered : (counts : List ℕ) (k : Sort) (left right : ℕ) (rows : Rows) → map length rows ≡ counts
    → k.0 < length counts → right < get_or counts k.0 0 → left < looked_up rows k.0 right
    → Lowers counts (Eq k left right) rows (with_number rows k.0 right left)
unfolding sort_in left_in right_in
lowered counts k left right rows long lk lr lower =
    let new = with_number rows k.0 right left in
    let known : k.0 < length rows = subst (λ n. k.0 < n) (sym (ap length long) ∙ length-map rows length) lk in
    let room : right < length (row_of rows k.0) =
    subst (λ n. right < n) (sym (length-at rows k.0 ∙ ap (λ ns. get_or ns k.0 0) long)) lr in
    let set_to = number-set rows k.0 right left known room in
    record {
      long = long-set rows k.0 right left ∙ long;
      lower = λ q x.
          ⊎_elim
          (λ same_row. ⊎_elim
          (λ same. subst (λ z. looked_up new z x ≤ looked_up rows z x) (sym same_row)
          (subst (λ z. looked_up new k.0 z ≤ looked_up rows k.0 z) (sym same) (omega (arith, set_to, lower))))
          (λ apart. subst (λ z. looked_up new z x ≤ looked_up rows z x) (sym same_row)
          (let e = number-other rows k.0 right left x known apart in omega (arith, e)))
          (cases_eq x right))
          (λ other_row. let e = number-other_row rows k.0 right left q x other_row in omega (arith, e))
          (cases_eq q k.0);
      source = λ q x.
          ⊎_elim
          (λ same_row. ⊎_elim
          (λ same. inr
          (λ i. Eq (record { 0 = sym same_row i })
          ((sym set_to ∙ ap (λ z. looked_up new z right) (sym same_row) ∙ ap (looked_up new q.0) (sym same)) i)
          (sym same i)))
          (λ apart. inl
          (subst (λ z. looked_up new z x ≡ looked_up rows z x) (sym same_row)
          (number-other rows k.0 right left x known apart)))
          (cases_eq x right))
          (λ other_row. inl (number-other_row rows k.0 right left q.0 x other_row))
          (cases_eq q.0 k.0);
      met = λ q x y lq lx e.
          let ke : k.0 ≡ q.0 = ap sort_in e in
          let le : left ≡ y = ap left_in e in
          let re : right ≡ x = ap right_in e in
          let same : looked_up new k.0 right ≡ looked_up new q.0 x = ap (λ z. looked_up new z right) ke
          ∙ ap (looked_up new q.0) re in
          omega (arith, same, set_to, le);
    }

-- the leaders once some atoms are still to come
pub record AreLeading (counts : List ℕ) (a : Atom → Bool) (rest : List Atom) (rows : Rows) : Type 0 where
  pub long : map length rows ≡ counts
  pub true_rest : (b : Atom) → holds_in rest b ≡ true → a b ≡ true
  pub first : (k x : ℕ) → x < get_or counts k 0 → looked_up rows k x ≤ x
  pub equal : (k : Sort) (x : ℕ) → k.0 < length counts → x < get_or counts k.0 0
      → a (Eq k (looked_up rows k.0 x) x) ≡ true
  pub least : (k : Sort) (x y : ℕ) → k.0 < length counts → x < get_or counts k.0 0 → a (Eq k y x) ≡ true
      → (looked_up rows k.0 x ≤ y) ⊎ (holds_in rest (Eq k y x) ≡ true)

module _ (same : (a b : Atom) → same_atom a b ≡ true → a ≡ b) (reflexive : (a : Atom) → same_atom a a ≡ true) where
  pub more-leading : (counts : List ℕ) (a : Atom → Bool) (b : Atom) (rest : List Atom) (old new : Rows)
      → AreLeading counts a (b ∷ rest) old → Lowers counts b old new → AreLeading counts a rest new
  more-leading counts a b rest old new h low =
      let true_b : a b ≡ true = h.true_rest b (or_left (same_atom b b) (holds_in rest b) (reflexive b)) in
      record {
        long = low.long;
        true_rest = λ c t. h.true_rest c (or_right (same_atom c b) (holds_in rest c) t);
        first = λ k x lx. let l = low.lower k x in let f = h.first k x lx in omega (arith, l, f);
        equal = λ k x lk lx.
            ⊎_elim
            (λ kept. subst (λ z. a (Eq k z x) ≡ true) (sym kept) (h.equal k x lk lx))
            (λ is. subst (λ c. a c ≡ true) is true_b)
            (low.source k x);
        least = λ k x y lk lx t.
            ⊎_elim
            (λ le. inl (let l = low.lower k.0 x in omega (arith, l, le)))
            (λ there. ⊎_elim
            (λ here. inl (low.met k x y lk lx (sym (same (Eq k y x) b here))))
            (λ later. inr later)
            (or_cases (same_atom (Eq k y x) b) (holds_in rest (Eq k y x)) there))
            (h.least k x y lk lx t);
      }
