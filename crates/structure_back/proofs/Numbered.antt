-- Classes by their leaders are the classes of equal terms.
use Rattle.std.proofs.Common.{
  ◌≡◌,
  ℕ,
  zero,
  suc,
  ◌+◌,
  ◌<◌,
  ◌≤◌,
  Bool,
  true,
  List,
  [],
  ◌∷◌,
  ◌++◌,
  length,
  get_or,
  map,
  refl,
  sym,
  ap,
  ◌∙◌,
  subst,
  arith,
  ⊎_elim,
}
use Rattle.std.proofs.lemmas.Bool.{cases_lt, cases_Bool, eq-eqb, ne_eqb, true≢false}
use Rattle.std.proofs.lemmas.List.{length-map, length-append, get_or_append_left, get_or_push, map-append}
use Rattle.fol_sig.specs.declared.Sort.{Sort}
use Rattle.fol_sig.specs.Symbols.{Symbols}
use Rattle.ground_terms.specs.Numberings.{Numbering}
use Rattle.ground_terms.specs.declared.atom.Atom.{Atom}
use Rattle.ground_terms.specs.declared.atom.Atom.TheVariants.{Eq}
use Rattle.equality_axioms.specs.Laws.{IsEquality}
use Rattle.structure_back.specs.Rows.{Rows, row_of, looked_up}
use Rattle.structure_back.specs.Leaders.{AreLeaders, AreReflexive}
use Rattle.structure_back.specs.Classes.{AreLed, IsNumbered, AreNumbered, AreClasses}
use Rattle.structure_back.proofs.RowFacts.{length-at}

pub more-numbered : (leaders numbers members new_numbers new_members : Rows) (sizes new_sizes : List ℕ) (n : ℕ)
    (row led : List ℕ)
    → AreNumbered leaders n sizes numbers members → IsNumbered (row_of leaders n) (length (row_of leaders n)) row led
    → new_sizes ≡ sizes ++ length led ∷ [] → new_numbers ≡ numbers ++ row ∷ [] → new_members ≡ members ++ led ∷ []
    → AreNumbered leaders (n + 1) new_sizes new_numbers new_members
more-numbered leaders numbers members new_numbers new_members sizes new_sizes n row led h here s p q = record {
  sorts = ap length p ∙ length-append numbers (row ∷ []) ∙ ap (λ m. m + 1) h.sorts;
  members_sorts = ap length q ∙ length-append members (led ∷ []) ∙ ap (λ m. m + 1) h.members_sorts;
  sizes_are = ap (map length) q ∙ map-append length members (led ∷ []) ∙ ap (λ ns. ns ++ length led ∷ []) h.sizes_are
      ∙ sym s;
  each = λ k lt.
      let P : List ℕ → List ℕ → Type 0 = λ zs ws. IsNumbered (row_of leaders k) (length (row_of leaders k)) zs ws in
      ⊎_elim
      (λ less.
      let e = get_or_append_left numbers (row ∷ []) [] k (omega (arith, h.sorts, less)) in
      let d = get_or_append_left members (led ∷ []) [] k (omega (arith, h.members_sorts, less)) in
      subst (λ zs. P zs (row_of new_members k)) (sym (ap (λ rs. row_of rs k) p ∙ e))
      (subst (λ ws. P (row_of numbers k) ws) (sym (ap (λ rs. row_of rs k) q ∙ d)) (h.each k less)))
      (λ le.
      let at : n ≡ k = omega arith in
      let e = get_or_push numbers row [] k (h.sorts ∙ at) in
      let d = get_or_push members led [] k (h.members_sorts ∙ at) in
      subst (λ zs. P zs (row_of new_members k)) (sym (ap (λ rs. row_of rs k) p ∙ e))
      (subst (λ ws. P row ws) (sym (ap (λ rs. row_of rs k) q ∙ d))
      (subst (λ z. IsNumbered (row_of leaders z) (length (row_of leaders z)) row led) at here)))
      (cases_lt k n);
}

pub lengths-are : (rows : Rows) (ns : List ℕ) → length rows ≡ length ns
    → ((k : ℕ) → k < length rows → length (row_of rows k) ≡ get_or ns k 0) → map length rows ≡ ns
lengths-are [] [] e h = refl
lengths-are [] (n ∷ ns) e h = absurd (omega (arith, e))
lengths-are (row ∷ rows) [] e h = absurd (omega (arith, e))
lengths-are (row ∷ rows) (n ∷ ns) e h = let head = h zero (omega arith) in let tail =
    lengths-are rows ns (omega (arith, e)) (λ k lt. h (suc k) (omega arith)) in λ i. head i ∷ tail i

module _ (sig : Symbols) (names : Numbering) (a : Atom → Bool) (sorts : length names.counts ≡ sig.sorts)
    (eq : IsEquality sig names a) where
  abbrev counts : List ℕ
  counts = names.counts

  pub reflexive : AreReflexive counts a
  reflexive k x lk lx = eq.reflexive k x (subst (λ n. k.0 < n) sorts lk) lx

  module _ (leaders : Rows) (h : AreLeaders counts a leaders) where
    abbrev lead : Sort → ℕ → ℕ
    lead k x = looked_up leaders k.0 x

    known : (k : Sort) → k.0 < sig.sorts → k.0 < length counts
    known k lt = subst (λ n. k.0 < n) (sym sorts) lt

    long : (k : ℕ) → length (row_of leaders k) ≡ get_or counts k 0
    long k = length-at leaders k ∙ ap (λ ns. get_or ns k 0) h.long

    inside : (k : Sort) (x : ℕ) → x < get_or counts k.0 0 → lead k x < get_or counts k.0 0
    inside k x lx = let le = h.first k.0 x lx in omega (arith, le, lx)

    -- equal terms have one leader
    lead-le : (k : Sort) (x y : ℕ) → k.0 < sig.sorts → x < get_or counts k.0 0 → y < get_or counts k.0 0
        → a (Eq k x y) ≡ true → lead k y ≤ lead k x
    lead-le k x y lk lx ly t =
        h.least k y (lead k x) (known k lk) ly
        (eq.transitive k (lead k x) x y lk (inside k x lx) lx ly (h.equal k x (known k lk) lx) t)

    lead-same : (k : Sort) (x y : ℕ) → k.0 < sig.sorts → x < get_or counts k.0 0 → y < get_or counts k.0 0
        → a (Eq k x y) ≡ true → lead k x ≡ lead k y
    lead-same k x y lk lx ly t =
        let down = lead-le k x y lk lx ly t in
        let up = lead-le k y x lk ly lx (eq.symmetric k x y lk lx ly t) in
        omega (arith, down, up)

    -- terms that have one leader are equal
    same-lead : (k : Sort) (x y : ℕ) → k.0 < sig.sorts → x < get_or counts k.0 0 → y < get_or counts k.0 0
        → lead k x ≡ lead k y → a (Eq k x y) ≡ true
    same-lead k x y lk lx ly e =
        let to_lead = eq.symmetric k (lead k x) x lk (inside k x lx) lx (h.equal k x (known k lk) lx) in
        let back = subst (λ z. a (Eq k z y) ≡ true) (sym e) (h.equal k y (known k lk) ly) in
        eq.transitive k x (lead k x) y lk lx (inside k x lx) ly to_lead back

    pub led : AreLed leaders
    led k lt =
        let q : Sort = record { 0 = k } in
        let lk : k < sig.sorts = subst (λ n. k < n) (sym (length-map leaders length) ∙ ap length h.long ∙ sorts) lt in
        let there : (x : ℕ) → x < length (row_of leaders k) → x < get_or counts k 0 =
        λ x lx. subst (λ n. x < n) (long k) lx in
        record {
          first = λ x lx. h.first k x (there x lx);
          itself =
              λ x lx. lead-same q (lead q x) x lk (inside q x (there x lx)) (there x lx)
              (h.equal q x (known q lk) (there x lx));
        }

    module _ (sizes : List ℕ) (numbers members : Rows) (n : AreNumbered leaders sig.sorts sizes numbers members)
        (some_terms : (k : ℕ) → k < sig.sorts → 0 < get_or counts k 0) where
      size-at : (k : ℕ) → length (row_of members k) ≡ get_or sizes k 0
      size-at k = length-at members k ∙ ap (λ ns. get_or ns k 0) n.sizes_are

      row-numbered : (k : ℕ) → k < sig.sorts
          → IsNumbered (row_of leaders k) (get_or counts k 0) (row_of numbers k) (row_of members k)
      row-numbered k lk =
          subst (λ m. IsNumbered (row_of leaders k) m (row_of numbers k) (row_of members k)) (long k) (n.each k lk)

      within : (k x : ℕ) → k < sig.sorts → x < get_or counts k 0 → looked_up numbers k x < get_or sizes k 0
      within k x lk lx = subst (λ m. looked_up numbers k x < m) (size-at k) ((row-numbered k lk).within x lx)

      -- a term is in the class of its leader
      number-lead : (k : Sort) (x : ℕ) → k.0 < sig.sorts → x < get_or counts k.0 0
          → looked_up numbers k.0 (lead k x) ≡ looked_up numbers k.0 x
      number-lead k x lk lx =
          let row = row-numbered k.0 lk in
          ap (looked_up numbers k.0) (sym (row.leader x lx))
          ∙ row.member_number (looked_up numbers k.0 x) (row.within x lx)

      numbers-long : map length numbers ≡ counts
      numbers-long =
          lengths-are numbers counts (n.sorts ∙ sym sorts)
          (λ k lt. (row-numbered k (subst (λ m. k < m) n.sorts lt)).long)

      pub classes : AreClasses sig counts a sizes numbers members
      classes = record {
        sorts = sym (ap length n.sizes_are) ∙ length-map members length ∙ n.members_sorts;
        numbers_long = numbers-long;
        members_long = n.sizes_are;
        some = λ k lk. let w = within k 0 lk (some_terms k lk) in omega (arith, w);
        first = λ k lk. (row-numbered k lk).first (some_terms k lk);
        few = λ k lk. subst (λ m. m ≤ get_or counts k 0) (size-at k) ((row-numbered k lk).few);
        within = within;
        member_within = λ k c lk lc. (row-numbered k lk).member_within c (subst (λ m. c < m) (sym (size-at k)) lc);
        member_number = λ k c lk lc. (row-numbered k lk).member_number c (subst (λ m. c < m) (sym (size-at k)) lc);
        equal = λ k x y lk lx ly.
            ⊎_elim
            (λ yes.
            let e = lead-same k x y lk lx ly yes in
            yes
            ∙ sym
            (eq-eqb (looked_up numbers k.0 x) (looked_up numbers k.0 y)
            (sym (number-lead k x lk lx) ∙ ap (looked_up numbers k.0) e ∙ number-lead k y lk ly)))
            (λ no. no ∙ sym (ne_eqb (looked_up numbers k.0 x) (looked_up numbers k.0 y) (λ e.
            let row = row-numbered k.0 lk in
            let leads : lead k x ≡ lead k y = sym (row.leader x lx) ∙ ap (looked_up members k.0) e ∙ row.leader y ly in
            true≢false (sym (same-lead k x y lk lx ly leads) ∙ no))))
            (cases_Bool (a (Eq k x y)));
      }
