-- The terms of each sort have classes by their leaders.
use Rattle.std.proofs.Common.{
  ◌≡◌,
  ℕ,
  zero,
  suc,
  ◌+◌,
  ◌<◌,
  ◌≤◌,
  List,
  [],
  ◌∷◌,
  ◌++◌,
  length,
  get_or,
  refl,
  sym,
  ap,
  ◌∙◌,
  subst,
  arith,
  ⊎_elim,
}
use Rattle.std.proofs.lemmas.Bool.{cases_lt}
use Rattle.std.proofs.lemmas.List.{length-append, get_or_append_left, get_or_push}
use Rattle.structure_back.specs.Rows.{Rows, row_of}
use Rattle.structure_back.specs.Classes.{IsLed, AreLed, IsNumbered, AreNumbered}
use Rattle.structure_back.proofs.Numbered.{more-numbered}

below : (P : ℕ → Type 0) (n : ℕ) → ((y : ℕ) → y < n → P y) → P n → (y : ℕ) → y < suc n → P y
below P n old new y lt =
    ⊎_elim (λ less. old y less) (λ le. let at : n ≡ y = omega (arith, lt, le) in subst P at new) (cases_lt y n)

abbrev Classed : List ℕ → ℕ → Type 0
Classed leaders n = (numbers : List ℕ) × (members : List ℕ) × IsNumbered leaders n numbers members

module _ (leaders : List ℕ) (led : IsLed leaders) (x : ℕ) (lx : x < length leaders) (numbers members : List ℕ)
    (h : IsNumbered leaders x numbers members) where
  -- a term that leads itself begins a class
  begins : get_or leaders x 0 ≡ x → Classed leaders (suc x)
  begins own =
      let nums = numbers ++ length members ∷ [] in
      let mems = members ++ x ∷ [] in
      let long_nums = length-append numbers (length members ∷ []) in
      let long_mems = length-append members (x ∷ []) in
      let long = h.long in
      let few = h.few in
      let old_num : (y : ℕ) → y < x → get_or nums y 0 ≡ get_or numbers y 0 =
      λ y lt. get_or_append_left numbers (length members ∷ []) 0 y (omega (arith, lt, long)) in
      let new_num : get_or nums x 0 ≡ length members = get_or_push numbers (length members) 0 x long in
      let old_mem : (c : ℕ) → c < length members → get_or mems c 0 ≡ get_or members c 0 =
      λ c lt. get_or_append_left members (x ∷ []) 0 c lt in
      let new_mem : get_or mems (length members) 0 ≡ x = get_or_push members x 0 (length members) refl in (
        nums,
        mems,
        record {
          long = omega (arith, long_nums, long);
          few = omega (arith, long_mems, few);
          within = below (λ y. get_or nums y 0 < length mems) x
              (λ y lt. let e = old_num y lt in let w = h.within y lt in omega (arith, e, w, long_mems))
              (omega (arith, new_num, long_mems));
          leader = below (λ y. get_or mems (get_or nums y 0) 0 ≡ get_or leaders y 0) x
              (λ y lt. ap (λ z. get_or mems z 0) (old_num y lt) ∙ old_mem (get_or numbers y 0) (h.within y lt)
              ∙ h.leader y lt)
              (ap (λ z. get_or mems z 0) new_num ∙ new_mem ∙ sym own);
          member_within = λ c lt. below (λ z. get_or mems z 0 < suc x) (length members)
              (λ z lz. let e = old_mem z lz in let w = h.member_within z lz in omega (arith, e, w))
              (omega (arith, new_mem)) c (omega (arith, lt, long_mems));
          member_number = λ c lt. below (λ z. get_or nums (get_or mems z 0) 0 ≡ z) (length members)
              (λ z lz. ap (λ y. get_or nums y 0) (old_mem z lz) ∙ old_num (get_or members z 0) (h.member_within z lz)
              ∙ h.member_number z lz)
              (ap (λ y. get_or nums y 0) new_mem ∙ new_num) c (omega (arith, lt, long_mems));
          first = λ _.
              ⊎_elim
              (λ less. old_num 0 less ∙ h.first less)
              (λ le.
              let at : x ≡ 0 = omega (arith, le) in
              let none : length members ≡ 0 = omega (arith, few, at) in
              subst (λ z. get_or nums z 0 ≡ 0) at (new_num ∙ none))
              (cases_lt 0 x);
        },
      )

  -- another is in the class of its leader
  joins : get_or leaders x 0 < x → Classed leaders (suc x)
  joins less =
      let lead = get_or leaders x 0 in
      let class = get_or numbers lead 0 in
      let nums = numbers ++ class ∷ [] in
      let long_nums = length-append numbers (class ∷ []) in
      let long = h.long in
      let few = h.few in
      let old_num : (y : ℕ) → y < x → get_or nums y 0 ≡ get_or numbers y 0 =
      λ y lt. get_or_append_left numbers (class ∷ []) 0 y (omega (arith, lt, long)) in
      let new_num : get_or nums x 0 ≡ class = get_or_push numbers class 0 x long in (
        nums,
        members,
        record {
          long = omega (arith, long_nums, long);
          few = omega (arith, few);
          within = below (λ y. get_or nums y 0 < length members) x
              (λ y lt. let e = old_num y lt in let w = h.within y lt in omega (arith, e, w))
              (let w = h.within lead less in omega (arith, new_num, w));
          leader = below (λ y. get_or members (get_or nums y 0) 0 ≡ get_or leaders y 0) x
              (λ y lt. ap (λ z. get_or members z 0) (old_num y lt) ∙ h.leader y lt)
              (ap (λ z. get_or members z 0) new_num ∙ h.leader lead less ∙ led.itself x lx);
          member_within = λ c lt. let w = h.member_within c lt in omega (arith, w);
          member_number = λ c lt. old_num (get_or members c 0) (h.member_within c lt) ∙ h.member_number c lt;
          first = λ _. let some : 0 < x = omega (arith, less) in old_num 0 some ∙ h.first some;
        },
      )

  more : Classed leaders (suc x)
  more =
      ⊎_elim joins (λ le. let first = led.first x lx in begins (omega (arith, le, first)))
      (cases_lt (get_or leaders x 0) x)

classed : (leaders : List ℕ) → IsLed leaders → (n : ℕ) → n ≤ length leaders → Classed leaders n
classed leaders led zero le = (
  [],
  [],
  record {
    long = refl;
    few = omega arith;
    within = λ x lt. absurd (omega (arith, lt));
    leader = λ x lt. absurd (omega (arith, lt));
    member_within = λ c lt. absurd (omega (arith, lt));
    member_number = λ c lt. absurd (omega (arith, lt));
    first = λ lt. absurd (omega (arith, lt));
  },
)
classed leaders led (suc n) le =
    let before = classed leaders led n (omega (arith, le)) in
    more leaders led n (omega (arith, le)) before.0 before.1 before.2

abbrev pub AllClassed : Rows → ℕ → Type 0
AllClassed leaders n = (sizes : List ℕ) × (numbers : Rows) × (members : Rows) × AreNumbered leaders n sizes numbers
    members

pub all-classed : (leaders : Rows) → AreLed leaders → (n : ℕ) → n ≤ length leaders → AllClassed leaders n
all-classed leaders led zero le = (
  [],
  [],
  [],
  record { sorts = refl; members_sorts = refl; sizes_are = refl; each = λ k lt. absurd (omega (arith, lt)) },
)
all-classed leaders led (suc n) le =
    let before = all-classed leaders led n (omega (arith, le)) in
    let row = classed (row_of leaders n) (led n (omega (arith, le))) (length (row_of leaders n)) (omega arith) in
    let sizes = before.0 ++ length row.1 ∷ [] in
    let numbers = before.1 ++ row.0 ∷ [] in
    let members = before.2 ++ row.1 ∷ [] in
    let here = more-numbered leaders before.1 before.2 numbers members before.0 sizes n row.0 row.1 before.3 row.2 refl
    refl refl in
    let next : n + 1 ≡ suc n = omega arith in
    (sizes, numbers, members, subst (λ z. AreNumbered leaders z sizes numbers members) next here)
