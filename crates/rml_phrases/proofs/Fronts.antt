-- How a piece may begin: a reader stops nowhere inside such tokens, and what it took before a fault is such.
use Rattle.std.proofs.Common.{
  ◌≡◌,
  ℕ,
  zero,
  suc,
  ◌≤◌,
  Bool,
  true,
  false,
  cond,
  ◌⊎◌,
  inl,
  inr,
  List,
  [],
  ◌∷◌,
  ◌++◌,
  length,
  Option,
  Some,
  None,
  Ok,
  Err,
  refl,
  sym,
  ap,
  subst,
  ◌∙◌,
  append_assoc,
  arith,
}
use Rattle.std.proofs.lemmas.List.{append-nil, length-append, append_cancel_right}
use Rattle.rml_lex.specs.declared.token.Kind.{Kind}
use Rattle.rml_lex.specs.declared.token.Token.{Token}
use Rattle.rml_phrases.specs.Language.{Tokens, Phrase, terminal, ◌⊗◌, ◌∣◌, ◌⇒◌, optional, many, listed, placed}
use Rattle.rml_phrases.specs.Language.{place_of}
use Rattle.rml_phrases.specs.Piece.{Piece}
use Rattle.rml_phrases.specs.Piece as piece
use Rattle.rml_phrases.specs.Reading.{begins, TooDeep, Failure, Read, Reader, ◌>>=◌, fails, expect_at, both_at, made_at}
use Rattle.rml_phrases.specs.Reading.{either_at, optional_at, times_at, many_at, listed_for, listed_at, placed_at}
use Rattle.rml_phrases.specs.Reading.{opening_at}
use Rattle.rml_phrases.proofs.Exact.{bind_err, chosen, err_is, begins-append, begins-nil, begins_left, begins_right}
use Rattle.rml_phrases.proofs.Exact.{begins_so, apart, apart_begins, same_number, terminal_exact, terminal_refuses}
use Rattle.rml_phrases.specs.Good.{Took, Exact, rest_of, Fronts, IsClosed}
use Rattle.rml_phrases.proofs.Listed.{starts_with, terminal_taken, terminal_begins, after_item, signed}

-- ---- results

rest_of-map : {A B : Type 0} (r : Read A) (h : A → B) → rest_of (r >>= λ y. Ok (h y.0, y.1)) ≡ rest_of r
rest_of-map (Ok z) h = refl
rest_of-map (Err w) h = refl

bind_keeps : {A B : Type 0} (r : Read A) (g : A × Tokens → Read B) (n : ℕ) → length (rest_of r) ≤ n
    → ((x : A × Tokens) → r ≡ Ok x → length (rest_of (g x)) ≤ length x.1) → length (rest_of (r >>= g)) ≤ n
bind_keeps (Ok x) g n le h = omega (arith, h x refl)
bind_keeps (Err w) g n le h = le

bind_shrinks : {A B : Type 0} (r : Read A) (g : A × Tokens → Read B) (n : ℕ)
    → ((x : A × Tokens) → r ≡ Ok x → length (rest_of (g x)) ≤ n) → ((w : Failure) → r ≡ Err w → length w.rest ≤ n)
    → length (rest_of (r >>= g)) ≤ n
bind_shrinks (Ok x) g n h k = h x refl
bind_shrinks (Err w) g n h k = k w refl

shrinks_so : {A : Type 0} (p : Reader A) (L : Phrase A) (f m : List Kind) (e : Bool) → Exact p L f m e
    → (ts : Tokens) (r : Read A) → p ts ≡ r → length (rest_of r) ≤ length ts
shrinks_so p L f m e P ts (Ok z) h = let s =
    P.sound ts z h in omega (arith, ap length s.parts, length-append s.front z.1)
shrinks_so p L f m e P ts (Err w) h = let s =
    P.stuck ts w h in omega (arith, ap length s.parts, length-append s.front w.rest)

pub shrinks : {A : Type 0} (p : Reader A) (L : Phrase A) (f m : List Kind) (e : Bool) → Exact p L f m e
    → (ts : Tokens) → length (rest_of (p ts)) ≤ length ts
shrinks p L f m e P ts = shrinks_so p L f m e P ts (p ts) refl

-- ---- one lexeme

terminal_keeps : (k : Kind) (us vs : Tokens) → (us ≡ []) ⊎ ((t : Token) × terminal k us t)
    → length (rest_of (expect_at k (us ++ vs))) ≤ length vs
terminal_keeps k us vs (inl none) = rw none (shrinks (expect_at k) (terminal k) (k ∷ []) [] false (terminal_exact k) vs)
terminal_keeps k us vs (inr h) = rw ((terminal_exact k).complete us vs h.0 h.1 (none_begin vs)) (omega arith)
  where
    none_begin : (ws : Tokens) → begins [] ws ≡ false
    none_begin [] = refl
    none_begin (w ∷ ws) = refl

at_front : (us rest : Tokens) → us ++ rest ≡ rest → us ≡ []
at_front us rest e = append_cancel_right us [] rest e

pub terminal_fronts : (k : Kind) → Fronts (expect_at k) (terminal k)
    (λ ts. (ts ≡ []) ⊎ ((t : Token) × terminal k ts t)) (k ∷ [])
terminal_fronts k = record {
  whole = λ ts x h. inr (x, h);
  starts = λ ts h. elim h [
    | inl none ↦ inl none
    | inr s ↦
        elim ((terminal_exact k).starts ts s.0 s.1) [ inl b ↦ inr b | inr b ↦ absurd cc ]
  ];
  keeps = terminal_keeps k;
  within = λ us w e. inl (at_front us w.rest (terminal_refuses k (us ++ w.rest) w e).here);
}

-- ---- a, and behind it b

module _ {A B : Type 0} (p : Reader A) (q : Reader B) (L : Phrase A) (M : Phrase B) (F G : Tokens → Type 0)
    (f m g n : List Kind) (e : Bool) (P : Exact p L f m false) (Q : Exact q M g n e) (PF : Fronts p L F f)
    (QF : Fronts q M G g) (clear : apart g m ≡ true) where
  abbrev Both_front : Tokens → Type 0
  Both_front ts = F ts ⊎ ((front : Tokens) × (back : Tokens) × (x : A) × (ts ≡ front ++ back) × L front x × G back)

  abbrev second : A × Tokens → Read (A × B)
  second x = q x.1 >>= λ y. Ok ((x.0, y.0), y.1)

  second_shrinks : (x : A × Tokens) → length (rest_of (second x)) ≤ length x.1
  second_shrinks x = rw (rest_of-map {B = A × B} (q x.1) (λ y. (x.0, y))) (shrinks q M g n e Q x.1)

  both_first : (us vs : Tokens) → F us → length (rest_of (both_at p q (us ++ vs))) ≤ length vs
  both_first us vs h = bind_keeps (p (us ++ vs)) (λ x. q x.1 >>= λ y. Ok ((x.0, y.0), y.1)) (length vs)
      (PF.keeps us vs h) (λ x e. second_shrinks x)

  both_keeps : (us vs : Tokens) → Both_front us → length (rest_of (both_at p q (us ++ vs))) ≤ length vs
  both_keeps us vs (inl h) = both_first us vs h
  both_keeps us vs (inr h) = elim (QF.starts h.1 h.5) [
    | inl none ↦ both_first us vs (PF.whole us h.2 (rw (h.3, none, append-nil h.0) h.4))
    | inr on ↦
        let one : p (h.0 ++ (h.1 ++ vs)) ≡ Ok (h.2, h.1 ++ vs) =
        P.complete h.0 (h.1 ++ vs) h.2 h.4 (apart_begins g m (h.1 ++ vs) clear (begins-append g h.1 vs on)) in
        let split : us ++ vs ≡ h.0 ++ (h.1 ++ vs) = ap (λ (r : Tokens). r ++ vs) h.3 ∙ append_assoc h.0 h.1 vs in
        let two : rest_of (both_at p q (us ++ vs)) ≡ rest_of (q (h.1 ++ vs)) =
        ap (λ (r : Tokens). rest_of (both_at p q r)) split ∙ ap (λ (r : Read A). rest_of (◌>>=◌ r second)) one
        ∙ rest_of-map {B = A × B} (q (h.1 ++ vs)) (λ y. (h.2, y)) in
        rw two (QF.keeps h.1 vs h.5)
  ]

  both_within : (us : Tokens) (w : Failure) → both_at p q (us ++ w.rest) ≡ Err w → Both_front us
  both_within us w h =
      elim (bind_err (p (us ++ w.rest)) (λ x. q x.1 >>= λ y. Ok ((x.0, y.0), y.1)) w h) [
        | inl a ↦ inl (PF.within us w a)
        | inr a ↦ elim (bind_err (q a.0.1) (λ y. Ok ((a.0.0, y.0), y.1)) w a.2) [
          | inl b ↦
              let s = P.sound (us ++ w.rest) a.0 a.1 in
              let t = Q.stuck a.0.1 w b in
              let same : us ≡ s.front ++ t.front =
              append_cancel_right us (s.front ++ t.front) w.rest
              (s.parts ∙ ap (λ (r : Tokens). s.front ++ r) t.parts ∙ sym (append_assoc s.front t.front w.rest)) in
              inr (
                s.front,
                t.front,
                a.0.0,
                same,
                s.means,
                QF.within t.front w
                    (subst (λ (r : Tokens). q r ≡ Err w) t.parts b),
              )
          | inr b ↦ absurd cc
        ]
      ]

  both_fstarts : (ts : Tokens) → Both_front ts → (ts ≡ []) ⊎ (begins f ts ≡ true)
  both_fstarts ts (inl h) = PF.starts ts h
  both_fstarts ts (inr h) = inr (rw h.3 (begins-append f h.0 h.1 (begins_so p L f m P h.0 h.2 h.4)))

  pub both_fronts : Fronts (both_at p q) (L ⊗ M) Both_front f
  both_fronts = record {
    whole = λ ts x h. inr (h.0, h.1, x.0, h.2, h.3, QF.whole h.1 x.1 h.4);
    starts = both_fstarts;
    keeps = both_keeps;
    within = both_within;
  }

-- ---- a, whose value is made into another, or with its place

pub made_fronts : {A B : Type 0} (h : A → B) (p : Reader A) (L : Phrase A) (F : Tokens → Type 0) (f : List Kind)
    → Fronts p L F f → Fronts (made_at h p) (L ⇒ h) F f
made_fronts h p L F f P = record {
  whole = λ ts y k. P.whole ts k.0 k.1;
  starts = P.starts;
  keeps = λ us vs k. rw (rest_of-map (p (us ++ vs)) h) (P.keeps us vs k);
  within = λ us w e. elim (bind_err (p (us ++ w.rest)) (λ x. Ok (h x.0, x.1)) w e)
      [ inl a ↦ P.within us w a | inr a ↦ absurd cc ];
}

pub placed_fronts : {A : Type 0} (p : Reader A) (L : Phrase A) (F : Tokens → Type 0) (f : List Kind) → Fronts p L F f
    → Fronts (placed_at p) (placed L) F f
placed_fronts {A = A} p L F f P = record {
  whole = λ ts y k. P.whole ts y.1 k.1;
  starts = P.starts;
  keeps = λ us vs k. rw (rest_of-map {B = ℕ × A} (p (us ++ vs)) (λ x. (place_of (us ++ vs), x))) (P.keeps us vs k);
  within = λ us w e. elim (bind_err (p (us ++ w.rest)) (λ x. Ok ((place_of (us ++ w.rest), x.0), x.1)) w e)
      [ inl a ↦ P.within us w a | inr a ↦ absurd cc ];
}

-- ---- a at most once

module _ {A : Type 0} (p : Reader A) (L : Phrase A) (F : Tokens → Type 0) (f m : List Kind) (P : Exact p L f m false)
    (PF : Fronts p L F f) where
  some_keeps : (us vs : Tokens) → F us → begins f us ≡ true → length (rest_of (optional_at f p (us ++ vs))) ≤ length vs
  some_keeps us vs h on = rw (begins-append f us vs on, rest_of-map (p (us ++ vs)) (λ x. Some x)) (PF.keeps us vs h)

  optional_shrinks : (b : Bool) (vs : Tokens) → length
      (rest_of (cond b (p vs >>= λ x. Ok (Some x.0, x.1)) (Ok (None, vs)))) ≤ length vs
  optional_shrinks true vs = rw (rest_of-map (p vs) (λ x. Some x)) (shrinks p L f m false P vs)
  optional_shrinks false vs = omega arith

  optional_keeps : (us vs : Tokens) → (us ≡ []) ⊎ F us → length (rest_of (optional_at f p (us ++ vs))) ≤ length vs
  optional_keeps us vs (inl none) = rw none (optional_shrinks (begins f vs) vs)
  optional_keeps us vs (inr h) =
      elim (PF.starts us h) [ inl none ↦ rw none (optional_shrinks (begins f vs) vs) | inr on ↦ some_keeps us vs h on ]

  optional_whole : (ts : Tokens) (o : Option A) → optional L ts o → (ts ≡ []) ⊎ F ts
  optional_whole ts None h = inl h
  optional_whole ts (Some x) h = inr (PF.whole ts x h)

  optional_within : (us : Tokens) (w : Failure) → optional_at f p (us ++ w.rest) ≡ Err w → (us ≡ []) ⊎ F us
  optional_within us w e =
      elim (chosen (begins f (us ++ w.rest)) (p (us ++ w.rest) >>= λ x. Ok (Some x.0, x.1)) (Ok (None, us ++ w.rest))
      (Err w) e) [
        | inl c ↦ elim (bind_err (p (us ++ w.rest)) (λ x. Ok (Some x.0, x.1)) w c.1)
            [ inl a ↦ inr (PF.within us w a) | inr a ↦ absurd cc ]
        | inr c ↦ absurd cc
      ]

  pub optional_fronts : Fronts (optional_at f p) (optional L) (λ ts. (ts ≡ []) ⊎ F ts) f
  optional_fronts = record {
    whole = optional_whole;
    starts = λ ts h. elim h [ inl none ↦ inl none | inr k ↦ PF.starts ts k ];
    keeps = optional_keeps;
    within = optional_within;
  }

-- ---- a or b

module _ {A : Type 0} (p q : Reader A) (L M : Phrase A) (F G : Tokens → Type 0) (f m g n : List Kind) (e : Bool)
    (P : Exact p L f m false) (Q : Exact q M g n e) (PF : Fronts p L F f) (QF : Fronts q M G g)
    (clear : apart g f ≡ true) where
  either_shrinks : (b : Bool) (vs : Tokens) → length (rest_of (cond b (p vs) (q vs))) ≤ length vs
  either_shrinks true vs = shrinks p L f m false P vs
  either_shrinks false vs = shrinks q M g n e Q vs

  either_keeps : (us vs : Tokens) → F us ⊎ G us → length (rest_of (either_at f p q (us ++ vs))) ≤ length vs
  either_keeps us vs (inl h) = elim (PF.starts us h) [
    | inl none ↦ rw none (either_shrinks (begins f vs) vs)
    | inr on ↦ rw (begins-append f us vs on) (PF.keeps us vs h)
  ]
  either_keeps us vs (inr h) = elim (QF.starts us h) [
    | inl none ↦ rw none (either_shrinks (begins f vs) vs)
    | inr on ↦ rw (apart_begins g f (us ++ vs) clear (begins-append g us vs on)) (QF.keeps us vs h)
  ]

  either_within : (us : Tokens) (w : Failure) → either_at f p q (us ++ w.rest) ≡ Err w → F us ⊎ G us
  either_within us w h =
      elim (chosen (begins f (us ++ w.rest)) (p (us ++ w.rest)) (q (us ++ w.rest)) (Err w) h)
      [ inl c ↦ inl (PF.within us w c.1) | inr c ↦ inr (QF.within us w c.1) ]

  pub either_fronts : Fronts (either_at f p q) (L ∣ M) (λ ts. F ts ⊎ G ts) (f ++ g)
  either_fronts = record {
    whole = λ ts x h. elim h [ inl a ↦ inl (PF.whole ts x a) | inr b ↦ inr (QF.whole ts x b) ];
    starts = λ ts h. elim h [
      | inl a ↦ elim (PF.starts ts a) [ inl none ↦ inl none | inr on ↦ inr (begins_left f g ts on) ]
      | inr b ↦ elim (QF.starts ts b) [ inl none ↦ inl none | inr on ↦ inr (begins_right f g ts on) ]
    ];
    keeps = either_keeps;
    within = either_within;
  }

-- ---- a lexeme that opens a level

module _ (k : Kind) (F : Tokens → Type 0) where
  abbrev pub Opens_front : Tokens → Type 0
  Opens_front ts = (ts ≡ []) ⊎ ((t : Token) × (rest : Tokens) × (ts ≡ t ∷ rest) × (t.kind ≡ k) × F rest)

  opens_starts : (ts : Tokens) → Opens_front ts → (ts ≡ []) ⊎ (begins (k ∷ []) ts ≡ true)
  opens_starts ts (inl none) = inl none
  opens_starts ts (inr h) = inr (rw (h.2, same_number k h.0.kind (sym h.3)) refl)

  module _ {A : Type 0} (L : Phrase A) (none : (ts : Tokens) (x : A) → L ts x → ⊥)
      (no_front : (ts : Tokens) → F ts → ⊥) where
    closed_shrinks : (r : Read Token) (vs : Tokens) → length (rest_of r) ≤ length vs
        → length (rest_of (r >>= λ x. fails {A = (Token × A) × Tokens} TooDeep vs)) ≤ length vs
    closed_shrinks (Ok x) vs le = omega arith
    closed_shrinks (Err w) vs le = le

    closed_keeps : (us vs : Tokens) → Opens_front us → length (rest_of (opening_at {A = A} k None (us ++ vs))) ≤
        length vs
    closed_keeps us vs (inl h) = rw h (closed_shrinks (expect_at k vs) vs
        (shrinks (expect_at k) (terminal k) (k ∷ []) [] false (terminal_exact k) vs))
    closed_keeps us vs (inr h) = absurd (no_front h.1 h.4)

    closed_within : (us : Tokens) (w : Failure) → opening_at {A = A} k None (us ++ w.rest) ≡ Err w → Opens_front us
    closed_within us w e =
        elim (bind_err (expect_at k (us ++ w.rest)) (λ x. fails {A = (Token × A) × Tokens} TooDeep (us ++ w.rest)) w
        e) [
          | inl a ↦ inl (at_front us w.rest (terminal_refuses k (us ++ w.rest) w a).here)
          | inr a ↦ inl (at_front us w.rest (ap (λ (v : Failure). v.rest)
              (err_is (record { why = TooDeep; rest = us ++ w.rest }) w a.2)))
        ]

    pub closed_fronts : Fronts (opening_at {A = A} k None) (terminal k ⊗ L) Opens_front (k ∷ [])
    closed_fronts = record {
      whole = λ ts x h. absurd (none h.1 x.1 h.4);
      starts = opens_starts;
      keeps =
          closed_keeps;
      within = closed_within;
    }

  module _ {A : Type 0} (p : Reader A) (L : Phrase A) (f m : List Kind) (e : Bool) (P : Exact p L f m e)
      (PF : Fronts p L F f) where
    abbrev inside : Token × Tokens → Read (Token × A)
    inside x = p x.1 >>= λ y. Ok ((x.0, y.0), y.1)

    opened_keeps : (us vs : Tokens) → Opens_front us → length (rest_of (both_at (expect_at k) p (us ++ vs))) ≤ length vs
    opened_keeps us vs (inl h) = rw h (bind_keeps (expect_at k vs) (λ x. p x.1 >>= λ y. Ok ((x.0, y.0), y.1))
        (length vs) (shrinks (expect_at k) (terminal k) (k ∷ []) [] false (terminal_exact k) vs)
        (λ x was. rw (rest_of-map {B = Token × A} (p x.1) (λ y. (x.0, y))) (shrinks p L f m e P x.1)))
    opened_keeps us vs (inr h) =
        let two : rest_of (both_at (expect_at k) p (h.0 ∷ (h.1 ++ vs)))
        ≡ rest_of (p (h.1 ++ vs)) =
        ap (λ (r : Read Token). rest_of (◌>>=◌ r inside)) (terminal_taken k h.0 (h.1 ++ vs) h.3)
        ∙ rest_of-map {B = Token × A} (p (h.1 ++ vs)) (λ y. (h.0, y)) in
        subst (λ (r : Tokens). length (rest_of (both_at (expect_at k) p (r ++ vs))) ≤ length vs) (sym h.2)
        (rw two (PF.keeps h.1 vs h.4))

    opened_within : (us : Tokens) (w : Failure) → both_at (expect_at k) p (us ++ w.rest) ≡ Err w → Opens_front us
    opened_within us w h =
        elim (bind_err (expect_at k (us ++ w.rest)) (λ x. p x.1 >>= λ y. Ok ((x.0, y.0), y.1)) w h) [
          | inl a ↦ inl (at_front us w.rest (terminal_refuses k (us ++ w.rest) w a).here)
          | inr a ↦ elim (bind_err (p a.0.1) (λ y. Ok ((a.0.0, y.0), y.1)) w a.2) [
            | inl b ↦
                let s = (terminal_exact k).sound (us ++ w.rest) a.0 a.1 in
                let t = P.stuck a.0.1 w b in
                let sgn = s.means in
                let same : us ≡ a.0.0 ∷ t.front =
                append_cancel_right us (a.0.0 ∷ t.front) w.rest
                (s.parts ∙ ap (λ (r : Tokens). r ++ a.0.1) sgn.0 ∙ ap (λ (r : Tokens). a.0.0 ∷ r) t.parts) in
                inr (a.0.0, t.front, same, sgn.1, PF.within t.front w (subst (λ (r : Tokens). p r ≡ Err w) t.parts b))
            | inr b ↦ absurd cc
          ]
        ]

    opened_whole : (ts : Tokens) (x : Token × A) → (terminal k ⊗ L) ts x → Opens_front ts
    opened_whole ts x h = let sgn =
        h.3 in inr (x.0, h.1, h.2 ∙ ap (λ (r : Tokens). r ++ h.1) sgn.0, sgn.1, PF.whole h.1 x.1 h.4)

    pub opened_fronts : Fronts (both_at (expect_at k) p) (terminal k ⊗ L) Opens_front (k ∷ [])
    opened_fronts = record { whole = opened_whole; starts = opens_starts; keeps = opened_keeps; within = opened_within }

-- ---- a any number of times

module _ {A : Type 0} (p : Reader A) (L : Phrase A) (F : Tokens → Type 0) (f m : List Kind) (P : Exact p L f m false)
    (PF : Fronts p L F f) (clear : apart f m ≡ true) where
  abbrev Many_front : Tokens → Type 0
  Many_front ts = (xs : List A) × (front : Tokens) × (back : Tokens) × (ts ≡ front ++ back) × many L front xs
      × ((back ≡ []) ⊎ F back)

  times_shrinks : (n : ℕ) (ts : Tokens) → length (rest_of (times_at n f p ts)) ≤ length ts
  times_shrinks zero ts = omega arith
  times_shrinks (suc n) ts = times_next (begins f ts) n ts (λ us. times_shrinks n us)
    where
      times_next : (b : Bool) (n : ℕ) (ts : Tokens) →
          ((us : Tokens) → length (rest_of (times_at n f p us)) ≤ length us)
          → length (rest_of (cond b (p ts >>= λ x. times_at n f p x.1 >>= λ xs. Ok (x.0 ∷ xs.0, xs.1)) (Ok ([], ts))))
          ≤ length ts
      times_next true n ts h =
          bind_keeps (p ts) (λ x. times_at n f p x.1 >>= λ xs. Ok (x.0 ∷ xs.0, xs.1)) (length ts)
          (shrinks p L f m false P ts) (λ x e. rw (rest_of-map (times_at n f p x.1) (λ xs. x.0 ∷ xs)) (h x.1))
      times_next false n ts h = omega arith

  -- an item begins, and the fault is not in it
  item_keeps : (n : ℕ) (us vs : Tokens) → F us → begins f us ≡ true
      → length (rest_of (times_at n f p (us ++ vs))) ≤ length vs ⊎ (n ≡ 0)
  item_keeps zero us vs h on = inr refl
  item_keeps (suc n) us vs h on = inl (rw (begins-append f us vs on)
      (bind_keeps (p (us ++ vs)) (λ x. times_at n f p x.1 >>= λ xs. Ok (x.0 ∷ xs.0, xs.1)) (length vs)
      (PF.keeps us vs h) (λ x e. rw (rest_of-map (times_at n f p x.1) (λ xs. x.0 ∷ xs)) (times_shrinks n x.1))))

  last_keeps : (n : ℕ) (us vs : Tokens) → length (us ++ vs) ≤ n → (us ≡ []) ⊎ F us
      → length (rest_of (times_at n f p (us ++ vs))) ≤ length vs
  last_keeps n us vs le (inl none) = rw none (times_shrinks n vs)
  last_keeps n us vs le (inr h) = elim (PF.starts us h) [
    | inl none ↦ rw none (times_shrinks n vs)
    | inr on ↦ elim (item_keeps n us vs h on)
        [ inl k ↦ k | inr z ↦ absurd (omega (arith, length-append us vs, begins-nil f us on)) ]
  ]

  whole_next : (n : ℕ) (us vs : Tokens) (x : A) → length (us ++ vs) ≤ n → L us x → begins f vs ≡ true → (k : ℕ)
      × (n ≡ suc k) × (rest_of (times_at n f p (us ++ vs)) ≡ rest_of (times_at k f p vs))
  whole_next zero us vs x le h on = absurd (omega
      (arith, length-append us vs, begins-nil f us (begins_so p L f m P us x h)))
  whole_next (suc k) us vs x le h on =
      let one = P.complete us vs x h (apart_begins f m vs clear on) in (
        k,
        refl,
        rw (begins-append f us vs (begins_so p L f m P us x h), one)
            (rest_of-map (times_at k f p vs) (λ xs. x ∷ xs)),
      )

  one_more : (n : ℕ) (us ws vs : Tokens) (x : A) → L us x → (ws ≡ []) ⊎ (begins f ws ≡ true)
      → length ((us ++ ws) ++ vs) ≤ n → ((j : ℕ) → length (ws ++ vs) ≤ j
      → length (rest_of (times_at j f p (ws ++ vs))) ≤ length vs)
      → length (rest_of (times_at n f p ((us ++ ws) ++ vs))) ≤ length vs
  one_more n us ws vs x h (inl none) le more =
      let e : us ++ ws ≡ us = ap (λ (r : Tokens). us ++ r) none ∙ append-nil us in
      subst (λ (r : Tokens). length (rest_of (times_at n f p (r ++ vs))) ≤ length vs) (sym e)
      (last_keeps n us vs (subst (λ (r : Tokens). length (r ++ vs) ≤ n) e le) (inr (PF.whole us x h)))
  one_more n us ws vs x h (inr on) le more =
      let split = append_assoc us ws vs in
      let le' : length (us ++ (ws ++ vs)) ≤ n = subst (λ (r : Tokens). length r ≤ n) split le in
      let w = whole_next n us (ws ++ vs) x le' h (begins-append f ws vs on) in
      subst (λ (r : Tokens). length (rest_of (times_at n f p r)) ≤ length vs) (sym split)
      (rw w.2 (more w.0 (omega (
        arith,
        le',
        w.1,
        length-append us (ws ++ vs),
        begins-nil f us
            (begins_so p L f m P us x h),
      ))))

  times_keeps : (xs : List A) (n : ℕ) (front back vs : Tokens) → many L front xs → (back ≡ []) ⊎ F back
      → length ((front ++ back) ++ vs) ≤ n → length (rest_of (times_at n f p ((front ++ back) ++ vs))) ≤ length vs
  times_keeps [] n front back vs h k le =
      let e : front ++ back ≡ back = rw h refl in
      subst (λ (r : Tokens). length (rest_of (times_at n f p (r ++ vs))) ≤ length vs) (sym e)
      (last_keeps n back vs (subst (λ (r : Tokens). length (r ++ vs) ≤ n) e le) k)
  times_keeps (x ∷ xs) n front back vs h k le =
      let e : front ++ back ≡ h.0 ++ (h.1 ++ back) = ap (λ (r : Tokens). r ++ back) h.2 ∙ append_assoc h.0 h.1 back in
      subst (λ (r : Tokens). length (rest_of (times_at n f p (r ++ vs))) ≤ length vs) (sym e)
      (one_more n h.0 (h.1 ++ back) vs x h.3 (more xs h.1 back h.4 k)
      (subst (λ (r : Tokens). length (r ++ vs) ≤ n) e le) (λ j le'. times_keeps xs j h.1 back vs h.4 k le'))
    where
      more : (ys : List A) (rs bs : Tokens) → many L rs ys → (bs ≡ []) ⊎ F bs → ((rs ++ bs) ≡ [])
          ⊎ (begins f (rs ++ bs) ≡ true)
      more [] rs bs g (inl none) = inl (rw (g, none) refl)
      more [] rs bs g (inr j) = elim (PF.starts bs j) [ inl none ↦ inl (rw (g, none) refl) | inr on ↦ inr (rw g on) ]
      more (y ∷ ys) rs bs g j = inr (begins-append f rs bs
          (rw g.2 (begins-append f g.0 g.1 (begins_so p L f m P g.0 y g.3))))

  -- where the fault is, and what comes before it
  times_parts : (n : ℕ) (ts : Tokens) (w : Failure) → times_at n f p ts ≡ Err w → (front : Tokens)
      × (ts ≡ front ++ w.rest)
  times_parts zero ts w e = absurd cc
  times_parts (suc n) ts w e =
      elim (chosen (begins f ts) (p ts >>= λ x. times_at n f p x.1 >>= λ xs. Ok (x.0 ∷ xs.0, xs.1)) (Ok ([], ts))
      (Err w) e) [
        | inl c ↦ elim (bind_err (p ts) (λ x. times_at n f p x.1 >>= λ xs. Ok (x.0 ∷ xs.0, xs.1)) w c.1) [
          | inl a ↦ let s = P.stuck ts w a in (s.front, s.parts)
          | inr a ↦ elim (bind_err (times_at n f p a.0.1) (λ xs. Ok (a.0.0 ∷ xs.0, xs.1)) w a.2) [
            | inl b ↦
                let s = P.sound ts a.0 a.1 in
                let t = times_parts n a.0.1 w b in (
                  s.front ++ t.0,
                  s.parts ∙ ap (λ (r : Tokens). s.front ++ r) t.1
                      ∙ sym (append_assoc s.front t.0 w.rest),
                )
            | inr b ↦ absurd cc
          ]
        ]
        | inr c ↦ absurd cc
      ]

  times_within : (n : ℕ) (us : Tokens) (w : Failure) → times_at n f p (us ++ w.rest) ≡ Err w → Many_front us
  times_within zero us w e = absurd cc
  times_within (suc n) us w e =
      elim (chosen (begins f (us ++ w.rest)) (p (us ++ w.rest) >>= λ x. times_at n f p x.1 >>= λ xs. Ok
      (x.0 ∷ xs.0, xs.1)) (Ok ([], us ++ w.rest)) (Err w) e) [
        | inl c ↦ elim (bind_err (p (us ++ w.rest)) (λ x. times_at n f p x.1 >>= λ xs. Ok (x.0 ∷ xs.0, xs.1)) w c.1) [
          | inl a ↦ ([], [], us, refl, refl, inr (PF.within us w a))
          | inr a ↦ elim (bind_err (times_at n f p a.0.1) (λ xs. Ok (a.0.0 ∷ xs.0, xs.1)) w a.2) [
            | inl b ↦
                let s = P.sound (us ++ w.rest) a.0 a.1 in
                let t = times_parts n a.0.1 w b in
                let same : us ≡ s.front ++ t.0 =
                append_cancel_right us (s.front ++ t.0) w.rest
                (s.parts ∙ ap (λ (r : Tokens). s.front ++ r) t.1 ∙ sym (append_assoc s.front t.0 w.rest)) in
                let more = times_within n t.0 w (subst (λ (r : Tokens). times_at n f p r ≡ Err w) t.1 b) in (
                  a.0.0 ∷ more.0,
                  s.front ++ more.1,
                  more.2,
                  same ∙ ap (λ (r : Tokens). s.front ++ r) more.3
                      ∙ sym (append_assoc s.front more.1 more.2),
                  (s.front, more.1, refl, s.means, more.4),
                  more.5,
                )
            | inr b ↦ absurd cc
          ]
        ]
        | inr c ↦ absurd cc
      ]

  many_fstarts : (ts : Tokens) → Many_front ts → (ts ≡ []) ⊎ (begins f ts ≡ true)
  many_fstarts ts h = elim (starts_of h.0 h.1 h.4) [
    | inl none ↦ elim h.5 [
      | inl none' ↦ inl (h.3 ∙ rw (none, none') refl)
      | inr k ↦ elim (PF.starts h.2 k) [
        | inl none' ↦ inl (h.3 ∙ rw (none, none') refl)
        | inr on ↦
            inr (rw (h.3, none) on)
      ]
    ]
    | inr on ↦ inr (rw h.3 (begins-append f h.1 h.2 on))
  ]
    where
      starts_of : (ys : List A) (rs : Tokens) → many L rs ys → (rs ≡ []) ⊎ (begins f rs ≡ true)
      starts_of [] rs g = inl g
      starts_of (y ∷ ys) rs g = inr (rw g.2 (begins-append f g.0 g.1 (begins_so p L f m P g.0 y g.3)))

  pub many_fronts : Fronts (many_at f p) (many L) Many_front f
  many_fronts = record {
    whole = λ ts xs h. (xs, ts, [], sym (append-nil ts), h, inl refl);
    starts = many_fstarts;
    keeps = λ us vs h. subst (λ (r : Tokens). length (rest_of (many_at f p (r ++ vs))) ≤ length vs) (sym h.3)
        (times_keeps h.0 (length ((h.1 ++ h.2) ++ vs)) h.1 h.2 vs h.4 h.5 (omega arith));
    within = λ us w e. times_within (length (us ++ w.rest)) us w e;
  }

-- ---- [a {k a} [k]]

module _ {A : Type 0} (k : Kind) (p : Reader A) (L : Phrase A) (F : Tokens → Type 0) (f m : List Kind)
    (P : Exact p L f m false) (PF : Fronts p L F f) (clear : apart (k ∷ []) m ≡ true) where
  abbrev Listed_front : Tokens → Type 0
  Listed_front ts = (xs : List (A × Token)) × (front : Tokens) × (back : Tokens) × (ts ≡ front ++ back)
      × many (L ⊗ terminal k) front xs × ((back ≡ []) ⊎ F back)

  after_shrinks : (n : ℕ) (b : Bool) (x : A × Tokens)
      → ((us : Tokens) → length (rest_of (listed_for n f k p us)) ≤ length us)
      → length (rest_of (cond b (signed k p f n x.0 (expect_at k x.1)) (Ok (x.0 ∷ [], x.1)))) ≤ length x.1
  after_shrinks n true x h =
      bind_keeps (expect_at k x.1) (λ y. listed_for n f k p y.1 >>= λ xs. Ok (x.0 ∷ xs.0, xs.1)) (length x.1)
      (shrinks (expect_at k) (terminal k) (k ∷ []) [] false (terminal_exact k) x.1)
      (λ y e. rw (rest_of-map {B = List A} (listed_for n f k p y.1) (λ xs. x.0 ∷ xs)) (h y.1))
  after_shrinks n false x h = omega arith

  list_next : (b : Bool) (n : ℕ) (ts : Tokens) →
      ((us : Tokens) → length (rest_of (listed_for n f k p us)) ≤ length us)
      → length (rest_of (cond b (p ts >>= after_item k p f n) (Ok ([], ts)))) ≤ length ts
  list_next true n ts h =
      bind_keeps (p ts) (after_item k p f n) (length ts) (shrinks p L f m false P ts)
      (λ x e. after_shrinks n (begins (k ∷ []) x.1) x h)
  list_next false n ts h = omega arith

  list_shrinks : (n : ℕ) (ts : Tokens) → length (rest_of (listed_for n f k p ts)) ≤ length ts
  list_shrinks zero ts = omega arith
  list_shrinks (suc n) ts = list_next (begins f ts) n ts (λ us. list_shrinks n us)

  begun_keeps : (n : ℕ) (us vs : Tokens) → F us → begins f us ≡ true → length (us ++ vs) ≤ n
      → length (rest_of (listed_for n f k p (us ++ vs))) ≤ length vs
  begun_keeps zero us vs h on le = absurd (omega (arith, length-append us vs, begins-nil f us on))
  begun_keeps (suc n) us vs h on le =
      rw (begins-append f us vs on) (bind_keeps (p (us ++ vs)) (after_item k p f n) (length vs) (PF.keeps us vs h)
      (λ x e. after_shrinks n (begins (k ∷ []) x.1) x (list_shrinks n)))

  end_keeps : (n : ℕ) (us vs : Tokens) → (us ≡ []) ⊎ F us → length (us ++ vs) ≤ n
      → length (rest_of (listed_for n f k p (us ++ vs))) ≤ length vs
  end_keeps n us vs (inl none) le = rw none (list_shrinks n vs)
  end_keeps n us vs (inr h) le =
      elim (PF.starts us h) [ inl none ↦ rw none (list_shrinks n vs) | inr on ↦ begun_keeps n us vs h on le ]

  item_step : (n : ℕ) (us rest : Tokens) (token : Token) (x : A) → L us x → token.kind ≡ k
      → rest_of (listed_for (suc n) f k p (us ++ token ∷ rest)) ≡ rest_of (listed_for n f k p rest)
  item_step n us rest token x h is =
      let one = P.complete us (token ∷ rest) x h
      (apart_begins (k ∷ []) m (token ∷ rest) clear (terminal_begins k token rest is)) in
      rw (
        begins-append f us (token ∷ rest) (begins_so p L f m P us x h),
        one,
        terminal_begins k token rest is,
        terminal_taken k token rest is,
      ) (rest_of-map {B = List A} (listed_for n f k p rest) (λ xs. x ∷ xs))

  step_keeps : (n : ℕ) (us rest vs : Tokens) (token : Token) (x : A) → L us x → token.kind ≡ k
      → length (us ++ token ∷ rest) ≤ n → ((j : ℕ) → length rest ≤ j
      → length (rest_of (listed_for j f k p rest)) ≤ length vs)
      → length (rest_of (listed_for n f k p (us ++ token ∷ rest))) ≤ length vs
  step_keeps zero us rest vs token x h is le more = absurd (omega (arith, length-append us (token ∷ rest)))
  step_keeps (suc n) us rest vs token x h is le more =
      rw (item_step n us rest token x h is) (more n (omega (arith, length-append us (token ∷ rest))))

  list_keeps : (xs : List (A × Token)) (n : ℕ) (front back vs : Tokens) → many (L ⊗ terminal k) front xs → (back ≡ [])
      ⊎ F back → length ((front ++ back) ++ vs) ≤ n → length (rest_of (listed_for n f k p ((front ++ back) ++ vs))) ≤
      length vs
  list_keeps [] n front back vs h b le =
      let e : front ++ back ≡ back = rw h refl in
      subst (λ (r : Tokens). length (rest_of (listed_for n f k p (r ++ vs))) ≤ length vs) (sym e)
      (end_keeps n back vs b (subst (λ (r : Tokens). length (r ++ vs) ≤ n) e le))
  list_keeps (x ∷ xs) n front back vs h b le =
      let i = h.3 in
      let token = x.1 in
      let one : h.0 ≡ i.0 ++ token ∷ [] = i.2 ∙ ap (λ (r : Tokens). i.0 ++ r) i.4.0 in
      let e : (front ++ back) ++ vs ≡ i.0 ++ token ∷ ((h.1 ++ back) ++ vs) =
      ap (λ (r : Tokens). (r ++ back) ++ vs) (h.2 ∙ ap (λ (r : Tokens). r ++ h.1) one) ∙ simp append_assoc in
      subst (λ (r : Tokens). length (rest_of (listed_for n f k p r)) ≤ length vs) (sym e)
      (step_keeps n i.0 ((h.1 ++ back) ++ vs) vs token x.0 i.3 i.4.1 (subst (λ (r : Tokens). length r ≤ n) e le)
      (λ j le'. list_keeps xs j h.1 back vs h.4 b le'))

  list_whole : (xs : List A) (ts : Tokens) → listed k L ts xs → Listed_front ts
  list_whole [] ts h = ([], [], [], h, refl, inl refl)
  list_whole (x ∷ xs) ts h = elim h.4 [
    | inl last ↦ (
      [],
      [],
      h.0,
      h.2 ∙ ap (λ (r : Tokens). h.0 ++ r) last.0
          ∙ append-nil h.0,
      refl,
      inr (PF.whole h.0 x h.3),
    )
    | inr more ↦
        let w = list_whole xs more.1 more.4 in
        let token = more.0 in
        let item : (L ⊗ terminal k) (h.0 ++ token ∷ []) (x, token) = (h.0, token ∷ [], refl, h.3, (refl, more.3)) in
        let e : ts ≡ ((h.0 ++ token ∷ []) ++ w.1) ++ w.2 = h.2
        ∙ ap (λ (r : Tokens). h.0 ++ r) (more.2 ∙ ap (λ (r : Tokens). token ∷ r) w.3)
        ∙ sym (append_assoc h.0 (token ∷ []) (w.1 ++ w.2)) ∙ sym (append_assoc (h.0 ++ token ∷ []) w.1 w.2) in
        ((x, token) ∷ w.0, (h.0 ++ token ∷ []) ++ w.1, w.2, e, (h.0 ++ token ∷ [], w.1, refl, item, w.4), w.5)
  ]

  list_fstarts : (ts : Tokens) → Listed_front ts → (ts ≡ []) ⊎ (begins f ts ≡ true)
  list_fstarts ts h = elim (starts_of h.0 h.1 h.4) [
    | inl none ↦ elim h.5 [
      | inl none' ↦ inl (h.3 ∙ rw (none, none') refl)
      | inr b ↦ elim (PF.starts h.2 b) [
        | inl none' ↦ inl (h.3 ∙ rw (none, none') refl)
        | inr on ↦
            inr (rw (h.3, none) on)
      ]
    ]
    | inr on ↦ inr (rw h.3 (begins-append f h.1 h.2 on))
  ]
    where
      starts_of : (ys : List (A × Token)) (rs : Tokens) → many (L ⊗ terminal k) rs ys → (rs ≡ []) ⊎ (begins f rs ≡ true)
      starts_of [] rs g = inl g
      starts_of (y ∷ ys) rs g = inr (rw (g.2, g.3.2)
          (begins-append f (g.3.0 ++ g.3.1) g.1 (begins-append f g.3.0 g.3.1 (begins_so p L f m P g.3.0 y.0 g.3.3))))

  -- the items read before a fault, and the tokens of the one that it is in
  record Broken (n : ℕ) (ts : Tokens) (w : Failure) : Type 0 where
    front : Tokens
    parts : ts ≡ front ++ w.rest
    is : Listed_front front

  broken_step : (n : ℕ) → ((rs : Tokens) (w : Failure) → listed_for n f k p rs ≡ Err w → Broken n rs w)
      → (ts us : Tokens) (w : Failure) (x : A) → Took p L ts (x, us) → (b : begins (k ∷ []) us ≡ true)
      → signed k p f n x (expect_at k us) ≡ Err w → Broken (suc n) ts w
  broken_step n again ts us w x s b e =
      let t = starts_with k us b in
      let e' : (listed_for n f k p t.rest >>= λ xs. Ok (x ∷ xs.0, xs.1))
      ≡ Err w = sym (ap (λ (r : Tokens). signed k p f n x (expect_at k r)) t.parts
      ∙ ap (signed k p f n x) (terminal_taken k t.token t.rest t.kind)) ∙ e in
      elim (bind_err (listed_for n f k p t.rest) (λ xs. Ok (x ∷ xs.0, xs.1)) w e') [
        | inl d ↦
            let o = again t.rest w d in
            let item : (L ⊗ terminal k) (s.front ++ t.token ∷ []) (x, t.token) =
            (s.front, t.token ∷ [], refl, s.means, (refl, t.kind)) in
            let i = o.is in
            record {
              front = (s.front ++ t.token ∷ []) ++ o.front;
              parts = s.parts ∙ ap (λ (r : Tokens). s.front ++ r) (t.parts ∙ ap (λ (r : Tokens). t.token ∷ r) o.parts)
                  ∙ sym (append_assoc s.front (t.token ∷ []) (o.front ++ w.rest))
                  ∙ sym (append_assoc (s.front ++ t.token ∷ []) o.front w.rest);
              is = (
                (x, t.token) ∷ i.0,
                (s.front ++ t.token ∷ []) ++ i.1,
                i.2,
                ap
                    (λ (r : Tokens). (s.front ++ t.token ∷ []) ++ r) i.3
                    ∙ sym (append_assoc (s.front ++ t.token ∷ []) i.1 i.2),
                (s.front ++ t.token ∷ [], i.1, refl, item, i.4),
                i.5,
              );
            }
        | inr d ↦ absurd (let no : ◌≡◌ {A = Read (List A)} (Ok (x ∷ d.0.0, d.0.1)) (Err w) = d.2 in cc)
      ]

  broken : (n : ℕ) (ts : Tokens) (w : Failure) → listed_for n f k p ts ≡ Err w → Broken n ts w
  broken zero ts w e = absurd cc
  broken (suc n) ts w e =
      elim (chosen (begins f ts) (p ts >>= after_item k p f n) (Ok ([], ts)) (Err w) e) [
        | inl c ↦ elim (bind_err (p ts) (after_item k p f n) w c.1) [
          | inl a ↦
              let s = P.stuck ts w a in
              record {
                front = s.front;
                parts = s.parts;
                is = (
                  [],
                  [],
                  s.front,
                  refl,
                  refl,
                  inr (PF.within s.front w
                      (subst (λ (r : Tokens). p r ≡ Err w) s.parts a)),
                );
              }
          | inr a ↦
              let s = P.sound ts a.0 a.1 in
              elim (chosen (begins (k ∷ []) a.0.1) (signed k p f n a.0.0 (expect_at k a.0.1)) (Ok (a.0.0 ∷ [], a.0.1))
              (Err w) a.2) [
                | inl d ↦ broken_step n (broken n) ts a.0.1 w a.0.0 s d.0 d.1
                | inr d ↦ absurd cc
              ]
        ]
        | inr c ↦ absurd cc
      ]

  list_within : (us : Tokens) (w : Failure) → listed_at f k p (us ++ w.rest) ≡ Err w → Listed_front us
  list_within us w e =
      let o = broken (length (us ++ w.rest)) (us ++ w.rest) w e in
      subst Listed_front (sym (append_cancel_right us o.front w.rest o.parts)) o.is

  pub listed_fronts : Fronts (listed_at f k p) (listed k L) Listed_front f
  listed_fronts = record {
    whole = λ ts xs h. list_whole xs ts h;
    starts = list_fstarts;
    keeps = λ us vs h. subst (λ (r : Tokens). length (rest_of (listed_at f k p (r ++ vs))) ≤ length vs) (sym h.3)
        (list_keeps h.0 (length ((h.1 ++ h.2) ++ vs)) h.1 h.2 vs h.4 h.5 (omega arith));
    within = list_within;
  }

-- ---- what begins so, begins so at each token of it

-- two ways to cut the same tokens
pub cut : (a b u v : Tokens) → a ++ b ≡ u ++ v → ((w : Tokens) × (a ≡ u ++ w))
    ⊎ ((w : Tokens) × (u ≡ a ++ w) × (b ≡ w ++ v))
cut [] b u v e = inr (u, refl, e)
cut (x ∷ a) b [] v e = inl (x ∷ a, refl)
cut (x ∷ a) b (y ∷ u) v e =
    let one : x ≡ y = cc in
    let rest : a ++ b ≡ u ++ v = cc in
    elim (cut a b u v rest) [
      | inl h ↦ inl (h.0, rw (one, h.1) refl)
      | inr h ↦ inr (h.0, rw (one, h.1) refl, h.2)
    ]

no_tokens : (u v : Tokens) → u ++ v ≡ [] → u ≡ []
no_tokens [] v e = refl
no_tokens (x ∷ u) v e = absurd cc

-- one token, and then others that are so
one_closed : (F : Tokens → Type 0) (t : Token) (rest u v : Tokens) → IsClosed F → u ++ v ≡ t ∷ rest → F rest
    → (u ≡ []) ⊎ ((us : Tokens) × (u ≡ t ∷ us) × F us)
one_closed F t rest [] v c e h = inl refl
one_closed F t rest (x ∷ us) v c e h =
    let one : x ≡ t = cc in
    let more : rest ≡ us ++ v = cc in
    inr (us, rw one refl, c us v (subst F more h))

pub terminal_closed : (k : Kind) → IsClosed (piece.terminal k).front
terminal_closed k u v (inl none) = inl (no_tokens u v none)
terminal_closed k u v (inr h) = elim (one_closed (λ ts. ts ≡ []) h.0 [] u v (λ a b e. no_tokens a b e) h.1.0 refl) [
  | inl none ↦ inl none
  | inr g ↦ inr (h.0, (g.1 ∙ ap (λ (r : Tokens). h.0 ∷ r) g.2, h.1.1))
]

pub both_closed : {A B : Type 0} (a : Piece A) (b : Piece B) → ((ts : Tokens) (x : A) → a.whole ts x → a.front ts)
    → IsClosed a.front → IsClosed b.front → IsClosed (piece.◌⊗◌ a b).front
both_closed a b w ca cb u v (inl h) = inl (ca u v h)
both_closed a b w ca cb u v (inr h) = elim (cut h.0 h.1 u v (sym h.3)) [
  | inl c ↦ inl (ca u c.0 (subst a.front c.1 (w h.0 h.2 h.4)))
  | inr c ↦ inr (h.0, c.0, h.2, c.1, h.4, cb c.0 v (subst b.front c.2 h.5))
]

pub opens_closed : {A : Type 0} (k : Kind) (a : Piece A) → IsClosed a.front → IsClosed (piece.opens k a).front
opens_closed k a c u v (inl none) = inl (no_tokens u v none)
opens_closed k a c u v (inr h) =
    elim (one_closed a.front h.0 h.1 u v c h.2 h.4) [ inl none ↦ inl none | inr g ↦ inr (h.0, g.0, g.1, h.3, g.2) ]

pub either_closed : {A : Type 0} (a b : Piece A) → IsClosed a.front → IsClosed b.front → IsClosed (piece.◌∣◌ a b).front
either_closed a b ca cb u v (inl h) = inl (ca u v h)
either_closed a b ca cb u v (inr h) = inr (cb u v h)

pub optional_closed : {A : Type 0} (a : Piece A) → IsClosed a.front → IsClosed (piece.optional a).front
optional_closed a c u v (inl none) = inl (no_tokens u v none)
optional_closed a c u v (inr h) = inr (c u v h)

-- whole items, and the beginning of one
items_closed : {B : Type 0} (L : Phrase B) (F : Tokens → Type 0)
    → ((ts u v : Tokens) (x : B) → L ts x → ts ≡ u ++ v → F u ⊎ (u ≡ ts)) → IsClosed F
    → (xs : List B) (front back u v : Tokens) → front ++ back ≡ u ++ v → many L front xs → (back ≡ []) ⊎ F back
    → (ys : List B) × (f : Tokens) × (b : Tokens) × (u ≡ f ++ b) × many L f ys × ((b ≡ []) ⊎ F b)
items_closed L F w c [] front back u v e h k = elim k [
  | inl none ↦
      let all : u ++ v ≡ [] = sym e ∙ rw (h, none) refl in
      ([], [], [], no_tokens u v all, refl, inl refl)
  | inr g ↦
      let all : back ≡ u ++ v = sym (ap (λ (r : Tokens). r ++ back) h) ∙ e in
      ([], [], u, refl, refl, inr (c u v (subst F all g)))
]
items_closed L F w c (x ∷ xs) front back u v e h k =
    let whole : h.0 ++ (h.1 ++ back) ≡ u ++ v = sym (ap (λ (r : Tokens). r ++ back) h.2 ∙ append_assoc h.0 h.1 back)
    ∙ e in
    elim (cut h.0 (h.1 ++ back) u v whole) [
      | inl s ↦ elim (w h.0 u s.0 x h.3 s.1) [
        | inl g ↦ ([], [], u, refl, refl, inr g)
        | inr g ↦ (x ∷ [], u, [], sym (append-nil u), (h.0, [], g ∙ sym (append-nil h.0), h.3, refl), inl refl)
      ]
      | inr s ↦
          let i = items_closed L F w c xs h.1 back s.0 v s.2 h.4 k in (
            x ∷ i.0,
            h.0 ++ i.1,
            i.2,
            s.1 ∙ ap (λ (r : Tokens). h.0 ++ r) i.3
                ∙ sym (append_assoc h.0 i.1 i.2),
            (h.0, i.1, refl, h.3, i.4),
            i.5,
          )
    ]

pub many_closed : {A : Type 0} (a : Piece A) → ((ts : Tokens) (x : A) → a.whole ts x → a.front ts) → IsClosed a.front
    → IsClosed (piece.many a).front
many_closed a w c u v h =
    items_closed a.whole a.front (λ ts u' v' x g e. inl (c u' v' (subst a.front e (w ts x g)))) c h.0 h.1 h.2 u v
    (sym h.3) h.4 h.5

one_left : (t : Token) (w v : Tokens) → t ∷ [] ≡ w ++ v → (w ≡ []) ⊎ (w ≡ t ∷ [])
one_left t [] v e = inl refl
one_left t (x ∷ w) v e =
    let one : t ≡ x = cc in
    let none : [] ≡ w ++ v = cc in
    inr (rw (← one, no_tokens w v (sym none)) refl)

pub listed_closed : {A : Type 0} (k : Kind) (a : Piece A) → ((ts : Tokens) (x : A) → a.whole ts x → a.front ts)
    → IsClosed a.front → IsClosed (piece.listed k a).front
listed_closed {A = A} k a w c u v h =
    items_closed (a.whole ⊗ terminal k) a.front inside c h.0 h.1 h.2 u v (sym h.3) h.4 h.5
  where
    inside : (ts u' v' : Tokens) (x : A × Token) → (a.whole ⊗ terminal k) ts x → ts ≡ u' ++ v' → a.front u' ⊎ (u' ≡ ts)
    inside ts u' v' x g e = elim (cut g.0 g.1 u' v' (sym g.2 ∙ e)) [
      | inl s ↦ inl (c u' s.0 (subst a.front s.1 (w g.0 x.0 g.3)))
      | inr s ↦ elim (one_left x.1 s.0 v' (sym g.4.0 ∙ s.2)) [
        | inl none ↦ inl (subst a.front (sym (s.1 ∙ ap (λ (r : Tokens). g.0 ++ r) none ∙ append-nil g.0))
            (w g.0 x.0 g.3))
        | inr whole ↦ inr (s.1 ∙ ap (λ (r : Tokens). g.0 ++ r) (whole ∙ sym g.4.0) ∙ sym g.2)
      ]
    ]
