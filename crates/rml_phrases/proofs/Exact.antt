-- A reader is exact for a phrase: what it reads is the phrase, what is the phrase it reads, and where it stops the
-- tokens before begin the phrase.
use Rattle.std.proofs.Common.{
  ◌≡◌,
  ℕ,
  zero,
  suc,
  ◌<◌,
  ◌≤◌,
  Bool,
  true,
  false,
  cond,
  ◌||◌,
  ◌&&◌,
  ◌⊎◌,
  inl,
  inr,
  List,
  [],
  ◌∷◌,
  ◌++◌,
  length,
  get_or,
  Option,
  Some,
  None,
  Result,
  Ok,
  Err,
  refl,
  sym,
  ap,
  subst,
  ◌∙◌,
  append_assoc,
  eq-eqb,
  arith,
}
use Rattle.std.proofs.Math.Bool.{or_assoc, or-true}
use Rattle.std.specs.Prelude.{◌==◌}
use Rattle.std.proofs.lemmas.Bool.{eqb-true, or_parts, or_cases}
use Rattle.std.proofs.lemmas.List.{length-append}
use Rattle.rml_lex.specs.declared.token.Kind.{Kind}
use Rattle.rml_lex.specs.declared.token.Kind.TheVariants.{Word, Sign}
use Rattle.rml_lex.specs.declared.token.Kind.TheVariants as kind
use Rattle.rml_lex.specs.declared.token.Word.TheVariants.{
  Rml,
  Sort,
  Relation,
  Function,
  Variable,
  Axiom,
  Conjecture,
  Init,
  Action,
  Final,
  Skip,
  Abort,
  Assume,
  Assert,
  If,
  Else,
  Choose,
  Or,
  Insert,
  Remove,
  Put,
  Forall,
  Exists,
  True,
  False,
  Ite,
  Define,
}
use Rattle.rml_lex.specs.declared.token.Sign.TheVariants.{
  DoubleArrow,
  Arrow,
  Becomes,
  NotEqual,
  OpenBrace,
  CloseBrace,
  OpenParen,
  CloseParen,
  Comma,
  Semicolon,
  Colon,
  Dot,
  Equal,
  Not as Tilde,
  And as Ampersand,
  Or as Bar,
  Star,
}
use Rattle.rml_lex.specs.declared.token.Token.{Token}
use Rattle.rml_phrases.specs.Language.{Tokens, Phrase, terminal, ◌⊗◌, ◌∣◌, ◌⇒◌, optional, many, placed, place_of}
use Rattle.rml_phrases.specs.Language.{Begins}
use Rattle.rml_phrases.specs.Reading.{number, has, begins, Unexpected, TooDeep, Failure, Reader, ◌>>=◌, fails}
use Rattle.rml_phrases.specs.Reading.{expect_at, both_at, made_at, either_at, optional_at, times_at, many_at, placed_at}
use Rattle.rml_phrases.specs.Reading.{opening_at}
use Rattle.rml_phrases.specs.Good.{head, Took, Some_of, Stuck, Exact}

-- ---- results

pub bind_ok : {A B : Type 0} (r : Result A Failure) (f : A → Result B Failure) (y : B) → (r >>= f) ≡ Ok y → (x : A)
    × (r ≡ Ok x) × (f x ≡ Ok y)
bind_ok (Ok x) f y e = (x, refl, e)
bind_ok (Err d) f y e = absurd cc

-- the step that failed
pub bind_err : {A B : Type 0} (r : Result A Failure) (f : A → Result B Failure) (d : Failure) → (r >>= f) ≡ Err d
    → (r ≡ Err d) ⊎ ((x : A) × (r ≡ Ok x) × (f x ≡ Err d))
bind_err (Ok x) f d e = inr (x, refl, e)
bind_err (Err c) f d e = inl cc

pub ok_is : {A : Type 0} (x y : A) → ◌≡◌ {A = Result A Failure} (Ok x) (Ok y) → x ≡ y
ok_is x y e = cc

pub chosen : {A : Type 0} (b : Bool) (x y z : A) → cond b x y ≡ z → ((b ≡ true) × (x ≡ z)) ⊎ ((b ≡ false) × (y ≡ z))
chosen true x y z e = inl (refl, e)
chosen false x y z e = inr (refl, e)

-- ---- tokens

pub begins-head : (ks : List Kind) (us vs : Tokens) → head us ≡ head vs → begins ks us ≡ begins ks vs
begins-head ks [] [] e = refl
begins-head ks [] (v ∷ vs) e = absurd cc
begins-head ks (u ∷ us) [] e = absurd cc
begins-head ks (u ∷ us) (v ∷ vs) e = let same : u ≡ v = cc in ap (λ (t : Token). has ks t.kind) same

pub head-append : (front us vs : Tokens) → head us ≡ head vs → head (front ++ us) ≡ head (front ++ vs)
head-append [] us vs e = e
head-append (t ∷ ts) us vs e = refl

abbrev all_kinds : List Kind
all_kinds = kind.Name ∷ kind.Number ∷ Word Rml ∷ Word Sort ∷ Word Relation ∷ Word Function ∷ Word Variable ∷ Word
    Axiom ∷ Word Conjecture ∷ Word Init ∷ Word Action ∷ Word Final ∷ Word Skip ∷ Word Abort ∷ Word Assume ∷ Word
    Assert ∷ Word If ∷ Word Else ∷ Word Choose ∷ Word Or ∷ Word Insert ∷ Word Remove ∷ Word Put ∷ Word Forall ∷ Word
    Exists ∷ Word True ∷ Word False ∷ Word Ite ∷ Word Define ∷ Sign DoubleArrow ∷ Sign Arrow ∷ Sign Becomes ∷ Sign
    NotEqual ∷ Sign OpenBrace ∷ Sign CloseBrace ∷ Sign OpenParen ∷ Sign CloseParen ∷ Sign Comma ∷ Sign Semicolon ∷
    Sign Colon ∷ Sign Dot ∷ Sign Equal ∷ Sign Tilde ∷ Sign Ampersand ∷ Sign Bar ∷ Sign Star ∷ []

found : (k : Kind) → get_or all_kinds (number k) kind.Name ≡ k
found kind.Name = refl
found kind.Number = refl
found (Word Rml) = refl
found (Word Sort) = refl
found (Word Relation) = refl
found (Word Function) = refl
found (Word Variable) = refl
found (Word Axiom) = refl
found (Word Conjecture) = refl
found (Word Init) = refl
found (Word Action) = refl
found (Word Final) = refl
found (Word Skip) = refl
found (Word Abort) = refl
found (Word Assume) = refl
found (Word Assert) = refl
found (Word If) = refl
found (Word Else) = refl
found (Word Choose) = refl
found (Word Or) = refl
found (Word Insert) = refl
found (Word Remove) = refl
found (Word Put) = refl
found (Word Forall) = refl
found (Word Exists) = refl
found (Word True) = refl
found (Word False) = refl
found (Word Ite) = refl
found (Word Define) = refl
found (Sign DoubleArrow) = refl
found (Sign Arrow) = refl
found (Sign Becomes) = refl
found (Sign NotEqual) = refl
found (Sign OpenBrace) = refl
found (Sign CloseBrace) = refl
found (Sign OpenParen) = refl
found (Sign CloseParen) = refl
found (Sign Comma) = refl
found (Sign Semicolon) = refl
found (Sign Colon) = refl
found (Sign Dot) = refl
found (Sign Equal) = refl
found (Sign Tilde) = refl
found (Sign Ampersand) = refl
found (Sign Bar) = refl
found (Sign Star) = refl

pub same_kind : (j k : Kind) → (number j == number k) ≡ true → j ≡ k
same_kind j k e = sym (found j) ∙ ap (λ n. get_or all_kinds n kind.Name) (eqb-true (number j) (number k) e) ∙ found k

pub same_number : (j k : Kind) → j ≡ k → (number j == number k) ≡ true
same_number j k e = subst (λ i. (number j == number i) ≡ true) e (eq-eqb (number j) (number j) refl)

pub err_is : {A : Type 0} (f g : Failure) → ◌≡◌ {A = Result A Failure} (Err f) (Err g) → f ≡ g
err_is f g e = cc

terminal_none : (k : Kind) (vs : Tokens) → None ≡ head vs → expect_at k vs ≡ fails Unexpected vs
terminal_none k [] e = refl
terminal_none k (v ∷ vs) e = absurd cc

terminal_other : (k : Kind) (t : Token) → (number k == number t.kind) ≡ false → (vs : Tokens) → Some t ≡ head vs
    → expect_at k vs ≡ fails Unexpected vs
terminal_other k t h [] e = absurd cc
terminal_other k t h (v ∷ vs) e = let same : t ≡ v = cc in rw (← same) (rw h refl)

-- ---- what a reader did

pub Begins-from : {A : Type 0} (L : Phrase A) (front : Tokens) → Some_of L → (front ≡ []) ⊎ Begins L front
    → Begins L front
Begins-from L front some (inl e) = record { rest = some.tokens; value = some.value; means = rw e some.means }
Begins-from L front some (inr b) = b

-- ---- one lexeme

pub terminal_sound : (k : Kind) (ts : Tokens) (z : Token × Tokens) → expect_at k ts ≡ Ok z
    → Took (expect_at k) (terminal k) ts z
terminal_sound k [] z e = absurd cc
terminal_sound k (t ∷ ts) z e =
    elim (chosen (number k == number t.kind) (Ok (t, ts)) (fails Unexpected (t ∷ ts)) (Ok z) e) [
      | inl h ↦ subst (λ y. Took (expect_at k) (terminal k) (t ∷ ts) y) (ok_is (t, ts) z h.1) (record {
        front = t ∷ [];
        parts = refl;
        means = (refl, sym (same_kind k t.kind h.0));
        again = λ vs same. rw h.0 refl;
      })
      | inr h ↦ absurd cc
    ]

-- where it stops it has taken nothing
pub record Refuses {A : Type 0} (p : Reader A) (ts : Tokens) (f : Failure) : Type 0 where
  pub here : ts ≡ f.rest
  pub again : (vs : Tokens) → head f.rest ≡ head vs → p vs ≡ fails f.why vs

pub terminal_refuses : (k : Kind) (ts : Tokens) (f : Failure) → expect_at k ts ≡ Err f → Refuses (expect_at k) ts f
terminal_refuses k [] f e =
    subst (λ g. Refuses (expect_at k) [] g) (err_is (record { why = Unexpected; rest = [] }) f e)
    (record { here = refl; again = terminal_none k })
terminal_refuses k (t ∷ ts) f e =
    elim (chosen (number k == number t.kind) (Ok (t, ts)) (fails Unexpected (t ∷ ts)) (Err f) e) [
      | inl h ↦ absurd cc
      | inr h ↦ subst (λ g. Refuses (expect_at k) (t ∷ ts) g)
          (err_is (record { why = Unexpected; rest = t ∷ ts }) f h.1)
          (record { here = refl; again = terminal_other k t h.0 })
    ]

Stuck-refuses : {A : Type 0} (p : Reader A) (L : Phrase A) (ts : Tokens) (f : Failure) → Refuses p ts f → Stuck p L ts f
Stuck-refuses p L ts f r = record { front = []; parts = r.here; again = r.again }

terminal_stuck : (k : Kind) (ts : Tokens) (f : Failure) → expect_at k ts ≡ Err f → Stuck (expect_at k) (terminal k) ts f
terminal_stuck k ts f e = Stuck-refuses (expect_at k) (terminal k) ts f (terminal_refuses k ts f e)

pub terminal_exact : (k : Kind) → Exact (expect_at k) (terminal k) (k ∷ []) [] false
terminal_exact k = record {
  sound = terminal_sound k;
  stuck = terminal_stuck k;
  complete = λ ts us x h clear. rw (h.0, h.1, same_number k k refl) refl;
  starts = λ ts x h. inl (rw (h.0, h.1, same_number k k refl) refl);
}

-- ---- sets of kinds

pub has-append : (js ks : List Kind) (k : Kind) → has (js ++ ks) k ≡ (has js k || has ks k)
has-append [] ks k = refl
has-append (j ∷ js) ks k = rw (has-append js ks k) (sym (or_assoc (number j == number k) (has js k) (has ks k)))

pub begins_neither : (js ks : List Kind) (us : Tokens) → begins (js ++ ks) us ≡ false → (begins js us ≡ false)
    × (begins ks us ≡ false)
begins_neither js ks [] e = (refl, refl)
begins_neither js ks (u ∷ us) e = or_parts (has js u.kind) (has ks u.kind) (sym (has-append js ks u.kind) ∙ e)

pub begins_left : (js ks : List Kind) (us : Tokens) → begins js us ≡ true → begins (js ++ ks) us ≡ true
begins_left js ks [] e = absurd cc
begins_left js ks (u ∷ us) e = has-append js ks u.kind ∙ rw e refl

pub begins_right : (js ks : List Kind) (us : Tokens) → begins ks us ≡ true → begins (js ++ ks) us ≡ true
begins_right js ks [] e = absurd cc
begins_right js ks (u ∷ us) e = has-append js ks u.kind ∙ rw e (or-true (has js u.kind))

pub begins-append : (ks : List Kind) (front us : Tokens) → begins ks front ≡ true → begins ks (front ++ us) ≡ true
begins-append ks [] us e = absurd cc
begins-append ks (t ∷ ts) us e = e

pub or_false_left : (b : Bool) → (b || false) ≡ true → b ≡ true
or_false_left true e = refl
or_false_left false e = absurd cc

-- no kind is in both
abbrev pub apart : List Kind → List Kind → Bool
apart [] m = true
apart (k ∷ ks) m = cond (has m k) false (apart ks m)

apart_has : (f m : List Kind) (k : Kind) → apart f m ≡ true → has f k ≡ true → has m k ≡ false
apart_has [] m k h e = absurd cc
apart_has (j ∷ js) m k h e =
    elim (chosen (has m j) false (apart js m) true h) [
      | inl g ↦ absurd cc
      | inr g ↦ elim (or_cases (number j == number k) (has js k) e) [
        | inl same ↦ subst (λ i. has m i ≡ false) (same_kind j k same) g.0
        | inr more ↦ apart_has js m k g.1 more
      ]
    ]

pub apart_begins : (f m : List Kind) (ts : Tokens) → apart f m ≡ true → begins f ts ≡ true → begins m ts ≡ false
apart_begins f m [] h e = refl
apart_begins f m (t ∷ ts) h e = apart_has f m t.kind h e

-- ---- a, and behind it b

-- ks, and js too where what they are behind may be empty
abbrev pub joint : Bool → List Kind → List Kind → List Kind
joint b ks js = cond b (ks ++ js) ks

joint_stops : (b : Bool) (ks js : List Kind) (us : Tokens) → begins (joint b ks js) us ≡ false
    → (begins ks us ≡ false) × (b ≡ true → begins js us ≡ false)
joint_stops true ks js us e = let h = begins_neither ks js us e in (h.0, λ is. h.1)
joint_stops false ks js us e = (e, λ is. absurd cc)

joint_left : (b : Bool) (ks js : List Kind) (us : Tokens) → begins ks us ≡ true → begins (joint b ks js) us ≡ true
joint_left true ks js us e = begins_left ks js us e
joint_left false ks js us e = e

joint_right : (b : Bool) (ks js : List Kind) (us : Tokens) → b ≡ true → begins js us ≡ true
    → begins (joint b ks js) us ≡ true
joint_right true ks js us is e = begins_right ks js us e
joint_right false ks js us is e = absurd cc

module _ {A B : Type 0} (p : Reader A) (q : Reader B) (L : Phrase A) (M : Phrase B) (f m g n : List Kind) (d e : Bool)
    (P : Exact p L f m d) (Q : Exact q M g n e) (clear : apart g m ≡ true) where
  both_sound : (ts : Tokens) (z : (A × B) × Tokens) → both_at p q ts ≡ Ok z → Took (both_at p q) (L ⊗ M) ts z
  both_sound ts z h =
      let a = bind_ok (p ts) (λ x. q x.1 >>= λ y. Ok ((x.0, y.0), y.1)) z h in
      let b = bind_ok (q a.0.1) (λ y. Ok ((a.0.0, y.0), y.1)) z a.2 in
      let s = P.sound ts a.0 a.1 in
      let t = Q.sound a.0.1 b.0 b.1 in
      subst (λ y. Took (both_at p q) (L ⊗ M) ts y) (ok_is ((a.0.0, b.0.0), b.0.1) z b.2) (record {
        front = s.front ++ t.front;
        parts = s.parts ∙ ap (λ (r : Tokens). s.front ++ r) t.parts ∙ sym (append_assoc s.front t.front b.0.1);
        means = (s.front, t.front, refl, s.means, t.means);
        again = λ vs same.
            let one = s.again (t.front ++ vs) (ap head t.parts ∙ head-append t.front b.0.1 vs same) in
            let two = t.again vs same in
            ap (both_at p q) (append_assoc s.front t.front vs) ∙ rw (one, two) refl;
      })

  both_stuck : (ts : Tokens) (w : Failure) → both_at p q ts ≡ Err w → Stuck (both_at p q) (L ⊗ M) ts w
  both_stuck ts w h =
      elim (bind_err (p ts) (λ x. q x.1 >>= λ y. Ok ((x.0, y.0), y.1)) w h) [
        | inl a ↦
            let s = P.stuck ts w a in
            record {
              front = s.front;
              parts = s.parts;
              again = λ vs same. rw (s.again vs same) refl;
            }
        | inr a ↦ elim (bind_err (q a.0.1) (λ y. Ok ((a.0.0, y.0), y.1)) w a.2) [
          | inl b ↦
              let s = P.sound ts a.0 a.1 in
              let t = Q.stuck a.0.1 w b in
              record {
                front = s.front ++ t.front;
                parts = s.parts ∙ ap (λ (r : Tokens). s.front ++ r) t.parts ∙ sym (append_assoc s.front t.front w.rest);
                again = λ vs same.
                    let one = s.again (t.front ++ vs) (ap head t.parts ∙ head-append t.front w.rest vs same) in
                    let two = t.again vs same in
                    ap (both_at p q) (append_assoc s.front t.front vs) ∙ rw (one, two) refl;
              }
          | inr b ↦ absurd cc
        ]
      ]

  both_complete : (ts us : Tokens) (x : A × B) → (L ⊗ M) ts x → begins (joint e n m) us ≡ false
      → both_at p q (ts ++ us) ≡ Ok (x, us)
  both_complete ts us x h stop =
      let stops = joint_stops e n m us stop in
      let one : p (h.0 ++ (h.1 ++ us)) ≡ Ok (x.0, h.1 ++ us) =
      P.complete h.0 (h.1 ++ us) x.0 h.3 (elim (Q.starts h.1 x.1 h.4) [
        | inl b ↦ apart_begins g m (h.1 ++ us) clear (begins-append g h.1 us b)
        | inr b ↦ rw b.1 (stops.1 b.0)
      ]) in
      let two = Q.complete h.1 us x.1 h.4 stops.0 in
      ap (λ (r : Tokens). both_at p q (r ++ us)) h.2 ∙ ap (both_at p q) (append_assoc h.0 h.1 us) ∙ rw (one, two) refl

  both_starts : (ts : Tokens) (x : A × B) → (L ⊗ M) ts x → (begins (joint d f g) ts ≡ true)
      ⊎ (((d && e) ≡ true) × (ts ≡ []))
  both_starts ts x h =
      elim (P.starts h.0 x.0 h.3) [
        | inl a ↦ inl (rw h.2 (joint_left d f g (h.0 ++ h.1) (begins-append f h.0 h.1 a)))
        | inr a ↦ elim (Q.starts h.1 x.1 h.4) [
          | inl b ↦ inl (rw (h.2, a.1) (joint_right d f g h.1 a.0 b))
          | inr b ↦ inr (rw (a.0, b.0) refl, h.2 ∙ rw (a.1, b.1) refl)
        ]
      ]

  pub both_exact : Exact (both_at p q) (L ⊗ M) (joint d f g) (joint e n m) (d && e)
  both_exact = record { sound = both_sound; stuck = both_stuck; complete = both_complete; starts = both_starts }

-- ---- a, whose value is made into another

module _ {A B : Type 0} (h : A → B) (p : Reader A) (L : Phrase A) (f m : List Kind) (d : Bool)
    (P : Exact p L f m d) where
  made_sound : (ts : Tokens) (z : B × Tokens) → made_at h p ts ≡ Ok z → Took (made_at h p) (L ⇒ h) ts z
  made_sound ts z e =
      let a = bind_ok (p ts) (λ x. Ok (h x.0, x.1)) z e in
      let s = P.sound ts a.0 a.1 in
      subst (λ y. Took (made_at h p) (L ⇒ h) ts y) (ok_is (h a.0.0, a.0.1) z a.2) (record {
        front = s.front;
        parts = s.parts;
        means = (a.0.0, s.means, refl);
        again = λ vs same. rw (s.again vs same) refl;
      })

  made_stuck : (ts : Tokens) (w : Failure) → made_at h p ts ≡ Err w → Stuck (made_at h p) (L ⇒ h) ts w
  made_stuck ts w e =
      elim (bind_err (p ts) (λ x. Ok (h x.0, x.1)) w e) [
        | inl a ↦
            let s = P.stuck ts w a in
            record {
              front = s.front;
              parts = s.parts;
              again = λ vs same. rw (s.again vs same) refl;
            }
        | inr a ↦ absurd cc
      ]

  pub made_exact : Exact (made_at h p) (L ⇒ h) f m d
  made_exact = record {
    sound = made_sound;
    stuck = made_stuck;
    complete = λ ts us y k stop. rw (P.complete ts us k.0 k.1 stop, k.2) refl;
    starts = λ ts y k. P.starts ts k.0 k.1;
  }

-- ---- a, with the place of its first token

place_of-append : (f : List Kind) (front us : Tokens) → begins f front ≡ true → place_of (front ++ us) ≡ place_of front
place_of-append f [] us e = absurd cc
place_of-append f (t ∷ ts) us e = refl

module _ {A : Type 0} (p : Reader A) (L : Phrase A) (f m : List Kind) (P : Exact p L f m false) where
  pub begins_so : (ts : Tokens) (x : A) → L ts x → begins f ts ≡ true
  begins_so ts x h = elim (P.starts ts x h) [ inl b ↦ b | inr b ↦ absurd cc ]

  placed_again : (x : A) (front vs : Tokens) (n : ℕ) → p (front ++ vs) ≡ Ok (x, vs) → place_of (front ++ vs)
      ≡ place_of front → n ≡ place_of front → placed_at p (front ++ vs) ≡ Ok ((n, x), vs)
  placed_again x front vs n e here same = rw (e, here, same) refl

  placed_sound : (ts : Tokens) (z : (ℕ × A) × Tokens) → placed_at p ts ≡ Ok z → Took (placed_at p) (placed L) ts z
  placed_sound ts z e =
      let a = bind_ok (p ts) (λ x. Ok ((place_of ts, x.0), x.1)) z e in
      let s = P.sound ts a.0 a.1 in
      let here : (vs : Tokens) → place_of (s.front ++ vs)
      ≡ place_of s.front = λ vs. place_of-append f s.front vs (begins_so s.front a.0.0 s.means) in
      let place : place_of ts ≡ place_of s.front = ap place_of s.parts ∙ here a.0.1 in
      subst (λ y. Took (placed_at p) (placed L) ts y) (ok_is ((place_of ts, a.0.0), a.0.1) z a.2) (record {
        front = s.front;
        parts = s.parts;
        means = (place, s.means);
        again = λ vs same. placed_again a.0.0 s.front vs (place_of ts) (s.again vs same) (here vs) place;
      })

  placed_stuck : (ts : Tokens) (w : Failure) → placed_at p ts ≡ Err w → Stuck (placed_at p) (placed L) ts w
  placed_stuck ts w e =
      elim (bind_err (p ts) (λ x. Ok ((place_of ts, x.0), x.1)) w e) [
        | inl a ↦
            let s = P.stuck ts w a in
            record {
              front = s.front;
              parts = s.parts;
              again = λ vs same. rw (s.again vs same) refl;
            }
        | inr a ↦ absurd cc
      ]

  pub placed_exact : Exact (placed_at p) (placed L) f m false
  placed_exact = record {
    sound = placed_sound;
    stuck = placed_stuck;
    complete = λ ts us x k stop. rw (
      P.complete ts us x.1 k.1 stop,
      place_of-append f ts us (begins_so ts x.1 k.1),
      k.0,
    ) refl;
    starts = λ ts x k. P.starts ts x.1 k.1;
  }

-- ---- a at most once

module _ {A : Type 0} (p : Reader A) (L : Phrase A) (f m : List Kind) (P : Exact p L f m false) where
  optional_sound : (ts : Tokens) (z : Option A × Tokens) → optional_at f p ts ≡ Ok z
      → Took (optional_at f p) (optional L) ts z
  optional_sound ts z e =
      elim (chosen (begins f ts) (p ts >>= λ x. Ok (Some x.0, x.1)) (Ok (None, ts)) (Ok z) e) [
        | inl c ↦
            let a = bind_ok (p ts) (λ x. Ok (Some x.0, x.1)) z c.1 in
            let s = P.sound ts a.0 a.1 in
            subst (λ y. Took (optional_at f p) (optional L) ts y) (ok_is (Some a.0.0, a.0.1) z a.2) (record {
              front = s.front;
              parts = s.parts;
              means = s.means;
              again = λ vs same. rw (
                begins-append f s.front vs (begins_so p L f m P s.front a.0.0 s.means),
                s.again vs same,
              ) refl;
            })
        | inr c ↦ subst (λ y. Took (optional_at f p) (optional L) ts y) (ok_is (None, ts) z c.1) (record {
          front = [];
          parts = refl;
          means = refl;
          again = λ vs same. let stop : begins f vs ≡ false = sym (begins-head f ts vs same) ∙ c.0 in rw stop refl;
        })
      ]

  optional_stuck : (ts : Tokens) (w : Failure) → optional_at f p ts ≡ Err w → Stuck (optional_at f p) (optional L) ts w
  optional_stuck ts w e =
      elim (chosen (begins f ts) (p ts >>= λ x. Ok (Some x.0, x.1)) (Ok (None, ts)) (Err w) e) [
        | inl c ↦ elim (bind_err (p ts) (λ x. Ok (Some x.0, x.1)) w c.1) [
          | inl a ↦
              let s = P.stuck ts w a in
              record {
                front = s.front;
                parts = s.parts;
                again = λ vs same.
                    let on : begins f (s.front ++ vs) ≡ true =
                    sym (begins-head f ts (s.front ++ vs) (ap head s.parts ∙ head-append s.front w.rest vs same))
                    ∙ c.0 in
                    rw (on, s.again vs same) refl;
              }
          | inr a ↦ absurd cc
        ]
        | inr c ↦ absurd cc
      ]

  optional_complete : (ts us : Tokens) (o : Option A) → optional L ts o → begins (f ++ m) us ≡ false
      → optional_at f p (ts ++ us) ≡ Ok (o, us)
  optional_complete ts us None h stop = rw (h, (begins_neither f m us stop).0) refl
  optional_complete ts us (Some x) h stop =
      rw (begins-append f ts us (begins_so p L f m P ts x h), P.complete ts us x h (begins_neither f m us stop).1) refl

  optional_starts : (ts : Tokens) (o : Option A) → optional L ts o → (begins f ts ≡ true) ⊎ ((true ≡ true) × (ts ≡ []))
  optional_starts ts None h = inr (refl, h)
  optional_starts ts (Some x) h = inl (begins_so p L f m P ts x h)

  pub optional_exact : Exact (optional_at f p) (optional L) f (f ++ m) true
  optional_exact = record {
    sound = optional_sound;
    stuck = optional_stuck;
    complete = optional_complete;
    starts =
        optional_starts;
  }

-- ---- a or b

module _ {A : Type 0} (p q : Reader A) (L M : Phrase A) (f m g n : List Kind) (e : Bool) (P : Exact p L f m false)
    (Q : Exact q M g n e) (clear : apart g f ≡ true) where
  either_sound : (ts : Tokens) (z : A × Tokens) → either_at f p q ts ≡ Ok z → Took (either_at f p q) (L ∣ M) ts z
  either_sound ts z h =
      elim (chosen (begins f ts) (p ts) (q ts) (Ok z) h) [
        | inl c ↦
            let s = P.sound ts z c.1 in
            record {
              front = s.front;
              parts = s.parts;
              means = inl s.means;
              again = λ vs same. rw (begins-append f s.front vs (begins_so p L f m P s.front z.0 s.means))
                  (s.again vs same);
            }
        | inr c ↦
            let s = Q.sound ts z c.1 in
            record {
              front = s.front;
              parts = s.parts;
              means = inr s.means;
              again = λ vs same.
                  let off : begins f (s.front ++ vs) ≡ false =
                  sym (begins-head f ts (s.front ++ vs) (ap head s.parts ∙ head-append s.front z.1 vs same)) ∙ c.0 in
                  rw off (s.again vs same);
            }
      ]

  either_stuck : (ts : Tokens) (w : Failure) → either_at f p q ts ≡ Err w → Stuck (either_at f p q) (L ∣ M) ts w
  either_stuck ts w h =
      elim (chosen (begins f ts) (p ts) (q ts) (Err w) h) [
        | inl c ↦
            let s = P.stuck ts w c.1 in
            record {
              front = s.front;
              parts = s.parts;
              again = λ vs same.
                  let on : begins f (s.front ++ vs) ≡ true =
                  sym (begins-head f ts (s.front ++ vs) (ap head s.parts ∙ head-append s.front w.rest vs same)) ∙ c.0 in
                  rw on (s.again vs same);
            }
        | inr c ↦
            let s = Q.stuck ts w c.1 in
            record {
              front = s.front;
              parts = s.parts;
              again = λ vs same.
                  let off : begins f (s.front ++ vs) ≡ false =
                  sym (begins-head f ts (s.front ++ vs) (ap head s.parts ∙ head-append s.front w.rest vs same)) ∙ c.0 in
                  rw off (s.again vs same);
            }
      ]

  either_complete : (ts us : Tokens) (x : A) → (L ∣ M) ts x → begins (m ++ joint e n f) us ≡ false
      → either_at f p q (ts ++ us) ≡ Ok (x, us)
  either_complete ts us x (inl h) stop =
      rw (begins-append f ts us (begins_so p L f m P ts x h))
      (P.complete ts us x h (begins_neither m (joint e n f) us stop).0)
  either_complete ts us x (inr h) stop =
      let stops = joint_stops e n f us (begins_neither m (joint e n f) us stop).1 in
      let off : begins f (ts ++ us) ≡ false = elim (Q.starts ts x h) [
        | inl b ↦ apart_begins g f (ts ++ us) clear (begins-append g ts us b)
        | inr b ↦ rw b.1 (stops.1 b.0)
      ] in
      rw off (Q.complete ts us x h stops.0)

  either_starts : (ts : Tokens) (x : A) → (L ∣ M) ts x → (begins (f ++ g) ts ≡ true) ⊎ ((e ≡ true) × (ts ≡ []))
  either_starts ts x (inl h) = inl (begins_left f g ts (begins_so p L f m P ts x h))
  either_starts ts x (inr h) = elim (Q.starts ts x h) [ inl b ↦ inl (begins_right f g ts b) | inr b ↦ inr b ]

  pub either_exact : Exact (either_at f p q) (L ∣ M) (f ++ g) (m ++ joint e n f) e
  either_exact = record {
    sound = either_sound;
    stuck = either_stuck;
    complete = either_complete;
    starts =
        either_starts;
  }

-- ---- a any number of times

pub begins-nil : (f : List Kind) (ts : Tokens) → begins f ts ≡ true → 0 < length ts
begins-nil f [] e = absurd cc
begins-nil f (t ∷ ts) e = omega arith

pub head_none : (vs : Tokens) → None ≡ head vs → vs ≡ []
head_none [] e = refl
head_none (v ∷ vs) e = absurd cc

pub none_left : (ts : Tokens) → length ts ≤ 0 → ts ≡ []
none_left [] h = refl
none_left (t ∷ ts) h = absurd (omega arith)

pub longer_by : {A : Type 0} (p : Reader A) (L : Phrase A) (f m : List Kind) (P : Exact p L f m false)
    (front us : Tokens) (x : A) → L front x → length us < length (front ++ us)
longer_by p L f m P front us x h = omega (
  arith,
  length-append front us,
  begins-nil f front
      (begins_so p L f m P front x h),
)

module _ {A : Type 0} (p : Reader A) (L : Phrase A) (f m : List Kind) (P : Exact p L f m false)
    (clear : apart f m ≡ true) where
  longer : (front us : Tokens) (x : A) → L front x → length us < length (front ++ us)
  longer = longer_by p L f m P

  pub record TookTimes (ts : Tokens) (z : List A × Tokens) : Type 0 where
    pub front : Tokens
    pub parts : ts ≡ front ++ z.1
    pub means : many L front z.0
    pub again : (k : ℕ) (vs : Tokens) → length (front ++ vs) ≤ k → head z.1 ≡ head vs → times_at k f p (front ++ vs)
        ≡ Ok (z.0, vs)

  pub record StuckTimes (ts : Tokens) (w : Failure) : Type 0 where
    pub front : Tokens
    pub parts : ts ≡ front ++ w.rest
    pub again : (k : ℕ) (vs : Tokens) → length (front ++ vs) ≤ k → head w.rest ≡ head vs
        → times_at k f p (front ++ vs) ≡ fails w.why vs

  no_turn : (k : ℕ) (vs : Tokens) → begins f vs ≡ false → times_at k f p vs ≡ Ok ([], vs)
  no_turn zero vs e = refl
  no_turn (suc k) vs e = rw e refl

  turn : (k : ℕ) (ts us vs : Tokens) (x : A) (xs : List A) → begins f ts ≡ true → length ts ≤ k → p ts ≡ Ok (x, us)
      → ((j : ℕ) → length us ≤ j → times_at j f p us ≡ Ok (xs, vs)) → length us < length ts → times_at k f p ts
      ≡ Ok (x ∷ xs, vs)
  turn zero ts us vs x xs on le e more lt = absurd (omega arith)
  turn (suc k) ts us vs x xs on le e more lt = rw (on, e, more k (omega arith)) refl

  turn_stuck : (k : ℕ) (ts us : Tokens) (x : A) (w : Failure) → begins f ts ≡ true → length ts ≤ k → p ts ≡ Ok (x, us)
      → ((j : ℕ) → length us ≤ j → times_at j f p us ≡ Err w) → length us < length ts → times_at k f p ts ≡ Err w
  turn_stuck zero ts us x w on le e more lt = absurd (omega arith)
  turn_stuck (suc k) ts us x w on le e more lt = rw (on, e, more k (omega arith)) refl

  turn_fails : (k : ℕ) (ts : Tokens) (w : Failure) → begins f ts ≡ true → length ts ≤ k → p ts ≡ Err w
      → times_at k f p ts ≡ Err w
  turn_fails zero ts w on le e = absurd (omega (arith, begins-nil f ts on))
  turn_fails (suc k) ts w on le e = rw (on, e) refl

  times_sound : (k : ℕ) (ts : Tokens) (z : List A × Tokens) → length ts ≤ k → times_at k f p ts ≡ Ok z → TookTimes ts z
  times_sound zero ts z le e =
      subst (λ y. TookTimes ts y) (ok_is ([], ts) z e) (record {
        front = [];
        parts = refl;
        means = refl;
        again = λ k vs le' same. no_turn k vs (rw (head_none vs (sym (ap head (none_left ts le)) ∙ same)) refl);
      })
  times_sound (suc k) ts z le e =
      elim (chosen (begins f ts) (p ts >>= λ x. times_at k f p x.1 >>= λ xs. Ok (x.0 ∷ xs.0, xs.1)) (Ok ([], ts))
      (Ok z) e) [
        | inl c ↦
            let a = bind_ok (p ts) (λ x. times_at k f p x.1 >>= λ xs. Ok (x.0 ∷ xs.0, xs.1)) z c.1 in
            let b = bind_ok (times_at k f p a.0.1) (λ xs. Ok (a.0.0 ∷ xs.0, xs.1)) z a.2 in
            let s = P.sound ts a.0 a.1 in
            let shorter : length a.0.1 < length ts =
            omega (arith, ap length s.parts, longer s.front a.0.1 a.0.0 s.means) in
            let t = times_sound k a.0.1 b.0 (omega arith) b.1 in
            subst (λ y. TookTimes ts y) (ok_is (a.0.0 ∷ b.0.0, b.0.1) z b.2) (record {
              front = s.front ++ t.front;
              parts = s.parts ∙ ap (λ (r : Tokens). s.front ++ r) t.parts ∙ sym (append_assoc s.front t.front b.0.1);
              means = (s.front, t.front, refl, s.means, t.means);
              again = λ j vs le' same.
                  let split = append_assoc s.front t.front vs in
                  let one = s.again (t.front ++ vs) (ap head t.parts ∙ head-append t.front b.0.1 vs same) in
                  let on = begins-append f s.front (t.front ++ vs) (begins_so p L f m P s.front a.0.0 s.means) in
                  let enough : length (s.front ++ (t.front ++ vs)) ≤ j =
                  subst (λ (r : Tokens). length r ≤ j) split le' in
                  ap (times_at j f p) split ∙ turn j (s.front ++ (t.front ++ vs)) (t.front ++ vs) vs a.0.0 b.0.0 on
                  enough one (λ i h. t.again i vs h same) (longer s.front (t.front ++ vs) a.0.0 s.means);
            })
        | inr c ↦ subst (λ y. TookTimes ts y) (ok_is ([], ts) z c.1) (record {
          front = [];
          parts = refl;
          means = refl;
          again = λ j vs le' same. no_turn j vs (sym (begins-head f ts vs same) ∙ c.0);
        })
      ]

  times_stuck : (k : ℕ) (ts : Tokens) (w : Failure) → length ts ≤ k → times_at k f p ts ≡ Err w → StuckTimes ts w
  times_stuck zero ts w le e = absurd cc
  times_stuck (suc k) ts w le e =
      elim (chosen (begins f ts) (p ts >>= λ x. times_at k f p x.1 >>= λ xs. Ok (x.0 ∷ xs.0, xs.1)) (Ok ([], ts))
      (Err w) e) [
        | inl c ↦ elim (bind_err (p ts) (λ x. times_at k f p x.1 >>= λ xs. Ok (x.0 ∷ xs.0, xs.1)) w c.1) [
          | inl a ↦
              let s = P.stuck ts w a in
              record {
                front = s.front;
                parts = s.parts;
                again = λ j vs le' same.
                    let on : begins f (s.front ++ vs) ≡ true =
                    sym (begins-head f ts (s.front ++ vs) (ap head s.parts ∙ head-append s.front w.rest vs same))
                    ∙ c.0 in
                    turn_fails j (s.front ++ vs) (record { why = w.why; rest = vs }) on le' (s.again vs same);
              }
          | inr a ↦ elim (bind_err (times_at k f p a.0.1) (λ xs. Ok (a.0.0 ∷ xs.0, xs.1)) w a.2) [
            | inl b ↦
                let s = P.sound ts a.0 a.1 in
                let shorter : length a.0.1 < length ts =
                omega (arith, ap length s.parts, longer s.front a.0.1 a.0.0 s.means) in
                let t = times_stuck k a.0.1 w (omega arith) b in
                record {
                  front = s.front ++ t.front;
                  parts = s.parts ∙ ap (λ (r : Tokens). s.front ++ r) t.parts
                      ∙ sym (append_assoc s.front t.front w.rest);
                  again = λ j vs le' same.
                      let split = append_assoc s.front t.front vs in
                      let one = s.again (t.front ++ vs) (ap head t.parts ∙ head-append t.front w.rest vs same) in
                      let on = begins-append f s.front (t.front ++ vs) (begins_so p L f m P s.front a.0.0 s.means) in
                      let enough : length (s.front ++ (t.front ++ vs)) ≤ j =
                      subst (λ (r : Tokens). length r ≤ j) split le' in
                      ap (times_at j f p) split ∙ turn_stuck j (s.front ++ (t.front ++ vs)) (t.front ++ vs) a.0.0
                      (record { why = w.why; rest = vs }) on enough one (λ i h. t.again i vs h same)
                      (longer s.front (t.front ++ vs) a.0.0 s.means);
                }
            | inr b ↦ absurd cc
          ]
        ]
        | inr c ↦ absurd cc
      ]

  times_complete : (xs : List A) (k : ℕ) (ts us : Tokens) → many L ts xs → begins (f ++ m) us ≡ false
      → length (ts ++ us) ≤ k → times_at k f p (ts ++ us) ≡ Ok (xs, us)
  times_complete [] k ts us h stop le = ap (λ (r : Tokens). times_at k f p (r ++ us)) h
      ∙ no_turn k us (begins_neither f m us stop).0
  times_complete (x ∷ xs) k ts us h stop le =
      let split : ts ++ us ≡ h.0 ++ (h.1 ++ us) = ap (λ (r : Tokens). r ++ us) h.2 ∙ append_assoc h.0 h.1 us in
      let enough : length (h.0 ++ (h.1 ++ us)) ≤ k = subst (λ (r : Tokens). length r ≤ k) split le in
      let on = begins-append f h.0 (h.1 ++ us) (begins_so p L f m P h.0 x h.3) in
      let one = P.complete h.0 (h.1 ++ us) x h.3 (goes xs h.1 us h.4 (begins_neither f m us stop)) in
      ap (times_at k f p) split ∙ turn k (h.0 ++ (h.1 ++ us)) (h.1 ++ us) us x xs on enough one
      (λ j le'. times_complete xs j h.1 us h.4 stop le') (longer h.0 (h.1 ++ us) x h.3)
    where
      goes : (ys : List A) (rs vs : Tokens) → many L rs ys → (begins f vs ≡ false) × (begins m vs ≡ false)
          → begins m (rs ++ vs) ≡ false
      goes [] rs vs g stops = rw g stops.1
      goes (y ∷ ys) rs vs g stops =
          let split : rs ++ vs ≡ g.0 ++ (g.1 ++ vs) = ap (λ (r : Tokens). r ++ vs) g.2 ∙ append_assoc g.0 g.1 vs in
          ap (begins m) split ∙ apart_begins f m (g.0 ++ (g.1 ++ vs)) clear
          (begins-append f g.0 (g.1 ++ vs) (begins_so p L f m P g.0 y g.3))

  many_sound : (ts : Tokens) (z : List A × Tokens) → many_at f p ts ≡ Ok z → Took (many_at f p) (many L) ts z
  many_sound ts z e =
      let s = times_sound (length ts) ts z (omega arith) e in
      record {
        front = s.front;
        parts = s.parts;
        means = s.means;
        again =
            λ vs same. s.again (length (s.front ++ vs)) vs (omega arith) same;
      }

  many_stuck : (ts : Tokens) (w : Failure) → many_at f p ts ≡ Err w → Stuck (many_at f p) (many L) ts w
  many_stuck ts w e =
      let s = times_stuck (length ts) ts w (omega arith) e in
      record {
        front = s.front;
        parts = s.parts;
        again =
            λ vs same. s.again (length (s.front ++ vs)) vs (omega arith) same;
      }

  many_starts : (ts : Tokens) (xs : List A) → many L ts xs → (begins f ts ≡ true) ⊎ ((true ≡ true) × (ts ≡ []))
  many_starts ts [] h = inr (refl, h)
  many_starts ts (x ∷ xs) h = inl (rw h.2 (begins-append f h.0 h.1 (begins_so p L f m P h.0 x h.3)))

  pub many_exact : Exact (many_at f p) (many L) f (f ++ m) true
  many_exact = record {
    sound = many_sound;
    stuck = many_stuck;
    complete = λ ts us xs h stop. times_complete xs (length (ts ++ us)) ts us h stop (omega arith);
    starts = many_starts;
  }

-- ---- a lexeme that opens a level where none is left

module _ {A : Type 0} (k : Kind) (L : Phrase A) (m : List Kind) (none : (ts : Tokens) (x : A) → L ts x → ⊥) where
  closed_sound : (ts : Tokens) (z : (Token × A) × Tokens) → opening_at {A = A} k None ts ≡ Ok z
      → Took (opening_at {A = A} k None) (terminal k ⊗ L) ts z
  closed_sound ts z e = let a =
      bind_ok (expect_at k ts) (λ x. fails {A = (Token × A) × Tokens} TooDeep ts) z e in absurd cc

  closed_at : (t : Token) (ts : Tokens) → (number k == number t.kind) ≡ true → opening_at {A = A} k None (t ∷ ts)
      ≡ fails TooDeep (t ∷ ts)
  closed_at t ts e = rw e refl

  closed_again : (t : Token) (ts vs : Tokens) → (number k == number t.kind) ≡ true → Some t ≡ head vs
      → opening_at {A = A} k None vs ≡ fails TooDeep vs
  closed_again t ts [] e same = absurd cc
  closed_again t ts (v ∷ vs) e same = let here : t ≡ v =
      cc in closed_at v vs (subst (λ (u : Token). (number k == number u.kind) ≡ true) here e)

  closed_fails : (vs : Tokens) (w : Failure) → expect_at k vs ≡ Err w → opening_at {A = A} k None vs ≡ Err w
  closed_fails vs w e = rw e refl

  closed_deep : (ts : Tokens) (x : Token × Tokens) → expect_at k ts ≡ Ok x → (vs : Tokens) → head ts ≡ head vs
      → opening_at {A = A} k None vs ≡ fails TooDeep vs
  closed_deep [] x e vs same = absurd cc
  closed_deep (t ∷ ts) x e vs same =
      elim (chosen (number k == number t.kind) (Ok (t, ts)) (fails Unexpected (t ∷ ts)) (Ok x) e) [
        | inl h ↦ closed_again t ts vs h.0 same
        | inr h ↦ absurd cc
      ]

  closed_stuck : (ts : Tokens) (w : Failure) → opening_at {A = A} k None ts ≡ Err w
      → Stuck (opening_at {A = A} k None) (terminal k ⊗ L) ts w
  closed_stuck ts w e =
      elim (bind_err (expect_at k ts) (λ x. fails {A = (Token × A) × Tokens} TooDeep ts) w e) [
        | inl a ↦
            let s = terminal_refuses k ts w a in
            record {
              front = [];
              parts = s.here;
              again =
                  λ vs same. closed_fails vs (record { why = w.why; rest = vs }) (s.again vs same);
            }
        | inr a ↦ subst (λ g. Stuck (opening_at {A = A} k None) (terminal k ⊗ L) ts g)
            (err_is (record { why = TooDeep; rest = ts }) w a.2)
            (record { front = []; parts = refl; again = closed_deep ts a.0 a.1 })
      ]

  pub closed_exact : Exact (opening_at {A = A} k None) (terminal k ⊗ L) (k ∷ []) m false
  closed_exact = record {
    sound = closed_sound;
    stuck = closed_stuck;
    complete = λ ts us x h stop. absurd (none h.1 x.1 h.4);
    starts = λ ts x h. absurd (none h.1 x.1 h.4);
  }

-- ---- fewer kinds that go on

abbrev pub within : List Kind → List Kind → Bool
within [] m = true
within (k ∷ ks) m = cond (has m k) (within ks m) false

within_has : (f m : List Kind) (k : Kind) → within f m ≡ true → has m k ≡ false → has f k ≡ false
within_has [] m k h e = refl
within_has (j ∷ js) m k h e =
    elim (chosen (has m j) (within js m) false true h) [
      | inl g ↦ elim (chosen (number j == number k) true (has js k) (has (j ∷ js) k)
          (if_or (number j == number k) (has js k))) [
            | inl same ↦ absurd (let is : has m k ≡ true = subst (λ i. has m i ≡ true) (same_kind j k same.0) g.0 in cc)
            | inr more ↦ sym more.1 ∙ within_has js m k g.1 e
          ]
      | inr g ↦ absurd cc
    ]
  where
    if_or : (a b : Bool) → cond a true b ≡ (a || b)
    if_or true b = refl
    if_or false b = refl

within_begins : (f m : List Kind) (ts : Tokens) → within f m ≡ true → begins m ts ≡ false → begins f ts ≡ false
within_begins f m [] h e = refl
within_begins f m (t ∷ ts) h e = within_has f m t.kind h e

pub wider_exact : {A : Type 0} (p : Reader A) (L : Phrase A) (f m n : List Kind) (e : Bool) → Exact p L f m e
    → within m n ≡ true → Exact p L f n e
wider_exact p L f m n e P h = record {
  sound = P.sound;
  stuck = P.stuck;
  complete = λ ts us x k stop. P.complete ts us x k (within_begins m n us h stop);
  starts = P.starts;
}

pub apart-nil : (f : List Kind) → apart f [] ≡ true
apart-nil [] = refl
apart-nil (k ∷ ks) = apart-nil ks

-- ---- a lexeme that opens a level, and a in it

-- inside is a reader of L, or none where L has no phrase
abbrev pub Fits : {A : Type 0} → Option (Reader A) → Phrase A → List Kind → List Kind → Type 0
Fits None L f m = (ts : Tokens) (x : _) → L ts x → ⊥
Fits (Some p) L f m = Exact p L f m false

abbrev some_token : Kind → Token
some_token k = record { kind = k; start = 0; end = 0 }

pub some_terminal : (k : Kind) → Some_of (terminal k)
some_terminal k = record { tokens = some_token k ∷ []; value = some_token k; means = (refl, refl) }

pub opening_exact : {A : Type 0} (k : Kind) (o : Option (Reader A)) (L : Phrase A) (f m : List Kind) → Fits o L f m
    → Exact (opening_at k o) (terminal k ⊗ L) (k ∷ []) m false
opening_exact k None L f m h = closed_exact k L m h
opening_exact k (Some p) L f m h =
    both_exact (expect_at k) p (terminal k) L (k ∷ []) [] f m false false (terminal_exact k) h (apart-nil f)
