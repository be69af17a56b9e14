-- [a {k a} [k]]
use Rattle.std.proofs.Common.{
  ◌≡◌,
  ℕ,
  zero,
  suc,
  ◌<◌,
  ◌≤◌,
  true,
  false,
  cond,
  ◌⊎◌,
  inl,
  inr,
  List,
  [],
  ◌∷◌,
  ◌++◌,
  length,
  Result,
  Ok,
  Err,
  refl,
  sym,
  ap,
  subst,
  ◌∙◌,
  append_assoc,
  arith,
}
use Rattle.std.proofs.lemmas.List.{append-nil}
use Rattle.rml_lex.specs.declared.token.Kind.{Kind}
use Rattle.rml_lex.specs.declared.token.Token.{Token}
use Rattle.rml_phrases.specs.Language.{Tokens, Phrase, listed}
use Rattle.rml_phrases.specs.Reading.{begins, TooDeep, Failure, Reader, ◌>>=◌, fails, expect_at, listed_for, listed_at}
use Rattle.rml_phrases.proofs.Exact.{bind_ok, bind_err, chosen, ok_is, begins-head, head-append, begins-append}
use Rattle.rml_phrases.proofs.Exact.{begins-nil, begins_neither, begins_so, apart, apart_begins, longer_by, same_kind}
use Rattle.rml_phrases.proofs.Exact.{same_number, head_none, none_left, or_false_left}
use Rattle.rml_phrases.specs.Good.{head, Took, Exact}
use Rattle.rml_phrases.specs.Good.{Extends, Viable, Opens, Deepens}
use Rattle.rml_phrases.proofs.Levels.{Viable-as, Viable-after, bind_same, cond_same, Opens-as, Opens-after}

pub record Starts (k : Kind) (us : Tokens) : Type 0 where
  pub token : Token
  pub rest : Tokens
  pub parts : us ≡ token ∷ rest
  pub kind : token.kind ≡ k

pub starts_with : (k : Kind) (us : Tokens) → begins (k ∷ []) us ≡ true → Starts k us
starts_with k [] e = absurd cc
starts_with k (t ∷ ts) e = record {
  token = t;
  rest = ts;
  parts = refl;
  kind =
      sym (same_kind k t.kind (or_false_left _ e));
}

pub terminal_taken : (k : Kind) (token : Token) (rest : Tokens) → token.kind ≡ k → expect_at k (token ∷ rest)
    ≡ Ok (token, rest)
terminal_taken k token rest e = rw (same_number k token.kind (sym e)) refl

pub terminal_begins : (k : Kind) (token : Token) (rest : Tokens) → token.kind ≡ k → begins (k ∷ []) (token ∷ rest)
    ≡ true
terminal_begins k token rest e = rw (same_number k token.kind (sym e)) refl

module _ {A : Type 0} (k : Kind) (p : Reader A) (f : List Kind) where
  abbrev pub after_item : ℕ → A × Tokens → Result (List A × Tokens) Failure
  after_item n x = cond (begins (k ∷ []) x.1)
      (expect_at k x.1 >>= λ y. listed_for n f k p y.1 >>= λ xs. Ok (x.0 ∷ xs.0, xs.1)) (Ok (x.0 ∷ [], x.1))

  -- what is read behind the lexeme behind x
  abbrev pub signed : ℕ → A → Result (Token × Tokens) Failure → Result (List A × Tokens) Failure
  signed n x r = r >>= λ y. listed_for n f k p y.1 >>= λ xs. Ok (x ∷ xs.0, xs.1)

  pub no_item : (j : ℕ) (ts : Tokens) → begins f ts ≡ false → listed_for j f k p ts ≡ Ok ([], ts)
  no_item zero ts e = refl
  no_item (suc j) ts e = rw e refl

  pub item_fails : (j : ℕ) (ts : Tokens) (w : Failure) → begins f ts ≡ true → length ts ≤ j → p ts ≡ Err w
      → listed_for j f k p ts ≡ Err w
  item_fails zero ts w on le e = absurd (omega (arith, begins-nil f ts on))
  item_fails (suc j) ts w on le e = rw (on, e) refl

  pub item_last : (j : ℕ) (ts us : Tokens) (x : A) → begins f ts ≡ true → length ts ≤ j → p ts ≡ Ok (x, us)
      → begins (k ∷ []) us ≡ false → listed_for j f k p ts ≡ Ok (x ∷ [], us)
  item_last zero ts us x on le e off = absurd (omega (arith, begins-nil f ts on))
  item_last (suc j) ts us x on le e off = rw (on, e, off) refl

  pub item_more : (j : ℕ) (ts rest : Tokens) (token : Token) (x : A) (r : Result (List A × Tokens) Failure)
      → begins f ts ≡ true → length ts ≤ j → p ts ≡ Ok (x, token ∷ rest) → token.kind ≡ k
      → length (token ∷ rest) < length ts → ((i : ℕ) → length rest ≤ i → listed_for i f k p rest ≡ r)
      → listed_for j f k p ts ≡ (r >>= λ xs. Ok (x ∷ xs.0, xs.1))
  item_more zero ts rest token x r on le e is lt more = absurd (omega (arith, begins-nil f ts on))
  item_more (suc j) ts rest token x r on le e is lt more =
      rw (on, e, terminal_begins k token rest is, terminal_taken k token rest is, more j (omega arith)) refl

module _ {A : Type 0} (k : Kind) (p : Reader A) (L : Phrase A) (f m : List Kind) (P : Exact p L f m false)
    (clear : apart (k ∷ []) m ≡ true) where
  record TookList (ts : Tokens) (z : List A × Tokens) : Type 0 where
    front : Tokens
    parts : ts ≡ front ++ z.1
    means : listed k L front z.0
    again : (j : ℕ) (vs : Tokens) → length (front ++ vs) ≤ j → head z.1 ≡ head vs → listed_for j f k p (front ++ vs)
        ≡ Ok (z.0, vs)

  record StuckList (ts : Tokens) (w : Failure) : Type 0 where
    front : Tokens
    parts : ts ≡ front ++ w.rest
    again : (j : ℕ) (vs : Tokens) → length (front ++ vs) ≤ j → head w.rest ≡ head vs
        → listed_for j f k p (front ++ vs) ≡ fails w.why vs

  -- the tokens of an item, a lexeme, and the tokens behind
  split : (front : Tokens) (token : Token) (after vs : Tokens) → (front ++ token ∷ after) ++ vs
      ≡ front ++ token ∷ (after ++ vs)
  split front token after vs = append_assoc front (token ∷ after) vs

  more_again : (ts us vs : Tokens) (x : A) (s : Took p L ts (x, us)) (token : Token) (after : Tokens)
      (r : Result (List A × Tokens) Failure) → us ≡ token ∷ (after ++ vs) → token.kind ≡ k → (rs : Tokens)
      → ((i : ℕ) → length (after ++ rs) ≤ i → listed_for i f k p (after ++ rs) ≡ r) → (j : ℕ)
      → length ((s.front ++ token ∷ after) ++ rs) ≤ j → listed_for j f k p ((s.front ++ token ∷ after) ++ rs)
      ≡ (r >>= λ xs. Ok (x ∷ xs.0, xs.1))
  more_again ts us vs x s token after r e is rs more j le =
      let whole = s.front ++ token ∷ (after ++ rs) in
      let enough : length whole ≤ j = subst (λ (w : Tokens). length w ≤ j) (split s.front token after rs) le in
      let one : p whole ≡ Ok (x, token ∷ (after ++ rs)) = s.again (token ∷ (after ++ rs)) (ap head e) in
      let on = begins-append f s.front (token ∷ (after ++ rs)) (begins_so p L f m P s.front x s.means) in
      ap (listed_for j f k p) (split s.front token after rs)
      ∙ item_more k p f j whole (after ++ rs) token x r on enough one is
      (longer_by p L f m P s.front (token ∷ (after ++ rs)) x s.means) more

  list_step : (n : ℕ) → ((rs : Tokens) (y : List A × Tokens) → length rs ≤ n → listed_for n f k p rs ≡ Ok y
      → TookList rs y) → (ts us : Tokens) (z : List A × Tokens) (x : A) → Took p L ts (x, us) → (w : Starts k us)
      → length w.rest ≤ n → signed k p f n x (expect_at k (w.token ∷ w.rest)) ≡ Ok z → TookList ts z
  list_step n more ts us z x s w le e =
      let e' : (listed_for n f k p w.rest >>= λ xs. Ok (x ∷ xs.0, xs.1))
      ≡ Ok z = sym (ap (signed k p f n x) (terminal_taken k w.token w.rest w.kind)) ∙ e in
      let b = bind_ok (listed_for n f k p w.rest) (λ xs. Ok (x ∷ xs.0, xs.1)) z e' in
      let t = more w.rest b.0 le b.1 in
      subst (λ y. TookList ts y) (ok_is (x ∷ b.0.0, b.0.1) z b.2) (record {
        front = s.front ++ w.token ∷ t.front;
        parts = s.parts ∙ ap (λ (r : Tokens). s.front ++ r) (w.parts ∙ ap (λ (r : Tokens). w.token ∷ r) t.parts)
            ∙ sym (split s.front w.token t.front b.0.1);
        means = (s.front, w.token ∷ t.front, refl, s.means, inr (w.token, t.front, refl, w.kind, t.means));
        again = λ j vs le' same. more_again ts us b.0.1 x s w.token t.front (Ok (b.0.0, vs))
            (w.parts ∙ ap (λ (r : Tokens). w.token ∷ r) t.parts) w.kind vs (λ i h. t.again i vs h same) j le';
      })

  list_sound : (n : ℕ) (ts : Tokens) (z : List A × Tokens) → length ts ≤ n → listed_for n f k p ts ≡ Ok z
      → TookList ts z
  list_sound zero ts z le e =
      subst (λ y. TookList ts y) (ok_is ([], ts) z e) (record {
        front = [];
        parts = refl;
        means = refl;
        again = λ j vs le' same. no_item k p f j vs (rw (head_none vs (sym (ap head (none_left ts le)) ∙ same)) refl);
      })
  list_sound (suc n) ts z le e =
      elim (chosen (begins f ts) (p ts >>= after_item k p f n) (Ok ([], ts)) (Ok z) e) [
        | inl c ↦
            let a = bind_ok (p ts) (after_item k p f n) z c.1 in
            let s = P.sound ts a.0 a.1 in
            elim (chosen (begins (k ∷ []) a.0.1) (expect_at k a.0.1 >>= λ y. listed_for n f k p y.1 >>= λ xs. Ok
            (a.0.0 ∷ xs.0, xs.1)) (Ok (a.0.0 ∷ [], a.0.1)) (Ok z) a.2) [
              | inl d ↦
                  let w = starts_with k a.0.1 d.0 in
                  list_step n (list_sound n) ts a.0.1 z a.0.0 s w
                  (omega (
                    arith,
                    ap length s.parts,
                    longer_by p L f m P s.front a.0.1 a.0.0 s.means,
                    ap length
                        w.parts,
                  )) (sym (ap (λ (r : Tokens). signed k p f n a.0.0 (expect_at k r)) w.parts) ∙ d.1)
              | inr d ↦ subst (λ y. TookList ts y) (ok_is (a.0.0 ∷ [], a.0.1) z d.1) (record {
                front = s.front;
                parts = s.parts;
                means = (s.front, [], sym (append-nil s.front), s.means, inl (refl, refl));
                again = λ j vs le' same. item_last k p f j (s.front ++ vs) vs a.0.0
                    (begins-append f s.front vs (begins_so p L f m P s.front a.0.0 s.means)) le' (s.again vs same)
                    (sym (begins-head (k ∷ []) a.0.1 vs same) ∙ d.0);
              })
            ]
        | inr c ↦ subst (λ y. TookList ts y) (ok_is ([], ts) z c.1) (record {
          front = [];
          parts = refl;
          means = refl;
          again = λ j vs le' same. no_item k p f j vs (sym (begins-head f ts vs same) ∙ c.0);
        })
      ]

  list_complete : (xs : List A) (j : ℕ) (ts us : Tokens) → listed k L ts xs → begins ((k ∷ []) ++ (m ++ f)) us ≡ false
      → length (ts ++ us) ≤ j → listed_for j f k p (ts ++ us) ≡ Ok (xs, us)
  list_complete [] j ts us h stop le = ap (λ (r : Tokens). listed_for j f k p (r ++ us)) h
      ∙ no_item k p f j us (begins_neither m f us (begins_neither (k ∷ []) (m ++ f) us stop).1).1
  list_complete (x ∷ xs) j ts us h stop le = elim h.4 [
    | inl last ↦
        let whole : ts ++ us ≡ h.0 ++ us =
        ap (λ (r : Tokens). r ++ us) (h.2 ∙ ap (λ (r : Tokens). h.0 ++ r) last.0 ∙ append-nil h.0) in
        let stops = begins_neither (k ∷ []) (m ++ f) us stop in
        let on = begins-append f h.0 us (begins_so p L f m P h.0 x h.3) in
        let enough : length (h.0 ++ us) ≤ j = subst (λ (r : Tokens). length r ≤ j) whole le in
        ap (listed_for j f k p) whole ∙ item_last k p f j (h.0 ++ us) us x on enough
        (P.complete h.0 us x h.3 (begins_neither m f us stops.1).0) stops.0
        ∙ ap (λ (l : List A). Ok (x ∷ l, us)) (sym last.1)
    | inr more ↦
        let whole : ts ++ us ≡ h.0 ++ more.0 ∷ (more.1 ++ us) =
        ap (λ (r : Tokens). r ++ us) (h.2 ∙ ap (λ (r : Tokens). h.0 ++ r) more.2) ∙ split h.0 more.0 more.1 us in
        let on = begins-append f h.0 (more.0 ∷ (more.1 ++ us)) (begins_so p L f m P h.0 x h.3) in
        let enough : length (h.0 ++ more.0 ∷ (more.1 ++ us)) ≤ j = subst (λ (r : Tokens). length r ≤ j) whole le in
        let one = P.complete h.0 (more.0 ∷ (more.1 ++ us)) x h.3
        (apart_begins (k ∷ []) m (more.0 ∷ (more.1 ++ us)) clear (terminal_begins k more.0 (more.1 ++ us) more.3)) in
        ap (listed_for j f k p) whole ∙ item_more k p f j (h.0 ++ more.0 ∷ (more.1 ++ us)) (more.1 ++ us) more.0 x
        (Ok (xs, us)) on enough one more.3 (longer_by p L f m P h.0 (more.0 ∷ (more.1 ++ us)) x h.3)
        (λ i le'. list_complete xs i more.1 us more.4 stop le')
  ]

  list_stop : (n : ℕ) → ((rs : Tokens) (y : Failure) → length rs ≤ n → listed_for n f k p rs ≡ Err y → StuckList rs y)
      → (ts us : Tokens) (v : Failure) (x : A) → Took p L ts (x, us) → (w : Starts k us) → length w.rest ≤ n
      → signed k p f n x (expect_at k (w.token ∷ w.rest)) ≡ Err v → StuckList ts v
  list_stop n more ts us v x s w le e =
      let e' : (listed_for n f k p w.rest >>= λ xs. Ok (x ∷ xs.0, xs.1))
      ≡ Err v = sym (ap (signed k p f n x) (terminal_taken k w.token w.rest w.kind)) ∙ e in
      elim (bind_err (listed_for n f k p w.rest) (λ xs. Ok (x ∷ xs.0, xs.1)) v e') [
        | inl b ↦
            let t = more w.rest v le b in
            record {
              front = s.front ++ w.token ∷ t.front;
              parts = s.parts ∙ ap (λ (r : Tokens). s.front ++ r) (w.parts ∙ ap (λ (r : Tokens). w.token ∷ r) t.parts)
                  ∙ sym (split s.front w.token t.front v.rest);
              again = λ j vs le' same. more_again ts us v.rest x s w.token t.front (fails v.why vs)
                  (w.parts ∙ ap (λ (r : Tokens). w.token ∷ r) t.parts) w.kind vs (λ i h. t.again i vs h same) j le';
            }
        | inr b ↦ absurd cc
      ]

  list_stuck : (n : ℕ) (ts : Tokens) (v : Failure) → length ts ≤ n → listed_for n f k p ts ≡ Err v → StuckList ts v
  list_stuck zero ts v le e = absurd cc
  list_stuck (suc n) ts v le e =
      elim (chosen (begins f ts) (p ts >>= after_item k p f n) (Ok ([], ts)) (Err v) e) [
        | inl c ↦ elim (bind_err (p ts) (after_item k p f n) v c.1) [
          | inl a ↦
              let s = P.stuck ts v a in
              record {
                front = s.front;
                parts = s.parts;
                again = λ j vs le' same.
                    let on : begins f (s.front ++ vs) ≡ true =
                    sym (begins-head f ts (s.front ++ vs) (ap head s.parts ∙ head-append s.front v.rest vs same))
                    ∙ c.0 in
                    item_fails k p f j (s.front ++ vs) (record { why = v.why; rest = vs }) on le' (s.again vs same);
              }
          | inr a ↦
              let s = P.sound ts a.0 a.1 in
              elim (chosen (begins (k ∷ []) a.0.1) (expect_at k a.0.1 >>= λ y. listed_for n f k p y.1 >>= λ xs. Ok
              (a.0.0 ∷ xs.0, xs.1)) (Ok (a.0.0 ∷ [], a.0.1)) (Err v) a.2) [
                | inl d ↦
                    let w = starts_with k a.0.1 d.0 in
                    list_stop n (list_stuck n) ts a.0.1 v a.0.0 s w
                    (omega (
                      arith,
                      ap length s.parts,
                      longer_by p L f m P s.front a.0.1 a.0.0 s.means,
                      ap length
                          w.parts,
                    )) (sym (ap (λ (r : Tokens). signed k p f n a.0.0 (expect_at k r)) w.parts) ∙ d.1)
                | inr d ↦ absurd cc
              ]
        ]
        | inr c ↦ absurd cc
      ]

  list_starts : (ts : Tokens) (xs : List A) → listed k L ts xs → (begins f ts ≡ true) ⊎ ((true ≡ true) × (ts ≡ []))
  list_starts ts [] h = inr (refl, h)
  list_starts ts (x ∷ xs) h = inl (rw h.2 (begins-append f h.0 h.1 (begins_so p L f m P h.0 x h.3)))

  pub listed_exact : Exact (listed_at f k p) (listed k L) f ((k ∷ []) ++ (m ++ f)) true
  listed_exact = record {
    sound = λ ts z e. let s =
        list_sound (length ts) ts z (omega arith) e in record {
          front = s.front;
          parts = s.parts;
          means = s.means;
          again =
              λ vs same. s.again (length (s.front ++ vs)) vs (omega arith) same;
        };
    stuck = λ ts v e. let s =
        list_stuck (length ts) ts v (omega arith) e in record {
          front = s.front;
          parts = s.parts;
          again =
              λ vs same. s.again (length (s.front ++ vs)) vs (omega arith) same;
        };
    complete = λ ts us xs h stop. list_complete xs (length (ts ++ us)) ts us h stop (omega arith);
    starts = list_starts;
  }

module _ {A : Type 0} (k : Kind) (p p' : Reader A) (L L' : Phrase A) (f m : List Kind) (exact : Exact p L f m false)
    (P : Extends p p' L L') where
  list_same : (n : ℕ) (ts : Tokens) → (listed_for n f k p ts ≡ listed_for n f k p' ts) ⊎ Deepens (listed_for n f k p ts)
  list_same zero ts = inl refl
  list_same (suc n) ts =
      cond_same (begins f ts) (p ts >>= after_item k p f n) (p' ts >>= after_item k p' f n) (Ok ([], ts)) (Ok ([], ts))
      (bind_same (p ts) (p' ts) (after_item k p f n) (after_item k p' f n) (P.same ts) (λ x.
      cond_same (begins (k ∷ []) x.1) (expect_at k x.1 >>= λ y. listed_for n f k p y.1 >>= λ xs. Ok
      (x.0 ∷ xs.0, xs.1)) (expect_at k x.1 >>= λ y. listed_for n f k p' y.1 >>= λ xs. Ok (x.0 ∷ xs.0, xs.1))
      (Ok (x.0 ∷ [], x.1)) (Ok (x.0 ∷ [], x.1))
      (bind_same (expect_at k x.1) (expect_at k x.1) (λ y. listed_for n f k p y.1 >>= λ xs. Ok (x.0 ∷ xs.0, xs.1))
      (λ y. listed_for n f k p' y.1 >>= λ xs. Ok (x.0 ∷ xs.0, xs.1)) (inl refl) (λ y.
      bind_same (listed_for n f k p y.1) (listed_for n f k p' y.1) (λ xs. Ok (x.0 ∷ xs.0, xs.1))
      (λ xs. Ok (x.0 ∷ xs.0, xs.1)) (list_same n y.1) (λ xs. inl refl)))
      (inl refl)))
      (inl refl)

  list_wider : (ts : Tokens) (xs : List A) → listed k L ts xs → listed k L' ts xs
  list_wider ts [] h = h
  list_wider ts (x ∷ xs) h = (
    h.0,
    h.1,
    h.2,
    P.wider h.0 x h.3,
    elim h.4
        [ inl last ↦ inl last | inr more ↦ inr (more.0, more.1, more.2, more.3, list_wider more.1 xs more.4) ],
  )

  opens_step : (n : ℕ) → ((rs at : Tokens) → listed_for n f k p rs ≡ fails TooDeep at → Opens (listed k L') rs at)
      → (ts us at : Tokens) (x : A) → Took p L ts (x, us) → (w : Starts k us)
      → signed k p f n x (expect_at k (w.token ∷ w.rest)) ≡ fails TooDeep at → Opens (listed k L') ts at
  opens_step n again ts us at x s w e =
      let e' : (listed_for n f k p w.rest >>= λ xs. Ok (x ∷ xs.0, xs.1))
      ≡ fails TooDeep at = sym (ap (signed k p f n x) (terminal_taken k w.token w.rest w.kind)) ∙ e in
      elim (bind_err (listed_for n f k p w.rest) (λ xs. Ok (x ∷ xs.0, xs.1)) (record { why = TooDeep; rest = at }) e') [
        | inl b ↦
            Opens-after (listed k L') ts w.rest at (s.front ++ w.token ∷ [])
            (s.parts ∙ ap (λ (r : Tokens). s.front ++ r) w.parts ∙ sym (append_assoc s.front (w.token ∷ []) w.rest))
            (again w.rest at b) (listed k L')
            (λ more h. record {
              rest = h.rest;
              value = x ∷ h.value;
              means = (
                s.front,
                w.token ∷ (more ++ h.rest),
                ap (λ (r : Tokens). r ++ h.rest)
                    (append_assoc s.front (w.token ∷ []) more) ∙ append_assoc s.front (w.token ∷ more) h.rest,
                P.wider s.front
                    x s.means,
                inr (w.token, more ++ h.rest, refl, w.kind, h.means),
              );
            })
        | inr b ↦ absurd cc
      ]

  list_opens : (n : ℕ) (ts at : Tokens) → listed_for n f k p ts ≡ fails TooDeep at → Opens (listed k L') ts at
  list_opens zero ts at e = absurd cc
  list_opens (suc n) ts at e =
      elim (chosen (begins f ts) (p ts >>= after_item k p f n) (Ok ([], ts)) (fails TooDeep at) e) [
        | inl c ↦ elim (bind_err (p ts) (after_item k p f n) (record { why = TooDeep; rest = at }) c.1) [
          | inl a ↦ Opens-as L' (listed k L') ts at (P.opens ts at a)
              (λ more b. record {
                rest = b.rest;
                value = b.value ∷ [];
                means =
                    (more ++ b.rest, [], sym (append-nil (more ++ b.rest)), b.means, inl (refl, refl));
              })
          | inr a ↦
              let s = exact.sound ts a.0 a.1 in
              elim (chosen (begins (k ∷ []) a.0.1) (expect_at k a.0.1 >>= λ y. listed_for n f k p y.1 >>= λ xs. Ok
              (a.0.0 ∷ xs.0, xs.1)) (Ok (a.0.0 ∷ [], a.0.1)) (fails TooDeep at) a.2) [
                | inl d ↦
                    let w = starts_with k a.0.1 d.0 in
                    opens_step n (list_opens n) ts a.0.1 at a.0.0 s w
                    (sym (ap (λ (r : Tokens). signed k p f n a.0.0 (expect_at k r)) w.parts) ∙ d.1)
                | inr d ↦ absurd cc
              ]
        ]
        | inr c ↦ absurd cc
      ]

  viable_step : (n : ℕ) → ((rs : Tokens) (v : Failure) → listed_for n f k p rs ≡ Err v
      → Viable (listed k L') rs v.rest) → (ts us : Tokens) (v : Failure) (x : A) → Took p L ts (x, us)
      → (w : Starts k us) → signed k p f n x (expect_at k (w.token ∷ w.rest)) ≡ Err v → Viable (listed k L') ts v.rest
  viable_step n again ts us v x s w e =
      let e' : (listed_for n f k p w.rest >>= λ xs. Ok (x ∷ xs.0, xs.1))
      ≡ Err v = sym (ap (signed k p f n x) (terminal_taken k w.token w.rest w.kind)) ∙ e in
      elim (bind_err (listed_for n f k p w.rest) (λ xs. Ok (x ∷ xs.0, xs.1)) v e') [
        | inl b ↦
            Viable-after (listed k L') (listed k L') ts w.rest v.rest (s.front ++ w.token ∷ [])
            (s.parts ∙ ap (λ (r : Tokens). s.front ++ r) w.parts ∙ sym (append_assoc s.front (w.token ∷ []) w.rest))
            (again w.rest v b) (record { tokens = []; value = []; means = refl })
            (λ more h. record {
              rest = h.rest;
              value = x ∷ h.value;
              means = (
                s.front,
                w.token ∷ (more ++ h.rest),
                ap (λ (r : Tokens). r ++ h.rest)
                    (append_assoc s.front (w.token ∷ []) more) ∙ append_assoc s.front (w.token ∷ more) h.rest,
                P.wider s.front
                    x s.means,
                inr (w.token, more ++ h.rest, refl, w.kind, h.means),
              );
            })
        | inr b ↦ absurd (let no : ◌≡◌ {A = Result (List A × Tokens) Failure} (Ok (x ∷ b.0.0, b.0.1)) (Err v) =
            b.2 in cc)
      ]

  list_viable : (n : ℕ) (ts : Tokens) (v : Failure) → listed_for n f k p ts ≡ Err v → Viable (listed k L') ts v.rest
  list_viable zero ts v e = absurd cc
  list_viable (suc n) ts v e =
      elim (chosen (begins f ts) (p ts >>= after_item k p f n) (Ok ([], ts)) (Err v) e) [
        | inl c ↦ elim (bind_err (p ts) (after_item k p f n) v c.1) [
          | inl a ↦ Viable-as L' (listed k L') ts v.rest (P.viable ts v a)
              (λ more b. record {
                rest = b.rest;
                value = b.value ∷ [];
                means =
                    (more ++ b.rest, [], sym (append-nil (more ++ b.rest)), b.means, inl (refl, refl));
              })
          | inr a ↦
              let s = exact.sound ts a.0 a.1 in
              elim (chosen (begins (k ∷ []) a.0.1) (expect_at k a.0.1 >>= λ y. listed_for n f k p y.1 >>= λ xs. Ok
              (a.0.0 ∷ xs.0, xs.1)) (Ok (a.0.0 ∷ [], a.0.1)) (Err v) a.2) [
                | inl d ↦
                    let w = starts_with k a.0.1 d.0 in
                    viable_step n (list_viable n) ts a.0.1 v a.0.0 s w
                    (sym (ap (λ (r : Tokens). signed k p f n a.0.0 (expect_at k r)) w.parts) ∙ d.1)
                | inr d ↦ absurd cc
              ]
        ]
        | inr c ↦ absurd cc
      ]

  pub listed_extends : Extends (listed_at f k p) (listed_at f k p') (listed k L) (listed k L')
  listed_extends = record {
    viable = λ ts. list_viable (length ts) ts;
    same = λ ts. list_same (length ts) ts;
    wider =
        list_wider;
    opens = λ ts. list_opens (length ts) ts;
  }
