-- A reader with one level more: it answers the same, but where the first met its limit.
use Rattle.std.proofs.Common.{
  ◌≡◌,
  ℕ,
  zero,
  suc,
  Bool,
  true,
  false,
  cond,
  ◌⊎◌,
  inl,
  inr,
  List,
  [],
  ◌∷◌,
  ◌++◌,
  length,
  Option,
  Some,
  None,
  Result,
  Ok,
  Err,
  refl,
  sym,
  ap,
  ◌∙◌,
  append_assoc,
}
use Rattle.std.proofs.lemmas.List.{append-nil}
use Rattle.rml_lex.specs.declared.token.Kind.{Kind}
use Rattle.rml_lex.specs.declared.token.Token.{Token}
use Rattle.rml_phrases.specs.Language.{Tokens, Phrase, terminal, ◌⊗◌, ◌∣◌, ◌⇒◌, optional, many, placed, place_of}
use Rattle.rml_phrases.specs.Language.{Begins}
use Rattle.rml_phrases.specs.Reading.{begins, Unexpected, TooDeep, Failure, Read, Reader, ◌>>=◌, fails, expect_at}
use Rattle.rml_phrases.specs.Reading.{both_at, made_at, either_at, optional_at, times_at, many_at, placed_at}
use Rattle.rml_phrases.specs.Reading.{opening_at}
use Rattle.rml_phrases.proofs.Exact.{bind_err, err_is, chosen, terminal_exact, terminal_refuses, Begins-from, same_kind}
use Rattle.rml_phrases.specs.Good.{Some_of, Exact, Deepens, Opens, Viable, Extends}

pub bind_same : {A B : Type 0} (r s : Result A Failure) (f g : A → Result B Failure) → (r ≡ s) ⊎ Deepens r
    → ((x : A) → (f x ≡ g x) ⊎ Deepens (f x)) → ((r >>= f) ≡ (s >>= g)) ⊎ Deepens (r >>= f)
bind_same r s f g (inr d) h = inr (d.0, rw d.1 refl)
bind_same (Ok x) s f g (inl e) h = elim (h x) [ inl k ↦ inl (rw (← e) k) | inr d ↦ inr d ]
bind_same (Err w) s f g (inl e) h = inl (rw (← e) refl)

pub cond_same : {A : Type 0} (b : Bool) (r s u v : Result A Failure) → (r ≡ s) ⊎ Deepens r → (u ≡ v) ⊎ Deepens u
    → (cond b r u ≡ cond b s v) ⊎ Deepens (cond b r u)
cond_same true r s u v h k = h
cond_same false r s u v h k = k

pub Opens-after : {A : Type 0} (L : Phrase A) (ts us at front : Tokens) → ts ≡ front ++ us → (o : Opens L us at)
    → {B : Type 0} (M : Phrase B) → ((more : Tokens) → Begins L more → Begins M (front ++ more)) → Opens M ts at
Opens-after L ts us at front e o M h = record {
  front = front ++ o.front;
  token = o.token;
  after = o.after;
  parts = e ∙ ap (λ (r : Tokens). front ++ r) o.parts ∙ sym (append_assoc front o.front at);
  here = o.here;
  goes_on = rw append_assoc (h (o.front ++ o.token ∷ []) o.goes_on);
}

pub Opens-as : {A B : Type 0} (L : Phrase A) (M : Phrase B) (ts at : Tokens) → Opens L ts at
    → ((more : Tokens) → Begins L more → Begins M more) → Opens M ts at
Opens-as L M ts at o h = record {
  front = o.front;
  token = o.token;
  after = o.after;
  parts = o.parts;
  here =
      o.here;
  goes_on = h (o.front ++ o.token ∷ []) o.goes_on;
}

pub Viable-as : {A B : Type 0} (L : Phrase A) (M : Phrase B) (ts at : Tokens) → Viable L ts at
    → ((more : Tokens) → Begins L more → Begins M more) → Viable M ts at
Viable-as L M ts at o h = record {
  front = o.front;
  parts = o.parts;
  begins =
      elim o.begins [ inl none ↦ inl none | inr b ↦ inr (h o.front b) ];
}

pub Viable-after : {A B : Type 0} (L : Phrase A) (M : Phrase B) (ts us at front : Tokens) → ts ≡ front ++ us
    → Viable L us at → Some_of L → ((more : Tokens) → Begins L more → Begins M (front ++ more)) → Viable M ts at
Viable-after L M ts us at front e o some h = record {
  front = front ++ o.front;
  parts = e ∙ ap (λ (r : Tokens). front ++ r) o.parts ∙ sym (append_assoc front o.front at);
  begins = inr (h o.front (Begins-from L o.front some o.begins));
}

Viable-here : {A : Type 0} (M : Phrase A) (ts at : Tokens) → ts ≡ at → Viable M ts at
Viable-here M ts at e = record { front = []; parts = e; begins = inl refl }

-- ---- one lexeme

terminal_viable : (k : Kind) (ts : Tokens) (w : Failure) → expect_at k ts ≡ Err w → Viable (terminal k) ts w.rest
terminal_viable k ts w e = Viable-here (terminal k) ts w.rest (terminal_refuses k ts w e).here

pub not_deep : {A : Type 0} (a b : Tokens) → ◌≡◌ {A = Result A Failure} (fails Unexpected a) (fails TooDeep b) → ⊥
not_deep a b e = let same : Unexpected ≡ TooDeep =
    ap (λ (f : Failure). f.why) (err_is (record { why = Unexpected; rest = a }) (record { why = TooDeep; rest = b })
    e) in cc

terminal_never : (k : Kind) (ts at : Tokens) → expect_at k ts ≡ fails TooDeep at → ⊥
terminal_never k [] at e = not_deep [] at e
terminal_never k (t ∷ ts) at e =
    elim (chosen _ (Ok (t, ts)) (fails Unexpected (t ∷ ts)) (fails TooDeep at) e)
    [ inl h ↦ cc | inr h ↦ not_deep (t ∷ ts) at h.1 ]

pub terminal_extends : (k : Kind) → Extends (expect_at k) (expect_at k) (terminal k) (terminal k)
terminal_extends k = record {
  viable = terminal_viable k;
  same = λ ts. inl refl;
  wider = λ ts x h. h;
  opens =
      λ ts at e. absurd (terminal_never k ts at e);
}

-- ---- a, and behind it b

module _ {A B : Type 0} (p p' : Reader A) (q q' : Reader B) (L L' : Phrase A) (M M' : Phrase B) (f m : List Kind)
    (d : Bool) (exact : Exact p L f m d) (P : Extends p p' L L') (Q : Extends q q' M M') (some : Some_of M') where
  both_begins : (front : Tokens) → Begins L' front → Begins (L' ⊗ M') front
  both_begins front b = record {
    rest = b.rest ++ some.tokens;
    value = (b.value, some.value);
    means =
        (front ++ b.rest, some.tokens, sym (append_assoc front b.rest some.tokens), b.means, some.means);
  }

  both_begins_after : (front after : Tokens) (x : A) → L' front x → Begins M' after → Begins (L' ⊗ M') (front ++ after)
  both_begins_after front after x h b =
      record {
        rest = b.rest;
        value = (x, b.value);
        means =
            (front, after ++ b.rest, append_assoc front after b.rest, h, b.means);
      }

  both_opens : (ts at : Tokens) → both_at p q ts ≡ fails TooDeep at → Opens (L' ⊗ M') ts at
  both_opens ts at e =
      elim (bind_err (p ts) (λ x. q x.1 >>= λ y. Ok ((x.0, y.0), y.1)) (record { why = TooDeep; rest = at }) e) [
        | inl a ↦ Opens-as L' (L' ⊗ M') ts at (P.opens ts at a) both_begins
        | inr a ↦ elim (bind_err (q a.0.1) (λ y. Ok ((a.0.0, y.0), y.1)) (record { why = TooDeep; rest = at }) a.2) [
          | inl b ↦
              let s = exact.sound ts a.0 a.1 in
              Opens-after M' ts a.0.1 at s.front s.parts (Q.opens a.0.1 at b) (L' ⊗ M')
              (λ more h. both_begins_after s.front more a.0.0 (P.wider s.front a.0.0 s.means) h)
          | inr b ↦ absurd cc
        ]
      ]

  both_viable : (ts : Tokens) (w : Failure) → both_at p q ts ≡ Err w → Viable (L' ⊗ M') ts w.rest
  both_viable ts w e =
      elim (bind_err (p ts) (λ x. q x.1 >>= λ y. Ok ((x.0, y.0), y.1)) w e) [
        | inl a ↦ Viable-as L' (L' ⊗ M') ts w.rest (P.viable ts w a) both_begins
        | inr a ↦ elim (bind_err (q a.0.1) (λ y. Ok ((a.0.0, y.0), y.1)) w a.2) [
          | inl b ↦
              let s = exact.sound ts a.0 a.1 in
              Viable-after M' (L' ⊗ M') ts a.0.1 w.rest s.front s.parts (Q.viable a.0.1 w b) some
              (λ more h. both_begins_after s.front more a.0.0 (P.wider s.front a.0.0 s.means) h)
          | inr b ↦ absurd cc
        ]
      ]

  pub both_extends : Extends (both_at p q) (both_at p' q') (L ⊗ M) (L' ⊗ M')
  both_extends = record {
    viable = both_viable;
    same = λ ts. bind_same (p ts) (p' ts) (λ x. q x.1 >>= λ y. Ok ((x.0, y.0), y.1))
        (λ x. q' x.1 >>= λ y. Ok ((x.0, y.0), y.1)) (P.same ts)
        (λ x. bind_same (q x.1) (q' x.1) (λ y. Ok ((x.0, y.0), y.1)) (λ y. Ok ((x.0, y.0), y.1)) (Q.same x.1)
        (λ y. inl refl));
    wider = λ ts x h. (h.0, h.1, h.2, P.wider h.0 x.0 h.3, Q.wider h.1 x.1 h.4);
    opens = both_opens;
  }

-- ---- a, whose value is made into another

module _ {A B : Type 0} (h : A → B) (p p' : Reader A) (L L' : Phrase A) (P : Extends p p' L L') where
  made_opens : (ts at : Tokens) → made_at h p ts ≡ fails TooDeep at → Opens (L' ⇒ h) ts at
  made_opens ts at e =
      elim (bind_err (p ts) (λ x. Ok (h x.0, x.1)) (record { why = TooDeep; rest = at }) e) [
        | inl a ↦ Opens-as L' (L' ⇒ h) ts at (P.opens ts at a)
            (λ more b. record { rest = b.rest; value = h b.value; means = (b.value, b.means, refl) })
        | inr a ↦ absurd cc
      ]

  made_viable : (ts : Tokens) (w : Failure) → made_at h p ts ≡ Err w → Viable (L' ⇒ h) ts w.rest
  made_viable ts w e =
      elim (bind_err (p ts) (λ x. Ok (h x.0, x.1)) w e) [
        | inl a ↦ Viable-as L' (L' ⇒ h) ts w.rest (P.viable ts w a)
            (λ more b. record { rest = b.rest; value = h b.value; means = (b.value, b.means, refl) })
        | inr a ↦ absurd cc
      ]

  pub made_extends : Extends (made_at h p) (made_at h p') (L ⇒ h) (L' ⇒ h)
  made_extends = record {
    viable = made_viable;
    same = λ ts. bind_same (p ts) (p' ts) (λ x. Ok (h x.0, x.1)) (λ x. Ok (h x.0, x.1)) (P.same ts) (λ x. inl refl);
    wider = λ ts y k. (k.0, P.wider ts k.0 k.1, k.2);
    opens = made_opens;
  }

-- ---- a, with the place of its first token

module _ {A : Type 0} (p p' : Reader A) (L L' : Phrase A) (P : Extends p p' L L') where
  placed_opens : (ts at : Tokens) → placed_at p ts ≡ fails TooDeep at → Opens (placed L') ts at
  placed_opens ts at e =
      elim (bind_err (p ts) (λ x. Ok ((place_of ts, x.0), x.1)) (record { why = TooDeep; rest = at }) e) [
        | inl a ↦ Opens-as L' (placed L') ts at (P.opens ts at a)
            (λ more b. record { rest = b.rest; value = (place_of (more ++ b.rest), b.value); means = (refl, b.means) })
        | inr a ↦ absurd cc
      ]

  placed_viable : (ts : Tokens) (w : Failure) → placed_at p ts ≡ Err w → Viable (placed L') ts w.rest
  placed_viable ts w e =
      elim (bind_err (p ts) (λ x. Ok ((place_of ts, x.0), x.1)) w e) [
        | inl a ↦ Viable-as L' (placed L') ts w.rest (P.viable ts w a)
            (λ more b. record { rest = b.rest; value = (place_of (more ++ b.rest), b.value); means = (refl, b.means) })
        | inr a ↦ absurd cc
      ]

  pub placed_extends : Extends (placed_at p) (placed_at p') (placed L) (placed L')
  placed_extends = record {
    viable = placed_viable;
    same = λ ts. bind_same (p ts) (p' ts) (λ x. Ok ((place_of ts, x.0), x.1)) (λ x. Ok ((place_of ts, x.0), x.1))
        (P.same ts) (λ x. inl refl);
    wider = λ ts x k. (k.0, P.wider ts x.1 k.1);
    opens = placed_opens;
  }

-- ---- a at most once

module _ {A : Type 0} (f : List Kind) (p p' : Reader A) (L L' : Phrase A) (P : Extends p p' L L') where
  optional_opens : (ts at : Tokens) → optional_at f p ts ≡ fails TooDeep at → Opens (optional L') ts at
  optional_opens ts at e =
      elim (chosen (begins f ts) (p ts >>= λ x. Ok (Some x.0, x.1)) (Ok (None, ts)) (fails TooDeep at) e) [
        | inl c ↦ elim (bind_err (p ts) (λ x. Ok (Some x.0, x.1)) (record { why = TooDeep; rest = at }) c.1) [
          | inl a ↦ Opens-as L' (optional L') ts at (P.opens ts at a)
              (λ more b. record { rest = b.rest; value = Some b.value; means = b.means })
          | inr a ↦ absurd cc
        ]
        | inr c ↦ absurd cc
      ]

  optional_viable : (ts : Tokens) (w : Failure) → optional_at f p ts ≡ Err w → Viable (optional L') ts w.rest
  optional_viable ts w e =
      elim (chosen (begins f ts) (p ts >>= λ x. Ok (Some x.0, x.1)) (Ok (None, ts)) (Err w) e) [
        | inl c ↦ elim (bind_err (p ts) (λ x. Ok (Some x.0, x.1)) w c.1) [
          | inl a ↦ Viable-as L' (optional L') ts w.rest (P.viable ts w a)
              (λ more b. record { rest = b.rest; value = Some b.value; means = b.means })
          | inr a ↦ absurd cc
        ]
        | inr c ↦ absurd cc
      ]

  optional_wider : (ts : Tokens) (o : Option A) → optional L ts o → optional L' ts o
  optional_wider ts None h = h
  optional_wider ts (Some x) h = P.wider ts x h

  pub optional_extends : Extends (optional_at f p) (optional_at f p') (optional L) (optional L')
  optional_extends = record {
    viable = optional_viable;
    same = λ ts. cond_same (begins f ts) (p ts >>= λ x. Ok (Some x.0, x.1)) (p' ts >>= λ x. Ok (Some x.0, x.1))
        (Ok (None, ts)) (Ok (None, ts)) (bind_same (p ts) (p' ts) (λ x. Ok (Some x.0, x.1)) (λ x. Ok (Some x.0, x.1))
        (P.same ts) (λ x. inl refl)) (inl refl);
    wider = optional_wider;
    opens = optional_opens;
  }

-- ---- a or b

module _ {A : Type 0} (f : List Kind) (p p' q q' : Reader A) (L L' M M' : Phrase A) (P : Extends p p' L L')
    (Q : Extends q q' M M') where
  either_opens : (ts at : Tokens) → either_at f p q ts ≡ fails TooDeep at → Opens (L' ∣ M') ts at
  either_opens ts at e =
      elim (chosen (begins f ts) (p ts) (q ts) (fails TooDeep at) e) [
        | inl c ↦ Opens-as L' (L' ∣ M') ts at (P.opens ts at c.1)
            (λ more b. record { rest = b.rest; value = b.value; means = inl b.means })
        | inr c ↦ Opens-as M' (L' ∣ M') ts at (Q.opens ts at c.1)
            (λ more b. record { rest = b.rest; value = b.value; means = inr b.means })
      ]

  either_viable : (ts : Tokens) (w : Failure) → either_at f p q ts ≡ Err w → Viable (L' ∣ M') ts w.rest
  either_viable ts w e =
      elim (chosen (begins f ts) (p ts) (q ts) (Err w) e) [
        | inl c ↦ Viable-as L' (L' ∣ M') ts w.rest (P.viable ts w c.1)
            (λ more b. record { rest = b.rest; value = b.value; means = inl b.means })
        | inr c ↦ Viable-as M' (L' ∣ M') ts w.rest (Q.viable ts w c.1)
            (λ more b. record { rest = b.rest; value = b.value; means = inr b.means })
      ]

  either_wider : (ts : Tokens) (x : A) → (L ∣ M) ts x → (L' ∣ M') ts x
  either_wider ts x (inl h) = inl (P.wider ts x h)
  either_wider ts x (inr h) = inr (Q.wider ts x h)

  pub either_extends : Extends (either_at f p q) (either_at f p' q') (L ∣ M) (L' ∣ M')
  either_extends = record {
    viable = either_viable;
    same =
        λ ts. cond_same (begins f ts) (p ts) (p' ts) (q ts) (q' ts) (P.same ts) (Q.same ts);
    wider =
        either_wider;
    opens = either_opens;
  }

-- ---- a any number of times

module _ {A : Type 0} (f m : List Kind) (p p' : Reader A) (L L' : Phrase A) (exact : Exact p L f m false)
    (P : Extends p p' L L') where
  times_same : (k : ℕ) (ts : Tokens) → (times_at k f p ts ≡ times_at k f p' ts) ⊎ Deepens (times_at k f p ts)
  times_same zero ts = inl refl
  times_same (suc k) ts =
      cond_same (begins f ts) (p ts >>= λ x. times_at k f p x.1 >>= λ xs. Ok (x.0 ∷ xs.0, xs.1))
      (p' ts >>= λ x. times_at k f p' x.1 >>= λ xs. Ok (x.0 ∷ xs.0, xs.1)) (Ok ([], ts)) (Ok ([], ts))
      (bind_same (p ts) (p' ts) (λ x. times_at k f p x.1 >>= λ xs. Ok (x.0 ∷ xs.0, xs.1))
      (λ x. times_at k f p' x.1 >>= λ xs. Ok (x.0 ∷ xs.0, xs.1)) (P.same ts)
      (λ x. bind_same (times_at k f p x.1) (times_at k f p' x.1) (λ xs. Ok (x.0 ∷ xs.0, xs.1))
      (λ xs. Ok (x.0 ∷ xs.0, xs.1)) (times_same k x.1) (λ xs. inl refl)))
      (inl refl)

  many_wider : (ts : Tokens) (xs : List A) → many L ts xs → many L' ts xs
  many_wider ts [] h = h
  many_wider ts (x ∷ xs) h = (h.0, h.1, h.2, P.wider h.0 x h.3, many_wider h.1 xs h.4)

  times_opens : (k : ℕ) (ts at : Tokens) → times_at k f p ts ≡ fails TooDeep at → Opens (many L') ts at
  times_opens zero ts at e = absurd cc
  times_opens (suc k) ts at e =
      elim (chosen (begins f ts) (p ts >>= λ x. times_at k f p x.1 >>= λ xs. Ok (x.0 ∷ xs.0, xs.1)) (Ok ([], ts))
      (fails TooDeep at) e) [
        | inl c ↦ elim (bind_err (p ts) (λ x. times_at k f p x.1 >>= λ xs. Ok (x.0 ∷ xs.0, xs.1))
            (record { why = TooDeep; rest = at }) c.1) [
              | inl a ↦ Opens-as L' (many L') ts at (P.opens ts at a)
                  (λ more b. record {
                    rest = b.rest;
                    value = b.value ∷ [];
                    means =
                        (more ++ b.rest, [], sym (append-nil (more ++ b.rest)), b.means, refl);
                  })
              | inr a ↦ elim (bind_err (times_at k f p a.0.1) (λ xs. Ok (a.0.0 ∷ xs.0, xs.1))
                  (record { why = TooDeep; rest = at }) a.2) [
                    | inl b ↦
                        let s = exact.sound ts a.0 a.1 in
                        Opens-after (many L') ts a.0.1 at s.front s.parts (times_opens k a.0.1 at b) (many L')
                        (λ more h. record {
                          rest = h.rest;
                          value = a.0.0 ∷ h.value;
                          means = (
                            s.front,
                            more ++ h.rest,
                            append_assoc s.front more h.rest,
                            P.wider s.front a.0.0 s.means,
                            h.means,
                          );
                        })
                    | inr b ↦ absurd cc
                  ]
            ]
        | inr c ↦ absurd cc
      ]

  times_viable : (k : ℕ) (ts : Tokens) (w : Failure) → times_at k f p ts ≡ Err w → Viable (many L') ts w.rest
  times_viable zero ts w e = absurd cc
  times_viable (suc k) ts w e =
      elim (chosen (begins f ts) (p ts >>= λ x. times_at k f p x.1 >>= λ xs. Ok (x.0 ∷ xs.0, xs.1)) (Ok ([], ts))
      (Err w) e) [
        | inl c ↦ elim (bind_err (p ts) (λ x. times_at k f p x.1 >>= λ xs. Ok (x.0 ∷ xs.0, xs.1)) w c.1) [
          | inl a ↦ Viable-as L' (many L') ts w.rest (P.viable ts w a)
              (λ more b. record {
                rest = b.rest;
                value = b.value ∷ [];
                means =
                    (more ++ b.rest, [], sym (append-nil (more ++ b.rest)), b.means, refl);
              })
          | inr a ↦ elim (bind_err (times_at k f p a.0.1) (λ xs. Ok (a.0.0 ∷ xs.0, xs.1)) w a.2) [
            | inl b ↦
                let s = exact.sound ts a.0 a.1 in
                Viable-after (many L') (many L') ts a.0.1 w.rest s.front s.parts (times_viable k a.0.1 w b)
                (record { tokens = []; value = []; means = refl })
                (λ more h. record {
                  rest = h.rest;
                  value = a.0.0 ∷ h.value;
                  means = (
                    s.front,
                    more ++ h.rest,
                    append_assoc s.front more h.rest,
                    P.wider s.front a.0.0 s.means,
                    h.means,
                  );
                })
            | inr b ↦ absurd cc
          ]
        ]
        | inr c ↦ absurd cc
      ]

  pub many_extends : Extends (many_at f p) (many_at f p') (many L) (many L')
  many_extends = record {
    viable = λ ts. times_viable (length ts) ts;
    same = λ ts. times_same (length ts) ts;
    wider =
        many_wider;
    opens = λ ts. times_opens (length ts) ts;
  }

-- ---- a lexeme that opens a level

module _ {A : Type 0} (k : Kind) (L : Phrase A) (p : Reader A) (M : Phrase A)
    (none : (ts : Tokens) (x : A) → L ts x → ⊥) (some : Some_of M) where
  closed_here : (ts at : Tokens) → opening_at {A = A} k None ts ≡ fails TooDeep at → Opens (terminal k ⊗ M) ts at
  closed_here [] at e = absurd (not_deep [] at e)
  closed_here (t ∷ ts) at e =
      elim (bind_err (expect_at k (t ∷ ts)) (λ x. fails {A = (Token × A) × Tokens} TooDeep (t ∷ ts))
      (record { why = TooDeep; rest = at }) e) [
        | inl a ↦ absurd (terminal_never k (t ∷ ts) at a)
        | inr a ↦ elim (chosen _ (Ok (t, ts)) (fails Unexpected (t ∷ ts)) (Ok a.0) a.1) [
          | inl h ↦ record {
            front = [];
            token = t;
            after = ts;
            parts = rest_is (t ∷ ts) at a.2;
            here = sym (rest_is (t ∷ ts) at a.2);
            goes_on = record {
              rest = some.tokens;
              value = (t, some.value);
              means =
                  (t ∷ [], some.tokens, refl, (refl, sym (same_kind k t.kind h.0)), some.means);
            };
          }
          | inr h ↦ absurd cc
        ]
      ]
    where
      rest_is : (a b : Tokens) → fails {A = (Token × A) × Tokens} TooDeep a ≡ fails TooDeep b → a ≡ b
      rest_is a b e = ap (λ (f : Failure). f.rest)
          (err_is (record { why = TooDeep; rest = a }) (record { why = TooDeep; rest = b }) e)

  closed_viable : (ts : Tokens) (w : Failure) → opening_at {A = A} k None ts ≡ Err w → Viable (terminal k ⊗ M) ts w.rest
  closed_viable ts w e =
      elim (bind_err (expect_at k ts) (λ x. fails {A = (Token × A) × Tokens} TooDeep ts) w e) [
        | inl a ↦ Viable-here (terminal k ⊗ M) ts w.rest (terminal_refuses k ts w a).here
        | inr a ↦ Viable-here (terminal k ⊗ M) ts w.rest
            (ap (λ (g : Failure). g.rest) (err_is (record { why = TooDeep; rest = ts }) w a.2))
      ]

  pub closed_extends : Extends (opening_at k None) (opening_at k (Some p)) (terminal k ⊗ L) (terminal k ⊗ M)
  closed_extends = record {
    viable = closed_viable;
    same = λ ts. closed_same (expect_at k ts) (λ x. p x.1 >>= λ y. Ok ((x.0, y.0), y.1)) ts;
    wider = λ ts x h. absurd (none h.1 x.1 h.4);
    opens = closed_here;
  }
    where
      closed_same : {B : Type 0} (r : Read Token) (f : Token × Tokens → Result B Failure) (ts : Tokens)
          → ((r >>= λ x. fails TooDeep ts) ≡ (r >>= f)) ⊎ Deepens (r >>= λ x. fails {A = B} TooDeep ts)
      closed_same (Ok x) f ts = inr (ts, refl)
      closed_same (Err w) f ts = inl refl

abbrev pub Grows : {A : Type 0} → Option (Reader A) → Option (Reader A) → Phrase A → Phrase A → Type 0
Grows None None L M = ⊥
Grows None (Some q) L M = ((ts : Tokens) (x : _) → L ts x → ⊥) × Some_of M
Grows (Some p) None L M = ⊥
Grows (Some p) (Some q) L M = Extends p q L M × Some_of M

pub opening_extends : {A : Type 0} (k : Kind) (o p : Option (Reader A)) (L M : Phrase A) → Grows o p L M
    → Extends (opening_at k o) (opening_at k p) (terminal k ⊗ L) (terminal k ⊗ M)
opening_extends k None None L M h = absurd h
opening_extends k None (Some q) L M h = closed_extends k L q M h.0 h.1
opening_extends k (Some p) None L M h = absurd h
opening_extends k (Some p) (Some q) L M h =
    both_extends (expect_at k) (expect_at k) p q (terminal k) (terminal k) L M (k ∷ []) [] false (terminal_exact k)
    (terminal_extends k) h.0 h.1
