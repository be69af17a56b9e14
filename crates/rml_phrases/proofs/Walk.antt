-- A walk along a grammar: what holds of the tokens of a phrase holds of the value that they spell. What is to hold of
-- tokens is given by `Rules`, from one place to another. There is one lemma for each word, whatever the rules.
use Rattle.std.proofs.Common.{◌≡◌, ℕ, inl, inr, List, [], ◌∷◌, ◌++◌, Option, Some, None}
use Rattle.std.proofs.Common.{sym, subst, ap, ◌∙◌}
use Rattle.std.specs.List.{AllByRecursion}
use Rattle.rml_lex.specs.declared.token.Token.{Token}
use Rattle.rml_lex.specs.declared.token.Kind.{Kind}
use Rattle.rml_phrases.specs.Language.{Tokens, place_of, or_none}
use Rattle.rml_phrases.specs.Language as phrase
use Rattle.rml_phrases.specs.Piece.{Piece, nothing, terminal, opens, ◌⊗◌, ◌∣◌, ◌⇒◌, optional, many, listed, placed}
use Rattle.rml_phrases.specs.Piece.{between, after, separated}
use Rattle.rml_phrases.specs.Carries.{Span}

-- ---- phrases that are not empty

pub record IsFilled {A : Type 0} (a : Piece A) : Type 0 where
  pub begins : (ts : Tokens) (x : A) → a.whole ts x → (t : Token) × (rest : Tokens) × (ts ≡ t ∷ rest)

pub terminal_filled : (k : Kind) → IsFilled (terminal k)
terminal_filled k = record { begins = λ ts x h. (x, [], h.0) }

pub opens_filled : {A : Type 0} (k : Kind) (a : Piece A) → IsFilled (opens k a)
opens_filled k a = record { begins = λ ts x h. (x.0, h.1, h.2 ∙ ap (λ (us : Tokens). us ++ h.1) h.3.0) }

pub both_filled : {A B : Type 0} {a : Piece A} (b : Piece B) → IsFilled a → IsFilled (a ⊗ b)
both_filled b P = record {
  begins =
      λ ts x h. let f = P.begins h.0 x.0 h.3 in
      (f.0, f.1 ++ h.1, h.2 ∙ ap (λ (us : Tokens). us ++ h.1) f.2);
}

pub made_filled : {A B : Type 0} {a : Piece A} (f : A → B) → IsFilled a → IsFilled (a ⇒ f)
made_filled f P = record { begins = λ ts y h. P.begins ts h.0 h.1 }

pub either_filled : {A : Type 0} {a b : Piece A} → IsFilled a → IsFilled b → IsFilled (a ∣ b)
either_filled P Q = record { begins = λ ts x h. elim h [ inl p ↦ P.begins ts x p | inr q ↦ Q.begins ts x q ] }

pub placed_filled : {A : Type 0} {a : Piece A} → IsFilled a → IsFilled (placed a)
placed_filled P = record { begins = λ ts x h. P.begins ts x.1 h.1 }

pub between_filled : {A : Type 0} (j : Kind) (a : Piece A) (k : Kind) → IsFilled (between j a k)
between_filled j a k = made_filled _ (both_filled (terminal k) (opens_filled j a))

pub separated_filled : {A : Type 0} {a : Piece A} (k : Kind) → IsFilled a → IsFilled (separated k a)
separated_filled {a = a} k P = made_filled _ (both_filled (many (after k a)) P)

-- ---- what holds of tokens

pub record Rules : Type 1 where
  pub OfTokens : Span Tokens
  -- of the place of a phrase that begins behind another place
  pub OfPlace : ℕ → ℕ → Type 0
  pub cut : (lo hi : ℕ) (u v : Tokens) → OfTokens lo hi (u ++ v) → (mid : ℕ) × OfTokens lo mid u × OfTokens mid hi v
  -- a part of them from and to the same places
  pub front : (lo hi : ℕ) (u v : Tokens) → OfTokens lo hi (u ++ v) → OfTokens lo hi u
  pub back : (lo hi : ℕ) (u v : Tokens) → OfTokens lo hi (u ++ v) → OfTokens lo hi v
  -- all of them, from where the first one begins
  pub begin : (lo hi : ℕ) (t : Token) (ts : Tokens) → OfTokens lo hi (t ∷ ts)
      → OfPlace lo t.start × OfTokens t.start hi (t ∷ ts)

module _ (R : Rules) where
  abbrev pub OfToken : Span Token
  OfToken lo hi t = R.OfTokens lo hi (t ∷ [])

  abbrev pub Both : {A B : Type 0} → Span A → Span B → Span (A × B)
  Both V W lo hi x = (mid : ℕ) × V lo mid x.0 × W mid hi x.1

  abbrev pub Maybe : {A : Type 0} → Span A → Span (Option A)
  Maybe V lo hi None = R.OfTokens lo hi []
  Maybe V lo hi (Some x) = V lo hi x

  abbrev pub Each : {A : Type 0} → Span A → Span (List A)
  Each V lo hi [] = R.OfTokens lo hi []
  Each V lo hi (x ∷ xs) = (mid : ℕ) × V lo mid x × Each V mid hi xs

  -- so it is of each, and there is one
  abbrev pub EachOfSome : {A : Type 0} → Span A → Span (List A)
  EachOfSome V lo hi [] = ⊥
  EachOfSome V lo hi (x ∷ xs) = (mid : ℕ) × V lo mid x × Each V mid hi xs

  pub each_of_some : {A : Type 0} (V : Span A) (lo hi : ℕ) (xs : List A) → EachOfSome V lo hi xs → Each V lo hi xs
  each_of_some V lo hi [] h = absurd h
  each_of_some V lo hi (x ∷ xs) h = h

  -- what holds wherever the value stands
  pub all_of_each : {A : Type 0} (W : A → Type 0) (lo hi : ℕ) (xs : List A) → Each (λ from to x. W x) lo hi xs
      → AllByRecursion W xs
  all_of_each W lo hi [] h = tt
  all_of_each W lo hi (x ∷ xs) h = (h.1, all_of_each W h.0 hi xs h.2)

  abbrev pub Placed : {A : Type 0} → Span A → Span (ℕ × A)
  Placed V lo hi x = R.OfPlace lo x.0 × V x.0 hi x.1

  abbrev pub Three : {A : Type 0} → Span A → Span ((A × A) × A)
  Three V = Both (Both V V) V

  -- where it holds of tokens, it holds of the value that they spell
  pub record Walks {A : Type 0} (a : Piece A) (V : Span A) : Type 0 where
    pub holds : (lo hi : ℕ) (ts : Tokens) (x : A) → a.whole ts x → R.OfTokens lo hi ts → V lo hi x

  -- ---- the words of the grammar

  pub terminal_walks : (k : Kind) → Walks (terminal k) OfToken
  terminal_walks k = record { holds = λ lo hi ts x h all. subst (R.OfTokens lo hi) h.0 all }

  pub nothing_walks : {A : Type 0} (V : Span A) → Walks (nothing {A = A}) V
  nothing_walks V = record { holds = λ lo hi ts x h all. absurd h }

  pub both_walks : {A B : Type 0} {a : Piece A} {b : Piece B} {V : Span A} {W : Span B} → Walks a V → Walks b W
      → Walks (a ⊗ b) (Both V W)
  both_walks P Q = record {
    holds =
        λ lo hi ts x h all. let s = R.cut lo hi h.0 h.1 (subst (R.OfTokens lo hi) h.2 all) in
        (s.0, P.holds lo s.0 h.0 x.0 h.3 s.1, Q.holds s.0 hi h.1 x.1 h.4 s.2);
  }

  pub opens_walks : {A : Type 0} {a : Piece A} {V : Span A} (k : Kind) → Walks a V → Walks (opens k a) (Both OfToken V)
  opens_walks k Q = record {
    holds =
        λ lo hi ts x h all. let s = R.cut lo hi h.0 h.1 (subst (R.OfTokens lo hi) h.2 all) in
        (s.0, (terminal_walks k).holds lo s.0 h.0 x.0 h.3 s.1, Q.holds s.0 hi h.1 x.1 h.4 s.2);
  }

  pub made_walks : {A B : Type 0} {a : Piece A} {V : Span A} {W : Span B} (f : A → B)
      → ((lo hi : ℕ) (x : A) → V lo hi x → W lo hi (f x)) → Walks a V → Walks (a ⇒ f) W
  made_walks {W = W} f so P = record {
    holds = λ lo hi ts y h all. subst (W lo hi) (sym h.2) (so lo hi h.0 (P.holds lo hi ts h.0 h.1 all));
  }

  pub either_walks : {A : Type 0} {a b : Piece A} {V : Span A} → Walks a V → Walks b V → Walks (a ∣ b) V
  either_walks P Q = record {
    holds = λ lo hi ts x h all. elim h [ inl p ↦ P.holds lo hi ts x p all | inr q ↦ Q.holds lo hi ts x q all ];
  }

  pub optional_walks : {A : Type 0} {a : Piece A} {V : Span A} → Walks a V → Walks (optional a) (Maybe V)
  optional_walks {A = A} {a = a} {V = V} P = record { holds = each }
    where
      each : (lo hi : ℕ) (ts : Tokens) (x : Option A) → phrase.optional a.whole ts x → R.OfTokens lo hi ts
          → Maybe V lo hi x
      each lo hi ts None h all = subst (R.OfTokens lo hi) h all
      each lo hi ts (Some x) h all = P.holds lo hi ts x h all

  pub many_walks : {A : Type 0} {a : Piece A} {V : Span A} → Walks a V → Walks (many a) (Each V)
  many_walks {A = A} {a = a} {V = V} P = record { holds = each }
    where
      each : (lo hi : ℕ) (ts : Tokens) (xs : List A) → phrase.many a.whole ts xs → R.OfTokens lo hi ts → Each V lo hi xs
      each lo hi ts [] h all = subst (R.OfTokens lo hi) h all
      each lo hi ts (x ∷ xs) h all =
          let s = R.cut lo hi h.0 h.1 (subst (R.OfTokens lo hi) h.2 all) in
          (s.0, P.holds lo s.0 h.0 x h.3 s.1, each s.0 hi h.1 xs h.4 s.2)

  pub listed_walks : {A : Type 0} {a : Piece A} {V : Span A} (k : Kind) → Walks a V → Walks (listed k a) (Each V)
  listed_walks {A = A} {a = a} {V = V} k P = record { holds = each }
    where
      each : (lo hi : ℕ) (ts : Tokens) (xs : List A) → phrase.listed k a.whole ts xs → R.OfTokens lo hi ts
          → Each V lo hi xs
      each lo hi ts [] h all = subst (R.OfTokens lo hi) h all
      each lo hi ts (x ∷ xs) h all =
          let s = R.cut lo hi h.0 h.1 (subst (R.OfTokens lo hi) h.2 all) in (
            s.0,
            P.holds lo s.0 h.0 x h.3 s.1,
            elim h.4 [
              | inl last ↦ subst (Each V s.0 hi) (sym last.1) (subst (R.OfTokens s.0 hi) last.0 s.2)
              | inr more ↦ each s.0 hi more.1 xs more.4
                  (R.back s.0 hi (more.0 ∷ []) more.1 (subst (R.OfTokens s.0 hi) more.2 s.2))
            ],
          )

  pub placed_walks : {A : Type 0} {a : Piece A} {V : Span A} → IsFilled a → Walks a V → Walks (placed a) (Placed V)
  placed_walks {V = V} F P = record {
    holds =
        λ lo hi ts x h all. let f = F.begins ts x.1 h.1 in
        let s = R.begin lo hi f.0 f.1 (subst (R.OfTokens lo hi) f.2 all) in
        let at : x.0 ≡ f.0.start = h.0 ∙ ap place_of f.2 in (
          subst (R.OfPlace lo) (sym at) s.0,
          subst (λ (n : ℕ). V n hi x.1) (sym at)
              (P.holds f.0.start hi ts x.1 h.1 (subst (R.OfTokens f.0.start hi) (sym f.2) s.1)),
        );
  }

  -- b behind what is not looked at
  pub behind_walks : {A B : Type 0} {a : Piece A} {b : Piece B} {V : Span B} → Walks b V
      → Walks (a ⊗ b) (λ lo hi x. V lo hi x.1)
  behind_walks P = record {
    holds =
        λ lo hi ts x h all. P.holds lo hi h.1 x.1 h.4
        (R.back lo hi h.0 h.1 (subst (R.OfTokens lo hi) h.2 all));
  }

  pub inside_walks : {A : Type 0} {a : Piece A} {V : Span A} (k : Kind) → Walks a V
      → Walks (opens k a) (λ lo hi x. V lo hi x.1)
  inside_walks k P = record {
    holds =
        λ lo hi ts x h all. P.holds lo hi h.1 x.1 h.4
        (R.back lo hi h.0 h.1 (subst (R.OfTokens lo hi) h.2 all));
  }

  pub after_walks : {A : Type 0} {a : Piece A} {V : Span A} (k : Kind) → Walks a V → Walks (after k a) V
  after_walks {V = V} k P = made_walks {W = V} (λ x. x.1) (λ lo hi x h. h) (behind_walks P)

  pub between_walks : {A : Type 0} {a : Piece A} {V : Span A} (j k : Kind) → Walks a V → Walks (between j a k) V
  between_walks {V = V} j k P = record {
    holds =
        λ lo hi ts y h all. let p = h.1 in let q = p.3 in
        let inside = R.front lo hi p.0 p.1 (subst (R.OfTokens lo hi) p.2 all) in
        subst (V lo hi) (sym h.2) (P.holds lo hi q.1 h.0.0.1 q.4
        (R.back lo hi q.0 q.1 (subst (R.OfTokens lo hi) q.2 inside)));
  }

  pub some_walk : {A : Type 0} {a : Piece A} {V : Span A} (k : Kind) → Walks a V → Walks (separated k a) (EachOfSome V)
  some_walk {V = V} k P =
      made_walks {W = EachOfSome V} (λ x. x.0 ∷ x.1) (λ lo hi x h. h) (both_walks P (many_walks (after_walks k P)))

  pub separated_walks : {A : Type 0} {a : Piece A} {V : Span A} (k : Kind) → Walks a V → Walks (separated k a) (Each V)
  separated_walks {V = V} k P =
      made_walks {W = Each V} (λ x. x.0 ∷ x.1) (λ lo hi x h. h) (both_walks P (many_walks (after_walks k P)))

  pub or_none_walks : {A : Type 0} {a : Piece (List A)} {V : Span A} → Walks a (Each V)
      → Walks (optional a ⇒ or_none) (Each V)
  or_none_walks {A = A} {V = V} P = made_walks {W = Each V} or_none each (optional_walks P)
    where
      each : (lo hi : ℕ) (x : Option (List A)) → Maybe (Each V) lo hi x → Each V lo hi (or_none x)
      each lo hi None h = h
      each lo hi (Some xs) h = h

  -- a word whose value says nothing of its place
  abbrev pub Taken : {A : Type 0} → Span A
  Taken lo hi x = (t : Token) × OfToken lo hi t

  -- ---- what follows

  pub more : {A : Type 0} {a : Piece A} {V W : Span A} → ((lo hi : ℕ) (x : A) → V lo hi x → W lo hi x) → Walks a V
      → Walks a W
  more so P = record { holds = λ lo hi ts x h all. so lo hi x (P.holds lo hi ts x h all) }

  pub each_more : {A : Type 0} (V W : Span A) → ((lo hi : ℕ) (x : A) → V lo hi x → W lo hi x)
      → (lo hi : ℕ) (xs : List A) → Each V lo hi xs → Each W lo hi xs
  each_more V W so lo hi [] h = h
  each_more V W so lo hi (x ∷ xs) h = (h.0, so lo h.0 x h.1, each_more V W so h.0 hi xs h.2)

-- nothing is asked of tokens
abbrev pub no_rules : Rules
no_rules = record {
  OfTokens = λ lo hi ts. Unit {0};
  OfPlace = λ lo at. Unit {0};
  cut = λ lo hi u v h. (lo, tt, tt);
  front = λ lo hi u v h. tt;
  back = λ lo hi u v h. tt;
  begin = λ lo hi t ts h. (tt, tt);
}
