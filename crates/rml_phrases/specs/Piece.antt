-- A piece of the grammar: which tokens spell which value, and how it may begin as it is read from the left.
use Rattle.std.specs.Prelude.{◌≡◌, ℕ, List, [], ◌∷◌, ◌++◌, ◌⊎◌, Option}
use Rattle.rml_lex.specs.declared.token.Kind.{Kind}
use Rattle.rml_lex.specs.declared.token.Token.{Token}
use Rattle.rml_phrases.specs.Language.{Tokens, Phrase}
use Rattle.rml_phrases.specs.Language as phrase

-- `whole` says which tokens spell which value, `front` with which tokens such a spelling may begin
pub record Piece (A : Type 0) : Type 1 where
  pub whole : Phrase A
  pub front : Tokens → Type 0

infixr 6 ◌⊗◌
infixr 5 ◌∣◌
infixr 5 ◌⇒◌
-- no tokens at all, not even as a beginning
abbrev pub nothing : {A : Type 0} → Piece A
nothing = record { whole = λ ts x. ⊥; front = λ ts. ⊥ }

-- one token of this kind
abbrev pub terminal : Kind → Piece Token
terminal k = record { whole = phrase.terminal k; front = λ ts. (ts ≡ []) ⊎ ((t : Token) × phrase.terminal k ts t) }

-- a, and behind it b
abbrev pub ◌⊗◌ : {A B : Type 0} → Piece A → Piece B → Piece (A × B)
a ⊗ b = record {
  whole = phrase.◌⊗◌ a.whole b.whole;
  front = λ ts. a.front ts
      ⊎ ((front : Tokens) × (back : Tokens) × (x : _) × (ts ≡ front ++ back) × a.whole front x × b.front back);
}

-- a token that opens a level, and a inside it
abbrev pub opens : {A : Type 0} → Kind → Piece A → Piece (Token × A)
opens k a = record {
  whole = phrase.◌⊗◌ (phrase.terminal k) a.whole;
  front = λ ts. (ts ≡ []) ⊎ ((t : Token) × (rest : Tokens) × (ts ≡ t ∷ rest) × (t.kind ≡ k) × a.front rest);
}

-- a or b
abbrev pub ◌∣◌ : {A : Type 0} → Piece A → Piece A → Piece A
a ∣ b = record { whole = phrase.◌∣◌ a.whole b.whole; front = λ ts. a.front ts ⊎ b.front ts }

-- a, whose value is made into another
abbrev pub ◌⇒◌ : {A B : Type 0} → Piece A → (A → B) → Piece B
a ⇒ f = record { whole = phrase.◌⇒◌ a.whole f; front = a.front }

-- a at most once
abbrev pub optional : {A : Type 0} → Piece A → Piece (Option A)
optional a = record { whole = phrase.optional a.whole; front = λ ts. (ts ≡ []) ⊎ a.front ts }

-- a any number of times
abbrev pub many : {A : Type 0} → Piece A → Piece (List A)
many a = record {
  whole = phrase.many a.whole;
  front = λ ts. (xs : List _) × (front : Tokens) × (back : Tokens) × (ts ≡ front ++ back)
      × phrase.many a.whole front xs × ((back ≡ []) ⊎ a.front back);
}

-- [a {k a} [k]]
abbrev pub listed : {A : Type 0} → Kind → Piece A → Piece (List A)
listed k a = record {
  whole = phrase.listed k a.whole;
  front = λ ts. (xs : List _) × (front : Tokens) × (back : Tokens) × (ts ≡ front ++ back)
      × phrase.many (phrase.◌⊗◌ a.whole (phrase.terminal k)) front xs × ((back ≡ []) ⊎ a.front back);
}

-- a, with the place of its first token
abbrev pub placed : {A : Type 0} → Piece A → Piece (ℕ × A)
placed a = record { whole = phrase.placed a.whole; front = a.front }

-- j a k
abbrev pub between : {A : Type 0} → Kind → Piece A → Kind → Piece A
between j a k = opens j a ⊗ terminal k ⇒ λ x. x.0.1

-- k a
abbrev pub after : {A : Type 0} → Kind → Piece A → Piece A
after k a = terminal k ⊗ a ⇒ λ x. x.1

-- a {k a}
abbrev pub separated : {A : Type 0} → Kind → Piece A → Piece (List A)
separated k a = a ⊗ many (after k a) ⇒ λ x. x.0 ∷ x.1
