-- The words that the grammar is written in. A phrase says which tokens spell which value.
use Rattle.std.specs.Prelude.{◌≡◌, ℕ, List, [], ◌∷◌, ◌++◌, ◌⊎◌, Option, Some, None}
use Rattle.rml_lex.specs.declared.token.Kind.{Kind}
use Rattle.rml_lex.specs.declared.token.Token.{Token}

abbrev pub Tokens : Type 0
Tokens = List Token

-- which tokens spell which value
abbrev pub Phrase : Type 0 → Type 1
Phrase A = Tokens → A → Type 0

infixr 6 ◌⊗◌
infixr 5 ◌∣◌
infixr 5 ◌⇒◌
-- one token of this kind
abbrev pub terminal : Kind → Phrase Token
terminal k ts t = (ts ≡ t ∷ []) × (t.kind ≡ k)

-- a, and behind it b
abbrev pub ◌⊗◌ : {A B : Type 0} → Phrase A → Phrase B → Phrase (A × B)
(a ⊗ b) ts x = (front : Tokens) × (back : Tokens) × (ts ≡ front ++ back) × a front x.0 × b back x.1

-- a or b
abbrev pub ◌∣◌ : {A : Type 0} → Phrase A → Phrase A → Phrase A
(a ∣ b) ts x = a ts x ⊎ b ts x

-- a, whose value is made into another
abbrev pub ◌⇒◌ : {A B : Type 0} → Phrase A → (A → B) → Phrase B
(a ⇒ f) ts y = (x : _) × a ts x × (y ≡ f x)

-- a at most once
abbrev pub optional : {A : Type 0} → Phrase A → Phrase (Option A)
optional a ts None = ts ≡ []
optional a ts (Some x) = a ts x

-- a any number of times
abbrev pub many : {A : Type 0} → Phrase A → Phrase (List A)
many a ts [] = ts ≡ []
many a ts (x ∷ xs) = (front : Tokens) × (back : Tokens) × (ts ≡ front ++ back) × a front x × many a back xs

-- where the first token begins; of no tokens, 0
abbrev pub place_of : Tokens → ℕ
place_of [] = 0
place_of (t ∷ ts) = t.start

-- a, with the place of its first token
abbrev pub placed : {A : Type 0} → Phrase A → Phrase (ℕ × A)
placed a ts x = (x.0 ≡ place_of ts) × a ts x.1

-- [a {k a} [k]]: nothing, or a, and behind it nothing, or a k and the same again
abbrev pub listed : {A : Type 0} → Kind → Phrase A → Phrase (List A)
listed k a ts [] = ts ≡ []
listed k a ts (x ∷ xs) = (front : Tokens) × (back : Tokens) × (ts ≡ front ++ back) × a front x ×
    (((back ≡ []) × (xs ≡ []))
    ⊎ ((token : Token) × (rest : Tokens) × (back ≡ token ∷ rest) × (token.kind ≡ k) × listed k a rest xs))

-- the list, or none
abbrev pub or_none : {A : Type 0} → Option (List A) → List A
or_none None = []
or_none (Some xs) = xs

-- some tokens behind these make them a whole phrase
pub record Begins {A : Type 0} (phrase : Phrase A) (front : Tokens) : Type 0 where
  pub rest : Tokens
  pub value : A
  pub means : phrase (front ++ rest) value
