-- What holds of the tokens of a phrase, and so of the value that they spell.
use Rattle.std.specs.Prelude.{ℕ}
use Rattle.rml_phrases.specs.Language.{Tokens}
use Rattle.rml_phrases.specs.Piece.{Piece}

-- what holds of a value from one place to another
abbrev pub Span : Type 0 → Type 1
Span A = ℕ → ℕ → A → Type 0

-- where the first holds of tokens, the second holds of what they spell
abbrev pub Carries : {A : Type 0} → Span Tokens → Piece A → Span A → Type 0
Carries OfTokens a V = (lo hi : ℕ) (ts : Tokens) (x : _) → a.whole ts x → OfTokens lo hi ts → V lo hi x
