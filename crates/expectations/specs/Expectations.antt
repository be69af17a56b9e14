-- Which kinds of token may stand at a place of a text: those with which the tokens in front of it begin a file.
use Rattle.std.specs.Prelude.{◌≡◌, ℕ, ◌+◌, nat_lt, List, [], ◌∷◌, ◌++◌, ◌⊎◌, length, map}
use Rattle.std.specs.List.{take_while}
use Rattle.rml_lex.specs.declared.token.Token.{Token}
use Rattle.rml_lex.specs.declared.token.Kind.{Kind}
use Rattle.rml_lex.specs.declared.token.Kind.TheVariants as kind
use Rattle.rml_lex.specs.Spelling.{words, signs}
use Rattle.rml_phrases.specs.Language.{Tokens}
use Rattle.rml_syntax.specs.declared.tree.Format.{Format}
use Rattle.rml_syntax.specs.Faults.{IsFormat, BeginsFile}

-- the tokens that begin in front of a place
abbrev pub in_front : ℕ → Tokens → Tokens
in_front at tokens = take_while (λ t. nat_lt t.start at) tokens

-- every kind, in the order in which the language is told: the reserved words, the signs, names and numbers
abbrev pub every_kind : List Kind
every_kind = map (λ row. kind.Word row.1) words ++ map (λ row. kind.Sign row.1) signs ++ kind.Name ∷ kind.Number ∷ []

-- A token of this kind, as it would stand right behind the text. No grammar asks where a token stands.
abbrev pub behind : List ℕ → Kind → Token
behind text k = record { kind = k; start = length text; end = length text + 1 }

-- with a token of this kind the tokens in front begin a file of their format
abbrev pub MayStand : List ℕ → Tokens → Kind → Type 0
MayStand text front k =
    (format : Format) × IsFormat text front format × BeginsFile format (front ++ behind text k ∷ [])

-- those of all that are as P says, in order, and no others
unfoldable pub AreThose : (Kind → Type 0) → List Kind → List Kind → Type 0
AreThose P [] those = those ≡ []
AreThose P (k ∷ ks) those =
    ((rest : List Kind) × (those ≡ k ∷ rest) × P k × AreThose P ks rest) ⊎ ((P k → ⊥) × AreThose P ks those)

-- the kinds that may stand at this place of the text, of all in order
abbrev pub AreExpected : List ℕ → Tokens → ℕ → List Kind → Type 0
AreExpected text tokens at kinds = AreThose (MayStand text (in_front at tokens)) every_kind kinds
