-- The line that says what may stand somewhere.
use Rattle.std.specs.Prelude.{ℕ, Bool, ◌==◌, if◌then◌else◌, List, [], ◌∷◌, ◌++◌, codes}
use Rattle.std.specs.List.{flat_map}
use Rattle.rml_lex.specs.declared.token.Kind.{Kind}
use Rattle.rml_lex.specs.declared.token.Kind.TheVariants as kind
use Rattle.rml_lex.specs.declared.token.Word.{Word}
use Rattle.rml_lex.specs.declared.token.Sign.{Sign}
use Rattle.rml_lex.specs.Spelling.{words, signs}
use Rattle.rml_phrases.specs.Reading.{word_number, sign_number}

-- how the first row that is as p says is written
abbrev pub spelling : {A : Type 0} → (A → Bool) → List (List ℕ × A) → List ℕ
spelling p [] = []
spelling p (row ∷ rows) = if p row.1 then row.0 else spelling p rows

-- a reserved word as it is written
unfoldable pub word_text : Word → List ℕ
word_text w = spelling (λ v. word_number v == word_number w) words

-- a sign as it is written
unfoldable pub sign_text : Sign → List ℕ
sign_text s = spelling (λ t. sign_number t == sign_number s) signs

-- words and signs as they are written, between backquotes
unfoldable pub kind_text : Kind → List ℕ
kind_text kind.Name = codes "NAME"
kind_text kind.Number = codes "NUMBER"
kind_text (kind.Word w) = codes "`" ++ word_text w ++ codes "`"
kind_text (kind.Sign s) = codes "`" ++ sign_text s ++ codes "`"

-- `, NAME` for each
abbrev pub others_text : List Kind → List ℕ
others_text ks = flat_map (λ k. codes ", " ++ kind_text k) ks

-- what the line begins with, if these follow the first
abbrev pub lead_text : List Kind → List ℕ
lead_text [] = codes "  = "
lead_text (k ∷ ks) = codes "  = one of "

-- `  = one of ..., NAME may stand here`, and nothing of no kind
unfoldable pub expected_text : List Kind → List ℕ
expected_text [] = []
expected_text (k ∷ ks) = lead_text ks ++ kind_text k ++ others_text ks ++ codes " may stand here\n"
