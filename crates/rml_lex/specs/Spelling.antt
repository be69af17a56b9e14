-- How the reserved words and the signs are written.
use Rattle.std.specs.Prelude.{ℕ, List, [], ◌∷◌, Option, Some, None, codes, find, nat_eq, if◌then◌else◌}
use Rattle.std.specs.List.{starts_with}
use Rattle.std.specs.Str.{bytes_eq}
use Rattle.rml_lex.specs.declared.token.Word.{Word}
use Rattle.rml_lex.specs.declared.token.Word.TheVariants as word
use Rattle.rml_lex.specs.declared.token.Sign.{Sign}
use Rattle.rml_lex.specs.declared.token.Sign.TheVariants as sign

-- every reserved word, with its spelling
abbrev pub words : List (List ℕ × Word)
words =
    (codes "rml", word.Rml)
    ∷ (codes "sort", word.Sort)
    ∷ (codes "relation", word.Relation)
    ∷ (codes "function", word.Function)
    ∷ (codes "variable", word.Variable)
    ∷ (codes "axiom", word.Axiom)
    ∷ (codes "conjecture", word.Conjecture)
    ∷ (codes "init", word.Init)
    ∷ (codes "action", word.Action)
    ∷ (codes "final", word.Final)
    ∷ (codes "skip", word.Skip)
    ∷ (codes "abort", word.Abort)
    ∷ (codes "assume", word.Assume)
    ∷ (codes "assert", word.Assert)
    ∷ (codes "if", word.If)
    ∷ (codes "else", word.Else)
    ∷ (codes "choose", word.Choose)
    ∷ (codes "or", word.Or)
    ∷ (codes "insert", word.Insert)
    ∷ (codes "remove", word.Remove)
    ∷ (codes "put", word.Put)
    ∷ (codes "forall", word.Forall)
    ∷ (codes "exists", word.Exists)
    ∷ (codes "true", word.True)
    ∷ (codes "false", word.False)
    ∷ (codes "ite", word.Ite)
    ∷ (codes "define", word.Define)
    ∷ []

-- the longer signs before those that begin them
abbrev pub signs : List (List ℕ × Sign)
signs =
    (codes "<->", sign.DoubleArrow)
    ∷ (codes "->", sign.Arrow)
    ∷ (codes ":=", sign.Becomes)
    ∷ (codes "~=", sign.NotEqual)
    ∷ (codes "{", sign.OpenBrace)
    ∷ (codes "}", sign.CloseBrace)
    ∷ (codes "(", sign.OpenParen)
    ∷ (codes ")", sign.CloseParen)
    ∷ (codes ",", sign.Comma)
    ∷ (codes ";", sign.Semicolon)
    ∷ (codes ":", sign.Colon)
    ∷ (codes ".", sign.Dot)
    ∷ (codes "=", sign.Equal)
    ∷ (codes "~", sign.Not)
    ∷ (codes "&", sign.And)
    ∷ (codes "|", sign.Or)
    ∷ (codes "*", sign.Star)
    ∷ []

-- what the first row with this spelling stands for
abbrev pub spelled : {A : Type 0} → List (List ℕ × A) → List ℕ → Option A
spelled [] spelling = None
spelled (row ∷ rows) spelling = if bytes_eq row.0 spelling then Some row.1 else spelled rows spelling

-- the reserved word with this spelling
unfoldable pub reserved : List ℕ → Option Word
reserved spelling = spelled words spelling

-- the sign that the bytes begin with, and its spelling
abbrev pub sign_at : List ℕ → Option (List ℕ × Sign)
sign_at bytes = find (λ row. starts_with nat_eq bytes row.0) signs
