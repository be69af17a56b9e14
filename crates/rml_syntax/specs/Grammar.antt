-- The grammar of commands, of items and of a file. A production is one definition, with its line above it; `inner` has
-- the pieces one level deeper. The formats differ in items alone.
use Rattle.std.specs.Prelude.{ℕ, zero, suc, List, [], Option, Some, None}
use Rattle.rml_lex.specs.declared.token.Kind.TheVariants.{Word, Sign}
use Rattle.rml_lex.specs.declared.token.Kind.TheVariants as kind
use Rattle.rml_lex.specs.declared.token.Word.TheVariants.{Rml, Sort, Relation, Function, Variable, Axiom, Conjecture}
use Rattle.rml_lex.specs.declared.token.Word.TheVariants.{Init, Action, Final, Skip, Abort, Assume, Assert, If, Else}
use Rattle.rml_lex.specs.declared.token.Word.TheVariants.{Choose, Or, Insert, Remove, Put, Define}
use Rattle.rml_lex.specs.declared.token.Sign.TheVariants.{Arrow, Becomes, OpenBrace, CloseBrace, OpenParen}
use Rattle.rml_lex.specs.declared.token.Sign.TheVariants.{CloseParen, Comma, Semicolon, Colon, Equal, Star}
use Rattle.rml_phrases.specs.Language.{or_none}
use Rattle.rml_phrases.specs.Piece.{Piece, nothing, terminal, ◌⊗◌, ◌∣◌, ◌⇒◌, optional, many, listed, between, after}
use Rattle.rml_phrases.specs.Piece.{separated}
use Rattle.rml_terms.specs.declared.tree.Name.{Name}
use Rattle.rml_terms.specs.declared.tree.Binder.{Binder}
use Rattle.rml_terms.specs.Tree.{ExprTree}
use Rattle.rml_terms.specs.Shape.{max_nesting}
use Rattle.rml_terms.specs.Grammar as terms
use Rattle.rml_terms.specs.Grammar.{name, names, parameters, enclosed, arguments, expr, binder}
use Rattle.rml_syntax.specs.declared.tree.Format.{Format}
use Rattle.rml_syntax.specs.declared.tree.Format.TheVariants.{One, Two}
use Rattle.rml_syntax.specs.Tree as node
use Rattle.rml_syntax.specs.Tree.{CommandTree, ItemTree, assumed, asserted, branched, choice, inserted, removed}
use Rattle.rml_syntax.specs.Tree.{putting, assigned}

-- what lies inside one token more that opens a level, of terms, of commands and of parameters of definitions
pub record Inner : Type 1 where
  pub terms : terms.Inner
  pub cmds : Piece (List CommandTree)
  pub binders : Piece (List Binder)

-- block = "{" cmds "}"
abbrev pub block : Inner → Piece (List CommandTree)
block inner = between (Sign OpenBrace) inner.cmds (Sign CloseBrace)

-- ["else" block]
abbrev pub else_block : Inner → Piece (List CommandTree)
else_block inner = optional (after (Word Else) (block inner)) ⇒ or_none

-- "*" | expr
abbrev pub value : Inner → Piece (Option ExprTree)
value inner = (terminal (Sign Star) ⇒ λ t. None) ∣ (expr inner.terms ⇒ λ e. Some e)

-- cmd = "skip" | "abort" | "assume" expr | "assert" expr | "if" expr block ["else" block] | "choose" block {"or" block}
--     | "insert" NAME ["(" exprs ")"] | "remove" NAME ["(" exprs ")"] | "put" NAME "(" exprs ")" "=" expr
--     | NAME ["(" names ")"] ":=" ("*" | expr)
abbrev pub cmd : Inner → Piece CommandTree
cmd inner =
    (terminal (Word Skip) ⇒ λ t. node.Skip t.start)
    ∣ (terminal (Word Abort) ⇒ λ t. node.Abort t.start)
    ∣ (terminal (Word Assume) ⊗ expr inner.terms ⇒ assumed)
    ∣ (terminal (Word Assert) ⊗ expr inner.terms ⇒ asserted)
    ∣ (terminal (Word If) ⊗ ((expr inner.terms ⊗ block inner) ⊗ else_block inner) ⇒ branched)
    ∣ (terminal (Word Choose) ⊗ separated (Word Or) (block inner) ⇒ choice)
    ∣ (terminal (Word Insert) ⊗ (name ⊗ arguments inner.terms) ⇒ inserted)
    ∣ (terminal (Word Remove) ⊗ (name ⊗ arguments inner.terms) ⇒ removed)
    ∣ (terminal (Word Put) ⊗ ((name ⊗ enclosed inner.terms) ⊗ after (Sign Equal) (expr inner.terms)) ⇒ putting)
    ∣ ((name ⊗ parameters inner.terms) ⊗ after (Sign Becomes) (value inner) ⇒ assigned)

-- cmds = [cmd {";" cmd} [";"]]
abbrev pub cmds : Inner → Piece (List CommandTree)
cmds inner = listed (Sign Semicolon) (cmd inner)

-- NAME ":" a
abbrev pub named : {A : Type 0} → Piece A → Piece (Name × A)
named a = name ⊗ after (Sign Colon) a

-- plain = "relation" NAME ["(" sorts ")"] | "function" NAME ":" sorts "->" NAME | "variable" NAME ":" NAME
--       | "axiom" NAME ":" expr | "conjecture" NAME ":" expr | "init" block | "action" NAME block | "final" block
abbrev pub plain_item : Inner → Piece ItemTree
plain_item inner =
    (after (Word Relation) (name ⊗ parameters inner.terms) ⇒ λ x. node.Relation x.0 x.1)
    ∣ (after (Word Function) (named names ⊗ after (Sign Arrow) name) ⇒ λ x. node.Function x.0.0 x.0.1 x.1)
    ∣ (after (Word Variable) (named name) ⇒ λ x. node.Variable x.0 x.1)
    ∣ (after (Word Axiom) (named (expr inner.terms)) ⇒ λ x. node.Axiom x.0 x.1)
    ∣ (after (Word Conjecture) (named (expr inner.terms)) ⇒ λ x. node.Conjecture x.0 x.1)
    ∣ (terminal (Word Init) ⊗ block inner ⇒ λ x. node.Init x.0.start x.1)
    ∣ (after (Word Action) (name ⊗ block inner) ⇒ λ x. node.Action x.0 x.1)
    ∣ (terminal (Word Final) ⊗ block inner ⇒ λ x. node.Final x.0.start x.1)

-- ["=" "{" names "}"]
abbrev pub elements : Inner → Piece (List Name)
elements inner =
    optional (after (Sign Equal) (between (Sign OpenBrace) inner.terms.names (Sign CloseBrace))) ⇒ or_none

-- binders = binder {"," binder}
abbrev pub binders : Piece (List Binder)
binders = separated (Sign Comma) binder

-- ["(" binders ")"]
abbrev pub bound_parameters : Inner → Piece (List Binder)
bound_parameters inner = optional (between (Sign OpenParen) inner.binders (Sign CloseParen)) ⇒ or_none

-- definition = "define" NAME ["(" binders ")"] ":=" expr
abbrev pub definition : Inner → Piece ItemTree
definition inner =
    after (Word Define) ((name ⊗ bound_parameters inner) ⊗ after (Sign Becomes) (expr inner.terms))
    ⇒ λ x. node.Define x.0.0 x.0.1 x.1

-- in format 1: item = "sort" NAME | plain
-- in format 2: item = "sort" NAME ["=" "{" names "}"] | definition | plain
abbrev pub item : Format → Inner → Piece ItemTree
item One inner = (after (Word Sort) name ⇒ λ n. node.Sort n []) ∣ plain_item inner
item Two inner =
    (after (Word Sort) (name ⊗ elements inner) ⇒ λ x. node.Sort x.0 x.1) ∣ definition inner ∣ plain_item inner

-- file = ["rml" NUMBER] {item}
abbrev pub items : Format → Inner → Piece (List ItemTree)
items format inner =
    (after (Word Rml) (terminal kind.Number ⊗ many (item format inner)) ⇒ λ x. x.1) ∣ many (item format inner)

-- the parameters of a definition, where at most so many levels open; where no level is left, there are none
abbrev pub binders_inside : ℕ → Piece (List Binder)
binders_inside zero = nothing
binders_inside (suc n) = binders

-- and so the commands in a block
abbrev pub inside : ℕ → Piece (List CommandTree)
inside zero = nothing
inside (suc n) = cmds (record { terms = terms.level n; cmds = inside n; binders = binders_inside n })

-- the pieces in which at most so many levels open
abbrev pub level : ℕ → Inner
level n = record { terms = terms.level n; cmds = inside n; binders = binders_inside n }

-- a whole file of a format, in which at most so many levels open
abbrev pub file : Format → ℕ → Piece (List ItemTree)
file format levels = items format (level levels)

-- how many levels may open inside one another: as many as binders, each of which opens one
unfoldable pub max_levels : ℕ
max_levels = max_nesting
