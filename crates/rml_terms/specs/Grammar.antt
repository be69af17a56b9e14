-- The grammar of terms: names, and expressions. A production is one definition, with its line above it; `inner` has the
-- pieces one level deeper.
use Rattle.std.specs.Prelude.{ℕ, zero, suc, Bool, true, false, List, [], ◌∷◌}
use Rattle.rml_lex.specs.declared.token.Kind.TheVariants.{Word, Sign}
use Rattle.rml_lex.specs.declared.token.Kind.TheVariants as kind
use Rattle.rml_lex.specs.declared.token.Word.TheVariants.{Forall, Exists, True, False, Ite}
use Rattle.rml_lex.specs.declared.token.Sign.TheVariants.{DoubleArrow, Arrow, NotEqual, OpenParen, CloseParen, Comma}
use Rattle.rml_lex.specs.declared.token.Sign.TheVariants.{Colon, Dot, Equal, Not as Tilde, And as Ampersand, Or as Bar}
use Rattle.rml_phrases.specs.Language.{or_none}
use Rattle.rml_phrases.specs.Piece.{Piece, nothing, terminal, opens, ◌⊗◌, ◌∣◌, ◌⇒◌, optional, placed, between, after}
use Rattle.rml_phrases.specs.Piece.{separated}
use Rattle.rml_terms.specs.declared.tree.Name.{Name}
use Rattle.rml_terms.specs.declared.tree.Binder.{Binder}
use Rattle.rml_terms.specs.declared.tree.Quantifier.TheVariants as quantifier
use Rattle.rml_terms.specs.Tree as node
use Rattle.rml_terms.specs.Tree.{ExprTree, name_of, applied, conditional, compared, negated, joined, implied}
use Rattle.rml_terms.specs.Tree.{equivalent, binder_of, quantified}

-- what lies inside one token more that opens a level; where no level is left, nothing does
pub record Inner : Type 1 where
  pub expr : Piece ExprTree
  pub three : Piece ((ExprTree × ExprTree) × ExprTree)
  pub imp : Piece ExprTree
  pub unary : Piece ExprTree
  pub bound : Piece (List Binder × ExprTree)
  pub names : Piece (List Name)
  pub exprs : Piece (List ExprTree)

-- NAME
abbrev pub name : Piece Name
name = terminal kind.Name ⇒ name_of

-- names = NAME {"," NAME}, and so sorts
abbrev pub names : Piece (List Name)
names = separated (Sign Comma) name

-- ["(" names ")"]
abbrev pub parameters : Inner → Piece (List Name)
parameters inner = optional (between (Sign OpenParen) inner.names (Sign CloseParen)) ⇒ or_none

-- "(" exprs ")"
abbrev pub enclosed : Inner → Piece (List ExprTree)
enclosed inner = between (Sign OpenParen) inner.exprs (Sign CloseParen)

-- ["(" exprs ")"]
abbrev pub arguments : Inner → Piece (List ExprTree)
arguments inner = optional (enclosed inner) ⇒ or_none

-- prim = "true" | "false" | NAME ["(" exprs ")"] | "ite" "(" expr "," expr "," expr ")" | "(" expr ")"
abbrev pub prim : Inner → Piece ExprTree
prim inner =
    (terminal (Word True) ⇒ λ t. node.True t.start)
    ∣ (terminal (Word False) ⇒ λ t. node.False t.start)
    ∣ (name ⊗ arguments inner ⇒ applied)
    ∣ (terminal (Word Ite) ⊗ between (Sign OpenParen) inner.three (Sign CloseParen) ⇒ conditional)
    ∣ between (Sign OpenParen) inner.expr (Sign CloseParen)

-- "=" | "~="
abbrev pub comparison : Piece Bool
comparison = (terminal (Sign Equal) ⇒ λ t. true) ∣ (terminal (Sign NotEqual) ⇒ λ t. false)

-- cmp = prim [("=" | "~=") prim]
abbrev pub cmp : Inner → Piece ExprTree
cmp inner = placed (prim inner ⊗ optional (comparison ⊗ prim inner)) ⇒ compared

-- unary = "~" unary | cmp
abbrev pub unary : Inner → Piece ExprTree
unary inner = (opens (Sign Tilde) inner.unary ⇒ negated) ∣ cmp inner

-- and = unary {"&" unary}
abbrev pub and : Inner → Piece ExprTree
and inner = placed (separated (Sign Ampersand) (unary inner)) ⇒ joined node.And

-- or = and {"|" and}
abbrev pub or : Inner → Piece ExprTree
or inner = placed (separated (Sign Bar) (and inner)) ⇒ joined node.Or

-- imp = or ["->" imp]
abbrev pub imp : Inner → Piece ExprTree
imp inner = placed (or inner ⊗ optional (opens (Sign Arrow) inner.imp)) ⇒ implied

-- iff = imp ["<->" imp]
abbrev pub iff : Inner → Piece ExprTree
iff inner = placed (imp inner ⊗ optional (after (Sign DoubleArrow) (imp inner))) ⇒ equivalent

-- expr = ("forall" | "exists") bound | iff
abbrev pub expr : Inner → Piece ExprTree
expr inner =
    (opens (Word Forall) inner.bound ⇒ quantified quantifier.Forall)
    ∣ (opens (Word Exists) inner.bound ⇒ quantified quantifier.Exists)
    ∣ iff inner

-- binder = NAME ":" NAME
abbrev pub binder : Piece Binder
binder = name ⊗ after (Sign Colon) name ⇒ binder_of

-- bound = binder ("." expr | "," bound): the binders of the list and its body
abbrev pub bound : Inner → Piece (List Binder × ExprTree)
bound inner =
    binder ⊗ ((after (Sign Dot) (expr inner) ⇒ λ body. ([], body)) ∣ (opens (Sign Comma) inner.bound ⇒ λ x. x.1))
    ⇒ λ x. (x.0 ∷ x.1.0, x.1.1)

-- exprs = expr {"," expr}
abbrev pub exprs : Inner → Piece (List ExprTree)
exprs inner = separated (Sign Comma) (expr inner)

-- expr "," expr "," expr
abbrev pub three : Inner → Piece ((ExprTree × ExprTree) × ExprTree)
three inner = (expr inner ⊗ after (Sign Comma) (expr inner)) ⊗ after (Sign Comma) (expr inner)

-- no level is left
abbrev pub no_inner : Inner
no_inner = record {
  expr = nothing;
  three = nothing;
  imp = nothing;
  unary = nothing;
  bound = nothing;
  names = nothing;
  exprs = nothing;
}

-- the pieces in which at most so many levels open
abbrev pub level : ℕ → Inner
level zero = no_inner
level (suc n) = record {
  expr = expr (level n);
  three = three (level n);
  imp = imp (level n);
  unary = unary (level n);
  bound = bound (level n);
  names = names;
  exprs = exprs (level n);
}
