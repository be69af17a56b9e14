-- What the functions of the parser of terms give: one reader for each production of the grammar.
use Rattle.std.specs.Prelude.{ℕ, zero, suc, Bool, true, false, List, [], ◌∷◌, Option, Some, None}
use Rattle.rml_lex.specs.declared.token.Kind.TheVariants.{Word, Sign}
use Rattle.rml_lex.specs.declared.token.Kind.TheVariants as kind
use Rattle.rml_lex.specs.declared.token.Word.TheVariants.{Forall, Exists, True, False, Ite}
use Rattle.rml_lex.specs.declared.token.Sign.TheVariants.{DoubleArrow, Arrow, NotEqual, OpenParen, CloseParen, Comma}
use Rattle.rml_lex.specs.declared.token.Sign.TheVariants.{Colon, Dot, Equal, Not as Tilde, And as Ampersand, Or as Bar}
use Rattle.rml_phrases.specs.Language.{or_none}
use Rattle.rml_phrases.specs.Reading.{Reader, expect_at, both_at, made_at, either_at, optional_at, placed_at}
use Rattle.rml_phrases.specs.Reading.{opening_at, between_at, after_at, separated_at}
use Rattle.rml_terms.specs.declared.tree.Name.{Name}
use Rattle.rml_terms.specs.declared.tree.Binder.{Binder}
use Rattle.rml_terms.specs.declared.tree.Quantifier.TheVariants as quantifier
use Rattle.rml_terms.specs.Tree as node
use Rattle.rml_terms.specs.Tree.{ExprTree, name_of, applied, conditional, compared, negated, joined, implied}
use Rattle.rml_terms.specs.Tree.{equivalent, binder_of, quantified}

-- what reads the pieces one level deeper
pub record Inners : Type 0 where
  pub expr : Reader ExprTree
  pub three : Reader ((ExprTree × ExprTree) × ExprTree)
  pub imp : Reader ExprTree
  pub unary : Reader ExprTree
  pub bound : Reader (List Binder × ExprTree)
  pub names : Reader (List Name)
  pub exprs : Reader (List ExprTree)

-- the reader of one of the pieces one level deeper, where a level is left
abbrev pub piece : {A : Type 0} → (Inners → Reader A) → Option Inners → Option (Reader A)
piece f None = None
piece f (Some r) = Some (f r)

-- NAME
abbrev pub name_at : Reader Name
name_at = made_at name_of (expect_at kind.Name)

-- NAME {"," NAME}
unfoldable pub names_at : Reader (List Name)
names_at = separated_at (Sign Comma) name_at

-- ["(" names ")"]: without parentheses, no names
unfoldable pub parameters_at : Option Inners → Reader (List Name)
parameters_at inner =
    made_at or_none
    (optional_at (Sign OpenParen ∷ []) (between_at (Sign OpenParen) (piece (λ r. r.names) inner) (Sign CloseParen)))

-- "(" exprs ")"
abbrev pub enclosed_at : Option Inners → Reader (List ExprTree)
enclosed_at inner = between_at (Sign OpenParen) (piece (λ r. r.exprs) inner) (Sign CloseParen)

-- ["(" exprs ")"]: without parentheses, no arguments
unfoldable pub arguments_at : Option Inners → Reader (List ExprTree)
arguments_at inner = made_at or_none (optional_at (Sign OpenParen ∷ []) (enclosed_at inner))

-- "true" | "false" | NAME ["(" exprs ")"] | "ite" "(" expr "," expr "," expr ")" | "(" expr ")"
unfoldable pub prim_at : Option Inners → Reader ExprTree
prim_at inner = either_at (Word True ∷ []) (made_at (λ t. node.True t.start) (expect_at (Word True)))
    (either_at (Word False ∷ []) (made_at (λ t. node.False t.start) (expect_at (Word False)))
    (either_at (kind.Name ∷ []) (made_at applied (both_at name_at (arguments_at inner)))
    (either_at (Word Ite ∷ []) (made_at conditional
    (both_at (expect_at (Word Ite)) (between_at (Sign OpenParen) (piece (λ r. r.three) inner) (Sign CloseParen))))
    (between_at (Sign OpenParen) (piece (λ r. r.expr) inner) (Sign CloseParen)))))

-- "=" | "~=": whether it is the equation
unfoldable pub comparison_at : Reader Bool
comparison_at =
    either_at (Sign Equal ∷ []) (made_at (λ t. true) (expect_at (Sign Equal)))
    (made_at (λ t. false) (expect_at (Sign NotEqual)))

-- [("=" | "~=") prim]
abbrev pub right_at : Option Inners → Reader (Option (Bool × ExprTree))
right_at inner = optional_at (Sign Equal ∷ Sign NotEqual ∷ []) (both_at comparison_at (prim_at inner))

-- prim [("=" | "~=") prim]
unfoldable pub cmp_at : Option Inners → Reader ExprTree
cmp_at inner = made_at compared (placed_at (both_at (prim_at inner) (right_at inner)))

-- "~" unary | cmp
unfoldable pub unary_at : Option Inners → Reader ExprTree
unary_at inner =
    either_at (Sign Tilde ∷ []) (made_at negated (opening_at (Sign Tilde) (piece (λ r. r.unary) inner)))
    (cmp_at inner)

-- unary {"&" unary}
unfoldable pub and_at : Option Inners → Reader ExprTree
and_at inner = made_at (joined node.And) (placed_at (separated_at (Sign Ampersand) (unary_at inner)))

-- and {"|" and}
unfoldable pub or_at : Option Inners → Reader ExprTree
or_at inner = made_at (joined node.Or) (placed_at (separated_at (Sign Bar) (and_at inner)))

-- or ["->" imp]
unfoldable pub imp_at : Option Inners → Reader ExprTree
imp_at inner =
    made_at implied
    (placed_at (both_at (or_at inner)
    (optional_at (Sign Arrow ∷ []) (opening_at (Sign Arrow) (piece (λ r. r.imp) inner)))))

-- imp ["<->" imp]
unfoldable pub iff_at : Option Inners → Reader ExprTree
iff_at inner =
    made_at equivalent
    (placed_at (both_at (imp_at inner)
    (optional_at (Sign DoubleArrow ∷ []) (after_at (Sign DoubleArrow) (imp_at inner)))))

-- ("forall" | "exists") bound | iff
unfoldable pub expr_at : Option Inners → Reader ExprTree
expr_at inner =
    either_at (Word Forall ∷ [])
    (made_at (quantified quantifier.Forall) (opening_at (Word Forall) (piece (λ r. r.bound) inner)))
    (either_at (Word Exists ∷ [])
    (made_at (quantified quantifier.Exists) (opening_at (Word Exists) (piece (λ r. r.bound) inner)))
    (iff_at inner))

-- NAME ":" NAME
unfoldable pub binder_at : Reader Binder
binder_at = made_at binder_of (both_at name_at (after_at (Sign Colon) name_at))

-- what is behind a binder
abbrev pub body_at : Option Inners → Reader (List Binder × ExprTree)
body_at inner =
    either_at (Sign Dot ∷ []) (made_at (λ body. ([], body)) (after_at (Sign Dot) (expr_at inner)))
    (made_at (λ x. x.1) (opening_at (Sign Comma) (piece (λ r. r.bound) inner)))

-- binder ("." expr | "," bound)
unfoldable pub bound_at : Option Inners → Reader (List Binder × ExprTree)
bound_at inner = made_at (λ x. (x.0 ∷ x.1.0, x.1.1)) (both_at binder_at (body_at inner))

-- expr {"," expr}
unfoldable pub exprs_at : Option Inners → Reader (List ExprTree)
exprs_at inner = separated_at (Sign Comma) (expr_at inner)

-- expr "," expr "," expr: the arguments of an `ite`
unfoldable pub three_at : Option Inners → Reader ((ExprTree × ExprTree) × ExprTree)
three_at inner =
    both_at (both_at (expr_at inner) (after_at (Sign Comma) (expr_at inner))) (after_at (Sign Comma) (expr_at inner))

-- the readers of the pieces in which so many levels may open
abbrev pub inners : ℕ → Option Inners
inners zero = None
inners (suc n) = Some (record {
  expr = expr_at (inners n);
  three = three_at (inners n);
  imp = imp_at (inners n);
  unary = unary_at (inners n);
  bound = bound_at (inners n);
  names = names_at;
  exprs = exprs_at (inners n);
})
