-- What the crate above needs of the terms.
use Rattle.std.specs.Prelude.{ℕ, suc, true, false, List, [], ◌∷◌}
use Rattle.std.specs.List.{AllByRecursion}
use Rattle.rml_lex.specs.declared.token.Kind.{Kind}
use Rattle.rml_lex.specs.declared.token.Kind.TheVariants.{Word, Sign}
use Rattle.rml_lex.specs.declared.token.Kind.TheVariants as kind
use Rattle.rml_lex.specs.declared.token.Word.TheVariants.{Forall, Exists, True, False, Ite}
use Rattle.rml_lex.specs.declared.token.Sign.TheVariants.{DoubleArrow, Arrow, NotEqual, OpenParen, Comma, Equal}
use Rattle.rml_lex.specs.declared.token.Sign.TheVariants.{Not as Tilde, And as Ampersand, Or as Bar}
use Rattle.rml_lex.specs.Tokens.{EndsBy}
use Rattle.rml_phrases.specs.Language.{Tokens}
use Rattle.rml_phrases.specs.Good.{Good}
use Rattle.rml_phrases.specs.Ascending.{AscendBetween, starts}
use Rattle.rml_phrases.specs.Carries.{Span, Carries}
use Rattle.rml_terms.specs.declared.tree.Name.{Name}
use Rattle.rml_terms.specs.Tree.{ExprTree, exprs_of}
use Rattle.rml_terms.specs.Grammar.{name, names, parameters, enclosed, arguments, expr, level}
use Rattle.rml_terms.specs.Reading.{inners, name_at, names_at, parameters_at, enclosed_at, arguments_at, expr_at}
use Rattle.rml_terms.specs.Within.{NameWithin, NamesWithin, ExprWithin, ExprsWithin}
use Rattle.rml_terms.specs.Places.{name_places, places_of_expr, places_of_exprs}
use Rattle.rml_terms.specs.Shape.{ExprNests, ExprsNest}

-- ---- what a piece begins with, and what it may go on with

abbrev pub prim_starts : List Kind
prim_starts = Word True ∷ Word False ∷ kind.Name ∷ Word Ite ∷ Sign OpenParen ∷ []

abbrev pub unary_starts : List Kind
unary_starts = Sign Tilde ∷ prim_starts

abbrev pub expr_starts : List Kind
expr_starts = Word Forall ∷ Word Exists ∷ unary_starts

-- the kinds of token that make a whole `prim` longer: a name goes on with its arguments
abbrev pub after_prim : List Kind
after_prim = Sign OpenParen ∷ []

-- and so the kinds that make each production above it longer, which are its own sign and those of its parts
abbrev pub after_cmp : List Kind
after_cmp = Sign Equal ∷ Sign NotEqual ∷ Sign OpenParen ∷ []

abbrev pub after_and : List Kind
after_and = Sign Ampersand ∷ after_cmp

abbrev pub after_or : List Kind
after_or = Sign Bar ∷ after_and

abbrev pub after_imp : List Kind
after_imp = Sign Arrow ∷ after_or

abbrev pub after_expr : List Kind
after_expr = Sign DoubleArrow ∷ after_imp

abbrev pub after_exprs : List Kind
after_exprs = Sign Comma ∷ after_expr

-- ---- how terms are read

-- each reader reads its piece, at every number of levels
pub record AreRead : Type 0 where
  pub name : Good name_at name_at name name (kind.Name ∷ []) [] false
  pub names : Good names_at names_at names names (kind.Name ∷ []) (Sign Comma ∷ []) false
  pub parameters : (n : ℕ) → Good (parameters_at (inners n)) (parameters_at (inners (suc n)))
      (parameters (level n)) (parameters (level (suc n))) (Sign OpenParen ∷ []) (Sign OpenParen ∷ []) true
  pub enclosed : (n : ℕ) → Good (enclosed_at (inners n)) (enclosed_at (inners (suc n)))
      (enclosed (level n)) (enclosed (level (suc n))) (Sign OpenParen ∷ []) [] false
  pub arguments : (n : ℕ) → Good (arguments_at (inners n)) (arguments_at (inners (suc n)))
      (arguments (level n)) (arguments (level (suc n))) (Sign OpenParen ∷ []) (Sign OpenParen ∷ []) true
  pub expr : (n : ℕ) → Good (expr_at (inners n)) (expr_at (inners (suc n)))
      (expr (level n)) (expr (level (suc n))) expr_starts after_expr false

-- ---- what holds of terms

-- where the first holds of tokens, the others hold of the names and the terms that they spell, at so many levels
pub record OfTerms (OfTokens : Span Tokens) (OfName : Span Name) (OfNames : Span (List Name))
    (OfExpr : ℕ → Span ExprTree) (OfExprs : ℕ → Span (List ExprTree)) : Type 0 where
  pub name : Carries OfTokens name OfName
  pub names : Carries OfTokens names OfNames
  pub parameters : (m : ℕ) → Carries OfTokens (parameters (level m)) OfNames
  pub enclosed : (m : ℕ) → Carries OfTokens (enclosed (level m)) (OfExprs m)
  pub arguments : (m : ℕ) → Carries OfTokens (arguments (level m)) (OfExprs m)
  pub expr : (m : ℕ) → Carries OfTokens (expr (level m)) (OfExpr m)

-- terms whose tokens stand in n bytes stand there
abbrev pub TermsStand : ℕ → Type 0
TermsStand n = OfTerms (λ lo hi ts. AllByRecursion (EndsBy n) ts) (λ lo hi x. NameWithin n x)
    (λ lo hi xs. NamesWithin n xs) (λ m lo hi e. ExprWithin n e) (λ m lo hi es. ExprsWithin n (exprs_of es))

-- the places of terms ascend as those of their tokens do
abbrev pub TermsAscend : Type 0
TermsAscend = OfTerms (λ lo hi ts. AscendBetween lo hi (starts ts)) (λ lo hi x. AscendBetween lo hi (x.start ∷ []))
    (λ lo hi xs. AscendBetween lo hi (name_places xs)) (λ m lo hi e. AscendBetween lo hi (places_of_expr e))
    (λ m lo hi es. AscendBetween lo hi (places_of_exprs (exprs_of es)))

-- the binders of a term nest no deeper than its levels
abbrev pub TermsNest : Type 0
TermsNest = OfTerms (λ lo hi ts. Unit {0}) (λ lo hi x. Unit {0}) (λ lo hi xs. Unit {0}) (λ m lo hi e. ExprNests m e)
    (λ m lo hi es. ExprsNest m (exprs_of es))
