-- Each production's reader is good for its piece: the proof of a production is the production, in the words of Pieces.
use Rattle.std.proofs.Common.{ℕ, zero, suc, true, false, [], ◌∷◌, Option, refl}
use Rattle.rml_lex.specs.declared.token.Kind.{Kind}
use Rattle.rml_lex.specs.declared.token.Kind.TheVariants.{Word, Sign}
use Rattle.rml_lex.specs.declared.token.Kind.TheVariants as kind
use Rattle.rml_lex.specs.declared.token.Word.TheVariants.{Forall, Exists, True, False, Ite}
use Rattle.rml_lex.specs.declared.token.Sign.TheVariants.{DoubleArrow, Arrow, NotEqual, OpenParen, CloseParen, Comma}
use Rattle.rml_lex.specs.declared.token.Sign.TheVariants.{Colon, Dot, Equal, Not as Tilde, And as Ampersand, Or as Bar}
use Rattle.rml_phrases.specs.Language.{or_none}
use Rattle.rml_phrases.specs.Piece.{Piece, nothing, after, separated}
use Rattle.rml_phrases.specs.Good.{Some_of, Good, Inside, IsNothing}
use Rattle.rml_phrases.proofs.Exact.{some_terminal}
use Rattle.rml_phrases.proofs.Pieces.{a_terminal, both, made, with_place, either, at_most_once, opening, wider}
use Rattle.rml_phrases.proofs.Pieces.{enclosing, leading, separating, some_both, some_made, some_placed, some_left}
use Rattle.rml_phrases.proofs.Pieces.{some_right, no_optional, no_many}
use Rattle.rml_terms.specs.declared.tree.Quantifier.TheVariants as quantifier
use Rattle.rml_terms.specs.Tree as node
use Rattle.rml_terms.specs.Tree.{name_of, applied, conditional, compared, negated, joined, implied, equivalent}
use Rattle.rml_terms.specs.Tree.{binder_of, quantified}
use Rattle.rml_terms.specs.Grammar as g
use Rattle.rml_terms.specs.Grammar.{Inner, level, no_inner}
use Rattle.rml_terms.specs.Reading.{Inners, piece, inners, name_at, names_at, parameters_at, binder_at, enclosed_at}
use Rattle.rml_terms.specs.Reading.{arguments_at, prim_at, comparison_at, cmp_at, unary_at, and_at, or_at, imp_at}
use Rattle.rml_terms.specs.Reading.{iff_at, expr_at, bound_at, exprs_at, three_at}
use Rattle.rml_terms.specs.Laws.{prim_starts, unary_starts, expr_starts, after_prim, after_cmp, after_and, after_or}
use Rattle.rml_terms.specs.Laws.{after_imp, after_expr, after_exprs, AreRead}

-- ---- what is one level deeper

pub record Deeper (o r : Option Inners) (I J : Inner) : Type 0 where
  pub expr : Inside (piece (λ x. x.expr) o) (piece (λ x. x.expr) r) I.expr J.expr expr_starts after_expr false
  pub three : Inside (piece (λ x. x.three) o) (piece (λ x. x.three) r) I.three J.three expr_starts after_expr false
  pub imp : Inside (piece (λ x. x.imp) o) (piece (λ x. x.imp) r) I.imp J.imp unary_starts after_imp false
  pub unary : Inside (piece (λ x. x.unary) o) (piece (λ x. x.unary) r) I.unary J.unary unary_starts after_cmp false
  pub bound : Inside (piece (λ x. x.bound) o) (piece (λ x. x.bound) r) I.bound J.bound (kind.Name ∷ []) after_expr false
  pub names : Inside (piece (λ x. x.names) o) (piece (λ x. x.names) r) I.names J.names (kind.Name ∷ [])
      (Sign Comma ∷ []) false
  pub exprs : Inside (piece (λ x. x.exprs) o) (piece (λ x. x.exprs) r) I.exprs J.exprs expr_starts after_exprs false

-- ---- the productions

pub name_good : Good name_at name_at g.name g.name (kind.Name ∷ []) [] false
name_good = made name_of (a_terminal kind.Name)

pub names_good : Good names_at names_at g.names g.names (kind.Name ∷ []) (Sign Comma ∷ []) false
unfolding names_at
names_good = separating (Sign Comma) name_good refl

pub binder_good : Good binder_at binder_at g.binder g.binder (kind.Name ∷ []) [] false
unfolding binder_at
binder_good = made binder_of (both name_good (leading (Sign Colon) name_good) refl)

comparison_good : Good comparison_at comparison_at g.comparison g.comparison (Sign Equal ∷ Sign NotEqual ∷ []) [] false
unfolding comparison_at
comparison_good = either (made (λ t. true) (a_terminal (Sign Equal))) (made (λ t. false) (a_terminal (Sign NotEqual)))
    refl

module _ (o r : Option Inners) (I J : Inner) (d : Deeper o r I J) where
  pub parameters_good : Good (parameters_at o) (parameters_at r) (g.parameters I) (g.parameters J)
      (Sign OpenParen ∷ []) (Sign OpenParen ∷ []) true
  unfolding parameters_at
  parameters_good = made or_none (at_most_once (enclosing (Sign OpenParen) (Sign CloseParen) d.names refl))

  enclosed_good : Good (enclosed_at o) (enclosed_at r) (g.enclosed I) (g.enclosed J) (Sign OpenParen ∷ []) [] false
  enclosed_good = enclosing (Sign OpenParen) (Sign CloseParen) d.exprs refl

  pub arguments_good : Good (arguments_at o) (arguments_at r) (g.arguments I) (g.arguments J) (Sign OpenParen ∷ [])
      (Sign OpenParen ∷ []) true
  unfolding arguments_at
  arguments_good = made or_none (at_most_once enclosed_good)

  pub prim_good : Good (prim_at o) (prim_at r) (g.prim I) (g.prim J) prim_starts after_prim false
  unfolding prim_at
  prim_good =
      either (made (λ t. node.True t.start) (a_terminal (Word True)))
      (either (made (λ t. node.False t.start) (a_terminal (Word False)))
      (either (made applied (both name_good arguments_good refl))
      (either (made conditional (both (a_terminal (Word Ite))
      (enclosing (Sign OpenParen) (Sign CloseParen) d.three refl) refl))
      (enclosing (Sign OpenParen) (Sign CloseParen) d.expr refl) refl) refl) refl) refl

  pub cmp_good : Good (cmp_at o) (cmp_at r) (g.cmp I) (g.cmp J) prim_starts after_cmp false
  unfolding cmp_at
  cmp_good = wider (made compared (with_place
      (both prim_good (at_most_once (both comparison_good prim_good refl)) refl))) refl

  pub unary_good : Good (unary_at o) (unary_at r) (g.unary I) (g.unary J) unary_starts after_cmp false
  unfolding unary_at
  unary_good = wider (either (made negated (opening (Sign Tilde) d.unary)) cmp_good refl) refl

  pub and_good : Good (and_at o) (and_at r) (g.and I) (g.and J) unary_starts after_and false
  unfolding and_at
  and_good = wider (made (joined node.And) (with_place (separating (Sign Ampersand) unary_good refl))) refl

  pub or_good : Good (or_at o) (or_at r) (g.or I) (g.or J) unary_starts after_or false
  unfolding or_at
  or_good = wider (made (joined node.Or) (with_place (separating (Sign Bar) and_good refl))) refl

  pub imp_good : Good (imp_at o) (imp_at r) (g.imp I) (g.imp J) unary_starts after_imp false
  unfolding imp_at
  imp_good = wider (made implied (with_place (both or_good (at_most_once (opening (Sign Arrow) d.imp)) refl))) refl

  pub iff_good : Good (iff_at o) (iff_at r) (g.iff I) (g.iff J) unary_starts after_expr false
  unfolding iff_at
  iff_good = wider (made equivalent (with_place
      (both imp_good (at_most_once (leading (Sign DoubleArrow) imp_good)) refl))) refl

  pub expr_good : Good (expr_at o) (expr_at r) (g.expr I) (g.expr J) expr_starts after_expr false
  unfolding expr_at
  expr_good =
      wider (either (made (quantified quantifier.Forall) (opening (Word Forall) d.bound))
      (either (made (quantified quantifier.Exists) (opening (Word Exists) d.bound)) iff_good refl) refl) refl

  pub bound_good : Good (bound_at o) (bound_at r) (g.bound I) (g.bound J) (kind.Name ∷ []) after_expr false
  unfolding bound_at
  bound_good =
      wider (made (λ x. (x.0 ∷ x.1.0, x.1.1)) (both binder_good
      (either (made (λ body. ([], body)) (leading (Sign Dot) expr_good))
      (made (λ x. x.1) (opening (Sign Comma) d.bound)) refl) refl)) refl

  pub exprs_good : Good (exprs_at o) (exprs_at r) (g.exprs I) (g.exprs J) expr_starts after_exprs false
  unfolding exprs_at
  exprs_good = wider (separating (Sign Comma) expr_good refl) refl

  pub three_good : Good (three_at o) (three_at r) (g.three I) (g.three J) expr_starts after_expr false
  unfolding three_at
  three_good = both (both expr_good (leading (Sign Comma) expr_good) refl) (leading (Sign Comma) expr_good) refl

-- ---- some phrase of each

some_name : Some_of g.name.whole
some_name = some_made name_of (some_terminal kind.Name)

some_after : {A : Type 0} (k : Kind) (a : Piece A) → Some_of a.whole → Some_of (after k a).whole
some_after k a s = some_made (λ x. x.1) (some_both (some_terminal k) s)

some_separated : {A : Type 0} (k : Kind) (a : Piece A) → Some_of a.whole → Some_of (separated k a).whole
some_separated k a s = some_made (λ x. x.0 ∷ x.1) (some_both s (no_many (after k a).whole))

some_prim : (I : Inner) → Some_of (g.prim I).whole
some_prim I = some_left _ (some_made (λ t. node.True t.start) (some_terminal (Word True)))

some_cmp : (I : Inner) → Some_of (g.cmp I).whole
some_cmp I = some_made compared (some_placed (some_both (some_prim I) (no_optional _)))

some_unary : (I : Inner) → Some_of (g.unary I).whole
some_unary I = some_right _ (some_cmp I)

some_and : (I : Inner) → Some_of (g.and I).whole
some_and I = some_made (joined node.And) (some_placed (some_separated (Sign Ampersand) (g.unary I) (some_unary I)))

some_or : (I : Inner) → Some_of (g.or I).whole
some_or I = some_made (joined node.Or) (some_placed (some_separated (Sign Bar) (g.and I) (some_and I)))

some_imp : (I : Inner) → Some_of (g.imp I).whole
some_imp I = some_made implied (some_placed (some_both (some_or I) (no_optional _)))

some_iff : (I : Inner) → Some_of (g.iff I).whole
some_iff I = some_made equivalent (some_placed (some_both (some_imp I) (no_optional _)))

some_expr : (I : Inner) → Some_of (g.expr I).whole
some_expr I = some_right _ (some_right _ (some_iff I))

some_three : (I : Inner) → Some_of (g.three I).whole
some_three I = some_both (some_both (some_expr I) (some_after (Sign Comma) (g.expr I) (some_expr I)))
    (some_after (Sign Comma) (g.expr I) (some_expr I))

some_binder : Some_of g.binder.whole
some_binder = some_made binder_of (some_both some_name (some_after (Sign Colon) g.name some_name))

some_bound : (I : Inner) → Some_of (g.bound I).whole
some_bound I = some_made (λ x. (x.0 ∷ x.1.0, x.1.1))
    (some_both some_binder (some_left _ (some_made (λ body. ([], body))
    (some_after (Sign Dot) (g.expr I) (some_expr I)))))

-- ---- every level

is_nothing : {A : Type 0} → IsNothing (nothing {A = A})
is_nothing = record { whole = λ ts x h. h; front = λ ts h. h }

pub deeper : (n : ℕ) → Deeper (inners n) (inners (suc n)) (level n) (level (suc n))
deeper zero = record {
  expr = record { held = (is_nothing, some_expr no_inner) };
  three = record { held = (is_nothing, some_three no_inner) };
  imp = record { held = (is_nothing, some_imp no_inner) };
  unary = record { held = (is_nothing, some_unary no_inner) };
  bound = record { held = (is_nothing, some_bound no_inner) };
  names = record { held = (is_nothing, some_separated (Sign Comma) g.name some_name) };
  exprs = record { held = (is_nothing, some_separated (Sign Comma) (g.expr no_inner) (some_expr no_inner)) };
}
deeper (suc n) = record {
  expr = record { held = expr_good _ _ _ _ (deeper n) };
  three = record { held = three_good _ _ _ _ (deeper n) };
  imp = record { held = imp_good _ _ _ _ (deeper n) };
  unary = record { held = unary_good _ _ _ _ (deeper n) };
  bound = record { held = bound_good _ _ _ _ (deeper n) };
  names = record { held = names_good };
  exprs = record { held = exprs_good _ _ _ _ (deeper n) };
}

pub are_read : AreRead
are_read = record {
  name = name_good;
  names = names_good;
  parameters = λ n. parameters_good _ _ _ _ (deeper n);
  enclosed = λ n. enclosed_good _ _ _ _ (deeper n);
  arguments = λ n. arguments_good _ _ _ _ (deeper n);
  expr = λ n. expr_good _ _ _ _ (deeper n);
}
