use Rattle.std.proofs.Common.{◌≡◌, [], ◌∷◌, ◌++◌, map, length, ap, arith}
use Rattle.std.proofs.lemmas.List.{map_push}
use Rattle.std.proofs.lemmas.Result.{err_from_is_err_and}
use Rattle.rml_lex.specs.declared.token.Kind.TheVariants.{Sign}
use Rattle.rml_lex.specs.declared.token.Sign.TheVariants.{Comma, And, Or}
use Rattle.rml_terms.specs.Tree.{expr_tree}
use Rattle.rml_terms.specs.Reading.{expr_at, unary_at, and_at, inners}
use Rattle.rml_phrases.proofs.Loop.{goes_on, ends, done}
use Rattle.rml_terms.proofs.Shorter.{expr_shorter, unary_shorter, and_shorter}
use Rattle.rml_terms.proofs.terms.+terms.Goals as goal

pub more_ands-loop-next-smaller : goal.more_ands-loop-next-smaller
more_ands-loop-next-smaller t c = omega (
  arith,
  unary_shorter c.args.levels c.in-Some.next.now _ c.in_ok-next.ensures,
  ap length c.in-Some.ensures.parts,
)

pub more_ands-loop-next-preserved : goal.more_ands-loop-next-preserved
more_ands-loop-next-preserved t c =
    let pushed : map expr_tree c.push.new.self.items ≡ map expr_tree c.loop-next.all.items ++ expr_tree
    c.in_ok-next.next ∷ [] = rw c.in_ok-push.ensures.items (map_push _ c.loop-next.all.items c.in_ok-next.next) in
    rw pushed (goes_on (Sign And) (unary_at (inners c.args.levels)) (map expr_tree c.args.all.items)
    (map expr_tree c.loop-next.all.items) c.args.tokens.now c.loop-next.rest.now c.in-Some.next.now
    (expr_tree c.in_ok-next.next) c.in_ok-next.left.now c.loop-next.invariant c.in-Some.ensures c.in_ok-next.ensures
    (unary_shorter c.args.levels c.in-Some.next.now _ c.in_ok-next.ensures))

pub more_ors-loop-next-smaller : goal.more_ors-loop-next-smaller
more_ors-loop-next-smaller t c = omega (
  arith,
  and_shorter c.args.levels c.in-Some.next.now _ c.in_ok-next.ensures,
  ap
      length c.in-Some.ensures.parts,
)

pub more_ors-loop-next-preserved : goal.more_ors-loop-next-preserved
more_ors-loop-next-preserved t c =
    let pushed : map expr_tree c.push.new.self.items ≡ map expr_tree c.loop-next.all.items ++ expr_tree
    c.in_ok-next.next ∷ [] = rw c.in_ok-push.ensures.items (map_push _ c.loop-next.all.items c.in_ok-next.next) in
    rw pushed (goes_on (Sign Or) (and_at (inners c.args.levels)) (map expr_tree c.args.all.items)
    (map expr_tree c.loop-next.all.items) c.args.tokens.now c.loop-next.rest.now c.in-Some.next.now
    (expr_tree c.in_ok-next.next) c.in_ok-next.left.now c.loop-next.invariant c.in-Some.ensures c.in_ok-next.ensures
    (and_shorter c.args.levels c.in-Some.next.now _ c.in_ok-next.ensures))

pub more_exprs-loop-next-smaller : goal.more_exprs-loop-next-smaller
more_exprs-loop-next-smaller t c = omega (
  arith,
  expr_shorter c.args.levels c.in-Some.next.now _ c.in_ok-next.ensures,
  ap length c.in-Some.ensures.parts,
)

pub more_exprs-loop-next-preserved : goal.more_exprs-loop-next-preserved
more_exprs-loop-next-preserved t c =
    let pushed : map expr_tree c.push.new.self.items ≡ map expr_tree c.loop-next.all.items ++ expr_tree
    c.in_ok-next.next ∷ [] = rw c.in_ok-push.ensures.items (map_push _ c.loop-next.all.items c.in_ok-next.next) in
    rw pushed (goes_on (Sign Comma) (expr_at (inners c.args.levels)) (map expr_tree c.args.all.items)
    (map expr_tree c.loop-next.all.items) c.args.tokens.now c.loop-next.rest.now c.in-Some.next.now
    (expr_tree c.in_ok-next.next) c.in_ok-next.left.now c.loop-next.invariant c.in-Some.ensures c.in_ok-next.ensures
    (expr_shorter c.args.levels c.in-Some.next.now _ c.in_ok-next.ensures))

pub more_ands-returns-in_err-next : goal.more_ands-returns-in_err-next
more_ands-returns-in_err-next t c =
    let p = err_from_is_err_and c.from_residual.result c.from_residual.ensures.1 in
    rw (p.1, p.2) (ends (Sign And) (unary_at (inners c.args.levels)) (map expr_tree c.args.all.items)
    (map expr_tree c.loop-next.all.items) c.args.tokens.now c.in_err-next.field-0.0 c.loop-next.rest.now
    c.in-Some.next.now c.loop-next.invariant c.in-Some.ensures c.in_err-next.ensures)

pub more_ors-returns-in_err-next : goal.more_ors-returns-in_err-next
more_ors-returns-in_err-next t c =
    let p = err_from_is_err_and c.from_residual.result c.from_residual.ensures.1 in
    rw (p.1, p.2) (ends (Sign Or) (and_at (inners c.args.levels)) (map expr_tree c.args.all.items)
    (map expr_tree c.loop-next.all.items) c.args.tokens.now c.in_err-next.field-0.0 c.loop-next.rest.now
    c.in-Some.next.now c.loop-next.invariant c.in-Some.ensures c.in_err-next.ensures)

pub more_exprs-returns-in_err-next : goal.more_exprs-returns-in_err-next
more_exprs-returns-in_err-next t c =
    let p = err_from_is_err_and c.from_residual.result c.from_residual.ensures.1 in
    rw (p.1, p.2) (ends (Sign Comma) (expr_at (inners c.args.levels)) (map expr_tree c.args.all.items)
    (map expr_tree c.loop-next.all.items) c.args.tokens.now c.in_err-next.field-0.0 c.loop-next.rest.now
    c.in-Some.next.now c.loop-next.invariant c.in-Some.ensures c.in_err-next.ensures)

pub more_ands-returns : goal.more_ands-returns
more_ands-returns t c =
    done (Sign And) (unary_at (inners c.args.levels)) (map expr_tree c.args.all.items)
    (map expr_tree c.loop-next.all.items) c.args.tokens.now c.loop-next.rest.now c.loop-next.invariant
    c.in_default.ensures

pub more_ors-returns : goal.more_ors-returns
more_ors-returns t c =
    done (Sign Or) (and_at (inners c.args.levels)) (map expr_tree c.args.all.items)
    (map expr_tree c.loop-next.all.items) c.args.tokens.now c.loop-next.rest.now c.loop-next.invariant
    c.in_default.ensures

pub more_exprs-returns : goal.more_exprs-returns
more_exprs-returns t c =
    done (Sign Comma) (expr_at (inners c.args.levels)) (map expr_tree c.args.all.items)
    (map expr_tree c.loop-next.all.items) c.args.tokens.now c.loop-next.rest.now c.loop-next.invariant
    c.in_default.ensures
