use Rattle.std.proofs.Common.{◌+◌, ◌*◌, length}
use Rattle.rml_lex.specs.declared.token.Kind.TheVariants.{Sign}
use Rattle.rml_lex.specs.declared.token.Sign.TheVariants.{Comma, And, Or}
use Rattle.rml_terms.specs.Tree.{expr_trees}
use Rattle.rml_terms.specs.Reading.{expr_at, unary_at, and_at, inners}
use Rattle.rml_phrases.proofs.Loop.{Goes}
use Rattle.rml_terms.proofs.terms.+terms.Given as goal

abbrev pub decreases-after_name : goal.decreases-after_name
decreases-after_name l = l.levels * 32 + 0

abbrev pub decreases-ite : goal.decreases-ite
decreases-ite l = l.levels * 32 + 1

abbrev pub decreases-prim : goal.decreases-prim
decreases-prim l = l.levels * 32 + 2

abbrev pub decreases-cmp : goal.decreases-cmp
decreases-cmp l = l.levels * 32 + 3

abbrev pub decreases-unary : goal.decreases-unary
decreases-unary l = l.levels * 32 + 4

abbrev pub decreases-more_ands : goal.decreases-more_ands
decreases-more_ands l = l.levels * 32 + 5

abbrev pub decreases-and : goal.decreases-and
decreases-and l = l.levels * 32 + 6

abbrev pub decreases-more_ors : goal.decreases-more_ors
decreases-more_ors l = l.levels * 32 + 7

abbrev pub decreases-or : goal.decreases-or
decreases-or l = l.levels * 32 + 8

abbrev pub decreases-imp : goal.decreases-imp
decreases-imp l = l.levels * 32 + 9

abbrev pub decreases-iff : goal.decreases-iff
decreases-iff l = l.levels * 32 + 10

abbrev pub decreases-expr : goal.decreases-expr
decreases-expr l = l.levels * 32 + 11

abbrev pub decreases-body : goal.decreases-body
decreases-body l = l.levels * 32 + 12

abbrev pub decreases-bound : goal.decreases-bound
decreases-bound l = l.levels * 32 + 13

abbrev pub decreases-more_exprs : goal.decreases-more_exprs
decreases-more_exprs l = l.levels * 32 + 14

abbrev pub decreases-exprs : goal.decreases-exprs
decreases-exprs l = l.levels * 32 + 15

abbrev pub decreases-three : goal.decreases-three
decreases-three l = l.levels * 32 + 16

abbrev pub invariant-more_ands-loop-next : goal.invariant-more_ands-loop-next
invariant-more_ands-loop-next l =
    Goes (Sign And) (unary_at (inners l.levels)) (expr_trees l.all.items) (expr_trees l.fn.all.items) l.rest l.fn.tokens

abbrev pub decreases-more_ands-loop-next : goal.decreases-more_ands-loop-next
decreases-more_ands-loop-next l = length l.rest

abbrev pub invariant-more_ors-loop-next : goal.invariant-more_ors-loop-next
invariant-more_ors-loop-next l =
    Goes (Sign Or) (and_at (inners l.levels)) (expr_trees l.all.items) (expr_trees l.fn.all.items) l.rest l.fn.tokens

abbrev pub decreases-more_ors-loop-next : goal.decreases-more_ors-loop-next
decreases-more_ors-loop-next l = length l.rest

abbrev pub invariant-more_exprs-loop-next : goal.invariant-more_exprs-loop-next
invariant-more_exprs-loop-next l =
    Goes (Sign Comma) (expr_at (inners l.levels)) (expr_trees l.all.items) (expr_trees l.fn.all.items) l.rest
    l.fn.tokens

abbrev pub decreases-more_exprs-loop-next : goal.decreases-more_exprs-loop-next
decreases-more_exprs-loop-next l = length l.rest
