use Rattle.std.proofs.Common.{◌≡◌, [], ◌∷◌, ◌++◌, sym, ◌∙◌, arith}
use Rattle.std.proofs.lemmas.List.{map_push}
use Rattle.std.proofs.lemmas.Result.{err_from_is_err_and}
use Rattle.rml_syntax.specs.Tree.{item_tree, item_trees}
use Rattle.rml_syntax.specs.Reading.{item_at, item_starts, inners}
use Rattle.rml_phrases.proofs.Runs.{run_begins, run_goes_on, run_ends, run_done}
use Rattle.rml_syntax.proofs.Shorter.{item_shorter}
use Rattle.rml_syntax.proofs.items.all_items.Goals as goal

pub loop-alloc-init : goal.loop-alloc-init
loop-alloc-init c =
    rw c.new-all.ensures.items (run_begins (item_starts c.args.format)
    (item_at c.args.format (inners c.args.levels)) c.args.tokens.now)

pub loop-alloc-smaller : goal.loop-alloc-smaller
loop-alloc-smaller c = omega (
  arith,
  item_shorter c.terms_are_read.ensures c.args.levels c.args.format c.loop-alloc.rest.now _ c.in_ok-next.ensures,
)

pub loop-alloc-preserved : goal.loop-alloc-preserved
loop-alloc-preserved c =
    let pushed : item_trees c.push.new.self.items ≡ item_trees c.loop-alloc.all.items ++ item_tree c.in_ok-next.next ∷
    [] = rw c.in_ok-push.ensures.items (map_push _ c.loop-alloc.all.items c.in_ok-next.next) in
    rw pushed (run_goes_on (item_starts c.args.format) (item_at c.args.format (inners c.args.levels))
    (item_trees c.loop-alloc.all.items) c.loop-alloc.rest.now c.args.tokens.now c.loop-alloc.invariant
    (item_tree c.in_ok-next.next) c.in_ok-next.left.now
    (sym c.begins_item.ensures ∙ c.loop-alloc-test.true) c.in_ok-next.ensures
    (item_shorter c.terms_are_read.ensures c.args.levels c.args.format c.loop-alloc.rest.now _ c.in_ok-next.ensures))

pub returns-in_err-next : goal.returns-in_err-next
returns-in_err-next c =
    let p = err_from_is_err_and c.from_residual.result c.from_residual.ensures.1 in
    rw (p.1, p.2) (run_ends (item_starts c.args.format) (item_at c.args.format (inners c.args.levels))
    (item_trees c.loop-alloc.all.items) c.loop-alloc.rest.now c.args.tokens.now c.loop-alloc.invariant
    c.in_err-next.field-0.0
    (sym c.begins_item.ensures ∙ c.loop-alloc-test.true) c.in_err-next.ensures)

pub returns : goal.returns
returns c = run_done (item_starts c.args.format) (item_at c.args.format (inners c.args.levels))
    (item_trees c.loop-alloc.all.items) c.loop-alloc.rest.now c.args.tokens.now c.loop-alloc.invariant
    (sym c.begins_item.ensures ∙ c.loop-alloc-test.false)
