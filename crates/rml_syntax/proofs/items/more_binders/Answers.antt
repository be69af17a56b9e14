use Rattle.std.proofs.Common.{ap, length, arith}
use Rattle.std.proofs.lemmas.Result.{err_from_is_err_and}
use Rattle.rml_lex.specs.declared.token.Kind.TheVariants.{Sign}
use Rattle.rml_lex.specs.declared.token.Sign.TheVariants.{Comma}
use Rattle.rml_terms.specs.Reading.{binder_at}
use Rattle.rml_phrases.proofs.Loop.{goes_on, ends, done}
use Rattle.rml_syntax.proofs.Shorter.{binder_shorter}
use Rattle.rml_syntax.proofs.items.more_binders.Goals as goal

pub loop-next-smaller : goal.loop-next-smaller
loop-next-smaller c = omega (
  arith,
  binder_shorter c.in-Some.next.now _ c.in_ok-next.ensures,
  ap length
      c.in-Some.ensures.parts,
)

pub loop-next-preserved : goal.loop-next-preserved
loop-next-preserved c =
    rw c.in_ok-push.ensures.items (goes_on (Sign Comma) binder_at c.args.all.items c.loop-next.all.items
    c.args.tokens.now c.loop-next.rest.now c.in-Some.next.now c.in_ok-next.next c.in_ok-next.left.now
    c.loop-next.invariant c.in-Some.ensures c.in_ok-next.ensures
    (binder_shorter c.in-Some.next.now _ c.in_ok-next.ensures))

pub returns-in_err-next : goal.returns-in_err-next
returns-in_err-next c =
    let p = err_from_is_err_and c.from_residual.result c.from_residual.ensures.1 in
    rw (p.1, p.2) (ends (Sign Comma) binder_at c.args.all.items c.loop-next.all.items c.args.tokens.now
    c.in_err-next.field-0.0 c.loop-next.rest.now c.in-Some.next.now c.loop-next.invariant c.in-Some.ensures
    c.in_err-next.ensures)

pub returns : goal.returns
returns c = done (Sign Comma) binder_at c.args.all.items c.loop-next.all.items c.args.tokens.now c.loop-next.rest.now
    c.loop-next.invariant c.in_default.ensures
