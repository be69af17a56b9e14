use Rattle.std.proofs.Common.{refl, get_or}
use Rattle.cnf_base.specs.LitSetValue.{set_of}
use Rattle.lrat_check.proofs.Search.{held_at, held_nowhere, no_span, effect_not_held, effect_always_true}
use Rattle.lrat_check.proofs.Search.{effect_of_held}
use Rattle.lrat_check.proofs.hints.effect_of_hint.Goals as goal

pub returns-in-None : goal.returns-in-None
returns-in-None c = rw (held_nowhere _ _ _ c.in-None.ensures.none) refl

pub returns-then-not-span : goal.returns-then-not-span
returns-then-not-span c =
    rw (held_at c.args.literals.now c.args.spans.now c.args.hint c.in-Some.place no_span c.requires.sorted
    c.in-Some.ensures.some.0 (c.in-Some.ensures.some.1 no_span))
    (effect_not_held (set_of c.args.set.now) c.args.literals.now
    (get_or c.args.spans.now c.in-Some.place no_span) c.if-not-span.true)

pub returns-then-span : goal.returns-then-span
returns-then-span c =
    rw (held_at c.args.literals.now c.args.spans.now c.args.hint c.in-Some.place no_span c.requires.sorted
    c.in-Some.ensures.some.0 (c.in-Some.ensures.some.1 no_span))
    (effect_always_true (set_of c.args.set.now) c.args.literals.now
    (get_or c.args.spans.now c.in-Some.place no_span) c.if-not-span.false c.if-span.true)

pub returns-else-span : goal.returns-else-span
returns-else-span c =
    rw (held_at c.args.literals.now c.args.spans.now c.args.hint c.in-Some.place no_span c.requires.sorted
    c.in-Some.ensures.some.0 (c.in-Some.ensures.some.1 no_span))
    (rw c.effect_of.ensures (effect_of_held (set_of c.args.set.now) c.args.literals.now
    (get_or c.args.spans.now c.in-Some.place no_span) c.if-not-span.false c.if-span.false))
