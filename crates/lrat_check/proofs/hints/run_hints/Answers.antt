use Rattle.std.proofs.Common.{◌≡◌, ℕ, ◌+◌, Bool, arith, sym, drop, ◌∙◌, ap}
use mathlib.Core.Path.{fun_ext}
use Rattle.cnf_base.specs.LitSetValue.{set_of}
use Rattle.lrat_log.specs.Accepted.{outcome_of_hints, also}
use Rattle.lrat_check.specs.Spans.{held_in}
use Rattle.lrat_check.proofs.Steps.{hint_sets}
use Rattle.lrat_check.proofs.hints.run_hints.Goals as goal

pub loop-hint-preserved : goal.loop-hint-preserved
loop-hint-preserved c =
    let held = held_in c.args.literals.now c.args.spans.now in
    let hints = c.args.hints.now in
    let i = c.loop-hint.hint-index in
    let one : set_of c.insert.new.self ≡ also
    (set_of c.loop-hint.set) c.in-Sets.l = fun_ext c.in_ok-insert-in-Sets.ensures.ok in
    c.loop-hint.invariant ∙ hint_sets held hints (set_of c.loop-hint.set) i c.in-Sets.l (omega arith) c.in-Sets.ensures
    ∙ ap (λ (f : ℕ → Bool). outcome_of_hints held (drop (i + 1) hints) f) (sym one)
