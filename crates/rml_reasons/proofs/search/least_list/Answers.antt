use Rattle.std.proofs.Common.{◌≡◌, ◌==◌, ◌<◌, ℕ, not, List, length, sym, ap, ◌∙◌, subst}
use Rattle.std.specs.List.{filter}
use Rattle.rml_command.specs.declared.goal.Head.{Head}
use Rattle.limits.specs.Ceilings.{ceilings}
use Rattle.rml_reasons.specs.Reasons.{IsReason}
use Rattle.rml_reasons.specs.Shrinking.{IsJudged}
use Rattle.rml_reasons.specs.declared.needs.Judged.TheVariants.{Superfluous}
use Rattle.rml_reasons.proofs.Sets.{without_shorter}
use Rattle.rml_reasons.proofs.Judging.{carry_less}
use Rattle.rml_reasons.proofs.search.least_list.Goals as goal

pub loop-held-smaller : goal.loop-held-smaller
loop-held-smaller c =
    let held = c.loop-held.held.items in
    let k = c.in-Superfluous.conjecture in
    let group : Head = record { stage = c.args.stage; about = c.args.about } in
    let judged : IsJudged (ceilings c.args.limits.now) c.args.checked.now group held (Superfluous k) =
    subst (λ (ks : List ℕ). IsJudged (ceilings c.args.limits.now) c.args.checked.now group ks (Superfluous k))
    c.deref.ensures.value (rw c.in-Superfluous.is at c.in_ok-needs.ensures) in
    subst (λ (l : List ℕ). length l < length held)
    (sym (c.in_ok-left-in-Superfluous.ensures
    ∙ ap (filter (λ n. not (k == n))) c.deref-in-Superfluous.ensures.value))
    (without_shorter k held judged.0)

pub loop-held-preserved : goal.loop-held-preserved
loop-held-preserved c =
    let limits = ceilings c.args.limits.now in
    let m = c.args.checked.now in
    let held = c.loop-held.held.items in
    let k = c.in-Superfluous.conjecture in
    let group : Head = record { stage = c.args.stage; about = c.args.about } in
    let judged : IsJudged limits m group held (Superfluous k) =
    subst (λ (ks : List ℕ). IsJudged limits m group ks (Superfluous k))
    c.deref.ensures.value (rw c.in-Superfluous.is at c.in_ok-needs.ensures) in
    let left : c.in_ok-left-in-Superfluous.left.items ≡ filter (λ n. not (k == n)) held =
    c.in_ok-left-in-Superfluous.ensures
    ∙ ap (filter (λ n. not (k == n))) c.deref-in-Superfluous.ensures.value in
    carry_less limits m group held k c.in_ok-left-in-Superfluous.left.items left c.loop-held.invariant
    (subst (IsReason limits m group) (sym left) judged.1)
