use Rattle.std.proofs.Common.{◌≡◌, ◌==◌, ◌<◌, ℕ, not, List, length, sym, ap, ◌∙◌, subst}
use Rattle.std.specs.Prelude.{All}
use Rattle.std.specs.List.{filter}
use Rattle.limits.specs.Ceilings.{ceilings}
use Rattle.rml_reasons.specs.Reasons.{IsReason}
use Rattle.rml_reasons.proofs.Sets.{fewer_below}
use Rattle.rml_reasons.proofs.Judging.{carry_less}
use Rattle.rml_reasons.proofs.search.try_without.Goals as goal

pub carries-requires-clause-held : goal.carries-requires-clause-held
carries-requires-clause-held c =
    let most = length c.args.checked.now.conjectures in
    subst (λ (ks : List ℕ). All (λ k. k < most) ks)
    (sym (c.deref-2.ensures.value ∙ c.in_ok-fewer.ensures
    ∙ ap (filter (λ n. not (c.args.conjecture == n))) c.deref.ensures.value))
    (fewer_below most c.args.conjecture c.args.held.items c.requires.held.0.0)

pub returns-then-branch : goal.returns-then-branch
returns-then-branch c =
    let limits = ceilings c.args.limits.now in
    let m = c.args.checked.now in
    carry_less limits m (record { stage = c.args.stage; about = c.args.about }) c.args.held.items c.args.conjecture
    c.in_ok-fewer.fewer.items
    (c.in_ok-fewer.ensures ∙ ap (filter (λ n. not (c.args.conjecture == n))) c.deref.ensures.value) c.requires.held
    (subst (IsReason limits m (record { stage = c.args.stage; about = c.args.about })) c.deref-2.ensures.value
    (c.in_ok-carries.ensures c.if-branch.true))
