use Rattle.std.proofs.Common.{◌≡◌, ◌<◌, ℕ, List, length, sym, ◌∙◌, subst}
use Rattle.std.specs.Prelude.{All}
use Rattle.limits.specs.Ceilings.{ceilings}
use Rattle.rml_reasons.specs.Reasons.{IsReason}
use Rattle.rml_reasons.proofs.Sets.{fewer_below, has_at}
use Rattle.rml_reasons.proofs.needs.judge.Goals as goal

pub lack_of-requires-clause-held : goal.lack_of-requires-clause-held
lack_of-requires-clause-held c =
    let most = length c.args.checked.now.conjectures in
    subst (λ (ks : List ℕ). All (λ k. k < most) ks) (sym (c.deref.ensures.value ∙ c.in_ok-fewer.ensures))
    (fewer_below most _ c.args.held.now c.requires.held)

pub returns-in-None : goal.returns-in-None
returns-in-None c = (
  has_at c.args.held.now c.loop-k.k-index 0 c.loop-k-test.true,
  subst (IsReason (ceilings c.args.limits.now) c.args.checked.now
      (record { stage = c.args.stage; about = c.args.about })) (c.deref.ensures.value ∙ c.in_ok-fewer.ensures)
      (rw c.in-None.is at c.in_ok-lack_of.ensures),
)
