use Rattle.std.proofs.Common.{◌<◌, ℕ, List, length, sym, ◌∙◌, subst}
use Rattle.std.specs.Prelude.{All}
use Rattle.limits.specs.Ceilings.{ceilings}
use Rattle.rml_reasons.specs.Reasons.{AreConjectures, IsReason}
use Rattle.rml_reasons.proofs.Sets.{all_conjectures}
use Rattle.rml_reasons.proofs.search.carried_by_all.Goals as goal

pub lack_of-requires-clause-held : goal.lack_of-requires-clause-held
lack_of-requires-clause-held c =
    let m = c.args.checked.now in
    subst (λ (ks : List ℕ). All (λ k. k < length m.conjectures) ks)
    (sym (c.deref.ensures.value ∙ c.in_ok-all.ensures)) (all_conjectures m).0

pub least_list-requires-clause-held : goal.least_list-requires-clause-held
least_list-requires-clause-held c =
    let m = c.args.checked.now in (
      subst (AreConjectures m) (sym (c.deref-in-None.ensures.value ∙ c.in_ok-all.ensures)) (all_conjectures m),
      subst (IsReason (ceilings c.args.limits.now) m (record { stage = c.args.stage; about = c.args.about }))
          (c.deref.ensures.value ∙ sym c.deref-in-None.ensures.value) (rw c.in-None.is at c.in_ok-lack.ensures),
    )
