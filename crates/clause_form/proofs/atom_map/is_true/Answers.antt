use Rattle.std.proofs.Common.{◌≡◌, ℕ, ◌-◌, ◌<◌, false, get_or, ap, arith, ◌∙◌}
use Rattle.clause_form.proofs.atom_map.is_true.Goals as goal

pub returns : goal.returns
returns c =
    let some : 0 < c.max.result = omega arith in
    let same : c.max.result - 1 ≡ c.args.variable - 1 = omega arith in
    c.value.ensures.value some ∙ ap (λ (k : ℕ). get_or c.args.values.now k false) same
