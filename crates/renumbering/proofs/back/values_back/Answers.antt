use Rattle.std.proofs.Common.{◌≡◌, ℕ, ◌+◌, ◌-◌, ◌<◌, false, List, length, get_or, ap, arith, subst, ◌∙◌}
use Rattle.cnf_base.specs.Formulas.{value_of}
use Rattle.renumbering.proofs.Lists.{model_back}
use Rattle.renumbering.proofs.back.values_back.Goals as goal

pub returns : goal.returns
returns c =
    let f = c.args.cnf.now in
    let all = c.in_ok-all.all in
    let n : length all ≡ f.variables = c.in_ok-all.ensures.len ∙ c.variables.ensures.value in
    let same = subst (λ (ns : List ℕ). (i : ℕ) → i < length ns
    → value_of all (get_or ns i 0) ≡ value_of c.args.values.now (i + 1)) c.as_slice.ensures.value
    c.in_ok-all.ensures.value in
    model_back f c.args.dense.now.cnf c.args.dense.now.names.items c.requires.dense c.args.values.now all
    (λ i h. same i h ∙ (let e : i + 1 - 1 ≡ i = omega arith in ap (λ (k : ℕ). get_or c.args.values.now k false) e)) n
    c.requires.model
