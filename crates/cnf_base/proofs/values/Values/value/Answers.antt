use Rattle.std.proofs.Common.{◌≡◌, ℕ, ◌<◌, ◌≤◌, false, List, subst, refl, arith, ap, ◌∙◌}
use Rattle.cnf_base.specs.Literals.{member}
use Rattle.cnf_base.proofs.Truths.{looked_up, none_at_zero}
use Rattle.cnf_base.proofs.values.Values.value.Goals as goal

pub returns-clause-value : goal.returns-clause-value
returns-clause-value c p =
    let n = c.self.inside.variables in
    let ts = c.self.inside.trues.items in
    let most : c.args.variable ≤ n = omega arith in
    let same : c.has.result ≡ member c.args.variable ts = subst (λ (vs : List ℕ).
    c.has.result ≡ member c.args.variable vs) c.as_slice.ensures.value c.has.ensures in
    rw (← c.self.view_is)
    (looked_up n ts c.args.variable c.has.result p (λ _. same) (λ h. absurd (omega (arith, h, most))))

pub returns-clause-none : goal.returns-clause-none
returns-clause-none c e =
    let ts = c.self.inside.trues.items in
    let same : c.has.result ≡ member c.args.variable ts = subst (λ (vs : List ℕ).
    c.has.result ≡ member c.args.variable vs) c.as_slice.ensures.value c.has.ensures in
    same ∙ ap (λ (v : ℕ). member v ts) e ∙ none_at_zero c.self.inside.variables ts c.self.invariant

pub returns-then-variable-self-clause-value : goal.returns-then-variable-self-clause-value
returns-then-variable-self-clause-value c p =
    let n = c.self.inside.variables in
    let ts = c.self.inside.trues.items in
    let less : n < c.args.variable = omega arith in
    rw (← c.self.view_is)
    (looked_up n ts c.args.variable false p (λ h. absurd (omega (arith, h, less))) (λ _. refl))
