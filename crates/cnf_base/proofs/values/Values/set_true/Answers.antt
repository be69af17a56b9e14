use Rattle.std.proofs.Common.{◌≡◌, ℕ, ◌≤◌, false, Bool, List, length, subst, sym, ◌∙◌}
use Rattle.cnf_base.specs.Formulas.{value_of}
use Rattle.cnf_base.proofs.Truths.{length-values, still_rising, one_more}
use Rattle.cnf_base.proofs.values.Values.set_true.Goals as goal

pub invariant_of-self-2 : goal.invariant_of-self-2
invariant_of-self-2 c =
    let n = c.self.inside.variables in
    let ts = c.self.inside.trues.items in
    let few = subst (λ (vs : List Bool). c.args.variable ≤ length vs) (sym c.self.view_is) c.requires.within.1 in
    let above = subst (λ (vs : List Bool). (v : ℕ) → c.args.variable ≤ v → value_of vs v ≡ false) (sym c.self.view_is)
    c.requires.above in
    rw c.in_ok-push.ensures.items
    (still_rising n ts c.args.variable c.requires.within.0
    (subst (λ (k : ℕ). c.args.variable ≤ k) (length-values 1 n ts) few) c.self.invariant above)

pub returns-clause-len : goal.returns-clause-len
returns-clause-len c =
    rw (← c.self.view_is)
    (length-values 1 c.self.inside.variables c.push.new.self.items
    ∙ sym (length-values 1 c.self.inside.variables c.self.inside.trues.items))

pub returns-clause-ok : goal.returns-clause-ok
returns-clause-ok c v p =
    let n = c.self.inside.variables in
    let ts = c.self.inside.trues.items in
    let few = subst (λ (vs : List Bool). c.args.variable ≤ length vs) (sym c.self.view_is) c.requires.within.1 in
    rw (← c.self.view_is)
    (rw c.in_ok-push.ensures.items
    (one_more n ts c.args.variable c.requires.within.0
    (subst (λ (k : ℕ). c.args.variable ≤ k) (length-values 1 n ts) few) v p))
