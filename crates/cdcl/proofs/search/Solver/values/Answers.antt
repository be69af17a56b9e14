use Rattle.std.proofs.Common.{◌≡◌, arith, ◌∙◌}
use Rattle.cdcl.proofs.Values.{model}
use Rattle.cdcl.proofs.search.Solver.values.Goals as goal

pub returns : goal.returns
returns c =
    let f = c.args.cnf.now in
    let s = c.self.inside.search in
    let v = c.in_ok-values.ensures in
    let n : c.variables.result ≡ f.variables = c.variables.ensures.value in
    model f s c.requires.logged.0 c.in_ok-values.values c.self.invariant (rw c.self.view_is c.requires.drawn)
    (rw c.self.view_is c.requires.set) (rw c.self.view_is c.requires.logged.1) (v.len ∙ n)
    (λ i p h b. v.values i p (let m = n in omega arith) b)
