use Rattle.std.proofs.Common.{◌≡◌, ◌<◌, length, Option, subst, arith, rules}
use Rattle.base.specs.Lists.{SomeOf}
use Rattle.rml_houdini.specs.declared.known.Kept.{Kept}
use Rattle.rml_houdini.proofs.Sufficing.{some_at}
use Rattle.rml_houdini.proofs.known.Known.find.Goals as goal

pub returns-then-kept-conjecture : goal.returns-then-kept-conjecture
returns-then-kept-conjecture c =
    let groups = c.args.self.now.groups.items in
    let lt : c.place-place.result < length groups =
    omega (arith, c.len.ensures, c.args.self.now.groups.ok.0, c.if-place-len.false) in
    let there = some_at groups c.place-place.result c.index.result.now lt c.index.ensures in
    let same : c.in-Some.kept.stage ≡ c.args.stage = search rules in (
      same,
      c.if-kept-conjecture.true,
      subst (λ (x : Option Kept). SomeOf (λ g. g ≡ x) groups) c.in-Some.is there,
    )
