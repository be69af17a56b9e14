use Rattle.std.proofs.Common.{◌≡◌, true, false, sym, subst, ap, ◌∙◌, ◌+◌, drop, arith}
use Rattle.std.proofs.lemmas.Grind.{common_steps}
use Rattle.rml_lex.specs.declared.token.Kind.TheVariants as kind
use Rattle.expectations.specs.Expectations.{MayStand}
use Rattle.expectations.proofs.Chosen.{GoesOn, found, passed, ended}
use Rattle.expectations.proofs.trying.those_of.Goals as goal
use Rattle.expectations.proofs.trying.those_of.Goals.{then-branch+in_ok-push, else-branch}

pub loop-kind-init : goal.loop-kind-init
loop-kind-init c = λ those are. rw c.new-those.ensures.items are

pub loop-kind-preserved : goal.loop-kind-preserved
loop-kind-preserved c =
    let may = c.in_ok-may_stand.ensures in
    let all = c.args.all.now in
    let may_stand = MayStand c.args.text.now c.args.front.now in
    let i = c.loop-kind.kind-index in
    elim c.if-branch.branch [
      | then-branch+in_ok-push w ↦
          found may_stand all c.loop-kind.those.items i kind.Name c.loop-kind-test.true
          c.loop-kind.invariant (may.0 w.if-branch.true) c.if-branch.those.items
          (ap (λ v. v.items) w.those-is ∙ w.in_ok-push.ensures.items)
      | else-branch w ↦
          subst (λ v. GoesOn may_stand all v.items (drop (i + 1) all))
          (sym w.those-is)
          (passed may_stand all c.loop-kind.those.items i kind.Name
          c.loop-kind-test.true c.loop-kind.invariant
          (λ m. let both : true ≡ false = sym (may.1 m) ∙ w.if-branch.false in cc))
    ]

pub returns : goal.returns
returns c =
    ended (MayStand c.args.text.now c.args.front.now) c.args.all.now c.loop-kind.those.items
    (drop c.loop-kind.kind-index c.args.all.now) (grind (arith, common_steps, c.loop-kind-test.false))
    c.loop-kind.invariant
