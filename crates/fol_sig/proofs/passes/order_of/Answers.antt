use Rattle.std.proofs.Common.{◌≡◌, ◌<◌, ℕ, Bool, arith, length, true, false, refl, sym, subst, ◌∙◌}
use Rattle.std.proofs.lemmas.Bool.{false≢true}
use mathlib.Core.Bool.{beq}
use Rattle.fol_sig.specs.Tables.{numbers}
use Rattle.fol_sig.specs.Symbols.{symbols}
use Rattle.fol_sig.specs.Strata.{with_functions, IsStrata}
use Rattle.fol_sig.specs.Passes.{is_set, Advances, AreWaiting, IsSoFar}
use Rattle.fol_sig.proofs.Orders.{so_far-all}
use Rattle.fol_sig.proofs.Cycles.{order_has_no_cycle}
use Rattle.fol_sig.proofs.Waiting.{stuck_order, sorted-first}
use Rattle.fol_sig.proofs.passes.order_of.Goals as goal

is_false : (b : Bool) → beq b false ≡ true → b ≡ false
is_false true e = absurd (false≢true e)
is_false false e = refl

is_true : (b : Bool) → beq b false ≡ false → b ≡ true
is_true true e = refl
is_true false e = absurd (false≢true (sym e))

pub returns-then-contains : goal.returns-then-contains
returns-then-contains c =
    let sig = with_functions (symbols c.args.signature.now) c.args.functions in
    let placed = c.loop-order.placed.items in
    let waits = c.in_ok-waits.waits.items in
    let new = c.place_free.new.placed.items in
    let w = c.if-contains.ensures.cases in
    let seen = c.deref-then-not-branch.ensures.value in
    let missing : is_set c.deref-then-not-branch.result.now w.0 ≡ false =
    is_false (is_set c.deref-then-not-branch.result.now w.0) (w.2 false) in
    let stopped : Advances waits placed new c.in_ok-place_free.field-0 =
    subst (λ ws. Advances ws placed new c.in_ok-place_free.field-0) c.deref-in-loop-order.ensures.value
    c.in_ok-place_free.ensures.advances in
    let none : c.in_ok-place_free.field-0 ≡ false = c.if-not-branch.true in
    let a : Advances waits placed new false = subst (Advances waits placed new) none stopped in
    let h : AreWaiting sig placed waits =
    subst (λ ps. AreWaiting sig ps waits) c.deref.ensures.value c.in_ok-waits.ensures in
    stuck_order sig placed waits w.0
    (sorted-first (symbols c.args.signature.now) c.args.functions c.requires c.sorts.ensures.sorted)
    c.loop-order.invariant.each h
    (λ k lt free. subst (λ ps. is_set ps k ≡ true) a.0 (a.1 k lt free))
    (subst (λ ps. w.0 < length ps) (seen ∙ a.0) w.1) (subst (λ ps. is_set ps w.0 ≡ false) (seen ∙ a.0) missing)

pub returns-then-not-branch : goal.returns-then-not-branch
returns-then-not-branch c =
    let sig = with_functions (symbols c.args.signature.now) c.args.functions in
    let placed = c.loop-order.placed.items in
    let new = c.place_free.new.placed.items in
    let order = numbers c.place_free.new.order.items in
    let each = c.if-contains.ensures.cases in
    let h : AreWaiting sig placed c.deref-in-loop-order.result.now =
    subst (AreWaiting sig placed) (sym c.deref-in-loop-order.ensures.value)
    (subst (λ ps. AreWaiting sig ps c.in_ok-waits.waits.items) c.deref.ensures.value c.in_ok-waits.ensures) in
    let after : IsSoFar sig new order = c.in_ok-place_free.ensures.so_far sig h c.loop-order.invariant in
    let every : (k : ℕ) → k < sig.sorts → is_set new k ≡ true = λ k lt.
    let inside : k < length c.deref-then-not-branch.result.now =
    subst (λ ps. k < length ps) (sym c.deref-then-not-branch.ensures.value)
    (subst (λ n. k < n) (sym after.each) lt) in
    subst (λ ps. is_set ps k ≡ true) c.deref-then-not-branch.ensures.value
    (is_true (is_set c.deref-then-not-branch.result.now k) (each k false (omega arith) inside)) in
    let strata : IsStrata sig order = so_far-all sig new order after every in (
      strata,
      λ f. order_has_no_cycle sig order f
          (sorted-first (symbols c.args.signature.now) c.args.functions c.requires c.sorts.ensures.sorted) strata,
    )
