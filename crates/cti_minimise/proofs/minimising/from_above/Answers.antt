use Rattle.std.proofs.Common.{◌≡◌, ◌+◌, ◌-◌, ◌<◌, ℕ, true, List, [], ◌∷◌, ◌++◌, length, take, get_or, ap, ◌∙◌}
use Rattle.std.proofs.Common.{subst, arith}
use Rattle.std.proofs.lemmas.Grind.{get_or_default_zero}
use Rattle.rml_command.specs.Models.{ModelTree}
use Rattle.fol_formula.specs.Sentences.{satisfies}
use Rattle.obligation_decide.specs.Restricted.{HasNoneWhere}
use Rattle.cti_minimise.specs.Bounding.{bounds_on}
use Rattle.cti_minimise.specs.Extents.{extent, lowest}
use Rattle.cti_minimise.specs.Minimal.{AreLeast}
use Rattle.cti_minimise.specs.Steps.{AllPassAt, limits_of}
use Rattle.cti_minimise.proofs.Extending.{length-extent}
use Rattle.cti_minimise.proofs.Searching.{before-stays, up-to-all, lowest-le}
use Rattle.cti_minimise.proofs.Tried.{Pass, least-lowest, least-above}
use Rattle.cti_minimise.proofs.minimising.from_above.Goals as goal

pub returns-then-number-lowest : goal.returns-then-number-lowest
returns-then-number-lowest c =
    let limits = limits_of c.args.trials.now in
    let m = c.args.trials.now.checked.now in
    let s = c.loop-turn.found.structure in
    let place = c.args.place in
    let failing = c.loop-turn.invariant.0 in
    let fits = failing.refutes.structure in
    let known = c.requires.place in
    let count = length-extent m.signature s fits in
    let lt : place < length (extent s) = omega (arith, count, known) in
    let same = c.signature-signature.ensures.value ∙ ap (λ (n : ModelTree). n.signature) c.model.ensures.value in
    let first = c.lowest-lowest.ensures ∙ ap (λ sig. lowest sig place) same in
    let some = lowest-le m.signature s fits place in
    let number = ap (λ (ns : List ℕ). get_or ns place 0) c.in_ok-numbers.ensures in
    let le = c.if-number-lowest.true in
    let ns = c.in_ok-numbers.numbers.items in
    let length-same = ap (λ (xs : List ℕ). length xs) c.in_ok-numbers.ensures in
    let inside : place < length ns = omega (arith, lt, length-same) in
    let at = c.index-number.ensures ∙ get_or_default_zero ns place c.index-number.result.now inside in
    let last : lowest m.signature place ≡ get_or (extent s) place 0 = omega (arith, some, first, number, le, at) in (
      failing,
      subst (AreLeast limits m c.args.trials.now.goal.now)
          (up-to-all (extent s) place (lowest m.signature place) lt last)
          (least-lowest limits m c.args.trials.now.goal.now (c.bound_law.ensures.bounds m.signature) s place known fits
          c.loop-turn.invariant.1),
    )

pub returns-then-branch : goal.returns-then-branch
returns-then-branch c =
    let limits = limits_of c.args.trials.now in
    let m = c.args.trials.now.checked.now in
    let s = c.loop-turn.found.structure in
    let place = c.args.place in
    let failing = c.loop-turn.invariant.0 in
    let fits = failing.refutes.structure in
    let known = c.requires.place in
    let count = length-extent m.signature s fits in
    let lt : place < length (extent s) = omega (arith, count, known) in
    let number = ap (λ (ns : List ℕ). get_or ns place 0) c.in_ok-numbers.ensures in
    let most = c.index-number.result.now - 1 in
    let more = c.if-number-lowest.false in
    let ns = c.in_ok-numbers.numbers.items in
    let length-same = ap (λ (xs : List ℕ). length xs) c.in_ok-numbers.ensures in
    let inside : place < length ns = omega (arith, lt, length-same) in
    let at = c.index-number.ensures ∙ get_or_default_zero ns place c.index-number.result.now inside in
    let last : most + 1 ≡ get_or (extent s) place 0 = omega (arith, number, more, at) in
    let is = rw c.in-Refuted.is at c.in_ok-try_short.ensures in
    let same-numbers = c.deref.ensures.value ∙ c.in_ok-numbers.ensures in
    let pass = subst (λ (all : List ℕ). Pass limits m c.args.trials.now.goal.now (take place all ++ most ∷ []))
    same-numbers is.0 in
    let same = c.signature-signature.ensures.value ∙ ap (λ (n : ModelTree). n.signature) c.model.ensures.value in
    let first = c.lowest-lowest.ensures ∙ ap (λ sig. lowest sig place) same in
    let lower = subst (λ (all : List ℕ). AllPassAt c.args.trials.now all place c.lowest-lowest.result most) same-numbers
    (c.in_ok-pass_below-in-Refuted.ensures c.if-branch.true) in
    let none = subst
    (λ (all : List ℕ). HasNoneWhere m (bounds_on m.signature (take place all ++ most ∷ [])) c.args.trials.now.goal.now)
    same-numbers is.1 in (
      failing,
      subst (AreLeast limits m c.args.trials.now.goal.now) (up-to-all (extent s) place (most + 1) lt last)
          (least-above limits m c.args.trials.now.goal.now (c.bound_law.ensures.bounds m.signature) s place known fits
          c.loop-turn.invariant.1 most pass none (λ k least below. lower k (omega (arith, least, first)) below)),
    )

pub loop-turn-preserved : goal.loop-turn-preserved
loop-turn-preserved c =
    let limits = limits_of c.args.trials.now in
    let m = c.args.trials.now.checked.now in
    let s = c.loop-turn.found.structure in
    let place = c.args.place in
    let is = (rw c.in-Found.is at c.in_ok-try_short.ensures).1 in
    let most = c.index-number.result.now - 1 in
    let lawful = subst
    (λ (all : List ℕ).
    satisfies c.in-Found.smaller.structure (bounds_on m.signature (take place all ++ most ∷ [])) ≡ true)
    (c.deref.ensures.value ∙ c.in_ok-numbers.ensures) is.1 in (
      is.0,
      subst (AreLeast limits m c.args.trials.now.goal.now)
          (before-stays m c.args.trials.now.goal.now (c.bound_law.ensures.bounds m.signature) s place most
          c.requires.place c.loop-turn.invariant.0.refutes.structure _ _ _ is.0.refutes lawful
          c.loop-turn.invariant.1.smaller)
          c.loop-turn.invariant.1,
    )
