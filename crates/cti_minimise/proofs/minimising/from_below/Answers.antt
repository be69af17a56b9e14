use Rattle.std.proofs.Common.{◌≡◌, ◌<◌, ℕ, true, List, [], ◌∷◌, ◌++◌, length, take, get_or, sym, ap, ◌∙◌, subst}
use Rattle.std.proofs.Common.{arith}
use Rattle.std.proofs.lemmas.Grind.{get_or_default_zero}
use Rattle.rml_command.specs.Models.{ModelTree}
use Rattle.fol_formula.specs.Sentences.{satisfies}
use Rattle.obligation_decide.specs.Restricted.{HasNoneWhere}
use Rattle.cti_minimise.specs.Bounding.{bounds_on}
use Rattle.cti_minimise.specs.Extents.{extent, lowest}
use Rattle.cti_minimise.specs.Minimal.{AreLeast, numbers_up_to}
use Rattle.cti_minimise.specs.Steps.{limits_of}
use Rattle.cti_minimise.proofs.Extending.{length-extent}
use Rattle.cti_minimise.proofs.Searching.{settled-by, up-to-all, lowest-le}
use Rattle.cti_minimise.proofs.Tried.{Pass, least-lowest, least-next}
use Rattle.cti_minimise.proofs.minimising.from_below.Goals as goal

pub loop-most-init : goal.loop-most-init
loop-most-init c =
    let limits = limits_of c.args.trials.now in
    let m = c.args.trials.now.checked.now in
    let s = c.args.shown.structure in
    let place = c.args.place in
    let same = c.signature-signature.ensures.value ∙ ap (λ (n : ModelTree). n.signature) c.model.ensures.value in
    let known = c.lowest-most.ensures ∙ ap (λ sig. lowest sig place) same in
    subst (λ (n : ℕ). AreLeast limits m c.args.trials.now.goal.now (numbers_up_to s place n)) (sym known)
    (least-lowest limits m c.args.trials.now.goal.now (c.bound_law.ensures.bounds m.signature) s place c.requires.place
    c.requires.failing.refutes.structure c.requires.before)

pub returns-in-Found : goal.returns-in-Found
returns-in-Found c =
    let limits = limits_of c.args.trials.now in
    let is = (rw c.in-Found.is at c.in_ok-try_bounds.ensures).1 in
    let m = c.args.trials.now.checked.now in
    let place = c.args.place in
    let lawful = subst
    (λ (ns : List ℕ).
    satisfies c.in-Found.smaller.structure (bounds_on m.signature (take place ns ++ c.loop-most.most ∷ [])) ≡ true)
    (c.deref.ensures.value ∙ c.in_ok-numbers.ensures) is.1 in (
      is.0,
      subst (AreLeast limits m c.args.trials.now.goal.now)
          (settled-by m c.args.trials.now.goal.now (c.bound_law.ensures.bounds m.signature) c.args.shown.structure place
          c.loop-most.most c.requires.place c.requires.failing.refutes.structure _ _ _ is.0.refutes lawful
          c.loop-most.invariant.smaller)
          c.loop-most.invariant,
    )

pub loop-most-preserved : goal.loop-most-preserved
loop-most-preserved c =
    let limits = limits_of c.args.trials.now in
    let is = rw c.in-Refuted.is at c.in_ok-try_bounds.ensures in
    let m = c.args.trials.now.checked.now in
    let place = c.args.place in
    let same = c.deref.ensures.value ∙ c.in_ok-numbers.ensures in
    least-next limits m c.args.trials.now.goal.now (c.bound_law.ensures.bounds m.signature) c.args.shown.structure place
    c.requires.place c.requires.failing.refutes.structure c.requires.before c.loop-most.most
    (subst (λ (ns : List ℕ). Pass limits m c.args.trials.now.goal.now (take place ns ++ c.loop-most.most ∷ [])) same
    is.0)
    (subst
    (λ (ns : List ℕ).
    HasNoneWhere m (bounds_on m.signature (take place ns ++ c.loop-most.most ∷ [])) c.args.trials.now.goal.now)
    same is.1)
    c.loop-most.invariant

pub returns : goal.returns
returns c =
    let m = c.args.trials.now.checked.now in
    let s = c.args.shown.structure in
    let place = c.args.place in
    let fits = c.requires.failing.refutes.structure in
    let known = c.requires.place in
    let count = length-extent m.signature s fits in
    let lt : place < length (extent s) = omega (arith, count, known) in
    let same = c.signature-signature.ensures.value ∙ ap (λ (n : ModelTree). n.signature) c.model.ensures.value in
    let first = c.lowest-most.ensures ∙ ap (λ sig. lowest sig place) same in
    let some = lowest-le m.signature s fits place in
    let number = ap (λ (ns : List ℕ). get_or ns place 0) c.in_ok-numbers.ensures in
    let ns = c.in_ok-numbers.numbers.items in
    let length-same = ap (λ (xs : List ℕ). length xs) c.in_ok-numbers.ensures in
    let inside : place < length ns = omega (arith, lt, length-same) in
    let at = c.index-top.ensures ∙ get_or_default_zero ns place c.index-top.result.now inside in
    let last : c.loop-most.most ≡ get_or (extent s) place 0 = omega (arith, some, first, number, at) in (
      c.requires.failing,
      subst (AreLeast (limits_of c.args.trials.now) m c.args.trials.now.goal.now)
          (up-to-all (extent s) place c.loop-most.most lt last) c.loop-most.invariant,
    )
