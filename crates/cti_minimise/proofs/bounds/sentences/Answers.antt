use Rattle.std.proofs.Common.{◌≡◌, ℕ, take, get_or, sym, ap, ◌∙◌, arith}
use Rattle.std.proofs.lemmas.List.{take_more}
use Rattle.cti_minimise.specs.Bounding.{bounds_by}
use Rattle.cti_minimise.specs.Saying.{said_by}
use Rattle.cti_minimise.proofs.Bounded.{bounds-push}
use Rattle.cti_minimise.proofs.bounds.sentences.Goals as goal

pub loop-place-preserved : goal.loop-place-preserved
loop-place-preserved c =
    let numbers = c.args.bounds.now.numbers.now in
    let last = c.args.bounds.now.place in
    let said = said_by c.args.signature.now c.args.saying last in
    let k = c.loop-place.place in
    let within = c.requires.place in
    bounds-push said numbers k (get_or numbers k 0) _ _ _ (omega (arith, within)) c.loop-place.invariant
    c.in_ok-said.ensures c.in_ok-push.ensures.items
    ∙ ap (bounds_by said 0) (sym (take_more numbers k 0 (omega (arith, within))))

pub returns : goal.returns
returns c =
    let numbers = c.args.bounds.now.numbers.now in
    let place = c.args.bounds.now.place in
    let said = said_by c.args.signature.now c.args.saying place in
    let within = c.requires.place in
    let last : c.loop-place.place ≡ place = omega arith in
    let made = c.loop-place.invariant ∙ ap (λ (j : ℕ). bounds_by said 0 (take j numbers)) last in
    bounds-push said numbers place c.args.bounds.now.most _ _ _ (omega (arith, within)) made c.in_ok-said-2.ensures
    c.in_ok-push-2.ensures.items
