use Rattle.std.proofs.Common.{◌≡◌, ◌<◌, ◌≤◌, length, ap, subst, ◌∙◌}
use Rattle.std.proofs.lemmas.List.{take_all}
use Rattle.fol_sig.specs.Tables.{Declared}
use Rattle.told_states.proofs.Pieces.{one_copied}
use Rattle.told_states.proofs.symbols.sizes.Goals as goal

pub loop-sort-preserved : goal.loop-sort-preserved
loop-sort-preserved c =
    let sorts : c.sorts-sort-end.result ≡ length c.args.structure.now.sizes =
    c.sorts-sort-end.ensures.value ∙ ap (λ (d : Declared). d.sorts) c.signature.ensures.value ∙ c.requires.sorts in
    one_copied c.args.structure.now.sizes _ _ c.loop-sort.sort c.size.result
    (subst (λ n. c.loop-sort.sort < n) sorts c.loop-sort-test.true) c.size.ensures c.loop-sort.invariant
    c.in_ok-push.ensures.items

pub returns : goal.returns
returns c =
    let sorts : c.sorts-sort-end.result ≡ length c.args.structure.now.sizes =
    c.sorts-sort-end.ensures.value ∙ ap (λ (d : Declared). d.sorts) c.signature.ensures.value ∙ c.requires.sorts in
    c.loop-sort.invariant
    ∙ take_all c.loop-sort.sort c.args.structure.now.sizes
    (subst (λ n. n ≤ c.loop-sort.sort) sorts c.loop-sort-test.false)
