use Rattle.std.proofs.Common.{length, ap, ◌∙◌, replicate}
use Rattle.ground_size.specs.Walks.{raised}
use Rattle.ground_size.proofs.Counted.{constants-raised}
use Rattle.ground_size.proofs.Turns.{written_back}
use Rattle.ground_size.proofs.counting.count.Goals as goal

pub returns : goal.returns
returns c =
    let constants = c.in_ok-constants.constants in
    let sentence = c.args.sentence.now in
    let zeros = c.in_ok-constants.ensures.items_if_clones_equal (λ y e. e)
    ∙ ap (λ n. replicate n 0) c.sorts.ensures.value in
    let back = written_back constants.items c.add_existentials.new.counts constants.len constants.ok.0
    (c.add_existentials.auto.counts ∙ ap length c.deref_mut.ensures.value) in
    let walked = c.deref.ensures.value ∙ back ∙ c.add_existentials.ensures
    ∙ ap (λ q. raised 1 0 q c.deref_mut.result.now) (c.formula.ensures.value ∙ c.sentence.ensures.value)
    ∙ ap (raised 1 0 sentence) (c.deref_mut.ensures.value ∙ zeros) in
    c.in_ok-counts.ensures sentence c.sentence.ensures.fragment c.requires.fits
    (constants-raised sentence c.args.signature.now.sorts c.deref.result.now walked)
