use Rattle.std.proofs.Common.{length, ap, ◌∙◌, replicate}
use Rattle.fol_formula.specs.Syntax.{forms_of}
use Rattle.ground_size.specs.Conjoined.{parts_of, and_of}
use Rattle.ground_size.specs.Walks.{all_raised}
use Rattle.ground_size.proofs.Counted.{constants-raised}
use Rattle.ground_size.proofs.Turns.{written_back}
use Rattle.ground_size.proofs.parts.count_parts.Goals as goal

pub returns : goal.returns
returns c =
    let constants = c.in_ok-constants.constants in
    let sentence = and_of c.args.parts.now in
    let zeros = c.in_ok-constants.ensures.items_if_clones_equal (λ y e. e)
    ∙ ap (λ n. replicate n 0) c.sorts.ensures.value in
    let back = written_back constants.items c.add_existentials_of_parts.new.counts constants.len constants.ok.0
    (c.add_existentials_of_parts.auto.counts ∙ ap length c.deref_mut.ensures.value) in
    let walked = c.deref.ensures.value ∙ back ∙ c.add_existentials_of_parts.ensures
    ∙ ap (all_raised 1 0 (forms_of (parts_of c.args.parts.now))) (c.deref_mut.ensures.value ∙ zeros) in
    c.in_ok-counts.ensures sentence c.requires.fragment c.requires.fits
    (constants-raised sentence c.args.signature.now.sorts c.deref.result.now walked)
