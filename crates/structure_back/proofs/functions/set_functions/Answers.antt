use Rattle.std.proofs.Common.{◌<◌, ap, subst, ◌∙◌}
use Rattle.fol_sig.specs.Tables.{Tables}
use Rattle.ground_terms.specs.Universe.{symbols_in, names_in}
use Rattle.structure_back.specs.Rows.{looked_up}
use Rattle.structure_back.proofs.Filling.{more-filled}
use Rattle.structure_back.proofs.functions.set_functions.Goals as goal

pub loop-f-preserved : goal.loop-f-preserved
loop-f-preserved c =
    let sig = symbols_in c.args.universe.now in
    let old = c.loop-f.structure in
    let new = c.set_function_cells.new.self in
    let known : c.loop-f.f < sig.functions =
    subst (λ n. c.loop-f.f < n) c.function_count-f-end.ensures c.loop-f-test.true in
    record {
      fits = c.set_function_cells.ensures.fits sig c.loop-f.invariant.fits;
      sizes = ap (λ (s : Tables). s.sizes) c.set_function_cells.ensures.value ∙ c.loop-f.invariant.sizes;
      relations = ap (λ (s : Tables). s.relations) c.set_function_cells.ensures.value ∙ c.loop-f.invariant.relations;
      filled =
          more-filled c.tuple_laws.ensures sig (names_in c.args.universe.now) c.args.classes.now.sizes.items
          (looked_up c.args.classes.now.numbers)
          (looked_up c.args.classes.now.members) old new c.loop-f.f c.in_ok-cells.cells.items
          c.loop-f.invariant.fits known (c.loop-f.invariant.sizes ∙ c.requires.sizes) c.set_function_cells.ensures.value
          c.in_ok-cells.ensures c.loop-f.invariant.filled;
    }
