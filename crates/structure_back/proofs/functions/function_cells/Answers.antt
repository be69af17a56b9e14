use Rattle.std.proofs.Common.{◌≡◌, ℕ, ◌<◌, length, get_or, sym, subst, ◌∙◌}
use Rattle.std.proofs.lemmas.List.{length-set}
use Rattle.fol_sig.specs.Tuples.{tuple_at}
use Rattle.ground_terms.specs.Universe.{symbols_in, names_in}
use Rattle.structure_back.specs.Rows.{looked_up}
use Rattle.structure_back.specs.Tables.{value_at}
use Rattle.structure_back.proofs.Filling.{set-each}
use Rattle.structure_back.proofs.functions.function_cells.Goals as goal

pub loop-number-preserved : goal.loop-number-preserved
loop-number-preserved c =
    let sig = symbols_in c.args.universe.now in
    let names = names_in c.args.universe.now in
    let f = c.args.function.0 in
    let sizes = c.args.classes.now.sizes.items in
    let cells = c.loop-number.cells.items in
    let value : ℕ → ℕ =
    λ n. value_at sig names (looked_up c.args.classes.now.numbers) (looked_up c.args.classes.now.members) f
    (tuple_at sizes (sig.from_of f) n) in
    let known : c.loop-number.number < length cells =
    subst (λ n. c.loop-number.number < n) c.loop-number.invariant.end c.loop-number-test.true in
    record {
      long = length-set cells c.loop-number.number c.function_cell.result ∙ c.loop-number.invariant.long;
      end = c.loop-number.invariant.end ∙ sym (length-set cells c.loop-number.number c.function_cell.result);
      each =
          set-each (λ n x. x ≡ value n) cells c.loop-number.number c.function_cell.result known
          c.loop-number.invariant.each c.function_cell.ensures.value;
      within =
          set-each (λ n x. x < get_or sizes (sig.into_of f) 0) cells c.loop-number.number c.function_cell.result known
          c.loop-number.invariant.within c.function_cell.ensures.within;
    }
