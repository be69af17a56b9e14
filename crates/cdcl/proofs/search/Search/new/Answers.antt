use Rattle.std.proofs.Common.{◌≡◌, ◌*◌, length, arith, sym, refl, ◌∙◌}
use Rattle.cdcl.specs.declared.state.State.{State}
use Rattle.cdcl.proofs.Loads.{root_search, clear_marks}
use Rattle.cdcl.proofs.search.Search.new.Goals as goal

pub returns-clause-root : goal.returns-clause-root
returns-clause-root c =
    let s : State = record { clauses = c.new.result; trail = c.in_ok-new.field-0; watches = c.in_ok-new-2.field-0 } in
    let size : s.trail.size ≡ 2 * c.args.slots = c.in_ok-new.ensures.1 in
    let len : length c.in_ok-vec.field-0.items ≡ 2 * c.args.slots =
    sym c.in_ok-vec.field-0.ok.0 ∙ c.in_ok-vec.ensures.len in
    record {
      solver = record {
        search = root_search s c.new-4.result.items 0 c.new.ensures c.in_ok-new.ensures.0 c.in_ok-new-2.ensures.pairs
            (c.in_ok-new-2.ensures.len ∙ sym size) c.in_ok-new-2.ensures.empty c.new-4.ensures.items refl;
        marked = len ∙ sym size;
        clear = clear_marks c.in_ok-vec.field-0.items (2 * c.args.slots)
            (c.in_ok-vec.ensures.items_if_clones_equal (λ y e. e));
      };
      starts = c.new-4.ensures.items;
      head = refl;
      some = (let h = c.requires.some in rw size (omega arith));
    }
