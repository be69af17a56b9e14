use Rattle.std.proofs.Common.{refl}
use Rattle.structure_back.proofs.RowFacts.{set-view}
use Rattle.structure_back.proofs.per_sort.PerSort.set.Goals as goal

pub returns : goal.returns
returns c =
    set-view (λ v. v.items) c.self.inside.rows.items c.args.self.now c.args.sort.0 c.args.place c.args.number
    c.index_mut-row.result.now _ c.self.view_is c.requires.known c.index_mut-row.ensures.value refl
