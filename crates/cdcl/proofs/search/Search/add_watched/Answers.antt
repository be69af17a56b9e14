use Rattle.std.proofs.Common.{ap, sym, refl, ◌∙◌}
use Rattle.cnf_base.specs.declared.cnf.Entry.TheVariants.{Clause}
use Rattle.cdcl.specs.TrailValue.{TrailValue}
use Rattle.cdcl.proofs.Loads.{entry_added, clause_small, clause_pair, pair_small}
use Rattle.cdcl.proofs.search.Search.add_watched.Goals as goal

pub add-requires-clause-first : goal.add-requires-clause-first
add-requires-clause-first c =
    (pair_small c.args.clause.now c.args.pair _ _ c.requires.root.solver.search.state.listed c.requires.pair
    c.requires.small).0

pub add-requires-clause-second : goal.add-requires-clause-second
add-requires-clause-second c =
    (pair_small c.args.clause.now c.args.pair _ _ c.requires.root.solver.search.state.listed c.requires.pair
    c.requires.small).1

pub returns-clause-root : goal.returns-clause-root
returns-clause-root c =
    let a = c.args.self.now in
    let b = c.add.new.self in
    let r = c.requires.root in
    let i = c.in_ok-add.ensures in
    let size = ap (λ (t : TrailValue). t.size) i.trail in
    record {
      solver = record {
        search = entry_added a.state b (Clause c.args.clause.now) c.args.pair a.starts.items a.head r.solver.search
            r.starts r.head i.clauses i.added c.requires.room i.trail
            (clause_small c.args.clause.now a.state.trail.size c.requires.small)
            (clause_pair c.args.clause.now c.args.pair c.requires.pair)
            (λ n. (c.args.clause.now, refl, c.requires.pair));
        marked = r.solver.marked ∙ sym size;
        clear = r.solver.clear;
      };
      starts = r.starts;
      head = r.head;
      some = rw size r.some;
    }
