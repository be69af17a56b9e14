use Rattle.std.proofs.Common.{ap, sym, refl, ◌∙◌}
use Rattle.cnf_base.specs.declared.cnf.Entry.TheVariants.{True}
use Rattle.cdcl.specs.TrailValue.{TrailValue}
use Rattle.cdcl.proofs.Loads.{entry_added, true_is_no_clause}
use Rattle.cdcl.proofs.search.Search.add_true.Goals as goal

pub returns-clause-root : goal.returns-clause-root
returns-clause-root c =
    let a = c.args.self.now in
    let b = c.add_true.new.self in
    let r = c.requires.root in
    let i = c.in_ok-add_true.ensures in
    let size = ap (λ (t : TrailValue). t.size) i.trail in
    record {
      solver = record {
        search = entry_added a.state b True (record { first = 2; second = 2 }) a.starts.items a.head r.solver.search
            r.starts r.head i.clauses i.added c.requires.room i.trail
            (λ d q. absurd (true_is_no_clause d q)) (λ d q. absurd (true_is_no_clause d q)) (λ n. absurd (n refl));
        marked = r.solver.marked ∙ sym size;
        clear = r.solver.clear;
      };
      starts = r.starts;
      head = r.head;
      some = rw size r.some;
    }
