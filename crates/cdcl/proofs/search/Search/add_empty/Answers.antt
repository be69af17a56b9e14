use Rattle.std.proofs.Common.{◌+◌, ℕ, ap, sym, ◌∙◌, subst}
use Rattle.cnf_base.specs.declared.cnf.Entry.TheVariants.{Clause}
use Rattle.cdcl.specs.TrailValue.{TrailValue}
use Rattle.cdcl.specs.Trail.{IsConflict}
use Rattle.cdcl.specs.State.{held_in}
use Rattle.cdcl.proofs.Loads.{empty_conflict, empty_small, false_state, false_forced}
use Rattle.cdcl.proofs.search.Search.add_empty.Goals as goal

pub returns-clause-refuted : goal.returns-clause-refuted
returns-clause-refuted c =
    let a = c.args.self.now in
    let b = c.add.new.self in
    let r = c.requires.root in
    let i = c.in_ok-add.ensures in
    record {
      state = false_state a.state b (Clause c.args.clause.now)
          (record { first = c.positive-literal.result; second = c.positive-literal.result }) a.starts.items a.head
          r.solver.search r.starts r.head i.clauses i.added c.requires.room i.trail
          (empty_small c.args.clause.now a.state.trail.size c.requires.empty);
      marked = r.solver.marked ∙ sym (ap (λ (t : TrailValue). t.size) i.trail);
      clear = r.solver.clear;
      conflict = subst (λ (n : ℕ). IsConflict (held_in b) b.trail.steps (n + 1)) (sym c.len.ensures)
          (empty_conflict a.state b c.args.clause.now i.clauses c.requires.empty);
      forced = false_forced a.state b (Clause c.args.clause.now)
          (record { first = c.positive-literal.result; second = c.positive-literal.result }) a.starts.items a.head
          r.solver.search r.starts r.head i.clauses i.added c.requires.room i.trail;
    }
