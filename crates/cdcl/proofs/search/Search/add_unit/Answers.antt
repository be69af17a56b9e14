use Rattle.std.proofs.Common.{◌≡◌, ◌+◌, ℕ, true, false, [], ◌∷◌, ◌++◌, length, ap, sym, refl, ◌∙◌, subst}
use Rattle.cnf_base.specs.declared.cnf.Entry.TheVariants.{Clause}
use Rattle.cnf_base.specs.Literals.{opposite}
use Rattle.cdcl.specs.declared.state.State.{State}
use Rattle.cdcl_tables.specs.declared.watches.Pair.{Pair}
use Rattle.cdcl.specs.TrailValue.{TrailValue}
use Rattle.cdcl.specs.Trail.{IsConflict, is_set}
use Rattle.cdcl.specs.State.{held_in}
use Rattle.cdcl.proofs.Loads.{unit_conflict, unit_small, false_state, false_forced, unit_search, unit_set_search}
use Rattle.cdcl.proofs.Loads.{trail_same, same_trail}
use Rattle.cdcl.proofs.search.Search.add_unit.Goals as goal

pub returns-then-is_set-clause-refuted : goal.returns-then-is_set-clause-refuted
returns-then-is_set-clause-refuted c =
    let a = c.args.self.now in
    let b = c.add.new.self in
    let p : Pair = record { first = c.args.literal; second = c.args.literal } in
    let r = c.requires.root in
    let i = c.in_ok-add.ensures in
    let on : is_set b.trail.steps (opposite c.args.literal) ≡ true =
    rw (← c.opposite.ensures) (sym c.is_set.ensures ∙ c.if-is_set.true) in
    record {
      state = false_state a.state b (Clause c.args.clause.now) p a.starts.items a.head r.solver.search r.starts r.head
          i.clauses i.added c.requires.room i.trail
          (unit_small c.args.clause.now c.args.literal a.state.trail.size c.requires.unit c.requires.small);
      marked = r.solver.marked ∙ sym (ap (λ (t : TrailValue). t.size) i.trail);
      clear = r.solver.clear;
      conflict = subst (λ (n : ℕ). IsConflict (held_in b) b.trail.steps (n + 1)) (sym c.len.ensures)
          (unit_conflict a.state b c.args.clause.now c.args.literal i.clauses c.requires.unit on);
      forced = false_forced a.state b (Clause c.args.clause.now) p a.starts.items a.head r.solver.search r.starts r.head
          i.clauses i.added c.requires.room i.trail;
    }

pub returns-then-is_set-2-clause-root : goal.returns-then-is_set-2-clause-root
returns-then-is_set-2-clause-root c =
    let a = c.args.self.now in
    let b = c.add.new.self in
    let p : Pair = record { first = c.args.literal; second = c.args.literal } in
    let r = c.requires.root in
    let i = c.in_ok-add.ensures in
    let size = ap (λ (t : TrailValue). t.size) i.trail in
    record {
      solver = record {
        search = unit_search a.state b c.args.clause.now c.args.literal p a.starts.items a.head r.solver.search r.starts
            i.clauses i.added c.requires.room c.requires.unit c.requires.small refl
            (same_trail a.state.trail b.trail i.trail)
            (trail_same a.state b (Clause c.args.clause.now) p a.starts.items a.head r.solver.search r.starts r.head
            i.clauses i.added c.requires.room i.trail)
            (sym c.is_set-2.ensures ∙ c.if-is_set-2.true);
        marked = r.solver.marked ∙ sym size;
        clear = r.solver.clear;
      };
      starts = r.starts;
      head = r.head;
      some = rw size r.some;
    }

pub returns-clause-root : goal.returns-clause-root
returns-clause-root c =
    let a = c.args.self.now in
    let b : State =
    record { clauses = c.add.new.self.clauses; trail = c.push.new.self; watches = c.add.new.self.watches } in
    let p : Pair = record { first = c.args.literal; second = c.args.literal } in
    let r = c.requires.root in
    let i = c.in_ok-add.ensures in
    let l = c.args.literal in
    let size : b.trail.size ≡ a.state.trail.size =
    c.in_ok-push.ensures.size ∙ ap (λ (t : TrailValue). t.size) i.trail in
    let steps : b.trail.steps ≡ a.state.trail.steps ++ record { literal = l; reason = length a.state.clauses + 1 }
    ∷ [] =
    c.in_ok-push.ensures.steps
    ∙ ap (λ (t : TrailValue). t.steps ++ record { literal = l; reason = c.len.result + 1 } ∷ []) i.trail
    ∙ ap (λ (n : ℕ). a.state.trail.steps ++ record { literal = l; reason = n + 1 } ∷ []) c.len.ensures in
    let nt : is_set a.state.trail.steps l ≡ false =
    ap (λ (t : TrailValue). is_set t.steps l) (sym i.trail) ∙ sym c.is_set-2.ensures ∙ c.if-is_set-2.false in
    let nf : is_set a.state.trail.steps (opposite l) ≡ false =
    ap (λ (t : TrailValue). is_set t.steps (opposite l)) (sym i.trail)
    ∙ ap (is_set c.add.new.self.trail.steps) (sym c.opposite.ensures) ∙ sym c.is_set.ensures
    ∙ c.if-is_set.false in
    record {
      solver = record {
        search = unit_set_search a.state b c.args.clause.now l p a.starts.items a.head r.solver.search r.starts
            i.clauses i.added c.requires.room c.requires.unit c.requires.small refl nt nf size steps;
        marked = r.solver.marked ∙ sym size;
        clear = r.solver.clear;
      };
      starts = r.starts;
      head = r.head;
      some = rw size r.some;
    }
