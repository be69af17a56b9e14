use Rattle.std.proofs.Common.{◌≡◌, ◌-◌, ◌++◌, ℕ, Bool, List, length, take, drop, arith, ap, sym, ◌∙◌, subst}
use Rattle.std.proofs.Math.Seq.{take-append_seam}
use Rattle.lrat_log.specs.Learnt.{IsQuiet}
use Rattle.cdcl.specs.Trail.{was_set}
use Rattle.cdcl.specs.Learning.{is_marked, HasTops, AreBeforeSecond}
use Rattle.cdcl.specs.State.{held_in}
use Rattle.cdcl.specs.Found.{top_of}
use Rattle.cdcl.proofs.Searching.{level_quiet, state_holds}
use Rattle.cdcl.proofs.Backing.{last_start}
use Rattle.cdcl.proofs.search.Search.analyse.Goals as goal

pub learn-requires-clause-quiet : goal.learn-requires-clause-quiet
learn-requires-clause-quiet c =
    let s = c.args.self.now in
    let e : c.index-2.result.now ≡ top_of s =
    last_start s.starts.items c.len.result c.index-2.result.now (c.len.ensures ∙ s.starts.ok.0) c.requires.some
    c.index-2.ensures in
    subst (λ (n : ℕ). IsQuiet (held_in s.state) (was_set s.state.trail.steps n)) (sym e)
    (level_quiet s.state s.starts.items s.head (length s.starts.items - 1) c.requires.solver.search
    (let h = c.requires.some in omega arith))

pub returns-clause-found : goal.returns-clause-found
returns-clause-found c =
    let s = c.args.self.now in
    let e : c.index-2.result.now ≡ top_of s =
    last_start s.starts.items c.len.result c.index-2.result.now (c.len.ensures ∙ s.starts.ok.0) c.requires.some
    c.index-2.ensures in
    let w = c.in_ok-learnt.learnt in
    record {
      learnt = c.in_ok-learnt.ensures.learnt;
      one = subst (λ (n : ℕ). HasTops s.state.trail.steps n w.literals.items 1) e c.in_ok-learnt.ensures.one;
      others = subst (λ (n : ℕ). AreBeforeSecond s.state.trail.steps n w.literals.items w.second) e
          c.in_ok-learnt.ensures.second;
      at_most = rw (← e) c.in_ok-learnt.ensures.second_at_most;
      stands = c.in_ok-learnt.ensures.second_stands;
    }

pub learn-requires-clause-tables : goal.learn-requires-clause-tables
learn-requires-clause-tables c = state_holds c.args.self.now.state c.requires.solver.search.state

-- the marks that the analysis left, in the list that was lent
marks_back : (old new : List Bool) (n : ℕ) → n ≡ length old → length new ≡ length old
    → take n (new ++ drop (length new) old) ≡ new
marks_back old new n a b = rw (a ∙ sym b) (take-append_seam new (drop (length new) old))

pub returns-clause-solver : goal.returns-clause-solver
returns-clause-solver c =
    let marks = c.args.self.now.marks in
    let same : length c.learn.new.marks ≡ length marks.items =
    c.learn.auto.marks ∙ ap length c.as_mut_slice.ensures.value in
    let back = marks_back marks.items c.learn.new.marks marks.len marks.ok.0 same in
    record {
      search = c.requires.solver.search;
      marked = ap length back ∙ same ∙ c.requires.solver.marked;
      clear = λ l. ap (λ (m : List Bool). is_marked m l) back ∙ c.in_ok-learnt.ensures.clear l;
    }
