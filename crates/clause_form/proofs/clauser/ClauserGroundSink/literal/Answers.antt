use Rattle.std.proofs.Common.{OnErr, List, Result, Ok, Err, ap}
use Rattle.ground_terms.specs.Calls.{Call}
use Rattle.clause_form.specs.Stands.{Stands, StandsBy}
use Rattle.clause_form.specs.Boards.{state_of}
use Rattle.clause_form.proofs.Standing.{still_full, goes_on, refuses, too_many_atoms}
use Rattle.clause_form.proofs.clauser.ClauserGroundSink.literal.Goals as goal

on_err : {A E : Type 0} (r : Result A E) (P : Type 0) → P → OnErr r P
on_err (Ok x) P p = tt
on_err (Err e) P p = p

pub returns-then-self-clause-taken : goal.returns-then-self-clause-taken
returns-then-self-clause-taken c = λ calls h. still_full _ c.if-self.true _ calls _ h

pub returns-in_err-literal-clause-refused : goal.returns-in_err-literal-clause-refused
returns-in_err-literal-clause-refused c =
    let kept : (calls : List Call) → Stands c.args.self.now calls
    → StandsBy c.args.self.now.full (state_of c.literal.new.self) calls =
    λ calls h. refuses _ c.if-self.false (state_of c.args.self.now.board) (state_of c.settle.new.self)
    (state_of c.literal.new.self) calls c.in_ok-settle.ensures.ended c.in_err-literal.ensures.kept h in
    on_err _ _ kept

pub returns-then-not-branch-clause-taken : goal.returns-then-not-branch-clause-taken
returns-then-not-branch-clause-taken c =
    let left = c.in_ok-literal.ensures.left c.if-not-branch.true in
    λ calls h. too_many_atoms _ c.if-self.false (state_of c.args.self.now.board) (state_of c.settle.new.self)
    (state_of c.settle.new.self) calls _ _ c.in_ok-settle.ensures.ended left.0 left.1 h

pub returns-else-not-branch-clause-taken : goal.returns-else-not-branch-clause-taken
returns-else-not-branch-clause-taken c =
    λ calls h. goes_on _ c.if-self.false (state_of c.args.self.now.board) (state_of c.settle.new.self)
    (state_of c.literal.new.self) calls _ c.in_ok-settle.ensures.ended
    (c.in_ok-literal.ensures.taken (ap Ok c.if-not-branch.false)) h
