use Rattle.std.proofs.Common.{OnErr, List, Result, Ok, Err}
use Rattle.ground_terms.specs.Calls.{Call}
use Rattle.clause_form.specs.Stands.{Stands, StandsBy}
use Rattle.clause_form.specs.Boards.{state_of}
use Rattle.clause_form.proofs.Standing.{still_full, goes_on, refuses, too_many_nodes}
use Rattle.clause_form.proofs.clauser.Clauser.node.Goals as goal

on_err : {A E : Type 0} (r : Result A E) (P : Type 0) → P → OnErr r P
on_err (Ok x) P p = tt
on_err (Err e) P p = p

pub returns-then-self-clause-taken : goal.returns-then-self-clause-taken
returns-then-self-clause-taken c = λ calls h. still_full _ c.if-self.true _ calls _ h

pub returns-then-self-eq-LIMIT-clause-taken : goal.returns-then-self-eq-LIMIT-clause-taken
returns-then-self-eq-LIMIT-clause-taken c =
    λ calls h. too_many_nodes _ c.if-self.false (state_of c.args.self.now.board) (state_of c.settle.new.self)
    (state_of c.settle.new.self) calls _ _ c.in_ok-settle.ensures.ended c.if-self-eq-LIMIT.true h

pub returns-in_err-node-clause-refused : goal.returns-in_err-node-clause-refused
returns-in_err-node-clause-refused c =
    let kept : (calls : List Call) → Stands c.args.self.now calls
    → StandsBy c.args.self.now.full (state_of c.node.new.self) calls =
    λ calls h. refuses _ c.if-self.false (state_of c.args.self.now.board) (state_of c.settle.new.self)
    (state_of c.node.new.self) calls c.in_ok-settle.ensures.ended c.in_err-node.ensures.kept h in
    on_err _ _ kept

pub returns-clause-taken : goal.returns-clause-taken
returns-clause-taken c =
    λ calls h. goes_on _ c.if-self.false (state_of c.args.self.now.board) (state_of c.settle.new.self)
    (state_of c.node.new.self) calls _ c.in_ok-settle.ensures.ended c.in_ok-node.ensures.taken h
