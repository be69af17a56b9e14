use Rattle.std.proofs.Common.{◌≡◌, ◌-◌, ◌<◌, arith, get_or, sym, length, ap, ◌∙◌}
use Rattle.std.proofs.lemmas.List.{get_or_default}
use Rattle.cnf_base.specs.Literals.{opposite}
use Rattle.cnf_base.specs.LitSetValue.{set_of}
use Rattle.lrat_check.proofs.Falsified.{mark_found, mark_clear, mark_more}
use Rattle.lrat_check.proofs.hints.mark_false.Goals as goal

pub loop-i-preserved : goal.loop-i-preserved
loop-i-preserved c =
    let ls = c.args.clause.now in
    let j = c.loop-i.i - 1 in
    let within : j < length ls = omega arith in
    let lit : c.index-clause-i.result ≡ get_or ls j 0 = c.index-clause-i.is
    ∙ get_or_default ls j c.index-clause-i.result 0 within in
    let other : c.opposite.result ≡ opposite (get_or ls j 0) = c.opposite.ensures ∙ ap opposite lit in
    record {
      within = omega arith;
      none = mark_clear (set_of c.loop-i.set) ls c.loop-i.i j
          (omega arith) within c.loop-i.invariant.marks c.loop-i.invariant.none
          (rw (← lit) (sym c.has.ensures ∙ c.if-has.false));
      marks = mark_more c.opposite_laws.ensures.twice (set_of c.loop-i.set)
          (set_of c.insert.new.self) ls c.loop-i.i j c.opposite.result
          (omega arith) within other c.loop-i.invariant.marks c.in_ok-insert.ensures.ok;
    }

pub returns-then-has-clause-opposites : goal.returns-then-has-clause-opposites
returns-then-has-clause-opposites c =
    let ls = c.args.clause.now in
    let j = c.loop-i.i - 1 in
    let within : j < length ls = omega arith in
    let lit : c.index-clause-i.result ≡ get_or ls j 0 = c.index-clause-i.is
    ∙ get_or_default ls j c.index-clause-i.result 0 within in
    sym (mark_found (set_of c.loop-i.set) ls c.loop-i.i j (omega arith) within c.loop-i.invariant.marks
    (rw (← lit) (sym c.has.ensures ∙ c.if-has.true)))
