use Rattle.std.proofs.Common.{◌≡◌, ◌-◌, suc, length, refl, sym, ap, ◌∙◌, subst, arith}
use Rattle.std.proofs.lemmas.List.{length-replicate}
use Rattle.fol_pool.specs.Trees.{form_at}
use Rattle.pool_size.specs.Existentials.{nowhere, entry, AreAwaited}
use Rattle.pool_size.proofs.Sharing.{awaited-first, awaited-next}
use Rattle.pool_size.proofs.existentials.count_down.Goals as goal

pub loop-i-init : goal.loop-i-init
loop-i-init c =
    let a = c.args in
    let new = c.share_out.new in
    let s = c.share_out.ensures in
    record {
      sorts = s.sorts;
      nodes = s.nodes ∙ ap length c.requires.nodes ∙ length-replicate a.sentence.0 nowhere;
      capped = λ k. let f = c.type_inv.counts k in omega (arith, f);
      awaited = awaited-first a.pool.now (length a.counts.now) a.sentence.0 (form_at a.pool.now a.sentence.0)
          a.counts.now new.counts a.table.now new.table c.requires.sorts c.requires.nodes refl c.requires.form.1
          s.shared;
    }

pub loop-i-preserved : goal.loop-i-preserved
loop-i-preserved c =
    let a = c.args in
    let l = c.loop-i in
    let new = c.share_out-in-loop-i.new in
    let s = c.share_out-in-loop-i.ensures in
    let sorts = length a.counts.now in
    let p = form_at a.pool.now a.sentence.0 in
    let n = l.i - 1 in
    let lt = c.loop-i-test.true in
    let one_more : l.i ≡ suc n = omega (arith, lt) in
    record {
      sorts = s.sorts ∙ l.invariant.sorts;
      nodes = s.nodes ∙ l.invariant.nodes;
      capped = λ k. let f = c.type_inv.counts k in omega (arith, f);
      awaited = awaited-next a.pool.now sorts n p l.counts new.counts l.table new.table (entry l.table n) refl
          (sym l.invariant.sorts) s.shared
          (subst (AreAwaited sorts p a.pool.now l.counts l.table) one_more l.invariant.awaited);
    }

pub returns-clause-constants : goal.returns-clause-constants
returns-clause-constants c = λ k lt.
    let l = c.loop-i in
    let last : l.i ≡ 0 = let f = c.loop-i-test.false in omega (arith, f) in
    let capped = l.invariant.capped k in
    let all = subst (AreAwaited (length c.args.counts.now) (form_at c.args.pool.now c.args.sentence.0)
    c.args.pool.now l.counts l.table) last l.invariant.awaited k lt in
    omega (arith, capped, all)
