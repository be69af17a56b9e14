use Rattle.std.proofs.Common.{ap, sym, subst, false, length, ◌<◌, ◌∙◌, ◌∷◌, []}
use Rattle.std.proofs.lemmas.List.{map-append, get_or_read}
use Rattle.fol_sig.specs.declared.Sort.{Sort}
use Rattle.fol_sig.specs.Tables.{numbers}
use Rattle.fol_sig.proofs.Waiting.{swept-place}
use Rattle.fol_sig.proofs.passes.place_free.Goals as goal

pub loop-k-preserved : goal.loop-k-preserved
loop-k-preserved c =
    let pushed =
    ap numbers c.in_ok-push.ensures.items
    ∙ map-append (λ (k : Sort). k.0) c.loop-k.order.items (record { 0 = c.loop-k.k } ∷ []) in
    let room : c.loop-k.k < length c.loop-k.placed.items =
    subst (λ n. c.loop-k.k < n) (sym c.loop-k.invariant.each) c.loop-k-test.true in
    swept-place c.args.waits.now c.args.placed.now.items (numbers c.args.order.now.items) c.loop-k.placed.items
    (numbers c.loop-k.order.items) (numbers c.push.new.self.items) c.loop-k.any c.loop-k.k c.loop-k.invariant
    c.loop-k-test.true c.if-waits-k.false
    (sym (get_or_read c.loop-k.placed.items c.loop-k.k c.index.result.now room c.index.ensures false)
    ∙ c.if-index.false) pushed
