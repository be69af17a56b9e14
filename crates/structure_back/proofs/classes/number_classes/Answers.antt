use Rattle.std.proofs.Common.{◌≡◌, [], ◌∷◌, ◌++◌, get_or, length, ap, sym, subst, ◌∙◌}
use Rattle.structure_back.specs.Rows.{row_of}
use Rattle.structure_back.specs.Classes.{IsNumbered}
use Rattle.structure_back.proofs.RowFacts.{length-at}
use Rattle.structure_back.proofs.Numbered.{more-numbered}
use Rattle.structure_back.proofs.classes.number_classes.Goals as goal

pub loop-k-preserved : goal.loop-k-preserved
loop-k-preserved c =
    let k = c.loop-k.k in
    let row = c.in_ok-row.row.items in
    let led = c.in_ok-row.led.items in
    let leaders = c.args.leaders.now in
    let count = sym (length-at leaders k ∙ ap (λ ns. get_or ns k 0) c.requires.rows) in
    let here =
    subst (λ n. IsNumbered (row_of leaders k) n row led) count
    (subst (λ zs. IsNumbered zs (get_or c.args.counts.now k 0) row led) c.row.ensures c.in_ok-row.ensures) in
    let long : c.len.result ≡ length led = c.len.ensures ∙ c.in_ok-row.led.ok.0 in
    let sizes : c.push.new.self.items ≡ c.loop-k.sizes.items ++ length led ∷ [] =
    subst (λ n. c.push.new.self.items ≡ c.loop-k.sizes.items ++ n ∷ []) long c.in_ok-push.ensures.items in
    more-numbered leaders c.loop-k.numbers c.loop-k.members c.push-in-loop-k.new.self c.push-in-loop-k-2.new.self
    c.loop-k.sizes.items c.push.new.self.items k row led
    c.loop-k.invariant here sizes c.in_ok-push-2.ensures c.in_ok-push-3.ensures
