use Rattle.std.proofs.Common.{◌++◌, ◌∷◌, [], take, sym, ap, ◌∙◌, subst}
use Rattle.std.proofs.lemmas.List.{take_more}
use Rattle.fol_formula.specs.Syntax.{FormTree}
use Rattle.fol_pool.specs.Trees.{IsAt, a_form}
use Rattle.fol_pool.specs.Growing.{grows_on}
use Rattle.fol_pool.specs.Rows.{forms_stay, forms_push}
use Rattle.pool_wp.proofs.model_nodes.take_each.Goals as goal

pub loop-sentence-preserved : goal.loop-sentence-preserved
loop-sentence-preserved c =
    let old = c.loop-sentence.pool in
    let new = c.take_in.new.self in
    let i = c.loop-sentence.sentence-index in
    let ps = c.args.sentences.now in
    let p = c.sentence-item.result in
    let nodes = c.loop-sentence.nodes.items in
    let h = c.loop-sentence.invariant in
    let node = c.in_ok-node.node in
    let taken = subst (λ (q : FormTree). IsAt new node.0 (a_form q)) c.formula.ensures.value
    c.in_ok-node.ensures.node in
    let stood = forms_stay old new c.take_in.ensures.grows nodes (take i ps) h.stand in
    let more = take_more ps i p c.loop-sentence-test.true
    ∙ ap (λ (q : FormTree). take i ps ++ q ∷ []) (sym c.sentence-item.is) in
    record {
      grows = grows_on c.args.pool.now old new h.grows c.take_in.ensures.grows;
      stand = rw c.in_ok-push.ensures.items (rw more (forms_push new nodes (take i ps) node p stood taken));
    }
