use Rattle.std.proofs.Common.{◌≡◌, ◌<◌, false, length, get_or, ap, ◌∙◌, sym, subst, arith, ◌++◌, ◌∷◌, [], List, ℕ}
use Rattle.std.proofs.Common.{take}
use Rattle.std.specs.List.{filter}
use Rattle.fol_sig.specs.Tables.{RelationTable, cell_at}
use Rattle.fol_sig.specs.Tuples.{tuples, tuple_at}
use Rattle.fol_sig.proofs.TupleSets.{listed-true, listed-false, listed-all}
use Rattle.fol_sig.proofs.table.«Table+bool».true_tuples.Goals as goal

pub loop-number-preserved-then-not-index : goal.loop-number-preserved-then-not-index
loop-number-preserved-then-not-index c =
    let t = c.args.self.now in
    let n = c.loop-number.number in
    let b = c.index.result.now in
    let long = c.len-number-end.ensures ∙ c.self.inside.cells.ok.0
    ∙ ap (λ (u : RelationTable). length u.cells) c.self.view_is in
    let lt : n < length t.cells = subst (λ m. n < m) long c.loop-number-test.true in
    let is : b ≡ get_or t.cells n b = c.index.ensures ∙ ap (λ (u : RelationTable). get_or u.cells n b) c.self.view_is in
    c.loop-number.invariant
    ∙ sym (listed-false c.args.sizes.now t n b lt c.requires.full is c.if-not-index.true)

pub loop-number-preserved : goal.loop-number-preserved
loop-number-preserved c =
    let t = c.args.self.now in
    let sizes = c.args.sizes.now in
    let n = c.loop-number.number in
    let b = c.index.result.now in
    let long = c.len-number-end.ensures ∙ c.self.inside.cells.ok.0
    ∙ ap (λ (u : RelationTable). length u.cells) c.self.view_is in
    let lt : n < length t.cells = subst (λ m. n < m) long c.loop-number-test.true in
    let is : b ≡ get_or t.cells n b = c.index.ensures ∙ ap (λ (u : RelationTable). get_or u.cells n b) c.self.view_is in
    let tuple = c.tuple_of_number.ensures.value
    ∙ ap (λ ks. tuple_at sizes ks n) (c.as_slice.ensures.value ∙ ap (λ (u : RelationTable). u.sorts) c.self.view_is) in
    let so_far = filter (λ tuple. cell_at sizes t tuple false) (take n (tuples sizes t.sorts)) in
    c.in_ok-push.ensures.items
    ∙ ap (λ xs. xs ++ c.tuple_of_number.result ∷ []) c.loop-number.invariant
    ∙ ap (λ (xs : List ℕ). so_far ++ xs ∷ []) tuple
    ∙ sym (listed-true sizes t n b lt c.requires.full is c.if-not-index.false)

pub returns : goal.returns
returns c =
    let t = c.args.self.now in
    let long = c.len-number-end.ensures ∙ c.self.inside.cells.ok.0
    ∙ ap (λ (u : RelationTable). length u.cells) c.self.view_is in
    c.loop-number.invariant
    ∙ ap (filter (λ tuple. cell_at c.args.sizes.now t tuple false))
    (listed-all c.args.sizes.now t c.loop-number.number (omega (arith, c.loop-number-test.false, long)) c.requires.full)
