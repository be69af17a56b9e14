use Rattle.std.proofs.Common.{◌<◌, ◌-◌, length, map, ap, sym, subst, arith, ◌∙◌}
use Rattle.std.proofs.lemmas.List.{length-map, get_or-map}
use Rattle.std.proofs.Common.{drop}
use Rattle.ground_terms.specs.TermViews.{plain_term}
use Rattle.ground_terms.proofs.Noted.{length-noted, noted-more, at-first}
use Rattle.ground_terms.proofs.terms.note_firsts.Goals as goal

pub note_first-requires : goal.note_first-requires
note_first-requires c =
    let p = c.loop-place.place in
    let lt : p - 1 < length c.args.terms.now =
    omega (arith, c.requires.counted, c.loop-place.invariant.within, c.loop-place-test.true) in
    at-first plain_term c.args.terms.now (p - 1) (length c.args.firsts.now.items) (length c.loop-place.firsts.items)
    c.index-terms-place.result c.requires.known
    (ap length c.loop-place.invariant.now
    ∙ length-noted p (drop p (map plain_term c.args.terms.now)) c.args.firsts.now.items)
    lt c.index-terms-place.is

pub loop-place-preserved : goal.loop-place-preserved
loop-place-preserved c =
    let p = c.loop-place.place in
    let ts = c.args.terms.now in
    let t = c.index-terms-place.result in
    let lt : p - 1 < length ts =
    omega (arith, c.requires.counted, c.loop-place.invariant.within, c.loop-place-test.true) in
    record {
      within = omega (arith, c.loop-place.invariant.within);
      now = noted-more (map plain_term ts) (p - 1) p (plain_term t) (plain_term t) c.args.firsts.now.items
          c.loop-place.firsts.items c.note_first.new.firsts.items
          (subst (λ n. p - 1 < n) (sym (length-map ts plain_term)) lt) (omega (arith, c.loop-place-test.true))
          (ap plain_term c.index-terms-place.is ∙ sym (get_or-map plain_term ts (p - 1) t (plain_term t) lt))
          c.loop-place.invariant.now c.note_first.ensures;
    }
