use Rattle.std.proofs.Common.{sym, ap, ◌∙◌, subst}
use Rattle.pruning.specs.Pruned.{Flags, AreFlags, pruned_signature}
use Rattle.limits.specs.Ceilings.{ceilings}
use Rattle.pruned_decide.proofs.Carried.{by_occurring}
use Rattle.pruned_decide.proofs.Ready.{small_strata, small_ready}
use Rattle.pruned_decide.proofs.deciding.decide_whole.Goals as goal

pub decide_small-decided-requires-clause-strata : goal.decide_small-decided-requires-clause-strata
decide_small-decided-requires-clause-strata c =
    small_strata c.pruning_law.ensures.occurring c.args.whole.now.signature c.args.whole.now.sentence
    c.in_ok-small.small.signature c.in_ok-small.ensures.signature c.pruning_law.ensures.signatures c.args.strata.now
    c.requires.strata

pub decide_small-decided-requires-clause-fits : goal.decide_small-decided-requires-clause-fits
decide_small-decided-requires-clause-fits c =
    small_ready c.pruning_law.ensures.occurring c.args.whole.now.signature c.args.whole.now.sentence
    c.in_ok-small.small.signature c.in_ok-small.ensures.signature c.pruning_law.ensures.formulas
    c.in_ok-small.small.sentence c.in_ok-small.ensures.sentence c.requires.fits

pub decide_small-decided-requires-clause-flags : goal.decide_small-decided-requires-clause-flags
decide_small-decided-requires-clause-flags c =
    let sig = c.args.whole.now.signature in
    let q = c.args.whole.now.sentence in
    subst (λ (k : Flags). AreFlags k sig) (sym c.in_ok-small.ensures.kept)
    (c.pruning_law.ensures.occurring sig q).flags

pub decide_small-decided-requires-clause-pruned : goal.decide_small-decided-requires-clause-pruned
decide_small-decided-requires-clause-pruned c =
    c.in_ok-small.ensures.signature
    ∙ ap (λ (k : Flags). pruned_signature k c.args.whole.now.signature) (sym c.in_ok-small.ensures.kept)

pub returns : goal.returns
returns c =
    let e = c.in_ok-small.ensures in
    let small = c.in_ok-small.small in
    by_occurring (ceilings c.args.limits.now) c.args.whole.now.signature c.args.whole.now.sentence small.kept
    small.signature small.sentence e.kept e.signature e.sentence c.in_ok-decided.decided c.in_ok-decided.ensures
