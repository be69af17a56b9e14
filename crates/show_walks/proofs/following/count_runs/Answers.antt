use Rattle.std.proofs.Common.{◌≡◌, Some, length, refl, sym, ap, ◌∙◌, subst}
use Rattle.std.specs.Prelude.{slice_get}
use Rattle.std.proofs.lemmas.Option.{slice_get_read}
use Rattle.show_walks.proofs.following.count_runs.Goals as goal

-- the run stands among the lengths
pub count_run-requires : goal.count_run-requires
count_run-requires c =
    c.requires c.loop-k.k c.in-Broken.run'
    (subst (λ lengths. slice_get lengths c.loop-k.k ≡ Some c.index-lengths-k.result) c.as_slice-lengths.ensures
    (slice_get_read c.as_slice-lengths.result.now (length c.as_slice-lengths.result.now) c.loop-k.k
    c.index-lengths-k.result refl c.loop-k-test.true c.index-lengths-k.is)
    ∙ ap Some c.in-Broken.is)
