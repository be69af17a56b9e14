use Rattle.show_walks.proofs.following.follow_runs.Goals as goal

pub count_runs-found-requires : goal.count_runs-found-requires
count_runs-found-requires c = λ k run is. (c.in_ok-bounded.ensures.broken k run is).shown.structure
