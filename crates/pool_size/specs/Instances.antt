-- The nodes of the instance of a normal form, as they are counted of each tree. Private contracts alone cite this.
use Rattle.std.specs.Prelude.{ℕ, List}
use Rattle.fol_nnf.specs.Normal.{leaves, leaves_of_terms}
use Rattle.fol_pool.specs.Trees.{Tree, a_form, some_forms, a_term, some_terms}
use Rattle.ground_size.specs.Leaves.{AreSizesOf, AreSizesOfAll, AreLeavesOf}
use Rattle.pool_size.specs.declared.measure.Measure.{Measure}
use Rattle.pool_size.specs.declared.measure.Measure.TheVariants.{Sizes, Leaves}

-- what is counted of a tree
abbrev pub IsMeasured : List ℕ → Tree → Measure → Type 0
IsMeasured counts (a_form p) (Sizes s) = AreSizesOf counts p s
IsMeasured counts (a_form p) (Leaves l) = ⊥
IsMeasured counts (some_forms ps) (Sizes s) = AreSizesOfAll counts ps s
IsMeasured counts (some_forms ps) (Leaves l) = ⊥
IsMeasured counts (a_term t) (Sizes s) = ⊥
IsMeasured counts (a_term t) (Leaves l) = AreLeavesOf counts (leaves t) l
IsMeasured counts (some_terms ts) (Sizes s) = ⊥
IsMeasured counts (some_terms ts) (Leaves l) = AreLeavesOf counts (leaves_of_terms ts) l
