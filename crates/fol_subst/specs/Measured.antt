-- What the code keeps of what replaces the symbol.
use Rattle.std.specs.Prelude.{◌≡◌, ℕ, ◌<◌, slice_index_or}
use Rattle.fol_sig.specs.Arguments.{max_arguments}
use Rattle.fol_subst.specs.Replace.{Change}
use Rattle.fol_subst.specs.Extents.{extent_of, places_of}
use Rattle.fol_subst.specs.declared.extent.Extent.{Extent}
use Rattle.fol_subst.specs.declared.measure.Measure.{Measure}

-- the extent of what replaces the symbol, and the places there of each of the 8 parameters that it may have
pub record Measures (m : Measure) (c : Change) : Type 0 where
  pub whole : m.whole ≡ extent_of c
  pub places : (i : ℕ) (other : Extent) → i < max_arguments → slice_index_or m.places i other ≡ places_of c i
