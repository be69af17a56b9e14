-- Structures that differ in their tables alone.
use Rattle.std.specs.Prelude.{◌≡◌, ℕ, ◌<◌, length}
use Rattle.fol_sig.specs.Tables.{Tables, IsStructure, relation_at, function_at}

-- two structures with the same sorts, sizes and symbols
pub record AreAlike (s t : Tables) : Type 0 where
  pub before : IsStructure s
  pub sizes : t.sizes ≡ s.sizes
  pub relations : length t.relations ≡ length s.relations
  pub functions : length t.functions ≡ length s.functions
  pub relation_sorts : (r : ℕ) → r < length s.relations → (relation_at t r).sorts ≡ (relation_at s r).sorts
  pub function_sorts : (f : ℕ) → f < length s.functions → (function_at t f).sorts ≡ (function_at s f).sorts
