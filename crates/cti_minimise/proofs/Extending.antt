-- The numbers of an extent, by their places.
use Rattle.std.proofs.Common.{◌≡◌, ℕ, ◌+◌, ◌-◌, ◌<◌, ◌≤◌, [], length, map, get_or, ap, ◌∙◌, arith}
use Rattle.std.proofs.Common.{length-append}
use Rattle.std.proofs.lemmas.List.{length-map, get_or-map, get_or-append-add, get_or_append_left}
use Rattle.fol_sig.specs.Tables.{Tables, Declared, size_at, relation_at}
use Rattle.fol_sig.specs.Symbols.{FitsStructure, symbols}
use Rattle.cti_minimise.specs.Extents.{true_tuples, extent, places}

module _ (sig : Declared) (s : Tables) (fits : FitsStructure (symbols sig) s) where
  pub length-extent : length (extent s) ≡ places sig
  length-extent =
      let all = length-append s.sizes (map (true_tuples s.sizes) s.relations) in
      let count = length-map s.relations (true_tuples s.sizes) in
      let sorts = fits.sorts in
      let relations = fits.relations in
      omega (arith, all, count, sorts, relations)

  pub size-there : (k : ℕ) → k < sig.sorts → get_or (extent s) k 0 ≡ size_at s k
  size-there k lt =
      let sorts = fits.sorts in
      get_or_append_left s.sizes (map (true_tuples s.sizes) s.relations) 0 k (omega (arith, lt, sorts))

  pub number-there : (place : ℕ) → sig.sorts ≤ place → place < places sig
      → get_or (extent s) place 0 ≡ true_tuples s.sizes (relation_at s (place - sig.sorts))
  number-there place le lt =
      let sorts = fits.sorts in
      let relations = fits.relations in
      let r = place - sig.sorts in
      let numbers = map (true_tuples s.sizes) s.relations in
      let at : place ≡ length s.sizes + r = omega (arith, sorts, le) in
      ap (λ i. get_or (extent s) i 0) at ∙ get_or-append-add s.sizes numbers r 0
      ∙ get_or-map (true_tuples s.sizes) s.relations r (record { sorts = []; cells = [] }) 0
      (omega (arith, relations, lt, le))
