-- One more clause is watched.
use Rattle.std.specs.Prelude.{ℕ, ◌+◌, ◌≡◌, List, [], ◌∷◌, ◌++◌, length, Some}
use Rattle.cnf_base.specs.declared.cnf.Entry.TheVariants.{Clause}
use Rattle.lrat_log.specs.Held.{Held}
use Rattle.cdcl_tables.specs.declared.watches.Pair.{Pair}
use Rattle.cdcl_tables.specs.declared.watches.Watches.{Watches}
use Rattle.cdcl.specs.Watch.{pair_at, list_at, IsPairOf, StandsIn, AreWatches}

-- a clause with this pair stands behind the others, and in the lists of both its literals, unless these are one
pub record IsAdded (old new : Watches) (place : ℕ) (p : Pair) : Type 0 where
  pub paired : new.pairs.items ≡ old.pairs.items ++ p ∷ []
  pub same_size : length new.lists.items ≡ length old.lists.items
  -- what stood in a list still stands there
  pub grown : (x k : ℕ) → StandsIn (list_at old.lists.items x) k → StandsIn (list_at new.lists.items x) k
  -- the clause stands in the lists of its pair
  pub in_first : (p.first ≡ p.second → ⊥) → StandsIn (list_at new.lists.items p.first) place
  pub in_second : (p.first ≡ p.second → ⊥) → StandsIn (list_at new.lists.items p.second) place
  -- and nothing else
  pub are_watches : (held : Held)
      → ((p.first ≡ p.second → ⊥) → (c : List ℕ) × (held (place + 1) ≡ Some (Clause c)) × IsPairOf c p)
      → ((x : ℕ) → AreWatches held (pair_at new.pairs.items) (list_at old.lists.items x)) → (x : ℕ)
      → AreWatches held (pair_at new.pairs.items) (list_at new.lists.items x)
