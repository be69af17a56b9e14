-- Lists of watches that are empty.
use Rattle.std.proofs.Common.{◌≡◌, ℕ, zero, suc, List, [], ◌∷◌, ◌++◌, get_or, refl}
use Rattle.cdcl_tables.specs.declared.watches.Watch.{Watch}

pub empty_more : (ls : List (List Watch)) (e : List Watch) (i : ℕ) → e ≡ [] → ((k : ℕ) → get_or ls k [] ≡ [])
    → get_or (ls ++ e ∷ []) i [] ≡ []
empty_more [] e zero q a = q
empty_more [] e (suc i) q a = refl
empty_more (l ∷ ls) e zero q a = a 0
empty_more (l ∷ ls) e (suc i) q a = empty_more ls e i q (λ k. a (suc k))
