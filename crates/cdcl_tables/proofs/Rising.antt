-- Starts that rise.
use Rattle.std.proofs.Common.{◌≡◌, ℕ, ◌-◌, ◌<◌, ◌≤◌, ◌⊎◌, List, length, get_or, arith, inl, inr}
use Rattle.std.proofs.lemmas.Grind.{common_steps}
use Rattle.std.proofs.lemmas.Bool.{cases_lt}
use Rattle.cdcl_tables.specs.Levels.{AreRising}

pub before_second : (starts : List ℕ) (level second at i : ℕ) → AreRising starts → level < length starts → i < level
    → at ≡ get_or starts (level - 1) at → at < second → get_or starts i 0 < second
before_second starts level second at i r h lt e s =
    let v : at ≡ get_or starts (level - 1) 0 = grind (arith, common_steps, e, h) in
    two (cases_lt i (level - 1)) v
  where
    two : (i < level - 1) ⊎ (level - 1 ≤ i) → at ≡ get_or starts (level - 1) 0 → get_or starts i 0 < second
    two (inl k) v = let x = r i (level - 1) k (omega arith) in omega arith
    two (inr k) v = let q : i ≡ level - 1 = omega arith in rw q (omega arith)
