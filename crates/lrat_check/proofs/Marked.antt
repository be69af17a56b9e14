-- Marks of spans.
use Rattle.std.proofs.Common.{◌≡◌, ℕ, ◌<◌, ◌||◌, eqb, List, length, set, arith}
use Rattle.std.proofs.lemmas.Grind.{common_steps}
use Rattle.lrat_check.specs.Spans.{marked, AreUpTo}

pub marked-set : (marks : List ℕ) (epoch p : ℕ) → p < length marks → (x : ℕ)
    → marked (set marks p epoch) epoch x ≡ (eqb x p || marked marks epoch x)
marked-set marks epoch p h x = grind (arith, common_steps)

pub up_to_set : (marks : List ℕ) (epoch p : ℕ) → AreUpTo epoch marks → AreUpTo epoch (set marks p epoch)
up_to_set marks epoch p h k = let hk = h k in grind (arith, common_steps, hk)
