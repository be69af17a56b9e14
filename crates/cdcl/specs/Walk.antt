-- What holds on the way down the trail from a conflict: from place t on each marked literal was resolved or learnt.
use Rattle.std.specs.Prelude.{ℕ, ◌≡◌, ◌⊎◌, Bool, true, List}
use Rattle.cnf_base.specs.Literals.{opposite, member}
use Rattle.lrat_log.specs.Held.{Held}
use Rattle.lrat_log.specs.Learnt.{StandsInHint, IsChain}
use Rattle.cdcl.specs.declared.trail.Step.{Step}
use Rattle.cdcl.specs.Trail.{IsBelow, IsFrom}

-- hints are the hints from the first on
pub record IsWalk (held : Held) (trail : List Step) (t : ℕ) (marked : ℕ → Bool) (learnt hints : List ℕ) : Type 0 where
  -- each set between the marked literals with what is learnt false, and the trail below t with that, is refuted by the
  -- hints
  pub chain : (set : ℕ → Bool) → ((l : ℕ) → marked l ≡ true → set l ≡ true)
      → ((l : ℕ) → member l learnt ≡ true → set (opposite l) ≡ true)
      → ((l : ℕ) → set l ≡ true → IsBelow trail t l ⊎ (member (opposite l) learnt ≡ true)) → IsChain held hints set
  pub marked_below : (l : ℕ) → marked l ≡ true → IsBelow trail t l
  pub marked_drawn : (l : ℕ) → marked l ≡ true → StandsInHint held hints (opposite l)
  pub learnt_drawn : (l : ℕ) → member l learnt ≡ true → StandsInHint held hints l
  pub learnt_from : (l : ℕ) → member l learnt ≡ true → IsFrom trail t (opposite l)
