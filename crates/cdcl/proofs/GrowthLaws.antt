-- What the laws of logs say of one more line, as the lemmas here take it.
use Rattle.std.proofs.Common.{◌≡◌, ℕ, List, [], ◌∷◌, ◌++◌}
use Rattle.lrat_log.specs.declared.line.Line.{Line}
use Rattle.lrat_log.specs.declared.line.Line.TheVariants.{Add}
use Rattle.lrat_log.specs.declared.outcome.Outcome.TheVariants.{Accepted}
use Rattle.lrat_log.specs.Held.{Held, after_line, after_lines}
use Rattle.lrat_log.specs.Accepted.{last_id, outcome_of, IsFit, IsAcceptedFrom}
use Rattle.lrat_log.specs.Learnt.{IsLearnt, AreLearntFrom}
use Rattle.lrat_log.specs.Logs.{IsLineOver, IsLogOver}

pub record AreGrowthLaws : Type 0 where
  pub held : (h : Held) (lines : List Line) (line : Line) → after_lines h (lines ++ line ∷ [])
      ≡ after_line (after_lines h lines) line
  pub last : (n : ℕ) (lines : List Line) (line : Line) → last_id n (lines ++ line ∷ [])
      ≡ last_id (last_id n lines) (line ∷ [])
  pub log : (n k : ℕ) (lines : List Line) (line : Line) → IsLogOver n k lines → IsLineOver n (last_id k lines) line
      → IsLogOver n k (lines ++ line ∷ [])
  pub accepted : (n : ℕ) (h : Held) (k : ℕ) (lines : List Line) (line : Line) → IsAcceptedFrom n h k lines
      → IsFit n (last_id k lines) line
      → outcome_of (after_lines h lines) line ≡ Accepted → IsAcceptedFrom n h k (lines ++ line ∷ [])
  pub learnt : (n : ℕ) (h : Held) (k : ℕ) (lines : List Line) (id : ℕ) (ls hints : List ℕ) → AreLearntFrom n h k lines
      → IsFit n (last_id k lines) (Add id ls hints)
      → IsLearnt (after_lines h lines) ls hints → AreLearntFrom n h k (lines ++ Add id ls hints ∷ [])
