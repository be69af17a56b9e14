-- What the laws of logs say of one more line, as the lemmas here take it.
use Rattle.std.proofs.Common.{◌≡◌, ℕ, ◌||◌, eqb, List, [], ◌∷◌, ◌++◌, length}
use Rattle.lrat_log.specs.declared.line.Line.{Line}
use Rattle.lrat_log.specs.declared.line.Line.TheVariants.{Add, Delete}
use Rattle.lrat_log.specs.declared.outcome.Outcome.TheVariants.{Accepted}
use Rattle.lrat_log.specs.Held.{Held, after_line, after_lines}
use Rattle.lrat_log.specs.Accepted.{last_id, outcome_of, IsFit, IsAcceptedFrom, adds_empty}

pub record AreGrowthLaws : Type 0 where
  pub held : (h : Held) (lines : List Line) (line : Line)
      → after_lines h (lines ++ line ∷ []) ≡ after_line (after_lines h lines) line
  pub last : (n : ℕ) (lines : List Line) (line : Line)
      → last_id n (lines ++ line ∷ []) ≡ last_id (last_id n lines) (line ∷ [])
  pub addition : (lines : List Line) (id : ℕ) (ls hints : List ℕ)
      → adds_empty (lines ++ Add id ls hints ∷ []) ≡ (adds_empty lines || eqb (length ls) 0)
  pub deletion : (lines : List Line) (id : ℕ) (ids : List ℕ)
      → adds_empty (lines ++ Delete id ids ∷ []) ≡ adds_empty lines
  pub accepted : (n : ℕ) (h : Held) (k : ℕ) (lines : List Line) (line : Line) → IsAcceptedFrom n h k lines
      → IsFit n (last_id k lines) line
      → outcome_of (after_lines h lines) line ≡ Accepted → IsAcceptedFrom n h k (lines ++ line ∷ [])
