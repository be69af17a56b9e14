-- What the pieces of some words are: the words again, with a 0 at the end of each whole piece and none elsewhere.
use Rattle.std.specs.Prelude.{◌≡◌, true, false, List, [], ◌∷◌, ◌++◌}
use Rattle.cnf_base.specs.Words.{Word}
use Rattle.cnf_base.specs.Pieces.{Pieces, is_zero}

-- a 0 stands at the end, and nowhere else
abbrev pub EndsAtZero : List Word → Type 0
EndsAtZero [] = ⊥
EndsAtZero (w ∷ []) = is_zero w ≡ true
EndsAtZero (w ∷ (v ∷ ws)) = (is_zero w ≡ false) × EndsAtZero (v ∷ ws)

-- each piece ends at its only 0
abbrev pub AreEnded : List (List Word) → Type 0
AreEnded [] = Unit {0}
AreEnded (p ∷ ps) = EndsAtZero p × AreEnded ps

-- no word is 0
abbrev pub HasNoZero : List Word → Type 0
HasNoZero [] = Unit {0}
HasNoZero (w ∷ ws) = (is_zero w ≡ false) × HasNoZero ws

-- the words of the pieces one after another, and the rest behind them
abbrev pub joined : List (List Word) → List Word → List Word
joined [] rest = rest
joined (p ∷ ps) rest = p ++ joined ps rest

-- these are the words, cut behind each 0
pub record AreCut (ps : Pieces) (ws : List Word) : Type 0 where
  pub same : joined ps.whole ps.rest ≡ ws
  pub whole : AreEnded ps.whole
  pub rest : HasNoZero ps.rest
