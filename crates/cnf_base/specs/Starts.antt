-- Where a word begins, or nothing is left.
use Rattle.std.specs.Prelude.{ℕ, ◌≡◌, true, List, [], ◌∷◌}
use Rattle.cnf_base.specs.declared.text.LineMode.{LineMode}
use Rattle.cnf_base.specs.declared.text.LineMode.TheVariants.{LineStart, InLine, InWord, Comment}
use Rattle.cnf_base.specs.Modes.{begins_word}

-- the next byte begins a word, or there is none
abbrev pub IsAtStart : LineMode → List ℕ → Type 0
IsAtStart mode [] = Unit {0}
IsAtStart mode (b ∷ bytes) = begins_word mode b ≡ true

-- between words, where the next byte may begin one
abbrev pub IsBetween : LineMode → Type 0
IsBetween LineStart = Unit {0}
IsBetween InLine = Unit {0}
IsBetween InWord = ⊥
IsBetween Comment = ⊥
