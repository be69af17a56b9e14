-- Places that ascend.
use Rattle.std.specs.Prelude.{◌≤◌, ℕ, List, [], ◌∷◌, map}
use Rattle.rml_phrases.specs.Language.{Tokens}

-- the first place stands at `from` or behind it, each other one no earlier than the one before it, and the last one at
-- `to` or before it
abbrev pub AscendBetween : ℕ → ℕ → List ℕ → Type 0
AscendBetween from to [] = from ≤ to
AscendBetween from to (at ∷ places) = (from ≤ at) × AscendBetween at to places

-- no place stands before the one in front of it
abbrev pub Ascend : List ℕ → Type 0
Ascend places = (to : ℕ) × AscendBetween 0 to places

-- where tokens begin
abbrev pub starts : Tokens → List ℕ
starts ts = map (λ t. t.start) ts
