-- Lists of rising numbers.
use Rattle.std.specs.Prelude.{ℕ, ◌<◌, ◌≤◌, List, [], ◌∷◌}

-- rising numbers, from above `last` to at most `most`
abbrev pub AreRising : ℕ → ℕ → List ℕ → Type 0
AreRising most last [] = Unit {0}
AreRising most last (v ∷ vs) = (last < v) × (v ≤ most) × AreRising most v vs
