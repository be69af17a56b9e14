-- The state that the code holds.
use Rattle.std.specs.Prelude.{◌≡◌, ℕ, ◌==◌, false, List, [], ◌∷◌, length, drop}
use Rattle.clause_form.specs.declared.frame.Frame.{Frame}
use Rattle.clause_form.specs.declared.board.Board.{Board}
use Rattle.clause_form.specs.Numbers.{Numbers}
use Rattle.clause_form.specs.Machine.{State, state}

-- the variables given so far
abbrev pub numbers_of : Board → Numbers
numbers_of b = record { variables = b.variables; atoms = b.atoms }

-- what the code holds, as the state of the machine
abbrev pub state_of : Board → State
state_of b = state (numbers_of b) b.nodes b.lits.items b.clauses.items

-- the innermost node wants more parts
abbrev pub IsOpen : List Frame → List ℕ → Type 0
IsOpen [] ls = Unit {0}
IsOpen (f ∷ fs) ls = (length (drop f.start ls) == f.parts) ≡ false
