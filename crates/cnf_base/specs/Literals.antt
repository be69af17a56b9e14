-- Literals. Variables have the numbers 1, 2, ..; the literal 2 v says that variable v is true, 2 v + 1 that it is
-- false.
use Rattle.std.specs.Prelude.{ℕ, ◌+◌, ◌-◌, ◌*◌, ◌/◌, ◌%◌, ◌<◌, ◌≤◌, ◌==◌, ◌||◌, eqb, Bool, false, not, if◌then◌else◌}
use Rattle.std.specs.Prelude.{List, [], ◌∷◌}

-- the variable that a literal speaks of
abbrev pub variable_of : ℕ → ℕ
variable_of l = l / 2

-- whether it says that the variable is true
abbrev pub is_positive : ℕ → Bool
is_positive l = l % 2 == 0

-- the literal of the variable v that says it is true, or false where `positive` is false
abbrev pub literal_of : Bool → ℕ → ℕ
literal_of positive v = if positive then 2 * v else 2 * v + 1

-- the negation of a literal
unfoldable pub opposite : ℕ → ℕ
opposite l = if is_positive l then l + 1 else l - 1

-- of one of the variables 1 to n
abbrev pub IsLiteral : ℕ → ℕ → Type 0
IsLiteral n l = (0 < variable_of l) × (variable_of l ≤ n)

-- each is a literal of one of the variables 1 to n
abbrev pub AreLiterals : ℕ → List ℕ → Type 0
AreLiterals n [] = Unit {0}
AreLiterals n (l ∷ ls) = IsLiteral n l × AreLiterals n ls

-- whether a literal is true under truth values of the variables
unfoldable pub is_true : (ℕ → Bool) → ℕ → Bool
is_true value l = if is_positive l then value (variable_of l) else not (value (variable_of l))

-- whether a literal stands in a list
abbrev pub member : ℕ → List ℕ → Bool
member x [] = false
member x (y ∷ ys) = eqb x y || member x ys
