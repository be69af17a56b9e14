-- A text that is being written.
use Rattle.std.specs.Prelude.{◌≡◌, ℕ, Bool, IsTrue, List, ◌++◌}

-- what was written, and whether memory sufficed for all of it
pub record Written : Type 0 where
  pub whole : Bool
  pub text : List ℕ

-- the piece was added. A want of memory stays: what is whole now was whole before, and of what is not whole nothing is
-- said
abbrev pub Wrote : Written → Written → List ℕ → Type 0
Wrote old new piece = IsTrue new.whole → IsTrue old.whole × (new.text ≡ old.text ++ piece)

-- nothing was added; what is whole now was whole before, and so is the piece
abbrev pub Needs : Written → Written → Written → Type 0
Needs old new piece = IsTrue new.whole → IsTrue piece.whole × IsTrue old.whole × (new.text ≡ old.text)
