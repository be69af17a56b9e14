-- The text of a model of any size.
use Rattle.std.specs.Prelude.{ℕ, ◌≤◌, zero, suc, ◌+◌, ◌-◌, List, [], ◌++◌, codes, decimal}
use Rattle.rml_sample.specs.declared.pushing.Piece.{Piece}
use Rattle.rml_sample.specs.declared.pushing.Piece.TheVariants.{Relation, Start, Action, Conjecture}

-- a number between two words
unfoldable pub numbered : List ℕ → ℕ → List ℕ → List ℕ
numbered before n behind = before ++ decimal n ++ behind

-- the declaration of the relation of this number, over the one sort
abbrev pub relation_text : ℕ → List ℕ
relation_text i = numbered (codes "relation r") i (codes "(node)\n")

-- the step of init, behind others, in which the relation of this number becomes empty
abbrev pub start_text : ℕ → List ℕ
start_text i = numbered (codes "; r") i (codes "(x) := false")

-- an element goes over from the relation before
unfoldable pub action_text : ℕ → List ℕ
action_text i =
    numbered (codes "action a") i (codes " { v := *; assume r") ++ numbered [] (i - 1) (codes "(v); insert r")
    ++ numbered [] i (codes "(v) }\n")

-- a relation is contained in the one before
unfoldable pub conjecture_text : ℕ → List ℕ
conjecture_text i =
    numbered (codes "conjecture c") i (codes ": forall x:node. r") ++ numbered [] i (codes "(x) -> r")
    ++ numbered [] (i - 1) (codes "(x)\n")

-- only relations are numbered from 0
abbrev pub IsThere : Piece → ℕ → Type 0
IsThere Relation i = Unit {0}
IsThere Start i = 1 ≤ i
IsThere Action i = 1 ≤ i
IsThere Conjecture i = 1 ≤ i

abbrev pub piece_text : Piece → ℕ → List ℕ
piece_text Relation i = relation_text i
piece_text Start i = start_text i
piece_text Action i = action_text i
piece_text Conjecture i = conjecture_text i

-- so many pieces, numbered from i on
abbrev pub pieces_text : Piece → ℕ → ℕ → List ℕ
pieces_text piece i zero = []
pieces_text piece i (suc n) = piece_text piece i ++ pieces_text piece (i + 1) n

-- Relations r0 to rN start empty; an element enters r0 at will, and each further one from the one before.
unfoldable pub sample_text : ℕ → List ℕ
sample_text n = codes "sort node\nvariable v : node\n" ++ pieces_text Relation 0 (n + 1)
    ++ codes "init { r0(x) := false" ++ pieces_text Start 1 n ++ codes " }\naction a0 { v := *; insert r0(v) }\n"
    ++ pieces_text Action 1 n ++ pieces_text Conjecture 1 n
