-- The structures in which a sentence is true with constants in the place of its existentials.
use Rattle.std.specs.Prelude.{ℕ, true, List}
use Rattle.fol_sig.specs.Tables.{Declared, Tables}
use Rattle.fol_sig.specs.Symbols.{symbols}
use Rattle.fol_formula.specs.Syntax.{FormTree}
use Rattle.fol_nnf.specs.Normal.{normal}
use Rattle.skolem.specs.Constants.{new_sorts}
use Rattle.skolem.specs.Laws.{IsModel}
use Rattle.ground_size.specs.Counting.{skolem_signature}
use Rattle.ea_decide.specs.GroundForm.{skolem_sentence}

-- the sorts of the constants, in the order of the existentials
abbrev pub constant_sorts : FormTree → List ℕ
constant_sorts p = new_sorts (normal true p)

-- the structure, which gives an element to each constant too, satisfies the sentence with constants
abbrev pub HoldsWithConstants : Declared → FormTree → Tables → Type 0
HoldsWithConstants sig p t = IsModel (symbols (skolem_signature sig p)) (skolem_sentence sig p) t
