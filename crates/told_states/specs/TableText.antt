-- The table that a relation takes, where its tuples are given in whatever order.
use Rattle.std.specs.Prelude.{ℕ, Bool, true, false, if◌then◌else◌, List, [], ◌∷◌, ◌++◌, drop, codes}
use Rattle.fol_sig.specs.Tables.{Tables}
use Rattle.fol_sig.specs.TupleSets.{has_tuple}
use Rattle.fol_sig.specs.SymbolTables.{arguments_of}
use Rattle.fol_sig.specs.declared.symbol.Symbol.{Symbol}
use Rattle.told_states.specs.Labels.{Labels}
use Rattle.told_states.specs.ElementText.{arguments_text}
use Rattle.told_states.specs.SymbolText.{relation_symbol, cells_text}

-- a comma, and (node0, node1)
unfoldable pub tuple_text : Labels → List ℕ → List ℕ → List ℕ
tuple_text l ks xs = codes ", " ++ arguments_text l ks xs

-- a tuple, where it is one of the given ones
abbrev pub member_text : Labels → List (List ℕ) → Tables → Symbol → List ℕ → List ℕ
member_text l xss s q xs = if has_tuple xss xs then tuple_text l (arguments_of s q) xs else []

-- those of r's sorts, in lexicographic order
abbrev pub members_text : Labels → Tables → Symbol → List (List ℕ) → List ℕ
members_text l s q xss = cells_text s (member_text l xss s) q

-- in braces, the first without its comma
unfoldable pub set_text : List ℕ → List ℕ
set_text members = codes "{" ++ drop 2 members ++ codes "}"

abbrev pub truth_text : Bool → List ℕ
truth_text true = codes "true"
truth_text false = codes "false"

-- by the sorts of its arguments: true or false where there are none
abbrev pub given_text : Labels → Tables → Symbol → List (List ℕ) → List ℕ → List ℕ
given_text l s q xss [] = truth_text (has_tuple xss [])
given_text l s q xss (k ∷ ks) = set_text (members_text l s q xss)

-- {(node0, node1), (node1, node1)}
abbrev pub table_text : Labels → Tables → ℕ → List (List ℕ) → List ℕ
table_text l s r xss =
    given_text l s (relation_symbol r) xss (arguments_of s (relation_symbol r))
