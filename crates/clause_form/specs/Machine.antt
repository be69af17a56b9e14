-- The clauses, written call by call.
use Rattle.std.specs.Prelude.{ℕ, ◌+◌, ◌==◌, List, [], ◌∷◌, ◌++◌, length, take, drop, if◌then◌else◌}
use Rattle.cnf_base.specs.declared.cnf.Entry.{Entry}
use Rattle.cnf_base.specs.declared.cnf.Entry.TheVariants.{Clause}
use Rattle.ground_terms.specs.declared.ground.Junction.{Junction}
use Rattle.ground_terms.specs.Calls.{Call, a_literal, a_node}
use Rattle.clause_form.specs.declared.frame.Frame.{Frame}
use Rattle.clause_form.specs.Numbers.{Numbers, start, with_place, with_atom, atom_lit, place_lit}
use Rattle.clause_form.specs.Clauses.{definition}

-- The numbers so far; the open nodes, the innermost first; the literals of the parts so far of the open nodes, each
-- node's behind the node's own; the clauses so far.
pub record State : Type 0 where
  pub numbers : Numbers
  pub nodes : List Frame
  pub lits : List ℕ
  pub clauses : List Entry

-- the state with these numbers, open nodes, literals and clauses
abbrev pub state : Numbers → List Frame → List ℕ → List Entry → State
state n fs ls es = record { numbers = n; nodes = fs; lits = ls; clauses = es }

-- The innermost node ends where the literals of all its parts are there. A formula ends where no node is open.
abbrev pub settle_nodes : Numbers → List Frame → List ℕ → List Entry → State
settle_nodes n [] [] es = state n [] [] es
settle_nodes n [] (l ∷ ls) es = state n [] [] (es ++ Clause (l ∷ []) ∷ [])
settle_nodes n (f ∷ fs) ls es =
    if length (drop f.start ls) == f.parts
    then settle_nodes n fs (take f.start ls) (es ++ definition f.junction f.own (drop f.start ls))
    else state n (f ∷ fs) ls es

-- each node whose parts are all there has ended, and a formula has where no node is open
abbrev pub settle : State → State
settle s = settle_nodes s.numbers s.nodes s.lits s.clauses

-- an open node, whose parts' literals come behind these
abbrev pub frame : Junction → Numbers → ℕ → List ℕ → Frame
frame j n parts ls = record { junction = j; own = place_lit n; parts = parts; start = length ls + 1 }

-- a literal, or a node that opens
abbrev pub act : State → Call → State
act s (a_literal a positive) =
    state (with_atom s.numbers a) s.nodes (s.lits ++ atom_lit s.numbers a positive ∷ []) s.clauses
act s (a_node j parts) =
    state (with_place s.numbers) (frame j s.numbers parts s.lits ∷ s.nodes)
    (s.lits ++ place_lit s.numbers ∷ []) s.clauses

-- one call, behind what ends before it
abbrev pub step : State → Call → State
step s call = act (settle s) call

-- the calls, one after another
abbrev pub run : State → List Call → State
run s [] = s
run s (call ∷ calls) = run (step s call) calls

-- before the first call
abbrev pub at_start : State
at_start = state start [] [] []
