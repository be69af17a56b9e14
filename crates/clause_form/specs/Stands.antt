-- Which calls a Clauser stands for.
use Rattle.std.specs.Prelude.{◌≡◌, ◌<◌, Bool, true, false, List}
use Rattle.ground_terms.specs.Calls.{Call}
use Rattle.clause_form.specs.declared.clauser.Clauser.{Clauser}
use Rattle.clause_form.specs.Machine.{State, settle, run, at_start}
use Rattle.clause_form.specs.Boards.{state_of}

-- it has written what the calls write, or they have too many variables
abbrev pub StandsBy : Bool → State → List Call → Type 0
StandsBy false s calls = settle s ≡ settle (run at_start calls)
StandsBy true s calls = 2147483647 < (run at_start calls).numbers.variables

-- it stands for these calls: it wrote what they write, or it is full and they have too many variables
abbrev pub Stands : Clauser → List Call → Type 0
Stands c calls = StandsBy c.full (state_of c.board) calls
