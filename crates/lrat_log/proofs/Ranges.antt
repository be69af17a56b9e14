-- Logs in a wider range.
use Rattle.std.proofs.Common.{ℕ, ◌≤◌, List, [], ◌∷◌, arith}
use Rattle.cnf_base.specs.Literals.{AreLiterals}
use Rattle.lrat_log.specs.declared.line.Line.{Line}
use Rattle.lrat_log.specs.declared.line.Line.TheVariants.{Add, Delete}
use Rattle.lrat_log.specs.Logs.{IsLogOver}

literals_wider : (n m : ℕ) (ls : List ℕ) → n ≤ m → AreLiterals n ls → AreLiterals m ls
literals_wider n m [] h a = tt
literals_wider n m (l ∷ ls) h a = let x = a.0.1 in ((a.0.0, omega arith), literals_wider n m ls h a.1)

pub log_wider : (n m last least : ℕ) (lines : List Line) → n ≤ m → least ≤ last → IsLogOver n last lines
    → IsLogOver m least lines
log_wider n m last least [] h l a = tt
log_wider n m last least (Add id ls hints ∷ lines) h l a =
    let x = a.0.0 in
    ((omega arith, a.0.1, literals_wider n m ls h a.0.2, a.0.3), log_wider n m id id lines h (omega arith) a.1)
log_wider n m last least (Delete id ids ∷ lines) h l a = (a.0, log_wider n m last least lines h l a.1)
