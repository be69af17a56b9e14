use Rattle.std.proofs.Common.{◌≡◌, ℕ, ◌||◌, ◌&&◌, not, take}
use Rattle.cnf_base.specs.Literals.{opposite, member}
use Rattle.cdcl.specs.Learning.{is_marked, is_except}
use Rattle.cdcl.proofs.analyse.mark_clause.Given as goal

abbrev pub invariant-loop-l : goal.invariant-loop-l
invariant-loop-l l = (x : ℕ) → is_marked l.marks x
    ≡ (is_marked l.initial.marks x
    || (member (opposite x) (take l.l-index l.clause) && not (is_except l.except (opposite x))))
