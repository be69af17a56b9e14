use Rattle.std.proofs.Common.{◌≡◌, ◌+◌, min}
use Rattle.ground_terms.specs.AtomNumbers.{equation_atoms}
use Rattle.ground_terms.proofs.Pushes.{AreValues}
use Rattle.ground_terms.proofs.atom_numbers.equation_firsts.Given as goal

abbrev pub invariant-loop-k : goal.invariant-loop-k
invariant-loop-k l = record {
  before : l.before ≡ min (equation_atoms l.counts l.k) 18446744073709551615;
  firsts : AreValues (λ q. min (equation_atoms l.counts q) 18446744073709551615) (l.k + 1) l.firsts.items;
}
