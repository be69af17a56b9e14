use Rattle.std.proofs.Common.{◌≡◌, ◌+◌, min}
use Rattle.fol_sig.specs.Symbols.{symbols}
use Rattle.ground_terms.specs.AtomNumbers.{relation_atoms}
use Rattle.ground_terms.proofs.Pushes.{AreValues}
use Rattle.ground_terms.proofs.atom_numbers.relation_firsts.Given as goal

abbrev pub invariant-loop-r : goal.invariant-loop-r
invariant-loop-r l = record {
  before : l.before ≡ min (relation_atoms (symbols l.signature) l.counts l.r) 18446744073709551615;
  firsts : AreValues (λ q. min (relation_atoms (symbols l.signature) l.counts q) 18446744073709551615) (l.r + 1)
      l.firsts.items;
}
