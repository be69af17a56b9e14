use Rattle.std.proofs.Common.{◌≡◌, length}
use Rattle.renumbering.proofs.Lists.{IsSpread}
use Rattle.renumbering.proofs.back.spread.Given as goal

abbrev pub invariant-loop-i : goal.invariant-loop-i
invariant-loop-i l = record {
  len : length l.spread ≡ l.variables;
  spread : IsSpread l.names l.values l.spread l.i;
}
