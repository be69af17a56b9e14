-- An update or a havoc leads from a structure of the signature to another.
use Rattle.std.proofs.Common.{◌<◌, ℕ, Bool, List, sym, subst}
use Rattle.std.specs.Prelude.{reverse}
use Rattle.fol_sig.specs.Tables.{Tables, InRange, reading, size_at}
use Rattle.fol_sig.specs.Updates.{UpdatesRelation, UpdatesFunction}
use Rattle.fol_formula.specs.Truth.{truth, value}
use Rattle.fol_formula.specs.Agree.{ValuesAreInRange}
use Rattle.rml_command.specs.Laws.{UpdatesKeepSymbols}

pub updates_keep_symbols : ((s : Tables) (r : ℕ) (f : List ℕ → Bool) → UpdatesRelation s r f)
    → ((s : Tables) (g : ℕ) (f : List ℕ → ℕ) → UpdatesFunction s g f) → ValuesAreInRange → UpdatesKeepSymbols
updates_keep_symbols relations functions values = record {
  relation = λ sig s r by f h. (relations s r (λ tuple. truth (reading s) by tuple)).fits sig f.0 h;
  function = λ sig s g by f h.
      (functions s g (λ tuple. value (reading s) by tuple)).fits sig f.0
      (λ tuple inside.
      subst (λ m. value (reading s) by tuple < size_at s m) (h.into_of g f.0)
      (values sig s by (reverse (sig.from_of g)) tuple (sig.into_of g) h f.1
      (subst (λ ks. InRange s.sizes (reverse ks) tuple) (sym (h.from_of g f.0)) inside)))
      h;
  variable = λ sig s v x f lt h. (functions s v (λ tuple. x)).fits sig f.0 (λ tuple inside. lt) h;
  table = λ sig s r f known h. (relations s r (λ tuple. f (reverse tuple))).fits sig known h;
}
