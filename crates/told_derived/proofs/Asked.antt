-- What fits may be evaluated at each tuple of its parameters.
use Rattle.std.proofs.Common.{◌++◌, ℕ, List, [], ◌∷◌, reverse, subst, sym}
use Rattle.std.proofs.lemmas.List.{append-nil}
use mathlib.Core.List.{reverse_aux}
use Rattle.fol_sig.specs.Tables.{Tables, InRange}
use Rattle.fol_formula.specs.Fits.{HasTruth}
use Rattle.told_derived.specs.Definitions.{Derived, CanAsk}

-- the elements of a tuple, the last one first, before others
in_range_back : (sizes ks js xs ys : List ℕ) → InRange sizes ks xs → InRange sizes js ys
    → InRange sizes (reverse_aux ks js) (reverse_aux xs ys)
in_range_back sizes [] js [] ys h e = e
in_range_back sizes [] js (x ∷ xs) ys h e = absurd h
in_range_back sizes (k ∷ ks) js [] ys h e = absurd h
in_range_back sizes (k ∷ ks) js (x ∷ xs) ys h e = in_range_back sizes ks (k ∷ js) xs (x ∷ ys) h.1 (h.0, e)

pub has_truth : (s : Tables) (r : Derived) (xs : List ℕ) → CanAsk s r → InRange s.sizes r.sorts xs
    → HasTruth s r.body (reverse xs ++ [])
has_truth s r xs can h = record {
  sig = can.sig;
  sorts = reverse r.sorts;
  structure = can.structure;
  formula = can.fits.body;
  elements = subst (InRange s.sizes (reverse r.sorts)) (sym (append-nil (reverse xs)))
      (in_range_back s.sizes r.sorts [] xs [] h tt);
}
