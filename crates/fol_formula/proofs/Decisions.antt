-- The fragments are decided by their tests.
use Rattle.std.proofs.Common.{◌≡◌, ◌⊎◌, Bool, true, false, Decides, refl, inl, inr}
use Rattle.fol_formula.specs.Decisions.{FragmentsAreDecided}
use Rattle.fol_formula.specs.Deciding.{classes}
use Rattle.fol_formula.proofs.Deciding.{universal_in, exists_forall_in, universal-decides, exists_forall-decides}

either : (b : Bool) (P : Type 0) → Decides b P → P ⊎ (P → ⊥)
either true P d = inl (d.0 refl)
either false P d = inr (λ p. let e : false ≡ true = d.1 p in cc)

pub fragments_are_decided : FragmentsAreDecided
fragments_are_decided = record {
  universal = λ positive p. either (universal_in positive (classes p)) _ (universal-decides positive p);
  exists_forall = λ positive p. either (exists_forall_in positive (classes p)) _ (exists_forall-decides positive p);
}
