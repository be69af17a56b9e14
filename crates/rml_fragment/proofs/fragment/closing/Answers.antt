use Rattle.std.proofs.Common.{◌≡◌, ℕ, ◌<◌, List, Some, length, get_or, refl, sym, ap, ◌∙◌, subst, inr, arith}
use Rattle.std.specs.Prelude.{slice_get}
use Rattle.std.proofs.lemmas.Option.{slice_get-get_or}
use Rattle.fol_sig.specs.Symbols.{symbols}
use Rattle.rml_lex.specs.FaultCodes.{number_of}
use Rattle.rml_command.specs.declared.places.Places.{Places}
use Rattle.rml_fragment.proofs.fragment.closing.Goals as goal

pub returns : goal.returns
returns c =
    let m = c.args.model.now in
    let f = c.args.cycle.function.0 in
    let lt : f < length m.places.functions = omega (arith, c.requires.known, c.places.ensures.model.placed.functions) in
    let same = c.as_slice-places.ensures ∙ ap (λ (p : Places). p.functions) c.places.ensures.value in
    let here = subst (λ (xs : List ℕ). slice_get m.places.functions f ≡ Some (get_or xs f 0)) (sym same)
    (slice_get-get_or m.places.functions f 0 lt) in
    record {
      is_one = record { code = refl; function = f; first = c.requires; at = here };
      least = λ o h.
          let one : f ≡ h.function = c.strata_laws.ensures.one (symbols m.signature) f h.function c.requires h.first in
          let e : Some (get_or c.as_slice-places.result.now f 0) ≡ Some o.at = sym here
          ∙ ap (λ (g : ℕ). slice_get m.places.functions g) one ∙ h.at in
          inr (cc e, omega (arith, ap number_of h.code));
    }
