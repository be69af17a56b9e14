use Rattle.std.proofs.Common.{◌≡◌, ◌+◌, ◌∷◌, Some, get_or, drop, sym, subst}
use Rattle.std.proofs.Math.ListN.{drop_of_length-le}
use Rattle.std.proofs.lemmas.List.{drop_more}
use Rattle.rml_lex.specs.declared.fault_code.FaultCode.TheVariants as fault_code
use Rattle.rml_fragment.specs.Faults.{QuantifierStands}
use Rattle.rml_fragment.specs.Search.{IsFirstSoFar}
use Rattle.rml_fragment.proofs.FirstFault.{step, done, alone-first}
use Rattle.rml_fragment.proofs.fragment.quantifier_fault.Goals as goal

pub loop-at-preserved : goal.loop-at-preserved
loop-at-preserved c =
    let xs = c.args.places.now in
    let i = c.loop-at.at-index in
    let x = get_or xs i 0 in
    let split : drop i xs ≡ x ∷ drop (i + 1) xs = drop_more xs i 0 c.loop-at-test.true in
    subst (λ o. IsFirstSoFar (QuantifierStands xs) (QuantifierStands (drop (i + 1) xs)) o) (sym c.earlier-first.ensures)
    (step (QuantifierStands xs) (λ f. (f.at ≡ x) × (f.code ≡ fault_code.NotQuantifierFree))
    (QuantifierStands (drop (i + 1) xs)) c.loop-at.first (Some (record { code = fault_code.NotQuantifierFree; at = x }))
    (subst (λ zs. IsFirstSoFar (QuantifierStands xs) (QuantifierStands zs) c.loop-at.first) split c.loop-at.invariant)
    (alone-first fault_code.NotQuantifierFree x))

pub returns : goal.returns
returns c =
    let xs = c.args.places.now in
    let i = c.loop-at.at-index in
    done (QuantifierStands xs) (QuantifierStands (drop i xs)) c.loop-at.first
    (λ f h. subst (λ zs. QuantifierStands zs f) (drop_of_length-le xs c.loop-at-test.false) h) c.loop-at.invariant
