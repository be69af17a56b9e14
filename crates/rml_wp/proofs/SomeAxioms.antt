-- The premises behind a primitive are some of the axioms.
use Rattle.std.proofs.Common.{Bool, true, false, cond, List, [], ◌∷◌}
use Rattle.std.specs.List.{AllByRecursion}
use Rattle.fol_formula.specs.Syntax.{FormTree}
use Rattle.fol_occurs.specs.Occurs.{Named, the_rel, the_fun, form_mentions}
use Rattle.rml_command.specs.Trees.{PrimitiveTree, assume, set_rel, set_fun, havoc, havoc_rel, abort}
use Rattle.rml_wp.specs.declared.premises.Premises.{Premises}
use Rattle.rml_wp.specs.declared.premises.Premises.TheVariants.{All, Affected}
use Rattle.rml_wp.specs.Preconditions.{mentioning, premises_at, premises_of}

kept_or_not : (P : FormTree → Type 0) (p : FormTree) (ps : List FormTree) (b : Bool) → P p → AllByRecursion P ps
    → AllByRecursion P (cond b (p ∷ ps) ps)
kept_or_not P p ps true h k = (h, k)
kept_or_not P p ps false h k = k

each_mentioning : (P : FormTree → Type 0) (x : Named) (ps : List FormTree) → AllByRecursion P ps
    → AllByRecursion P (mentioning x ps)
each_mentioning P x [] h = tt
each_mentioning P x (p ∷ ps) h = kept_or_not P p (mentioning x ps) (form_mentions x p) h.0 (each_mentioning P x ps h.1)

pub each_at : (P : FormTree → Type 0) (premises : Premises) (axioms : List FormTree) (x : Named)
    → AllByRecursion P axioms
    → AllByRecursion P (premises_at premises axioms x)
each_at P All axioms x h = h
each_at P Affected axioms x h = each_mentioning P x axioms h

pub each_of : (P : FormTree → Type 0) (premises : Premises) (axioms : List FormTree) → AllByRecursion P axioms
    → (q : PrimitiveTree) → AllByRecursion P (premises_of premises axioms q)
each_of P premises axioms h (assume p) = tt
each_of P premises axioms h (set_rel r by) = each_at P premises axioms (the_rel r) h
each_of P premises axioms h (set_fun f by) = each_at P premises axioms (the_fun f) h
each_of P premises axioms h (havoc v) = each_at P premises axioms (the_fun v) h
each_of P premises axioms h (havoc_rel r) = each_at P premises axioms (the_rel r) h
each_of P premises axioms h abort = tt
