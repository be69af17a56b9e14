use Rattle.std.proofs.Common.{length}
use Rattle.fol_sig.specs.Symbols.{symbols}
use Rattle.fol_pool.specs.Trees.{Grows, HasForm, form_at}
use Rattle.rml_wp.specs.declared.premises.Premises.TheVariants.{All}
use Rattle.rml_wp.specs.Preconditions.{target_of, premises_of}
use Rattle.rml_wp.specs.Backward.{IsBack}
use Rattle.pool_wp.proofs.path.along.Given as goal

abbrev pub invariant-loop-primitive : goal.invariant-loop-primitive
invariant-loop-primitive l = record {
  grows : Grows l.fn.pool l.pool;
  there : HasForm l.pool l.now.0;
  back : IsBack (symbols l.model.signature) (symbols l.model.signature)
      (premises_of All l.model.axioms) (target_of l.model l.fn.about) (length l.model.signature.relations)
      l.path l.before l.fresh (form_at l.pool l.now.0);
}

abbrev pub decreases-loop-primitive : goal.decreases-loop-primitive
decreases-loop-primitive l = length l.before
