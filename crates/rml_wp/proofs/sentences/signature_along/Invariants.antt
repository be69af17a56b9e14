use Rattle.std.proofs.Common.{◌≡◌, ◌<◌, ◌++◌, length, map}
use Rattle.std.specs.List.{AllByRecursion}
use Rattle.fol_sig.specs.Symbols.{symbols}
use Rattle.fol_sig.specs.declared.RelId.{RelId}
use Rattle.rml_command.specs.Models.{FitsPath}
use Rattle.rml_command.specs.Fresh.{havocked}
use Rattle.rml_wp.proofs.Backward.{sorts_at}
use Rattle.rml_wp.proofs.sentences.signature_along.Given as goal

abbrev pub invariant-loop-primitive : goal.invariant-loop-primitive
invariant-loop-primitive l = record {
  listed : sorts_at l.model.signature (map (λ (r : RelId). r.0) l.havocked.items)
      ++ havocked (symbols l.model.signature) l.primitive-iterator ≡ havocked (symbols l.model.signature) l.path;
  known : AllByRecursion (λ r. r < length l.model.signature.relations) (map (λ (r : RelId). r.0) l.havocked.items);
  fits : FitsPath (symbols l.model.signature) l.primitive-iterator;
}
