use Rattle.std.proofs.Common.{◌≡◌, false, List, ℕ, sym, subst}
use Rattle.rml_names.specs.Meanings.{is_symbol}
use Rattle.rml_names.specs.Drafts.{words_in}
use Rattle.rml_names.proofs.NewNames.{no_relation}
use Rattle.rml_names.proofs.declarations.Declarations.add_relation.Goals as goal

pub insert-requires-clause-new : goal.insert-requires-clause-new
insert-requires-clause-new c =
    let m = words_in c.args.self.now in
    no_relation m c.bytes.result.now
    (subst (λ (n : List ℕ). is_symbol m n ≡ false) (sym c.bytes.ensures) c.requires.new)
