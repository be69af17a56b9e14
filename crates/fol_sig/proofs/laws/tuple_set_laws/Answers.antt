use Rattle.fol_sig.proofs.TupleSets.{tables_are_extensional, tables_are_tuples}
use Rattle.fol_sig.proofs.laws.tuple_set_laws.Goals as goal

pub returns : goal.returns
returns c = record { extensional = tables_are_extensional; tuples = tables_are_tuples }
