use Rattle.clause_form.proofs.Counting.{few_clauses, few_places, atoms_and_places}
use Rattle.clause_form.proofs.FlatCounting.{few_clauses_behind, few_places_behind}
use Rattle.clause_form.proofs.AtomCounting.{few_variables_behind}
use Rattle.clause_form.proofs.Below.{AtomsAreSame}
use Rattle.clause_form.proofs.laws.size_laws.Goals as goal

pub returns : goal.returns
returns c =
    let atoms : AtomsAreSame = record { same = c.atom_laws.ensures.same; reflexive = c.atom_laws.ensures.reflexive } in
    record {
      clauses = few_clauses;
      variables = few_places;
      each = atoms_and_places;
      clauses_behind = few_clauses_behind;
      places_behind = few_places_behind;
      variables_behind = few_variables_behind atoms;
    }
