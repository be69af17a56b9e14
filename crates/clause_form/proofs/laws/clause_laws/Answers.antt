use Rattle.clause_form.specs.Meaning.{atoms_of, true_atoms}
use Rattle.cnf_base.specs.Formulas.{value_of}
use Rattle.ground_terms.specs.Same.{holds_in}
use Rattle.clause_form.proofs.Below.{AtomsAreSame, EntriesAreTrue}
use Rattle.clause_form.proofs.Up.{satisfied_up}
use Rattle.clause_form.proofs.Down.{satisfied_down}
use Rattle.clause_form.proofs.Assigned.{assigned}
use Rattle.clause_form.proofs.laws.clause_laws.Goals as goal

pub returns : goal.returns
returns c =
    let atoms : AtomsAreSame = record { same = c.atom_laws.ensures.same; reflexive = c.atom_laws.ensures.reflexive } in
    let entries : EntriesAreTrue =
    record { opposite_true = c.opposite_laws.ensures.truth; entry_true = c.entry_laws.ensures.truth } in
    record {
      up = λ ps v h. satisfied_up atoms entries v ps h;
      down = λ ps v value e h. satisfied_down atoms entries v value ps e h;
      extends = λ ps values. assigned atoms ps values;
      assigned = λ ps values h.
          satisfied_down atoms entries (holds_in (true_atoms values (atoms_of ps))) (value_of values) ps
          (assigned atoms ps values) h;
    }
