use Rattle.std.proofs.Common.{ap, true, false}
use Rattle.std.proofs.lemmas.Bool.Decides.{Decides-at}
use Rattle.fol_formula.specs.View.{form}
use Rattle.fol_formula.specs.Deciding.{classes}
use Rattle.fol_formula.proofs.Deciding.{universal_in, exists_forall_in, universal-decides, exists_forall-decides}
use Rattle.fol_formula.proofs.Formula.prefix_classes.Goals as goal

pub returns-clause-universal : goal.returns-clause-universal
returns-clause-universal c =
    Decides-at c.classes_of.result.universal (universal_in true (classes (form c.args.self.now)))
    (ap (universal_in true) c.classes_of.ensures) (universal-decides true (form c.args.self.now))

pub returns-clause-existential : goal.returns-clause-existential
returns-clause-existential c =
    Decides-at c.classes_of.result.existential (universal_in false (classes (form c.args.self.now)))
    (ap (universal_in false) c.classes_of.ensures) (universal-decides false (form c.args.self.now))

pub returns-clause-exists_forall : goal.returns-clause-exists_forall
returns-clause-exists_forall c =
    Decides-at c.classes_of.result.exists_forall (exists_forall_in true (classes (form c.args.self.now)))
    (ap (exists_forall_in true) c.classes_of.ensures) (exists_forall-decides true (form c.args.self.now))

pub returns-clause-forall_exists : goal.returns-clause-forall_exists
returns-clause-forall_exists c =
    Decides-at c.classes_of.result.forall_exists (exists_forall_in false (classes (form c.args.self.now)))
    (ap (exists_forall_in false) c.classes_of.ensures) (exists_forall-decides false (form c.args.self.now))
