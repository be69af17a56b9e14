use Rattle.std.proofs.Common.{◌≡◌, None, arith, refl, sym, subst, slice_set}
use Rattle.fol_sig.specs.Symbols.{symbols}
use Rattle.clause_form.specs.Numbers.{variable_in}
use Rattle.clause_form.specs.Tables.{FindsEach}
use Rattle.clause_form.proofs.Below.{AtomsAreSame}
use Rattle.clause_form.proofs.Tables.{same-row, added-numbered, added-unnumbered}
use Rattle.clause_form.proofs.atom_table.AtomTable.add.Goals as goal

pub make_room-requires : goal.make_room-requires
make_room-requires c =
    let s = c.self.inside.numbers in
    let is = c.in-Some.ensures.some in
    let within = (c.atom_laws.ensures.numbered (symbols s.signature) s.counts).within c.args.atom is.0 in
    omega (arith, within, is.1, is.2)

pub invariant_of-self-2 : goal.invariant_of-self-2
invariant_of-self-2 c =
    let s = c.self.inside.numbers in
    let xs = c.self.inside.atoms.items in
    let is = c.in-Some.ensures.some in
    let same : AtomsAreSame = record { same = c.atom_laws.ensures.same; reflexive = c.atom_laws.ensures.reflexive } in
    let new : variable_in xs c.args.atom ≡ None = rw c.self.view_is c.requires.new in
    let wider =
    same-row s c.self.inside.row.items c.make_room.new.row.items xs c.self.invariant
    c.in_ok-make_room.ensures.same in
    subst (FindsEach s (slice_set c.make_room.new.row.items c.in-Some.number c.args.variable))
    (sym c.in_ok-push-2.ensures.items)
    (added-numbered same s c.make_room.new.row.items xs c.args.atom c.args.variable c.in-Some.number
    (c.atom_laws.ensures.numbered (symbols s.signature) s.counts)
    wider new c.requires.range is.0 is.1 c.in_ok-make_room.ensures.room)

pub invariant_of-self-in_default : goal.invariant_of-self-in_default
invariant_of-self-in_default c =
    let s = c.self.inside.numbers in
    let xs = c.self.inside.atoms.items in
    let same : AtomsAreSame = record { same = c.atom_laws.ensures.same; reflexive = c.atom_laws.ensures.reflexive } in
    let new : variable_in xs c.args.atom ≡ None = rw c.self.view_is c.requires.new in
    subst (FindsEach s c.self.inside.row.items) (sym c.in_ok-push.ensures.items)
    (added-unnumbered same s c.self.inside.row.items xs c.args.atom c.args.variable c.self.invariant new
    c.requires.range (c.in_default.ensures.none refl))
