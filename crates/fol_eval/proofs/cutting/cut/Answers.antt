use Rattle.std.proofs.Common.{sym, subst}
use Rattle.fol_sig.specs.Tables.{Tables, reading}
use Rattle.fol_sig.specs.Symbols.{FitsStructure, symbols}
use Rattle.fol_formula.specs.Growing.{ReadsItsOwn}
use Rattle.fol_eval.proofs.cutting.cut.Goals as goal

pub returns-clause-fits : goal.returns-clause-fits
returns-clause-fits c =
    let sig = symbols c.args.signature.now in
    let r = c.growth_laws.ensures.reduce sig c.requires.0 c.args.structure.now c.requires.1 c.requires.2 in
    subst (FitsStructure sig) (sym c.in_ok-cut.ensures) r.fits

pub returns-clause-reads : goal.returns-clause-reads
returns-clause-reads c =
    let sig = symbols c.args.signature.now in
    let s = c.args.structure.now in
    let r = c.growth_laws.ensures.reduce sig c.requires.0 s c.requires.1 c.requires.2 in
    subst (λ (t : Tables). ReadsItsOwn sig (reading s) (reading t)) (sym c.in_ok-cut.ensures)
    (c.growth.ensures.truth sig (reading s) _ r.alike)
