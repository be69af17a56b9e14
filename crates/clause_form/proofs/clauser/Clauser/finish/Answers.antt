use Rattle.std.proofs.Common.{◌∙◌, ap, sym, subst}
use Rattle.cnf_base.specs.Formulas.{IsFormula}
use Rattle.clause_form.specs.Boards.{state_of}
use Rattle.clause_form.proofs.Below.{EntriesAreIn}
use Rattle.clause_form.proofs.Standing.{whole, not_full, is_formula_of}
use Rattle.clause_form.proofs.clauser.Clauser.finish.Goals as goal

pub new-cnf-requires : goal.new-cnf-requires
new-cnf-requires c =
    let r = c.requires in
    let entries : EntriesAreIn =
    record { opposite_in = c.opposite_laws.ensures.literal; entry_in = c.entry_laws.ensures.entry } in
    subst (λ es. IsFormula (record { variables = c.settle.new.self.variables; clauses = es })) (sym c.from_vec.ensures)
    (is_formula_of entries (state_of c.settle.new.self) r.0
    (whole (state_of c.args.self.board) (state_of c.settle.new.self) r.0 (not_full _ r.0 c.args.self.full r.1 r.2)
    c.in_ok-settle.ensures.ended))

pub returns : goal.returns
returns c =
    λ ps h b. let w =
    whole (state_of c.args.self.board) (state_of c.settle.new.self) ps (not_full _ ps c.args.self.full h b)
    c.in_ok-settle.ensures.ended in (
      c.new-cnf.ensures ∙ ap (λ es. record { variables = c.settle.new.self.variables; clauses = es }) c.from_vec.ensures
          ∙ (λ i. record { variables = (w.numbers i).variables; clauses = w.clauses i }),
      c.into_map.ensures ∙ ap (λ n. n.atoms) w.numbers,
    )
