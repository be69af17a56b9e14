use Rattle.std.proofs.Common.{◌≡◌, ℕ, List, [], map, ap, sym, subst, ◌∙◌}
use Rattle.cnf_base.specs.declared.cnf.Entry.TheVariants.{Clause}
use Rattle.cnf_base.specs.Clauses.{IsClause, entry_of}
use Rattle.renumbering.specs.Named.{named, named_entry}
use Rattle.renumbering.proofs.Naming.{clause_back}
use Rattle.renumbering.proofs.dense.dense_clause.Goals as goal

pub returns-in_ok-dense-in-Some-clause-name : goal.returns-in_ok-dense-in-Some-clause-name
returns-in_ok-dense-in-Some-clause-name c =
    let names = c.args.names.now in
    let own = c.in-Some.dense.items in
    let name : map (named names) own ≡ c.args.clause.now = rw c.in-Some.is at c.in_ok-dense.ensures.name in
    let ok : IsClause own = clause_back names own (subst IsClause (sym name) c.requires) in
    let e : c.in_ok-dense-in-Some.dense ≡ Clause own = c.in_ok-dense-in-Some.ensures
    ∙ ap (entry_of []) c.as_slice.ensures.value ∙ c.entry_laws.ensures.clause own ok in
    ap (named_entry names) e ∙ ap (λ (x : List ℕ). Clause x) name
