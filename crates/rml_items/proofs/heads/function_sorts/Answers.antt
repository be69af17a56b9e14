use Rattle.std.proofs.Common.{◌++◌, ◌∷◌, [], ℕ, List, map, ap, ◌∙◌}
use Rattle.fol_sig.specs.declared.Sort.{Sort}
use Rattle.rml_names.specs.Meanings.{sort_number}
use Rattle.rml_items.specs.Items.{sort_known, sort_demands}
use Rattle.rml_names.specs.Drafts.{words_in}
use Rattle.rml_items.specs.Answered.{at_err, refuses_left, refuses_right, both_met}
use Rattle.rml_items.proofs.heads.function_sorts.Goals as goal

abbrev both : List ℕ × Sort → List ℕ × ℕ
both p = (p.0, p.1.0)

pub returns-in_err-from-clause-sorts : goal.returns-in_err-from-clause-sorts
returns-in_err-from-clause-sorts c =
    let text = c.args.text.now in
    let m = words_in c.args.known.now in
    let ds = sort_demands text m 0 c.args.sorts.now in
    let one = sort_known text m c.args.sort ∷ [] in
    at_err both c.from_residual.result c.in_err-from.field-0.0 (ds ++ one)
    (map (sort_number text m) c.args.sorts.now, sort_number text m c.args.sort) c.from_residual.ensures.1
    (refuses_left ds one c.in_err-from.field-0.0 c.in_err-from.ensures.sorts)

pub returns-in_err-into-clause-sorts : goal.returns-in_err-into-clause-sorts
returns-in_err-into-clause-sorts c =
    let text = c.args.text.now in
    let m = words_in c.args.known.now in
    let ds = sort_demands text m 0 c.args.sorts.now in
    let one = sort_known text m c.args.sort ∷ [] in
    at_err both c.from_residual-in_err-into.result c.in_err-into.field-0.0 (ds ++ one)
    (map (sort_number text m) c.args.sorts.now, sort_number text m c.args.sort)
    c.from_residual-in_err-into.ensures.1
    (refuses_right ds one c.in_err-into.field-0.0 c.in_ok-from.ensures.sorts.1 c.in_err-into.ensures.sort)

pub returns-clause-sorts : goal.returns-clause-sorts
returns-clause-sorts c =
    let text = c.args.text.now in
    let m = words_in c.args.known.now in
    let ds = sort_demands text m 0 c.args.sorts.now in
    let one = sort_known text m c.args.sort ∷ [] in (
      ap (λ (ks : List ℕ). (ks, c.in_ok-into.into.0)) c.in_ok-from.ensures.sorts.0
          ∙ ap (λ (k : ℕ). (map (sort_number text m) c.args.sorts.now, k)) c.in_ok-into.ensures.sort.0,
      both_met ds one c.in_ok-from.ensures.sorts.1 c.in_ok-into.ensures.sort.1,
    )
