use Rattle.std.proofs.Common.{ℕ, nat_eq, length, ap, sym, ◌∙◌}
use Rattle.rml_terms.specs.Tree.{expr_trees, exprs_of}
use Rattle.rml_sort_check.specs.Demands.{expr_count}
use Rattle.rml_sort_check.proofs.Judged.{expr_count-of, numbers-length}
use Rattle.rml_sort_check.proofs.targets.is_counted.Goals as goal

pub returns : goal.returns
returns c =
    ap (λ (n : ℕ). nat_eq n (length c.args.sorts.now)) (sym (expr_count-of c.args.args.now))
    ∙ ap (λ (n : ℕ). nat_eq (expr_count (exprs_of (expr_trees c.args.args.now))) n)
    (sym (numbers-length c.args.sorts.now))
