use Rattle.std.proofs.Common.{ℕ, subst}
use Rattle.rml_command.specs.declared.names.Names.{Names}
use Rattle.fol_sig.specs.Tables.{size_at}
use Rattle.told_text.specs.Written.{Wrote}
use Rattle.told_states.specs.BeforeText.{sort_text}
use Rattle.told_states.proofs.Pieces.{one_written}
use Rattle.told_states.proofs.before.push_sorts.Goals as goal

pub loop-sort-preserved : goal.loop-sort-preserved
loop-sort-preserved c =
    let names : Names = c.names-names.result.now in
    one_written c.loop-sort.sort (λ k. sort_text names k (size_at c.args.structure.now k)) _ c.loop-sort.out _
    c.loop-sort.invariant
    (subst (λ (size : ℕ). Wrote c.loop-sort.out c.push_sort.new.out (sort_text names c.loop-sort.sort size))
    c.size.ensures c.push_sort.ensures)
