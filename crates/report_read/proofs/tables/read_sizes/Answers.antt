use Rattle.std.proofs.Common.{ℕ, ◌<◌, List, [], ◌∷◌, length, All, rules, sym, ap, ◌∙◌, subst, arith, length-append}
use Rattle.std.proofs.lemmas.List.Elements.{All-push}
use Rattle.line_scan.specs.Scanning.{name_at}
use Rattle.rml_command.specs.Models.{ModelTree}
use Rattle.rml_command.specs.declared.names.Names.{Names}
use Rattle.report_read.proofs.Lengths.{size_positive}
use Rattle.report_read.proofs.Turns.{sizes_turn, sizes_stop, reads_unread}
use Rattle.report_read.proofs.tables.read_sizes.Goals as goal

pub returns-in_default-clause-reads : goal.returns-in_default-clause-reads
returns-in_default-clause-reads c =
    let named = c.as_slice-names.ensures ∙ ap (λ (n : Names). n.sorts)
    (c.names.ensures.value ∙ ap (λ (m : ModelTree). m.names) c.model.ensures.value) in
    let lt : c.loop-sort.sort < c.args.checked.now.signature.sorts = search rules in
    reads_unread _ c.loop-sort.reader c.unread.result
    (sym c.loop-sort.invariant.reads
    ∙ sizes_stop c.args.checked.now.names c.loop-sort.sort c.args.checked.now.signature.sorts c.loop-sort.sizes _ _
    c.loop-sort.reader c.size_in.result lt named c.first.ensures c.size_in.ensures c.in_default.is)
    c.unread.ensures

pub loop-sort-preserved : goal.loop-sort-preserved
loop-sort-preserved c =
    let named = c.as_slice-names.ensures ∙ ap (λ (n : Names). n.sorts)
    (c.names.ensures.value ∙ ap (λ (m : ModelTree). m.names) c.model.ensures.value) in
    let lt : c.loop-sort.sort < c.args.checked.now.signature.sorts = search rules in
    record {
      reads = sizes_turn c.args.checked.now.names c.loop-sort.sort c.args.checked.now.signature.sorts c.in-Some.size
          c.loop-sort.sizes c.push.new.self _ _ c.loop-sort.reader c.pass.new.self c.size_in.result lt named
          c.first.ensures c.size_in.ensures c.in-Some.is c.in_ok-push.ensures.pushed c.pass.ensures
          ∙ c.loop-sort.invariant.reads;
      count = omega (
        arith,
        ap (λ (l : List ℕ). length l) c.in_ok-push.ensures.pushed,
        length-append c.loop-sort.sizes (c.in-Some.size ∷ []),
        c.loop-sort.invariant.count,
      );
      positive = subst (All (λ n. 0 < n)) (sym c.in_ok-push.ensures.pushed)
          (All-push (λ n. 0 < n) c.loop-sort.sizes c.in-Some.size c.loop-sort.invariant.positive
          (size_positive (name_at c.as_slice-names.result.now c.loop-sort.sort) c.first.result.now c.in-Some.size
          c.size_in.result c.size_in.ensures c.in-Some.is));
    }
