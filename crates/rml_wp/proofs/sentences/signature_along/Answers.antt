use Rattle.std.proofs.Common.{◌<◌, ◌++◌, List, length, map, get_or, sym, ap, ◌∙◌, subst, append-nil}
use Rattle.std.specs.List.{AllByRecursion}
use Rattle.fol_sig.specs.Tables.{Declared}
use Rattle.fol_sig.specs.Symbols.{symbols}
use Rattle.fol_sig.specs.Growing.{grown_by_relations}
use Rattle.fol_sig.specs.declared.RelId.{RelId}
use Rattle.rml_command.specs.Fresh.{havocked}
use Rattle.rml_wp.proofs.Backward.{sorts_at, ids-known, ids-sorts}
use Rattle.rml_wp.proofs.sentences.signature_along.Goals as goal

pub with_fresh_relations-requires-clause-known : goal.with_fresh_relations-requires-clause-known
with_fresh_relations-requires-clause-known c =
    let m = c.args.model.now in
    let ids = c.deref.result.now in
    let known = subst (λ (rs : List RelId). AllByRecursion (λ r. r < length m.signature.relations)
    (map (λ (r : RelId). r.0) rs)) (sym c.deref.ensures.value) c.loop-primitive.invariant.known in
    λ k d lt. subst (λ (s : Declared). (get_or ids k d).0 < length s.relations)
    (sym c.signature-signature.ensures.value) (ids-known (length m.signature.relations) ids known k d lt)

pub returns : goal.returns
returns c =
    let m = c.args.model.now in
    let ids = c.deref.result.now in
    let found = sorts_at m.signature (map (λ (r : RelId). r.0) c.loop-primitive.havocked.items) in
    let whole = sym (append-nil found)
    ∙ ap (λ z. found ++ havocked (symbols m.signature) z) (sym c.in-None.ensures.steps.0)
    ∙ c.loop-primitive.invariant.listed in
    c.in_ok-answered.ensures.value
    ∙ ap (λ (s : Declared). grown_by_relations s (map (λ (r : RelId). (symbols s).sorts_of r.0) ids))
    c.signature-signature.ensures.value
    ∙ ap (grown_by_relations m.signature)
    (ids-sorts m.signature ids
    ∙ ap (λ (rs : List RelId). sorts_at m.signature (map (λ (r : RelId). r.0) rs)) c.deref.ensures.value
    ∙ whole)
