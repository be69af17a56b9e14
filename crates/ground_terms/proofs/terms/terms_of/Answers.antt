use Rattle.std.proofs.Common.{◌≡◌, ◌++◌, ◌==◌, [], ◌∷◌, map, flat_map, ap, ◌∙◌, sym}
use Rattle.std.proofs.lemmas.List.{length-map, map-append}
use Rattle.fol_sig.specs.Symbols.{symbols}
use Rattle.ground_terms.specs.FunctionRows.{own_constant, own_applications}
use Rattle.ground_terms.specs.TermViews.{plain_term}
use Rattle.ground_terms.specs.Terms.{or_default}
use Rattle.ground_terms.proofs.Rows.{number, all-known, all-few, row-terms, is_none, is_none-length}
use Rattle.ground_terms.proofs.Rows.{some-terms-made, no-terms-made}
use Rattle.ground_terms.proofs.terms.terms_of.Goals as goal
use Rattle.ground_terms.proofs.terms.terms_of.Goals.{then-is_empty+in_ok-push, else-is_empty}

pub push_constants-requires : goal.push_constants-requires
push_constants-requires c =
    let sig = symbols c.args.signature.now in
    all-known sig sig.functions c.args.sort.0 (map number c.args.functions.now) c.requires.into

pub push_applications-requires-clause-known : goal.push_applications-requires-clause-known
push_applications-requires-clause-known c =
    let sig = symbols c.args.signature.now in
    all-known sig sig.functions c.args.sort.0 (map number c.args.functions.now) c.requires.into

pub push_applications-requires-clause-few : goal.push_applications-requires-clause-few
push_applications-requires-clause-few c =
    all-few c.tuple_laws.ensures (symbols c.args.signature.now) c.args.counts.now c.args.sort.0
    (map number c.args.functions.now) c.requires.into c.requires.few

pub returns : goal.returns
returns c =
    let sig = symbols c.args.signature.now in
    let fs = map number c.args.functions.now in
    let counts = c.args.counts.now in
    let made = c.in_ok-push_applications.ensures
    ∙ ap (λ ts. ts ++ flat_map (own_applications sig counts) fs)
    (c.in_ok-push_constants.ensures ∙ ap (λ ts. map plain_term ts ++ flat_map (own_constant sig) fs)
    c.new-all.ensures.items)
    ∙ row-terms sig counts c.args.sort.0 fs c.requires.into in
    let all = map plain_term c.push_applications.new.all.items in
    let none : c.is_empty.result ≡ is_none all =
    c.is_empty.ensures
    ∙ ap (λ n. n == 0) (c.push_applications.new.all.ok.0
    ∙ sym (length-map c.push_applications.new.all.items plain_term))
    ∙ sym (is_none-length all) in
    elim c.if-is_empty.branch [
      | then-is_empty+in_ok-push w ↦
          ap (λ v. map plain_term v.items) w.all-is ∙ ap (map plain_term) w.in_ok-push.ensures.items
          ∙ map-append plain_term c.push_applications.new.all.items (_ ∷ [])
          ∙ no-terms-made c.is_empty.result all none w.if-is_empty.true ∙ ap or_default made
      | else-is_empty w ↦
          ap (λ v. map plain_term v.items) w.all-is
          ∙ some-terms-made c.is_empty.result all none w.if-is_empty.false ∙ ap or_default made
    ]
