use Rattle.std.proofs.Common.{◌≡◌, ℕ, [], ◌∷◌, List, ◌++◌, length, ap, sym, subst, ◌∙◌}
use Rattle.std.specs.List.{AllByRecursion}
use Rattle.fol_sig.specs.Tables.{Declared}
use Rattle.fol_sig.specs.Tuples.{join_below}
use Rattle.fol_sig.specs.declared.symbol.Symbol.{Symbol}
use Rattle.fol_sig.specs.SymbolTables.{HasSymbol}
use Rattle.told_states.specs.SymbolText.{relation_symbol, function_symbol, symbols_of}
use Rattle.told_states.proofs.Pieces.{all_known}
use Rattle.told_states.proofs.symbols.all_symbols.Goals as goal

pub returns-clause-known : goal.returns-clause-known
returns-clause-known c =
    let relations : ℕ → List Symbol = λ n. join_below n (λ r. relation_symbol r ∷ []) in
    let functions : ℕ → List Symbol = λ n. join_below n (λ f. function_symbol f ∷ []) in
    let r : c.relation_count.result ≡ length c.args.structure.now.relations =
    c.relation_count.ensures ∙ ap (λ (d : Declared). length d.relations) c.signature-signature.ensures.value
    ∙ c.requires.relations in
    let f : c.function_count.result ≡ length c.args.structure.now.functions =
    c.function_count.ensures ∙ ap (λ (d : Declared). length d.functions) c.signature-signature.ensures.value
    ∙ c.requires.functions in
    let all : c.push_functions.new.symbols.items ≡ symbols_of c.args.structure.now =
    c.in_ok-push_functions.ensures
    ∙ ap (λ (xs : List Symbol). xs ++ functions c.function_count.result)
    (c.in_ok-push_relations.ensures ∙ ap (λ (xs : List Symbol). xs ++ relations c.relation_count.result)
    c.new-all.ensures.items)
    ∙ ap (λ n. relations c.relation_count.result ++ functions n) f
    ∙ ap (λ n. relations n ++ functions (length c.args.structure.now.functions)) r in
    subst (λ (xs : List Symbol). AllByRecursion (HasSymbol c.args.structure.now) xs) (sym all)
    (all_known c.args.structure.now)
