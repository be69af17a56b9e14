-- Each tuple of a symbol's arguments is one of its cells, and each sort of them has a size.
use Rattle.std.proofs.Common.{ℕ, suc, ◌<◌, List, [], ◌∷◌, ◌++◌, length, All, append_assoc, append-nil, slice_index}
use Rattle.std.proofs.Common.{arith}
use Rattle.std.specs.List.{AllByRecursion}
use Rattle.std.proofs.lemmas.List.Elements.{All-get_or, recursion_from_All}
use Rattle.fol_sig.specs.Tables.{Tables, InRange, IsStructure, IsFullRelation, IsFullFunction, relation_at, function_at}
use Rattle.fol_sig.specs.declared.symbol.Symbol.{Symbol}
use Rattle.fol_sig.specs.declared.symbol.Symbol.TheVariants as symbol
use Rattle.fol_sig.specs.SymbolTables.{arguments_of, IsCell, HasSymbol}
use Rattle.rml_report.specs.TableText.{EachTuple}

module _ (s : Tables) where
  in_range_behind : (ks xs : List ℕ) (k x : ℕ) → InRange s.sizes ks xs → x < slice_index s.sizes k
      → InRange s.sizes (ks ++ k ∷ []) (xs ++ x ∷ [])
  in_range_behind [] [] k x h lt = (lt, tt)
  in_range_behind [] (y ∷ xs) k x h lt = absurd h
  in_range_behind (j ∷ ks) [] k x h lt = absurd h
  in_range_behind (j ∷ ks) (y ∷ xs) k x h lt = (h.0, in_range_behind ks xs k x h.1 lt)

  each_in_range : (P : List ℕ → Type 0) (ks done before : List ℕ) → All (λ k. k < length s.sizes) ks
      → InRange s.sizes done before
      → ((xs : List ℕ) → InRange s.sizes (done ++ ks) xs → P xs) → EachTuple s.sizes P ks before
  each_in_range P [] done before h e go = go before (rw append-nil e)
  each_in_range P (k ∷ ks) done before h e go = (
    h 0 0 (omega arith),
    λ x lt. each_in_range P ks (done ++ k ∷ []) (before ++ x ∷ [])
        (λ i d l. h (suc i) d (omega arith)) (in_range_behind done before k x e lt)
        (λ xs r. go xs (rw append_assoc at r)),
  )

  pub each_cell : (q : Symbol) → IsStructure s → HasSymbol s q → EachTuple s.sizes (IsCell s q) (arguments_of s q) []
  each_cell (symbol.Relation r) whole lt =
      each_in_range (IsCell s (symbol.Relation r)) (relation_at s r.0).sorts [] []
      (All-get_or (IsFullRelation s.sizes) s.relations r.0 (record { sorts = []; cells = [] }) lt
      whole.relations_full).sorted tt (λ xs h. (lt, h))
  each_cell (symbol.Function f) whole lt =
      each_in_range (IsCell s (symbol.Function f)) (function_at s f.0).sorts [] []
      (All-get_or (IsFullFunction s.sizes) s.functions f.0 (record { sorts = []; into = 0; cells = [] }) lt
      whole.functions_full).sorted tt (λ xs h. (lt, h))

  pub sorts_known : (r : ℕ) → IsStructure s → r < length s.relations
      → AllByRecursion (λ k. k < length s.sizes) (relation_at s r).sorts
  sorts_known r whole lt =
      recursion_from_All (λ k. k < length s.sizes) (relation_at s r).sorts
      (All-get_or (IsFullRelation s.sizes) s.relations r (record { sorts = []; cells = [] }) lt
      whole.relations_full).sorted
