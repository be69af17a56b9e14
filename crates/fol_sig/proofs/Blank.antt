-- The structure that is false and 0 everywhere.
use Rattle.std.proofs.Common.{◌≡◌, ℕ, ◌<◌, false, List, [], length, get_or, All, sym, ap, subst}
use Rattle.std.proofs.lemmas.List.{length-replicate, length-map, get_or-map}
use Rattle.fol_sig.specs.Symbols.{FitsStructure, symbols, no_function}
use Rattle.std.proofs.lemmas.List.Elements.{All-map, All-replicate}
use Rattle.fol_sig.specs.Tables.{Declared, IsSignature, AreSorts, IsStructure}
use Rattle.fol_sig.specs.Tables.{IsFullRelation, IsFullFunction, tuple_count, blank_relation, blank_function, blank}

pub IsStructure-blank : (sig : Declared) (sizes : List ℕ) → IsSignature sig → length sizes ≡ sig.sorts
    → All (λ n. 0 < n) sizes → IsStructure (blank sig sizes)
IsStructure-blank sig sizes ok len pos = record {
  positive = pos;
  relations_full = All-map (IsFullRelation sizes) (blank_relation sizes) sig.relations (λ k d lt. record {
    sorted = subst (λ n. AreSorts n (get_or sig.relations k d)) (sym len) (ok.relations_sorted k d lt);
    short = ok.relations_short k d lt;
    full = length-replicate (tuple_count sizes (get_or sig.relations k d)) false;
  });
  functions_full = All-map (IsFullFunction sizes) (λ f. blank_function sizes f.0 f.1.0) sig.functions (λ k d lt.
      let f = get_or sig.functions k d in
      let h = ok.functions_sorted k d lt in
      let into : f.1.0 < length sizes = subst (λ n. f.1.0 < n) (sym len) h.1 in
      record {
        sorted = subst (λ n. AreSorts n f.0) (sym len) h.0;
        short = ok.functions_short k d lt;
        into_sorted = into;
        full = length-replicate (tuple_count sizes f.0) 0;
        within = All-replicate (λ x. x < get_or sizes f.1.0 0) (tuple_count sizes f.0) 0 (pos f.1.0 0 into);
      });
}

pub FitsStructure-blank : (sig : Declared) (sizes : List ℕ) → IsSignature sig → length sizes ≡ sig.sorts
    → All (λ n. 0 < n) sizes → FitsStructure (symbols sig) (blank sig sizes)
FitsStructure-blank sig sizes ok len pos = record {
  whole = IsStructure-blank sig sizes ok len pos;
  sorts = sym len;
  relations = sym (length-map sig.relations (blank_relation sizes));
  functions = sym (length-map sig.functions (λ f. blank_function sizes f.0 f.1.0));
  sorts_of = λ r lt. sym
      (ap (λ t. t.sorts) (get_or-map (blank_relation sizes) sig.relations r [] (record { sorts = []; cells = [] }) lt));
  from_of = λ f lt. sym
      (ap (λ t. t.sorts)
      (get_or-map (λ f. blank_function sizes f.0 f.1.0) sig.functions f no_function
      (record { sorts = []; into = 0; cells = [] }) lt));
  into_of = λ f lt. sym
      (ap (λ t. t.into)
      (get_or-map (λ f. blank_function sizes f.0 f.1.0) sig.functions f no_function
      (record { sorts = []; into = 0; cells = [] }) lt));
}
