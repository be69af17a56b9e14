-- The tables of functions, cell by cell and function by function.
use Rattle.std.proofs.Common.{◌≡◌, ℕ, ◌+◌, ◌<◌, List, [], length, get_or, set, sym, ap, ◌∙◌, subst, arith, ⊎_elim}
use Rattle.std.proofs.lemmas.Bool.{cases_lt}
use Rattle.std.proofs.lemmas.List.{get_or-set_same, get_or-set_other}
use Rattle.fol_sig.specs.Symbols.{Symbols, FitsStructure}
use Rattle.fol_sig.specs.Tables.{Tables, FunctionTable, InRange, place_of, function_at, fun_at}
use Rattle.fol_sig.specs.Tuples.{TuplesAreNumbered}
use Rattle.fol_sig.specs.Updates.{with_function_cells}
use Rattle.ground_terms.specs.Numberings.{Numbering}
use Rattle.ground_terms.specs.Values.{Elements}
use Rattle.structure_back.specs.Tables.{value_at, AreCells}

-- the first n functions have their values
abbrev pub AreFilledTo : Symbols → Numbering → Elements → Elements → Tables → ℕ → Type 0
AreFilledTo sig names v member s n = (f : ℕ) (cs : List ℕ) → f < n → InRange s.sizes (sig.from_of f) cs
    → fun_at s f cs ≡ value_at sig names v member f cs

pub more-filled : TuplesAreNumbered
    → (sig : Symbols) (names : Numbering) (sizes : List ℕ) (v member : Elements) (old new : Tables) (n : ℕ)
    (cells : List ℕ)
    → FitsStructure sig old → n < sig.functions → old.sizes ≡ sizes → new ≡ with_function_cells old n cells
    → AreCells sig names sizes v member n cells → AreFilledTo sig names v member old n
    → AreFilledTo sig names v member new (n + 1)
more-filled numbered sig names sizes v member old new n cells fits lt same is h before f cs lf inside =
    let new_table : FunctionTable =
    record { sorts = (function_at old n).sorts; into = (function_at old n).into; cells = cells } in
    let room : n < length old.functions = subst (λ m. n < m) fits.functions lt in
    let in_old : InRange old.sizes (sig.from_of f) cs =
    subst (λ (s : Tables). InRange s.sizes (sig.from_of f) cs) is inside in
    ⊎_elim
    (λ less.
    let other =
    get_or-set_other old.functions n f new_table (record { sorts = []; into = 0; cells = [] }) (omega arith) in
    ap (λ (s : Tables). fun_at s f cs) is
    ∙ ap (λ (t : FunctionTable). get_or t.cells (place_of old.sizes t.sorts cs) 0) other
    ∙ before f cs less in_old)
    (λ le.
    let at : n ≡ f = omega arith in
    let here = get_or-set_same old.functions n new_table (record { sorts = []; into = 0; cells = [] }) room in
    let in_sizes : InRange sizes (sig.from_of n) cs =
    subst (λ ns. InRange ns (sig.from_of n) cs) same
    (subst (λ z. InRange old.sizes (sig.from_of z) cs) (sym at) in_old) in
    let tuple = numbered sizes (sig.from_of n) in
    let place = tuple.place_within cs in_sizes in
    let value : fun_at new n cs ≡ value_at sig names v member n cs =
    ap (λ (s : Tables). fun_at s n cs) is
    ∙ ap (λ (t : FunctionTable). get_or t.cells (place_of old.sizes t.sorts cs) 0) here
    ∙ ap (λ ns. get_or cells (place_of ns (function_at old n).sorts cs) 0) same
    ∙ ap (λ ks. get_or cells (place_of sizes ks cs) 0) (sym (fits.from_of n lt))
    ∙ h.each (place_of sizes (sig.from_of n) cs) (omega (arith, place, h.long))
    ∙ ap (value_at sig names v member n) (tuple.tuple_of_place cs in_sizes) in
    subst (λ z. fun_at new z cs ≡ value_at sig names v member z cs) at value)
    (cases_lt f n)

-- one more cell is set
pub set-each : (P : ℕ → ℕ → Type 0) (cells : List ℕ) (n value : ℕ) → n < length cells
    → ((m : ℕ) → m < n → P m (get_or cells m 0)) → P n value
    → (m : ℕ) → m < n + 1 → P m (get_or (set cells n value) m 0)
set-each P cells n value lt before here m lm =
    ⊎_elim
    (λ less. subst (P m) (sym (get_or-set_other cells n m value 0 (omega arith))) (before m less))
    (λ le. let at : n ≡ m =
    omega arith in subst (λ z. P z (get_or (set cells n value) z 0)) at
    (subst (P n) (sym (get_or-set_same cells n value 0 lt)) here))
    (cases_lt m n)
