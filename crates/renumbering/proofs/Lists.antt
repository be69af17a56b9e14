-- Lists that are made one by one, and truth values under names.
use Rattle.std.proofs.Common.{◌≡◌, ℕ, zero, suc, ◌+◌, ◌-◌, ◌<◌, ◌≤◌, ◌⊎◌, eqb, Bool, true, false, not, if◌then◌else◌}
use Rattle.std.proofs.Common.{List}
use Rattle.std.proofs.Common.{[], ◌∷◌, ◌++◌, length, get_or, take, map, slice_get, refl, arith, ap, sym, subst}
use Rattle.std.proofs.Common.{◌∙◌, Some, inl, inr}
use Rattle.std.proofs.lemmas.List.{take_more}
use Rattle.std.proofs.lemmas.Bool.{cases_lt, eq-eqb, ne_eqb}
use Rattle.cnf_base.specs.declared.cnf.Entry.{Entry}
use Rattle.cnf_base.specs.declared.cnf.Entry.TheVariants.{Clause, True}
use Rattle.cnf_base.specs.Literals.{variable_of, is_positive, literal_of, is_true, IsLiteral, AreLiterals}
use Rattle.cnf_base.specs.Clauses.{IsEntry, SatisfiesClause, SatisfiesEntry}
use Rattle.cnf_base.specs.Formulas.{Formula, AreEntries, value_of, IsModel}
use Rattle.lrat_log.specs.declared.line.Line.{Line}
use Rattle.lrat_log.specs.declared.line.Line.TheVariants.{Add, Delete}
use Rattle.lrat_log.specs.declared.outcome.Outcome.TheVariants.{Accepted}
use Rattle.lrat_log.specs.Held.{Held, held_of, after_line, after_lines}
use Rattle.lrat_log.specs.Accepted.{last_id, outcome_of, IsAccepted, IsAcceptedFrom}
use Rattle.lrat_log.specs.Logs.{IsLineOver, IsLogOver}
use Rattle.renumbering.specs.Named.{named, named_entry}
use Rattle.cnf_base.specs.Rising.{AreRising}
use Rattle.renumbering.specs.Renumbered.{IsRenumbered}
use Rattle.renumbering.proofs.Numbers.{variable_of-literal_of, is_positive-literal_of, literal_of-variable_of}
use Rattle.renumbering.proofs.Numbers.{rising_at, rising_order}
use Rattle.renumbering.proofs.Naming.{map_member, literal_in}
use Rattle.renumbering.proofs.Logs.{map_push, map_length}

pub named_at : (names : List ℕ) (place l : ℕ) → get_or names place 0 ≡ variable_of l
    → named names (literal_of (is_positive l) (place + 1)) ≡ l
named_at names place l e =
    ap (λ (b : Bool). literal_of b (get_or names (variable_of (literal_of (is_positive l) (place + 1)) - 1) 0))
    (is_positive-literal_of (is_positive l) (place + 1))
    ∙ ap (λ (v : ℕ). literal_of (is_positive l) (get_or names (v - 1) 0))
    (variable_of-literal_of (is_positive l) (place + 1))
    ∙ ap (λ (v : ℕ). literal_of (is_positive l) (get_or names v 0)) (let q : place + 1 - 1 ≡ place = omega arith in q)
    ∙ ap (literal_of (is_positive l)) e
    ∙ literal_of-variable_of l

pub place_literal : (n place : ℕ) (p : Bool) → place < n → IsLiteral n (literal_of p (place + 1))
place_literal n place p h = rw (variable_of-literal_of p (place + 1)) (omega arith, omega arith)

-- one more element of a list that is gone through
pub taken_push : {A B : Type 0} (f : A → B) (done : List A) (all : List B) (i : ℕ) (d : A) (x : B) → i < length all
    → x ≡ get_or all i x → f d ≡ x
    → map f done ≡ take i all → map f (done ++ d ∷ []) ≡ take (i + 1) all
taken_push f done all i d x h g e t =
    map_push f done d ∙ ap (λ r. r ++ f d ∷ []) t ∙ ap (λ y. take i all ++ y ∷ []) (e ∙ g) ∙ sym (take_more all i x h)

pub literals_push : (m : ℕ) (c : List ℕ) (l : ℕ) → AreLiterals m c → IsLiteral m l → AreLiterals m (c ++ l ∷ [])
literals_push m [] l a h = (h, tt)
literals_push m (x ∷ c) l a h = (a.0, literals_push m c l a.1 h)

pub entries_push : (m : ℕ) (es : List Entry) (e : Entry) → AreEntries m es → IsEntry m e → AreEntries m (es ++ e ∷ [])
entries_push m [] e a h = (h, tt)
entries_push m (x ∷ es) e a h = (a.0, entries_push m es e a.1 h)

pub rising_wider : (n m last : ℕ) (names : List ℕ) → n ≤ m → AreRising n last names → AreRising m last names
rising_wider n m last [] h r = tt
rising_wider n m last (v ∷ vs) h r = let a = r.1 in (r.0, omega arith, rising_wider n m v vs h r.2)

-- values that stand under the first i names, where all others are false
pub record IsSpread (names : List ℕ) (values spread : List Bool) (i : ℕ) : Type 0 where
  pub value : (k : ℕ) → k < i → value_of spread (get_or names k 0) ≡ value_of values (k + 1)
  pub above : (v : ℕ) → ((k : ℕ) → k < i → get_or names k 0 < v) → value_of spread v ≡ false

module _ (most : ℕ) (names : List ℕ) (rising : AreRising most 0 names) (values spread : List Bool) (i : ℕ)
    (h : i < length names) (s : IsSpread names values spread i) where
  -- the next name and those above it
  pub still_false : (v : ℕ) → get_or names i 0 ≤ v → value_of spread v ≡ false
  still_false v p = s.above v (λ k b. (let a = rising_order most 0 names k i rising b h in omega arith))

  pub spread_more : (next : List Bool) (b : Bool) → b ≡ value_of values (i + 1)
      → ((v : ℕ) → 0 < v → value_of next v ≡ (if eqb v (get_or names i 0) then b else value_of spread v))
      → IsSpread names values next (i + 1)
  spread_more next b e n = record {
    value = λ k l. at k l (cases_lt k i);
    above = λ v g. (
        let l = g i (omega arith) in
        let other : eqb v (get_or names i 0) ≡ false = ne_eqb v (get_or names i 0) (λ q. omega arith) in
        n v (omega arith) ∙ ap (λ (c : Bool). if c then b else value_of spread v) other
        ∙ s.above v (λ k l. g k (omega arith)));
  }
    where
      at : (k : ℕ) → k < i + 1 → (k < i) ⊎ (i ≤ k) → value_of next (get_or names k 0) ≡ value_of values (k + 1)
      at k l (inl q) =
          let a = rising_order most 0 names k i rising q h in
          let c = rising_at most 0 names k rising (omega arith) in
          let other : eqb (get_or names k 0) (get_or names i 0) ≡ false =
          ne_eqb (get_or names k 0) (get_or names i 0) (λ r. omega arith) in
          n (get_or names k 0) c.0
          ∙ ap (λ (d : Bool). if d then b else value_of spread (get_or names k 0)) other ∙ s.value k q
      at k l (inr q) =
          let r : i ≡ k = omega arith in
          let c = rising_at most 0 names i rising h in
          let here : eqb (get_or names i 0) (get_or names i 0) ≡ true = eq-eqb _ _ refl in
          subst (λ (j : ℕ). value_of next (get_or names j 0) ≡ value_of values (j + 1)) r
          (n (get_or names i 0) c.0
          ∙ ap (λ (d : Bool). if d then b else value_of spread (get_or names i 0)) here ∙ e)

-- a model under names
module _ (f d : Formula) (names : List ℕ) (r : IsRenumbered f d names) (values all : List Bool)
    (same : (i : ℕ) → i < length names → get_or all (get_or names i 0 - 1) false ≡ get_or values i false) where
  true_named : (l : ℕ) → IsLiteral (length names) l
      → is_true (value_of all) (named names l) ≡ is_true (value_of values) l
  unfolding is_true
  true_named l h =
      ap (λ (b : Bool). if b then value_of all (variable_of (named names l)) else not
      (value_of all (variable_of (named names l))))
      (is_positive-literal_of (is_positive l) (get_or names (variable_of l - 1) 0))
      ∙ ap (λ (v : ℕ). if is_positive l then value_of all v else not (value_of all v))
      (variable_of-literal_of (is_positive l) (get_or names (variable_of l - 1) 0))
      ∙ ap (λ (b : Bool). if is_positive l then b else not b)
      (same (variable_of l - 1) (let a = h.0 in let b = h.1 in omega arith))

  clause_satisfied : (c : List ℕ) → AreLiterals (length names) c → SatisfiesClause (value_of values) c
      → SatisfiesClause (value_of all) (map (named names) c)
  clause_satisfied c o s = (
    named names s.0,
    map_member (named names) c s.0 s.1,
    true_named s.0
        (literal_in (length names) c s.0 o s.1) ∙ s.2,
  )

  entries_satisfied : (es : List Entry) → AreEntries (length names) es
      → ((k : ℕ) (e : Entry) → slice_get es k ≡ Some e → SatisfiesEntry (value_of values) e)
      → (k : ℕ) (e : Entry) → slice_get (map (named_entry names) es) k ≡ Some e → SatisfiesEntry (value_of all) e
  entries_satisfied [] a s k e h = absurd (cc)
  entries_satisfied (x ∷ es) a s (suc k) e h = entries_satisfied es a.1 (λ i y q. s (suc i) y q) k e h
  entries_satisfied (True ∷ es) a s zero e h = let q : True ≡ e = cc in subst (SatisfiesEntry (value_of all)) q tt
  entries_satisfied (Clause c ∷ es) a s zero e h =
      let q : Clause (map (named names) c) ≡ e = cc in
      subst (SatisfiesEntry (value_of all)) q (clause_satisfied c a.0.1 (s 0 (Clause c) refl))

  pub model_back : length all ≡ f.variables → IsModel d values → IsModel f all
  model_back n m = (
    n,
    λ k e h. entries_satisfied d.clauses (subst (λ (v : ℕ). AreEntries v d.clauses) r.variables r.formula) m.1 k e
        (ap (λ (es : List Entry). slice_get es k) r.clauses ∙ h),
  )

get_map : {A B : Type 0} (f : A → B) (xs : List A) (i : ℕ) (x : A) → i < length xs → x ≡ get_or xs i x
    → f x ≡ get_or (map f xs) i (f x)
get_map f [] i x h e = absurd (omega arith)
get_map f (y ∷ xs) zero x h e = ap f e
get_map f (y ∷ xs) (suc i) x h e = get_map f xs i x (omega arith) e

-- the first i lines of a log, and the line behind them
pub log_taken : (n last : ℕ) (ys : List Line) (i : ℕ) → IsLogOver n last ys → IsLogOver n last (take i ys)
log_taken n last ys zero a = tt
log_taken n last [] (suc i) a = tt
log_taken n last (Add id ls hints ∷ ys) (suc i) a = (a.0, log_taken n id ys i a.1)
log_taken n last (Delete id ids ∷ ys) (suc i) a = (a.0, log_taken n last ys i a.1)

log_next : (n last : ℕ) (ys : List Line) (i : ℕ) (y : Line) → IsLogOver n last ys → i < length ys → y ≡ get_or ys i y
    → IsLineOver n (last_id last (take i ys)) y
log_next n last [] i y a h e = absurd (omega arith)
log_next n last (x ∷ ys) zero y a h e = subst (IsLineOver n last) (sym e) a.0
log_next n last (Add id ls hints ∷ ys) (suc i) y a h e = log_next n id ys i y a.1 (omega arith) e
log_next n last (Delete id ids ∷ ys) (suc i) y a h e = log_next n last ys i y a.1 (omega arith) e

pub accepted_taken : (n : ℕ) (held : Held) (last : ℕ) (ys : List Line) (i : ℕ) → IsAcceptedFrom n held last ys
    → IsAcceptedFrom n held last (take i ys)
accepted_taken n held last ys zero a = tt
accepted_taken n held last [] (suc i) a = tt
accepted_taken n held last (Add id ls hints ∷ ys) (suc i) a =
    (a.0, a.1, accepted_taken n (after_line held (Add id ls hints)) id ys i a.2)
accepted_taken n held last (Delete id ids ∷ ys) (suc i) a =
    (a.0, a.1, accepted_taken n (after_line held (Delete id ids)) last ys i a.2)

accepted_next : (n : ℕ) (held : Held) (last : ℕ) (ys : List Line) (i : ℕ) (y : Line) → IsAcceptedFrom n held last ys
    → i < length ys → y ≡ get_or ys i y
    → outcome_of (after_lines held (take i ys)) y ≡ Accepted
accepted_next n held last [] i y a h e = absurd (omega arith)
accepted_next n held last (x ∷ ys) zero y a h e = ap (outcome_of held) e ∙ a.1
accepted_next n held last (Add id ls hints ∷ ys) (suc i) y a h e = accepted_next n
    (after_line held (Add id ls hints)) id ys i y a.2 (omega arith) e
accepted_next n held last (Delete id ids ∷ ys) (suc i) y a h e = accepted_next n
    (after_line held (Delete id ids)) last ys i y a.2 (omega arith) e

pub line_at : (n last : ℕ) (ys : List Line) (i : ℕ) (y : Line) → IsLogOver n last ys → i < length ys → y ≡ get_or ys i y
    → (x : ℕ) × IsLineOver n x y
line_at n last ys i y a h e = (last_id last (take i ys), log_next n last ys i y a h e)

-- the lines of xs under a map were handed over up to index i, and y is the next
module _ (f : Formula) (g : Line
    → Line) (xs : List Line) (i : ℕ) (x y : Line) (small : i < length xs) (is : x ≡ get_or xs i x)
    (under : y ≡ g x) where
  long : i < length (map g xs)
  long = rw (map_length g xs) small

  next_is : y ≡ get_or (map g xs) i y
  next_is = subst (λ (z : Line). z ≡ get_or (map g xs) i z) (sym under) (get_map g xs i x small is)

  pub next_over : IsLogOver f.variables (length f.clauses) (map g xs)
      → IsLineOver f.variables (last_id (length f.clauses) (take i (map g xs))) y
  next_over a = log_next f.variables (length f.clauses) (map g xs) i y a long next_is

  pub next_accepted : IsAccepted f (map g xs) → outcome_of (after_lines (held_of f) (take i (map g xs))) y ≡ Accepted
  next_accepted a = accepted_next f.variables (held_of f) (length f.clauses) (map g xs) i y a long next_is

  pub next_taken : take i (map g xs) ++ y ∷ [] ≡ take (i + 1) (map g xs)
  next_taken = ap (λ (z : Line). take i (map g xs) ++ z ∷ []) next_is ∙ sym (take_more (map g xs) i y long)
