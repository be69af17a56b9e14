-- Logs under names.
use Rattle.std.proofs.Common.{◌≡◌, ℕ, zero, suc, ◌-◌, ◌<◌, ◌≤◌, ◌==◌, Bool, true, false, if◌then◌else◌, List, [], ◌∷◌}
use Rattle.std.proofs.Common.{◌++◌, length, map, slice_get, refl, arith, ap, sym, subst, ◌∙◌, Some, None}
use Rattle.cnf_base.specs.declared.cnf.Entry.{Entry}
use Rattle.cnf_base.specs.declared.cnf.Entry.TheVariants.{Clause, True}
use Rattle.cnf_base.specs.Literals.{AreLiterals}
use Rattle.cnf_base.specs.Clauses.{has_opposites}
use Rattle.cnf_base.specs.Formulas.{Formula, AreEntries}
use Rattle.lrat_log.specs.declared.line.Line.{Line}
use Rattle.lrat_log.specs.declared.line.Line.TheVariants.{Add, Delete}
use Rattle.lrat_log.specs.declared.outcome.Outcome.TheVariants.{Accepted}
use Rattle.lrat_log.specs.Held.{Held, held_of, held_by, added_entry, after_line, after_lines}
use Rattle.lrat_log.specs.Accepted.{last_id, all_false, outcome_of, IsFit, IsAccepted, IsAcceptedFrom}
use Rattle.lrat_log.specs.Learnt.{AreLearnt, AreLearntFrom}
use Rattle.lrat_log.specs.Logs.{IsLogOver}
use Rattle.lrat_log.specs.Refutations.{IsRefutation, IsSpent}
use Rattle.renumbering.specs.Named.{named, named_entry, named_line}
use Rattle.cnf_base.specs.Rising.{AreRising}
use Rattle.renumbering.specs.Renumbered.{IsRenumbered}
use Rattle.renumbering.proofs.Numbers.{rising_few}
use Rattle.renumbering.proofs.Naming.{named_literals, named_has_opposites}
use Rattle.renumbering.proofs.Sets.{named_option, IsHeldAs, false_named, named_resolvent, named_new, named_propagation}
use Rattle.renumbering.proofs.Effects.{outcome_named}

-- lists under a map
pub map_push : {A B : Type 0} (f : A → B) (xs : List A) (y : A) → map f (xs ++ y ∷ []) ≡ map f xs ++ f y ∷ []
map_push f [] y = refl
map_push f (x ∷ xs) y = ap (λ r. f x ∷ r) (map_push f xs y)

pub map_length : {A B : Type 0} (f : A → B) (xs : List A) → length (map f xs) ≡ length xs
map_length f [] = refl
map_length f (x ∷ xs) = ap (λ n. suc n) (map_length f xs)

-- the clauses of a formula
get_named : (names : List ℕ) (es : List Entry) (i : ℕ)
    → slice_get (map (named_entry names) es) i ≡ named_option names (slice_get es i)
get_named names [] i = refl
get_named names (e ∷ es) zero = refl
get_named names (e ∷ es) (suc i) = get_named names es i

get_over : (m : ℕ) (es : List Entry) (i : ℕ) (c : List ℕ) → AreEntries m es → slice_get es i ≡ Some (Clause c)
    → AreLiterals m c
get_over m [] i c a h = absurd (cc)
get_over m (Clause d ∷ es) zero c a h = let q : d ≡ c = cc in subst (AreLiterals m) q a.0.1
get_over m (True ∷ es) zero c a h = absurd (cc)
get_over m (e ∷ es) (suc i) c a h = get_over m es i c a.1 h

pub begins_as : (names : List ℕ) (es fs : List Entry) → AreEntries (length names) es → map (named_entry names) es ≡ fs
    → IsHeldAs names (held_by es) (held_by fs)
begins_as names es fs a e = record {
  same = λ id. ap (λ (x : List Entry). held_by x id) (sym e) ∙ at (id == 0) (id - 1);
  over = λ id c h. in_range (id == 0) (id - 1) c h;
}
  where
    at : (b : Bool) (i : ℕ)
        → (if b then None else slice_get (map (named_entry names) es) i) ≡ named_option names
        (if b then None else slice_get es i)
    at true i = refl
    at false i = get_named names es i

    in_range : (b : Bool) (i : ℕ) (c : List ℕ) → (if b then None else slice_get es i) ≡ Some (Clause c)
        → AreLiterals (length names) c
    in_range true i c h = absurd (cc)
    in_range false i c h = get_over (length names) es i c a h

-- the line behind the front of a log
pub accepted_at : (n : ℕ) (held : Held) (last : ℕ) (xs : List Line) (y : Line) (ys : List Line)
    → IsAcceptedFrom n held last (xs ++ y ∷ ys)
    → IsFit n (last_id last xs) y × (outcome_of (after_lines held xs) y ≡ Accepted)
accepted_at n held last [] y ys a = (a.0, a.1)
accepted_at n held last (Add id ls hints ∷ xs) y ys a = accepted_at n (after_line held (Add id ls hints)) id xs y ys a.2
accepted_at n held last (Delete id ids ∷ xs) y ys a = accepted_at n (after_line held (Delete id ids)) last xs y ys a.2

last_named : (names : List ℕ) (last : ℕ) (lines : List Line)
    → last_id last (map (named_line names) lines) ≡ last_id last lines
last_named names last [] = refl
last_named names last (Add id ls hints ∷ lines) = last_named names id lines
last_named names last (Delete id ids ∷ lines) = last_named names last lines

not_empty_named : (names ls : List ℕ) → (ls ≡ [] → ⊥) → map (named names) ls ≡ [] → ⊥
not_empty_named names [] n e = n refl
not_empty_named names (l ∷ ls) n e = absurd (cc)

module _ (most : ℕ) (names : List ℕ) (rising : AreRising most 0 names) where
  pub log_named : (last : ℕ) (lines : List Line) → IsLogOver (length names) last lines
      → IsLogOver most last (map (named_line names) lines)
  log_named last [] a = tt
  log_named last (Add id ls hints ∷ lines) a =
      ((a.0.0, a.0.1, named_literals most names rising ls a.0.2, a.0.3), log_named id lines a.1)
  log_named last (Delete id ids ∷ lines) a = (a.0, log_named last lines a.1)

  added_named : (ls : List ℕ) → AreLiterals (length names) ls
      → added_entry (map (named names) ls) ≡ named_entry names (added_entry ls)
  added_named ls o = ap (λ (b : Bool). if b then True else Clause (map (named names) ls))
      (named_has_opposites most names rising ls o) ∙ at (has_opposites ls)
    where
      at : (b : Bool) → (if b then True else Clause (map (named names) ls)) ≡ named_entry names
          (if b then True else Clause ls)
      at true = refl
      at false = refl

  added_as : (dense held : Held) (id : ℕ) (ls hints : List ℕ) → IsHeldAs names dense held
      → AreLiterals (length names) ls
      → IsHeldAs names (after_line dense (Add id ls hints)) (after_line held (Add id (map (named names) ls) hints))
  added_as dense held id ls hints alike o = record {
    same = λ k. at k (k == id);
    over = λ k c h. in_range k (k == id) c h;
  }
    where
      at : (k : ℕ) (b : Bool)
          → (if b then Some (added_entry (map (named names) ls)) else held k) ≡ named_option names
          (if b then Some (added_entry ls) else dense k)
      at k true = ap (λ (e : Entry). Some e) (added_named ls o)
      at k false = alike.same k

      added : (b : Bool) (c : List ℕ) → Some (if b then True else Clause ls) ≡ Some (Clause c)
          → AreLiterals (length names) c
      added true c h = absurd (cc)
      added false c h = let q : ls ≡ c = cc in subst (AreLiterals (length names)) q o

      in_range : (k : ℕ) (b : Bool) (c : List ℕ) → (if b then Some (added_entry ls) else dense k) ≡ Some (Clause c)
          → AreLiterals (length names) c
      in_range k true c h = added (has_opposites ls) c h
      in_range k false c h = alike.over k c h

  learnt_named : (dense held : Held) (last : ℕ) (lines : List Line) → IsHeldAs names dense held
      → AreLearntFrom (length names) dense last lines
      → AreLearntFrom most held last (map (named_line names) lines)
  learnt_named dense held last [] alike a = tt
  learnt_named dense held last (Delete id ids ∷ lines) alike a = absurd a
  learnt_named dense held last (Add id ls hints ∷ lines) alike a = (
    (a.0.0, named_literals most names rising ls a.0.1),
    record {
      not_empty = not_empty_named names ls a.1.not_empty;
      no_opposites = named_has_opposites most names rising ls a.0.1 ∙ a.1.no_opposites;
      new = named_new most names rising dense held alike ls a.0.1 a.1.new;
      resolvent = named_resolvent most names rising dense held alike ls hints a.0.1 a.1.resolvent;
    },
    learnt_named (after_line dense (Add id ls hints)) (after_line held (Add id (map (named names) ls) hints)) id lines
        (added_as dense held id ls hints alike a.0.1) a.2,
  )

  after_named : (dense held : Held) (last : ℕ) (lines : List Line) → IsHeldAs names dense held
      → AreLearntFrom (length names) dense last lines
      → IsHeldAs names (after_lines dense lines) (after_lines held (map (named_line names) lines))
  after_named dense held last [] alike a = alike
  after_named dense held last (Delete id ids ∷ lines) alike a = absurd a
  after_named dense held last (Add id ls hints ∷ lines) alike a =
      after_named (after_line dense (Add id ls hints)) (after_line held (Add id (map (named names) ls) hints)) id lines
      (added_as dense held id ls hints alike a.0.1) a.2

-- laws of logs
pub record AreLogLaws : Type 0 where
  pub learnt : (f : Formula) (lines : List Line) → AreLearnt f lines → IsAccepted f lines
  pub accepted : (n : ℕ) (held : Held) (last : ℕ) (lines : List Line) (line : Line) → IsAcceptedFrom n held last lines
      → IsFit n (last_id last lines) line → outcome_of (after_lines held lines) line ≡ Accepted
      → IsAcceptedFrom n held last (lines ++ line ∷ [])

module _ (f d : Formula) (names : List ℕ) (r : IsRenumbered f d names) where
  as_begun : IsHeldAs names (held_of d) (held_of f)
  as_begun = begins_as names d.clauses f.clauses
      (subst (λ (n : ℕ). AreEntries n d.clauses) r.variables r.formula) r.clauses

  same_count : length f.clauses ≡ length d.clauses
  same_count = ap length (sym r.clauses) ∙ map_length (named_entry names) d.clauses

  pub count_named : length d.clauses ≡ length f.clauses
  count_named = sym same_count

  pub few_named : d.variables ≤ f.variables
  few_named = let a = rising_few f.variables 0 names (omega arith) r.rising in rw r.variables (omega arith)

  dense_learnt : (lines : List Line) → AreLearnt d lines
      → AreLearntFrom (length names) (held_of d) (length d.clauses) lines
  dense_learnt lines a = subst (λ (n : ℕ). AreLearntFrom n (held_of d) (length d.clauses) lines) r.variables a

  all_learnt : (lines : List Line) → AreLearnt d lines → AreLearnt f (map (named_line names) lines)
  all_learnt lines a =
      subst (λ (n : ℕ). AreLearntFrom f.variables (held_of f) n (map (named_line names) lines)) (sym same_count)
      (learnt_named f.variables names r.rising (held_of d) (held_of f) (length d.clauses) lines as_begun
      (dense_learnt lines a))

  all_after : (lines : List Line) → AreLearnt d lines
      → IsHeldAs names (after_lines (held_of d) lines) (after_lines (held_of f) (map (named_line names) lines))
  all_after lines a = after_named f.variables names r.rising (held_of d) (held_of f) (length d.clauses) lines as_begun
      (dense_learnt lines a)

  pub range_named : (lines : List Line) → IsLogOver d.variables (length d.clauses) lines
      → IsLogOver f.variables (length f.clauses) (map (named_line names) lines)
  range_named lines a =
      subst (λ (n : ℕ). IsLogOver f.variables n (map (named_line names) lines)) (sym same_count)
      (log_named f.variables names r.rising (length d.clauses) lines
      (subst (λ (n : ℕ). IsLogOver n (length d.clauses) lines) r.variables a))

  pub spent_named : AreLogLaws → (budget : ℕ) (lines : List Line) → IsSpent d budget lines
      → IsSpent f budget (map (named_line names) lines)
  spent_named laws budget lines s = record {
    exact = map_length (named_line names) lines ∙ s.exact;
    learnt = all_learnt lines s.learnt;
    accepted = laws.learnt f (map (named_line names) lines) (all_learnt lines s.learnt);
    unrefuted = named_propagation f.variables names r.rising (after_lines (held_of d) lines)
        (after_lines (held_of f) (map (named_line names) lines)) (all_after lines s.learnt) s.unrefuted;
  }

  pub refutation_named : AreLogLaws → (budget : ℕ) (lines : List Line) → IsRefutation d budget lines
      → IsRefutation f budget (map (named_line names) lines)
  refutation_named laws budget lines s = record {
    before = map (named_line names) s.before;
    id = s.id;
    hints = s.hints;
    ends = ends;
    within = subst (λ (n : ℕ). n ≤ budget) (sym (map_length (named_line names) s.before)) s.within;
    learnt = all_learnt s.before s.learnt;
    accepted = subst (IsAccepted f) (sym ends)
        (laws.accepted f.variables (held_of f) (length f.clauses) (map (named_line names) s.before)
        (Add s.id [] s.hints)
        (laws.learnt f (map (named_line names) s.before) (all_learnt s.before s.learnt))
        (subst (λ (n : ℕ). n < s.id) (sym last) at.0.0, tt)
        (outcome_named f.variables names r.rising (after_lines (held_of d) s.before)
        (after_lines (held_of f) (map (named_line names) s.before)) (all_after s.before s.learnt)
        s.hints (all_false []) (all_false []) (false_named f.variables names r.rising [] tt) ∙ at.1));
  }
    where
      ends : map (named_line names) lines ≡ map (named_line names) s.before ++ Add s.id [] s.hints ∷ []
      ends = ap (map (named_line names)) s.ends ∙ map_push (named_line names) s.before (Add s.id [] s.hints)

      last : last_id (length f.clauses) (map (named_line names) s.before) ≡ last_id (length d.clauses) s.before
      last = ap (λ (n : ℕ). last_id n (map (named_line names) s.before)) same_count
          ∙ last_named names (length d.clauses) s.before

      at : IsFit d.variables (last_id (length d.clauses) s.before) (Add s.id [] s.hints)
          × (outcome_of (after_lines (held_of d) s.before) (Add s.id [] s.hints) ≡ Accepted)
      at = accepted_at d.variables (held_of d) (length d.clauses) s.before (Add s.id [] s.hints) []
          (subst (IsAccepted d) s.ends s.accepted)
