-- Drops, one behind the other.
use Rattle.std.proofs.Common.{◌≡◌, ◌==◌, ◌<◌, ◌+◌, ◌-◌, ◌≤◌, inl, inr, ℕ, zero, suc, Bool, true, false, not}
use Rattle.std.proofs.Common.{if◌then◌else◌, List, [], ◌∷◌, ◌++◌, length, map, Option, refl, sym, ap, ◌∙◌}
use Rattle.std.proofs.Common.{subst, append_assoc, arith}
use Rattle.std.specs.Prelude.{slice_index_or, All}
use Rattle.std.specs.List.{AllByRecursion, filter, flat_map, list_any}
use Rattle.std.proofs.lemmas.List.{append-nil, map-append}
use Rattle.base.proofs.Lists.{all_more, all_append, all_back}
use Rattle.rml_command.specs.Trees.{PrimitiveTree}
use Rattle.base.specs.Lists.{count_from}
use Rattle.rml_command.specs.Models.{ModelTree}
use Rattle.rml_command.specs.Goals.{goals_among, group_goals, is_for, stage_paths}
use Rattle.rml_command.specs.declared.goal.Stage.{Stage}
use Rattle.rml_command.specs.declared.goal.About.TheVariants as about
use Rattle.rml_command.specs.declared.goal.Goal.{Goal}
use Rattle.rml_exec.specs.declared.trace.Counterexample.{Counterexample}
use Rattle.rml_command.specs.InductiveSets.{conjectures_of, Has, IsWithin, IsInductive}
use Rattle.rml_command.specs.Goals.{HasNone}
use Rattle.limits.specs.declared.cause.Cause.{Cause}
use Rattle.limits.specs.Ceilings.{Ceilings}
use Rattle.lean_decide.specs.declared.settling.Counted.{Counted}
use Rattle.rml_houdini.specs.Rounds.{group_at, stage_goals, goals_about, conjecture_stages, IsSafe, IsFirstFailing}
use Rattle.rml_houdini.specs.Rounds.{AreSettled}
use Rattle.rml_houdini.specs.Laws.{BrokenIsNowhere, SettledIsInductive}
use Rattle.rml_houdini.specs.Greatest.{all_but, IsDrop, AreDrops, AreDistinct, IsFound}
use Rattle.rml_houdini.specs.Progress.{IsConjecture}
use Rattle.rml_houdini.specs.declared.houdini.Dropped.{Dropped}
use Rattle.rml_houdini.specs.declared.houdini.Houdini.{Houdini}
use Rattle.rml_houdini.proofs.Members.{
  distinct_push,
  has_filter,
  from_filter,
  filter_shorter,
  all_but_push,
  is-named,
  same-fails,
  other-passes,
  from_count,
  to_count,
}

-- what is known of each number is known of each place
has-at : (ks : List ℕ) (i d : ℕ) → i < length ks → Has ks (slice_index_or ks i d)
has-at [] i d lt = absurd (omega (arith, lt))
has-at (k ∷ ks) zero d lt = inl refl
has-at (k ∷ ks) (suc i) d lt = inr (has-at ks i d (omega (arith, lt)))

pub at_places : (P : ℕ → Type 0) (ks : List ℕ) → ((k : ℕ) → Has ks k → P k) → All P ks
at_places P ks each i d lt = each (slice_index_or ks i d) (has-at ks i d lt)

-- each number at its place is one of them
pub has_at : (ks : List ℕ) (i d : ℕ) → i < length ks → Has ks (slice_index_or ks i d)
has_at ks i d lt = has-at ks i d lt

pub left_below : (m : ModelTree) (names : List ℕ) (k : ℕ) → Has (all_but m names) k → k < length m.conjectures
left_below m names k h =
    let lt = from_count 0 (length m.conjectures) k
    (from_filter (λ k. not (list_any (λ n. n == k) names)) (count_from 0 (length m.conjectures)) k h).0 in
    omega (arith, lt)

-- without names all are left
all-left : (ks : List ℕ) → filter (λ k. not (list_any (λ n. n == k) [])) ks ≡ ks
all-left [] = refl
all-left (k ∷ ks) = ap (λ l. k ∷ l) (all-left ks)

-- a goal is about one of the conjectures
abbrev pub IsAboutOneOf : List ℕ → Goal → Type 0
IsAboutOneOf ks goal = (k : ℕ) × Has ks k × (goal.about ≡ about.Conjecture k)

module _ (m : ModelTree) (held : List ℕ) where
  among : (s : Stage) (k n : ℕ) (ps : List (List PrimitiveTree)) → Has held k
      → AllByRecursion (IsAboutOneOf held) (goals_among (group_at s k) n ps)
  among s k n [] has = tt
  among s k n (p ∷ ps) has = go (is_for (about.Conjecture k) p) (among s k (suc n) ps has)
    where
      go : (b : Bool) → AllByRecursion (IsAboutOneOf held) (goals_among (group_at s k) (suc n) ps)
          → AllByRecursion (IsAboutOneOf held) (if b
          then record { stage = s; path = n; about = about.Conjecture k } ∷ goals_among (group_at s k) (suc n) ps
          else goals_among (group_at s k) (suc n) ps)
      go true h = ((k, has, refl), h)
      go false h = h

  behind-stage : (s : Stage) (ks : List ℕ) → IsWithin ks held
      → AllByRecursion (IsAboutOneOf held) (stage_goals m ks s)
  behind-stage s [] within = tt
  behind-stage s (k ∷ ks) within =
      all_append (IsAboutOneOf held) (group_goals m (group_at s k)) (stage_goals m ks s)
      (among s k 1 (stage_paths m s) (within k (inl refl))) (behind-stage s ks (λ n h. within n (inr h)))

  behind-stages : (ss : List Stage) → AllByRecursion (IsAboutOneOf held) (flat_map (λ s. stage_goals m held s) ss)
  behind-stages [] = tt
  behind-stages (s ∷ ss) =
      all_append (IsAboutOneOf held) (stage_goals m held s) (flat_map (λ s. stage_goals m held s) ss)
      (behind-stage s held (λ n h. h)) (behind-stages ss)

  pub about_one : (counted : Counted) (limits : Ceilings) (shown : Counterexample)
      → IsFirstFailing counted limits m held (goals_about m held) shown → IsAboutOneOf held shown.goal
  about_one counted limits shown h =
      (all_back (IsAboutOneOf held) h.before (shown.goal ∷ h.behind)
      (subst (λ (gs : List Goal). AllByRecursion (IsAboutOneOf held) gs) h.order
      (behind-stages (conjecture_stages m)))).0

pub is_conjecture : (ks : List ℕ) (goal : Goal) → IsAboutOneOf ks goal → IsConjecture goal.about
is_conjecture ks goal h = subst IsConjecture (sym h.2) tt

-- What was dropped so far, and what is held.
pub record IsSoFar (counted : Counted) (limits : Ceilings) (m : ModelTree) (dropped : List Dropped) (held : List ℕ) :
    Type 0 where
  pub held_is : held ≡ all_but m (map (λ d. d.conjecture) dropped)
  pub drops : AreDrops counted limits m [] dropped
  pub once : AreDistinct (map (λ d. d.conjecture) dropped)
  pub greatest : (ks : List ℕ) → IsInductive m ks → IsWithin ks held

module _ (counted : Counted) (limits : Ceilings) (m : ModelTree) where
  pub at_first : (held : List ℕ) → held ≡ count_from 0 (length m.conjectures) → IsSoFar counted limits m [] held
  at_first held is = record {
    held_is = is ∙ sym (all-left (count_from 0 (length m.conjectures)));
    drops = tt;
    once = tt;
    greatest = λ ks inductive k has.
        let lt = inductive.conjectures k has in
        subst (λ (l : List ℕ). Has l k) (sym is)
        (to_count 0 (length m.conjectures) k (omega arith) (omega (arith, lt)));
  }

  pub held_below : (dropped : List Dropped) (held : List ℕ) → IsSoFar counted limits m dropped held
      → All (λ k. k < length m.conjectures) held
  held_below dropped held h =
      at_places (λ k. k < length m.conjectures) held (λ k has. left_below m (map (λ d. d.conjecture) dropped) k
      (subst (λ (l : List ℕ). Has l k) h.held_is has))

  drops-push : (before : List ℕ) (ds : List Dropped) (d : Dropped) → AreDrops counted limits m before ds
      → IsDrop counted limits m (all_but m (before ++ map (λ d. d.conjecture) ds)) d
      → AreDrops counted limits m before (ds ++ d ∷ [])
  drops-push before [] d h new =
      (subst (λ (names : List ℕ). IsDrop counted limits m (all_but m names) d) (append-nil before) new, tt)
  drops-push before (e ∷ ds) d h new = (
    h.0,
    drops-push (before ++ e.conjecture ∷ []) ds d h.1
        (subst (λ (names : List ℕ). IsDrop counted limits m (all_but m names) d)
        (sym (append_assoc before (e.conjecture ∷ []) (map (λ d. d.conjecture) ds))) new),
  )

  module _ (broken : BrokenIsNowhere) (dropped : List Dropped) (held : List ℕ) (shown : Counterexample) (c : ℕ)
      (h : IsSoFar counted limits m dropped held) (fails : IsFirstFailing counted limits m held (goals_about m held)
      shown)
      (is : shown.goal.about ≡ about.Conjecture c) where
    abbrev names : List ℕ
    names = map (λ d. d.conjecture) dropped

    member : Has held c
    member =
        let one = about_one m held counted limits shown fails in
        let same : one.0 ≡ c = cc (sym one.2 ∙ is) in
        subst (Has held) same one.1

    new-name : Has names c → ⊥
    new-name has =
        let left = subst (λ (l : List ℕ). Has l c) h.held_is member in
        let passes = (from_filter (λ k. not (list_any (λ n. n == k) names)) (count_from 0 (length m.conjectures)) c
        left).1 in
        let named = is-named names c has in
        cc (sym (ap not named) ∙ passes)

    pub fewer_left : (left : List ℕ) → left ≡ filter (λ k. not (c == k)) held → length left < length held
    fewer_left left e =
        subst (λ (l : List ℕ). length l < length held) (sym e)
        (filter_shorter (λ k. not (c == k)) held c member (same-fails c))

    pub next_drop : (d : Dropped) (left : List ℕ) (new : List Dropped) → d.conjecture ≡ c → d.held ≡ held
        → d.shown ≡ shown → left ≡ filter (λ k. not (c == k)) held → new ≡ dropped ++ d ∷ []
        → IsSoFar counted limits m new left
    next_drop d left new of_c of_held of_shown e pushed =
        let more : map (λ d. d.conjecture) new ≡ names ++ c ∷ [] =
        ap (map (λ d. d.conjecture)) pushed ∙ map-append (λ d. d.conjecture) dropped (d ∷ [])
        ∙ ap (λ k. names ++ k ∷ []) of_c in
        let drop : IsDrop counted limits m (all_but m names) d = record {
          held_then = of_held ∙ h.held_is;
          member = subst (λ (k : ℕ). Has (all_but m names) k) (sym of_c)
              (subst (λ (l : List ℕ). Has l c) h.held_is member);
          about = ap (λ (s : Counterexample). s.goal.about) of_shown ∙ is ∙ ap (λ k. about.Conjecture k) (sym of_c);
          fails = subst (λ (s : Counterexample). IsFirstFailing counted limits m (all_but m names)
              (goals_about m (all_but m names)) s) (sym of_shown)
              (subst (λ (l : List ℕ). IsFirstFailing counted limits m l (goals_about m l) shown) h.held_is fails);
        } in
        record {
          held_is = e ∙ ap (filter (λ k. not (c == k))) h.held_is
              ∙ all_but_push names c (count_from 0 (length m.conjectures)) ∙ ap (all_but m) (sym more);
          drops = subst (AreDrops counted limits m []) (sym pushed) (drops-push [] dropped d h.drops drop);
          once = subst AreDistinct (sym more) (distinct_push names c h.once new-name);
          greatest = λ ks inductive k has.
              let other : c ≡ k → ⊥ = λ same. broken m held shown.goal c shown.structure shown.trace.havoc
              shown.values is fails.goal fails.fails.refutes ks inductive (h.greatest ks inductive)
              (subst (λ (n : ℕ). Has ks n) (sym same) has) in
              subst (λ (l : List ℕ). Has l k) (sym e)
              (has_filter (λ n. not (c == n)) held k (h.greatest ks inductive k has) (other-passes c k other));
        }

  -- behind the last round
  pub found : SettledIsInductive → (dropped : List Dropped) (held : List ℕ) → IsSoFar counted limits m dropped held
      → (h : Houdini) → h.dropped ≡ dropped → h.kept ≡ held
      → AreSettled counted limits m held (goals_about m held) h.unsettled
      → IsFound counted limits m h
  found inductive dropped held far h of_dropped of_kept settled =
      let names : map (λ d. d.conjecture) dropped ≡ map (λ d. d.conjecture) h.dropped =
      ap (map (λ d. d.conjecture)) (sym of_dropped) in
      record {
        kept = of_kept ∙ far.held_is ∙ ap (all_but m) names;
        drops = subst (AreDrops counted limits m []) (sym of_dropped) far.drops;
        once = subst AreDistinct names far.once;
        greatest = λ ks is. subst (IsWithin ks) (sym of_kept) (far.greatest ks is);
        inductive = λ none.
            let safe : AllByRecursion (IsSafe counted limits m held) (goals_about m held) =
            subst (λ (o : Option (Goal × Cause)). AreSettled counted limits m held (goals_about m held) o) none
            settled in
            subst (IsInductive m) (sym of_kept)
            (inductive m held
            (λ k has. left_below m (map (λ d. d.conjecture) dropped) k
            (subst (λ (l : List ℕ). Has l k) far.held_is has))
            (all_more (IsSafe counted limits m held) (HasNone m (conjectures_of m held)) (λ g is. is.1)
            (goals_about m held) safe));
        settled = subst (λ (l : List ℕ). AreSettled counted limits m l (goals_about m l) h.unsettled) (sym of_kept)
            settled;
      }

-- one more number at the end
pub pushed_count : (k n : ℕ) (old new whole : List ℕ) → k < n → new ≡ old ++ k ∷ []
    → old ++ count_from k (n - k) ≡ whole
    → new ++ count_from (k + 1) (n - (k + 1)) ≡ whole
pushed_count k n old new whole lt e h =
    let f : suc k ≡ k + 1 = omega arith in
    let g : n - k ≡ suc (n - (k + 1)) = omega arith in
    let step : count_from k (n - k) ≡ k ∷ count_from (k + 1) (n - (k + 1)) =
    ap (λ (i : ℕ). count_from k i) g ∙ ap (λ (i : ℕ). k ∷ count_from i (n - (k + 1))) f in
    ap (λ ys. ys ++ count_from (k + 1) (n - (k + 1))) e
    ∙ append_assoc old (k ∷ []) (count_from (k + 1) (n - (k + 1))) ∙ ap (λ ys. old ++ ys) (sym step) ∙ h

pub whole_count : (k n : ℕ) (all whole : List ℕ) → n ≤ k → all ++ count_from k (n - k) ≡ whole → all ≡ whole
whole_count k n all whole le h =
    let e : n - k ≡ 0 = omega arith in
    sym (append-nil all) ∙ ap (λ (i : ℕ). all ++ count_from k i) (sym e) ∙ h
