-- What suffices for the goals of a group, path by path, and what is remembered of groups.
use Rattle.std.proofs.Common.{◌≡◌, ◌==◌, ◌+◌, ◌<◌, ◌≤◌, inl, inr, ℕ, zero, suc, true, false, not, List, [], ◌∷◌, ◌++◌}
use Rattle.std.proofs.Common.{length, map, drop, get_or, set, Option, Some, None, refl, sym, ap, ◌∙◌, subst, arith}
use Rattle.std.specs.Prelude.{slice_get, slice_index_or, All}
use Rattle.std.specs.List.{AllByRecursion, filter}
use Rattle.std.proofs.lemmas.List.{drop_all, drop_more}
use Rattle.std.proofs.lemmas.Bool.{and_parts, and_from}
use Rattle.base.specs.Lists.{SomeOf}
use Rattle.base.proofs.Lists.{all_more, all_both}
use Rattle.fol_sig.specs.Tables.{Tables}
use Rattle.fol_formula.specs.Syntax.{FormTree, top}
use Rattle.fol_nnf.specs.Laws.{FragmentsAreKept}
use Rattle.rml_command.specs.Trees.{PrimitiveTree}
use Rattle.rml_command.specs.Models.{ModelTree}
use Rattle.rml_command.specs.Fragment.{IsChecked}
use Rattle.fol_formula.specs.Sentences.{satisfies}
use Rattle.rml_command.specs.Goals.{goals_among, group_goals, is_for, stage_paths}
use Rattle.rml_command.specs.declared.goal.Head.{Head}
use Rattle.rml_command.specs.declared.goal.Goal.{Goal}
use Rattle.rml_command.specs.declared.goal.Stage.{Stage}
use Rattle.rml_command.specs.declared.goal.Stage.TheVariants as stage
use Rattle.rml_exec.specs.declared.trace.Counterexample.{Counterexample}
use Rattle.rml_command.specs.InductiveSets.{conjectures_of, Has, IsWithin}
use Rattle.rml_command.specs.Goals.{is_allowed}
use Rattle.rml_wp.specs.Added.{ConjecturesAreAdded}
use Rattle.limits.specs.declared.cause.Cause.{Cause}
use Rattle.limits.specs.Ceilings.{Ceilings}
use Rattle.rml_command.specs.Goals.{HasNone}
use Rattle.lean_decide.specs.declared.settling.Counted.{Counted}
use Rattle.lean_decide.specs.declared.settling.Counted.TheVariants.{Whole, Lean}
use Rattle.rml_houdini.specs.Rounds.{group_at, IsSafe}
use Rattle.rml_houdini.specs.Keeping.{Suffice, Grows, AreHeldBefore, IsKept, IsKeptAt, AreKept, KeptStaysKept}
use Rattle.rml_houdini.specs.declared.known.Kept.{Kept}
use Rattle.rml_houdini.proofs.Members.{has_push}
use Rattle.rml_houdini.proofs.Fewer.{fewer_none}
use Rattle.rml_houdini.proofs.Paths.{passed, listed, no_path}
use Rattle.rml_houdini.proofs.Sizes.{fewer_pass}
use Rattle.obligation_decide.specs.GoalDecisions.{IsFailing}
use Rattle.obligation_decide.specs.GoalPassing.{PassesFirst}
use Rattle.std.specs.Option.{option_or}

-- what is assumed grows
pub grow_on : (held old mid new : List ℕ) → Grows held old mid → Grows held mid new → Grows held old new
grow_on held old mid new a b = (λ k has. b.0 k (a.0 k has), λ within. b.1 (a.1 within))

has-front : (ks : List ℕ) (c k : ℕ) → Has ks k → Has (ks ++ c ∷ []) k
has-front [] c k h = absurd h
has-front (x ∷ xs) c k (inl is) = inl is
has-front (x ∷ xs) c k (inr h) = inr (has-front xs c k h)

pub pushed_within : (held ks : List ℕ) (c : ℕ) → Has held c → IsWithin ks held → IsWithin (ks ++ c ∷ []) held
pushed_within held ks c there within k has =
    elim (has_push ks c k has) [ inl old ↦ within k old | inr is ↦ subst (Has held) is there ]

pub grows_by : (held old new : List ℕ) (c : ℕ) → Has held c → new ≡ old ++ c ∷ [] → Grows held old new
grows_by held old new c there is = (
  (λ k has. subst (λ (l : List ℕ). Has l k) (sym is) (has-front old c k has)),
  (λ within. subst (λ (l : List ℕ). IsWithin l held) (sym is) (pushed_within held old c there within)),
)

pub grows_to_all : (held old new : List ℕ) → IsWithin old held → new ≡ held → Grows held old new
grows_to_all held old new within is = (
  (λ k has. subst (λ (l : List ℕ). Has l k) (sym is) (within k has)),
  (λ _. subst (λ (l : List ℕ). IsWithin l held) (sym is) (λ k has. has)),
)

pub all_below : (most : ℕ) (held ks : List ℕ) → All (λ k. k < most) held → IsWithin ks held → All (λ k. k < most) ks
all_below most held ks h within = go ks within
  where
    below-of : (hs : List ℕ) (k : ℕ) → All (λ k. k < most) hs → Has hs k → k < most
    below-of [] k all has = absurd has
    below-of (x ∷ xs) k all (inl is) = subst (λ (n : ℕ). n < most) is (all 0 0 (omega arith))
    below-of (x ∷ xs) k all (inr has) = below-of xs k (λ i d lt. all (suc i) d (omega (arith, lt))) has

    go : (ns : List ℕ) → IsWithin ns held → All (λ k. k < most) ns
    go [] within i d lt = absurd (omega (arith, lt))
    go (n ∷ ns) within zero d lt = below-of held n h (within n (inl refl))
    go (n ∷ ns) within (suc i) d lt = go ns (λ k has. within k (inr has)) i d (omega (arith, lt))

-- numbers are within others where the first is one of these and so are the rest
pub within_more : (numbers others : List ℕ) (i : ℕ) → i < length numbers → Has others (get_or numbers i 0)
    → (IsWithin (drop i numbers) others → IsWithin numbers others)
    → IsWithin (drop (i + 1) numbers) others → IsWithin numbers others
within_more numbers others i lt there whole rest =
    whole (subst (λ (l : List ℕ). IsWithin l others) (sym (drop_more numbers i 0 lt))
    (λ k has. elim has [ inl is ↦ subst (Has others) is there | inr h ↦ rest k h ]))

pub within_end : (numbers others : List ℕ) (i : ℕ) → length numbers ≤ i
    → (IsWithin (drop i numbers) others → IsWithin numbers others) → IsWithin numbers others
within_end numbers others i le whole =
    whole (subst (λ (l : List ℕ). IsWithin l others) (sym (drop_all i numbers le)) (λ k has. absurd has))

-- the sentences that a checked model lends
pub chosen_of : (m lent : ModelTree) (ks : List ℕ) (conjectures : List FormTree) → conjectures ≡ lent.conjectures
    → lent ≡ m → map (λ k. slice_index_or conjectures k top) ks ≡ conjectures_of m ks
chosen_of m lent ks conjectures is same =
    ap (λ (cs : List FormTree). map (λ k. slice_index_or cs k top) ks)
    (is ∙ ap (λ (z : ModelTree). z.conjectures) same)

-- what is asked of the held conjectures
pub held_at_init : (m : ModelTree) (st : Stage) (held : List ℕ) (s : Tables) → st ≡ stage.Init
    → AreHeldBefore m st held s
held_at_init m st held s is = subst (λ (x : Stage). AreHeldBefore m x held s) (sym is) tt

pub held_behind : (m : ModelTree) (st : Stage) (held : List ℕ) (s : Tables)
    → satisfies s (conjectures_of m held) ≡ true → AreHeldBefore m st held s
held_behind m stage.Init held s are = tt
held_behind m (stage.Action a) held s are = are
held_behind m stage.Final held s are = are

-- a counterexample in which all held conjectures are true is one where they are held
allowed-all : (m : ModelTree) (s : Tables) (ks held : List ℕ) (st : Stage)
    → is_allowed m (conjectures_of m ks) st s ≡ true → AreHeldBefore m st held s
    → is_allowed m (conjectures_of m held) st s ≡ true
allowed-all m s ks held stage.Init h are = h
allowed-all m s ks held (stage.Action a) h are = and_from _ _ (and_parts _ _ h).0 are
allowed-all m s ks held stage.Final h are = and_from _ _ (and_parts _ _ h).0 are

pub fails_held : (limits : Ceilings) (m : ModelTree) (ks held : List ℕ) (goal : Goal) (shown : Counterexample)
    → IsFailing limits m (conjectures_of m ks) goal shown → AreHeldBefore m goal.stage held shown.structure
    → IsFailing limits m (conjectures_of m held) goal shown
fails_held limits m ks held goal shown h are = record {
  same = h.same;
  path = h.path;
  refutes = record {
    path = h.refutes.path;
    is_path = h.refutes.is_path;
    structure = h.refutes.structure;
    allowed = allowed-all m shown.structure ks held goal.stage h.refutes.allowed are;
    count = h.refutes.count;
    fails = h.refutes.fails;
  };
  few = h.few;
}

-- some goal is left open
open-now : (first : Option (Goal × Cause)) (g : Goal) (c : Cause) → option_or first (Some (g, c)) ≡ None → ⊥
open-now None g c e = absurd (cc e)
open-now (Some first) g c e = absurd (cc e)

-- the goals of a group, along its paths
module _ (m : ModelTree) (group : Head) (ps : List (List PrimitiveTree)) where
  -- What is assumed suffices for the goals so far, if none is left open; and so does whatever has it.
  abbrev pub SufficesThrough : Option (Goal × Cause) → List ℕ → ℕ → Type 0
  SufficesThrough first ks i = (more : List ℕ) → first ≡ None → IsWithin ks more
      → Suffice m more (goals_among group (i + 1) (drop i ps)) → Suffice m more (group_goals m group)

  pub first_suffices : (ks : List ℕ) → ps ≡ stage_paths m group.stage → SufficesThrough None ks 0
  first_suffices ks same more none within h =
      subst (λ (qs : List (List PrimitiveTree)). Suffice m more (goals_among group 1 qs)) same h

  module _ (first : Option (Goal × Cause)) (ks : List ℕ) (i : ℕ) (p : List PrimitiveTree)
      (at : slice_get ps i ≡ Some p) (so_far : SufficesThrough first ks i) where
    pub passed_suffices : is_for group.about p ≡ false → SufficesThrough first ks (i + 1)
    passed_suffices other more none within h =
        so_far more none within
        (subst (λ (gs : List Goal). Suffice m more gs) (sym (passed group ps i p at other)) h)

    pub kept_suffices : is_for group.about p ≡ true → (now : List ℕ) → IsWithin ks now
        → HasNone m (conjectures_of m now) (record { stage = group.stage; path = i + 1; about = group.about })
        → SufficesThrough first now (i + 1)
    kept_suffices kind now grows none_here more none within h =
        so_far more none (λ k has. within k (grows k has))
        (subst (λ (gs : List Goal). Suffice m more gs) (sym (listed group ps i p at kind))
        (fewer_none m now more (record { stage = group.stage; path = i + 1; about = group.about }) within none_here, h))

  pub open_suffices : (first : Option (Goal × Cause)) (g : Goal) (c : Cause) (ks : List ℕ) (i : ℕ)
      → SufficesThrough (option_or first (Some (g, c))) ks i
  open_suffices first g c ks i more none within h = absurd (open-now first g c none)

  pub suffices_end : (first : Option (Goal × Cause)) (ks : List ℕ) (i : ℕ) → length ps ≤ i
      → SufficesThrough first ks i → first ≡ None → Suffice m ks (group_goals m group)
  suffices_end first ks i le so_far none =
      so_far ks none (λ k has. has) (subst (λ (gs : List Goal). Suffice m ks gs) (sym (no_path group ps i le)) tt)

-- what is remembered
some-of : {A : Type 0} (P : A → Type 0) (xs : List A) (x : A) → SomeOf (λ y. y ≡ x) xs → AllByRecursion P xs → P x
some-of P [] x h all = absurd h
some-of P (y ∷ ys) x (inl is) all = subst P is all.0
some-of P (y ∷ ys) x (inr h) all = some-of P ys x h all.1

pub some_at : {A : Type 0} (xs : List A) (i : ℕ) (x : A) → i < length xs → x ≡ get_or xs i x → SomeOf (λ y. y ≡ x) xs
some_at [] i x lt is = absurd (omega (arith, lt))
some_at (y ∷ ys) zero x lt is = inl (sym is)
some_at (y ∷ ys) (suc i) x lt is = inr (some_at ys i x (omega (arith, lt)) is)

pub all_set : {A : Type 0} (P : A → Type 0) (xs : List A) (i : ℕ) (x : A) → AllByRecursion P xs → P x
    → AllByRecursion P (set xs i x)
all_set P [] i x all here = tt
all_set P (y ∷ ys) zero x all here = (here, all.1)
all_set P (y ∷ ys) (suc i) x all here = (all.0, all_set P ys i x all.1 here)

module _ (limits : Ceilings) (m : ModelTree) (held : List ℕ) where
  safe_by : (st : Stage) (k : ℕ) (ks : List ℕ) → IsKept limits m held st k ks → IsWithin ks held
      → AllByRecursion (IsSafe Whole limits m held) (group_goals m (group_at st k))
  safe_by st k ks h within =
      all_both (λ g. PassesFirst limits m (conjectures_of m held) g None) (HasNone m (conjectures_of m ks))
      (IsSafe Whole limits m held) (λ g few none. (few, fewer_none m ks held g within none))
      (group_goals m (group_at st k)) h.within h.suffice

  pub remembered : (groups : List (Option Kept)) (kept : Kept) (st : Stage) (k : ℕ) → kept.stage ≡ st
      → kept.conjecture ≡ k → SomeOf (λ g. g ≡ Some kept) groups → IsWithin kept.by.held.items held
      → AreKept Whole limits m held groups → AllByRecursion (IsSafe Whole limits m held) (group_goals m (group_at st k))
  remembered groups kept st k of_stage of_conjecture there within all =
      let here : IsKept limits m held kept.stage kept.conjecture kept.by.held.items =
      some-of (IsKeptAt limits m held) groups (Some kept) there all in
      let moved : IsKept limits m held st kept.conjecture kept.by.held.items =
      subst (λ (s : Stage). IsKept limits m held s kept.conjecture kept.by.held.items) of_stage here in
      safe_by st k kept.by.held.items
      (subst (λ (n : ℕ). IsKept limits m held st n kept.by.held.items) of_conjecture moved) within

  -- a group whose goals are all safe by these
  pub kept_by : (st : Stage) (k : ℕ) (ks : List ℕ)
      → AllByRecursion (IsSafe Whole limits m held) (group_goals m (group_at st k))
      → Suffice m ks (group_goals m (group_at st k)) → IsKept limits m held st k ks
  kept_by st k ks safe suffice = record {
    within = all_more (IsSafe Whole limits m held) (λ g. PassesFirst limits m (conjectures_of m held) g None)
        (λ g h. h.0) (group_goals m (group_at st k)) safe;
    suffice = suffice;
  }

pub nothing_kept : (counted : Counted) (limits : Ceilings) (m : ModelTree) (held : List ℕ) (groups : List (Option Kept))
    → AllByRecursion (λ g. g ≡ None) groups → AreKept counted limits m held groups
nothing_kept Whole limits m held groups h =
    all_more (λ (g : Option Kept). g ≡ None) (IsKeptAt limits m held)
    (λ g is. subst (λ (o : Option Kept). IsKeptAt limits m held o) (sym is) tt) groups h
nothing_kept Lean limits m held groups h = tt

module _ (fragments : FragmentsAreKept) (added : ConjecturesAreAdded) (limits : Ceilings) (m : ModelTree)
    (held : List ℕ) (c : ℕ) (checked : IsChecked m) where
  abbrev left : List ℕ
  left = filter (λ k. not (c == k)) held

  kept-left : (g : Option Kept) → IsKeptAt limits m held g → IsKeptAt limits m left g
  kept-left None h = tt
  kept-left (Some kept) h = record {
    within = all_more (λ g. PassesFirst limits m (conjectures_of m held) g None)
        (λ g. PassesFirst limits m (conjectures_of m left) g None)
        (λ g few. fewer_pass fragments limits m g (λ k. not (c == k)) held
        ((added m [] checked tt tt).some held).universal ((added m [] checked tt tt).some left).universal few)
        (group_goals m (group_at kept.stage kept.conjecture)) h.within;
    suffice = h.suffice;
  }

pub kept_stays_kept : FragmentsAreKept → ConjecturesAreAdded → KeptStaysKept
kept_stays_kept fragments added Whole limits m held c groups checked h =
    all_more (IsKeptAt limits m held) (IsKeptAt limits m (filter (λ k. not (c == k)) held))
    (kept-left fragments added limits m held c checked) groups h
kept_stays_kept fragments added Lean limits m held c groups checked h = tt
