-- The goals of a walk, one behind the other.
use Rattle.std.proofs.Common.{◌≡◌, ℕ, zero, suc, ◌+◌, ◌-◌, ◌<◌, ◌≤◌, List, [], ◌∷◌, length, map}
use Rattle.std.proofs.Common.{refl, sym, ap, ◌∙◌, subst, arith}
use Rattle.std.specs.List.{AllByRecursion}
use Rattle.base.specs.Lists.{count_from}
use Rattle.rml_command.specs.Models.{ModelTree}
use Rattle.limits.specs.Ceilings.{Ceilings}
use Rattle.lean_decide.specs.declared.settling.Counted.{Counted}
use Rattle.walks.specs.declared.leg.Walk.{Walk}
use Rattle.rml_bmc.specs.Tallies.{Passed, Met, HasRoom}
use Rattle.rml_bmc.specs.declared.answer.Run.{Run}
use Rattle.rml_bmc.specs.declared.tally.Tally.{Tally}
use Rattle.rml_bmc.proofs.Tallying.{Completes, behind_passed, at_met, at_last}

-- the first of the numbers from k up to n
pub count-step : (f : ℕ → Walk) (k n : ℕ) → k < n
    → map f (count_from k (n - k)) ≡ f k ∷ map f (count_from (k + 1) (n - (k + 1)))
count-step f k n h =
    let e : n - k ≡ suc (n - (k + 1)) = omega arith in
    let g : suc k ≡ k + 1 = omega arith in
    ap (λ (i : ℕ). map f (count_from k i)) e ∙ ap (λ (i : ℕ). f k ∷ map f (count_from i (n - (k + 1)))) g

pub count-none : (f : ℕ → Walk) (k n : ℕ) → n ≤ k → map f (count_from k (n - k)) ≡ []
count-none f k n h = let e : n - k ≡ 0 = omega arith in ap (λ (i : ℕ). map f (count_from k i)) e

-- what is known where goals are left
pub record Left (counted : Counted) (limits : Ceilings) (m : ModelTree) (P : Walk → Type 0) (whole : List Walk)
    (old : Tally)
    (rest : List Walk) (now : Tally) : Type 0 where
  pub each : AllByRecursion P rest
  pub room : HasRoom now (length rest)
  pub all : Completes counted limits m whole old rest now

module _ (counted : Counted) (limits : Ceilings) (m : ModelTree) (P : Walk → Type 0) (whole : List Walk)
    (old : Tally) where
  pub at_first : AllByRecursion P whole → HasRoom old (length whole) → Left counted limits m P whole old whole old
  at_first each room = record { each = each; room = room; all = λ t h. h }

  pub of_next : (rest more : List Walk) (goal : Walk) (now : Tally) → rest ≡ goal ∷ more
      → Left counted limits m P whole old rest now → Left counted limits m P whole old (goal ∷ more) now
  of_next rest more goal now e left = subst (λ r. Left counted limits m P whole old r now) e left

  pub next_is : (more : List Walk) (goal : Walk) (now : Tally) → Left counted limits m P whole old (goal ∷ more) now
      → P goal
  next_is more goal now left = left.each.0

  pub next_room : (more : List Walk) (goal : Walk) (now : Tally) → Left counted limits m P whole old (goal ∷ more) now
      → HasRoom now 1
  next_room more goal now left = let room = left.room in omega (arith, room)

  pub go_on : (more : List Walk) (goal : Walk) (now next : Tally) → Left counted limits m P whole old (goal ∷ more) now
      → Passed counted limits m (goal ∷ []) now next → Left counted limits m P whole old more next
  go_on more goal now next left passed = record {
    each = left.each.1;
    room = let room = left.room in let place = passed.place in omega (arith, room, place);
    all = behind_passed counted limits m (goal ∷ []) more whole old now next passed left.all;
  }

  pub stop : (more : List Walk) (goal : Walk) (now : Tally) (run : Run)
      → Left counted limits m P whole old (goal ∷ more) now
      → Met counted limits m (goal ∷ []) run → Met counted limits m whole run
  stop more goal now run left met = at_met counted limits m (goal ∷ []) more whole old now run met left.all

  pub at_end : (rest : List Walk) (now : Tally) → rest ≡ [] → Left counted limits m P whole old rest now
      → Passed counted limits m whole old now
  at_end rest now e left =
      at_last counted limits m whole old now (subst (λ r. Completes counted limits m whole old r now) e left.all)

-- the goals of the numbers below n, before the first of them
pub counted_first : (counted : Counted) (limits : Ceilings) (m : ModelTree) (P : Walk → Type 0) (f : ℕ → Walk)
    (n count : ℕ) (old : Tally)
    → count ≡ n → AllByRecursion P (map f (count_from 0 n)) → HasRoom old n
    → Left counted limits m P (map f (count_from 0 n)) old (map f (count_from 0 (count - 0))) old
counted_first counted limits m P f n count old e each room =
    let same : n ≡ count - 0 = omega (arith, e) in
    subst (λ (i : ℕ). Left counted limits m P (map f (count_from 0 n)) old (map f (count_from 0 i)) old) same
    (at_first counted limits m P (map f (count_from 0 n)) old each
    (subst (λ (i : ℕ). HasRoom old i) (sym (length-counted f 0 n)) room))
  where
    length-counted : (f : ℕ → Walk) (k n : ℕ) → length (map f (count_from k n)) ≡ n
    length-counted f k zero = refl
    length-counted f k (suc n) = ap (λ (i : ℕ). suc i) (length-counted f (suc k) n)
