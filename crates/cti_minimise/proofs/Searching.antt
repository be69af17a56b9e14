-- What a trial shows of smaller counterexamples.
use Rattle.std.proofs.Common.{◌≡◌, ℕ, suc, ◌+◌, ◌<◌, ◌≤◌, true, List, [], ◌∷◌, ◌++◌, length, take, get_or}
use Rattle.std.proofs.Common.{sym, ap, ◌∙◌, subst, ⊎_elim, arith, length-append}
use Rattle.std.specs.Prelude.{if◌then◌else◌, Bool}
use Rattle.std.proofs.lemmas.Bool.{cases_lt, lt-ltb, le-ltb}
use Rattle.std.proofs.lemmas.List.{take_more, length-take-le}
use Rattle.std.proofs.lemmas.List.Elements.{All-get_or}
use Rattle.fol_sig.specs.Tables.{Tables, Declared}
use Rattle.fol_sig.specs.Symbols.{FitsStructure, symbols}
use Rattle.rml_command.specs.Models.{ModelTree}
use Rattle.fol_formula.specs.Sentences.{satisfies}
use Rattle.rml_command.specs.Goals.{IsCounterexample}
use Rattle.rml_command.specs.declared.goal.Goal.{Goal}
use Rattle.rml_command.specs.declared.havoc.Havoc.{Havoc}
use Rattle.obligation_decide.specs.Restricted.{HasNoneWhere}
use Rattle.cti_minimise.specs.Bounding.{bound_at, bounds_on}
use Rattle.cti_minimise.specs.Extents.{extent, places, lowest}
use Rattle.cti_minimise.specs.Minimal.{HasNoSmaller, numbers_up_to}
use Rattle.cti_minimise.specs.Laws.{AreBounds}
use Rattle.cti_minimise.specs.Within.{AreAtMost}
use Rattle.cti_minimise.proofs.Extending.{length-extent, size-there}
use Rattle.cti_minimise.proofs.BoundLaws.{implied-by}
use Rattle.cti_minimise.proofs.Bounded.{same-front, none-below, not-below-lowest, below-next, below-above}
use Rattle.cti_minimise.proofs.Bounded.{at-most-front, within, bounded}

pub length-up-to : (numbers : List ℕ) (place n : ℕ) → place < length numbers
    → length (take place numbers ++ n ∷ []) ≡ suc place
length-up-to numbers place n lt =
    let front = length-take-le place numbers (omega (arith, lt)) in
    let all = length-append (take place numbers) (n ∷ []) in
    omega (arith, front, all)

pub up-to-all : (numbers : List ℕ) (place n : ℕ) → place < length numbers → n ≡ get_or numbers place 0
    → take place numbers ++ n ∷ [] ≡ take (suc place) numbers
up-to-all numbers place n lt is =
    let next : place + 1 ≡ suc place = omega arith in
    ap (λ k. take place numbers ++ k ∷ []) is
    ∙ sym (take_more numbers place 0 lt) ∙ ap (λ k. take k numbers) next

-- a number is at least the lowest of its place
pub lowest-le : (sig : Declared) (s : Tables) → FitsStructure (symbols sig) s → (place : ℕ)
    → lowest sig place ≤ get_or (extent s) place 0
lowest-le sig s fits place =
    ⊎_elim
    (λ lt.
    let sorts = fits.sorts in
    let some = All-get_or (λ n. 0 < n) s.sizes place 0 (omega (arith, lt, sorts)) fits.whole.positive in
    let here = size-there sig s fits place lt in
    let is = ap {B = ℕ} (λ (b : Bool). if b then 1 else 0) (lt-ltb place sig.sorts lt) in
    omega (arith, some, here, is))
    (λ le. let is = ap {B = ℕ} (λ (b : Bool). if b then 1 else 0) (le-ltb place sig.sorts le) in omega (arith, is))
    (cases_lt place sig.sorts)

module _ (m : ModelTree) (goal : Goal) where
  -- at the first place nothing is smaller
  pub at-first : HasNoSmaller m goal []
  at-first s havocs values counterexample less = none-below (extent s) less

  -- nothing is below the lowest number
  pub at-lowest : (numbers : List ℕ) → HasNoSmaller m goal numbers
      → HasNoSmaller m goal (numbers ++ lowest m.signature (length numbers) ∷ [])
  at-lowest numbers least s havocs values counterexample less =
      least s havocs values counterexample
      (not-below-lowest (extent s) numbers (lowest m.signature (length numbers))
      (λ lt. lowest-le m.signature s counterexample.structure (length numbers)) less)

  module _ (laws : AreBounds m.signature (bound_at m.signature)) where
    module _ (numbers : List ℕ) (n : ℕ) (few : length (numbers ++ n ∷ []) ≤ places m.signature) where
      -- what is within the bounds satisfies them
      not-within : HasNoneWhere m (bounds_on m.signature (numbers ++ n ∷ [])) goal
          → (s : Tables) (havocs : List Havoc) (values : List ℕ) → IsCounterexample m m.conjectures goal s havocs values
          → AreAtMost (extent s) (numbers ++ n ∷ []) → ⊥
      not-within none s havocs values counterexample most =
          none s havocs values counterexample
          (bounded (bound_at m.signature) m.signature s counterexample.structure
          (implied-by m.signature (bound_at m.signature) laws) 0 (numbers ++ n ∷ []) (omega (arith, few)) most)

      -- the bound was refuted
      pub at-next : HasNoneWhere m (bounds_on m.signature (numbers ++ n ∷ [])) goal
          → HasNoSmaller m goal (numbers ++ n ∷ []) → HasNoSmaller m goal (numbers ++ (n + 1) ∷ [])
      at-next none least s havocs values counterexample less =
          ⊎_elim
          (λ smaller. least s havocs values counterexample smaller)
          (λ most. not-within none s havocs values counterexample most)
          (below-next (extent s) numbers n less)

      -- the bound was refuted, and nothing smaller was tried
      pub at-above : HasNoneWhere m (bounds_on m.signature (numbers ++ n ∷ [])) goal → HasNoSmaller m goal numbers
          → HasNoSmaller m goal (numbers ++ (n + 1) ∷ [])
      at-above none least s havocs values counterexample less =
          ⊎_elim
          (λ smaller. least s havocs values counterexample smaller)
          (λ most. not-within none s havocs values counterexample most)
          (below-above (extent s) numbers n less)

      module _ (s : Tables) (havocs : List Havoc) (values : List ℕ)
          (counterexample : IsCounterexample m m.conjectures goal s havocs values)
          (lawful : satisfies s (bounds_on m.signature (numbers ++ n ∷ [])) ≡ true) where
        at-most : AreAtMost (extent s) (numbers ++ n ∷ [])
        at-most =
            within (bound_at m.signature) m.signature s counterexample.structure laws 0 (numbers ++ n ∷ [])
            (omega (arith, few)) lawful

        -- a structure within the bounds has just these numbers
        pub just-these : HasNoSmaller m goal (numbers ++ n ∷ [])
            → take (length (numbers ++ n ∷ [])) (extent s) ≡ numbers ++ n ∷ []
        just-these least =
            same-front (extent s) (numbers ++ n ∷ []) at-most (least s havocs values counterexample)

        -- and before the place these, where no numbers before it are smaller
        pub these-before : HasNoSmaller m goal numbers → take (length numbers) (extent s) ≡ numbers
        these-before least =
            same-front (extent s) numbers (at-most-front (extent s) numbers (n ∷ []) at-most)
            (least s havocs values counterexample)

    module _ (s : Tables) (place n : ℕ) (known : place < places m.signature)
        (fits : FitsStructure (symbols m.signature) s) where
      inside : place < length (extent s)
      inside = let count = length-extent m.signature s fits in omega (arith, count, known)

      few-numbers : length (numbers_up_to s place n) ≤ places m.signature
      few-numbers = let count = length-up-to (extent s) place n inside in omega (arith, count, known)

      module _ (t : Tables) (havocs : List Havoc) (values : List ℕ)
          (counterexample : IsCounterexample m m.conjectures goal t havocs values)
          (lawful : satisfies t (bounds_on m.signature (numbers_up_to s place n)) ≡ true) where
        -- the numbers up to the place are those that the bound left
        pub settled-by : HasNoSmaller m goal (numbers_up_to s place n)
            → numbers_up_to s place n ≡ take (suc place) (extent t)
        settled-by least =
            let count = length-up-to (extent s) place n inside in
            let same = just-these (take place (extent s)) n few-numbers t havocs values counterexample lawful least in
            sym (ap (λ j. take j (extent t)) (sym count) ∙ same)

        -- the numbers before the place stay
        pub before-stays : HasNoSmaller m goal (take place (extent s)) → take place (extent s) ≡ take place (extent t)
        before-stays least =
            let count = length-take-le place (extent s) (let lt = inside in omega (arith, lt)) in
            let same = these-before (take place (extent s)) n few-numbers t havocs values counterexample lawful
            least in
            sym (ap (λ j. take j (extent t)) (sym count) ∙ same)

      pub refuted-by : HasNoneWhere m (bounds_on m.signature (numbers_up_to s place n)) goal
          → HasNoSmaller m goal (numbers_up_to s place n) → HasNoSmaller m goal (numbers_up_to s place (n + 1))
      refuted-by none least = at-next (take place (extent s)) n few-numbers none least

      pub refuted-above : HasNoneWhere m (bounds_on m.signature (numbers_up_to s place n)) goal
          → HasNoSmaller m goal (take place (extent s)) → HasNoSmaller m goal (numbers_up_to s place (n + 1))
      refuted-above none least = at-above (take place (extent s)) n few-numbers none least

      pub from-lowest : HasNoSmaller m goal (take place (extent s))
          → HasNoSmaller m goal (numbers_up_to s place (lowest m.signature place))
      from-lowest least =
          let count = length-take-le place (extent s) (let lt = inside in omega (arith, lt)) in
          subst (λ (k : ℕ). HasNoSmaller m goal (take place (extent s) ++ lowest m.signature k ∷ [])) count
          (at-lowest (take place (extent s)) least)
