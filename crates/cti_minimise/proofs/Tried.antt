-- Least numbers, place by place: what was tried of each.
use Rattle.std.proofs.Common.{◌≡◌, ℕ, ◌+◌, ◌<◌, ◌≤◌, List, [], ◌∷◌, ◌++◌, length, take, get_or, sym, ap, ◌∙◌}
use Rattle.std.proofs.Common.{subst, ⊎_elim, arith, length-append}
use Rattle.std.specs.Prelude.{None}
use Rattle.std.proofs.lemmas.Bool.{cases_lt}
use Rattle.std.proofs.lemmas.List.{length-take-le, take-append-le, take_at, get_or_append_left, get_or-append-add}
use Rattle.fol_sig.specs.Tables.{Tables}
use Rattle.fol_sig.specs.Symbols.{FitsStructure, symbols}
use Rattle.rml_command.specs.Models.{ModelTree}
use Rattle.rml_command.specs.declared.goal.Goal.{Goal}
use Rattle.limits.specs.Ceilings.{Ceilings}
use Rattle.obligation_decide.specs.Restricted.{RestrictedPassesFirst, HasNoneWhere}
use Rattle.cti_minimise.specs.Bounding.{bound_at, bounds_on}
use Rattle.cti_minimise.specs.Extents.{extent, places, lowest}
use Rattle.cti_minimise.specs.Minimal.{AreTried, AreLeast, numbers_up_to}
use Rattle.cti_minimise.specs.Laws.{AreBounds}
use Rattle.cti_minimise.proofs.Extending.{length-extent}
use Rattle.cti_minimise.proofs.Searching.{at-first, refuted-by, refuted-above, from-lowest}

module _ (limits : Ceilings) (m : ModelTree) (goal : Goal) where
  -- with bounds on these numbers the goal passes no limit by its size
  abbrev pub Pass : List ℕ → Type 0
  Pass numbers = RestrictedPassesFirst limits m (bounds_on m.signature numbers) goal None

  -- one number more
  tried-next : (numbers : List ℕ) (n : ℕ) → AreTried limits m goal numbers
      → ((k : ℕ) → lowest m.signature (length numbers) ≤ k → k < n → Pass (numbers ++ k ∷ []))
      → AreTried limits m goal (numbers ++ n ∷ [])
  tried-next numbers n before last place k lt low below =
      let all = length-append numbers (n ∷ []) in
      ⊎_elim
      (λ here.
      let at = get_or_append_left numbers (n ∷ []) 0 place here in
      let front = take-append-le place numbers (n ∷ []) (omega (arith, here)) in
      subst (λ (xs : List ℕ). Pass (xs ++ k ∷ [])) (sym front)
      (before place k here low (omega (arith, below, at))))
      (λ le.
      let is : place ≡ length numbers = omega (arith, le, lt, all) in
      let none : length numbers + 0 ≡ length numbers = omega arith in
      let at : get_or (numbers ++ n ∷ []) place 0 ≡ n =
      ap (λ j. get_or (numbers ++ n ∷ []) j 0) (is ∙ sym none) ∙ get_or-append-add numbers (n ∷ []) 0 0 in
      let front : take place (numbers ++ n ∷ []) ≡ numbers = take_at numbers (n ∷ []) place (sym is) in
      let first = ap (lowest m.signature) is in
      subst (λ (xs : List ℕ). Pass (xs ++ k ∷ [])) (sym front)
      (last k (omega (arith, low, first)) (omega (arith, below, at))))
      (cases_lt place (length numbers))

  -- at the first place
  pub at-start : AreLeast limits m goal []
  at-start = record { smaller = at-first m goal; tried = λ place n lt low below. absurd (omega (arith, lt)) }

  module _ (laws : AreBounds m.signature (bound_at m.signature)) (s : Tables) (place : ℕ)
      (known : place < places m.signature) (fits : FitsStructure (symbols m.signature) s)
      (before : AreLeast limits m goal (take place (extent s))) where
    -- each bound at the place, from the lowest one up to below this
    abbrev pub PassBelow : ℕ → Type 0
    PassBelow n = (k : ℕ) → lowest m.signature place ≤ k → k < n → Pass (take place (extent s) ++ k ∷ [])

    count : length (take place (extent s)) ≡ place
    count =
        let inside = length-extent m.signature s fits in
        length-take-le place (extent s) (omega (arith, inside, known))

    up-to : (n : ℕ) → PassBelow n → AreTried limits m goal (numbers_up_to s place n)
    up-to n last =
        let low = ap (lowest m.signature) count in
        tried-next (take place (extent s)) n before.tried (λ k least below. last k (omega (arith, least, low)) below)

    up-to-here : (n : ℕ) → AreTried limits m goal (numbers_up_to s place n) → PassBelow n
    up-to-here n tried k least below =
        let same = count in
        let all = length-append (take place (extent s)) (n ∷ []) in
        let front : take place (numbers_up_to s place n) ≡ take place (extent s) =
        take_at (take place (extent s)) (n ∷ []) place same in
        let none : length (take place (extent s)) + 0 ≡ place = omega (arith, same) in
        let at : get_or (numbers_up_to s place n) place 0 ≡ n =
        ap (λ j. get_or (numbers_up_to s place n) j 0) (sym none)
        ∙ get_or-append-add (take place (extent s)) (n ∷ []) 0 0 in
        subst (λ (xs : List ℕ). Pass (xs ++ k ∷ [])) front
        (tried place k (omega (arith, all, same)) least (omega (arith, below, at)))

    -- the lowest number that a structure may have at the place
    pub least-lowest : AreLeast limits m goal (numbers_up_to s place (lowest m.signature place))
    least-lowest = record {
      smaller = from-lowest m goal laws s place 0 known fits before.smaller;
      tried = up-to (lowest m.signature place) (λ k least below. absurd (omega (arith, least, below)));
    }

    module _ (n : ℕ) (pass : Pass (numbers_up_to s place n))
        (none : HasNoneWhere m (bounds_on m.signature (numbers_up_to s place n)) goal) where
      tried-above : PassBelow n → AreTried limits m goal (numbers_up_to s place (n + 1))
      tried-above lower =
          up-to (n + 1)
          (λ k least below. ⊎_elim
          (λ less. lower k least less)
          (λ ge.
          let same : n ≡ k = omega (arith, ge, below) in
          subst (λ (j : ℕ). Pass (take place (extent s) ++ j ∷ [])) same pass)
          (cases_lt k n))

      -- the bound was refuted, and those below it
      pub least-next : AreLeast limits m goal (numbers_up_to s place n)
          → AreLeast limits m goal (numbers_up_to s place (n + 1))
      least-next least = record {
        smaller = refuted-by m goal laws s place n known fits none least.smaller;
        tried = tried-above (up-to-here n least.tried);
      }

      -- the bound was refuted, and those below it were counted
      pub least-above : PassBelow n → AreLeast limits m goal (numbers_up_to s place (n + 1))
      least-above lower = record {
        smaller = refuted-above m goal laws s place n known fits none before.smaller;
        tried = tried-above lower;
      }
