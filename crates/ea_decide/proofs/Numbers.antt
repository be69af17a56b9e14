-- Within the limits there is room: the terms can be numbered, and the clauses given to a solver.
use Rattle.std.proofs.Common.{◌≡◌, ℕ, ◌+◌, ◌*◌, ◌<◌, ◌≤◌, ◌^◌, Bool, true, false, List, length, Option, Some}
use Rattle.std.proofs.Common.{None, refl, sym, subst, arith}
use Rattle.std.specs.Prelude.{nat_lt, if◌then◌else◌, sum}
use Rattle.std.proofs.lemmas.Bool.{ltb-false}
use Rattle.fol_sig.specs.Tables.{Declared}
use Rattle.fol_sig.specs.Symbols.{Symbols}
use Rattle.fol_formula.specs.Syntax.{FormTree}
use Rattle.fol_formula.specs.Counts.{saturated}
use Rattle.fol_nnf.specs.Normal.{normal}
use Rattle.skolem.specs.Constants.{new_sorts}
use Rattle.ground_terms.specs.Terms.{Lists, AreClosed, term_counts}
use Rattle.ground_terms.specs.TermCounts.{AreCounts, CountsAreOne, CountsTellFew, HasFewTerms}
use Rattle.ground_terms.specs.Trees.{Trees, nodes_all, trees_of}
use Rattle.clause_form.specs.Clauses.{clause_form}
use Rattle.ground_size.specs.Counting.{AreTermCounts}
use Rattle.ground_size.specs.Sizes.{size_of}
use Rattle.ground_size.specs.Laws.{InstancesAreCounted, AxiomsAreCounted}
use Rattle.ea_decide.specs.declared.decided.Passed.{Passed}
use Rattle.ea_decide.specs.declared.decided.Passed.TheVariants.{Terms, GroundSize}
use Rattle.ea_decide.specs.GroundForm.{ground_formulas}
use Rattle.limits.specs.Ceilings.{Ceilings}
use Rattle.ea_decide.specs.Passing.{passed_of, Passes}
use Rattle.ea_decide.specs.Steps.{more_symbols, IsGroundable, IsSmallForm, HasRoom}
use Rattle.ea_decide.proofs.Fragments.{Rewriting, sorted, strata, skolemises}
use Rattle.ea_decide.proofs.Sums.{one-of-sum, functions-few}

-- the counting laws of the layers below
pub record Counting : Type 0 where
  pub counted : (sig : Symbols) (lists : Lists) → AreClosed sig lists → AreCounts sig (term_counts lists)
  pub one : CountsAreOne
  pub few : CountsTellFew
  pub instances : InstancesAreCounted
  pub axioms : AxiomsAreCounted
  pub variables : (ps : Trees) → (clause_form ps).variables ≤ nodes_all ps
  pub clauses : (ps : Trees) → length (clause_form ps).clauses ≤ 2 * nodes_all ps

abbrev is_none : Option Passed → Type 0
is_none None = Unit {0}
is_none (Some x) = ⊥

none≢some : (x : Passed) → None ≡ Some x → ⊥
none≢some x e = subst is_none e tt

-- what passes no limit is within both
pub record IsWithin (l : Ceilings) (terms size : ℕ) : Type 0 where
  pub terms_within : terms ≤ l.terms
  pub size_within : size ≤ l.size

second : (l : Ceilings) (terms size : ℕ) (many large : Bool) (a b : Passed) → nat_lt l.terms terms ≡ many
    → nat_lt l.size size ≡ large
    → None ≡ (if many then Some a else if large then Some b else None) → IsWithin l terms size
second l terms size true large a b em el e = absurd (none≢some a e)
second l terms size false true a b em el e = absurd (none≢some b e)
second l terms size false false a b em el e = record {
  terms_within = ltb-false l.terms terms em;
  size_within =
      ltb-false l.size size el;
}

pub within : (l : Ceilings) (terms size : ℕ) → None ≡ passed_of l terms size → IsWithin l terms size
within l terms size e =
    second l terms size (nat_lt l.terms terms) (nat_lt l.size size) (Terms (saturated terms))
    (GroundSize (saturated size)) refl refl e

module _ (rewriting : Rewriting) (laws : Counting) (limits : Ceilings) (sig : Declared) (p : FormTree)
    (order : List ℕ) (given : IsGroundable sig p order)
    (terms_small : limits.terms ≤ 100000) (size_small : limits.size ≤ 50000000) (passes : Passes limits sig p None)
  where
    bounds : IsWithin limits (sum passes.counts) (size_of sig passes.counts p)
    bounds = within limits (sum passes.counts) (size_of sig passes.counts p) passes.first

    same-counts : (lists : Lists) → AreClosed (more_symbols sig p) lists → passes.counts ≡ term_counts lists
    same-counts lists closed =
        laws.one (more_symbols sig p) order passes.counts (term_counts lists) (strata rewriting sig p order given)
        passes.terms (laws.counted (more_symbols sig p) lists closed)

    constants : length sig.functions + length (new_sorts (normal true p)) < 2 ^ 32
    constants =
        let few = functions-few (more_symbols sig p) passes.counts (sorted rewriting sig p order given) passes.terms in
        let count = (skolemises rewriting sig p order given).grows.count in
        let b = bounds.terms_within in
        omega (arith, few, count, b, terms_small)

    numbered : HasFewTerms (more_symbols sig p)
    numbered =
        laws.few (more_symbols sig p) order passes.counts (strata rewriting sig p order given) passes.terms
        (λ k lt. let one = one-of-sum passes.counts k (subst (λ n. k < n) (sym passes.terms.sorts) lt) in let b =
        bounds.terms_within in omega (arith, one, b, terms_small))

    counted : (lists : Lists) (counts : List ℕ) → AreClosed (more_symbols sig p) lists → AreTermCounts sig p counts
        → term_counts lists ≡ counts
    counted lists counts closed are =
        laws.one (more_symbols sig p) order (term_counts lists) counts (strata rewriting sig p order given)
        (laws.counted (more_symbols sig p) lists closed) are

    -- the nodes of the ground formulas
    nodes-few : (lists : Lists) → AreClosed (more_symbols sig p) lists
        → nodes_all (trees_of (ground_formulas sig p lists)) ≤ 200000000
    nodes-few lists closed =
        let counts = same-counts lists closed in
        let instance = laws.instances sig p lists given.fragment closed in
        let axioms = (laws.axioms sig p lists given.sorted given.fits closed).nodes in
        let size = subst (λ c. size_of sig c p ≤ limits.size) counts bounds.size_within in
        omega (arith, instance, axioms, size, size_small)

    small : (lists : Lists) → AreClosed (more_symbols sig p) lists
        → IsSmallForm (clause_form (trees_of (ground_formulas sig p lists)))
    small lists closed =
        let nodes = nodes-few lists closed in
        let variables = laws.variables (trees_of (ground_formulas sig p lists)) in
        let clauses = laws.clauses (trees_of (ground_formulas sig p lists)) in
        record { variables = omega (arith, nodes, variables); clauses = omega (arith, nodes, clauses) }

    pub room : HasRoom sig p
    room = record { constants = constants; numbered = numbered; small = small; counted = counted }
