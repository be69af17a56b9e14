-- The structure of each counterexample is the cut of one over the answered signature that satisfies the refuting
-- sentence.
use Rattle.std.proofs.Common.{◌≡◌, ℕ, true, Option, Some, List, [], length, refl, sym, ap, ◌∙◌, subst}
use Rattle.std.specs.List.{AllByRecursion}
use Rattle.fol_sig.specs.Tables.{Tables, IsSignature}
use Rattle.fol_sig.specs.Symbols.{Symbols, symbols}
use Rattle.fol_sig.specs.Constants.{with_fresh_tables}
use Rattle.fol_sig.specs.Growing.{SortsAreKept, StructuresExtendByTables, IsExtensionByTables}
use Rattle.fol_formula.specs.Syntax.{FormTree}
use Rattle.fol_formula.specs.Fits.{FitsForm}
use Rattle.rml_command.specs.Trees.{PrimitiveTree}
use Rattle.fol_formula.specs.Sentences.{is_true}
use Rattle.rml_command.specs.Outcomes.{Outcome, aborted, ended, follow_path}
use Rattle.rml_command.specs.Models.{ModelTree, FitsModel}
use Rattle.rml_command.specs.Goals.{goal_path, IsGoal, FailsGoal, IsCounterexample}
use Rattle.rml_command.specs.Fresh.{havocked}
use Rattle.rml_command.specs.declared.havoc.Havoc.{Havoc}
use Rattle.rml_command.specs.declared.goal.Goal.{Goal}
use Rattle.rml_command.specs.declared.goal.About.{About}
use Rattle.rml_command.specs.declared.goal.About.TheVariants as about
use Rattle.rml_wp.specs.declared.premises.Premises.{Premises}
use Rattle.rml_wp.specs.declared.premises.Premises.TheVariants.{All, Affected}
use Rattle.rml_wp.specs.Preconditions.{path_or_none, answered, refuting}
use Rattle.rml_wp.specs.Laws.{IsCounterexampleUnder, goal_havocs}
use Rattle.rml_wp.specs.Answered.{SignaturesAreAnswered, IsCutOfSatisfying, CounterexamplesAreCuts}
use Rattle.rml_wp.proofs.Affected.{Spares}
use Rattle.rml_wp.proofs.Exactly.{Follows, same_path}
use Rattle.rml_wp.proofs.Under.{under-count}
use Rattle.rml_wp.proofs.TraceTables.{TablesAreTaken, IsTaken, taken}
use Rattle.rml_wp.proofs.OverFresh.{is_path, path, grows, wide, same, refuting_exact, lean_same}

has-outcome : (m : ModelTree) (a : About) (values : List ℕ) (x : Option Outcome) → FailsGoal m a values x
    → (o : Outcome) × (x ≡ Some o)
has-outcome m about.Abort values x h = (aborted, h.0)
has-outcome m (about.Conjecture k) values x h = (ended h.1, h.3)

module _ (laws : Follows) (takes : TablesAreTaken) (extend : StructuresExtendByTables) (m : ModelTree) (goal : Goal)
    (f : FitsModel m) (ok : IsSignature m.signature) (g : IsGoal m goal) (held : List FormTree)
    (held_fit : AllByRecursion (FitsForm (symbols m.signature) []) held) (s : Tables) (havocs : List Havoc)
    (values : List ℕ) (h : IsCounterexample m held goal s havocs values) where
  abbrev small : Symbols
  small = symbols m.signature

  abbrev q : List PrimitiveTree
  q = path_or_none (goal_path m goal)

  abbrev n : ℕ
  n = length m.signature.relations

  there : (o : Outcome) × (follow_path m.axioms h.path havocs s ≡ Some o)
  there = has-outcome m goal.about values (follow_path m.axioms h.path havocs s) h.fails

  one : h.path ≡ q
  one = same_path h.path q (sym h.is_path ∙ is_path laws m goal f ok g)

  -- the tables of the trace, and its elements
  trace : IsTaken m.axioms small q s there.0
  trace =
      taken takes m.axioms small q havocs s there.0 (path laws m goal f ok g)
      (laws.stops.goals m goal q (is_path laws m goal f ok g)) h.structure
      (ap (λ z. follow_path m.axioms z havocs s) (sym one) ∙ there.1)

  abbrev whole : Tables
  whole = with_fresh_tables s trace.tables

  grown : IsExtensionByTables small (symbols (answered m goal)) s trace.tables
  grown =
      extend small (symbols (answered m goal)) s (havocked small q) trace.tables (grows laws m goal f ok g) h.structure
      trace.are

  under : IsCounterexampleUnder m held goal whole trace.elements values
  under =
      let hs = goal_havocs m goal whole trace.elements in
      let fails = subst (FailsGoal m goal.about values) (there.1 ∙ sym (trace.same whole n refl grown.table)) h.fails in
      let shown : IsCounterexample m held goal s hs values = record {
        path = q;
        is_path = is_path laws m goal f ok g;
        structure = h.structure;
        allowed = h.allowed;
        count = under-count small whole n q trace.elements (trace.count small n);
        fails = fails;
      } in
      record {
        count = trace.count small n;
        shown = subst (λ z. IsCounterexample m held goal z hs values) (sym grown.without) shown;
      }

  pub cut-of : (spares : Spares) (premises : Premises)
      → IsCutOfSatisfying m goal (refuting premises m held goal) s
  cut-of spares premises = record {
    whole = whole;
    fits = grown.fits;
    cut = sym grown.without;
    holds =
        let full = (refuting_exact laws m held goal whole f ok held_fit g grown.fits).1
        (trace.elements, values, under) in
        holds-by premises full;
  }
    where
      holds-by : (premises : Premises) → is_true whole (refuting All m held goal) ≡ true
          → is_true whole (refuting premises m held goal) ≡ true
      holds-by All full = full
      holds-by Affected full = lean_same laws spares m held goal whole f ok g grown.fits ∙ full

pub counterexamples_are_cuts : Follows → TablesAreTaken → StructuresExtendByTables → Spares → CounterexamplesAreCuts
counterexamples_are_cuts laws takes extend spares premises m held goal s havocs values f ok hf g h =
    cut-of laws takes extend m goal f ok g held hf s havocs values h spares premises

pub signatures_are_answered : Follows → SortsAreKept → SignaturesAreAnswered
signatures_are_answered laws kept m goal f ok g =
    let small = symbols m.signature in
    let more = symbols (answered m goal) in
    let up = (grows laws m goal f ok g).grows in
    record {
      grows = up;
      sorted = (kept small more up).sorted;
      strata = (kept small more up).strata;
      sentences = wide laws m goal f ok g;
      structures = λ t fits. (laws.reduces small more t up fits).fits;
      truths = λ t c fits h. same laws m goal f ok g t fits t c fits h;
    }
