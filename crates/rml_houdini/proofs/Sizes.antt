-- A goal that passes no limit by its size where some conjectures are held passes none where fewer are: conjectures have
-- no existentials, so the ground terms are the same, and fewer conjectures have fewer instances.
use Rattle.std.proofs.Common.{◌≡◌, ℕ, ◌+◌, ◌≤◌, Bool, true, false, cond, List, [], ◌∷◌, ◌++◌, Option, Some, None, refl}
use Rattle.std.proofs.Common.{sym, ap, ◌∙◌, subst, arith}
use Rattle.std.specs.Prelude.{MatchBool, nat_lt, sum, slice_index_or, if◌then◌else◌}
use Rattle.std.specs.List.{AllByRecursion, filter}
use Rattle.std.proofs.lemmas.Bool.{ltb-false, le-ltb}
use Rattle.fol_sig.specs.Tables.{Declared}
use Rattle.fol_sig.specs.Symbols.{symbols}
use Rattle.fol_sig.specs.Growing.{grown}
use Rattle.fol_formula.specs.Syntax.{FormTree, FormTrees, top, bottom, rel, equal, negation, conjunction, disjunction}
use Rattle.fol_formula.specs.Syntax.{implication, equivalence, for_all, for_some, no_forms, form_then, forms_of}
use Rattle.fol_formula.specs.Fragments.{IsUniversal, AreUniversal, IsPlainUniversal}
use Rattle.fol_nnf.specs.Normal.{normal, normals}
use Rattle.fol_nnf.specs.Laws.{FragmentsAreKept}
use Rattle.skolem.specs.Constants.{new_sorts, all_new_sorts}
use Rattle.ground_terms.specs.TermCounts.{AreCounts}
use Rattle.ground_size.specs.Sizes.{instance_nodes, all_instance_nodes, axiom_count, size_of}
use Rattle.rml_command.specs.Models.{ModelTree}
use Rattle.fol_formula.specs.Sentences.{all_of}
use Rattle.rml_command.specs.declared.goal.Goal.{Goal}
use Rattle.rml_command.specs.declared.goal.Stage.{Stage}
use Rattle.rml_command.specs.declared.goal.Stage.TheVariants as stage
use Rattle.rml_wp.specs.Preconditions.{answered, goal_precondition, goal_passes_limit, parts_before}
use Rattle.rml_command.specs.InductiveSets.{conjectures_of}
use Rattle.limits.specs.declared.cause.Cause.TheVariants as cause
use Rattle.rml_wp.specs.Preconditions.{refuting}
use Rattle.ea_decide.specs.declared.decided.Passed.{Passed}
use Rattle.limits.specs.Ceilings.{Ceilings}
use Rattle.ea_decide.specs.Passing.{Passes, passed_of}
use Rattle.obligation_decide.specs.GoalPassing.{first_cause, SentencePasses, PassesFirst}
use Rattle.rml_wp.specs.declared.premises.Premises.TheVariants.{All}

-- a universal formula has no existentials
mutual
  none-new : (p : FormTree) → IsUniversal true p → new_sorts p ≡ []
  none-new top h = refl
  none-new bottom h = refl
  none-new (rel r args) h = refl
  none-new (equal a b) h = refl
  none-new (negation p) h = refl
  none-new (conjunction ps) h = none-new-all ps h
  none-new (disjunction ps) h = none-new-all ps h
  none-new (implication p q) h = refl
  none-new (equivalence p q) h = refl
  none-new (for_all k p) h = refl
  none-new (for_some k p) h = absurd h

  none-new-all : (ps : FormTrees) → AreUniversal true ps → all_new_sorts ps ≡ []
  none-new-all no_forms h = refl
  none-new-all (form_then p ps) h =
      ap (λ (l : List ℕ). l ++ all_new_sorts ps) (none-new p h.0) ∙ none-new-all ps h.1

none-new-held : FragmentsAreKept → (cs : List FormTree) → AllByRecursion IsPlainUniversal cs
    → all_new_sorts (normals true (forms_of cs)) ≡ []
none-new-held kept [] h = refl
none-new-held kept (c ∷ cs) h =
    ap (λ (l : List ℕ). l ++ all_new_sorts (normals true (forms_of cs)))
    (none-new (normal true c) ((kept true c h.0.1).universal h.0.0))
    ∙ none-new-held kept cs h.1

-- a refuting sentence by its parts
abbrev whole : Stage → FormTree → List FormTree → FormTree → FormTree
whole st lawful held last = all_of (parts_before st lawful (all_of held) ++ last ∷ [])

same-sorts : (st : Stage) (lawful last : FormTree) (few many : List FormTree)
    → all_new_sorts (normals true (forms_of many)) ≡ all_new_sorts (normals true (forms_of few))
    → new_sorts (normal true (whole st lawful many last)) ≡ new_sorts (normal true (whole st lawful few last))
same-sorts stage.Init lawful last few many same = refl
same-sorts (stage.Action a) lawful last few many same =
    ap (λ (l : List ℕ). new_sorts (normal true lawful) ++ (l ++ (new_sorts (normal true last) ++ []))) same
same-sorts stage.Final lawful last few many same =
    ap (λ (l : List ℕ). new_sorts (normal true lawful) ++ (l ++ (new_sorts (normal true last) ++ []))) same

same-le : (n : ℕ) → n ≤ n
same-le n = omega arith

added-le : (a b c : ℕ) → b ≤ c → a + b ≤ a + c
added-le a b c h = omega (arith, h)

skipped-le : (a b c : ℕ) → b ≤ c → b ≤ a + c
skipped-le a b c h = omega (arith, h)

parts-le : (a b c d : ℕ) → b ≤ c → a + (b + 1 + (d + 0)) + 1 ≤ a + (c + 1 + (d + 0)) + 1
parts-le a b c d h = omega (arith, h)

module _ (counts : List ℕ) where
  abbrev nodes_of_all : List FormTree → ℕ
  nodes_of_all cs = all_instance_nodes counts (normals true (forms_of cs))

  fewer-nodes : (st : Stage) (lawful last : FormTree) (few many : List FormTree)
      → nodes_of_all few ≤ nodes_of_all many
      → instance_nodes counts (normal true (whole st lawful few last))
      ≤ instance_nodes counts (normal true (whole st lawful many last))
  fewer-nodes stage.Init lawful last few many h = same-le _
  fewer-nodes (stage.Action a) lawful last few many h =
      parts-le (instance_nodes counts (normal true lawful)) (nodes_of_all few) (nodes_of_all many)
      (instance_nodes counts (normal true last)) h
  fewer-nodes stage.Final lawful last few many h =
      parts-le (instance_nodes counts (normal true lawful)) (nodes_of_all few) (nodes_of_all many)
      (instance_nodes counts (normal true last)) h

  module _ (m : ModelTree) (p : ℕ → Bool) where
    filtered-nodes : (ks : List ℕ)
        → nodes_of_all (conjectures_of m (filter p ks)) ≤ nodes_of_all (conjectures_of m ks)
    filtered-nodes [] = same-le 0
    filtered-nodes (x ∷ xs) = go (p x) (filtered-nodes xs)
      where
        go : (b : Bool) → nodes_of_all (conjectures_of m (filter p xs)) ≤ nodes_of_all (conjectures_of m xs)
            → nodes_of_all (conjectures_of m (cond b (x ∷ filter p xs) (filter p xs)))
            ≤ nodes_of_all (conjectures_of m (x ∷ xs))
        go true h =
            added-le (instance_nodes counts (normal true (slice_index_or m.conjectures x top)))
            (nodes_of_all (conjectures_of m (filter p xs))) (nodes_of_all (conjectures_of m xs)) h
        go false h =
            skipped-le (instance_nodes counts (normal true (slice_index_or m.conjectures x top)))
            (nodes_of_all (conjectures_of m (filter p xs))) (nodes_of_all (conjectures_of m xs)) h

-- no limit is passed by a smaller size
first-not : {A : Type 0} (b : Bool) (x : A) (y : Option A) → None ≡ (if b then Some x else y) → b ≡ false
first-not true x y e = absurd (cc e)
first-not false x y e = refl

then-rest : {A : Type 0} (b : Bool) (x : A) (y : Option A) → b ≡ false → None ≡ (if b then Some x else y) → None ≡ y
then-rest true x y other e = absurd (cc other)
then-rest false x y other e = e

then-none : {A : Type 0} (b : Bool) (x : A) (y : Option A) → b ≡ false → None ≡ y → None ≡ (if b then Some x else y)
then-none true x y other e = absurd (cc other)
then-none false x y other e = e

still-none : (limits : Ceilings) (terms size less : ℕ) → less ≤ size → None ≡ passed_of limits terms size
    → None ≡ passed_of limits terms less
still-none limits terms size less le e =
    let few = first-not (nat_lt limits.terms terms) _ _ e in
    let rest = then-rest (nat_lt limits.terms terms) _ _ few e in
    let small = ltb-false limits.size size (first-not (nat_lt limits.size size) _ _ rest) in
    let within : less ≤ limits.size = omega (arith, small, le) in
    then-none (nat_lt limits.terms terms) _ _ few
    (then-none (nat_lt limits.size less) _ _ (le-ltb limits.size less within) refl)

passes-fewer : (limits : Ceilings) (sig : Declared) (p q : FormTree) → new_sorts (normal true p) ≡ new_sorts
    (normal true q)
    → ((counts : List ℕ) → instance_nodes counts (normal true q) ≤ instance_nodes counts (normal true p))
    → Passes limits sig p None → Passes limits sig q None
passes-fewer limits sig p q same fewer h = record {
  counts = h.counts;
  terms = subst (λ (ks : List ℕ). AreCounts (symbols (grown sig ks)) h.counts) same h.terms;
  first =
      let le = fewer h.counts in
      let axioms = axiom_count (symbols sig) h.counts in
      let less : size_of sig h.counts q ≤ size_of sig h.counts p = both-le _ _ axioms le in
      still-none limits (sum h.counts) (size_of sig h.counts p) (size_of sig h.counts q) less h.first;
}
  where
    both-le : (a b c : ℕ) → a ≤ b → a + c ≤ b + c
    both-le a b c h = omega (arith, h)

module _ (kept : FragmentsAreKept) (limits : Ceilings) (m : ModelTree) (goal : Goal) (p : ℕ → Bool) (ks : List ℕ)
    (many : AllByRecursion IsPlainUniversal (conjectures_of m ks))
    (few : AllByRecursion IsPlainUniversal (conjectures_of m (filter p ks))) where
  sentence-passes : (first : Option Passed)
      → Passes limits (answered m goal) (refuting All m (conjectures_of m ks) goal) first
      → first ≡ None → Passes limits (answered m goal) (refuting All m (conjectures_of m (filter p ks)) goal) None
  sentence-passes first h none =
      let last = negation (goal_precondition All m goal) in
      passes-fewer limits (answered m goal) (refuting All m (conjectures_of m ks) goal)
      (refuting All m (conjectures_of m (filter p ks)) goal)
      (same-sorts goal.stage (all_of m.axioms) last (conjectures_of m (filter p ks)) (conjectures_of m ks)
      (none-new-held kept (conjectures_of m ks) many
      ∙ sym (none-new-held kept (conjectures_of m (filter p ks)) few)))
      (λ counts. fewer-nodes counts goal.stage (all_of m.axioms) last (conjectures_of m (filter p ks))
      (conjectures_of m ks) (filtered-nodes counts m p ks))
      (subst (λ (o : Option Passed). Passes limits (answered m goal) (refuting All m (conjectures_of m ks) goal) o)
      none h)

  none-first : (first : Option Passed) → None ≡ first_cause first → first ≡ None
  none-first None e = refl
  none-first (Some x) e = absurd (cc e)

  by-formula : (b : Bool)
      → MatchBool b (None ≡ Some cause.Formula) (SentencePasses limits m (conjectures_of m ks) goal None)
      → MatchBool b (None ≡ Some cause.Formula)
      (SentencePasses limits m (conjectures_of m (filter p ks)) goal None)
  by-formula true h = absurd (cc h)
  by-formula false h = (None, sentence-passes h.0 h.1 (none-first h.0 h.2), refl)

  pub fewer_pass : PassesFirst limits m (conjectures_of m ks) goal None
      → PassesFirst limits m (conjectures_of m (filter p ks)) goal None
  fewer_pass h = by-formula (goal_passes_limit All m goal) h
