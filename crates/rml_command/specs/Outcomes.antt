-- What a command may do from a structure.
use Rattle.std.specs.Prelude.{◌≡◌, ◌⊎◌, ℕ, ◌<◌, nat_lt, Bool, true, if◌then◌else◌, List, [], ◌∷◌, Option, Some, None}
use Rattle.fol_sig.specs.Tables.{Tables, reading, size_at, relation_at, function_at}
use Rattle.fol_sig.specs.Updates.{with_relation, with_function}
use Rattle.fol_sig.specs.TupleSets.{are_in_range, with_table, with_tuples}
use Rattle.fol_formula.specs.Sentences.{is_true, satisfies}
use Rattle.fol_formula.specs.Syntax.{FormTree, TermTree}
use Rattle.fol_formula.specs.Truth.{truth, value}
use Rattle.rml_command.specs.Trees.{
  PrimitiveTree,
  assume,
  set_rel,
  set_fun,
  havoc,
  havoc_rel,
  abort,
  CommandTree,
  CommandTrees,
  prim,
  seq,
  choose,
  no_commands,
  command_then,
}
use Rattle.rml_command.specs.declared.havoc.Havoc.{Havoc}
use Rattle.rml_command.specs.declared.havoc.Havoc.TheVariants.{Element, Tuples}

-- a command ends in a structure, or it aborts
pub data Outcome : Type 0 where
  ended : Tables → Outcome
  aborted : Outcome

-- the structure with r read as the formula, evaluated in the old structure at each tuple
abbrev pub set_relation : Tables → ℕ → FormTree → Tables
set_relation s r by = with_relation s r (λ tuple. truth (reading s) by tuple)

-- the structure with f read as the term, evaluated in the old structure at each tuple
abbrev pub set_function : Tables → ℕ → TermTree → Tables
set_function s f by = with_function s f (λ tuple. value (reading s) by tuple)

-- the structure with a variable set to an element
abbrev pub set_variable : Tables → ℕ → ℕ → Tables
set_variable s v x = with_function s v (λ tuple. x)

-- how many elements the sort of a variable has
abbrev pub range_of : Tables → ℕ → ℕ
range_of s v = size_at s (function_at s v).into

-- whether each of these tuples is one of a relation's sorts
abbrev pub are_tuples_of : Tables → ℕ → List (List ℕ) → Bool
are_tuples_of s r xss = are_in_range s.sizes (relation_at s r).sorts xss

module _ (axioms : List FormTree) where
  -- the outcome is an end in this structure, which satisfies the axioms
  abbrev pub EndsIn : Outcome → Tables → Type 0
  EndsIn o new = (o ≡ ended new) × (satisfies new axioms ≡ true)

  -- The outcomes of a primitive. A false assumption has none; an update or a havoc has none that breaks an axiom. The
  -- havoc of a relation may make it true of any tuples.
  abbrev pub PrimitiveHasOutcome : PrimitiveTree → Tables → Outcome → Type 0
  PrimitiveHasOutcome (assume p) s o = (o ≡ ended s) × (is_true s p ≡ true)
  PrimitiveHasOutcome (set_rel r by) s o = EndsIn o (set_relation s r by)
  PrimitiveHasOutcome (set_fun f by) s o = EndsIn o (set_function s f by)
  PrimitiveHasOutcome (havoc v) s o = (x : ℕ) × (x < range_of s v) × EndsIn o (set_variable s v x)
  PrimitiveHasOutcome (havoc_rel r) s o = (f : List ℕ → Bool) × EndsIn o (with_table s r f)
  PrimitiveHasOutcome abort s o = o ≡ aborted

  -- The outcomes of a command. A sequence aborts where its first part can, and goes on from each end of that part; both
  -- may be possible. A choice has the outcomes of each branch.
  abbrev mutual
    pub HasOutcome : CommandTree → Tables → Outcome → Type 0
    HasOutcome (prim q) s o = PrimitiveHasOutcome q s o
    HasOutcome (seq cs) s o = SequenceHasOutcome cs s o
    HasOutcome (choose cs) s o = ChoiceHasOutcome cs s o

    pub SequenceHasOutcome : CommandTrees → Tables → Outcome → Type 0
    SequenceHasOutcome no_commands s o = o ≡ ended s
    SequenceHasOutcome (command_then c cs) s o =
        ((o ≡ aborted) × HasOutcome c s aborted)
        ⊎ ((mid : Tables) × HasOutcome c s (ended mid) × SequenceHasOutcome cs mid o)

    pub ChoiceHasOutcome : CommandTrees → Tables → Outcome → Type 0
    ChoiceHasOutcome no_commands s o = ⊥
    ChoiceHasOutcome (command_then c cs) s o = HasOutcome c s o ⊎ ChoiceHasOutcome cs s o

  -- The outcomes of a path: those of its primitives in sequence.
  abbrev pub PathHasOutcome : List PrimitiveTree → Tables → Outcome → Type 0
  PathHasOutcome [] s o = o ≡ ended s
  PathHasOutcome (q ∷ qs) s o =
      ((o ≡ aborted) × PrimitiveHasOutcome q s aborted)
      ⊎ ((mid : Tables) × PrimitiveHasOutcome q s (ended mid) × PathHasOutcome qs mid o)

  -- Following a path with an element for each havoc of a variable and tuples for each havoc of a relation, in order:
  -- the outcome, or None where a step is blocked. A step is blocked where an assumption is false, the next entry is
  -- missing or of the other kind, an element is out of range, a tuple is none of the relation's sorts, or the new
  -- structure breaks an axiom.
  abbrev pub follow_path : List PrimitiveTree → List Havoc → Tables → Option Outcome
  follow_path [] havocs s = Some (ended s)
  follow_path (assume p ∷ qs) havocs s = if is_true s p then follow_path qs havocs s else None
  follow_path (set_rel r by ∷ qs) havocs s =
      if satisfies (set_relation s r by) axioms then follow_path qs havocs (set_relation s r by) else None
  follow_path (set_fun f by ∷ qs) havocs s =
      if satisfies (set_function s f by) axioms then follow_path qs havocs (set_function s f by) else None
  follow_path (havoc v ∷ qs) [] s = None
  follow_path (havoc v ∷ qs) (Element x ∷ havocs) s =
      if nat_lt x (range_of s v)
      then (if satisfies (set_variable s v x) axioms then follow_path qs havocs (set_variable s v x) else None)
      else None
  follow_path (havoc v ∷ qs) (Tuples xss ∷ havocs) s = None
  follow_path (havoc_rel r ∷ qs) [] s = None
  follow_path (havoc_rel r ∷ qs) (Element x ∷ havocs) s = None
  follow_path (havoc_rel r ∷ qs) (Tuples xss ∷ havocs) s =
      if are_tuples_of s r xss
      then (if satisfies (with_tuples s r xss) axioms then follow_path qs havocs (with_tuples s r xss) else None)
      else None
  follow_path (abort ∷ qs) havocs s = Some aborted
