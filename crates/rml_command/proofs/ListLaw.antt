-- Longer sequences and choices are the binary ones, read from the left.
use Rattle.std.proofs.Common.{◌≡◌, ◌⊎◌, inl, inr, List, refl, sym, subst}
use Rattle.fol_sig.specs.Tables.{Tables}
use Rattle.fol_formula.specs.Syntax.{FormTree}
use Rattle.rml_command.specs.Trees.{CommandTree, CommandTrees, seq, no_commands, command_then, followed_by}
use Rattle.rml_command.specs.Outcomes.{Outcome, ended, aborted, HasOutcome, SequenceHasOutcome, ChoiceHasOutcome}
use Rattle.rml_command.specs.Laws.{HasOutcomeOfBoth, ListsReadFromTheLeft}
use Rattle.rml_command.proofs.Following.{same_end}

module _ (axioms : List FormTree) (d : CommandTree) where
  alone : (s : Tables) (o : Outcome) → HasOutcome axioms d s o
      → SequenceHasOutcome axioms (command_then d no_commands) s o
  alone s aborted h = inl (refl, h)
  alone s (ended new) h = inr (new, h, refl)

  of_alone : (s : Tables) (o : Outcome) → SequenceHasOutcome axioms (command_then d no_commands) s o
      → HasOutcome axioms d s o
  of_alone s o (inl h) = subst (λ e. HasOutcome axioms d s e) (sym h.0) h.1
  of_alone s o (inr h) = subst (λ e. HasOutcome axioms d s e) (sym h.2) h.1

  split : (cs : CommandTrees) (s : Tables) (o : Outcome) → SequenceHasOutcome axioms (followed_by cs d) s o
      → HasOutcomeOfBoth axioms (seq cs) d s o
  split no_commands s o h = inr (s, refl, of_alone s o h)
  split (command_then c cs) s o (inl h) = inl (h.0, inl (refl, h.1))
  split (command_then c cs) s o (inr h) =
      elim (split cs h.0 o h.2) [
        | inl a ↦ inl (a.0, inr (h.0, h.1, a.1))
        | inr b ↦ inr (b.0, inr (h.0, h.1, b.1), b.2)
      ]

  joined : (cs : CommandTrees) (s : Tables) (o : Outcome) → HasOutcomeOfBoth axioms (seq cs) d s o
      → SequenceHasOutcome axioms (followed_by cs d) s o
  joined no_commands s o (inl h) = let e : aborted ≡ ended s = h.1 in absurd (cc e)
  joined no_commands s o (inr h) = alone s o (subst (λ z. HasOutcome axioms d z o) (same_end h.0 s h.1) h.2)
  joined (command_then c cs) s o (inl h) =
      elim h.1 [
        | inl a ↦ inl (h.0, a.1)
        | inr b ↦ inr (b.0, b.1, joined cs b.0 o (inl (h.0, b.2)))
      ]
  joined (command_then c cs) s o (inr h) =
      elim h.1 [
        | inl a ↦ (let e = a.0 in absurd (cc e))
        | inr b ↦ inr (b.0, b.1, joined cs b.0 o (inr (h.0, b.2, h.2)))
      ]

  chosen : (cs : CommandTrees) (s : Tables) (o : Outcome) → ChoiceHasOutcome axioms (followed_by cs d) s o
      → ChoiceHasOutcome axioms cs s o ⊎ HasOutcome axioms d s o
  chosen no_commands s o (inl h) = inr h
  chosen no_commands s o (inr h) = absurd h
  chosen (command_then c cs) s o (inl h) = inl (inl h)
  chosen (command_then c cs) s o (inr h) = elim (chosen cs s o h) [ inl a ↦ inl (inr a) | inr b ↦ inr b ]

  either : (cs : CommandTrees) (s : Tables) (o : Outcome) → ChoiceHasOutcome axioms cs s o ⊎ HasOutcome axioms d s o
      → ChoiceHasOutcome axioms (followed_by cs d) s o
  either no_commands s o (inl h) = absurd h
  either no_commands s o (inr h) = inl h
  either (command_then c cs) s o (inl (inl h)) = inl h
  either (command_then c cs) s o (inl (inr h)) = inr (either cs s o (inl h))
  either (command_then c cs) s o (inr h) = inr (either cs s o (inr h))

pub list_law : ListsReadFromTheLeft
list_law = record {
  sequences = λ axioms cs d s o. (split axioms d cs s o, joined axioms d cs s o);
  choices = λ axioms cs d s o. (chosen axioms d cs s o, either axioms d cs s o);
}
