-- What the steps of a block keep.
use Rattle.std.proofs.Common.{◌≡◌, inl, inr, true, List, sym, subst}
use Rattle.fol_sig.specs.Tables.{Tables}
use Rattle.fol_sig.specs.Symbols.{Symbols, FitsStructure}
use Rattle.fol_sig.specs.TupleSets.{with_table}
use Rattle.fol_formula.specs.Syntax.{FormTree}
use Rattle.rml_command.specs.Trees.{PrimitiveTree, assume, set_rel, set_fun, havoc, havoc_rel, abort, CommandTree}
use Rattle.rml_command.specs.Trees.{CommandTrees, prim, seq, choose, no_commands, command_then, EachPrimitiveOf}
use Rattle.rml_command.specs.Outcomes.{ended, PrimitiveHasOutcome, HasOutcome, SequenceHasOutcome, ChoiceHasOutcome}
use Rattle.fol_formula.specs.Sentences.{satisfies}
use Rattle.rml_command.specs.Outcomes.{set_relation, set_function, set_variable}
use Rattle.rml_command.specs.Models.{FitsPrimitive, FitsCommand}
use Rattle.rml_command.specs.Laws.{UpdatesKeepSymbols}
use Rattle.rml_command.proofs.Following.{same_end}

-- what each primitive keeps, a command keeps
module _ (axioms : List FormTree) (sig : Symbols) (P : Tables → Type 0)
    (step : (q : PrimitiveTree) (s new : Tables) → FitsPrimitive sig q → P s
    → PrimitiveHasOutcome axioms q s (ended new) → P new) where
  mutual
    pub kept : (c : CommandTree) (s new : Tables) → FitsCommand sig c → P s → HasOutcome axioms c s (ended new) → P new
    kept (prim q) s new f p h = step q s new f p h
    kept (seq cs) s new f p h = kept_in_turn cs s new f p h
    kept (choose cs) s new f p h = kept_by_some cs s new f p h

    kept_in_turn : (cs : CommandTrees) (s new : Tables) → EachPrimitiveOf (FitsPrimitive sig) cs → P s
        → SequenceHasOutcome axioms cs s (ended new) → P new
    kept_in_turn no_commands s new f p h = subst P (sym (same_end new s h)) p
    kept_in_turn (command_then c cs) s new f p (inl h) = let e = h.0 in absurd (cc)
    kept_in_turn (command_then c cs) s new f p (inr h) = kept_in_turn cs h.0 new f.1 (kept c s h.0 f.0 p h.1) h.2

    kept_by_some : (cs : CommandTrees) (s new : Tables) → EachPrimitiveOf (FitsPrimitive sig) cs → P s
        → ChoiceHasOutcome axioms cs s (ended new) → P new
    kept_by_some no_commands s new f p h = absurd h
    kept_by_some (command_then c cs) s new f p (inl h) = kept c s new f.0 p h
    kept_by_some (command_then c cs) s new f p (inr h) = kept_by_some cs s new f.1 p h

-- a structure of the signature that satisfies the axioms
pub record IsLawful (axioms : List FormTree) (sig : Symbols) (s : Tables) : Type 0 where
  pub structure : FitsStructure sig s
  pub axioms_hold : satisfies s axioms ≡ true

pub step_lawful : UpdatesKeepSymbols → (axioms : List FormTree) (sig : Symbols) (q : PrimitiveTree) (s new : Tables)
    → FitsPrimitive sig q → IsLawful axioms sig s → PrimitiveHasOutcome axioms q s (ended new) → IsLawful axioms sig new
step_lawful keep axioms sig (assume p) s new f law h = subst (IsLawful axioms sig) (sym (same_end new s h.0)) law
step_lawful keep axioms sig (set_rel r by) s new f law h =
    subst (IsLawful axioms sig) (sym (same_end new (set_relation s r by) h.0))
    (record { structure = keep.relation sig s r by f law.structure; axioms_hold = h.1 })
step_lawful keep axioms sig (set_fun g by) s new f law h =
    subst (IsLawful axioms sig) (sym (same_end new (set_function s g by) h.0))
    (record { structure = keep.function sig s g by f law.structure; axioms_hold = h.1 })
step_lawful keep axioms sig (havoc v) s new f law h =
    subst (IsLawful axioms sig) (sym (same_end new (set_variable s v h.0) h.2.0))
    (record { structure = keep.variable sig s v h.0 f h.1 law.structure; axioms_hold = h.2.1 })
step_lawful keep axioms sig (havoc_rel r) s new f law h =
    subst (IsLawful axioms sig) (sym (same_end new (with_table s r h.0) h.1.0))
    (record { structure = keep.table sig s r h.0 f law.structure; axioms_hold = h.1.1 })
step_lawful keep axioms sig abort s new f law h = absurd (cc h)
