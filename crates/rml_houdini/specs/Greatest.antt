-- The greatest inductive set of conjectures, by drops: in each round the goals of the conjectures that are left are
-- decided in order, with these alone held, and the first goal that fails drops its conjecture.
use Rattle.std.specs.Prelude.{◌≡◌, ◌==◌, ℕ, not, List, [], ◌∷◌, ◌++◌, length, map, None}
use Rattle.std.specs.List.{filter, list_any}
use Rattle.base.specs.Lists.{count_from}
use Rattle.rml_command.specs.Models.{ModelTree}
use Rattle.rml_command.specs.declared.goal.About.TheVariants as about
use Rattle.limits.specs.Ceilings.{Ceilings}
use Rattle.lean_decide.specs.declared.settling.Counted.{Counted}
use Rattle.rml_command.specs.InductiveSets.{Has, IsWithin, IsInductive}
use Rattle.rml_houdini.specs.Rounds.{goals_about, IsFirstFailing, AreSettled}
use Rattle.rml_houdini.specs.declared.houdini.Dropped.{Dropped}
use Rattle.rml_houdini.specs.declared.houdini.Houdini.{Houdini}

-- all conjectures but those of these numbers, in the order of the file
abbrev pub all_but : ModelTree → List ℕ → List ℕ
all_but m names = filter (λ k. not (list_any (λ n. n == k) names)) (count_from 0 (length m.conjectures))

-- A drop where these conjectures are held: of their goals the shown one is the first that fails, and it is about the
-- dropped conjecture, which is one of them.
pub record IsDrop (counted : Counted) (limits : Ceilings) (m : ModelTree) (held : List ℕ) (d : Dropped) : Type 0 where
  pub held_then : d.held ≡ held
  pub member : Has held d.conjecture
  pub about : d.shown.goal.about ≡ about.Conjecture d.conjecture
  pub fails : IsFirstFailing counted limits m held (goals_about m held) d.shown

-- Each drop is one where all are held but those that were dropped before it: the given ones, and those of earlier
-- drops.
abbrev pub AreDrops : Counted → Ceilings → ModelTree → List ℕ → List Dropped → Type 0
AreDrops counted limits m before [] = Unit {0}
AreDrops counted limits m before (d ∷ ds) =
    IsDrop counted limits m (all_but m before) d × AreDrops counted limits m (before ++ d.conjecture ∷ []) ds

-- no number stands twice
abbrev pub AreDistinct : List ℕ → Type 0
AreDistinct [] = Unit {0}
AreDistinct (k ∷ ks) = (Has ks k → ⊥) × AreDistinct ks

-- What is found. The kept conjectures are those that no drop names. Every inductive set is within them, and where no
-- goal of theirs is left open, they are inductive themselves.
pub record IsFound (counted : Counted) (limits : Ceilings) (m : ModelTree) (h : Houdini) : Type 0 where
  pub kept : h.kept ≡ all_but m (map (λ d. d.conjecture) h.dropped)
  pub drops : AreDrops counted limits m [] h.dropped
  pub once : AreDistinct (map (λ d. d.conjecture) h.dropped)
  pub greatest : (ks : List ℕ) → IsInductive m ks → IsWithin ks h.kept
  pub inductive : h.unsettled ≡ None → IsInductive m h.kept
  pub settled : AreSettled counted limits m h.kept (goals_about m h.kept) h.unsettled
