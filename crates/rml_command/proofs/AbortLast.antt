-- A path of a block has nothing behind an abort.
use Rattle.std.proofs.Common.{◌≡◌, ℕ, zero, suc, Bool, true, false, ◌||◌, cond, Some, List, [], ◌∷◌, ◌++◌, map, refl}
use Rattle.std.proofs.Common.{subst}
use Rattle.std.specs.Prelude.{slice_get}
use Rattle.std.specs.List.{AllByRecursion, flat_map}
use Rattle.rml_command.specs.Trees.{PrimitiveTree, CommandTree, CommandTrees, prim, seq, choose, no_commands}
use Rattle.rml_command.specs.Trees.{command_then}
use Rattle.base.specs.Lists.{numbered}
use Rattle.rml_command.specs.Paths.{is_abort, has_abort, EndsAtAbort, continued, paths_of, paths_in_turn, paths_of_each}
use Rattle.rml_command.specs.Models.{ModelTree}
use Rattle.rml_command.specs.Goals.{paths_of_block, stage_paths}
use Rattle.rml_command.specs.Laws.{PathsEndAtAbort}
use Rattle.rml_command.specs.declared.goal.Stage.{Stage}
use Rattle.rml_command.specs.declared.goal.Stage.TheVariants as stage

abbrev All : List (List PrimitiveTree) → Type 0
All ps = AllByRecursion EndsAtAbort ps

neither : (a b : Bool) → (a || b) ≡ false → (a ≡ false) × (b ≡ false)
neither true b e = absurd (cc e)
neither false b e = (refl, e)

never : (b : Bool) → b ≡ false → b ≡ true → ⊥
never b e h = cc (e, h)

joined : (p q : List PrimitiveTree) → has_abort p ≡ false → EndsAtAbort p → EndsAtAbort q → EndsAtAbort (p ++ q)
joined [] q e h g = g
joined (x ∷ p) q e h g = let n = neither (is_abort x) (has_abort p) e in
    (λ t. absurd (never (is_abort x) n.0 t), joined p q n.1 h.1 g)

all-append : (ps qs : List (List PrimitiveTree)) → All ps → All qs → All (ps ++ qs)
all-append [] qs h g = g
all-append (p ∷ ps) qs h g = (h.0, all-append ps qs h.1 g)

all-under : (p : List PrimitiveTree) (qs : List (List PrimitiveTree)) → has_abort p ≡ false → EndsAtAbort p → All qs
    → All (map (λ q. p ++ q) qs)
all-under p [] e h g = tt
all-under p (q ∷ qs) e h g = (joined p q e h g.0, all-under p qs e h g.1)

either : (b : Bool) (p : List PrimitiveTree) (rest : List (List PrimitiveTree)) → has_abort p ≡ b → EndsAtAbort p
    → All rest → All (cond b (p ∷ []) (map (λ q. p ++ q) rest))
either true p rest e h g = (h, tt)
either false p rest e h g = all-under p rest e h g

all-continued : (ps rest : List (List PrimitiveTree)) → All ps → All rest → All (flat_map (continued rest) ps)
all-continued [] rest h g = tt
all-continued (p ∷ ps) rest h g =
    all-append (continued rest p) (flat_map (continued rest) ps) (either (has_abort p) p rest refl h.0 g)
    (all-continued ps rest h.1 g)

mutual
  each-path : (c : CommandTree) → All (paths_of c)
  each-path (prim q) = ((λ e. refl, tt), tt)
  each-path (seq cs) = each-path_in_turn cs
  each-path (choose cs) = each-path_of_each cs

  each-path_in_turn : (cs : CommandTrees) → All (paths_in_turn cs)
  each-path_in_turn no_commands = (tt, tt)
  each-path_in_turn (command_then c cs) =
      all-continued (paths_of c) (paths_in_turn cs) (each-path c) (each-path_in_turn cs)

  each-path_of_each : (cs : CommandTrees) → All (paths_of_each cs)
  each-path_of_each no_commands = tt
  each-path_of_each (command_then c cs) =
      all-append (paths_of c) (paths_of_each cs) (each-path c) (each-path_of_each cs)

one_of : (ps : List (List PrimitiveTree)) (k : ℕ) (p : List PrimitiveTree) → slice_get ps k ≡ Some p → All ps
    → EndsAtAbort p
one_of [] k p is all = absurd (cc is)
one_of (q ∷ ps) zero p is all = let e : q ≡ p = cc is in subst EndsAtAbort e all.0
one_of (q ∷ ps) (suc k) p is all = one_of ps k p is all.1

one_numbered : (ps : List (List PrimitiveTree)) (n : ℕ) (p : List PrimitiveTree) → numbered ps n ≡ Some p → All ps
    → EndsAtAbort p
one_numbered ps zero p is all = absurd (cc is)
one_numbered ps (suc n) p is all = one_of ps n p is all

of_actions : (actions : List CommandTree) (k : ℕ) → All (paths_of_block (slice_get actions k))
of_actions [] k = tt
of_actions (c ∷ cs) zero = each-path c
of_actions (c ∷ cs) (suc k) = of_actions cs k

of_stage : (m : ModelTree) (st : Stage) → All (stage_paths m st)
of_stage m stage.Init = each-path m.init
of_stage m (stage.Action a) = of_actions m.actions a
of_stage m stage.Final = each-path m.last

pub paths_end_at_abort : PathsEndAtAbort
paths_end_at_abort = record {
  blocks = each-path;
  goals = λ m goal p is. one_numbered (stage_paths m goal.stage) goal.path p is (of_stage m goal.stage);
}
