-- What is so of each primitive of a block is so of each primitive of its paths.
use Rattle.std.proofs.Common.{◌≡◌, ℕ, zero, suc, Bool, true, false, cond, Some, List, [], ◌∷◌, ◌++◌, map, subst}
use Rattle.std.specs.Prelude.{slice_get}
use Rattle.std.specs.List.{AllByRecursion, flat_map}
use Rattle.rml_command.specs.Trees.{PrimitiveTree, CommandTree}
use Rattle.rml_command.specs.Trees.{CommandTrees, prim, seq, choose, no_commands, command_then, EachPrimitive}
use Rattle.rml_command.specs.Trees.{EachPrimitiveOf}
use Rattle.base.specs.Lists.{numbered}
use Rattle.rml_command.specs.Paths.{has_abort, continued, paths_of, paths_in_turn, paths_of_each}
use Rattle.rml_command.specs.Models.{ModelTree, EachBlock}
use Rattle.rml_command.specs.Goals.{paths_of_block, stage_paths, goal_path}
use Rattle.rml_command.specs.Laws.{GoalPathsFit}
use Rattle.rml_command.specs.declared.goal.Goal.{Goal}
use Rattle.rml_command.specs.declared.goal.Stage.{Stage}
use Rattle.rml_command.specs.declared.goal.Stage.TheVariants as stage

module _ (P : PrimitiveTree → Type 0) where
  abbrev Each : List PrimitiveTree → Type 0
  Each p = AllByRecursion P p

  abbrev All : List (List PrimitiveTree) → Type 0
  All ps = AllByRecursion Each ps

  path-append : (p q : List PrimitiveTree) → Each p → Each q → Each (p ++ q)
  path-append [] q h g = g
  path-append (x ∷ p) q h g = (h.0, path-append p q h.1 g)

  all-append : (ps qs : List (List PrimitiveTree)) → All ps → All qs → All (ps ++ qs)
  all-append [] qs h g = g
  all-append (p ∷ ps) qs h g = (h.0, all-append ps qs h.1 g)

  all-under : (p : List PrimitiveTree) (qs : List (List PrimitiveTree)) → Each p → All qs → All (map (λ q. p ++ q) qs)
  all-under p [] h g = tt
  all-under p (q ∷ qs) h g = (path-append p q h g.0, all-under p qs h g.1)

  either : (b : Bool) (p : List PrimitiveTree) (rest : List (List PrimitiveTree)) → Each p → All rest
      → All (cond b (p ∷ []) (map (λ q. p ++ q) rest))
  either true p rest h g = (h, tt)
  either false p rest h g = all-under p rest h g

  all-continued : (ps rest : List (List PrimitiveTree)) → All ps → All rest → All (flat_map (continued rest) ps)
  all-continued [] rest h g = tt
  all-continued (p ∷ ps) rest h g =
      all-append (continued rest p) (flat_map (continued rest) ps) (either (has_abort p) p rest h.0 g)
      (all-continued ps rest h.1 g)

  mutual
    pub each-path : (c : CommandTree) → EachPrimitive P c → All (paths_of c)
    each-path (prim q) h = ((h, tt), tt)
    each-path (seq cs) h = each-path_in_turn cs h
    each-path (choose cs) h = each-path_of_each cs h

    each-path_in_turn : (cs : CommandTrees) → EachPrimitiveOf P cs → All (paths_in_turn cs)
    each-path_in_turn no_commands h = (tt, tt)
    each-path_in_turn (command_then c cs) h =
        all-continued (paths_of c) (paths_in_turn cs) (each-path c h.0) (each-path_in_turn cs h.1)

    each-path_of_each : (cs : CommandTrees) → EachPrimitiveOf P cs → All (paths_of_each cs)
    each-path_of_each no_commands h = tt
    each-path_of_each (command_then c cs) h =
        all-append (paths_of c) (paths_of_each cs) (each-path c h.0) (each-path_of_each cs h.1)

  one_of : (ps : List (List PrimitiveTree)) (k : ℕ) (p : List PrimitiveTree) → slice_get ps k ≡ Some p → All ps → Each p
  one_of [] k p is all = absurd (cc is)
  one_of (q ∷ ps) zero p is all = let e : q ≡ p = cc is in subst Each e all.0
  one_of (q ∷ ps) (suc k) p is all = one_of ps k p is all.1

  one_numbered : (ps : List (List PrimitiveTree)) (n : ℕ) (p : List PrimitiveTree) → numbered ps n ≡ Some p → All ps
      → Each p
  one_numbered ps zero p is all = absurd (cc is)
  one_numbered ps (suc n) p is all = one_of ps n p is all

  of_actions : (actions : List CommandTree) (k : ℕ) → AllByRecursion (EachPrimitive P) actions
      → All (paths_of_block (slice_get actions k))
  of_actions [] k h = tt
  of_actions (c ∷ cs) zero h = each-path c h.0
  of_actions (c ∷ cs) (suc k) h = of_actions cs k h.1

  of_stage : (m : ModelTree) (st : Stage) → EachBlock (EachPrimitive P) m → All (stage_paths m st)
  of_stage m stage.Init h = each-path m.init h.init
  of_stage m (stage.Action a) h = of_actions m.actions a h.actions
  of_stage m stage.Final h = each-path m.last h.last

  pub of_goal : (m : ModelTree) (goal : Goal) (p : List PrimitiveTree) → EachBlock (EachPrimitive P) m
      → goal_path m goal ≡ Some p → Each p
  of_goal m goal p h is = one_numbered (stage_paths m goal.stage) goal.path p is (of_stage m goal.stage h)

pub goal_paths_fit : GoalPathsFit
goal_paths_fit = record {
  symbols_fit = λ m goal p fits is. of_goal _ m goal p fits.blocks is;
  in_fragment = λ m goal p checked is. of_goal _ m goal p checked.fragment.blocks is;
}
