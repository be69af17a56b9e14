-- What is so of each primitive of a model's blocks is so of each primitive of a leg's path, and of a walk.
use Rattle.std.proofs.Common.{◌≡◌, ℕ, zero, suc, Bool, true, false, cond, Some, List, [], ◌∷◌}
use Rattle.std.proofs.Common.{◌++◌, map, ap, sym, subst}
use Rattle.std.specs.Prelude.{slice_get}
use Rattle.std.specs.List.{AllByRecursion, flat_map}
use Rattle.base.proofs.Lists.{all_append, all_at}
use Rattle.rml_command.specs.Trees.{PrimitiveTree, CommandTree, CommandTrees, prim, seq, choose, no_commands}
use Rattle.rml_command.specs.Trees.{command_then, commands_of, EachPrimitive, EachPrimitiveOf}
use Rattle.base.specs.Lists.{numbered}
use Rattle.rml_command.specs.Paths.{has_abort, continued, paths_of, paths_in_turn, paths_of_each}
use Rattle.rml_command.specs.Models.{ModelTree, EachBlock}
use Rattle.rml_command.specs.Goals.{paths_of_block, stage_paths}
use Rattle.rml_command.specs.declared.goal.Stage.{Stage}
use Rattle.rml_command.specs.declared.goal.Stage.TheVariants as stage
use Rattle.walks.specs.declared.leg.Leg.{Leg}
use Rattle.walks.specs.Walks.{path_of, leg_path, joined}
use Rattle.walks.specs.Laws.{IsLeg}

module _ (P : PrimitiveTree → Type 0) where
  abbrev Each : List PrimitiveTree → Type 0
  Each p = AllByRecursion P p

  abbrev All : List (List PrimitiveTree) → Type 0
  All ps = AllByRecursion Each ps

  all-under : (p : List PrimitiveTree) (qs : List (List PrimitiveTree)) → Each p → All qs → All (map (λ q. p ++ q) qs)
  all-under p [] h g = tt
  all-under p (q ∷ qs) h g = (all_append P p q h g.0, all-under p qs h g.1)

  either : (b : Bool) (p : List PrimitiveTree) (rest : List (List PrimitiveTree)) → Each p → All rest
      → All (cond b (p ∷ []) (map (λ q. p ++ q) rest))
  either true p rest h g = (h, tt)
  either false p rest h g = all-under p rest h g

  all-continued : (ps rest : List (List PrimitiveTree)) → All ps → All rest → All (flat_map (continued rest) ps)
  all-continued [] rest h g = tt
  all-continued (p ∷ ps) rest h g =
      all_append Each (continued rest p) (flat_map (continued rest) ps) (either (has_abort p) p rest h.0 g)
      (all-continued ps rest h.1 g)

  mutual
    pub each-path : (c : CommandTree) → EachPrimitive P c → All (paths_of c)
    each-path (prim q) h = ((h, tt), tt)
    each-path (seq cs) h = each-path_in_turn cs h
    each-path (choose cs) h = each-path_of_each cs h

    each-path_in_turn : (cs : CommandTrees) → EachPrimitiveOf P cs → All (paths_in_turn cs)
    each-path_in_turn no_commands h = (tt, tt)
    each-path_in_turn (command_then c cs) h =
        all-continued (paths_of c) (paths_in_turn cs) (each-path c h.0) (each-path_in_turn cs h.1)

    each-path_of_each : (cs : CommandTrees) → EachPrimitiveOf P cs → All (paths_of_each cs)
    each-path_of_each no_commands h = tt
    each-path_of_each (command_then c cs) h =
        all_append Each (paths_of c) (paths_of_each cs) (each-path c h.0) (each-path_of_each cs h.1)

  one_numbered : (ps : List (List PrimitiveTree)) (n : ℕ) (p : List PrimitiveTree) → numbered ps n ≡ Some p → All ps
      → Each p
  one_numbered ps zero p is all = absurd (cc is)
  one_numbered ps (suc n) p is all = all_at Each ps n p is all

  of_actions : (actions : List CommandTree) (k : ℕ) → AllByRecursion (EachPrimitive P) actions
      → All (paths_of_block (slice_get actions k))
  of_actions [] k h = tt
  of_actions (c ∷ cs) zero h = each-path c h.0
  of_actions (c ∷ cs) (suc k) h = of_actions cs k h.1

  of_stage : (m : ModelTree) (st : Stage) → EachBlock (EachPrimitive P) m → All (stage_paths m st)
  of_stage m stage.Init h = each-path m.init h.init
  of_stage m (stage.Action a) h = of_actions m.actions a h.actions
  of_stage m stage.Final h = each-path m.last h.last

  of_leg : (m : ModelTree) (leg : Leg) → EachBlock (EachPrimitive P) m → IsLeg m leg → Each (leg_path m leg)
  of_leg m leg h is =
      subst Each (sym (ap path_of is.is_path))
      (one_numbered (stage_paths m leg.stage) leg.path is.path is.is_path (of_stage m leg.stage h))

  pub of_walk : (m : ModelTree) (legs : List Leg) → EachBlock (EachPrimitive P) m → AllByRecursion (IsLeg m) legs
      → Each (joined m legs)
  of_walk m [] h all = tt
  of_walk m (leg ∷ legs) h all =
      all_append P (leg_path m leg) (joined m legs) (of_leg m leg h all.0) (of_walk m legs h all.1)

  -- and so of the block that has just these
  pub of_sequence : (ps : List PrimitiveTree) → Each ps → EachPrimitiveOf P (commands_of (map prim ps))
  of_sequence [] all = tt
  of_sequence (p ∷ ps) all = (all.0, of_sequence ps all.1)
