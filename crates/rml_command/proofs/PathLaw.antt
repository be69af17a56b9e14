-- The outcomes of a block are those of its paths.
use Rattle.std.proofs.Common.{◌≡◌, ◌⊎◌, inl, inr, Bool, true, false, ◌||◌, cond, List, [], ◌∷◌, ◌++◌, map, refl, sym}
use Rattle.std.proofs.Common.{ap, ◌∙◌, subst}
use Rattle.fol_sig.specs.Tables.{Tables}
use Rattle.fol_formula.specs.Syntax.{FormTree}
use Rattle.rml_command.specs.Trees.{PrimitiveTree, assume, set_rel, set_fun, havoc, havoc_rel, abort, CommandTree}
use Rattle.rml_command.specs.Trees.{CommandTrees, prim, seq, choose, no_commands, command_then}
use Rattle.rml_command.specs.Outcomes.{Outcome, ended, aborted, PrimitiveHasOutcome, HasOutcome, SequenceHasOutcome}
use Rattle.rml_command.specs.Outcomes.{ChoiceHasOutcome, PathHasOutcome}
use Rattle.rml_command.specs.Paths.{is_abort, has_abort, continued, paths_of, paths_in_turn, paths_of_each}
use Rattle.base.specs.Lists.{SomeOf}
use Rattle.rml_command.specs.Laws.{BlockHasPathOutcomes}
use Rattle.rml_command.proofs.Some.{some_then, some_front, some_back, some_parts, some_joined, some_split, some_mapped}
use Rattle.rml_command.proofs.Some.{some_unmapped}

module _ (axioms : List FormTree) where
  -- a primitive that aborts is abort, and one that ends is not
  pub prim_aborts : (q : PrimitiveTree) (s : Tables) → PrimitiveHasOutcome axioms q s aborted → is_abort q ≡ true
  prim_aborts (assume p) s h = let e = h.0 in cc
  prim_aborts (set_rel r by) s h = let e = h.0 in cc
  prim_aborts (set_fun f by) s h = let e = h.0 in cc
  prim_aborts (havoc v) s h = let e = h.2.0 in cc
  prim_aborts (havoc_rel r) s h = let e = h.1.0 in cc
  prim_aborts abort s h = refl

  pub prim_ends : (q : PrimitiveTree) (s new : Tables) → PrimitiveHasOutcome axioms q s (ended new) → is_abort q ≡ false
  prim_ends (assume p) s new h = refl
  prim_ends (set_rel r by) s new h = refl
  prim_ends (set_fun f by) s new h = refl
  prim_ends (havoc v) s new h = refl
  prim_ends (havoc_rel r) s new h = refl
  prim_ends abort s new h = cc h

  later : (a b : Bool) → b ≡ true → (a || b) ≡ true
  later true b e = refl
  later false b e = e

  pub path_aborts : (p : List PrimitiveTree) (s : Tables) → PathHasOutcome axioms p s aborted → has_abort p ≡ true
  path_aborts [] s h = cc h
  path_aborts (q ∷ qs) s (inl h) = ap (λ b. b || has_abort qs) (prim_aborts q s h.1)
  path_aborts (q ∷ qs) s (inr h) = later (is_abort q) (has_abort qs) (path_aborts qs h.0 h.2)

  pub path_ends : (p : List PrimitiveTree) (s new : Tables) → PathHasOutcome axioms p s (ended new)
      → has_abort p ≡ false
  path_ends [] s new h = refl
  path_ends (q ∷ qs) s new (inl h) = let e = h.0 in cc
  path_ends (q ∷ qs) s new (inr h) = ap (λ b. b || has_abort qs) (prim_ends q s h.0 h.1) ∙ path_ends qs h.0 new h.2

  -- a path of two parts
  pub PathHasOutcome-append : (p q : List PrimitiveTree) (s mid : Tables) (o : Outcome)
      → PathHasOutcome axioms p s (ended mid) → PathHasOutcome axioms q mid o → PathHasOutcome axioms (p ++ q) s o
  PathHasOutcome-append [] q s mid o h t = let e : mid ≡ s = cc h in subst (λ z. PathHasOutcome axioms q z o) e t
  PathHasOutcome-append (x ∷ p) q s mid o (inl h) t = let e = h.0 in absurd (cc)
  PathHasOutcome-append (x ∷ p) q s mid o (inr h) t = inr (h.0, h.1, PathHasOutcome-append p q h.0 mid o h.2 t)

  -- how one goes on from another
  abbrev TwoParts : List PrimitiveTree → (Tables → Type 0) → Tables → Outcome → Type 0
  TwoParts p rest s o =
      ((o ≡ aborted) × PathHasOutcome axioms p s aborted)
      ⊎ ((mid : Tables) × PathHasOutcome axioms p s (ended mid) × rest mid)

  pub PathHasOutcome-parts : (p q : List PrimitiveTree) (s : Tables) (o : Outcome) → PathHasOutcome axioms (p ++ q) s o
      → TwoParts p (λ mid. PathHasOutcome axioms q mid o) s o
  PathHasOutcome-parts [] q s o h = inr (s, refl, h)
  PathHasOutcome-parts (x ∷ p) q s o (inl h) = inl (h.0, inl (refl, h.1))
  PathHasOutcome-parts (x ∷ p) q s o (inr h) =
      elim (PathHasOutcome-parts p q h.0 o h.2) [
        | inl a ↦ inl (a.0, inr (h.0, h.1, a.1))
        | inr b ↦ inr (b.0, inr (h.0, h.1, b.1), b.2)
      ]

  one_prim : (q : PrimitiveTree) (s : Tables) (o : Outcome) → PrimitiveHasOutcome axioms q s o
      → PathHasOutcome axioms (q ∷ []) s o
  one_prim q s aborted h = inl (refl, h)
  one_prim q s (ended new) h = inr (new, h, refl)

  prim_alone : (q : PrimitiveTree) (s : Tables) (o : Outcome) → PathHasOutcome axioms (q ∷ []) s o
      → PrimitiveHasOutcome axioms q s o
  prim_alone q s o (inl h) = subst (λ e. PrimitiveHasOutcome axioms q s e) (sym h.0) h.1
  prim_alone q s o (inr h) = subst (λ e. PrimitiveHasOutcome axioms q s e) (sym h.2) h.1

  -- a path of the first part that aborts stands as it is
  stands : (rest : List (List PrimitiveTree)) (p : List PrimitiveTree) (s : Tables) (o : Outcome) → o ≡ aborted
      → PathHasOutcome axioms p s aborted → SomeOf (λ p. PathHasOutcome axioms p s o) (continued rest p)
  stands rest p s o e h =
      let P : List PrimitiveTree → Type 0 = λ p. PathHasOutcome axioms p s o in
      subst (λ b. SomeOf P (cond b (p ∷ []) (map (λ q. p ++ q) rest))) (sym (path_aborts p s h))
      (inl (subst (λ z. PathHasOutcome axioms p s z) (sym e) h))

  -- one that ends goes on
  goes_on : (rest : List (List PrimitiveTree)) (p : List PrimitiveTree) (s mid : Tables) (o : Outcome)
      → PathHasOutcome axioms p s (ended mid) → SomeOf (λ q. PathHasOutcome axioms q mid o) rest
      → SomeOf (λ p. PathHasOutcome axioms p s o) (continued rest p)
  goes_on rest p s mid o h t =
      let P : List PrimitiveTree → Type 0 = λ p. PathHasOutcome axioms p s o in
      subst (λ b. SomeOf P (cond b (p ∷ []) (map (λ q. p ++ q) rest))) (sym (path_ends p s mid h))
      (some_mapped P (λ q. p ++ q) rest
      (some_then (λ q. PathHasOutcome axioms q mid o) (λ q. P (p ++ q)) rest t
      (λ q e. PathHasOutcome-append p q s mid o h e)))

  gathered : (p : List PrimitiveTree) (s : Tables) (o : Outcome) (rest : List (List PrimitiveTree))
      → SomeOf (λ q. PathHasOutcome axioms (p ++ q) s o) rest
      → TwoParts p (λ mid. SomeOf (λ q. PathHasOutcome axioms q mid o) rest) s o
  gathered p s o [] h = absurd h
  gathered p s o (q ∷ rest) (inl h) =
      elim (PathHasOutcome-parts p q s o h) [ inl a ↦ inl a | inr b ↦ inr (b.0, b.1, inl b.2) ]
  gathered p s o (q ∷ rest) (inr h) = elim (gathered p s o rest h) [ inl a ↦ inl a | inr b ↦ inr (b.0, b.1, inr b.2) ]

  whole : (p : List PrimitiveTree) (s : Tables) (o : Outcome) (rest : Tables → Type 0) → has_abort p ≡ true
      → PathHasOutcome axioms p s o → TwoParts p rest s o
  whole p s aborted rest e h = inl (refl, h)
  whole p s (ended new) rest e h = let z = path_ends p s new h in absurd (cc)

  came : (b : Bool) (p : List PrimitiveTree) (s : Tables) (o : Outcome) (rest : List (List PrimitiveTree))
      → has_abort p ≡ b → SomeOf (λ p. PathHasOutcome axioms p s o) (cond b (p ∷ []) (map (λ q. p ++ q) rest))
      → TwoParts p (λ mid. SomeOf (λ q. PathHasOutcome axioms q mid o) rest) s o
  came true p s o rest e (inl h) = whole p s o _ e h
  came true p s o rest e (inr h) = absurd h
  came false p s o rest e h =
      gathered p s o rest (some_unmapped (λ p. PathHasOutcome axioms p s o) (λ q. p ++ q) rest h)

  -- the paths of the first part in one of the two ways
  parted : (s : Tables) (o : Outcome) (B : Tables → Type 0) (ps : List (List PrimitiveTree))
      → SomeOf (λ p. TwoParts p B s o) ps → ((o ≡ aborted) × SomeOf (λ p. PathHasOutcome axioms p s aborted) ps)
      ⊎ ((mid : Tables) × SomeOf (λ p. PathHasOutcome axioms p s (ended mid)) ps × B mid)
  parted s o B [] h = absurd h
  parted s o B (p ∷ ps) (inl (inl h)) = inl (h.0, inl h.1)
  parted s o B (p ∷ ps) (inl (inr h)) = inr (h.0, inl h.1, h.2)
  parted s o B (p ∷ ps) (inr h) =
      elim (parted s o B ps h) [ inl a ↦ inl (a.0, inr a.1) | inr b ↦ inr (b.0, inr b.1, b.2) ]

  mutual
    pub by_path : (c : CommandTree) (s : Tables) (o : Outcome) → HasOutcome axioms c s o
        → SomeOf (λ p. PathHasOutcome axioms p s o) (paths_of c)
    by_path (prim q) s o h = inl (one_prim q s o h)
    by_path (seq cs) s o h = by_path_in_turn cs s o h
    by_path (choose cs) s o h = by_path_of_each cs s o h

    by_path_in_turn : (cs : CommandTrees) (s : Tables) (o : Outcome) → SequenceHasOutcome axioms cs s o
        → SomeOf (λ p. PathHasOutcome axioms p s o) (paths_in_turn cs)
    by_path_in_turn no_commands s o h = inl h
    by_path_in_turn (command_then c cs) s o (inl h) =
        some_joined (λ p. PathHasOutcome axioms p s o) (continued (paths_in_turn cs)) (paths_of c)
        (some_then (λ p. PathHasOutcome axioms p s aborted) _ (paths_of c) (by_path c s aborted h.1)
        (λ p e. stands (paths_in_turn cs) p s o h.0 e))
    by_path_in_turn (command_then c cs) s o (inr h) =
        some_joined (λ p. PathHasOutcome axioms p s o) (continued (paths_in_turn cs)) (paths_of c)
        (some_then (λ p. PathHasOutcome axioms p s (ended h.0)) _ (paths_of c) (by_path c s (ended h.0) h.1)
        (λ p e. goes_on (paths_in_turn cs) p s h.0 o e (by_path_in_turn cs h.0 o h.2)))

    by_path_of_each : (cs : CommandTrees) (s : Tables) (o : Outcome) → ChoiceHasOutcome axioms cs s o
        → SomeOf (λ p. PathHasOutcome axioms p s o) (paths_of_each cs)
    by_path_of_each no_commands s o h = h
    by_path_of_each (command_then c cs) s o (inl h) = some_front _ (paths_of c) (paths_of_each cs) (by_path c s o h)
    by_path_of_each (command_then c cs) s o (inr h) =
        some_back _ (paths_of c) (paths_of_each cs) (by_path_of_each cs s o h)

  mutual
    pub from_path : (c : CommandTree) (s : Tables) (o : Outcome)
        → SomeOf (λ p. PathHasOutcome axioms p s o) (paths_of c) → HasOutcome axioms c s o
    from_path (prim q) s o (inl h) = prim_alone q s o h
    from_path (prim q) s o (inr h) = absurd h
    from_path (seq cs) s o h = from_path_in_turn cs s o h
    from_path (choose cs) s o h = from_path_of_each cs s o h

    from_path_in_turn : (cs : CommandTrees) (s : Tables) (o : Outcome)
        → SomeOf (λ p. PathHasOutcome axioms p s o) (paths_in_turn cs) → SequenceHasOutcome axioms cs s o
    from_path_in_turn no_commands s o (inl h) = h
    from_path_in_turn no_commands s o (inr h) = absurd h
    from_path_in_turn (command_then c cs) s o h =
        let B : Tables → Type 0 = λ mid. SomeOf (λ q. PathHasOutcome axioms q mid o) (paths_in_turn cs) in
        elim (parted s o B (paths_of c)
        (some_then _ (λ p. TwoParts p B s o) (paths_of c)
        (some_split (λ p. PathHasOutcome axioms p s o) (continued (paths_in_turn cs)) (paths_of c) h)
        (λ p e. came (has_abort p) p s o (paths_in_turn cs) refl e))) [
          | inl a ↦ inl (a.0, from_path c s aborted a.1)
          | inr b ↦ inr (b.0, from_path c s (ended b.0) b.1, from_path_in_turn cs b.0 o b.2)
        ]

    from_path_of_each : (cs : CommandTrees) (s : Tables) (o : Outcome)
        → SomeOf (λ p. PathHasOutcome axioms p s o) (paths_of_each cs) → ChoiceHasOutcome axioms cs s o
    from_path_of_each no_commands s o h = h
    from_path_of_each (command_then c cs) s o h =
        elim (some_parts (λ p. PathHasOutcome axioms p s o) (paths_of c) (paths_of_each cs) h)
        [ inl a ↦ inl (from_path c s o a) | inr b ↦ inr (from_path_of_each cs s o b) ]

pub path_law : BlockHasPathOutcomes
path_law axioms c s o = (by_path axioms c s o, from_path axioms c s o)
