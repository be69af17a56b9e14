-- The kinds that were found, behind one more try.
use Rattle.std.proofs.Common.{◌≡◌, ℕ, ◌+◌, ◌<◌, List, [], ◌∷◌, ◌++◌, inl, inr, refl, sym, subst}
use Rattle.std.proofs.Common.{append_assoc, length, drop, get_or}
use Rattle.std.proofs.lemmas.List.{append-nil, drop_more}
use Rattle.rml_lex.specs.declared.token.Kind.{Kind}
use Rattle.rml_phrases.specs.Language.{Tokens}
use Rattle.expectations.specs.Expectations.{every_kind, in_front, MayStand, AreThose, AreExpected}

-- whatever may stand of those that are left is, behind those that were found, what may stand of all
abbrev pub GoesOn : (Kind → Type 0) → List Kind → List Kind → List Kind → Type 0
GoesOn P all some left = (those : List Kind) → AreThose P left those → AreThose P all (some ++ those)

module _ (P : Kind → Type 0) (all some : List Kind) (i : ℕ) (d : Kind) (within : i < length all)
    (before : GoesOn P all some (drop i all)) where
  abbrev k : Kind
  k = get_or all i d

  next : drop i all ≡ k ∷ drop (i + 1) all
  next = drop_more all i d within

  pub found : P (get_or all i d) → (new : List Kind) → new ≡ some ++ get_or all i d ∷ []
      → GoesOn P all new (drop (i + 1) all)
  unfolding AreThose
  found p new is those are =
      let on : AreThose P all (some ++ k ∷ those) =
      before (k ∷ those) (subst (λ (l : List Kind). AreThose P l (k ∷ those)) (sym next)
      (inl (those, refl, p, are))) in
      subst (λ (l : List Kind). AreThose P all (l ++ those)) (sym is)
      (subst (AreThose P all) (sym (append_assoc some (k ∷ []) those)) on)

  pub passed : (P (get_or all i d) → ⊥) → GoesOn P all some (drop (i + 1) all)
  unfolding AreThose
  passed never those are =
      before those (subst (λ (l : List Kind). AreThose P l those) (sym next) (inr (never, are)))

pub ended : (P : Kind → Type 0) (all some left : List Kind) → left ≡ [] → GoesOn P all some left → AreThose P all some
unfolding AreThose
ended P all some left none h =
    subst (AreThose P all) (append-nil some) (subst (GoesOn P all some) none h [] refl)

pub known : (text : List ℕ) (tokens before : Tokens) (at : ℕ) (all kinds : List Kind) → all ≡ every_kind
    → before ≡ in_front at tokens → AreThose (MayStand text before) all kinds → AreExpected text tokens at kinds
known text tokens before at all kinds every e h =
    subst (λ (u : Tokens). AreThose (MayStand text u) every_kind kinds) e
    (subst (λ (l : List Kind). AreThose (MayStand text before) l kinds) every h)
