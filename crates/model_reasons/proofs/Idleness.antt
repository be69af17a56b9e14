-- What idle conjectures carry.
use Rattle.std.proofs.Common.{◌≡◌, ◌==◌, inl, inr, ℕ, Bool, true, false, cond, not, ◌&&◌, ◌||◌, List, [], ◌∷◌, length}
use Rattle.std.proofs.Common.{refl, sym, ap, ◌∙◌, subst}
use Rattle.std.specs.List.{AllByRecursion, filter, list_any}
use Rattle.std.proofs.lemmas.Bool.Decides.{Decides-eqb}
use Rattle.base.specs.Lists.{SomeOf, count_from}
use Rattle.rml_command.specs.declared.goal.About.{About}
use Rattle.rml_command.specs.declared.goal.About.TheVariants as about
use Rattle.rml_command.specs.InductiveSets.{Has}
use Rattle.rml_reasons.specs.Reasons.{IsCarried, needed_conjectures}
use Rattle.rml_reasons.specs.declared.reason.Need.{Need}
use Rattle.rml_reasons.specs.declared.reason.Carried.{Carried}
use Rattle.model_reasons.specs.Reasons.{head_of, IsCarriedSo}
use Rattle.model_reasons.specs.Idle.{names, is_about, serves}
use Rattle.model_reasons.specs.Laws.{IdleCarryNoOther}
use Rattle.model_reasons.specs.declared.reason.Reason.{Reason}

each-of : {A : Type 0} (P : A → Type 0) (xs : List A) (x : A) → SomeOf (λ y. y ≡ x) xs → AllByRecursion P xs → P x
each-of P [] x h all = absurd h
each-of P (y ∷ ys) x (inl is) all = subst P is all.0
each-of P (y ∷ ys) x (inr h) all = each-of P ys x h all.1

settled-by : {A : Type 0} (p : A → Bool) (xs : List A) (x : A) → SomeOf (λ y. y ≡ x) xs → p x ≡ true
    → list_any p xs ≡ true
settled-by p [] x h e = absurd h
settled-by p (y ∷ ys) x (inl is) e =
    let here : p y ≡ true = ap p is ∙ e in ap (λ (b : Bool). b || list_any p ys) here
settled-by p (y ∷ ys) x (inr h) e = go (p y) (settled-by p ys x h e)
  where
    go : (b : Bool) → list_any p ys ≡ true → (b || list_any p ys) ≡ true
    go true h = refl
    go false h = h

passes : (p : ℕ → Bool) (ks : List ℕ) (k : ℕ) → Has (filter p ks) k → p k ≡ true
passes p [] k h = absurd h
passes p (x ∷ xs) k h = go (p x) refl (passes p xs k) h
  where
    go : (b : Bool) → p x ≡ b → (Has (filter p xs) k → p k ≡ true) → Has (cond b (x ∷ filter p xs) (filter p xs)) k
        → p k ≡ true
    go true e rest (inl is) = sym (ap p is) ∙ e
    go true e rest (inr a) = rest a
    go false e rest a = rest a

named : (needs : List Need) (k : ℕ) → Has (needed_conjectures needs) k
    → list_any (λ n. n.conjecture == k) needs ≡ true
named [] k h = absurd h
named (n ∷ ns) k (inl is) =
    let here : (n.conjecture == k) ≡ true = (Decides-eqb n.conjecture k).1 is in
    ap (λ (b : Bool). b || list_any (λ x. x.conjecture == k) ns) here
named (n ∷ ns) k (inr h) = go (n.conjecture == k) (named ns k h)
  where
    go : (b : Bool) → list_any (λ x. x.conjecture == k) ns ≡ true
        → (b || list_any (λ x. x.conjecture == k) ns) ≡ true
    go true h = refl
    go false h = h

is-own : (k : ℕ) (a : About) → is_about k a ≡ true → a ≡ about.Conjecture k
is-own k about.Abort e = absurd (cc e)
is-own k (about.Conjecture n) e = ap (λ (j : ℕ). about.Conjecture j) ((Decides-eqb n k).0 e)

not-other : (a b : Bool) → a ≡ true → (a && not b) ≡ false → b ≡ true
not-other true true h e = refl
not-other true false h e = absurd (cc e)
not-other false b h e = absurd (cc h)

un-not : (b : Bool) → not b ≡ true → b ≡ false
un-not true e = absurd (cc e)
un-not false e = refl

-- what serves no group carries none but its own
own-group : (reasons : List Reason) (r : Reason) (k : ℕ) → SomeOf (λ x. x ≡ r) reasons
    → list_any (serves k) reasons ≡ false → names k r.carried ≡ true → r.about ≡ about.Conjecture k
own-group reasons r k there none name = go (serves k r) refl
  where
    go : (b : Bool) → serves k r ≡ b → r.about ≡ about.Conjecture k
    go true e = absurd (cc (sym none ∙ settled-by (serves k) reasons r there e))
    go false e = is-own k r.about (not-other (names k r.carried) (is_about k r.about) name e)

pub idle_carry_no_other : IdleCarryNoOther
idle_carry_no_other limits m reasons r needs are there is other =
    let carried = each-of (IsCarriedSo limits m) reasons r there are.carried in (
      (subst (λ (c : Carried). IsCarried limits m (head_of r) c) is carried).carry,
      (λ k has idle.
          let none = un-not _ (passes (λ n. not (list_any (serves n) reasons)) (count_from 0 (length m.conjectures)) k
          idle) in
          other k (own-group reasons r k there none (ap (names k) is ∙ named needs k has)) idle),
    )
