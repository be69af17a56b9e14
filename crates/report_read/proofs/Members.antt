-- Tables as the tuples of which they are true, in the order in which these stand in a line.
use Rattle.std.proofs.Common.{◌≡◌, ℕ, ◌||◌, Bool, true, false, List, [], ◌∷◌, ◌++◌, refl, sym, ap, ◌∙◌, subst, cond}
use Rattle.std.proofs.Common.{◌⊎◌, inl, inr}
use Rattle.std.specs.Prelude.{nat_eq}
use Rattle.std.specs.List.{AllByRecursion, filter, flat_map}
use Rattle.std.specs.Cmp.Lexicographic.{pointwise, bytes_decides}
use Rattle.fol_sig.specs.TupleSets.{has_tuple}
use Rattle.report_read.proofs.Tuples.{Distinct}

-- some of the tuples, in their order
abbrev pub Picks : List (List ℕ) → List (List ℕ) → Type 0
Picks [] vs = vs ≡ []
Picks (t ∷ ts) vs = Picks ts vs ⊎ ((more : List (List ℕ)) × (vs ≡ t ∷ more) × Picks ts more)

pub picks_all : (P : List ℕ → Type 0) (ts vs : List (List ℕ)) → Picks ts vs → AllByRecursion P ts
    → AllByRecursion P vs
picks_all P [] vs p all = subst (AllByRecursion P) (sym p) tt
picks_all P (t ∷ ts) vs (inl p) all = picks_all P ts vs p all.1
picks_all P (t ∷ ts) vs (inr p) all =
    subst (AllByRecursion P) (sym p.1) (all.0, picks_all P ts p.0 p.2 all.1)

pub picks_filter : (f : List ℕ → Bool) (ts : List (List ℕ)) → Picks ts (filter f ts)
picks_filter f [] = refl
picks_filter f (t ∷ ts) = by (f t) (picks_filter f ts)
  where
    by : (b : Bool) → Picks ts (filter f ts) → Picks (t ∷ ts) (cond b (t ∷ filter f ts) (filter f ts))
    by true p = inr (filter f ts, refl, p)
    by false p = inl p

other : (t v : List ℕ) → (t ≡ v → ⊥) → pointwise nat_eq v t ≡ false
other t v differ = by (pointwise nat_eq v t) refl
  where
    by : (b : Bool) → pointwise nat_eq v t ≡ b → pointwise nat_eq v t ≡ false
    by true e = absurd (differ (sym ((bytes_decides v t).0 e)))
    by false e = e

not_one : (t : List ℕ) (vs : List (List ℕ)) → AllByRecursion (λ ys. t ≡ ys → ⊥) vs → has_tuple vs t ≡ false
not_one t [] others = refl
not_one t (v ∷ vs) others =
    ap (λ b. b || has_tuple vs t) (other t v others.0) ∙ not_one t vs others.1

-- another tuple makes no difference
filter_without : (t : List ℕ) (more ts : List (List ℕ)) → AllByRecursion (λ ys. t ≡ ys → ⊥) ts
    → filter (has_tuple (t ∷ more)) ts ≡ filter (has_tuple more) ts
filter_without t more [] others = refl
filter_without t more (y ∷ ts) others =
    let away : pointwise nat_eq t y ≡ false = other y t (λ e. others.0 (sym e)) in
    ap (λ b. cond (b || has_tuple more y) (y ∷ filter (has_tuple (t ∷ more)) ts) (filter (has_tuple (t ∷ more)) ts))
    away
    ∙ ap (λ l. cond (has_tuple more y) (y ∷ l) l) (filter_without t more ts others.1)

-- those that were picked are the ones that are found among them
pub picks_kept : (ts vs : List (List ℕ)) → Distinct ts → Picks ts vs → filter (has_tuple vs) ts ≡ vs
picks_kept [] vs one p = sym p
picks_kept (t ∷ ts) vs one (inl p) =
    ap (λ b. cond b (t ∷ filter (has_tuple vs) ts) (filter (has_tuple vs) ts))
    (not_one t vs (picks_all (λ ys. t ≡ ys → ⊥) ts vs p one.0))
    ∙ picks_kept ts vs one.1 p
picks_kept (t ∷ ts) vs one (inr p) =
    let more = p.0 in
    let same : pointwise nat_eq t t ≡ true = (bytes_decides t t).1 refl in
    let here : filter (has_tuple (t ∷ p.0)) (t ∷ ts) ≡ t ∷ p.0 =
    ap (λ b. cond (b || has_tuple p.0 t) (t ∷ filter (has_tuple (t ∷ p.0)) ts) (filter (has_tuple (t ∷ p.0)) ts)) same
    ∙ ap (λ l. t ∷ l) (filter_without t p.0 ts one.0 ∙ picks_kept ts p.0 one.1 p.2) in
    ap (λ l. filter (has_tuple l) (t ∷ ts)) p.1 ∙ here ∙ sym p.1

-- so it is with those of which a test is true
pub filter_kept : (f : List ℕ → Bool) (ts : List (List ℕ)) → Distinct ts
    → filter (has_tuple (filter f ts)) ts ≡ filter f ts
filter_kept f ts one = picks_kept ts (filter f ts) one (picks_filter f ts)

pub filter_none : (ts : List (List ℕ)) → filter (has_tuple []) ts ≡ []
filter_none [] = refl
filter_none (t ∷ ts) = filter_none ts

-- the texts of those of which a test is true
pub filter_text : (f : List ℕ → Bool) (g : List ℕ → List ℕ) (ts : List (List ℕ))
    → flat_map (λ xs. cond (f xs) (g xs) []) ts ≡ flat_map g (filter f ts)
filter_text f g [] = refl
filter_text f g (t ∷ ts) = by (f t) (filter_text f g ts)
  where
    by : (b : Bool) → flat_map (λ xs. cond (f xs) (g xs) []) ts ≡ flat_map g (filter f ts)
        → cond b (g t) [] ++ flat_map (λ xs. cond (f xs) (g xs) []) ts
        ≡ flat_map g (cond b (t ∷ filter f ts) (filter f ts))
    by true h = ap (λ l. g t ++ l) h
    by false h = h
