-- A trail: what is set on it, one more step, and a trail that is cut.
use Rattle.std.proofs.Common.{◌≡◌, ℕ, zero, suc, ◌+◌, ◌-◌, ◌*◌, ◌<◌, ◌≤◌, ◌⊎◌, ◌||◌, eqb, Bool, true, false, cond, List}
use Rattle.std.proofs.Common.{[], ◌∷◌, ◌++◌, length, get_or, set, take, refl, arith, ap, sym, subst, ◌∙◌, inl, inr}
use Rattle.std.proofs.Common.{Some, length-append}
use Rattle.std.proofs.lemmas.Grind.{common_steps}
use Rattle.std.proofs.lemmas.Bool.{cases_lt}
use Rattle.cnf_base.specs.declared.cnf.Entry.TheVariants.{Clause}
use Rattle.cnf_base.specs.Literals.{opposite, member}
use Rattle.lrat_log.specs.Held.{Held}
use Rattle.lrat_log.specs.Learnt.{IsConsistent}
use Rattle.cdcl.specs.declared.trail.Step.{Step}
use Rattle.cdcl.specs.Trail.{no_step, literal_at, reason_at, IsBelow, HasReason, IsTrail, was_set, is_set, MayPush}
use Rattle.cdcl.specs.TrailValue.{TrailValue}
use Rattle.cdcl.proofs.Literals.{opposite-opposite, opposite-differs, opposite-below}

pub was_set_below : (trail : List Step) (s l : ℕ) → was_set trail s l ≡ true → IsBelow trail s l
was_set_below trail zero l h = absurd (cc)
was_set_below trail (suc s) l h = at (eqb (literal_at trail s) l) refl h (λ k. was_set_below trail s l k)
  where
    at : (b : Bool) → eqb (literal_at trail s) l ≡ b → (b || was_set trail s l) ≡ true
        → (was_set trail s l ≡ true → IsBelow trail s l) → IsBelow trail (suc s) l
    at true e k r = (s, omega arith, grind (arith, common_steps, e))
    at false e k r = let b = r k in (b.0, omega arith, b.2)

pub below_was_set : (trail : List Step) (s l : ℕ) → IsBelow trail s l → was_set trail s l ≡ true
below_was_set trail zero l b = let h = b.1 in absurd (omega arith)
below_was_set trail (suc s) l b = at b.0 b.1 b.2 (λ r. below_was_set trail s l r)
  where
    at : (j : ℕ) → j < suc s → literal_at trail j ≡ l → (IsBelow trail s l → was_set trail s l ≡ true)
        → was_set trail (suc s) l ≡ true
    at j h e r = cases (eqb j s) refl
      where
        cases : (b : Bool) → eqb j s ≡ b → was_set trail (suc s) l ≡ true
        cases true q = let js : j ≡ s = grind (arith, common_steps, q) in
            let e2 : literal_at trail s ≡ l = ap (literal_at trail) (sym js) ∙ e in grind (arith, common_steps, e2)
        cases false q = let lt : j < s = grind (arith, common_steps, q, h) in let k = r (j, lt, e) in
            grind (arith, common_steps, k)

pub trail_consistent : (held : Held) (trail : List Step) (s : ℕ) → IsTrail held trail → s ≤ length trail
    → IsConsistent (was_set trail s)
trail_consistent held trail s t h l e = at (was_set trail s (opposite l)) refl
  where
    at : (b : Bool) → was_set trail s (opposite l) ≡ b → b ≡ false
    at false q = refl
    at true q =
        let x = was_set_below trail s l e in
        let y = was_set_below trail s (opposite l) q in
        let ol = opposite-opposite l in
        let a = t.apart x.0 y.0 in
        let b = t.apart y.0 x.0 in
        let o = t.once x.0 y.0 in
        absurd (meet x.0 y.0 x.1 y.1 x.2 y.2)
      where
        meet : (i j : ℕ) → i < s → j < s → literal_at trail i ≡ l → literal_at trail j ≡ opposite l → ⊥
        meet i j hi hj ei ej = order (cases_lt i j)
          where
            order : (i < j) ⊎ (j ≤ i) → ⊥
            order (inl k) = t.apart i j k (omega arith) (ap opposite ei ∙ sym ej)
            order (inr k) = same (eqb i j) refl
              where
                same : (b : Bool) → eqb i j ≡ b → ⊥
                same true q = let ij : i ≡ j = grind (arith, common_steps, q) in
                    opposite-differs l (sym ej ∙ ap (literal_at trail) (sym ij) ∙ ei)
                same false q =
                    t.apart j i (grind (arith, common_steps, q, k)) (omega arith)
                    (ap opposite ej ∙ opposite-opposite l ∙ sym ei)

pub get-push_old : (t : List Step) (s : Step) (i : ℕ) → i < length t
    → get_or (t ++ s ∷ []) i no_step ≡ get_or t i no_step
get-push_old [] s i h = absurd (omega arith)
get-push_old (x ∷ t) s zero h = refl
get-push_old (x ∷ t) s (suc i) h = get-push_old t s i (omega arith)

pub get-push_new : (t : List Step) (s : Step) → get_or (t ++ s ∷ []) (length t) no_step ≡ s
get-push_new [] s = refl
get-push_new (x ∷ t) s = get-push_new t s

pub literal-push : (t : List Step) (s : Step) (i : ℕ) → i < length t → literal_at (t ++ s ∷ []) i ≡ literal_at t i
literal-push t s i h = ap (λ (x : Step). x.literal) (get-push_old t s i h)

pub was_set-push : (t : List Step) (s : Step) (n l : ℕ) → n ≤ length t → was_set (t ++ s ∷ []) n l ≡ was_set t n l
was_set-push t s zero l h = refl
was_set-push t s (suc n) l h =
    let a = literal-push t s n (omega arith) in
    let b = was_set-push t s n l (omega arith) in
    grind (arith, common_steps, a, b)

pub below_push : (t : List Step) (s : Step) (n l : ℕ) → n ≤ length t → IsBelow t n l → IsBelow (t ++ s ∷ []) n l
below_push t s n l h b = (b.0, b.1, literal-push t s b.0 (let k = b.1 in omega arith) ∙ b.2)

pub trail_push : (held : Held) (t : List Step) (s : Step) → IsTrail held t → MayPush held t s
    → IsTrail held (t ++ s ∷ [])
trail_push held t s r m = record {
  once = λ i j h k e. two i j h (short k)
      (λ q. r.once i j h q (sym (literal-push t s i (omega arith)) ∙ e ∙ literal-push t s j q))
      (λ q. (let w = below_was_set t (length t) s.literal (
        i,
        (let z = q in omega arith),
        sym (literal-push t s i (let z = q in omega arith)) ∙ e ∙ top q,
      ) in let n = m.not_true in absurd (cc)));
  apart = λ i j h k e. two i j h (short k)
      (λ q. r.apart i j h q (ap opposite (sym (literal-push t s i (omega arith))) ∙ e ∙ literal-push t s j q))
      (λ q. (let w = below_was_set t (length t) (opposite s.literal) (
        i,
        (let z = q in omega arith),
        sym (opposite-opposite (literal_at t i))
            ∙ ap opposite (ap opposite (sym (literal-push t s i (let z = q in omega arith))) ∙ e ∙ top q),
      ) in let n = m.not_false in absurd (cc)));
  reasons = λ i k. why i (cases_lt i (length t)) (short k);
}
  where
    short : {j : ℕ} → j < length (t ++ s ∷ []) → j < length t + 1
    short k = let e = length-append t (s ∷ []) in grind (arith, common_steps, k, e)

    top : {j : ℕ} → j ≡ length t → literal_at (t ++ s ∷ []) j ≡ s.literal
    top q = ap (literal_at (t ++ s ∷ [])) q ∙ ap (λ (x : Step). x.literal) (get-push_new t s)

    two : (i j : ℕ) → i < j → j < length t + 1 → (j < length t → ⊥) → (j ≡ length t → ⊥) → ⊥
    two i j h k f g = at (cases_lt j (length t))
      where
        at : (j < length t) ⊎ (length t ≤ j) → ⊥
        at (inl q) = f q
        at (inr q) = g (omega arith)

    why : (i : ℕ) → (i < length t) ⊎ (length t ≤ i) → i < length t + 1 → (reason_at (t ++ s ∷ []) i ≡ 0)
        ⊎ HasReason held (t ++ s ∷ []) i
    why i (inl q) k = old (r.reasons i q)
      where
        same : get_or (t ++ s ∷ []) i no_step ≡ get_or t i no_step
        same = get-push_old t s i q

        old : (reason_at t i ≡ 0) ⊎ HasReason held t i → (reason_at (t ++ s ∷ []) i ≡ 0)
            ⊎ HasReason held (t ++ s ∷ []) i
        old (inl e) = inl (ap (λ (x : Step). x.reason) same ∙ e)
        old (inr w) = inr (record {
          clause = w.clause;
          held_as = ap (λ (x : Step). held x.reason) same ∙ w.held_as;
          stands = ap (λ (x : Step). member x.literal w.clause) same ∙ w.stands;
          others = λ x h. other x (w.others x h);
        })
          where
            other : (x : ℕ) → (x ≡ literal_at t i) ⊎ IsBelow t i (opposite x)
                → (x ≡ literal_at (t ++ s ∷ []) i) ⊎ IsBelow (t ++ s ∷ []) i (opposite x)
            other x (inl e) = inl (e ∙ sym (ap (λ (y : Step). y.literal) same))
            other x (inr b) = inr (below_push t s i (opposite x) (omega arith) b)
    why i (inr q) k = new m.because
      where
        at_end : i ≡ length t
        at_end = omega arith

        same : get_or (t ++ s ∷ []) i no_step ≡ s
        same = ap (λ (n : ℕ). get_or (t ++ s ∷ []) n no_step) at_end ∙ get-push_new t s

        new : (s.reason ≡ 0) ⊎ ((c : List ℕ) × (held s.reason ≡ Some (Clause c)) × (member s.literal c ≡ true)
            × ((x : ℕ) → member x c ≡ true → (x ≡ s.literal) ⊎ (was_set t (length t) (opposite x) ≡ true)))
            → (reason_at (t ++ s ∷ []) i ≡ 0) ⊎ HasReason held (t ++ s ∷ []) i
        new (inl e) = inl (ap (λ (x : Step). x.reason) same ∙ e)
        new (inr w) = inr (record {
          clause = w.0;
          held_as = ap (λ (x : Step). held x.reason) same ∙ w.1;
          stands = ap (λ (x : Step). member x.literal w.0) same ∙ w.2;
          others = λ x h. other x (w.3 x h);
        })
          where
            other : (x : ℕ) → (x ≡ s.literal) ⊎ (was_set t (length t) (opposite x) ≡ true)
                → (x ≡ literal_at (t ++ s ∷ []) i) ⊎ IsBelow (t ++ s ∷ []) i (opposite x)
            other x (inl e) = inl (e ∙ sym (ap (λ (y : Step). y.literal) same))
            other x (inr b) = inr (subst (λ (n : ℕ). IsBelow (t ++ s ∷ []) n (opposite x)) (sym at_end)
                (below_push t s (length t) (opposite x) (omega arith) (was_set_below t (length t) (opposite x) b)))

pub all_set_push : (t : List Step) (s : Step) (l : ℕ) → was_set (t ++ s ∷ []) (length (t ++ s ∷ [])) l
    ≡ (eqb s.literal l || was_set t (length t) l)
all_set_push t s l =
    let n : length (t ++ s ∷ []) ≡ suc (length t) =
    length-append t (s ∷ []) ∙ (let e : length t + 1 ≡ suc (length t) = omega arith in e) in
    let a : literal_at (t ++ s ∷ []) (length t) ≡ s.literal = ap (λ (x : Step). x.literal) (get-push_new t s) in
    let b = was_set-push t s (length t) l (omega arith) in
    ap (λ (k : ℕ). was_set (t ++ s ∷ []) k l) n ∙ ap (λ (x : ℕ). eqb x l || was_set (t ++ s ∷ []) (length t) l) a
    ∙ ap (λ (y : Bool). eqb s.literal l || y) b

-- a trail that is cut
pub get-take : (t : List Step) (n i : ℕ) → i < n → get_or (take n t) i no_step ≡ get_or t i no_step
get-take t zero i h = absurd (omega arith)
get-take [] (suc n) i h = refl
get-take (x ∷ t) (suc n) zero h = refl
get-take (x ∷ t) (suc n) (suc i) h = get-take t n i (omega arith)

pub short-take : (t : List Step) (n j : ℕ) → j < length (take n t) → (j < n) × (j < length t)
short-take t n j h = (grind (arith, common_steps, h), grind (arith, common_steps, h))

pub was_set-take : (t : List Step) (n s l : ℕ) → s ≤ n → was_set (take n t) s l ≡ was_set t s l
was_set-take t n zero l h = refl
was_set-take t n (suc s) l h =
    let a = ap (λ (x : Step). x.literal) (get-take t n s (omega arith)) in
    let b = was_set-take t n s l (omega arith) in
    grind (arith, common_steps, a, b)

pub trail_cut : (held : Held) (t : List Step) (n : ℕ) → IsTrail held t → IsTrail held (take n t)
trail_cut held t n r = record {
  once = λ i j h k e. (let s = short-take t n j k in r.once i j h s.1 (sym (lit i (omega arith)) ∙ e ∙ lit j s.0));
  apart = λ i j h k e. (let s = short-take t n j k in
      r.apart i j h s.1 (ap opposite (sym (lit i (omega arith))) ∙ e ∙ lit j s.0));
  reasons = λ i k. (let s = short-take t n i k in why i s.0 (r.reasons i s.1));
}
  where
    lit : (i : ℕ) → i < n → literal_at (take n t) i ≡ literal_at t i
    lit i h = ap (λ (x : Step). x.literal) (get-take t n i h)

    why : (i : ℕ) → i < n → (reason_at t i ≡ 0) ⊎ HasReason held t i → (reason_at (take n t) i ≡ 0)
        ⊎ HasReason held (take n t) i
    why i h (inl e) = inl (ap (λ (x : Step). x.reason) (get-take t n i h) ∙ e)
    why i h (inr w) = inr (record {
      clause = w.clause;
      held_as = ap (λ (x : Step). held x.reason) (get-take t n i h) ∙ w.held_as;
      stands = ap (λ (x : Step). member x.literal w.clause) (get-take t n i h) ∙ w.stands;
      others = λ x m. other x (w.others x m);
    })
      where
        other : (x : ℕ) → (x ≡ literal_at t i) ⊎ IsBelow t i (opposite x) → (x ≡ literal_at (take n t) i)
            ⊎ IsBelow (take n t) i (opposite x)
        other x (inl e) = inl (e ∙ sym (lit i h))
        other x (inr b) = inr (b.0, b.1, lit b.0 (let s = b.1 in omega arith) ∙ b.2)

-- no literal stands twice
abbrev pub HasNoTwice : List Step → Type 0
HasNoTwice t = (i j : ℕ) → i < j → j < length t → literal_at t i ≡ literal_at t j → ⊥

pub once_push : (t : List Step) (s : Step) → HasNoTwice t → is_set t s.literal ≡ false → HasNoTwice (t ++ s ∷ [])
once_push t s o n i j h k e = at (cases_lt j (length t))
  where
    at : (j < length t) ⊎ (length t ≤ j) → ⊥
    at (inl q) = o i j h q (sym (literal-push t s i (omega arith)) ∙ e ∙ literal-push t s j q)
    at (inr q) =
        let len : length (t ++ s ∷ []) ≡ length t + 1 = length-append t (s ∷ []) in
        let jn : j ≡ length t = omega arith in
        let w = below_was_set t (length t) s.literal (
          i,
          omega arith,
          sym (literal-push t s i (omega arith)) ∙ e
              ∙ ap (literal_at (t ++ s ∷ [])) jn ∙ ap (λ (x : Step). x.literal) (get-push_new t s),
        ) in
        absurd (cc)

pub once_take : (t : List Step) (n : ℕ) → HasNoTwice t → HasNoTwice (take n t)
once_take t n o i j h k e =
    let s = short-take t n j k in
    o i j h s.1 (sym (ap (λ (x : Step). x.literal) (get-take t n i (omega arith))) ∙ e
    ∙ ap (λ (x : Step). x.literal) (get-take t n j s.0))

pub is_set-take : (t : List Step) (n l : ℕ) → n ≤ length t → is_set (take n t) l ≡ was_set t n l
is_set-take t n l h =
    let e : length (take n t) ≡ n = grind (arith, common_steps) in
    ap (λ (k : ℕ). was_set (take n t) k l) e ∙ was_set-take t n n l (omega arith)

-- the last step taken back
pub is_set-pop : (t : List Step) (l : ℕ) → HasNoTwice t → 0 < length t
    → is_set (take (length t - 1) t) l ≡ cond (eqb l (literal_at t (length t - 1))) false (is_set t l)
is_set-pop t l o h =
    is_set-take t (length t - 1) l (omega arith)
    ∙ at (length t - 1) (omega arith) (eqb l (literal_at t (length t - 1))) refl
  where
    whole : is_set t l ≡ (eqb (literal_at t (length t - 1)) l || was_set t (length t - 1) l)
    whole = ap (λ (k : ℕ). was_set t k l) (let e : length t ≡ suc (length t - 1) = omega arith in e)

    at : (n : ℕ) → n < length t → (b : Bool) → eqb l (literal_at t (length t - 1)) ≡ b
        → was_set t (length t - 1) l ≡ cond b false (is_set t l)
    at n k false e = let w = whole in grind (arith, common_steps, e, w)
    at n k true e = no (was_set t (length t - 1) l) refl
      where
        no : (b : Bool) → was_set t (length t - 1) l ≡ b → b ≡ false
        no false q = refl
        no true q =
            let w = was_set_below t (length t - 1) l q in
            let same : l ≡ literal_at t (length t - 1) = grind (arith, common_steps, e) in
            absurd (o w.0 (length t - 1) w.1 (omega arith) (w.2 ∙ same))

pub marked-set : (m : List Bool) (o : ℕ) (b : Bool) (x : ℕ) → o < length m
    → get_or (set m o b) x false ≡ cond (eqb x o) b (get_or m x false)
marked-set [] o b x h = absurd (omega arith)
marked-set (y ∷ m) zero b zero h = grind (arith, common_steps)
marked-set (y ∷ m) zero b (suc x) h = grind (arith, common_steps)
marked-set (y ∷ m) (suc o) b zero h = grind (arith, common_steps)
marked-set (y ∷ m) (suc o) b (suc x) h = let r = marked-set m o b x (omega arith) in grind (arith, common_steps, r)

-- the truth values behind one more step, and behind one less
pub values_pushed : (values : List Bool) (t : List Step) (s : Step) → s.literal < length values
    → ((l : ℕ) → get_or values l false ≡ is_set t l)
    → (l : ℕ) → get_or (set values s.literal true) l false ≡ is_set (t ++ s ∷ []) l
values_pushed values t s h a l =
    let m = marked-set values s.literal true l h in
    let p = all_set_push t s l in
    let al = a l in
    grind (arith, common_steps, m, p, al)

pub values_popped : (values : List Bool) (t : List Step) → HasNoTwice t → 0 < length t
    → literal_at t (length t - 1) < length values
    → ((l : ℕ) → get_or values l false ≡ is_set t l)
    → (l : ℕ) → get_or (set values (literal_at t (length t - 1)) false) l false ≡ is_set (take (length t - 1) t) l
values_popped values t o h s a l =
    let m = marked-set values (literal_at t (length t - 1)) false l s in
    let p = is_set-pop t l o h in
    let al = a l in
    grind (arith, common_steps, m, p, al)

pub small_push : (t : List Step) (s : Step) (n : ℕ) → ((i : ℕ) → i < length t → literal_at t i < n) → s.literal < n
    → (i : ℕ) → i < length (t ++ s ∷ []) → literal_at (t ++ s ∷ []) i < n
small_push t s n a h i k = at (cases_lt i (length t))
  where
    at : (i < length t) ⊎ (length t ≤ i) → literal_at (t ++ s ∷ []) i < n
    at (inl q) = rw (literal-push t s i q) (a i q)
    at (inr q) =
        let len : length (t ++ s ∷ []) ≡ length t + 1 = length-append t (s ∷ []) in
        let e : literal_at (t ++ s ∷ []) i ≡ s.literal =
        ap (literal_at (t ++ s ∷ [])) (let q2 : i ≡ length t = omega arith in q2)
        ∙ ap (λ (x : Step). x.literal) (get-push_new t s) in
        rw e h

pub small_take : (t : List Step) (k n : ℕ) → ((i : ℕ) → i < length t → literal_at t i < n) → (i : ℕ)
    → i < length (take k t) → literal_at (take k t) i < n
small_take t k n a i h =
    let s = short-take t k i h in
    let e : literal_at (take k t) i ≡ literal_at t i = ap (λ (x : Step). x.literal) (get-take t k i s.0) in
    rw e (a i s.1)

pub step_small : (t : TrailValue) (steps : List Step) (place values places : ℕ) (s : Step) → steps ≡ t.steps
    → values ≡ t.size → values ≡ 2 * places
    → ((i : ℕ) → i < length steps → literal_at steps i < values) → place < length t.steps → s ≡ get_or steps place s
    → (s.literal < t.size) × (opposite s.literal < t.size)
step_small t steps place values places s es ez h small lt e =
    let lt2 : place < length steps = rw es lt in
    let sp : s ≡ get_or steps place no_step = grind (arith, common_steps, e, lt2) in
    let a : literal_at steps place < values = small place lt2 in
    let b : s.literal < values = rw (ap (λ (x : Step). x.literal) sp) a in
    let c : opposite s.literal < values = rw h (opposite-below places s.literal (rw (← h) b)) in
    (rw (← ez) b, rw (← ez) c)
