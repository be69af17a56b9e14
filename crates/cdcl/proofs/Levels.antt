-- The places where levels begin, behind a decision and behind the way back, and that nothing is false or unit there.
use Rattle.std.proofs.Common.{◌≡◌, ℕ, ◌+◌, ◌<◌, ◌≤◌, ◌⊎◌, Bool, List, [], ◌∷◌, ◌++◌, length, length-append, get_or}
use Rattle.std.proofs.Common.{take, arith, ap, sym, subst, ◌∙◌, inl, inr}
use mathlib.Core.Path.{fun_ext}
use Rattle.std.proofs.lemmas.Grind.{common_steps}
use Rattle.std.proofs.lemmas.Bool.{cases_lt}
use Rattle.std.proofs.Math.ListN.{get_or-append}
use Rattle.std.proofs.Math.Seq.{get_or-append_seam}
use Rattle.std.proofs.lemmas.List.{get_or-take}
use Rattle.lrat_log.specs.Held.{Held}
use Rattle.lrat_log.specs.Learnt.{IsQuiet}
use Rattle.cdcl.specs.declared.trail.Step.{Step}
use Rattle.cdcl.specs.Trail.{reason_at, was_set, is_set}
use Rattle.cdcl.specs.Search.{AreStarts}
use Rattle.cdcl.proofs.Trails.{was_set-push, was_set-take, get-push_old, get-take}

-- a decision begins a level
pub starts_decided : (t : List Step) (l : ℕ) (starts : List ℕ) → AreStarts t starts
    → AreStarts (t ++ record { literal = l; reason = 0 } ∷ []) (starts ++ length t ∷ [])
starts_decided t l starts s = record { rising = rise; inside = inner; decided = why }
  where
    count : length (starts ++ length t ∷ []) ≡ length starts + 1
    count = length-append starts (length t ∷ [])

    more : length (t ++ record { literal = l; reason = 0 } ∷ []) ≡ length t + 1
    more = length-append t (record { literal = l; reason = 0 } ∷ [])

    start_old : (i : ℕ) → i < length starts → get_or (starts ++ length t ∷ []) i 0 ≡ get_or starts i 0
    start_old i h = get_or-append starts (length t ∷ []) 0 i h

    start_new : get_or (starts ++ length t ∷ []) (length starts) 0 ≡ length t
    start_new = get_or-append_seam starts (length t) [] 0

    rise : (i j : ℕ) → i < j → j < length (starts ++ length t ∷ [])
        → get_or (starts ++ length t ∷ []) i 0 < get_or (starts ++ length t ∷ []) j 0
    rise i j h g = at (cases_lt j (length starts))
      where
        at : (j < length starts) ⊎ (length starts ≤ j) → get_or (starts ++ length t ∷ []) i 0
            < get_or (starts ++ length t ∷ []) j 0
        at (inl q) = rw (start_old i (omega arith), start_old j q) (s.rising i j h q)
        at (inr q) =
            let c = count in
            let e : j ≡ length starts = omega arith in
            rw (start_old i (omega arith), e, start_new) (s.inside i (omega arith))

    inner : (i : ℕ) → i < length (starts ++ length t ∷ []) → get_or (starts ++ length t ∷ []) i 0
        < length (t ++ record { literal = l; reason = 0 } ∷ [])
    inner i h = at (cases_lt i (length starts))
      where
        at : (i < length starts) ⊎ (length starts ≤ i) → get_or (starts ++ length t ∷ []) i 0
            < length (t ++ record { literal = l; reason = 0 } ∷ [])
        at (inl q) = let m = more in let x = s.inside i q in rw (start_old i q) (omega arith)
        at (inr q) =
            let c = count in
            let m = more in
            let e : i ≡ length starts = omega arith in
            rw (e, start_new) (omega arith)

    why : (i : ℕ) → i < length (t ++ record { literal = l; reason = 0 } ∷ [])
        → reason_at (t ++ record { literal = l; reason = 0 } ∷ []) i ≡ 0
        → (j : ℕ) × (j < length (starts ++ length t ∷ [])) × (get_or (starts ++ length t ∷ []) j 0 ≡ i)
    why i h z = at (cases_lt i (length t))
      where
        at : (i < length t) ⊎ (length t ≤ i) → (j : ℕ) × (j < length (starts ++ length t ∷ []))
            × (get_or (starts ++ length t ∷ []) j 0 ≡ i)
        at (inl q) =
            let d = s.decided i q
            (ap (λ (x : Step). x.reason) (sym (get-push_old t (record { literal = l; reason = 0 }) i q)) ∙ z) in
            let c = count in
            let d1 = d.1 in
            (d.0, omega arith, start_old d.0 d.1 ∙ d.2)
        at (inr q) =
            let c = count in
            let m = more in
            (length starts, omega arith, start_new ∙ (let e : length t ≡ i = omega arith in e))

-- the trail is cut at the start of level k + 1, and so are the starts
pub starts_cut : (t : List Step) (starts : List ℕ) (k : ℕ) → AreStarts t starts → k < length starts
    → AreStarts (take (get_or starts k 0) t) (take k starts)
starts_cut t starts k s lt = record { rising = rise; inside = inner; decided = why }
  where
    inside : get_or starts k 0 < length t
    inside = s.inside k lt

    len : length (take (get_or starts k 0) t) ≡ get_or starts k 0
    len = let x = inside in grind (arith, common_steps, x)

    count : length (take k starts) ≡ k
    count = grind (arith, common_steps, lt)

    start_old : (i : ℕ) → i < k → get_or (take k starts) i 0 ≡ get_or starts i 0
    start_old i h = get_or-take k starts i 0 h

    rise : (i j : ℕ) → i < j → j < length (take k starts) → get_or (take k starts) i 0 < get_or (take k starts) j 0
    rise i j h g =
        let c = count in
        rw (start_old i (omega arith), start_old j (omega arith)) (s.rising i j h (omega arith))

    inner : (i : ℕ) → i < length (take k starts) → get_or (take k starts) i 0 < length (take (get_or starts k 0) t)
    inner i h = let c = count in rw (len, start_old i (omega arith)) (s.rising i k (omega arith) lt)

    why : (i : ℕ) → i < length (take (get_or starts k 0) t) → reason_at (take (get_or starts k 0) t) i ≡ 0
        → (j : ℕ) × (j < length (take k starts)) × (get_or (take k starts) j 0 ≡ i)
    why i h z =
        let e = len in
        let n = inside in
        let lti : i < get_or starts k 0 = omega arith in
        let d = s.decided i (omega arith) (ap (λ (x : Step). x.reason) (sym (get-take t (get_or starts k 0) i lti))
        ∙ z) in
        at d.0 d.1 d.2 lti (cases_lt d.0 k)
      where
        at : (j : ℕ) → j < length starts → get_or starts j 0 ≡ i → i < get_or starts k 0 → (j < k) ⊎ (k ≤ j)
            → (j : ℕ) × (j < length (take k starts)) × (get_or (take k starts) j 0 ≡ i)
        at j g q l (inl r) = let c = count in (j, omega arith, start_old j r ∙ q)
        at j g q l (inr r) = absurd (two (cases_lt k j))
          where
            two : (k < j) ⊎ (j ≤ k) → ⊥
            two (inl m) = let x = s.rising k j m g in omega arith
            two (inr m) =
                let e : j ≡ k = omega arith in
                let x : get_or starts k 0 ≡ i = ap (λ (n : ℕ). get_or starts n 0) (sym e) ∙ q in
                omega arith

-- nothing is false or unit where a level begins
abbrev pub AreQuiet : Held → List Step → List ℕ → Type 0
AreQuiet held t starts = (i : ℕ) → i < length starts → IsQuiet held (was_set t (get_or starts i 0))

quiet_same : (held : Held) (a b : ℕ → Bool) → ((l : ℕ) → a l ≡ b l) → IsQuiet held a → IsQuiet held b
quiet_same held a b e q = subst (λ (s : ℕ → Bool). IsQuiet held s) (fun_ext e) q

pub quiet_pushed : (held : Held) (t : List Step) (s : Step) (starts : List ℕ) → AreStarts t starts
    → AreQuiet held t starts → AreQuiet held (t ++ s ∷ []) starts
quiet_pushed held t s starts a q i h =
    quiet_same held (was_set t (get_or starts i 0)) (was_set (t ++ s ∷ []) (get_or starts i 0))
    (λ l. sym (was_set-push t s (get_or starts i 0) l (let x = a.inside i h in omega arith))) (q i h)

pub quiet_decided : (held : Held) (t : List Step) (s : Step) (starts : List ℕ) → AreStarts t starts
    → AreQuiet held t starts → IsQuiet held (is_set t) → AreQuiet held (t ++ s ∷ []) (starts ++ length t ∷ [])
quiet_decided held t s starts a q w i h = at (cases_lt i (length starts))
  where
    at : (i < length starts) ⊎ (length starts ≤ i)
        → IsQuiet held (was_set (t ++ s ∷ []) (get_or (starts ++ length t ∷ []) i 0))
    at (inl r) =
        subst (λ (n : ℕ). IsQuiet held (was_set (t ++ s ∷ []) n)) (sym (get_or-append starts (length t ∷ []) 0 i r))
        (quiet_pushed held t s starts a q i r)
    at (inr r) =
        let c = length-append starts (length t ∷ []) in
        let e : i ≡ length starts = omega arith in
        let n : get_or (starts ++ length t ∷ []) i 0 ≡ length t =
        ap (λ (j : ℕ). get_or (starts ++ length t ∷ []) j 0) e ∙ get_or-append_seam starts (length t) [] 0 in
        subst (λ (m : ℕ). IsQuiet held (was_set (t ++ s ∷ []) m)) (sym n)
        (quiet_same held (is_set t) (was_set (t ++ s ∷ []) (length t))
        (λ l. sym (was_set-push t s (length t) l (omega arith))) w)

pub quiet_cut : (held : Held) (t : List Step) (starts : List ℕ) (k : ℕ) → AreStarts t starts → k < length starts
    → AreQuiet held t starts → AreQuiet held (take (get_or starts k 0) t) (take k starts)
quiet_cut held t starts k a lt q i h =
    let c : length (take k starts) ≡ k = grind (arith, common_steps, lt) in
    let r = a.rising i k (omega arith) lt in
    let e : get_or (take k starts) i 0 ≡ get_or starts i 0 = get_or-take k starts i 0 (omega arith) in
    subst (λ (n : ℕ). IsQuiet held (was_set (take (get_or starts k 0) t) n)) (sym e)
    (quiet_same held (was_set t (get_or starts i 0)) (was_set (take (get_or starts k 0) t) (get_or starts i 0))
    (λ l. sym (was_set-take t (get_or starts k 0) (get_or starts i 0) l (omega arith))) (q i (omega arith)))
