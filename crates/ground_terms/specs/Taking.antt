-- What a sink has taken. Such facts speak of what the sink stands for, which no law can range over; so the rules for a
-- step of calls stand here, beside the definitions.
use Rattle.std.specs.Prelude.{◌≡◌, ℕ, zero, suc, ◌+◌, ◌<◌, List, [], ◌∷◌, ◌++◌, Result, Ok, Err, OnOk, OnErr, IsErr}
use Rattle.std.specs.Prelude.{refl}
use Rattle.std.proofs.Common.{sym, ◌∙◌, ap, subst, arith, ⊎_elim}
use Rattle.std.proofs.lemmas.Bool.{cases_lt, false≢true}
use Rattle.std.proofs.lemmas.List.{append-nil, append_assoc}
use Rattle.fol_sig.specs.Tuples.{join_below}
use Rattle.ground_terms.specs.Trees.{Tree, trees_of}
use Rattle.ground_terms.specs.Calls.{Call, calls_of, calls_of_all}

-- Between two states of a sink, each given by the calls that it stands for, the sink took those of `whole` but for
-- `left` at their end: where it stood for some calls, it stands for these and what it took.
pub record Takes (old new : List Call → Type 0) (whole left : List Call) : Type 0 where
  pub some : List Call
  pub split : some ++ left ≡ whole
  pub taken : (calls : List Call) → old calls → new (calls ++ some)

-- the sink took all of these calls
abbrev pub TakesAll : (List Call → Type 0) → (List Call → Type 0) → List Call → Type 0
TakesAll old new whole = Takes old new whole []

-- the first of them, as before want of memory
abbrev pub TakesSome : (List Call → Type 0) → (List Call → Type 0) → List Call → Type 0
TakesSome old new whole = (left : List Call) × Takes old new whole left

-- what a call did to a sink that was to hand it these calls: it took them all, or the first of them for want of memory
abbrev pub Hands : {T E : Type 0} → (List Call → Type 0) → (List Call → Type 0) → Result T E → List Call → Type 0
Hands old new (Ok t) whole = TakesAll old new whole
Hands old new (Err e) whole = TakesSome old new whole

-- the calls of some formulas, one after another
abbrev pub calls_of_each : List Tree → List Call
calls_of_each ps = calls_of_all (trees_of ps)

-- one call
pub one_handed : {T E : Type 0} → (P Q : List Call → Type 0) (result : Result T E) (call : Call)
    → OnOk result ((calls : List Call) → P calls → Q (calls ++ call ∷ []))
    → OnErr result ((calls : List Call) → P calls → Q calls)
    → Hands P Q result (call ∷ [])
one_handed P Q (Ok t) call taken refused = record { some = call ∷ []; split = refl; taken = taken }
one_handed P Q (Err e) call taken refused = (
  call ∷ [],
  record { some = []; split = refl; taken = λ calls h. subst Q (sym (append-nil calls)) (refused calls h) },
)

-- an error, where some were taken
pub refused : {T E : Type 0} → (P Q : List Call → Type 0) (result : Result T E) (whole : List Call) → IsErr result
    → TakesSome P Q whole → Hands P Q result whole
refused P Q (Ok t) whole err h = absurd (false≢true err)
refused P Q (Err e) whole err h = h

-- the first part of the calls
module _ (P Q : List Call → Type 0) (part rest : List Call) where
  pub begins : TakesAll P Q part → Takes P Q (part ++ rest) rest
  begins h = record {
    some = h.some;
    split = ap (λ cs. cs ++ rest) (sym (append-nil h.some) ∙ h.split);
    taken = h.taken;
  }

  pub cut : TakesSome P Q part → TakesSome P Q (part ++ rest)
  cut h = (
    h.0 ++ rest,
    record {
      some = h.1.some;
      split = sym (append_assoc h.1.some h.0 rest) ∙ ap (λ cs. cs ++ rest) h.1.split;
      taken = h.1.taken;
    },
  )

-- the next part of them
module _ (P Q R : List Call → Type 0) (whole part rest : List Call) (before : Takes P Q whole (part ++ rest)) where
  goes_on : (more : List Call) → Takes Q R part more → Takes P R whole (more ++ rest)
  goes_on more h = record {
    some = before.some ++ h.some;
    split =
        append_assoc before.some h.some (more ++ rest)
        ∙ ap (λ cs. before.some ++ cs) (sym (append_assoc h.some more rest) ∙ ap (λ cs. cs ++ rest) h.split)
        ∙ before.split;
    taken = λ calls p. subst R (append_assoc calls before.some h.some)
        (h.taken (calls ++ before.some) (before.taken calls p));
  }

  pub step : TakesAll Q R part → Takes P R whole rest
  step h = goes_on [] h

  pub stop : TakesSome Q R part → TakesSome P R whole
  stop h = (h.0 ++ rest, goes_on h.0 h.1)

-- the last part of them
pub last : {T E : Type 0} → (P Q R : List Call → Type 0) (whole rest : List Call) (result : Result T E)
    → Takes P Q whole rest → Hands Q R result rest → Hands P R result whole
last P Q R whole rest (Ok t) before h =
    step P Q R whole rest [] (subst (Takes P Q whole) (sym (append-nil rest)) before) h
last P Q R whole rest (Err e) before h =
    stop P Q R whole rest [] (subst (Takes P Q whole) (sym (append-nil rest)) before) h

-- the calls of two lists of formulas
pub calls-append : (ps qs : List Tree) → calls_of_each (ps ++ qs) ≡ calls_of_each ps ++ calls_of_each qs
calls-append [] qs = refl
calls-append (p ∷ ps) qs =
    ap (λ cs. calls_of p ++ cs) (calls-append ps qs)
    ∙ sym (append_assoc (calls_of p) (calls_of_each ps) (calls_of_each qs))

-- the calls of those below n are those below x, those of x, and some others
below-split : (n x : ℕ) (f : ℕ → List Tree) → x < n → (rest : List Call)
    × (calls_of_each (join_below x f) ++ (calls_of_each (f x) ++ rest) ≡ calls_of_each (join_below n f))
below-split zero x f lt = absurd (omega arith)
below-split (suc n) x f lt =
    ⊎_elim
    (λ less. let before = below-split n x f less in
    let last = calls_of_each (f n) in (
      before.0 ++ last,
      ap (λ cs. calls_of_each (join_below x f) ++ cs) (sym (append_assoc (calls_of_each (f x)) before.0 last))
          ∙ sym (append_assoc (calls_of_each (join_below x f)) (calls_of_each (f x) ++ before.0) last)
          ∙ ap (λ cs. cs ++ last) before.1
          ∙ sym (calls-append (join_below n f) (f n)),
    ))
    (λ last. let e : x ≡ n = omega arith in (
      [],
      ap (λ m. calls_of_each (join_below m f) ++ (calls_of_each (f m) ++ [])) e
          ∙ ap (λ cs. calls_of_each (join_below n f) ++ cs) (append-nil (calls_of_each (f n)))
          ∙ sym (calls-append (join_below n f) (f n)),
    ))
    (cases_lt x n)

-- a turn of a loop over the numbers below n, behind the calls `front`: the formulas of x
module _ (P Q R : List Call → Type 0) (front : List Call) (f : ℕ → List Tree) (x : ℕ)
    (before : TakesAll P Q (front ++ calls_of_each (join_below x f))) where
  pub each_taken : TakesAll Q R (calls_of_each (f x)) → TakesAll P R (front ++ calls_of_each (join_below (x + 1) f))
  each_taken h =
      let next : suc x ≡ x + 1 = omega arith in
      let here = calls_of_each (f x) in
      let joined = append_assoc front (calls_of_each (join_below x f)) here
      ∙ ap (λ cs. front ++ cs) (sym (calls-append (join_below x f) (f x))
      ∙ ap (λ m. calls_of_each (join_below m f)) next) in
      subst (λ whole. TakesAll P R whole) joined
      (step P Q R ((front ++ calls_of_each (join_below x f)) ++ here) here []
      (subst (Takes P Q ((front ++ calls_of_each (join_below x f)) ++ here)) (sym (append-nil here))
      (begins P Q (front ++ calls_of_each (join_below x f)) here before)) h)

  pub some_taken : (n : ℕ) → x < n → TakesSome Q R (calls_of_each (f x))
      → TakesSome P R (front ++ calls_of_each (join_below n f))
  some_taken n lt h =
      let split = below-split n x f lt in
      let here = calls_of_each (f x) in
      let joined = append_assoc front (calls_of_each (join_below x f)) (here ++ split.0)
      ∙ ap (λ cs. front ++ cs) split.1 in
      subst (λ whole. TakesSome P R whole) joined
      (stop P Q R ((front ++ calls_of_each (join_below x f)) ++ (here ++ split.0)) here split.0
      (begins P Q (front ++ calls_of_each (join_below x f)) (here ++ split.0) before) h)
