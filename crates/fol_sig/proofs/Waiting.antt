-- What the passes over the functions and over the sorts keep.
use Rattle.std.proofs.Common.{◌≡◌, ◌≢◌, ℕ, zero, suc, ◌+◌, ◌<◌, ◌≤◌, Bool, true, false, ◌==◌, List, [], ◌∷◌, ◌++◌}
use Rattle.std.proofs.Common.{length, get_or, set, refl, sym, ap, ◌∙◌, subst, arith, ⊎_elim}
use Rattle.std.specs.Prelude.{All}
use Rattle.std.proofs.lemmas.List.{length-set, get_or-set_same, get_or-set_other}
use Rattle.std.proofs.lemmas.Bool.{cases_Bool, cases_eq, cases_lt, or_left, or_right, false≢true, eq-eqb}
use Rattle.fol_sig.specs.Symbols.{Symbols, AreSorted}
use Rattle.fol_sig.specs.Strata.{has, IsOnCycle, with_functions}
use Rattle.fol_sig.specs.Passes.{is_set, IsReady, IsWaiting, AreWaiting, IsSoFar, left_over}
use Rattle.fol_sig.proofs.Orders.{so_far-push, fewer}
use Rattle.fol_sig.proofs.Cycles.{All-has, stuck_cycle, AreStuck}

pub has-at : (ks : List ℕ) (i : ℕ) → i < length ks → has ks (get_or ks i 0) ≡ true
has-at [] i lt = absurd (omega (arith, lt))
has-at (k ∷ ks) zero lt = or_left (k == k) (has ks k) (eq-eqb k k refl)
has-at (k ∷ ks) (suc i) lt = or_right (k == get_or ks i 0) (has ks (get_or ks i 0)) (has-at ks i (omega (arith, lt)))

more_functions : (sig : Symbols) (f : ℕ) (placed : List Bool) (k : ℕ) → IsWaiting (with_functions sig f) placed k
    → IsWaiting (with_functions sig (f + 1)) placed k
more_functions sig f placed k w =
    record {
      function = w.function;
      known = omega (arith, w.known);
      into = w.into;
      sort = w.sort;
      takes = w.takes;
      missing = w.missing;
    }

-- one more function, whose argument sorts are placed
pub waiting-placed : (sig : Symbols) (f : ℕ) (placed waits : List Bool) → AreWaiting (with_functions sig f) placed waits
    → All (λ q. is_set placed q ≡ true) (sig.from_of f) → AreWaiting (with_functions sig (f + 1)) placed waits
waiting-placed sig f placed waits h all = record {
  each = h.each;
  free = λ k e g lt into.
      ⊎_elim
      (λ less. h.free k e g less into)
      (λ no.
      let same : f ≡ g = omega (arith, lt, no) in
      subst (λ m. All (λ q. is_set placed q ≡ true) (sig.from_of m)) same all)
      (cases_lt g f);
  stuck = λ k e. more_functions sig f placed k (h.stuck k e);
}

-- one more function, which takes a sort that is not placed
pub waiting-missing : (sig : Symbols) (f : ℕ) (placed waits : List Bool) (into q : ℕ)
    → AreWaiting (with_functions sig f) placed waits → has (sig.from_of f) q ≡ true → is_set placed q ≡ false
    → into ≡ sig.into_of f → into < sig.sorts → AreWaiting (with_functions sig (f + 1)) placed (set waits into true)
waiting-missing sig f placed waits into q h takes missing is lt =
    let room : into < length waits = subst (λ n. into < n) (sym h.each) lt in
    record {
      each = length-set waits into true ∙ h.each;
      free = λ k e.
          let away : k ≢ into =
          λ same. false≢true (sym e ∙ ap (is_set (set waits into true)) same
          ∙ get_or-set_same waits into true false room) in
          λ g known goes.
          ⊎_elim
          (λ less. h.free k (sym (get_or-set_other waits into k true false away) ∙ e) g less goes)
          (λ no.
          let same : g ≡ f = omega (arith, known, no) in
          absurd (away (sym goes ∙ ap sig.into_of same ∙ sym is)))
          (cases_lt g f);
      stuck = λ k e.
          ⊎_elim
          (λ same. record {
            function = f;
            known = omega arith;
            into = sym is ∙ sym same;
            sort = q;
            takes = takes;
            missing = missing;
          })
          (λ away. more_functions sig f placed k (h.stuck k (sym (get_or-set_other waits into k true false away) ∙ e)))
          (cases_eq k into);
    }

pub ready_still : (sig : Symbols) (old new : List Bool) (k : ℕ) → ((q : ℕ) → is_set old q ≡ true → is_set new q ≡ true)
    → IsReady sig old k → IsReady sig new k
ready_still sig old new k grows h = λ f lf e i d lt. grows (get_or (sig.from_of f) i d) (h f lf e i d lt)

pub grown : (old new : List Bool) (k : ℕ) → k < length new → ((q : ℕ) → is_set old q ≡ true → is_set new q ≡ true)
    → (q : ℕ) → is_set old q ≡ true → is_set (set new k true) q ≡ true
grown old new k lt grows q e =
    ⊎_elim
    (λ is. ap (is_set (set new k true)) is ∙ get_or-set_same new k true false lt)
    (λ away. get_or-set_other new k q true false away ∙ grows q e)
    (cases_eq q k)

-- each sort waits or is placed, and one is not placed
pub stuck_order : (sig : Symbols) (placed waits : List Bool) (u : ℕ) → AreSorted sig → length placed ≡ sig.sorts
    → AreWaiting sig placed waits → ((k : ℕ) → k < length waits → is_set waits k ≡ false → is_set placed k ≡ true)
    → u < length placed → is_set placed u ≡ false → (f : ℕ) × IsOnCycle sig f
stuck_order sig placed waits u sorted each h every lt missing =
    let stuck : AreStuck sig placed = λ k hk.
    let inside : k < length waits = subst (λ n. k < n) (each ∙ sym h.each) hk.0 in
    let w : IsWaiting sig placed k =
    ⊎_elim (λ yes. h.stuck k yes) (λ no. absurd (false≢true (sym hk.1 ∙ every k inside no)))
    (cases_Bool (is_set waits k)) in
    let known : w.sort < length placed =
    subst (λ n. w.sort < n) (sym each)
    (All-has (λ q. q < sig.sorts) (sig.from_of w.function) w.sort (sorted.functions w.function w.known)
    w.takes) in
    (w.sort, (known, w.missing), record { first = w.function; rest = []; walk = (w.known, w.takes, w.into) }) in
    stuck_cycle sig (left_over placed) placed u (omega arith) stuck (lt, missing)

-- the sweep over the sorts, before the sort k
pub record Swept (waits old : List Bool) (before : List ℕ) (now : List Bool) (order : List ℕ) (any : Bool)
    (k : ℕ) : Type 0 where
  pub so_far : (sig : Symbols) → AreWaiting sig old waits → IsSoFar sig old before → IsSoFar sig now order
  pub grows : (q : ℕ) → is_set old q ≡ true → is_set now q ≡ true
  pub each : length now ≡ length waits
  pub fewer_left : left_over now ≤ left_over old
  pub some : any ≡ true → left_over now < left_over old
  pub none : any ≡ false → (now ≡ old) × ((q : ℕ) → q < k → is_set waits q ≡ false → is_set now q ≡ true)

pub swept-none : (waits old : List Bool) (before : List ℕ) → length waits ≡ length old
    → Swept waits old before old before false 0
swept-none waits old before each = record {
  so_far = λ sig w h. h;
  grows = λ q e. e;
  each = sym each;
  fewer_left = omega arith;
  some = λ e. absurd (false≢true e);
  none = λ e. (refl, λ q lt. absurd (omega (arith, lt)));
}

pub swept-skip : (waits old : List Bool) (before : List ℕ) (now : List Bool) (order : List ℕ) (any : Bool) (k : ℕ)
    → Swept waits old before now order any k → (is_set waits k ≡ false → is_set now k ≡ true)
    → Swept waits old before now order any (k + 1)
swept-skip waits old before now order any k h skip = record {
  so_far = h.so_far;
  grows = h.grows;
  each = h.each;
  fewer_left = h.fewer_left;
  some = h.some;
  none = λ e. (
    (h.none e).0,
    λ q lt no.
        ⊎_elim
        (λ less. (h.none e).1 q less no)
        (λ last.
        let same : k ≡ q = omega (arith, lt, last) in
        subst (λ m. is_set waits m ≡ false → is_set now m ≡ true) same skip no)
        (cases_lt q k),
  );
}

pub swept-place : (waits old : List Bool) (before : List ℕ) (now : List Bool) (order order' : List ℕ) (any : Bool)
    (k : ℕ) → Swept waits old before now order any k → k < length waits → is_set waits k ≡ false → is_set now k ≡ false
    → order' ≡ order ++ k ∷ [] → Swept waits old before (set now k true) order' true (k + 1)
swept-place waits old before now order order' any k h lt free new pushed =
    let room : k < length now = subst (λ n. k < n) (sym h.each) lt in
    let less : left_over (set now k true) < left_over now = fewer now k room new in
    record {
      so_far = λ sig w s.
          let known : k < sig.sorts = subst (λ n. k < n) w.each lt in
          so_far-push sig now (set now k true) order order' k (h.so_far sig w s) known new
          (ready_still sig old now k h.grows (w.free k free)) refl pushed;
      grows = grown old now k room h.grows;
      each = length-set now k true ∙ h.each;
      fewer_left = omega (arith, less, h.fewer_left);
      some = λ e. omega (arith, less, h.fewer_left);
      none = λ e. absurd (false≢true (sym e));
    }

-- fewer functions are sorted too
pub sorted-first : (sig : Symbols) (n : ℕ) → n ≤ sig.functions → AreSorted sig → AreSorted (with_functions sig n)
sorted-first sig n le h = record {
  relations = h.relations;
  functions = λ f lt. h.functions f (omega (arith, lt, le));
  into = λ f lt. h.into f (omega (arith, lt, le));
  relations_short = h.relations_short;
  functions_short = λ f lt. h.functions_short f (omega (arith, lt, le));
}
