-- One turn of each loop.
use Rattle.std.proofs.Common.{◌≡◌, ℕ, suc, ◌+◌, ◌-◌, ◌<◌, Bool, true, false, List, [], ◌∷◌, ◌++◌}
use Rattle.std.proofs.Common.{Option, Some, None, refl, sym, ap, ◌∙◌, arith}
use Rattle.std.specs.Prelude.{slice_index, codes}
use Rattle.fol_sig.specs.Tuples.{tuple_at}
use Rattle.rml_report.specs.TableText.{tuple_text, bare_text}
use Rattle.line_scan.specs.Scanning.{behind}
use Rattle.report_values.specs.ValueReading.{choose, on, tuples_from, tuple_in, truths_end, mapped_at, values_end}
use Rattle.report_values.specs.ValueReading.{element_at, elements_end, values_in, behind_labelled, all_tuples}
use Rattle.report_values.specs.HavocReading.{member_in, members_at}

-- numbers that are left
one_less : (k n : ℕ) → k < n → n - k ≡ suc (n - (k + 1))
one_less k n lt = omega arith

add_one : (k : ℕ) → suc k ≡ k + 1
add_one k = omega arith

pub tuples_step : (sizes ks : List ℕ) (k n : ℕ) → k < n
    → tuples_from sizes ks k (n - k) ≡ tuple_at sizes ks k ∷ tuples_from sizes ks (k + 1) (n - (k + 1))
tuples_step sizes ks k n lt =
    ap (tuples_from sizes ks k) (one_less k n lt)
    ∙ ap (λ j. tuple_at sizes ks k ∷ tuples_from sizes ks j (n - (k + 1))) (add_one k)

abbrev continued : List (List ℕ) → List Bool → Bool × List ℕ → Option (List Bool)
continued ts done t = truths_end ts (done ++ t.0 ∷ []) t.1

truth_step : (xs : List ℕ) (ts : List (List ℕ)) (done : List Bool) (bs : List ℕ)
    → truths_end (xs ∷ ts) done bs ≡ continued ts done (tuple_in xs bs)
truth_step xs ts done bs = by (behind (tuple_text xs) bs)
  where
    by : (o : Option (List ℕ)) → choose o (truths_end ts (done ++ true ∷ [])) (truths_end ts (done ++ false ∷ []) bs)
        ≡ continued ts done (choose o (λ a. (true, a)) (false, bs))
    by None = refl
    by (Some a) = refl

pub truths_turn : (sizes ks : List ℕ) (k n : ℕ) (done : List Bool) (bs xs : List ℕ) (t : Bool × List ℕ)
    (new : List Bool) → k < n → xs ≡ tuple_at sizes ks k → t ≡ tuple_in xs bs → new ≡ done ++ t.0 ∷ []
    → truths_end (tuples_from sizes ks (k + 1) (n - (k + 1))) new t.1
    ≡ truths_end (tuples_from sizes ks k (n - k)) done bs
truths_turn sizes ks k n done bs xs t new lt is found pushed =
    let rest : List (List ℕ) = tuples_from sizes ks (k + 1) (n - (k + 1)) in
    sym (ap (λ ts. truths_end ts done bs) (tuples_step sizes ks k n lt)
    ∙ truth_step (tuple_at sizes ks k) rest done bs
    ∙ ap (λ ys. continued rest done (tuple_in ys bs)) (sym is)
    ∙ ap (continued rest done) (sym found)
    ∙ ap (λ cells. truths_end rest cells t.1) (sym pushed))

pub values_turn : (size : ℕ) (sizes ks : List ℕ) (k n : ℕ) (done bs xs : List ℕ) (v : ℕ) (next new : List ℕ)
    (o : Option (ℕ × List ℕ)) → k < n → xs ≡ tuple_at sizes ks k → o ≡ mapped_at size xs bs → o ≡ Some (v, next)
    → new ≡ done ++ v ∷ []
    → values_end size (tuples_from sizes ks (k + 1) (n - (k + 1))) new next
    ≡ values_end size (tuples_from sizes ks k (n - k)) done bs
values_turn size sizes ks k n done bs xs v next new o lt is told found pushed =
    let rest : List (List ℕ) = tuples_from sizes ks (k + 1) (n - (k + 1)) in
    sym (ap (λ ts. values_end size ts done bs) (tuples_step sizes ks k n lt)
    ∙ ap (λ p. on p (λ (m : ℕ × List ℕ). values_end size rest (done ++ m.0 ∷ []) m.1))
    (ap (λ ys. mapped_at size ys bs) (sym is) ∙ sym told ∙ found)
    ∙ ap (λ cells. values_end size rest cells next) (sym pushed))

abbrev gone_on : List (List ℕ) → List (List ℕ) × List ℕ → Option (List (List ℕ) × List ℕ)
gone_on ts m = members_at ts m.0 m.1

member_step : (xs : List ℕ) (ts done : List (List ℕ)) (bs : List ℕ)
    → members_at (xs ∷ ts) done bs ≡ gone_on ts (member_in xs done bs)
member_step xs ts done bs = by (behind (bare_text xs) bs)
  where
    by : (o : Option (List ℕ)) → choose o (members_at ts (done ++ xs ∷ [])) (members_at ts done bs)
        ≡ gone_on ts (choose o (λ a. (done ++ xs ∷ [], a)) (done, bs))
    by None = refl
    by (Some a) = refl

pub members_turn : (sizes ks : List ℕ) (k n : ℕ) (done : List (List ℕ)) (bs xs : List ℕ)
    (next : List (List ℕ) × List ℕ) → k < n → xs ≡ tuple_at sizes ks k → next ≡ member_in xs done bs
    → members_at (tuples_from sizes ks (k + 1) (n - (k + 1))) next.0 next.1
    ≡ members_at (tuples_from sizes ks k (n - k)) done bs
members_turn sizes ks k n done bs xs next lt is found =
    let rest : List (List ℕ) = tuples_from sizes ks (k + 1) (n - (k + 1)) in
    sym (ap (λ ts. members_at ts done bs) (tuples_step sizes ks k n lt)
    ∙ member_step (tuple_at sizes ks k) rest done bs
    ∙ ap (λ ys. gone_on rest (member_in ys done bs)) (sym is)
    ∙ ap (gone_on rest) (sym found))

-- the cells of a function with arguments
pub values_found : (sizes ks : List ℕ) (size : ℕ) (name line scan : List ℕ) (found : Option (List ℕ))
    → (ks ≡ [] → ⊥) → behind_labelled (codes "    function ") name (codes ":") line ≡ Some scan
    → found ≡ values_end size (all_tuples sizes ks) [] scan → found ≡ values_in sizes ks size name line
values_found sizes [] size name line scan found some label is = absurd (some refl)
values_found sizes (k ∷ ks) size name line scan found some label is =
    is ∙ sym (ap (λ o. on o (values_end size (all_tuples sizes (k ∷ ks)) [])) label)

-- elements of a line
pub elements_turn : (sizes all ks done bs new next : List ℕ) (k v : ℕ) (o : Option (ℕ × List ℕ)) → all ≡ k ∷ ks
    → o ≡ element_at (slice_index sizes k) bs → o ≡ Some (v, next) → new ≡ done ++ v ∷ []
    → elements_end sizes ks new next ≡ elements_end sizes all done bs
elements_turn sizes all ks done bs new next k v o is told found pushed =
    sym (ap (λ l. elements_end sizes l done bs) is
    ∙ ap (λ p. on p (λ (n : ℕ × List ℕ). elements_end sizes ks (done ++ n.0 ∷ []) n.1)) (sym told ∙ found)
    ∙ ap (λ l. elements_end sizes ks l next) (sym pushed))
