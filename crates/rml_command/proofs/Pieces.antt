-- Numbered lists, one behind the other.
use Rattle.std.proofs.Common.{◌≡◌, ◌<◌, ◌≤◌, ◌+◌, ◌-◌, ℕ, suc, List, [], ◌∷◌, ◌++◌, sym, ap, ◌∙◌, append_assoc, arith}
use Rattle.base.specs.Lists.{count_from}

-- what the numbers from k on to n make, where each makes a piece
pub next_piece : {B : Type 0} (F : List ℕ → List B) (k n : ℕ) (piece old new whole : List B) → k < n
    → ((ks : List ℕ) → F (k ∷ ks) ≡ piece ++ F ks) → new ≡ old ++ piece → old ++ F (count_from k (n - k)) ≡ whole
    → new ++ F (count_from (k + 1) (n - (k + 1))) ≡ whole
next_piece F k n piece old new whole lt turn e h =
    let left : n - k ≡ suc (n - (k + 1)) = omega arith in
    let next : suc k ≡ k + 1 = omega arith in
    let rest = F (count_from (k + 1) (n - (k + 1))) in
    ap (λ (l : List _). l ++ F (count_from (k + 1) (n - (k + 1)))) e
    ∙ append_assoc old piece (F (count_from (k + 1) (n - (k + 1))))
    ∙ ap (λ (l : List _). old ++ l) (sym (turn (count_from (k + 1) (n - (k + 1)))))
    ∙ ap (λ (i : ℕ). old ++ F (k ∷ count_from i (n - (k + 1)))) (sym next)
    ∙ ap (λ (i : ℕ). old ++ F (count_from k i)) (sym left) ∙ h

pub no_piece : {B : Type 0} (F : List ℕ → List B) (k n : ℕ) (old whole : List B) → n ≤ k
    → old ++ F (count_from k (n - k)) ≡ whole → old ++ F [] ≡ whole
no_piece F k n old whole le h =
    let none : n - k ≡ 0 = omega arith in ap (λ (i : ℕ). old ++ F (count_from k i)) (sym none) ∙ h
