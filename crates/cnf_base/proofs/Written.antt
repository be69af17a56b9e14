-- A text that is written piece by piece, as far as it came.
use Rattle.std.proofs.Common.{◌≡◌, ℕ, ◌≤◌, List, [], ◌∷◌, ◌++◌, length, get_or, refl, sym, ap, subst, ◌∙◌}
use Rattle.std.proofs.Common.{append_assoc, append-nil, arith}
use Rattle.cnf_base.specs.Writing.{literal_text, literals_text, IsWritten, HasFront}

pub nothing : (old text : List ℕ) → IsWritten old old text text
nothing old text = record { front = []; whole = refl; behind = sym (append-nil old) }

pub none : (old text : List ℕ) → HasFront old old text
none old text = (text, nothing old text)

module _ (old mid text part rest : List ℕ) (w : IsWritten old mid text (part ++ rest)) where
  -- one more piece
  pub further : (new : List ℕ) → new ≡ mid ++ part → IsWritten old new text rest
  further new e = record {
    front = w.front ++ part;
    whole = append_assoc w.front part rest ∙ w.whole;
    behind = e ∙ ap (λ x. x ++ part) w.behind ∙ append_assoc old w.front part;
  }

  -- a piece that is cut off
  pub within : (new : List ℕ) → HasFront mid new part → HasFront old new text
  within new (left, p) = (
    left ++ rest,
    record {
      front = w.front ++ p.front;
      whole =
          append_assoc w.front p.front (left ++ rest)
          ∙ ap (λ x. w.front ++ x) (sym (append_assoc p.front left rest) ∙ ap (λ x. x ++ rest) p.whole) ∙ w.whole;
      behind = p.behind ∙ ap (λ x. x ++ p.front) w.behind ∙ append_assoc old w.front p.front;
    },
  )

-- a literal that is cut off
pub within_literal : (old mid new text rest : List ℕ) (lit : ℕ) → 1 ≤ length rest → lit ≡ get_or rest 0 lit
    → IsWritten old mid text (literals_text rest) → HasFront mid new (literal_text lit) → HasFront old new text
within_literal old mid new text [] lit len is w h = absurd (omega (arith, len))
within_literal old mid new text (l ∷ ls) lit len is w h =
    within old mid text (literal_text l) (32 ∷ literals_text ls) w new
    (subst (λ (x : ℕ). HasFront mid new (literal_text x)) is h)
