-- One more piece.
use Rattle.std.proofs.Common.{◌≡◌, ◌+◌, ◌-◌, ◌<◌, ◌≤◌, ℕ, suc, List, ◌++◌, ap, sym, ◌∙◌, append_assoc, arith}
use Rattle.std.proofs.lemmas.List.{append-nil}
use Rattle.rml_sample.specs.Sample.{piece_text, pieces_text}
use Rattle.rml_sample.specs.declared.pushing.Piece.{Piece}

pub one_more : (piece : Piece) (i end : ℕ) (old new whole : List ℕ) → i < end → new ≡ old ++ piece_text piece i
    → old ++ pieces_text piece i (end - i) ≡ whole → new ++ pieces_text piece (i + 1) (end - (i + 1)) ≡ whole
one_more piece i end old new whole lt e h =
    let left : end - i ≡ suc (end - (i + 1)) = omega arith in
    ap (λ t. t ++ pieces_text piece (i + 1) (end - (i + 1))) e
    ∙ append_assoc old (piece_text piece i) (pieces_text piece (i + 1) (end - (i + 1)))
    ∙ sym (ap (λ n. old ++ pieces_text piece i n) left) ∙ h

pub none_left : (piece : Piece) (i end : ℕ) (old whole : List ℕ) → end ≤ i
    → old ++ pieces_text piece i (end - i) ≡ whole → old ≡ whole
none_left piece i end old whole le h =
    let left : end - i ≡ 0 = omega arith in
    sym (append-nil old) ∙ sym (ap (λ n. old ++ pieces_text piece i n) left) ∙ h

pub all_left : (piece : Piece) (from count : ℕ) (old : List ℕ) → old ++ pieces_text piece from (from + count - from)
    ≡ old ++ pieces_text piece from count
all_left piece from count old = let same : from + count - from ≡ count = omega arith in
    ap (λ n. old ++ pieces_text piece from n) same

pub three : (a b c d x y z : List ℕ) → b ≡ a ++ x → c ≡ b ++ y → d ≡ c ++ z → d ≡ a ++ (x ++ y ++ z)
three a b c d x y z e f g =
    g ∙ ap (λ t. t ++ z) f ∙ ap (λ t. (t ++ y) ++ z) e ∙ ap (λ t. t ++ z) (append_assoc a x y)
    ∙ append_assoc a (x ++ y) z
