-- A text is its lines.
use Rattle.std.proofs.Common.{◌≡◌, ℕ, suc, ◌≤◌, Bool, true, false, List, [], ◌∷◌, ◌++◌, length, refl, sym, ap, ◌∙◌}
use Rattle.std.proofs.Common.{cond, arith}
use Rattle.std.specs.Prelude.{◌==◌}
use Rattle.std.specs.List.{AllByRecursion}
use Rattle.line_scan.specs.Lines.{lines_of, onto}
use Rattle.line_scan.specs.Laws.{join, is_none, is_whole, LinesAreCut}

join_onto : (b : ℕ) (ls : List (List ℕ)) → join (onto b ls) ≡ b ∷ join ls
join_onto b [] = refl
join_onto b (l ∷ ls) = refl

joined : (bs : List ℕ) → join (lines_of bs) ≡ bs
joined [] = refl
joined (b ∷ bs) = by (b == 10) (joined bs)
  where
    by : (t : Bool) → join (lines_of bs) ≡ bs → join (cond t ((b ∷ []) ∷ lines_of bs) (onto b (lines_of bs))) ≡ b ∷ bs
    by true h = ap (λ (l : List ℕ). b ∷ l) h
    by false h = join_onto b (lines_of bs) ∙ ap (λ (l : List ℕ). b ∷ l) h

none : (bs : List ℕ) → is_none bs ≡ true → bs ≡ []
none [] e = refl
none (b ∷ bs) e = absurd (cc e)

-- a whole line in front is the first line
whole_first : (line rest : List ℕ) → is_whole line ≡ true → lines_of (line ++ rest) ≡ line ∷ lines_of rest
whole_first [] rest e = absurd (cc e)
whole_first (b ∷ bs) rest e = by (b == 10) e (whole_first bs rest)
  where
    by : (t : Bool) → cond t (is_none bs) (is_whole bs) ≡ true
        → (is_whole bs ≡ true → lines_of (bs ++ rest) ≡ bs ∷ lines_of rest)
        → cond t ((b ∷ []) ∷ lines_of (bs ++ rest)) (onto b (lines_of (bs ++ rest))) ≡ (b ∷ bs) ∷ lines_of rest
    by true f more =
        let e : bs ≡ [] = none bs f in
        ap (λ (l : List ℕ). (b ∷ []) ∷ lines_of (l ++ rest)) e ∙ ap (λ (l : List ℕ). (b ∷ l) ∷ lines_of rest) (sym e)
    by false f more = ap (onto b) (more f)

cut : (lines : List (List ℕ)) → AllByRecursion (λ line. is_whole line ≡ true) lines → lines_of (join lines) ≡ lines
cut [] all = refl
cut (line ∷ lines) all =
    whole_first line (join lines) all.0 ∙ ap (λ (ls : List (List ℕ)). line ∷ ls) (cut lines all.1)

few_onto : (b n : ℕ) (ls : List (List ℕ)) → length ls ≤ n → length (onto b ls) ≤ suc n
few_onto b n [] le = omega arith
few_onto b n (l ∷ ls) le = omega (arith, le)

few : (bs : List ℕ) → length (lines_of bs) ≤ length bs
few [] = omega arith
few (b ∷ bs) = by (b == 10) (few bs)
  where
    by : (t : Bool) → length (lines_of bs) ≤ length bs
        → length (cond t ((b ∷ []) ∷ lines_of bs) (onto b (lines_of bs))) ≤ suc (length bs)
    by true h = omega (arith, h)
    by false h = few_onto b (length bs) (lines_of bs) h

pub are_cut : LinesAreCut
are_cut = record { joined = joined; cut = cut; few = few }
