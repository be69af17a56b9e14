-- One word, and the words behind it.
use Rattle.std.proofs.Common.{◌≡◌, ℕ, ◌+◌, ◌<◌, ◌||◌, Bool, true, false, not, List, [], ◌∷◌, refl, sym, ◌∙◌, ap, cond}
use Rattle.std.proofs.Common.{drop, arith}
use Rattle.std.specs.Prelude.{◌==◌}
use Rattle.std.specs.List.{prefix_len}
use Rattle.std.proofs.lemmas.Bool.{or_parts}
use Rattle.std.proofs.lemmas.Grind.{common_steps}
use Rattle.cnf_base.specs.declared.text.LineMode.{LineMode}
use Rattle.cnf_base.specs.declared.text.LineMode.TheVariants.{LineStart, InLine, InWord, Comment}
use Rattle.cnf_base.specs.Words.{Word}
use Rattle.base.specs.Bytes.{is_blank}
use Rattle.cnf_base.specs.Modes.{behind, next_mode, begins_word, word_of, words_from}
use Rattle.cnf_base.specs.Starts.{IsAtStart}

pub inside : (b : ℕ) → is_blank b ≡ false → behind b ≡ InWord
inside b h =
    ap (λ x. cond x LineStart (cond (is_blank b) InLine InWord))
    (or_parts ((b == 32) || (b == 9) || (b == 13)) (b == 10) h).1 ∙ ap (λ x. cond x InLine InWord) h

-- a byte that begins a word is no blank
solid_start : (mode : LineMode) (b : ℕ) → begins_word mode b ≡ true → (is_blank b ≡ false) × (next_mode mode b ≡ InWord)
solid_start LineStart b h = at (b == 99) (is_blank b) refl h (inside b)
  where
    at : (c d : Bool) → is_blank b ≡ d → cond c false (not d) ≡ true → (is_blank b ≡ false → behind b ≡ InWord)
        → (is_blank b ≡ false) × (cond c Comment (behind b) ≡ InWord)
    at true d e h i = absurd (cc)
    at false true e h i = absurd (cc)
    at false false e h i = (e, i e)
solid_start InLine b h = at (is_blank b) refl h (inside b)
  where
    at : (d : Bool) → is_blank b ≡ d → not d ≡ true → (is_blank b ≡ false → behind b ≡ InWord)
        → (is_blank b ≡ false) × (behind b ≡ InWord)
    at true e h i = absurd (cc)
    at false e h i = (e, i e)
solid_start InWord b h = absurd (cc)
solid_start Comment b h = absurd (cc)

-- from within a word to its end
abbrev pub word_len : List ℕ → ℕ
word_len bytes = prefix_len (λ b. not (is_blank b)) bytes

pub through : (bytes : List ℕ) (at : ℕ) → words_from InWord at bytes
    ≡ words_from InWord (at + word_len bytes) (drop (word_len bytes) bytes)
through [] at = let e : at ≡ at + 0 = omega arith in ap (λ k. words_from InWord k []) e
through (b ∷ bytes) at = by (is_blank b) refl (through bytes (at + 1))
  where
    by : (d : Bool) → is_blank b ≡ d → words_from InWord (at + 1) bytes
        ≡ words_from InWord (at + 1 + word_len bytes) (drop (word_len bytes) bytes)
        → words_from (behind b) (at + 1) bytes
        ≡ words_from InWord (at + cond (not d) (1 + word_len bytes) 0)
        (drop (cond (not d) (1 + word_len bytes) 0) (b ∷ bytes))
    by true e r = let p : at ≡ at + 0 = omega arith in ap (λ k. words_from (behind b) (k + 1) bytes) p
    by false e r =
        let place : at + 1 + word_len bytes ≡ at + (1 + word_len bytes) = omega arith in
        let left : drop (word_len bytes) bytes ≡ drop (1 + word_len bytes) (b ∷ bytes) = grind (arith, common_steps) in
        ap (λ m. words_from m (at + 1) bytes) (inside b e) ∙ r ∙ (λ i. words_from InWord (place i) (left i))

-- where a word begins it is the first
pub first_word : (mode : LineMode) (at : ℕ) (bytes : List ℕ) → IsAtStart mode bytes → 0 < word_len bytes
    → words_from mode at bytes ≡ record { at = at; text = word_of bytes } ∷ words_from InWord (at + word_len bytes)
    (drop (word_len bytes) bytes)
first_word mode at [] s h = absurd (omega arith)
first_word mode at (b ∷ bytes) s h =
    let f = solid_start mode b s in
    let w : Word = record { at = at; text = word_of (b ∷ bytes) } in
    let goes : words_from InWord at (b ∷ bytes) ≡ words_from (behind b) (at + 1) bytes = refl in
    ap (λ x. cond x (w ∷ words_from (next_mode mode b) (at + 1) bytes) (words_from (next_mode mode b) (at + 1) bytes)) s
    ∙ ap (λ m. w ∷ words_from m (at + 1) bytes) (f.1 ∙ sym (inside b f.0))
    ∙ ap (λ ws. w ∷ ws) (through (b ∷ bytes) at)

-- where none begins, nothing is left
pub no_word : (mode : LineMode) (at : ℕ) (bytes : List ℕ) → IsAtStart mode bytes → word_len bytes ≡ 0
    → words_from mode at bytes ≡ []
no_word mode at [] s h = refl
no_word mode at (b ∷ bytes) s h =
    let f = solid_start mode b s in
    let e : cond (not (is_blank b)) (1 + word_len bytes) 0
    ≡ 1 + word_len bytes = ap (λ x. cond (not x) (1 + word_len bytes) 0) f.0 in
    absurd (omega (arith, e, h))
