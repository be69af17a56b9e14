-- The words that are found byte by byte are the words of the lines.
use Rattle.std.proofs.Common.{◌≡◌, ℕ, ◌+◌, Bool, true, false, not, List, [], ◌∷◌, ◌++◌, take, refl, sym, ◌∙◌, ap}
use Rattle.std.proofs.Common.{cond, subst, arith}
use Rattle.std.specs.Prelude.{◌==◌, map}
use Rattle.std.specs.List.{prefix_len}
use Rattle.std.proofs.lemmas.Bool.{eqb-true}
use Rattle.std.proofs.lemmas.Grind.{common_steps}
use Rattle.cnf_base.specs.declared.text.LineMode.TheVariants.{LineStart, InLine, InWord, Comment}
use Rattle.cnf_base.specs.Words.{Byte, Word, placed, onto, cut, as_words, words_in, words_of}
use Rattle.base.specs.Bytes.{is_blank}
use Rattle.cnf_base.specs.Modes.{behind, word_of, words_from}
use Rattle.cnf_base.proofs.Scanning.{inside}

-- the first piece, and the others
abbrev head_of : List (List Byte) → List Byte
head_of [] = []
head_of (p ∷ ps) = p

abbrev tail_of : List (List Byte) → List (List Byte)
tail_of [] = []
tail_of (p ∷ ps) = ps

onto_is : (b : Byte) (ps : List (List Byte)) → onto b ps ≡ (b ∷ head_of ps) ∷ tail_of ps
onto_is b [] = refl
onto_is b (p ∷ ps) = refl

cut_is : (is_end : ℕ → Bool) (bs : List Byte) → cut is_end bs ≡ head_of (cut is_end bs) ∷ tail_of (cut is_end bs)
cut_is is_end [] = refl
cut_is is_end (b ∷ bs) = by (is_end b.byte)
  where
    by : (c : Bool) → cond c ([] ∷ cut is_end bs) (onto b (cut is_end bs))
        ≡ head_of (cond c ([] ∷ cut is_end bs) (onto b (cut is_end bs))) ∷ tail_of
        (cond c ([] ∷ cut is_end bs) (onto b (cut is_end bs)))
    by true = refl
    by false = onto_is b (cut is_end bs)
        ∙ (λ i. head_of (sym (onto_is b (cut is_end bs)) i) ∷ tail_of (sym (onto_is b (cut is_end bs)) i))

cut_on : (is_end : ℕ → Bool) (b : Byte) (bs : List Byte) → is_end b.byte ≡ false
    → cut is_end (b ∷ bs) ≡ (b ∷ head_of (cut is_end bs)) ∷ tail_of (cut is_end bs)
cut_on is_end b bs e = ap (λ c. cond c ([] ∷ cut is_end bs) (onto b (cut is_end bs))) e ∙ onto_is b (cut is_end bs)

abbrev is_feed : ℕ → Bool
is_feed b = b == 10

abbrev lines_at : ℕ → List ℕ → List (List Byte)
lines_at at bytes = cut is_feed (placed at bytes)

abbrev first_words : ℕ → List ℕ → List (List Byte)
first_words at bytes = cut is_blank (head_of (lines_at at bytes))

abbrev texts : List Byte → List ℕ
texts bs = map (λ (x : Byte). x.byte) bs

-- what each mode finds in the bytes of a text, by its lines
record Found (at : ℕ) (bytes : List ℕ) : Type 0 where
  front : word_of bytes ≡ texts (head_of (first_words at bytes))
  in_word : words_from InWord at bytes ≡ as_words (tail_of (first_words at bytes)) ++ words_in (tail_of
      (lines_at at bytes))
  in_line : words_from InLine at bytes ≡ as_words (first_words at bytes) ++ words_in (tail_of (lines_at at bytes))
  comment : words_from Comment at bytes ≡ words_in (tail_of (lines_at at bytes))
  start : words_from LineStart at bytes ≡ words_in (lines_at at bytes)

found_none : (at : ℕ) → Found at []
found_none at = record { front = refl; in_word = refl; in_line = refl; comment = refl; start = refl }

found_feed : (at : ℕ) (bytes : List ℕ) → Found (at + 1) bytes → Found at (10 ∷ bytes)
found_feed at bytes f = record
    { front = refl; in_word = f.start; in_line = f.start; comment = f.start; start = f.start }

-- a byte that ends no line
module _ (at b : ℕ) (bytes : List ℕ) (stays : is_feed b ≡ false) where
  abbrev here : Byte
  here = record { at = at; byte = b }

  lines_on : lines_at at (b ∷ bytes) ≡ (here ∷ head_of (lines_at (at + 1) bytes)) ∷ tail_of (lines_at (at + 1) bytes)
  lines_on = cut_on is_feed here (placed (at + 1) bytes) stays

  others_on : tail_of (lines_at at (b ∷ bytes)) ≡ tail_of (lines_at (at + 1) bytes)
  others_on = ap tail_of lines_on

  pieces_on : first_words at (b ∷ bytes) ≡ cut is_blank (here ∷ head_of (lines_at (at + 1) bytes))
  pieces_on = ap (λ ls. cut is_blank (head_of ls)) lines_on

  comment_on : Found (at + 1) bytes → words_from Comment at (b ∷ bytes) ≡ words_in (tail_of (lines_at at (b ∷ bytes)))
  comment_on f = ap (λ c. words_from (cond c LineStart Comment) (at + 1) bytes) stays ∙ f.comment
      ∙ ap words_in (sym others_on)

  abbrev starts : Bool → List Word
  starts c = cond c [] (as_words (cut is_blank (here ∷ head_of (lines_at (at + 1) bytes)))) ++ words_in
      (tail_of (lines_at (at + 1) bytes))

  start_on : (b == 99) ≡ false → words_from InLine at (b ∷ bytes)
      ≡ as_words (first_words at (b ∷ bytes)) ++ words_in (tail_of (lines_at at (b ∷ bytes)))
      → words_from LineStart at (b ∷ bytes) ≡ words_in (lines_at at (b ∷ bytes))
  start_on other f =
      ap (λ c. cond (cond c false (not (is_blank b)))
      (record { at = at; text = word_of (b ∷ bytes) } ∷ words_from (cond c Comment (behind b)) (at + 1) bytes)
      (words_from (cond c Comment (behind b)) (at + 1) bytes)) other
      ∙ f ∙ (λ i. as_words (pieces_on i) ++ words_in (others_on i)) ∙ ap starts (sym other) ∙ ap words_in (sym lines_on)

  -- a byte of a word
  module _ (solid : is_blank b ≡ false) where
    rest_pieces : cut is_blank (here ∷ head_of (lines_at (at + 1) bytes))
        ≡ (here ∷ head_of (first_words (at + 1) bytes)) ∷ tail_of (first_words (at + 1) bytes)
    rest_pieces = cut_on is_blank here (head_of (lines_at (at + 1) bytes)) solid

    words_on : first_words at (b ∷ bytes)
        ≡ (here ∷ head_of (first_words (at + 1) bytes)) ∷ tail_of (first_words (at + 1) bytes)
    words_on = pieces_on ∙ rest_pieces

    front_on : word_of bytes ≡ texts (head_of (first_words (at + 1) bytes))
        → word_of (b ∷ bytes) ≡ b ∷ texts (head_of (first_words (at + 1) bytes))
    front_on e =
        let longer : word_of (b ∷ bytes) ≡ b ∷ word_of bytes =
        ap (λ c. take (cond (not c) (1 + prefix_len (λ x. not (is_blank x)) bytes) 0) (b ∷ bytes)) solid
        ∙ grind (arith, common_steps) in
        longer ∙ ap (λ (t : List ℕ). b ∷ t) e

    in_word_on : Found (at + 1) bytes → words_from InWord at (b ∷ bytes)
        ≡ as_words (tail_of (first_words at (b ∷ bytes))) ++ words_in (tail_of (lines_at at (b ∷ bytes)))
    in_word_on f =
        ap (λ m. words_from m (at + 1) bytes) (inside b solid) ∙ f.in_word
        ∙ (λ i. as_words (tail_of (sym words_on i)) ++ words_in (sym others_on i))

    in_line_on : Found (at + 1) bytes → words_from InLine at (b ∷ bytes)
        ≡ as_words (first_words at (b ∷ bytes)) ++ words_in (tail_of (lines_at at (b ∷ bytes)))
    in_line_on f =
        let w : Word = record { at = at; text = word_of (b ∷ bytes) } in
        ap (λ c. cond (not c) (w ∷ words_from (behind b) (at + 1) bytes) (words_from (behind b) (at + 1) bytes)) solid
        ∙ ap (λ m. w ∷ words_from m (at + 1) bytes) (inside b solid)
        ∙ (λ i. record { at = at; text = front_on f.front i } ∷ f.in_word i)
        ∙ (λ i. as_words (sym words_on i) ++ words_in (sym others_on i))

    found_solid : (b == 99) ≡ false → Found (at + 1) bytes → Found at (b ∷ bytes)
    found_solid other f = record {
      front = front_on f.front ∙ ap (λ ps. texts (head_of ps)) (sym words_on);
      in_word = in_word_on f;
      in_line = in_line_on f;
      comment = comment_on f;
      start = start_on other (in_line_on f);
    }

  -- a blank
  module _ (blank : is_blank b ≡ true) where
    apart : first_words at (b ∷ bytes) ≡ [] ∷ first_words (at + 1) bytes
    apart = pieces_on ∙ ap (λ c. cond c ([] ∷ first_words (at + 1) bytes)
        (onto here (first_words (at + 1) bytes))) blank

    between : behind b ≡ InLine
    between = ap (λ c. cond c LineStart (cond (is_blank b) InLine InWord)) stays ∙ ap (λ c. cond c InLine InWord) blank

    in_line_apart : Found (at + 1) bytes → words_from InLine at (b ∷ bytes)
        ≡ as_words (first_words at (b ∷ bytes)) ++ words_in (tail_of (lines_at at (b ∷ bytes)))
    in_line_apart f =
        let w : Word = record { at = at; text = word_of (b ∷ bytes) } in
        ap (λ c. cond (not c) (w ∷ words_from (behind b) (at + 1) bytes) (words_from (behind b) (at + 1) bytes)) blank
        ∙ ap (λ m. words_from m (at + 1) bytes) between ∙ f.in_line
        ∙ (λ i. as_words (sym apart i) ++ words_in (sym others_on i))

    found_blank : (b == 99) ≡ false → Found (at + 1) bytes → Found at (b ∷ bytes)
    found_blank other f = record {
      front = ap (λ c. take (cond (not c) (1 + prefix_len (λ x. not (is_blank x)) bytes) 0) (b ∷ bytes)) blank
          ∙ ap (λ ps. texts (head_of ps)) (sym apart);
      in_word = ap (λ m. words_from m (at + 1) bytes) between ∙ f.in_line
          ∙ (λ i. as_words (tail_of (sym apart i)) ++ words_in (sym others_on i));
      in_line = in_line_apart f;
      comment = comment_on f;
      start = start_on other (in_line_apart f);
    }

found_c : (at : ℕ) (bytes : List ℕ) → Found (at + 1) bytes → Found at (99 ∷ bytes)
found_c at bytes f = record {
  front = front_on at 99 bytes refl refl f.front ∙ ap (λ ps. texts (head_of ps)) (sym (words_on at 99 bytes refl refl));
  in_word = in_word_on at 99 bytes refl refl f;
  in_line = in_line_on at 99 bytes refl refl f;
  comment = comment_on at 99 bytes refl f;
  start = f.comment ∙ ap words_in (sym (lines_on at 99 bytes refl));
}

found_more : (at b : ℕ) (bytes : List ℕ) → Found (at + 1) bytes → Found at (b ∷ bytes)
found_more at b bytes f = by (b == 10) (b == 99) (is_blank b) refl refl refl
  where
    by : (feed c blank : Bool) → (b == 10) ≡ feed → (b == 99) ≡ c → is_blank b ≡ blank → Found at (b ∷ bytes)
    by true c blank e g h = subst (λ (x : ℕ). Found at (x ∷ bytes)) (sym (eqb-true b 10 e)) (found_feed at bytes f)
    by false true blank e g h = subst (λ (x : ℕ). Found at (x ∷ bytes)) (sym (eqb-true b 99 g)) (found_c at bytes f)
    by false false true e g h = found_blank at b bytes e h g f
    by false false false e g h = found_solid at b bytes e h g f

found : (bytes : List ℕ) (at : ℕ) → Found at bytes
found [] at = found_none at
found (b ∷ bytes) at = found_more at b bytes (found bytes (at + 1))

pub words_are : (text : List ℕ) → words_from LineStart 0 text ≡ words_of text
unfolding words_of
words_are text = (found text 0).start
