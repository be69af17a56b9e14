-- Parts of a report. What stands there is read, what is read stands there, and where the reader halts some part begins
-- with the lines before, and it halts whatever stands behind the line. Some part of each kind there is.
use Rattle.std.proofs.Common.{◌≡◌, ℕ, ◌+◌, List, [], ◌∷◌, ◌++◌, length, Option, Some, None, refl, sym, ap, ◌∙◌, subst}
use Rattle.std.proofs.Common.{arith, append_assoc, length-append}
use Rattle.line_scan.specs.Lines.{first_of, LinesLeft}
use Rattle.report_read.specs.Got.{Got, got, stuck, one, and_then}

abbrev pub Lines : Type 0
Lines = List (List ℕ)

-- these lines, of which the first has the number n
abbrev pub left : ℕ → Lines → LinesLeft
left n lines = record { lines = lines; number = n }

pub record Halts {A : Type 0} (read : LinesLeft → Got A) (Is : ℕ → A → Lines → Type 0) (n : ℕ) (all : Lines)
    (rest : LinesLeft) : Type 0 where
  pub front : Lines
  pub cut : all ≡ front ++ rest.lines
  pub number : rest.number ≡ n + length front
  pub value : A
  pub more : Lines
  pub begun : Is n value (front ++ more)
  pub same : (line : List ℕ) (others next : Lines) → rest.lines ≡ line ∷ others
      → read (left n (front ++ line ∷ next)) ≡ stuck (left rest.number (line ∷ next))

pub record Found {A : Type 0} (Is : ℕ → A → Lines → Type 0) (n : ℕ) (all : Lines) (x : A) (rest : LinesLeft)
    : Type 0 where
  pub front : Lines
  pub is : Is n x front
  pub cut : all ≡ front ++ rest.lines
  pub number : rest.number ≡ n + length front

pub record IsPart {A : Type 0} (read : LinesLeft → Got A) (Is : ℕ → A → Lines → Type 0) : Type 0 where
  pub there : (n : ℕ) (x : A) (lines rest : Lines) → Is n x lines
      → read (left n (lines ++ rest)) ≡ got x (left (n + length lines) rest)
  pub sound : (n : ℕ) (lines : Lines) (x : A) (rest : LinesLeft) → read (left n lines) ≡ got x rest
      → Found Is n lines x rest
  pub halts : (n : ℕ) (lines : Lines) (rest : LinesLeft) → read (left n lines) ≡ stuck rest
      → Halts read Is n lines rest
  pub value : ℕ → A
  pub text : ℕ → Lines
  pub some : (n : ℕ) → Is n (value n) (text n)

-- the same part, said in another way
pub part_as : {A : Type 0} (read : LinesLeft → Got A) (Is As : ℕ → A → Lines → Type 0)
    → ((n : ℕ) (x : A) (lines : Lines) → Is n x lines → As n x lines)
    → ((n : ℕ) (x : A) (lines : Lines) → As n x lines → Is n x lines)
    → IsPart read Is → IsPart read As
part_as read Is As to back part = record {
  there = λ n x lines rest is. part.there n x lines rest (back n x lines is);
  sound = λ n lines x rest e. let f = part.sound n lines x rest e in
      record { front = f.front; is = to n x f.front f.is; cut = f.cut; number = f.number };
  halts = λ n lines rest e. let h = part.halts n lines rest e in
      record {
        front = h.front;
        cut = h.cut;
        number = h.number;
        value = h.value;
        more = h.more;
        begun = to n h.value (h.front ++ h.more) h.begun;
        same = h.same;
      };
  value = part.value;
  text = part.text;
  some = λ n. to n (part.value n) (part.text n) (part.some n);
}

pub got_rest : {A : Type 0} (x y : A) (ls ms : LinesLeft) → got x ls ≡ got y ms → ls ≡ ms
got_rest x y ls ms e = cc e

pub got_value : {A : Type 0} (x y : A) (ls ms : LinesLeft) → got x ls ≡ got y ms → x ≡ y
got_value x y ls ms e = cc e

abbrev pub stuck_at : (A : Type 0) → LinesLeft → Got A
stuck_at A l = stuck l

pub stuck_rest : (A : Type 0) (ls ms : LinesLeft) → stuck_at A ls ≡ stuck_at A ms → ls ≡ ms
stuck_rest A ls ms e = cc e

no_more : (n : ℕ) → n ≡ n + 0
no_more n = omega arith

-- nothing is read
abbrev pub IsNothing : {A : Type 0} → A → ℕ → A → Lines → Type 0
IsNothing x n y lines = (x ≡ y) × (lines ≡ [])

pub nothing : {A : Type 0} (x : A) → IsPart (λ l. got x l) (IsNothing x)
nothing x = record {
  there = λ n y lines rest is.
      ap (λ l. got x (left n (l ++ rest))) is.1 ∙ ap (λ z. got z (left n rest)) is.0
      ∙ ap (λ k. got y (left k rest)) (no_more n ∙ ap (λ (l : Lines). n + length l) (sym is.1));
  sound = λ n lines y rest e. let same : left n lines ≡ rest = got_rest x y (left n lines) rest e in
      record {
        front = [];
        is = (got_value x y (left n lines) rest e, refl);
        cut = ap (λ (l : LinesLeft). l.lines) same;
        number = sym (ap (λ (l : LinesLeft). l.number) same) ∙ no_more n;
      };
  halts = λ n lines rest e. absurd (cc e);
  value = λ n. x;
  text = λ n. [];
  some = λ n. (refl, refl);
}

-- one line
abbrev pub IsOne : {A : Type 0} → (A → List ℕ → Type 0) → ℕ → A → Lines → Type 0
IsOne Is n x lines = (line : List ℕ) × Is x line × (lines ≡ line ∷ [])

pub record IsLine {A : Type 0} (find : List ℕ → Option A) (Is : A → List ℕ → Type 0) : Type 0 where
  pub there : (x : A) (line : List ℕ) → Is x line → find line ≡ Some x
  pub sound : (line : List ℕ) (x : A) → find line ≡ Some x → Is x line
  pub empty : find [] ≡ None
  pub value : A
  pub line : List ℕ
  pub some : Is value line

module _ {A : Type 0} (find : List ℕ → Option A) (Is : A → List ℕ → Type 0) (is_line : IsLine find Is) where
  abbrev read_one : LinesLeft → Got A
  read_one l = one (find (first_of l.lines)) l

  one_there : (n : ℕ) (x : A) (lines rest : Lines) → IsOne Is n x lines
      → read_one (left n (lines ++ rest)) ≡ got x (left (n + length lines) rest)
  one_there n x lines rest is =
      ap (λ l. read_one (left n (l ++ rest))) is.2
      ∙ ap (λ o. one o (left n (is.0 ∷ rest))) (is_line.there x is.0 is.1)
      ∙ ap (λ k. got x (left k rest)) (ap (λ (l : Lines). n + length l) (sym is.2))

  one_sound : (n : ℕ) (lines : Lines) (x : A) (rest : LinesLeft) → read_one (left n lines) ≡ got x rest
      → Found (IsOne Is) n lines x rest
  one_sound n [] x rest e =
      let none : one (find []) (left n []) ≡ stuck (left n []) = ap (λ o. one o (left n [])) is_line.empty in
      absurd (cc (e, none))
  one_sound n (l ∷ ls) x rest e = by (find l) refl e
    where
      by : (o : Option A) → find l ≡ o → one o (left n (l ∷ ls)) ≡ got x rest → Found (IsOne Is) n (l ∷ ls) x rest
      by None is f = absurd (cc f)
      by (Some y) is f =
          let v : y ≡ x = got_value y x (left (n + 1) ls) rest f in
          let r : left (n + 1) ls ≡ rest = got_rest y x (left (n + 1) ls) rest f in
          record {
            front = l ∷ [];
            is = (l, is_line.sound l x (is ∙ ap Some v), refl);
            cut = ap (λ (k : LinesLeft). l ∷ k.lines) r;
            number = sym (ap (λ (k : LinesLeft). k.number) r);
          }

  one_stuck : (o : Option A) (l rest : LinesLeft) → one o l ≡ stuck rest → (o ≡ None) × (l ≡ rest)
  one_stuck None l rest e = (refl, stuck_rest A l rest e)
  one_stuck (Some y) l rest e = absurd (cc e)

  one_halts : (n : ℕ) (lines : Lines) (rest : LinesLeft) → read_one (left n lines) ≡ stuck rest
      → Halts read_one (IsOne Is) n lines rest
  one_halts n lines rest e =
      let s : (find (first_of lines) ≡ None) × (left n lines ≡ rest) =
      one_stuck (find (first_of lines)) (left n lines) rest e in
      let same_lines : lines ≡ rest.lines = ap (λ (l : LinesLeft). l.lines) s.1 in
      let same_number : n ≡ rest.number = ap (λ (l : LinesLeft). l.number) s.1 in
      record {
        front = [];
        cut = same_lines;
        number = sym same_number ∙ no_more n;
        value = is_line.value;
        more = is_line.line ∷ [];
        begun = (is_line.line, is_line.some, refl);
        same = λ line others next is.
            ap (λ o. one o (left n (line ∷ next)))
            (ap (λ (l : Lines). find (first_of l)) (sym is ∙ sym same_lines) ∙ s.0)
            ∙ ap (λ k. stuck (left k (line ∷ next))) same_number;
      }

  pub one_part : IsPart read_one (IsOne Is)
  one_part = record {
    there = one_there;
    sound = one_sound;
    halts = one_halts;
    value = λ n. is_line.value;
    text = λ n. is_line.line ∷ [];
    some = λ n. (is_line.line, is_line.some, refl);
  }

-- one part behind another
abbrev pub IsBoth : {A B : Type 0} → (ℕ → A → Lines → Type 0) → (A → ℕ → B → Lines → Type 0) → ℕ → B → Lines → Type 0
IsBoth {A} Is Next n y lines =
    (x : A) × (front : Lines) × (back : Lines) × Is n x front × Next x (n + length front) y back
    × (lines ≡ front ++ back)

two_lengths : (n : ℕ) (front back : Lines) → (n + length front) + length back ≡ n + length (front ++ back)
two_lengths n front back = omega (arith, length-append front back)

module _ {A B : Type 0} (read : LinesLeft → Got A) (Is : ℕ → A → Lines → Type 0) (next : A → LinesLeft → Got B)
    (Next : A → ℕ → B → Lines → Type 0) (first : IsPart read Is)
    (second : (x : A) (n : ℕ) (front : Lines) → Is n x front → IsPart (next x) (Next x)) where
  abbrev read_both : LinesLeft → Got B
  read_both l = and_then (read l) next

  both_there : (n : ℕ) (y : B) (lines rest : Lines) → IsBoth Is Next n y lines
      → read_both (left n (lines ++ rest)) ≡ got y (left (n + length lines) rest)
  both_there n y lines rest is =
      ap (λ l. read_both (left n (l ++ rest))) is.5
      ∙ ap (λ l. read_both (left n l)) (append_assoc is.1 is.2 rest)
      ∙ ap (λ g. and_then g next) (first.there n is.0 is.1 (is.2 ++ rest) is.3)
      ∙ (second is.0 n is.1 is.3).there (n + length is.1) y is.2 rest is.4
      ∙ ap (λ k. got y (left k rest)) (two_lengths n is.1 is.2 ∙ ap (λ (l : Lines). n + length l) (sym is.5))

  both_sound : (n : ℕ) (lines : Lines) (y : B) (rest : LinesLeft) → read_both (left n lines) ≡ got y rest
      → Found (IsBoth Is Next) n lines y rest
  both_sound n lines y rest e = by (read (left n lines)) refl e
    where
      by : (g : Got A) → read (left n lines) ≡ g → and_then g next ≡ got y rest
          → Found (IsBoth Is Next) n lines y rest
      by (stuck l) is f = absurd (cc f)
      by (got x mid) is f =
          let a = first.sound n lines x mid is in
          let b = (second x n a.front a.is).sound mid.number mid.lines y rest f in
          record {
            front = a.front ++ b.front;
            is = (x, a.front, b.front, a.is, subst (λ k. Next x k y b.front) a.number b.is, refl);
            cut = a.cut ∙ ap (λ l. a.front ++ l) b.cut ∙ sym (append_assoc a.front b.front rest.lines);
            number = b.number ∙ ap (λ k. k + length b.front) a.number ∙ two_lengths n a.front b.front;
          }

  both_halts : (n : ℕ) (lines : Lines) (rest : LinesLeft) → read_both (left n lines) ≡ stuck rest
      → Halts read_both (IsBoth Is Next) n lines rest
  both_halts n lines rest e = by (read (left n lines)) refl e
    where
      by : (g : Got A) → read (left n lines) ≡ g → and_then g next ≡ stuck rest
          → Halts read_both (IsBoth Is Next) n lines rest
      by (stuck l) is f =
          let h = first.halts n lines rest (is ∙ ap (λ r. stuck r) (stuck_rest B l rest f)) in
          let p = second h.value n (h.front ++ h.more) h.begun in
          let k : ℕ = n + length (h.front ++ h.more) in
          record {
            front = h.front;
            cut = h.cut;
            number = h.number;
            value = p.value (n + length (h.front ++ h.more));
            more = h.more ++ p.text (n + length (h.front ++ h.more));
            begun = (
              h.value,
              h.front ++ h.more,
              p.text (n + length (h.front ++ h.more)),
              h.begun,
              p.some (n + length (h.front ++ h.more)),
              sym (append_assoc h.front h.more (p.text (n + length (h.front ++ h.more)))),
            );
            same = λ line others after is_line.
                ap (λ g. and_then g next) (h.same line others after is_line);
          }
      by (got x mid) is f =
          let a = first.sound n lines x mid is in
          let h = (second x n a.front a.is).halts mid.number mid.lines rest f in
          record {
            front = a.front ++ h.front;
            cut = a.cut ∙ ap (λ l. a.front ++ l) h.cut ∙ sym (append_assoc a.front h.front rest.lines);
            number = h.number ∙ ap (λ k. k + length h.front) a.number ∙ two_lengths n a.front h.front;
            value = h.value;
            more = h.more;
            begun = (
              x,
              a.front,
              h.front ++ h.more,
              a.is,
              subst (λ k. Next x k h.value (h.front ++ h.more)) a.number h.begun,
              append_assoc a.front h.front h.more,
            );
            same = λ line others after is_line.
                ap (λ l. read_both (left n l)) (append_assoc a.front h.front (line ∷ after))
                ∙ ap (λ g. and_then g next) (first.there n x a.front (h.front ++ line ∷ after) a.is)
                ∙ ap (λ k. next x (left k (h.front ++ line ∷ after))) (sym a.number)
                ∙ h.same line others after is_line;
          }

  pub both_part : IsPart read_both (IsBoth Is Next)
  both_part = record {
    there = both_there;
    sound = both_sound;
    halts = both_halts;
    value = λ n. (second (first.value n) n (first.text n) (first.some n)).value (n + length (first.text n));
    text = λ n. first.text n
        ++ (second (first.value n) n (first.text n) (first.some n)).text (n + length (first.text n));
    some = λ n. (
      first.value n,
      first.text n,
      (second (first.value n) n (first.text n) (first.some n)).text (n + length (first.text n)),
      first.some n,
      (second (first.value n) n (first.text n) (first.some n)).some (n + length (first.text n)),
      refl,
    );
  }

-- what is made of a part
abbrev pub IsMade : {A B : Type 0} → (ℕ → A → Lines → Type 0) → (ℕ → A → B) → ℕ → B → Lines → Type 0
IsMade {A} Is make n y lines = (x : A) × Is n x lines × (make n x ≡ y)

module _ {A B : Type 0} (read : LinesLeft → Got A) (Is : ℕ → A → Lines → Type 0) (make : ℕ → A → B)
    (part : IsPart read Is) where
  abbrev read_made : LinesLeft → Got B
  read_made l = and_then (read l) (λ x rest. got (make l.number x) rest)

  made_there : (n : ℕ) (y : B) (lines rest : Lines) → IsMade Is make n y lines
      → read_made (left n (lines ++ rest)) ≡ got y (left (n + length lines) rest)
  made_there n y lines rest is =
      ap (λ g. and_then g (λ x r. got (make n x) r)) (part.there n is.0 lines rest is.1)
      ∙ ap (λ z. got z (left (n + length lines) rest)) is.2

  made_sound : (n : ℕ) (lines : Lines) (y : B) (rest : LinesLeft) → read_made (left n lines) ≡ got y rest
      → Found (IsMade Is make) n lines y rest
  made_sound n lines y rest e = by (read (left n lines)) refl e
    where
      by : (g : Got A) → read (left n lines) ≡ g → and_then g (λ x r. got (make n x) r) ≡ got y rest
          → Found (IsMade Is make) n lines y rest
      by (stuck l) is f = absurd (cc f)
      by (got x mid) is f =
          let same : mid ≡ rest = got_rest (make n x) y mid rest f in
          let a = part.sound n lines x rest (is ∙ ap (λ r. got x r) same) in
          record {
            front = a.front;
            is = (x, a.is, got_value (make n x) y mid rest f);
            cut = a.cut;
            number = a.number;
          }

  made_halts : (n : ℕ) (lines : Lines) (rest : LinesLeft) → read_made (left n lines) ≡ stuck rest
      → Halts read_made (IsMade Is make) n lines rest
  made_halts n lines rest e = by (read (left n lines)) refl e
    where
      by : (g : Got A) → read (left n lines) ≡ g → and_then g (λ x r. got (make n x) r) ≡ stuck rest
          → Halts read_made (IsMade Is make) n lines rest
      by (got x mid) is f = absurd (cc f)
      by (stuck l) is f =
          let h = part.halts n lines rest (is ∙ ap (λ r. stuck r) (stuck_rest B l rest f)) in
          record {
            front = h.front;
            cut = h.cut;
            number = h.number;
            value = make n h.value;
            more = h.more;
            begun = (h.value, h.begun, refl);
            same = λ line others next is_line.
                ap (λ g. and_then g (λ x r. got (make n x) r)) (h.same line others next is_line);
          }

  pub made_part : IsPart read_made (IsMade Is make)
  made_part = record {
    there = made_there;
    sound = made_sound;
    halts = made_halts;
    value = λ n. make n (part.value n);
    text = part.text;
    some = λ n. (part.value n, part.some n, refl);
  }
