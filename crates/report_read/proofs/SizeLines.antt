-- The lines of a structure's sorts.
use Rattle.std.proofs.Common.{◌≡◌, ℕ, zero, suc, ◌+◌, ◌<◌, ◌≤◌, List, [], ◌∷◌, ◌++◌, length, map, All}
use Rattle.std.proofs.Common.{refl, sym, ap, ◌∙◌, arith, append_assoc, append-nil}
use Rattle.std.specs.Prelude.{codes, decimal, slice_index}
use Rattle.std.specs.List.{AllByRecursion}
use Rattle.std.proofs.lemmas.List.Elements.{All-from_recursion}
use Rattle.base.specs.Lists.{count_from}
use Rattle.base.proofs.Lists.{all_more}
use Rattle.rml_command.specs.declared.names.Names.{Names}
use Rattle.rml_report.specs.Words.{name_at, labelled}
use Rattle.rml_report.specs.TableText.{sort_line}
use Rattle.line_scan.specs.Lines.{LinesLeft, first_of}
use Rattle.line_scan.specs.Laws.{ScansAreExact}
use Rattle.report_read.specs.Got.{got, one}
use Rattle.report_read.specs.LineReading.{size_in}
use Rattle.report_read.specs.Reading.{read_sizes}
use Rattle.report_read.proofs.Parts.{Lines, IsPart, IsLine, IsOne, IsBoth, IsNothing, part_as, nothing, one_part}
use Rattle.report_read.proofs.Parts.{both_part}
use Rattle.report_read.proofs.LineLaws.{IsSortLine, size_there, size_sound}

-- a size that may be printed
abbrev pub IsSortSize : ℕ → Type 0
IsSortSize n = (1 ≤ n) × (n ≤ 100000)

-- a line for each sort, from this one on
abbrev pub size_lines : Names → ℕ → List ℕ → Lines
size_lines names k [] = []
size_lines names k (v ∷ vs) = sort_line names k v ∷ size_lines names (suc k) vs

pub record SizesFrom (names : Names) (k n : ℕ) (done xs : List ℕ) (lines : Lines) : Type 0 where
  pub values : List ℕ
  pub count : length values ≡ n
  pub can : AllByRecursion IsSortSize values
  pub all : xs ≡ done ++ values
  pub text : lines ≡ size_lines names k values

-- the same, by the sizes of a structure
mapped_lines : (names : Names) (xs vs : List ℕ) (k : ℕ)
    → ((i : ℕ) → i < length vs → slice_index xs (k + i) ≡ slice_index vs i)
    → map (λ j. sort_line names j (slice_index xs j)) (count_from k (length vs)) ≡ size_lines names k vs
mapped_lines names xs [] k h = refl
mapped_lines names xs (v ∷ vs) k h =
    let z : k ≡ k + 0 = omega arith in
    let first : slice_index xs k ≡ v = ap (slice_index xs) z ∙ h 0 (omega arith) in
    ap (λ n. sort_line names k n
    ∷ map (λ j. sort_line names j (slice_index xs j)) (count_from (suc k) (length vs))) first
    ∙ ap (λ ls. sort_line names k v ∷ ls)
    (mapped_lines names xs vs (suc k)
    (λ i lt. let s : suc k + i ≡ k + suc i = omega arith in ap (slice_index xs) s ∙ h (suc i) (omega arith)))

pub size_lines_are : (names : Names) (vs : List ℕ)
    → map (λ j. sort_line names j (slice_index vs j)) (count_from 0 (length vs)) ≡ size_lines names 0 vs
size_lines_are names vs = mapped_lines names vs vs 0
    (λ i lt. let s : 0 + i ≡ i = omega arith in ap (slice_index vs) s)

module _ (x : ScansAreExact) (names : Names) where
  line_text : (k size : ℕ) → sort_line names k size
      ≡ labelled (codes "    sort ") (name_at names.sorts k) (codes " ") ++ (decimal size ++ codes "\n")
  unfolding sort_line
  line_text k size = append_assoc (labelled (codes "    sort ") (name_at names.sorts k) (codes " ")) (decimal size)
      (codes "\n")

  size_line_is : (k : ℕ) → IsLine (size_in (name_at names.sorts k)) (IsSortLine x (name_at names.sorts k))
  size_line_is k = record {
    there = λ size line is. size_there x (name_at names.sorts k) size line is;
    sound = λ line size e. size_sound x (name_at names.sorts k) size line e;
    empty = refl;
    value = 1;
    line = sort_line names k 1;
    some = record { least = omega arith; most_is = omega arith; text = line_text k 1 };
  }

  abbrev StepOf : ℕ → ℕ → List ℕ → ℕ → List ℕ → Lines → Type 0
  StepOf k n done =
      IsBoth (IsOne (IsSortLine x (name_at names.sorts k)))
      (λ size (_ : ℕ). SizesFrom names (suc k) n (done ++ size ∷ []))

  none_to : (k : ℕ) (done xs : List ℕ) (lines : Lines) → (done ≡ xs) × (lines ≡ [])
      → SizesFrom names k zero done xs lines
  none_to k done xs lines is = record {
    values = [];
    count = refl;
    can = tt;
    all = sym is.0 ∙ sym (append-nil done);
    text = is.1;
  }

  none_values : (vs : List ℕ) → length vs ≡ 0 → vs ≡ []
  none_values [] e = refl
  none_values (v ∷ vs) e = absurd (omega (arith, e))

  none_back : (k : ℕ) (done xs : List ℕ) (lines : Lines) → SizesFrom names k zero done xs lines
      → (done ≡ xs) × (lines ≡ [])
  none_back k done xs lines is =
      let e : is.values ≡ [] = none_values is.values is.count in
      (sym (is.all ∙ ap (λ l. done ++ l) e ∙ append-nil done), is.text ∙ ap (size_lines names k) e)

  step_to : (k n m : ℕ) (done xs : List ℕ) (lines : Lines) → StepOf k n done m xs lines
      → SizesFrom names k (suc n) done xs lines
  step_to k n m done xs lines is =
      let next = is.4 in
      let line = is.3 in
      record {
        values = is.0 ∷ next.values;
        count = ap suc next.count;
        can = ((line.1.least, line.1.most_is), next.can);
        all = next.all ∙ append_assoc done (is.0 ∷ []) next.values;
        text = is.5 ∙ ap (λ l. l ++ is.2) line.2 ∙ ap (λ l. line.0 ∷ l) next.text
            ∙ ap (λ l. l ∷ size_lines names (suc k) next.values) (line.1.text ∙ sym (line_text k is.0));
      }

  step_back : (k n m : ℕ) (done xs : List ℕ) (lines : Lines) → SizesFrom names k (suc n) done xs lines
      → StepOf k n done m xs lines
  step_back k n m done xs lines is = by is.values is.count is.can is.all is.text
    where
      by : (vs : List ℕ) → length vs ≡ suc n → AllByRecursion IsSortSize vs → xs ≡ done ++ vs
          → lines ≡ size_lines names k vs → StepOf k n done m xs lines
      by [] count can all text = absurd (omega (arith, count))
      by (v ∷ vs) count can all text = (
        v,
        sort_line names k v ∷ [],
        size_lines names (suc k) vs,
        (sort_line names k v, record { least = can.0.0; most_is = can.0.1; text = line_text k v }, refl),
        record {
          values = vs;
          count = omega (arith, count);
          can = can.1;
          all = all ∙ sym (append_assoc done (v ∷ []) vs);
          text = refl;
        },
        text,
      )

  pub sizes_part : (n k : ℕ) (done : List ℕ) → IsPart (read_sizes names k n done)
      (λ (_ : ℕ). SizesFrom names k n done)
  sizes_part zero k done =
      part_as (λ l. got done l) (IsNothing done) (λ (_ : ℕ). SizesFrom names k zero done)
      (λ _ xs lines is. none_to k done xs lines is) (λ _ xs lines is. none_back k done xs lines is) (nothing done)
  sizes_part (suc n) k done =
      part_as (read_sizes names k (suc n) done) (StepOf k n done) (λ (_ : ℕ). SizesFrom names k (suc n) done)
      (λ m xs lines is. step_to k n m done xs lines is) (λ m xs lines is. step_back k n m done xs lines is)
      (both_part (λ (l : LinesLeft). one (size_in (name_at names.sorts k) (first_of l.lines)) l)
      (IsOne (IsSortLine x (name_at names.sorts k)))
      (λ size more. read_sizes names (suc k) n (done ++ size ∷ []) more)
      (λ size (_ : ℕ). SizesFrom names (suc k) n (done ++ size ∷ []))
      (one_part (size_in (name_at names.sorts k)) (IsSortLine x (name_at names.sorts k)) (size_line_is k))
      (λ size _ _ _. sizes_part n (suc k) (done ++ size ∷ [])))

-- the sizes are those of some structure
pub positive_sizes : (vs : List ℕ) → AllByRecursion IsSortSize vs → All (λ n. 0 < n) vs
positive_sizes vs all =
    All-from_recursion (λ n. 0 < n) vs (all_more IsSortSize (λ n. 0 < n) (λ n h. omega (arith, h.0)) vs all)

pub few_elements : (vs : List ℕ) → AllByRecursion IsSortSize vs → AllByRecursion (λ n. n ≤ 100000) vs
few_elements vs all = all_more IsSortSize (λ n. n ≤ 100000) (λ n h. h.1) vs all
