-- What is read has its numbers in range, and the ids of its additions increase.
use Rattle.std.proofs.Common.{◌≡◌, ℕ, ◌<◌, ◌≤◌, Bool, true, false, List, [], ◌∷◌, ◌++◌, Option, Some, None, Result}
use Rattle.std.proofs.Common.{Ok, Err, length, refl, sym, ◌∙◌, ap, subst, cond, arith}
use Rattle.std.specs.Prelude.{◌==◌, not, nat_lt, nat_le, codes}
use Rattle.std.specs.Str.{bytes_eq}
use Rattle.std.specs.Result.{IfOk}
use Rattle.base.specs.declared.refused.Refused.{Refused}
use Rattle.base.specs.declared.refused.Refused.TheVariants.{For, NoMemory}
use Rattle.cnf_base.specs.Answers.{Fails, Answers}
use Rattle.std.proofs.lemmas.Bool.{ltb-false, leb-false, eqb-false}
use Rattle.cnf_base.specs.declared.text.Numeral.{Numeral}
use Rattle.cnf_base.specs.Literals.{literal_of, variable_of, IsLiteral, AreLiterals}
use Rattle.cnf_base.specs.Words.{Word, words_of}
use Rattle.cnf_base.specs.Numerals.{number_of}
use Rattle.lrat_log.specs.declared.line.Line.{Line}
use Rattle.lrat_log.specs.declared.line.Line.TheVariants.{Add, Delete}
use Rattle.lrat_log.specs.declared.text.Stage.{Stage}
use Rattle.lrat_log.specs.declared.text.Stage.TheVariants.{Id, Second, Literals, Hints, Deleted}
use Rattle.lrat_log.specs.declared.text.LogFault.{LogFault}
use Rattle.lrat_log.specs.Accepted.{last_id}
use Rattle.lrat_log.specs.Logs.{IsId, AreIds, IsLineOver, IsLogOver}
use Rattle.lrat_log.specs.WordByWord.{State, at_start, take_id, take_literal, take_second, take_hint, take_deleted}
use Rattle.lrat_log.specs.WordByWord.{take_at, take_word, with_addition, with_deletion, ended, ended_at, and_then}
use Rattle.lrat_log.specs.WordByWord.{read_words, read_by_words}
use Rattle.lrat_log.proofs.Growth.{last_id-push}

-- each number that is read is at most 2147483647
abbrev pub IsSmall : Option Numeral → Type 0
IsSmall o = (n : Numeral) → o ≡ Some n → n.value ≤ 2147483647

abbrev pub AreSmall : Type 0
AreSmall = (text : List ℕ) (n : Numeral) → number_of text ≡ Some n → n.value ≤ 2147483647

push_literal : (m : ℕ) (xs : List ℕ) (l : ℕ) → AreLiterals m xs → IsLiteral m l → AreLiterals m (xs ++ l ∷ [])
push_literal m [] l p q = (q, tt)
push_literal m (x ∷ xs) l p q = (p.0, push_literal m xs l p.1 q)

push_id : (xs : List ℕ) (n : ℕ) → AreIds xs → IsId n → AreIds (xs ++ n ∷ [])
push_id [] n p q = (q, tt)
push_id (x ∷ xs) n p q = (p.0, push_id xs n p.1 q)

push_line : (m last : ℕ) (lines : List Line) (line : Line) → IsLogOver m last lines
    → IsLineOver m (last_id last lines) line → IsLogOver m last (lines ++ line ∷ [])
push_line m last [] line p q = (q, tt)
push_line m last (Add id ls hints ∷ lines) line p q = (p.0, push_line m id lines line p.1 q)
push_line m last (Delete id ids ∷ lines) line p q = (p.0, push_line m last lines line p.1 q)

variable_of-literal_of : (s : Bool) (n : ℕ) → variable_of (literal_of s n) ≡ n
variable_of-literal_of true n = omega arith
variable_of-literal_of false n = omega arith

a_literal : (m n : ℕ) (s : Bool) → 0 < n → n ≤ m → IsLiteral m (literal_of s n)
a_literal m n s h g = subst (λ (v : ℕ). (0 < v) × (v ≤ m)) (sym (variable_of-literal_of s n)) (h, g)

positive : (n : ℕ) → (n == 0) ≡ false → 0 < n
positive n e = let h = eqb-false n 0 e in omega (arith, h)

-- For a bound m on the variables of the literals and a number `first` that the ids are above.
module _ (variables m first : ℕ) (bound : (n : ℕ) → n ≤ variables → n ≤ 2147483647 → n ≤ m) where
  -- what is known of the line that is being read
  abbrev PartAt : Stage → State → Type 0
  PartAt Id s = Unit {0}
  PartAt Second s = IsId s.id
  PartAt Literals s = IsId s.id × (s.last < s.id)
  PartAt Hints s = IsId s.id × (s.last < s.id)
  PartAt Deleted s = IsId s.id

  record Whole (s : State) : Type 0 where
    same : s.variables ≡ variables
    log : IsLogOver m first s.lines
    past : last_id first s.lines ≤ s.last
    lits : AreLiterals m s.lits
    ids : AreIds s.ids

  abbrev Fine : State → Type 0
  Fine s = Whole s × PartAt s.stage s

  abbrev FineResult : Result State LogFault → Type 0
  FineResult (Ok s) = Fine s
  FineResult (Err f) = Unit {0}

  fine_cond : (b : Bool) (x y : Result State LogFault) → (b ≡ true → FineResult x) → (b ≡ false → FineResult y)
      → FineResult (cond b x y)
  fine_cond true x y p q = p refl
  fine_cond false x y p q = q refl

  fine_id : (s : State) (o : Option Numeral) (at : ℕ) → IsSmall o → Whole s → FineResult (take_id s o at)
  fine_id s None at h w = tt
  fine_id s (Some n) at h w =
      fine_cond n.negative _ _ (λ _. tt) (λ _.
      fine_cond (n.value == 0) _ _ (λ _. tt) (λ some. (
        record { same = w.same; log = w.log; past = w.past; lits = w.lits; ids = w.ids },
        (positive n.value some, h n refl),
      )))

  fine_literal : (s : State) (o : Option Numeral) (at : ℕ) → IsSmall o → Whole s → IsId s.id → s.last < s.id
      → FineResult (take_literal s o at)
  fine_literal s None at h w i l = tt
  fine_literal s (Some n) at h w i l =
      fine_cond (nat_lt s.variables n.value) _ _ (λ _. tt) (λ within.
      fine_cond (n.value == 0) _ _
      (λ _. (record { same = w.same; log = w.log; past = w.past; lits = w.lits; ids = w.ids }, (i, l)))
      (λ some.
      let le : n.value ≤ variables = rw w.same at (ltb-false s.variables n.value within) in (
        record {
          same = w.same;
          log = w.log;
          past = w.past;
          lits = push_literal m s.lits (literal_of (not n.negative) n.value) w.lits
              (a_literal m n.value (not n.negative) (positive n.value some) (bound n.value le (h n refl)));
          ids = w.ids;
        },
        (i, l),
      )))

  fine_second : (s : State) (w : Word) → AreSmall → Whole s → IsId s.id → FineResult (take_second s w)
  fine_second s w h f i =
      fine_cond (bytes_eq w.text (codes "d")) _ _
      (λ _. (record { same = f.same; log = f.log; past = f.past; lits = f.lits; ids = f.ids }, i)) (λ _.
      fine_cond (nat_le s.id s.last) _ _ (λ _. tt) (λ above.
      fine_literal s (number_of w.text) w.at (h w.text) f i (leb-false s.id s.last above)))

  more_ids : (s : State) (n : ℕ) → Whole s → 0 < n → n ≤ 2147483647 → Whole (record s { ids = s.ids ++ n ∷ [] })
  more_ids s n w p q = record {
    same = w.same;
    log = w.log;
    past = w.past;
    lits = w.lits;
    ids = push_id s.ids n w.ids
        (p, q);
  }

  with_addition_whole : (s : State) → Whole s → IsId s.id → s.last < s.id → Whole (with_addition s)
  with_addition_whole s w i l =
      let past = w.past in
      let above : last_id first s.lines < s.id = omega arith in
      let e = last_id-push first s.lines (Add s.id s.lits s.ids) in
      record {
        same = w.same;
        log = push_line m first s.lines (Add s.id s.lits s.ids) w.log (above, i, w.lits, w.ids);
        past = omega (arith, e);
        lits = tt;
        ids = tt;
      }

  with_deletion_whole : (s : State) → Whole s → IsId s.id → Whole (with_deletion s)
  with_deletion_whole s w i =
      let past = w.past in
      let e = last_id-push first s.lines (Delete s.id s.ids) in
      record {
        same = w.same;
        log = push_line m first s.lines (Delete s.id s.ids) w.log (i, w.ids);
        past = omega (arith, e);
        lits = w.lits;
        ids = tt;
      }

  fine_hint : (s : State) (o : Option Numeral) (at : ℕ) → s.stage ≡ Hints → IsSmall o → Whole s → IsId s.id
      → s.last < s.id → FineResult (take_hint s o at)
  fine_hint s None at e h w i l = tt
  fine_hint s (Some n) at e h w i l =
      fine_cond n.negative _ _ (λ _. tt) (λ _.
      fine_cond (n.value == 0) _ _ (λ _. (with_addition_whole s w i l, tt)) (λ some. (
        more_ids s n.value w (positive n.value some) (h n refl),
        subst (λ (x : Stage). PartAt x (record s { ids = s.ids ++ n.value ∷ [] })) (sym e) (i, l),
      )))

  fine_deleted : (s : State) (o : Option Numeral) (at : ℕ) → s.stage ≡ Deleted → IsSmall o → Whole s → IsId s.id
      → FineResult (take_deleted s o at)
  fine_deleted s None at e h w i = tt
  fine_deleted s (Some n) at e h w i =
      fine_cond n.negative _ _ (λ _. tt) (λ _.
      fine_cond (n.value == 0) _ _ (λ _. (with_deletion_whole s w i, tt)) (λ some. (
        more_ids s n.value w (positive n.value some) (h n refl),
        subst (λ (x : Stage). PartAt x (record s { ids = s.ids ++ n.value ∷ [] })) (sym e) i,
      )))

  fine_word : (x : Stage) (s : State) (w : Word) → AreSmall → s.stage ≡ x → Whole s → PartAt x s
      → FineResult (take_at x s w)
  fine_word Id s w h e f p = fine_id s (number_of w.text) w.at (h w.text) f
  fine_word Second s w h e f p = fine_second s w h f p
  fine_word Literals s w h e f p = fine_literal s (number_of w.text) w.at (h w.text) f p.0 p.1
  fine_word Hints s w h e f p = fine_hint s (number_of w.text) w.at e (h w.text) f p.0 p.1
  fine_word Deleted s w h e f p = fine_deleted s (number_of w.text) w.at e (h w.text) f p

  not_ok : (b : Bool) (f g : LogFault) (lines : List Line) → cond b (Err f) (Err g) ≡ Ok lines → ⊥
  not_ok true f g lines h = cc
  not_ok false f g lines h = cc

  fine_end : (x : Stage) (s : State) (end : ℕ) (lines : List Line) → Whole s → ended_at x s end ≡ Ok lines
      → IsLogOver m first lines
  fine_end Id s end lines w h = let e : s.lines ≡ lines = cc in subst (IsLogOver m first) e w.log
  fine_end Second s end lines w h = absurd (not_ok (nat_le s.id s.last) _ _ lines h)
  fine_end Literals s end lines w h = absurd (cc)
  fine_end Hints s end lines w h = absurd (cc)
  fine_end Deleted s end lines w h = absurd (cc)

  fine_then : (r : Result State LogFault) (go : State → Result (List Line) LogFault) (lines : List Line) → FineResult r
      → ((s : State) → Fine s → go s ≡ Ok lines → IsLogOver m first lines) → and_then r go ≡ Ok lines
      → IsLogOver m first lines
  fine_then (Ok s) go lines p k h = k s p h
  fine_then (Err g) go lines p k h = absurd (cc)

  fine_read : (ws : List Word) (s : State) (end : ℕ) (lines : List Line) → AreSmall → Fine s
      → read_words s ws end ≡ Ok lines → IsLogOver m first lines
  fine_read [] s end lines h p e = fine_end s.stage s end lines p.0 e
  fine_read (w ∷ ws) s end lines h p e =
      fine_then (take_word s w) (λ s. read_words s ws end) lines (fine_word s.stage s w h refl p.0 p.1)
      (λ s q. fine_read ws s end lines h q) e

  pub read_is_over : (clauses : ℕ) (text : List ℕ) (lines : List Line) → AreSmall → first ≤ clauses
      → read_by_words variables clauses text ≡ Ok lines → IsLogOver m first lines
  read_is_over clauses text lines h l e =
      fine_read (words_of text) (at_start variables clauses) (length text) lines h
      (record { same = refl; log = tt; past = l; lits = tt; ids = tt }, tt) e

-- where no words are left
pub end_is_read : (variables clauses : ℕ) (text : List ℕ) (ws : List Word) (s : State) (lines : List Line) → ws ≡ []
    → read_words s ws (length text) ≡ read_by_words variables clauses text → ended s (length text) ≡ Ok lines
    → read_by_words variables clauses text ≡ Ok lines
end_is_read variables clauses text ws s lines e same h =
    sym same ∙ ap (λ (xs : List Word). read_words s xs (length text)) e ∙ h

pub answered : {A F : Type 0} (said : Result A F) (r : Result A (Refused F)) (P : A → Type 0) → Answers said r
    → ((x : A) → said ≡ Ok x → P x) → IfOk r P
answered said (Ok x) P a h = h x a
answered said (Err e) P a h = tt

pub fails_as : {A F : Type 0} (said other : Result A F) (e : Refused F) → said ≡ other → Fails said e → Fails other e
fails_as said other (For f) is h = sym is ∙ h
fails_as said other NoMemory is h = tt
