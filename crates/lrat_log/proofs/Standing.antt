-- Faults stand in the text.
use Rattle.std.proofs.Common.{ℕ, ◌≤◌, Bool, true, false, List, [], ◌∷◌, Option, Some, None, Result, Ok, Err, length}
use Rattle.std.proofs.Common.{cond, subst, arith}
use Rattle.std.specs.Prelude.{◌==◌, nat_lt, nat_le, codes}
use Rattle.std.specs.Str.{bytes_eq}
use Rattle.std.specs.Result.{IfErr}
use Rattle.base.specs.declared.refused.Refused.{Refused}
use Rattle.base.specs.declared.refused.Refused.TheVariants.{For, NoMemory}
use Rattle.base.specs.Because.{Because}
use Rattle.cnf_base.specs.declared.text.Numeral.{Numeral}
use Rattle.cnf_base.specs.Answers.{Answers}
use Rattle.cnf_base.specs.Words.{Word, words_of}
use Rattle.cnf_base.specs.Numerals.{number_of}
use Rattle.cnf_base.specs.Places.{BeginBy}
use Rattle.lrat_log.specs.declared.fault_code.LogFaultCode.TheVariants.{Unended, IdNotAbove}
use Rattle.lrat_log.specs.declared.line.Line.{Line}
use Rattle.lrat_log.specs.declared.text.Stage.{Stage}
use Rattle.lrat_log.specs.declared.text.Stage.TheVariants.{Id, Second, Literals, Hints, Deleted}
use Rattle.lrat_log.specs.declared.text.LogFault.{LogFault}
use Rattle.lrat_log.specs.Places.{StandsBy}
use Rattle.lrat_log.specs.WordByWord.{State, at_start, take_id, take_literal, take_second, take_hint, take_deleted}
use Rattle.lrat_log.specs.WordByWord.{take_at, take_word, ended_at, and_then, read_words, read_by_words}

module _ (n : ℕ) where
  abbrev Fails : {A : Type 0} → Result A LogFault → Type 0
  Fails (Ok x) = Unit {0}
  Fails (Err f) = StandsBy n f

  -- the kept place of an id is in the text
  abbrev Stands : Result State LogFault → Type 0
  Stands (Ok s) = s.place ≤ n
  Stands (Err f) = StandsBy n f

  either : (b : Bool) (x y : Result State LogFault) → Stands x → Stands y → Stands (cond b x y)
  either true x y p q = p
  either false x y p q = q

  id_stands : (s : State) (o : Option Numeral) (at : ℕ) → at ≤ n → Stands (take_id s o at)
  id_stands s None at h = h
  id_stands s (Some m) at h = either m.negative _ _ h (either (m.value == 0) _ _ h h)

  literal_stands : (s : State) (o : Option Numeral) (at : ℕ) → s.place ≤ n → at ≤ n → Stands (take_literal s o at)
  literal_stands s None at p h = h
  literal_stands s (Some m) at p h = either (nat_lt s.variables m.value) _ _ h (either (m.value == 0) _ _ p p)

  second_stands : (s : State) (w : Word) → s.place ≤ n → w.at ≤ n → Stands (take_second s w)
  second_stands s w p h =
      either (bytes_eq w.text (codes "d")) _ _ p
      (either (nat_le s.id s.last) _ _ p (literal_stands s (number_of w.text) w.at p h))

  hint_stands : (s : State) (o : Option Numeral) (at : ℕ) → s.place ≤ n → at ≤ n → Stands (take_hint s o at)
  hint_stands s None at p h = h
  hint_stands s (Some m) at p h = either m.negative _ _ h (either (m.value == 0) _ _ p p)

  deleted_stands : (s : State) (o : Option Numeral) (at : ℕ) → s.place ≤ n → at ≤ n → Stands (take_deleted s o at)
  deleted_stands s None at p h = h
  deleted_stands s (Some m) at p h = either m.negative _ _ h (either (m.value == 0) _ _ p p)

  word_stands : (x : Stage) (s : State) (w : Word) → s.place ≤ n → w.at ≤ n → Stands (take_at x s w)
  word_stands Id s w p h = id_stands s (number_of w.text) w.at h
  word_stands Second s w p h = second_stands s w p h
  word_stands Literals s w p h = literal_stands s (number_of w.text) w.at p h
  word_stands Hints s w p h = hint_stands s (number_of w.text) w.at p h
  word_stands Deleted s w p h = deleted_stands s (number_of w.text) w.at p h

  one_of : (b : Bool) (f g : LogFault) → StandsBy n f → StandsBy n g → Fails {A = List Line} (cond b (Err f) (Err g))
  one_of true f g p q = p
  one_of false f g p q = q

  end_stands : (x : Stage) (s : State) (end : ℕ) → s.place ≤ n → end ≤ n → Fails (ended_at x s end)
  end_stands Id s end p h = tt
  end_stands Second s end p h = one_of (nat_le s.id s.last) (record { code = IdNotAbove; at = s.place })
      (record { code = Unended; at = end }) p h
  end_stands Literals s end p h = h
  end_stands Hints s end p h = h
  end_stands Deleted s end p h = h

  then_stands : (r : Result State LogFault) (go : State → Result (List Line) LogFault) → Stands r
      → ((s : State) → s.place ≤ n → Fails (go s)) → Fails (and_then r go)
  then_stands (Ok s) go p k = k s p
  then_stands (Err f) go p k = p

  words_stand : (ws : List Word) (s : State) (end : ℕ) → s.place ≤ n → end ≤ n → BeginBy n ws
      → Fails (read_words s ws end)
  words_stand [] s end p h b = end_stands s.stage s end p h
  words_stand (w ∷ ws) s end p h b =
      then_stands (take_word s w) (λ s. read_words s ws end) (word_stands s.stage s w p b.0)
      (λ s q. words_stand ws s end q h b.1)

-- where each word of a text begins in it
module _ (begin : (text : List ℕ) → BeginBy (length text) (words_of text)) where
  text_stands : (variables clauses : ℕ) (text : List ℕ) → Fails (length text) (read_by_words variables clauses text)
  text_stands variables clauses text =
      let start : 0 ≤ length text = omega arith in
      let end : length text ≤ length text = omega arith in
      words_stand (length text) (words_of text) (at_start variables clauses) (length text) start end (begin text)

  pub answer_stands : (variables clauses : ℕ) (text : List ℕ) (r : Result (List Line) (Refused LogFault))
      → Answers (read_by_words variables clauses text) r
      → IfErr r (Because (StandsBy (length text)))
  answer_stands variables clauses text (Ok lines) a = tt
  answer_stands variables clauses text (Err (For f)) a = subst (Fails (length text)) a
      (text_stands variables clauses text)
  answer_stands variables clauses text (Err NoMemory) a = tt
