-- Words and faults stand in the text.
use Rattle.std.proofs.Common.{ℕ, ◌+◌, ◌≤◌, Bool, true, false, List, [], ◌∷◌, Option, Some, None, Result, Ok, Err}
use Rattle.std.proofs.Common.{length, cond, subst, arith}
use Rattle.std.specs.Prelude.{◌==◌, nat_lt, codes}
use Rattle.std.specs.Str.{bytes_eq}
use Rattle.std.specs.Result.{IfErr}
use Rattle.std.proofs.lemmas.Grind.{common_steps}
use Rattle.base.specs.declared.refused.Refused.{Refused}
use Rattle.base.specs.declared.refused.Refused.TheVariants.{For, NoMemory}
use Rattle.base.specs.Because.{Because}
use Rattle.cnf_base.specs.declared.text.LineMode.{LineMode}
use Rattle.cnf_base.specs.declared.text.LineMode.TheVariants.{LineStart}
use Rattle.cnf_base.specs.declared.text.Stage.{Stage}
use Rattle.cnf_base.specs.declared.text.Stage.TheVariants.{Problem, Format, Variables, Clauses, Body}
use Rattle.cnf_base.specs.declared.text.Numeral.{Numeral}
use Rattle.cnf_base.specs.declared.text.CnfFault.{CnfFault}
use Rattle.cnf_base.specs.Answers.{Answers}
use Rattle.cnf_base.specs.Formulas.{Formula}
use Rattle.cnf_base.specs.Words.{Word, words_of}
use Rattle.cnf_base.specs.Modes.{next_mode, begins_word, word_of, words_from}
use Rattle.cnf_base.specs.Numerals.{number_of}
use Rattle.cnf_base.specs.Places.{BeginBy, StandsBy}
use Rattle.cnf_base.specs.WordByWord.{State, at_start, header_number, body_number, take_at, take_word, ended_at}
use Rattle.cnf_base.specs.WordByWord.{ended_body, and_then, read_words, read_by_words}
use Rattle.cnf_base.proofs.Lines.{words_are}

one_more : (n : ℕ) (b : Bool) (w : Word) (ws : List Word) → w.at ≤ n → BeginBy n ws → BeginBy n (cond b (w ∷ ws) ws)
one_more n true w ws p q = (p, q)
one_more n false w ws p q = q

pub words_begin : (mode : LineMode) (at n : ℕ) (bytes : List ℕ) → at + length bytes ≤ n
    → BeginBy n (words_from mode at bytes)
words_begin mode at n [] h = tt
words_begin mode at n (b ∷ bytes) h =
    let here : at ≤ n = omega arith in
    let behind : at + 1 + length bytes ≤ n = grind (arith, common_steps) in
    one_more n (begins_word mode b) (record { at = at; text = word_of (b ∷ bytes) })
    (words_from (next_mode mode b) (at + 1) bytes) here
    (words_begin (next_mode mode b) (at + 1) n bytes behind)

pub text_words_begin : (text : List ℕ) → BeginBy (length text) (words_of text)
text_words_begin text =
    let all : 0 + length text ≤ length text = omega arith in
    subst (BeginBy (length text)) (words_are text) (words_begin LineStart 0 (length text) text all)

module _ (n : ℕ) where
  abbrev Fails : {A : Type 0} → Result A CnfFault → Type 0
  Fails (Ok x) = Unit {0}
  Fails (Err f) = StandsBy n f

  either : {A : Type 0} (b : Bool) (x y : Result A CnfFault) → Fails x → Fails y → Fails (cond b x y)
  either true x y p q = p
  either false x y p q = q

  header_stands : (o : Option Numeral) (go : ℕ → State) (at : ℕ) → at ≤ n → Fails (header_number o go at)
  header_stands None go at h = h
  header_stands (Some m) go at h = either m.negative _ _ h tt

  body_stands : (s : State) (o : Option Numeral) (at : ℕ) → at ≤ n → Fails (body_number s o at)
  body_stands s None at h = h
  body_stands s (Some m) at h =
      either (nat_lt s.variables m.value) _ _ h
      (either (length s.entries == s.count) _ _ h (either (m.value == 0) _ _ tt tt))

  word_stands : (x : Stage) (s : State) (w : Word) → w.at ≤ n → Fails (take_at x s w)
  word_stands Problem s w h = either (bytes_eq w.text (codes "p")) _ _ tt h
  word_stands Format s w h = either (bytes_eq w.text (codes "cnf")) _ _ tt h
  word_stands Variables s w h = header_stands (number_of w.text) _ w.at h
  word_stands Clauses s w h = header_stands (number_of w.text) _ w.at h
  word_stands Body s w h = body_stands s (number_of w.text) w.at h

  body_end_stands : (s : State) (ls : List ℕ) (end : ℕ) → end ≤ n → Fails (ended_body s ls end)
  body_end_stands s (l ∷ ls) end h = h
  body_end_stands s [] end h = either (length s.entries == s.count) _ _ tt h

  end_stands : (x : Stage) (s : State) (end : ℕ) → end ≤ n → Fails (ended_at x s end)
  end_stands Problem s end h = h
  end_stands Format s end h = h
  end_stands Variables s end h = h
  end_stands Clauses s end h = h
  end_stands Body s end h = body_end_stands s s.lits end h

  then_stands : (r : Result State CnfFault) (go : State → Result Formula CnfFault) → Fails r
      → ((s : State) → Fails (go s)) → Fails (and_then r go)
  then_stands (Ok s) go p k = k s
  then_stands (Err f) go p k = p

  words_stand : (ws : List Word) (s : State) (end : ℕ) → end ≤ n → BeginBy n ws → Fails (read_words s ws end)
  words_stand [] s end h p = end_stands s.stage s end h
  words_stand (w ∷ ws) s end h p =
      then_stands (take_word s w) (λ s. read_words s ws end) (word_stands s.stage s w p.0)
      (λ s. words_stand ws s end h p.1)

text_stands : (text : List ℕ) → Fails (length text) (read_by_words text)
text_stands text =
    let end : length text ≤ length text = omega arith in
    words_stand (length text) (words_of text) at_start (length text) end (text_words_begin text)

pub answer_stands : (text : List ℕ) (r : Result Formula (Refused CnfFault)) → Answers (read_by_words text) r
    → IfErr r (Because (StandsBy (length text)))
answer_stands text (Ok f) a = tt
answer_stands text (Err (For f)) a = subst (Fails (length text)) a (text_stands text)
answer_stands text (Err NoMemory) a = tt
