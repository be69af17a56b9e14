-- A reader word by word says what the text says by its grammar.
use Rattle.std.proofs.Common.{◌≡◌, ℕ, ◌+◌, Bool, true, false, List, [], ◌∷◌, ◌++◌, Option, Some, None, Result, Ok}
use Rattle.std.proofs.Common.{Err, length, refl, sym, ◌∙◌, ap, cond, append_assoc, length-append}
use Rattle.std.specs.Prelude.{◌==◌, not, nat_lt, codes}
use Rattle.std.specs.Str.{bytes_eq}
use Rattle.std.proofs.lemmas.List.{append-nil}
use Rattle.cnf_base.specs.declared.fault_code.CnfFaultCode.TheVariants.{BadHeader, VariableOutOfRange}
use Rattle.cnf_base.specs.declared.fault_code.CnfFaultCode.TheVariants.{WrongClauseCount, Unended}
use Rattle.cnf_base.specs.declared.cnf.Entry.{Entry}
use Rattle.cnf_base.specs.declared.text.Stage.{Stage}
use Rattle.cnf_base.specs.declared.text.Stage.TheVariants.{Format, Variables, Clauses, Body}
use Rattle.cnf_base.specs.declared.text.Numeral.{Numeral}
use Rattle.cnf_base.specs.declared.text.CnfFault.{CnfFault}
use Rattle.cnf_base.specs.Literals.{literal_of}
use Rattle.cnf_base.specs.Clauses.{entry_of}
use Rattle.cnf_base.specs.Formulas.{Formula}
use Rattle.cnf_base.specs.Words.{Word, words_of}
use Rattle.cnf_base.specs.Numerals.{number_of}
use Rattle.cnf_base.specs.Pieces.{says_zero, value_in, literal_in, literals_in, is_zero, pieces_of, or_else}
use Rattle.cnf_base.specs.Pieces.{first_fault, unless}
use Rattle.cnf_base.specs.Cuts.{EndsAtZero, AreEnded, HasNoZero, joined}
use Rattle.cnf_base.specs.Reading.{Header, fault_at, is_count, fault_of_number, fault_of, ended, with_clause}
use Rattle.cnf_base.specs.Reading.{read_clauses, formula_of, read_body, read_text, read_of}
use Rattle.cnf_base.specs.WordByWord.{State, at_start, header_number, body_number, and_then, read_words, read_by_words}
use Rattle.cnf_base.proofs.Pieces.{are_cut}

-- one number, with its tests
number_step : (beyond full zero : Bool) (f g : CnfFault) (closed more : State) (go : State → Result Formula CnfFault)
    (h : Option CnfFault) (r : Result Formula CnfFault)
    → go (cond zero closed more) ≡ unless h r
    → and_then (cond beyond (Err f) (cond full (Err g) (cond zero (Ok closed) (Ok more)))) go
    ≡ unless (or_else (cond beyond (Some f) (cond full (Some g) None)) h) r
number_step true full zero f g closed more go h r e = refl
number_step false true zero f g closed more go h r e = refl
number_step false false true f g closed more go h r e = e
number_step false false false f g closed more go h r e = e

module _ (h : Header) (end : ℕ) where
  abbrev body : List Entry → List ℕ → State
  body es ls = record { stage = Body; variables = h.variables; count = h.clauses; entries = es; lits = ls }

  abbrev closed : List Entry → List ℕ → State
  closed es ls = body (es ++ entry_of [] ls ∷ []) []

  abbrev from : State → List Word → Result Formula CnfFault
  from s ws = read_words s ws end

  step_of : (o : Option Numeral) (at : ℕ) (es : List Entry) (ls : List ℕ) (ws : List Word) (f : Option CnfFault)
      (r : Result Formula CnfFault)
      → from (cond (says_zero o) (closed es ls) (body es (ls ++ literal_in o ∷ []))) ws ≡ unless f r
      → and_then (body_number (body es ls) o at) (λ s. from s ws)
      ≡ unless (or_else (fault_of_number h (length es) at o) f) r
  step_of None at es ls ws f r e = refl
  step_of (Some n) at es ls ws f r e =
      number_step (nat_lt h.variables n.value) (length es == h.clauses) (n.value == 0)
      (fault_at VariableOutOfRange at) (fault_at WrongClauseCount at)
      (closed es ls) (body es (ls ++ literal_of (not n.negative) n.value ∷ [])) (λ s. from s ws) f r e

  step : (w : Word) (es : List Entry) (ls : List ℕ) (ws : List Word) (b : Bool) (f : Option CnfFault)
      (r : Result Formula CnfFault) → is_zero w ≡ b
      → from (cond b (closed es ls) (body es (ls ++ literal_in (number_of w.text) ∷ []))) ws ≡ unless f r
      → from (body es ls) (w ∷ ws) ≡ unless (or_else (fault_of h (length es) w) f) r
  step w es ls ws b f r z e =
      step_of (number_of w.text) w.at es ls ws f r
      (ap (λ c. from (cond c (closed es ls) (body es (ls ++ literal_in (number_of w.text) ∷ []))) ws) z ∙ e)

  -- a piece up to its 0
  piece_read : (p : List Word) (es : List Entry) (ls : List ℕ) (more : List Word) → EndsAtZero p
      → from (body es ls) (p ++ more) ≡ unless (first_fault (fault_of h (length es)) p) (from
      (closed es (ls ++ literals_in p)) more)
  piece_read [] es ls more z = absurd z
  piece_read (w ∷ []) es ls more z =
      step w es ls more true None (from (closed es (ls ++ literals_in (w ∷ []))) more) z
      (λ i. from
      (closed es (sym (ap (λ b. ls ++ cond b [] (literal_in (number_of w.text) ∷ [])) z ∙ append-nil ls) i)) more)
  piece_read (w ∷ (v ∷ ws)) es ls more z =
      let l : ℕ = literal_in (number_of w.text) in
      let same : ls ++ l ∷ literals_in (v ∷ ws)
      ≡ ls ++ literals_in (w ∷ (v ∷ ws)) = ap (λ b. ls ++ cond b [] (l ∷ literals_in (v ∷ ws))) (sym z.0) in
      step w es ls (v ∷ (ws ++ more)) false (first_fault (fault_of h (length es)) (v ∷ ws))
      (from (closed es (ls ++ literals_in (w ∷ (v ∷ ws)))) more) z.0
      (piece_read (v ∷ ws) es (ls ++ l ∷ []) more z.1
      ∙ ap (λ (ks : List ℕ). unless (first_fault (fault_of h (length es)) (v ∷ ws)) (from (closed es ks) more))
      (append_assoc ls (l ∷ []) (literals_in (v ∷ ws)) ∙ same))

  -- what stands behind the last 0
  open_read : (ws : List Word) (es : List Entry) (l : ℕ) (ls : List ℕ) → HasNoZero ws
      → from (body es (l ∷ ls)) ws ≡ unless (first_fault (fault_of h (length es)) ws) (Err (fault_at Unended end))
  open_read [] es l ls z = refl
  open_read (w ∷ ws) es l ls z =
      step w es (l ∷ ls) ws false (first_fault (fault_of h (length es)) ws) (Err (fault_at Unended end)) z.0
      (open_read ws es l (ls ++ literal_in (number_of w.text) ∷ []) z.1)

  -- what was read, and behind it what is read
  abbrev with_read : List Entry → Result (List Entry) CnfFault → Result Formula CnfFault
  with_read es (Ok fs) = Ok (record { variables = h.variables; clauses = es ++ fs })
  with_read es (Err f) = Err f

  with_unless : (es : List Entry) (f : Option CnfFault) (r : Result (List Entry) CnfFault)
      → unless f (with_read es r) ≡ with_read es (unless f r)
  with_unless es None r = refl
  with_unless es (Some f) r = refl

  with_more : (es : List Entry) (e : Entry) (r : Result (List Entry) CnfFault)
      → with_read (es ++ e ∷ []) r ≡ with_read es (with_clause e r)
  with_more es e (Ok fs) = ap (λ (xs : List Entry). Ok (record { variables = h.variables; clauses = xs }))
      (append_assoc es (e ∷ []) fs)
  with_more es e (Err f) = refl

  whole_end : (b : Bool) (es : List Entry) (f : CnfFault)
      → cond b (Ok (record { variables = h.variables; clauses = es })) (Err f) ≡ with_read es (cond b (Ok []) (Err f))
  whole_end true es f = ap (λ (xs : List Entry). Ok (record { variables = h.variables; clauses = xs }))
      (sym (append-nil es))
  whole_end false es f = refl

  rest_read : (ws : List Word) (es : List Entry) → HasNoZero ws
      → from (body es []) ws ≡ with_read es (unless (first_fault (fault_of h (length es)) ws)
      (ended h (length es) ws end))
  rest_read [] es z = whole_end (length es == h.clauses) es (fault_at WrongClauseCount end)
  rest_read (w ∷ ws) es z =
      step w es [] ws false (first_fault (fault_of h (length es)) ws) (Err (fault_at Unended end)) z.0
      (open_read ws es (literal_in (number_of w.text)) [] z.1)
      ∙ with_unless es (first_fault (fault_of h (length es)) (w ∷ ws)) (Err (fault_at Unended end))

  pieces_read : (ps : List (List Word)) (ws : List Word) (es : List Entry) → AreEnded ps → HasNoZero ws
      → from (body es []) (joined ps ws) ≡ with_read es (read_clauses h (length es) ps ws end)
  pieces_read [] ws es p z = rest_read ws es z
  pieces_read (q ∷ ps) ws es p z =
      let e : Entry = entry_of [] (literals_in q) in
      let f : Option CnfFault = first_fault (fault_of h (length es)) q in
      let longer : length (es ++ e ∷ []) ≡ length es + 1 = length-append es (e ∷ []) in
      piece_read q es [] (joined ps ws) p.0
      ∙ ap (unless f) (pieces_read ps ws (es ++ e ∷ []) p.1 z
      ∙ ap (λ (n : ℕ). with_read (es ++ e ∷ []) (read_clauses h n ps ws end)) longer
      ∙ with_more es e (read_clauses h (length es + 1) ps ws end))
      ∙ with_unless es f (with_clause e (read_clauses h (length es + 1) ps ws end))

  formula_is : (r : Result (List Entry) CnfFault) → with_read [] r ≡ formula_of h.variables r
  formula_is (Ok es) = refl
  formula_is (Err f) = refl

  body_read : (ws : List Word) → from (body [] []) ws ≡ read_body h ws end
  body_read ws =
      let c = are_cut ws in
      ap (λ (vs : List Word). from (body [] []) vs) (sym c.same)
      ∙ pieces_read (pieces_of ws).whole (pieces_of ws).rest [] c.whole c.rest
      ∙ formula_is (read_clauses h 0 (pieces_of ws).whole (pieces_of ws).rest end)

-- one word of the header
test_step : (b : Bool) (s : State) (f : CnfFault) (go : State → Result Formula CnfFault) (h : Option CnfFault)
    (r : Result Formula CnfFault) → go s ≡ unless h r
    → and_then (cond b (Ok s) (Err f)) go ≡ unless (cond b h (Some f)) r
test_step true s f go h r e = e
test_step false s f go h r e = refl

sign_step : (b : Bool) (s : State) (f : CnfFault) (go : State → Result Formula CnfFault) (h : Option CnfFault)
    (r : Result Formula CnfFault) → go s ≡ unless h r
    → and_then (cond b (Err f) (Ok s)) go ≡ unless (cond (not b) h (Some f)) r
sign_step true s f go h r e = refl
sign_step false s f go h r e = e

count_step : (o : Option Numeral) (next : ℕ → State) (at : ℕ) (go : State → Result Formula CnfFault)
    (h : Option CnfFault) (r : Result Formula CnfFault)
    → go (next (value_in o)) ≡ unless h r
    → and_then (header_number o next at) go ≡ unless (cond (is_count o) h (Some (fault_at BadHeader at))) r
count_step None next at go h r e = refl
count_step (Some n) next at go h r e = sign_step n.negative (next n.value) (fault_at BadHeader at) go h r e

abbrev at_stage : Stage → ℕ → State
at_stage stage v = record { stage = stage; variables = v; count = 0; entries = []; lits = [] }

abbrev no_more : ℕ → Option CnfFault
no_more end = Some (fault_at BadHeader end)

abbrev go_on : ℕ → List Word → State → Result Formula CnfFault
go_on end ws s = read_words s ws end

words_read : (ws : List Word) (end : ℕ) → read_words at_start ws end ≡ read_text ws end
words_read [] end = refl
words_read (p ∷ []) end =
    test_step (bytes_eq p.text (codes "p")) (at_stage Format 0) (fault_at BadHeader p.at) (go_on end []) (no_more end)
    (Err (fault_at BadHeader end)) refl
words_read (p ∷ (f ∷ [])) end =
    let e : Result Formula CnfFault = Err (fault_at BadHeader end) in
    test_step (bytes_eq p.text (codes "p")) (at_stage Format 0) (fault_at BadHeader p.at) (go_on end (f ∷ []))
    (cond (bytes_eq f.text (codes "cnf")) (no_more end) (Some (fault_at BadHeader f.at))) e
    (test_step (bytes_eq f.text (codes "cnf")) (at_stage Variables 0) (fault_at BadHeader f.at) (go_on end [])
    (no_more end) e refl)
words_read (p ∷ (f ∷ (v ∷ []))) end =
    let e : Result Formula CnfFault = Err (fault_at BadHeader end) in
    let hv : Option CnfFault = cond (is_count (number_of v.text)) (no_more end) (Some (fault_at BadHeader v.at)) in
    test_step (bytes_eq p.text (codes "p")) (at_stage Format 0) (fault_at BadHeader p.at) (go_on end (f ∷ (v ∷ [])))
    (cond (bytes_eq f.text (codes "cnf")) hv (Some (fault_at BadHeader f.at))) e
    (test_step (bytes_eq f.text (codes "cnf")) (at_stage Variables 0) (fault_at BadHeader f.at)
    (go_on end (v ∷ [])) hv e
    (count_step (number_of v.text) (at_stage Clauses) v.at (go_on end []) (no_more end) e refl))
words_read (p ∷ (f ∷ (v ∷ (c ∷ ws)))) end =
    let h : Header = record { variables = value_in (number_of v.text); clauses = value_in (number_of c.text) } in
    let e : Result Formula CnfFault = read_body h ws end in
    let hc : Option CnfFault = cond (is_count (number_of c.text)) None (Some (fault_at BadHeader c.at)) in
    let hv : Option CnfFault = cond (is_count (number_of v.text)) hc (Some (fault_at BadHeader v.at)) in
    test_step (bytes_eq p.text (codes "p")) (at_stage Format 0) (fault_at BadHeader p.at)
    (go_on end (f ∷ (v ∷ (c ∷ ws)))) (cond (bytes_eq f.text (codes "cnf")) hv (Some (fault_at BadHeader f.at))) e
    (test_step (bytes_eq f.text (codes "cnf")) (at_stage Variables 0) (fault_at BadHeader f.at)
    (go_on end (v ∷ (c ∷ ws))) hv e
    (count_step (number_of v.text) (at_stage Clauses) v.at (go_on end (c ∷ ws)) hc e
    (count_step (number_of c.text) (λ n. body (record { variables = value_in (number_of v.text); clauses = n }) end []
    []) c.at (go_on end ws) None e
    (body_read h end ws))))

pub by_words : (text : List ℕ) → read_by_words text ≡ read_of text
unfolding read_of
by_words text = words_read (words_of text) (length text)
