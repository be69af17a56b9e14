-- A reader word by word says what the text says by its grammar.
use Rattle.std.proofs.Common.{◌≡◌, ℕ, Bool, true, false, List, [], ◌∷◌, ◌++◌, Option, Some, None, Result, Ok, Err}
use Rattle.std.proofs.Common.{length, refl, sym, ◌∙◌, ap, cond, append_assoc}
use Rattle.std.specs.Prelude.{◌==◌, nat_lt, nat_le, codes}
use Rattle.std.specs.Str.{bytes_eq}
use Rattle.std.proofs.lemmas.List.{append-nil}
use Rattle.std.proofs.lemmas.Slice.Eq.{bytes_eq-Decides}
use Rattle.cnf_base.specs.declared.text.Numeral.{Numeral}
use Rattle.cnf_base.specs.Words.{Word, words_of}
use Rattle.cnf_base.specs.Numerals.{number_of}
use Rattle.cnf_base.specs.Pieces.{says_zero, is_zero, value_in, literal_in, values_in, numbers_in, literals_in}
use Rattle.cnf_base.specs.Pieces.{pieces_of, or_else, first_fault, unless}
use Rattle.cnf_base.specs.Cuts.{EndsAtZero, AreEnded, HasNoZero, joined, AreCut}
use Rattle.lrat_log.specs.declared.fault_code.LogFaultCode.TheVariants.{BadNumber, RatHint, Unended, IdNotAbove}
use Rattle.lrat_log.specs.declared.fault_code.LogFaultCode.TheVariants.{VariableOutOfRange}
use Rattle.lrat_log.specs.declared.line.Line.{Line}
use Rattle.lrat_log.specs.declared.line.Line.TheVariants.{Add, Delete}
use Rattle.lrat_log.specs.declared.text.LogFault.{LogFault}
use Rattle.lrat_log.specs.declared.text.Stage.{Stage}
use Rattle.lrat_log.specs.declared.text.Stage.TheVariants.{Id, Second, Literals, Hints, Deleted}
use Rattle.lrat_log.specs.Reading.{fault_at, id_fault, literal_fault, hint_fault, deleted_fault, literals_fault}
use Rattle.lrat_log.specs.Reading.{hints_fault, deleted_ids_fault, is_deletion, behind_d, order_fault, id_of}
use Rattle.lrat_log.specs.Reading.{line_fault, with_line, open_line, read_lines, read_of}
use Rattle.lrat_log.specs.WordByWord.{State, take_id, take_literal, take_hint, take_deleted, and_then, read_words}
use Rattle.lrat_log.specs.WordByWord.{read_by_words}

-- single words, with their tests
two_step : (bad zero : Bool) (f : LogFault) (closed more : State) (go : State → Result (List Line) LogFault)
    (h : Option LogFault) (r : Result (List Line) LogFault)
    → go (cond zero closed more) ≡ unless h r
    → and_then (cond bad (Err f) (cond zero (Ok closed) (Ok more))) go ≡ unless (or_else (cond bad (Some f) None) h) r
two_step true zero f closed more go h r e = refl
two_step false true f closed more go h r e = e
two_step false false f closed more go h r e = e

id_tests : (negative zero : Bool) (f : LogFault) (more : State) (go : State → Result (List Line) LogFault)
    (h : Option LogFault) (r : Result (List Line) LogFault) → go more ≡ unless h r
    → and_then (cond negative (Err f) (cond zero (Err f) (Ok more))) go
    ≡ unless (or_else (cond negative (Some f) (cond zero (Some f) None)) h) r
id_tests true zero f more go h r e = refl
id_tests false true f more go h r e = refl
id_tests false false f more go h r e = e

second_tests : (is_d low : Bool) (deleted : State) (f : LogFault) (literal : Result State LogFault)
    (go : State → Result (List Line) LogFault) (hd hl : Option LogFault)
    (rd rl : Result (List Line) LogFault) → (is_d ≡ true → go deleted ≡ unless hd rd)
    → and_then literal go ≡ unless hl rl
    → and_then (cond is_d (Ok deleted) (cond low (Err f) literal)) go
    ≡ unless (cond is_d hd (or_else (cond low (Some f) None) hl)) (cond is_d rd rl)
second_tests true low deleted f literal go hd hl rd rl p q = p refl
second_tests false true deleted f literal go hd hl rd rl p q = refl
second_tests false false deleted f literal go hd hl rd rl p q = q

zero_id : (o : Option Numeral) (at : ℕ) → says_zero o ≡ true → id_fault at o ≡ Some (fault_at BadNumber at)
zero_id None at z = absurd (cc)
zero_id (Some n) at z = by n.negative
  where
    by : (negative : Bool) → cond negative (Some (fault_at BadNumber at)) (cond (n.value == 0)
        (Some (fault_at BadNumber at)) None) ≡ Some (fault_at BadNumber at)
    by true = refl
    by false = ap (λ b. cond b (Some (fault_at BadNumber at)) None) z

-- a `d` is no 0
d_is_no_zero : (d : Word) → bytes_eq d.text (codes "d") ≡ true → is_zero d ≡ true → ⊥
d_is_no_zero d e z =
    let same : is_zero d ≡ false = ap (λ (t : List ℕ). says_zero (number_of t))
    ((bytes_eq-Decides d.text (codes "d")).0 e) in
    absurd (cc (same, z))

behind_d_ended : (d : Word) (ws : List Word) → bytes_eq d.text (codes "d") ≡ true → EndsAtZero (d ∷ ws) → EndsAtZero ws
behind_d_ended d [] e z = d_is_no_zero d e z
behind_d_ended d (w ∷ ws) e z = z.1

-- what was read, and behind it what is read
abbrev with_read : List Line → Result (List Line) LogFault → Result (List Line) LogFault
with_read done (Ok lines) = Ok (done ++ lines)
with_read done (Err f) = Err f

with_unless : (done : List Line) (f : Option LogFault) (r : Result (List Line) LogFault)
    → unless f (with_read done r) ≡ with_read done (unless f r)
with_unless done None r = refl
with_unless done (Some f) r = refl

with_more : (done : List Line) (line : Line) (r : Result (List Line) LogFault)
    → with_read (done ++ line ∷ []) r ≡ with_read done (with_line line r)
with_more done line (Ok lines) = ap Ok (append_assoc done (line ∷ []) lines)
with_more done line (Err f) = refl

branch : (c : Bool) (done : List Line) (a b p q : Result (List Line) LogFault) → a ≡ with_read done p
    → b ≡ with_read done q → cond c a b ≡ with_read done (cond c p q)
branch true done a b p q e h = e
branch false done a b p q e h = h

one_end : (c : Bool) (r : Result (List Line) LogFault) → cond c r r ≡ r
one_end true r = refl
one_end false r = refl

module _ (v end : ℕ) where
  abbrev a : Stage → ℕ → List Line → ℕ → ℕ → List ℕ → List ℕ → State
  a x last done id place ls ns = record {
    stage = x;
    variables = v;
    last = last;
    lines = done;
    id = id;
    place = place;
    lits = ls;
    ids = ns;
  }

  abbrev from : State → List Word → Result (List Line) LogFault
  from s ws = read_words s ws end

  abbrev unended : Result (List Line) LogFault
  unended = Err (fault_at Unended end)

  -- words of one kind, up to the 0 behind them
  module _ (reading ended : List ℕ → State) (fault : ℕ → Option Numeral → Option LogFault) (item : Option Numeral → ℕ)
      (step : (w : Word) (acc : List ℕ) (ws : List Word) (b : Bool) (f : Option LogFault)
      (r : Result (List Line) LogFault) → is_zero w ≡ b
      → from (cond b (ended acc) (reading (acc ++ item (number_of w.text) ∷ []))) ws ≡ unless f r
      → from (reading acc) (w ∷ ws) ≡ unless (or_else (fault w.at (number_of w.text)) f) r)
      (stop : (acc : List ℕ) → from (reading acc) [] ≡ unended) where
    abbrev faults : List Word → Option LogFault
    faults ws = first_fault (λ w. fault w.at (number_of w.text)) ws

    piece_read : (p : List Word) (acc : List ℕ) (more : List Word) → EndsAtZero p
        → from (reading acc) (p ++ more) ≡ unless (faults p) (from (ended (acc ++ values_in item p)) more)
    piece_read [] acc more z = absurd z
    piece_read (w ∷ []) acc more z =
        step w acc more true None (from (ended (acc ++ values_in item (w ∷ []))) more) z
        (λ i. from (ended (sym (ap (λ b. acc ++ cond b [] (item (number_of w.text) ∷ [])) z ∙ append-nil acc) i)) more)
    piece_read (w ∷ (u ∷ ws)) acc more z =
        let l : ℕ = item (number_of w.text) in
        let same : acc ++ l ∷ values_in item (u ∷ ws)
        ≡ acc ++ values_in item (w ∷ (u ∷ ws)) = ap (λ b. acc ++ cond b [] (l ∷ values_in item (u ∷ ws)))
        (sym z.0) in
        step w acc (u ∷ (ws ++ more)) false (faults (u ∷ ws))
        (from (ended (acc ++ values_in item (w ∷ (u ∷ ws)))) more) z.0
        (piece_read (u ∷ ws) (acc ++ l ∷ []) more z.1
        ∙ ap (λ (ks : List ℕ). unless (faults (u ∷ ws)) (from (ended ks) more))
        (append_assoc acc (l ∷ []) (values_in item (u ∷ ws)) ∙ same))

    open_read : (ws : List Word) (acc : List ℕ) → HasNoZero ws → from (reading acc) ws ≡ unless (faults ws) unended
    open_read [] acc z = stop acc
    open_read (w ∷ ws) acc z = step w acc ws false (faults ws) unended z.0
        (open_read ws (acc ++ item (number_of w.text) ∷ []) z.1)

  -- a line, with what stood before it
  module _ (last : ℕ) (done : List Line) (id place : ℕ) where
    literal_of_word : (o : Option Numeral) (at : ℕ) (ls : List ℕ) (ws : List Word) (f : Option LogFault)
        (r : Result (List Line) LogFault)
        → from (cond (says_zero o) (a Hints last done id place ls [])
        (a Literals last done id place (ls ++ literal_in o ∷ []) [])) ws ≡ unless f r
        → and_then (take_literal (a Literals last done id place ls []) o at) (λ s. from s ws)
        ≡ unless (or_else (literal_fault v at o) f) r
    literal_of_word None at ls ws f r e = refl
    literal_of_word (Some n) at ls ws f r e =
        two_step (nat_lt v n.value) (n.value == 0) (fault_at VariableOutOfRange at) (a Hints last done id place ls [])
        (a Literals last done id place (ls ++ literal_in (Some n) ∷ []) []) (λ s. from s ws) f r e

    abbrev literals : List ℕ → State
    literals ls = a Literals last done id place ls []

    abbrev behind_literals : List ℕ → State
    behind_literals ls = a Hints last done id place ls []

    literal_step : (w : Word) (acc : List ℕ) (ws : List Word) (b : Bool) (f : Option LogFault)
        (r : Result (List Line) LogFault) → is_zero w ≡ b
        → from (cond b (behind_literals acc) (literals (acc ++ literal_in (number_of w.text) ∷ []))) ws ≡ unless f r
        → from (literals acc) (w ∷ ws) ≡ unless (or_else (literal_fault v w.at (number_of w.text)) f) r
    literal_step w acc ws b f r z e =
        literal_of_word (number_of w.text) w.at acc ws f r
        (ap (λ c. from (cond c (behind_literals acc) (literals (acc ++ literal_in (number_of w.text) ∷ []))) ws) z
        ∙ e)

    hint_of_word : (o : Option Numeral) (at : ℕ) (ls ns : List ℕ) (ws : List Word) (f : Option LogFault)
        (r : Result (List Line) LogFault)
        → from (cond (says_zero o) (a Id id (done ++ Add id ls ns ∷ []) id place [] [])
        (a Hints last done id place ls (ns ++ value_in o ∷ []))) ws ≡ unless f r
        → and_then (take_hint (a Hints last done id place ls ns) o at) (λ s. from s ws)
        ≡ unless (or_else (hint_fault at o) f) r
    hint_of_word None at ls ns ws f r e = refl
    hint_of_word (Some n) at ls ns ws f r e =
        two_step n.negative (n.value == 0) (fault_at RatHint at) (a Id id (done ++ Add id ls ns ∷ []) id place [] [])
        (a Hints last done id place ls (ns ++ n.value ∷ [])) (λ s. from s ws) f r e

    abbrev hints : List ℕ → List ℕ → State
    hints ls ns = a Hints last done id place ls ns

    abbrev behind_hints : List ℕ → List ℕ → State
    behind_hints ls ns = a Id id (done ++ Add id ls ns ∷ []) id place [] []

    hint_step : (ls : List ℕ) (w : Word) (acc : List ℕ) (ws : List Word) (b : Bool) (f : Option LogFault)
        (r : Result (List Line) LogFault) → is_zero w ≡ b
        → from (cond b (behind_hints ls acc) (hints ls (acc ++ value_in (number_of w.text) ∷ []))) ws ≡ unless f r
        → from (hints ls acc) (w ∷ ws) ≡ unless (or_else (hint_fault w.at (number_of w.text)) f) r
    hint_step ls w acc ws b f r z e =
        hint_of_word (number_of w.text) w.at ls acc ws f r
        (ap (λ c. from (cond c (behind_hints ls acc) (hints ls (acc ++ value_in (number_of w.text) ∷ []))) ws) z
        ∙ e)

    deleted_of_word : (o : Option Numeral) (at : ℕ) (ns : List ℕ) (ws : List Word) (f : Option LogFault)
        (r : Result (List Line) LogFault)
        → from (cond (says_zero o) (a Id last (done ++ Delete id ns ∷ []) id place [] [])
        (a Deleted last done id place [] (ns ++ value_in o ∷ []))) ws ≡ unless f r
        → and_then (take_deleted (a Deleted last done id place [] ns) o at) (λ s. from s ws)
        ≡ unless (or_else (deleted_fault at o) f) r
    deleted_of_word None at ns ws f r e = refl
    deleted_of_word (Some n) at ns ws f r e =
        two_step n.negative (n.value == 0) (fault_at BadNumber at)
        (a Id last (done ++ Delete id ns ∷ []) id place [] [])
        (a Deleted last done id place [] (ns ++ n.value ∷ [])) (λ s. from s ws) f r e

    abbrev deleted : List ℕ → State
    deleted ns = a Deleted last done id place [] ns

    abbrev behind_deleted : List ℕ → State
    behind_deleted ns = a Id last (done ++ Delete id ns ∷ []) id place [] []

    deleted_step : (w : Word) (acc : List ℕ) (ws : List Word) (b : Bool) (f : Option LogFault)
        (r : Result (List Line) LogFault) → is_zero w ≡ b
        → from (cond b (behind_deleted acc) (deleted (acc ++ value_in (number_of w.text) ∷ []))) ws ≡ unless f r
        → from (deleted acc) (w ∷ ws) ≡ unless (or_else (deleted_fault w.at (number_of w.text)) f) r
    deleted_step w acc ws b f r z e =
        deleted_of_word (number_of w.text) w.at acc ws f r
        (ap (λ c. from (cond c (behind_deleted acc) (deleted (acc ++ value_in (number_of w.text) ∷ []))) ws) z ∙ e)

    -- the first literal, behind the id
    same_literal : (o : Option Numeral) (at : ℕ) → take_literal (a Second last done id place [] []) o at
        ≡ take_literal (literals []) o at
    same_literal None at = refl
    same_literal (Some n) at = refl

    behind_id : (d : Word) (ws more : List Word) → EndsAtZero (d ∷ ws)
        → from (a Second last done id place [] []) (d ∷ (ws ++ more))
        ≡ unless (cond (is_deletion (d ∷ ws)) (deleted_ids_fault ws)
        (or_else (order_fault last id place) (literals_fault v (d ∷ ws))))
        (cond (is_deletion (d ∷ ws)) (from (behind_deleted (numbers_in ws)) more)
        (from (behind_literals (literals_in (d ∷ ws))) more))
    behind_id d ws more z =
        second_tests (bytes_eq d.text (codes "d")) (nat_le id last) (deleted []) (fault_at IdNotAbove place)
        (take_literal (a Second last done id place [] []) (number_of d.text) d.at)
        (λ s. from s (ws ++ more)) (deleted_ids_fault ws) (literals_fault v (d ∷ ws))
        (from (behind_deleted (numbers_in ws)) more) (from (behind_literals (literals_in (d ∷ ws))) more)
        (λ e. piece_read deleted behind_deleted deleted_fault value_in deleted_step (λ acc. refl) ws [] more
        (behind_d_ended d ws e z))
        (ap (λ r. and_then r (λ s. from s (ws ++ more))) (same_literal (number_of d.text) d.at)
        ∙ piece_read literals behind_literals (literal_fault v) literal_in literal_step (λ acc. refl) (d ∷ ws)
        [] more z)

    open_behind_id : (ws : List Word) → HasNoZero ws
        → from (a Second last done id place [] []) ws
        ≡ unless (cond (is_deletion ws) (deleted_ids_fault (behind_d ws))
        (or_else (order_fault last id place) (literals_fault v ws))) unended
    open_behind_id [] z = by (nat_le id last)
      where
        by : (low : Bool) → cond low (Err (fault_at IdNotAbove place)) unended
            ≡ unless (or_else (cond low (Some (fault_at IdNotAbove place)) None) None) unended
        by true = refl
        by false = refl
    open_behind_id (d ∷ ws) z =
        second_tests (bytes_eq d.text (codes "d")) (nat_le id last) (deleted []) (fault_at IdNotAbove place)
        (take_literal (a Second last done id place [] []) (number_of d.text) d.at)
        (λ s. from s ws) (deleted_ids_fault ws) (literals_fault v (d ∷ ws)) unended unended
        (λ e. open_read deleted behind_deleted deleted_fault value_in deleted_step (λ acc. refl) ws [] z.1)
        (ap (λ r. and_then r (λ s. from s ws)) (same_literal (number_of d.text) d.at)
        ∙ open_read literals behind_literals (literal_fault v) literal_in literal_step (λ acc. refl) (d ∷ ws) [] z)
        ∙ ap (unless (cond (is_deletion (d ∷ ws)) (deleted_ids_fault ws)
        (or_else (order_fault last id place) (literals_fault v (d ∷ ws))))) (one_end (is_deletion (d ∷ ws)) unended)

  id_of_word : (last : ℕ) (done : List Line) (id0 place0 : ℕ) (o : Option Numeral) (at : ℕ) (ws : List Word)
      (f : Option LogFault) (r : Result (List Line) LogFault)
      → from (a Second last done (value_in o) at [] []) ws ≡ unless f r
      → and_then (take_id (a Id last done id0 place0 [] []) o at) (λ s. from s ws)
      ≡ unless (or_else (id_fault at o) f) r
  id_of_word last done id0 place0 None at ws f r e = refl
  id_of_word last done id0 place0 (Some n) at ws f r e =
      id_tests n.negative (n.value == 0) (fault_at BadNumber at) (a Second last done n.value at [] [])
      (λ s. from s ws) f r e

  -- a line without words behind its id
  empty_read : (last : ℕ) (done : List Line) (id0 place0 : ℕ) (id : Word) (more : List Word)
      (r : Result (List Line) LogFault) → is_zero id ≡ true
      → from (a Id last done id0 place0 [] []) (id ∷ more) ≡ with_read done (unless (line_fault v last id []) r)
  empty_read last done id0 place0 id more r z =
      let bad = zero_id (number_of id.text) id.at z in
      let next : Result (List Line) LogFault = from (a Second last done (id_of id) id.at [] []) more in
      id_of_word last done id0 place0 (number_of id.text) id.at more None next refl
      ∙ ap (λ f. unless (or_else f None) next) bad
      ∙ ap (λ f. with_read done (unless (or_else f (or_else (order_fault last (id_of id) id.at) None)) r)) (sym bad)

  line_read : (last : ℕ) (done : List Line) (id0 place0 : ℕ) (id d : Word) (ws more : List Word) → EndsAtZero (d ∷ ws)
      → from (a Id last done id0 place0 [] []) (id ∷ (d ∷ (ws ++ more)))
      ≡ unless (line_fault v last id (d ∷ ws))
      (cond (is_deletion (d ∷ ws)) (from (behind_deleted last done (id_of id) id.at (numbers_in ws)) more)
      (from (behind_literals last done (id_of id) id.at (literals_in (d ∷ ws))) more))
  line_read last done id0 place0 id d ws more z =
      id_of_word last done id0 place0 (number_of id.text) id.at (d ∷ (ws ++ more)) _ _
      (behind_id last done (id_of id) id.at d ws more z)

  open_line_read : (last : ℕ) (done : List Line) (id0 place0 : ℕ) (ws : List Word) → HasNoZero ws
      → from (a Id last done id0 place0 [] []) ws ≡ with_read done (open_line v last ws end)
  open_line_read last done id0 place0 [] z = ap Ok (sym (append-nil done))
  open_line_read last done id0 place0 (id ∷ ws) z =
      id_of_word last done id0 place0 (number_of id.text) id.at ws _ unended
      (open_behind_id last done (id_of id) id.at ws z.1)
      ∙ with_unless done (line_fault v last id ws) unended

  lines_read : (ps : List (List Word)) (rest : List Word) (last : ℕ) (done : List Line) (id0 place0 : ℕ) → AreEnded ps
      → HasNoZero rest
      → from (a Id last done id0 place0 [] []) (joined ps rest) ≡ with_read done (read_lines v last ps rest end)
  lines_read [] rest last done id0 place0 p z = open_line_read last done id0 place0 rest z
  lines_read ([] ∷ ps) rest last done id0 place0 p z = absurd p.0
  lines_read ((id ∷ []) ∷ []) rest last done id0 place0 p z = empty_read last done id0 place0 id rest
      (unless (hints_fault rest) unended) p.0
  lines_read ((id ∷ []) ∷ (h ∷ ps)) rest last done id0 place0 p z =
      empty_read last done id0 place0 id (joined (h ∷ ps) rest)
      (unless (hints_fault h) (with_line (Add (id_of id) [] (numbers_in h)) (read_lines v (id_of id) ps rest end))) p.0
  lines_read ((id ∷ (d ∷ ws)) ∷ []) rest last done id0 place0 p z =
      let deletion : Line = Delete (id_of id) (numbers_in ws) in
      let after : Result (List Line) LogFault = open_line v last rest end in
      let goes = branch (is_deletion (d ∷ ws)) done _ _ (with_line deletion after) (unless (hints_fault rest) unended)
      (open_line_read last (done ++ deletion ∷ []) (id_of id) id.at rest z ∙ with_more done deletion after)
      (open_read (hints last done (id_of id) id.at (literals_in (d ∷ ws)))
      (behind_hints last done (id_of id) id.at (literals_in (d ∷ ws))) hint_fault value_in
      (hint_step last done (id_of id) id.at (literals_in (d ∷ ws))) (λ acc. refl) rest [] z
      ∙ with_unless done (hints_fault rest) unended) in
      line_read last done id0 place0 id d ws rest p.0.1 ∙ ap (unless (line_fault v last id (d ∷ ws))) goes
      ∙ with_unless done (line_fault v last id (d ∷ ws)) _
  lines_read ((id ∷ (d ∷ ws)) ∷ (h ∷ ps)) rest last done id0 place0 p z =
      let deletion : Line = Delete (id_of id) (numbers_in ws) in
      let addition : Line = Add (id_of id) (literals_in (d ∷ ws)) (numbers_in h) in
      let deleting : Result (List Line) LogFault = read_lines v last (h ∷ ps) rest end in
      let adding : Result (List Line) LogFault = read_lines v (id_of id) ps rest end in
      let goes = branch (is_deletion (d ∷ ws)) done _ _ (with_line deletion deleting)
      (unless (hints_fault h) (with_line addition adding))
      (lines_read (h ∷ ps) rest last (done ++ deletion ∷ []) (id_of id) id.at p.1 z ∙ with_more done deletion deleting)
      (piece_read (hints last done (id_of id) id.at (literals_in (d ∷ ws)))
      (behind_hints last done (id_of id) id.at (literals_in (d ∷ ws))) hint_fault value_in
      (hint_step last done (id_of id) id.at (literals_in (d ∷ ws))) (λ acc. refl) h [] (joined ps rest) p.1.0
      ∙ ap (unless (hints_fault h)) (lines_read ps rest (id_of id) (done ++ addition ∷ []) (id_of id) id.at p.1.1 z
      ∙ with_more done addition adding)
      ∙ with_unless done (hints_fault h) (with_line addition adding)) in
      line_read last done id0 place0 id d ws (joined (h ∷ ps) rest) p.0.1
      ∙ ap (unless (line_fault v last id (d ∷ ws))) goes ∙ with_unless done (line_fault v last id (d ∷ ws)) _

  no_done : (r : Result (List Line) LogFault) → with_read [] r ≡ r
  no_done (Ok lines) = refl
  no_done (Err f) = refl

pub by_words : ((ws : List Word) → AreCut (pieces_of ws) ws) → (variables clauses : ℕ) (text : List ℕ)
    → read_by_words variables clauses text ≡ read_of variables clauses text
unfolding read_of
by_words cut variables clauses text =
    let end : ℕ = length text in
    let ws : List Word = words_of text in
    let c = cut ws in
    ap (λ (vs : List Word). read_words (a variables end Id clauses [] 0 0 [] []) vs end) (sym c.same)
    ∙ lines_read variables end (pieces_of ws).whole (pieces_of ws).rest clauses [] 0 0 c.whole c.rest
    ∙ no_done variables end (read_lines variables clauses (pieces_of ws).whole (pieces_of ws).rest end)
