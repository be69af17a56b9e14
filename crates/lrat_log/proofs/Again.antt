-- What is written is read again.
use Rattle.std.proofs.Common.{◌≡◌, ℕ, ◌+◌, ◌<◌, ◌≤◌, Bool, true, false, List, [], ◌∷◌, ◌++◌, Some, Ok, length, refl}
use Rattle.std.proofs.Common.{sym, ◌∙◌, ap, cond, arith, append_assoc}
use Rattle.std.specs.Prelude.{◌==◌, not, nat_le, codes, decimal}
use Rattle.std.specs.Str.{bytes_eq}
use Rattle.std.proofs.lemmas.Bool.{ne_eqb, le-ltb, lt-leb}
use Rattle.std.proofs.lemmas.List.{append-nil}
use Rattle.std.proofs.lemmas.Slice.Eq.{bytes_eq-Decides}
use Rattle.cnf_base.specs.declared.text.LineMode.{LineMode}
use Rattle.cnf_base.specs.declared.text.LineMode.TheVariants.{LineStart, InLine}
use Rattle.cnf_base.specs.declared.text.Numeral.{Numeral}
use Rattle.cnf_base.specs.Literals.{literal_of, variable_of, is_positive, IsLiteral, AreLiterals}
use Rattle.cnf_base.specs.Words.{Word, words_of}
use Rattle.base.specs.Bytes.{is_blank}
use Rattle.cnf_base.specs.Pieces.{pieces_of}
use Rattle.cnf_base.specs.Cuts.{AreCut}
use Rattle.cnf_base.specs.Modes.{behind, words_from}
use Rattle.cnf_base.specs.Starts.{IsBetween}
use Rattle.cnf_base.specs.Numerals.{number_of}
use Rattle.cnf_base.specs.Writing.{literal_text, literals_text}
use Rattle.lrat_log.specs.declared.fault_code.LogFaultCode.TheVariants.{BadNumber, IdNotAbove, VariableOutOfRange}
use Rattle.lrat_log.specs.declared.line.Line.{Line}
use Rattle.lrat_log.specs.declared.line.Line.TheVariants.{Add, Delete}
use Rattle.lrat_log.specs.declared.text.Stage.{Stage}
use Rattle.lrat_log.specs.declared.text.Stage.TheVariants.{Id, Second, Literals, Hints, Deleted}
use Rattle.lrat_log.specs.Logs.{IsId, AreIds, IsLogOver, IsLog}
use Rattle.lrat_log.specs.WordByWord.{State, fault, take_id, take_literal, take_hint, take_deleted, take_word}
use Rattle.lrat_log.specs.WordByWord.{with_addition, with_deletion, and_then, read_words}
use Rattle.lrat_log.specs.Reading.{read_of}
use Rattle.lrat_log.specs.Writing.{ids_text, text_of}
use Rattle.lrat_log.proofs.Grammar.{by_words}

-- what is known of words, from the crate of the words
pub record AreWords : Type 0 where
  pub number : (mode : LineMode) (n : ℕ) (rest : List ℕ) (b at : ℕ) → IsBetween mode → n ≤ 2147483647
      → is_blank b ≡ true
      → words_from mode at (decimal n ++ b ∷ rest)
      ≡ record { at = at; text = decimal n } ∷ words_from (behind b) (at + length (decimal n) + 1) rest
  pub number_value : (n : ℕ) → n ≤ 2147483647 → number_of (decimal n) ≡ Some (record { negative = false; value = n })
  pub literal : (mode : LineMode) (n l : ℕ) (rest : List ℕ) (at : ℕ) → IsBetween mode → n ≤ 2147483647 → IsLiteral n l
      → words_from mode at (literal_text l ++ 32 ∷ rest)
      ≡ record { at = at; text = literal_text l } ∷ words_from InLine (at + length (literal_text l) + 1) rest
  pub literal_value : (n l : ℕ) → n ≤ 2147483647 → IsLiteral n l
      → number_of (literal_text l) ≡ Some (record { negative = not (is_positive l); value = variable_of l })
  pub same : (l : ℕ) → literal_of (not (not (is_positive l))) (variable_of l) ≡ l

abbrev a_state : Stage → ℕ → ℕ → List Line → ℕ → ℕ → List ℕ → List ℕ → State
a_state x v last done id place ls ns = record {
  stage = x;
  variables = v;
  last = last;
  lines = done;
  id = id;
  place = place;
  lits = ls;
  ids = ns;
}

abbrev number : Bool → ℕ → Numeral
number s n = record { negative = s; value = n }

-- a number is no `d`
not_d : (w : List ℕ) (n : Numeral) → number_of w ≡ Some n → w ≡ 100 ∷ [] → ⊥
not_d w n h e = let q : number_of (100 ∷ []) ≡ Some n = rw e at h in absurd (cc)

no_d : (w : List ℕ) (n : Numeral) → number_of w ≡ Some n → bytes_eq w (codes "d") ≡ false
no_d w n h = at (bytes_eq w (codes "d")) refl
  where
    at : (b : Bool) → bytes_eq w (codes "d") ≡ b → b ≡ false
    at true e = absurd (not_d w n h ((bytes_eq-Decides w (codes "d")).0 e))
    at false e = refl

regrouped_addition : (d ls hs rest : List ℕ)
    → ((((d ++ 32 ∷ ls) ++ 48 ∷ 32 ∷ []) ++ hs) ++ 48 ∷ 10 ∷ []) ++ rest
    ≡ d ++ (32 ∷ (ls ++ (48 ∷ 32 ∷ (hs ++ (48 ∷ 10 ∷ rest)))))
regrouped_addition d ls hs rest =
    append_assoc (((d ++ 32 ∷ ls) ++ 48 ∷ 32 ∷ []) ++ hs) (48 ∷ 10 ∷ []) rest
    ∙ append_assoc ((d ++ 32 ∷ ls) ++ 48 ∷ 32 ∷ []) hs (48 ∷ 10 ∷ rest)
    ∙ append_assoc (d ++ 32 ∷ ls) (48 ∷ 32 ∷ []) (hs ++ (48 ∷ 10 ∷ rest))
    ∙ append_assoc d (32 ∷ ls) (48 ∷ 32 ∷ (hs ++ (48 ∷ 10 ∷ rest)))

regrouped_deletion : (d ids rest : List ℕ)
    → (((d ++ 32 ∷ 100 ∷ 32 ∷ []) ++ ids) ++ 48 ∷ 10 ∷ []) ++ rest ≡ d ++ (32 ∷ (100 ∷ 32 ∷ (ids ++ (48 ∷ 10 ∷ rest))))
regrouped_deletion d ids rest =
    append_assoc ((d ++ 32 ∷ 100 ∷ 32 ∷ []) ++ ids) (48 ∷ 10 ∷ []) rest
    ∙ append_assoc (d ++ 32 ∷ 100 ∷ 32 ∷ []) ids (48 ∷ 10 ∷ rest)
    ∙ append_assoc d (32 ∷ 100 ∷ 32 ∷ []) (ids ++ (48 ∷ 10 ∷ rest))

module _ (words : AreWords) (v : ℕ) where
  -- From s the words of a text lead to t, wherever they stand in a line.
  abbrev Leads : State → List ℕ → State → List ℕ → Type 0
  Leads s text t rest = (at end : ℕ) → (next : ℕ) × (read_words s (words_from InLine at text) end
      ≡ read_words t (words_from InLine next rest) end)

  id_step : (last : ℕ) (done : List Line) (id id0 place : ℕ) (ls ns : List ℕ) (at : ℕ) → IsId id
      → take_id (a_state Id v last done id0 place ls ns) (Some (number false id)) at
      ≡ Ok (a_state Second v last done id at ls ns)
  id_step last done id id0 place ls ns at h =
      ap (λ b. cond b (fault BadNumber at) (Ok (a_state Second v last done id at ls ns)))
      (ne_eqb id 0 (λ e. absurd (omega (arith, h.0, e))))

  -- where literals are read: behind the id and behind a literal
  abbrev TakesLiterals : Stage → ℕ → ℕ → Type 0
  TakesLiterals Second last id = last < id
  TakesLiterals Literals last id = Unit {0}
  TakesLiterals Id last id = ⊥
  TakesLiterals Hints last id = ⊥
  TakesLiterals Deleted last id = ⊥

  takes_literal : (x : Stage) (last : ℕ) (done : List Line) (id place : ℕ) (ls ns : List ℕ) (w : Word) (n : Numeral)
      → TakesLiterals x last id → number_of w.text ≡ Some n
      → take_word (a_state x v last done id place ls ns) w
      ≡ take_literal (a_state x v last done id place ls ns) (Some n) w.at
  takes_literal Id last done id place ls ns w n t e = absurd t
  takes_literal Hints last done id place ls ns w n t e = absurd t
  takes_literal Deleted last done id place ls ns w n t e = absurd t
  takes_literal Literals last done id place ls ns w n t e = ap
      (λ o. take_literal (a_state Literals v last done id place ls ns) o w.at) e
  takes_literal Second last done id place ls ns w n t e =
      let s : State = a_state Second v last done id place ls ns in
      ap (λ b. cond b (Ok (a_state Deleted v last done id place ls ns))
      (cond (nat_le id last) (fault IdNotAbove place) (take_literal s (number_of w.text) w.at))) (no_d w.text n e)
      ∙ ap (λ b. cond b (fault IdNotAbove place) (take_literal s (number_of w.text) w.at)) (lt-leb id last t)
      ∙ ap (λ o. take_literal s o w.at) e

  literal_step : (x : Stage) (last : ℕ) (done : List Line) (id place : ℕ) (ls ns : List ℕ) (l at : ℕ) → IsLiteral v l
      → take_literal (a_state x v last done id place ls ns) (Some (number (not (is_positive l)) (variable_of l))) at
      ≡ Ok (a_state Literals v last done id place (ls ++ l ∷ []) ns)
  literal_step x last done id place ls ns l at h =
      let made : State = a_state Literals v last done id place
      (ls ++ literal_of (not (not (is_positive l))) (variable_of l) ∷ []) ns in
      let zero : State = a_state Hints v last done id place ls ns in
      ap (λ b. cond b (fault VariableOutOfRange at) (cond (variable_of l == 0) (Ok zero) (Ok made)))
      (le-ltb v (variable_of l) h.1)
      ∙ ap (λ b. cond b (Ok zero) (Ok made)) (ne_eqb (variable_of l) 0 (λ e. absurd (omega (arith, h.0, e))))
      ∙ ap (λ (k : ℕ). Ok (a_state Literals v last done id place (ls ++ k ∷ []) ns)) (words.same l)

  zero_step : (x : Stage) (last : ℕ) (done : List Line) (id place : ℕ) (ls ns : List ℕ) (at : ℕ)
      → take_literal (a_state x v last done id place ls ns) (Some (number false 0)) at
      ≡ Ok (a_state Hints v last done id place ls ns)
  zero_step x last done id place ls ns at = ap
      (λ b. cond b (fault VariableOutOfRange at) (Ok (a_state Hints v last done id place ls ns)))
      (le-ltb v 0 (omega arith))

  literals_again : (ms : List ℕ) (x : Stage) (last : ℕ) (done : List Line) (id place : ℕ) (ls : List ℕ)
      (rest : List ℕ) → AreLiterals 2147483647 ms → AreLiterals v ms → TakesLiterals x last id
      → Leads (a_state x v last done id place ls []) (literals_text ms ++ 48 ∷ 32 ∷ rest)
      (a_state Hints v last done id place (ls ++ ms) []) rest
  literals_again [] x last done id place ls rest q p t at end = (
    at + 1 + 1,
    ap (λ r. and_then r (λ s. read_words s (words_from InLine (at + 1 + 1) rest) end))
        (takes_literal x last done id place ls [] (record { at = at; text = 48 ∷ [] }) (number false 0) t refl
        ∙ zero_step x last done id place ls [] at)
        ∙ ap (λ (ks : List ℕ). read_words (a_state Hints v last done id place ks [])
        (words_from InLine (at + 1 + 1) rest) end) (sym (append-nil ls)),
  )
  literals_again (m ∷ ms) x last done id place ls rest q p t at end =
      let tail : List ℕ = literals_text ms ++ 48 ∷ 32 ∷ rest in
      let next : ℕ = at + length (literal_text m) + 1 in
      let behind = literals_again ms Literals last done id place (ls ++ m ∷ []) rest q.1 p.1 tt next end in (
        behind.0,
        ap (λ (text : List ℕ). read_words (a_state x v last done id place ls []) (words_from InLine at text) end)
            (append_assoc (literal_text m) (32 ∷ literals_text ms) (48 ∷ 32 ∷ rest))
            ∙ ap (λ (ws : List Word). read_words (a_state x v last done id place ls []) ws end)
            (words.literal InLine 2147483647 m tail at tt (omega arith) q.0)
            ∙ ap (λ r. and_then r (λ s. read_words s (words_from InLine next tail) end))
            (takes_literal x last done id place ls [] (record { at = at; text = literal_text m })
            (number (not (is_positive m)) (variable_of m)) t (words.literal_value 2147483647 m (omega arith) q.0)
            ∙ literal_step x last done id place ls [] m at p.0)
            ∙ behind.1
            ∙ ap (λ (ks : List ℕ). read_words (a_state Hints v last done id place ks [])
            (words_from InLine behind.0 rest) end) (append_assoc ls (m ∷ []) ms),
      )

  -- ids, up to the 0 behind them
  hint_step : (last : ℕ) (done : List Line) (id place : ℕ) (ls ns : List ℕ) (n at : ℕ) → IsId n
      → take_hint (a_state Hints v last done id place ls ns) (Some (number false n)) at
      ≡ Ok (a_state Hints v last done id place ls (ns ++ n ∷ []))
  hint_step last done id place ls ns n at h =
      ap (λ b. cond b (Ok (with_addition (a_state Hints v last done id place ls ns)))
      (Ok (a_state Hints v last done id place ls (ns ++ n ∷ []))))
      (ne_eqb n 0 (λ e. absurd (omega (arith, h.0, e))))

  deleted_step : (last : ℕ) (done : List Line) (id place : ℕ) (ls ns : List ℕ) (n at : ℕ) → IsId n
      → take_deleted (a_state Deleted v last done id place ls ns) (Some (number false n)) at
      ≡ Ok (a_state Deleted v last done id place ls (ns ++ n ∷ []))
  deleted_step last done id place ls ns n at h =
      ap (λ b. cond b (Ok (with_deletion (a_state Deleted v last done id place ls ns)))
      (Ok (a_state Deleted v last done id place ls (ns ++ n ∷ []))))
      (ne_eqb n 0 (λ e. absurd (omega (arith, h.0, e))))

  -- the same for both: x is Hints or Deleted
  abbrev TakesIds : Stage → (State → State) → Type 0
  TakesIds x close =
      (last : ℕ) (done : List Line) (id place : ℕ) (ls ns : List ℕ) (w : Word) (n : ℕ)
      → number_of w.text ≡ Some (number false n)
      → (IsId n → take_word (a_state x v last done id place ls ns) w
      ≡ Ok (a_state x v last done id place ls (ns ++ n ∷ [])))
      × (n ≡ 0 → take_word (a_state x v last done id place ls ns) w ≡ Ok (close (a_state x v last done id place ls ns)))

  hints_take : TakesIds Hints with_addition
  hints_take last done id place ls ns w n e = (
    λ h. ap (λ o. take_hint (a_state Hints v last done id place ls ns) o w.at) e
        ∙ hint_step last done id place ls ns n w.at h,
    λ z. ap (λ o. take_hint (a_state Hints v last done id place ls ns) o w.at) (e ∙ ap (λ k. Some (number false k)) z),
  )

  deleted_take : TakesIds Deleted with_deletion
  deleted_take last done id place ls ns w n e = (
    λ h. ap (λ o. take_deleted (a_state Deleted v last done id place ls ns) o w.at) e
        ∙ deleted_step last done id place ls ns n w.at h,
    λ z. ap (λ o. take_deleted (a_state Deleted v last done id place ls ns) o w.at)
        (e ∙ ap (λ k. Some (number false k)) z),
  )

  ids_again : (x : Stage) (close : State → State) → TakesIds x close
      → (ks : List ℕ) (last : ℕ) (done : List Line) (id place : ℕ) (ls ns : List ℕ) (rest : List ℕ) → AreIds ks
      → (at end : ℕ) → (next : ℕ) × (read_words (a_state x v last done id place ls ns)
      (words_from InLine at (ids_text ks ++ 48 ∷ 10 ∷ rest)) end
      ≡ read_words (close (a_state x v last done id place ls (ns ++ ks))) (words_from LineStart next rest) end)
  ids_again x close takes [] last done id place ls ns rest p at end = (
    at + 1 + 1,
    ap (λ r. and_then r (λ s. read_words s (words_from LineStart (at + 1 + 1) rest) end))
        ((takes last done id place ls ns (record { at = at; text = 48 ∷ [] }) 0 refl).1 refl)
        ∙ ap (λ (ms : List ℕ). read_words (close (a_state x v last done id place ls ms))
        (words_from LineStart (at + 1 + 1) rest) end) (sym (append-nil ns)),
  )
  ids_again x close takes (k ∷ ks) last done id place ls ns rest p at end =
      let tail : List ℕ = ids_text ks ++ 48 ∷ 10 ∷ rest in
      let next : ℕ = at + length (decimal k) + 1 in
      let behind = ids_again x close takes ks last done id place ls (ns ++ k ∷ []) rest p.1 next end in (
        behind.0,
        ap (λ (text : List ℕ). read_words (a_state x v last done id place ls ns) (words_from InLine at text) end)
            (append_assoc (decimal k) (32 ∷ ids_text ks) (48 ∷ 10 ∷ rest))
            ∙ ap (λ (ws : List Word). read_words (a_state x v last done id place ls ns) ws end)
            (words.number InLine k tail 32 at tt p.0.1 refl)
            ∙ ap (λ r. and_then r (λ s. read_words s (words_from InLine next tail) end))
            ((takes last done id place ls ns (record { at = at; text = decimal k }) k
            (words.number_value k p.0.1)).0 p.0)
            ∙ behind.1
            ∙ ap (λ (ms : List ℕ). read_words (close (a_state x v last done id place ls ms))
            (words_from LineStart behind.0 rest) end) (append_assoc ns (k ∷ []) ks),
      )

  -- the id of a line
  id_again : (id last : ℕ) (done : List Line) (id0 place : ℕ) (tail : List ℕ) (at end : ℕ) → IsId id
      → read_words (a_state Id v last done id0 place [] []) (words_from LineStart at (decimal id ++ 32 ∷ tail)) end
      ≡ read_words (a_state Second v last done id at [] []) (words_from InLine (at + length (decimal id) + 1) tail) end
  id_again id last done id0 place tail at end h =
      let s : State = a_state Id v last done id0 place [] [] in
      let next : ℕ = at + length (decimal id) + 1 in
      ap (λ (ws : List Word). read_words s ws end) (words.number LineStart id tail 32 at tt h.1 refl)
      ∙ ap (λ r. and_then r (λ s. read_words s (words_from InLine next tail) end))
      (ap (λ o. take_id s o at) (words.number_value id h.1) ∙ id_step last done id id0 place [] [] at h)

  lines_again : (lines : List Line) (low last : ℕ) (done : List Line) (id0 place at end : ℕ)
      → IsLogOver 2147483647 low lines → IsLogOver v last lines
      → read_words (a_state Id v last done id0 place [] []) (words_from LineStart at (text_of lines)) end
      ≡ Ok (done ++ lines)
  lines_again [] low last done id0 place at end q p = ap Ok (sym (append-nil done))
  lines_again (Add id ls hints ∷ lines) low last done id0 place at end q p =
      let rest : List ℕ = text_of lines in
      let hints_tail : List ℕ = ids_text hints ++ 48 ∷ 10 ∷ rest in
      let next : ℕ = at + length (decimal id) + 1 in
      let a = literals_again ls Second last done id at [] hints_tail q.0.2 p.0.2 p.0.0 next end in
      let b = ids_again Hints with_addition hints_take hints last done id at ls [] rest p.0.3 a.0 end in
      let c = lines_again lines id id (done ++ Add id ls hints ∷ []) id at b.0 end q.1 p.1 in
      ap (λ (text : List ℕ). read_words (a_state Id v last done id0 place [] []) (words_from LineStart at text) end)
      (regrouped_addition (decimal id) (literals_text ls) (ids_text hints) rest)
      ∙ id_again id last done id0 place (literals_text ls ++ 48 ∷ 32 ∷ hints_tail) at end p.0.1
      ∙ a.1 ∙ b.1 ∙ c ∙ ap Ok (append_assoc done (Add id ls hints ∷ []) lines)
  lines_again (Delete id ids ∷ lines) low last done id0 place at end q p =
      let rest : List ℕ = text_of lines in
      let ids_tail : List ℕ = ids_text ids ++ 48 ∷ 10 ∷ rest in
      let next : ℕ = at + length (decimal id) + 1 in
      let b = ids_again Deleted with_deletion deleted_take ids last done id at [] [] rest p.0.1 (next + 1 + 1) end in
      let c = lines_again lines low last (done ++ Delete id ids ∷ []) id at b.0 end q.1 p.1 in
      ap (λ (text : List ℕ). read_words (a_state Id v last done id0 place [] []) (words_from LineStart at text) end)
      (regrouped_deletion (decimal id) (ids_text ids) rest)
      ∙ id_again id last done id0 place (100 ∷ 32 ∷ ids_tail) at end p.0.0
      ∙ b.1 ∙ c ∙ ap Ok (append_assoc done (Delete id ids ∷ []) lines)

-- what is known of the words of a text, and of their pieces
module _ (words : AreWords) (same : (text : List ℕ) → words_from LineStart 0 text ≡ words_of text)
    (cut : (ws : List Word) → AreCut (pieces_of ws) ws) where
  pub read_again : (v clauses : ℕ) (lines : List Line) → IsLog lines → IsLogOver v clauses lines
      → read_of v clauses (text_of lines) ≡ Ok lines
  read_again v clauses lines q p =
      let text : List ℕ = text_of lines in
      sym (by_words cut v clauses text)
      ∙ ap (λ (ws : List Word). read_words (a_state Id v clauses [] 0 0 [] []) ws (length text)) (sym (same text))
      ∙ lines_again words v lines 0 clauses [] 0 0 0 (length text) q p
