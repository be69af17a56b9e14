-- What is written is read again.
use Rattle.std.proofs.Common.{◌≡◌, ℕ, ◌+◌, ◌<◌, ◌≤◌, Bool, true, false, List, [], ◌∷◌, ◌++◌, Some, Ok, length, refl}
use Rattle.std.proofs.Common.{sym, ◌∙◌, ap, cond, arith, append_assoc, length-append}
use Rattle.std.specs.Prelude.{◌==◌, not, codes, decimal}
use Rattle.std.proofs.lemmas.Bool.{ne_eqb, le-ltb, eq-eqb}
use Rattle.std.proofs.lemmas.List.{append-nil}
use Rattle.cnf_base.specs.declared.fault_code.CnfFaultCode.TheVariants.{VariableOutOfRange, WrongClauseCount}
use Rattle.cnf_base.specs.declared.cnf.Entry.{Entry}
use Rattle.cnf_base.specs.declared.cnf.Entry.TheVariants.{Clause, True}
use Rattle.cnf_base.specs.declared.text.LineMode.{LineMode}
use Rattle.cnf_base.specs.declared.text.LineMode.TheVariants.{LineStart, InLine}
use Rattle.cnf_base.specs.declared.text.Stage.{Stage}
use Rattle.cnf_base.specs.declared.text.Stage.TheVariants.{Variables, Clauses, Body}
use Rattle.cnf_base.specs.Literals.{literal_of, opposite, variable_of, is_positive, IsLiteral, AreLiterals}
use Rattle.cnf_base.specs.Clauses.{entry_of}
use Rattle.cnf_base.specs.Formulas.{Formula, AreEntries}
use Rattle.cnf_base.specs.Words.{Word}
use Rattle.cnf_base.specs.Modes.{words_from}
use Rattle.cnf_base.specs.Starts.{IsBetween}
use Rattle.cnf_base.specs.WordByWord.{State, at_start, fault, header_number, body_number, and_then, read_words}
use Rattle.cnf_base.specs.Reading.{read_of}
use Rattle.cnf_base.specs.Writing.{literal_text, literals_text, entries_text, text_of, CanWrite}
use Rattle.cnf_base.proofs.Literals.{literal_of-variable_of}
use Rattle.cnf_base.proofs.Lines.{words_are}
use Rattle.cnf_base.proofs.Grammar.{by_words}
use Rattle.cnf_base.proofs.Entries.{entry_kept}
use Rattle.cnf_base.proofs.Numbers.{decimal_word, digits_word, literal_word, number_of-decimal, number_of-literal}

-- the body
abbrev body : ℕ → ℕ → List Entry → List ℕ → State
body v c es ls = record { stage = Body; variables = v; count = c; entries = es; lits = ls }

after_lit : (v c : ℕ) (es : List Entry) (ls : List ℕ) (l : ℕ) (at : ℕ) → IsLiteral v l → length es < c
    → body_number (body v c es ls) (Some (record { negative = not (is_positive l); value = variable_of l })) at
    ≡ Ok (body v c es (ls ++ literal_of (not (not (is_positive l))) (variable_of l) ∷ []))
after_lit v c es ls l at h lt =
    ap (λ x. cond x (fault VariableOutOfRange at)
    (cond (length es == c) (fault WrongClauseCount at)
    (cond ((variable_of l) == 0) (Ok (body v c (es ++ entry_of [] ls ∷ []) []))
    (Ok (body v c es (ls ++ literal_of (not (not (is_positive l))) (variable_of l) ∷ []))))))
    (le-ltb v (variable_of l) h.1)
    ∙ ap (λ x. cond x (fault WrongClauseCount at)
    (cond ((variable_of l) == 0) (Ok (body v c (es ++ entry_of [] ls ∷ []) []))
    (Ok (body v c es (ls ++ literal_of (not (not (is_positive l))) (variable_of l) ∷ [])))))
    (ne_eqb (length es) c (λ e. absurd (omega (arith, lt, e))))
    ∙ ap (λ x. cond x (Ok (body v c (es ++ entry_of [] ls ∷ []) []))
    (Ok (body v c es (ls ++ literal_of (not (not (is_positive l))) (variable_of l) ∷ []))))
    (ne_eqb (variable_of l) 0 (λ e. absurd (omega (arith, h.0, e))))

pub twice : (l : ℕ) → literal_of (not (not (is_positive l))) (variable_of l) ≡ l
twice l = ap (λ b. literal_of b (variable_of l)) (not_not (is_positive l)) ∙ literal_of-variable_of l
  where
    not_not : (b : Bool) → not (not b) ≡ b
    not_not true = refl
    not_not false = refl

after_zero : (v c : ℕ) (es : List Entry) (ls : List ℕ) (at : ℕ) → length es < c
    → body_number (body v c es ls) (Some (record { negative = false; value = 0 })) at
    ≡ Ok (body v c (es ++ entry_of [] ls ∷ []) [])
after_zero v c es ls at lt =
    ap (λ x. cond x (fault VariableOutOfRange at)
    (cond (length es == c) (fault WrongClauseCount at) (Ok (body v c (es ++ entry_of [] ls ∷ []) []))))
    (le-ltb v 0 (omega arith))
    ∙ ap (λ x. cond x (fault WrongClauseCount at) (Ok (body v c (es ++ entry_of [] ls ∷ []) [])))
    (ne_eqb (length es) c (λ e. absurd (omega (arith, lt, e))))

-- a line of a clause
line_again : (ms : List ℕ) (mode : LineMode) (v c at end : ℕ) (es : List Entry) (ls : List ℕ) (rest : List ℕ)
    → IsBetween mode → v ≤ 2147483647 → AreLiterals v ms → length es < c
    → read_words (body v c es ls) (words_from mode at (literals_text ms ++ 48 ∷ 10 ∷ rest)) end
    ≡ read_words (body v c (es ++ entry_of [] (ls ++ ms) ∷ []) [])
    (words_from LineStart (at + length (literals_text ms) + 2) rest) end
line_again [] mode v c at end es ls rest o small p lt =
    let w = digits_word mode (48 ∷ []) rest 10 at o (refl, tt) (omega arith) refl in
    ap (λ ws. read_words (body v c es ls) ws end) w
    ∙ ap (λ r. and_then r (λ s. read_words s (words_from LineStart (at + 1 + 1) rest) end)) (after_zero v c es ls at lt)
    ∙ (let l = sym (append-nil ls) in let k : at + 1 + 1 ≡ at + 0 + 2 = omega arith in
    λ i. read_words (body v c (es ++ entry_of [] (l i) ∷ []) []) (words_from LineStart (k i) rest) end)
line_again (m ∷ ms) mode v c at end es ls rest o small p lt =
    let tail : List ℕ = literals_text ms ++ 48 ∷ 10 ∷ rest in
    let a : literals_text (m ∷ ms) ++ 48 ∷ 10 ∷ rest
    ≡ literal_text m ++ 32 ∷ tail = append_assoc (literal_text m) (32 ∷ literals_text ms) (48 ∷ 10 ∷ rest) in
    let next : ℕ = at + length (literal_text m) + 1 in
    ap (λ t. read_words (body v c es ls) (words_from mode at t) end) a
    ∙ ap (λ ws. read_words (body v c es ls) ws end) (literal_word mode v m tail at o small p.0)
    ∙ ap (λ o. and_then (body_number (body v c es ls) o at) (λ s. read_words s (words_from InLine next tail) end))
    (number_of-literal v m small p.0)
    ∙ ap (λ r. and_then r (λ s. read_words s (words_from InLine next tail) end)) (after_lit v c es ls m at p.0 lt)
    ∙ ap (λ x. read_words (body v c es (ls ++ x ∷ [])) (words_from InLine next tail) end) (twice m)
    ∙ line_again ms InLine v c next end es (ls ++ m ∷ []) rest tt small p.1 lt
    ∙ (let k : next + length (literals_text ms) + 2
    ≡ at + length (literals_text (m ∷ ms)) + 2 = let h = length-append (literal_text m)
    (32 ∷ literals_text ms) in omega (arith, h) in
    let l = append_assoc ls (m ∷ []) ms in
    λ i. read_words (body v c (es ++ entry_of [] (l i) ∷ []) []) (words_from LineStart (k i) rest) end)

-- a line of a clause that is always true
true_again : (v c at end : ℕ) (es : List Entry) (rest : List ℕ) → 0 < v → length es < c
    → read_words (body v c es []) (words_from LineStart at (codes "1 -1 0\n" ++ rest)) end
    ≡ read_words (body v c (es ++ True ∷ []) []) (words_from LineStart (at + 1 + 1 + 1 + 1 + 1 + 1 + 1) rest) end
unfolding opposite
true_again v c at end es rest some lt =
    ap (λ r. and_then r (λ s. read_words s (words_from InLine (at + 1 + 1) (codes "-1 0\n" ++ rest)) end))
    (after_lit v c es [] 2 at (omega arith, omega arith) lt)
    ∙ ap (λ r. and_then r (λ s. read_words s (words_from InLine (at + 1 + 1 + 1 + 1 + 1) (codes "0\n" ++ rest)) end))
    (after_lit v c es (2 ∷ []) 3 (at + 1 + 1) (omega arith, omega arith) lt)
    ∙ ap (λ r. and_then r (λ s. read_words s (words_from LineStart (at + 1 + 1 + 1 + 1 + 1 + 1 + 1) rest) end))
    (after_zero v c es (2 ∷ 3 ∷ []) (at + 1 + 1 + 1 + 1 + 1) lt)

entries_again : (es : List Entry) (v c at end : ℕ) (done : List Entry) → v ≤ 2147483647 → AreEntries v es
    → length done + length es ≡ c
    → read_words (body v c done []) (words_from LineStart at (entries_text es)) end
    ≡ Ok (record { variables = v; clauses = done ++ es })
entries_again [] v c at end done small p n =
    let e : length done ≡ c = omega arith in
    ap (λ b. cond b (Ok (record { variables = v; clauses = done })) (fault WrongClauseCount end))
    (eq-eqb (length done) c e) ∙ ap (λ es. Ok (record { variables = v; clauses = es })) (sym (append-nil done))
entries_again (Clause ls ∷ es) v c at end done small p n =
    let lt : length done < c = omega arith in
    let l1 : length (done ++ Clause ls ∷ []) + length es
    ≡ c = let h = length-append done (Clause ls ∷ []) in omega (arith, h, n) in
    ap (λ t. read_words (body v c done []) (words_from LineStart at t) end)
    (append_assoc (literals_text ls) (48 ∷ 10 ∷ []) (entries_text es))
    ∙ line_again ls LineStart v c at end done [] (entries_text es) tt small p.0.1 lt
    ∙ ap (λ e. read_words (body v c (done ++ e ∷ []) [])
    (words_from LineStart (at + length (literals_text ls) + 2) (entries_text es)) end) (entry_kept [] ls p.0.0)
    ∙ entries_again es v c (at + length (literals_text ls) + 2) end (done ++ Clause ls ∷ []) small p.1 l1
    ∙ ap (λ es. Ok (record { variables = v; clauses = es })) (append_assoc done (Clause ls ∷ []) es)
entries_again (True ∷ es) v c at end done small p n =
    let lt : length done < c = omega arith in
    let l1 : length (done ++ True ∷ []) + length es
    ≡ c = let h = length-append done (True ∷ []) in omega (arith, h, n) in
    true_again v c at end done (entries_text es) p.0 lt
    ∙ entries_again es v c (at + 1 + 1 + 1 + 1 + 1 + 1 + 1) end (done ++ True ∷ []) small p.1 l1
    ∙ ap (λ es. Ok (record { variables = v; clauses = es })) (append_assoc done (True ∷ []) es)

regrouped : (p d c r : List ℕ) → p ++ d ++ 32 ∷ c ++ 10 ∷ r ≡ p ++ (d ++ 32 ∷ (c ++ 10 ∷ r))
regrouped p d c r = append_assoc (p ++ d) (32 ∷ c) (10 ∷ r) ∙ append_assoc p d (32 ∷ (c ++ 10 ∷ r))

abbrev wants : Stage → ℕ → State
wants stage v = record { stage = stage; variables = v; count = 0; entries = []; lits = [] }

header_again : (t : List ℕ) (end : ℕ) → read_words at_start (words_from LineStart 0 (codes "p cnf " ++ t)) end
    ≡ read_words (wants Variables 0) (words_from InLine 6 t) end
header_again t end = refl

written_again : (f : Formula) → CanWrite f
    → read_words at_start (words_from LineStart 0 (text_of f)) (length (text_of f)) ≡ Ok f
written_again f h =
    let v : ℕ = f.variables in
    let c : ℕ = length f.clauses in
    let end : ℕ = length (text_of f) in
    let lines : List ℕ = entries_text f.clauses in
    let next : ℕ = 6 + length (decimal v) + 1 in
    ap (λ t. read_words at_start (words_from LineStart 0 t) end)
    (regrouped (codes "p cnf ") (decimal v) (decimal c) lines)
    ∙ header_again (decimal v ++ 32 ∷ (decimal c ++ 10 ∷ lines)) end
    ∙ ap (λ ws. read_words (wants Variables 0) ws end)
    (decimal_word InLine v (decimal c ++ 10 ∷ lines) 32 6 tt h.variables refl)
    ∙ ap (λ o. and_then (header_number o (λ n. wants Clauses n) 6)
    (λ s. read_words s (words_from InLine next (decimal c ++ 10 ∷ lines)) end)) (number_of-decimal v h.variables)
    ∙ ap (λ ws. read_words (wants Clauses v) ws end) (decimal_word InLine c lines 10 next tt h.clauses refl)
    ∙ ap (λ o. and_then (header_number o (λ n. body v n [] []) next)
    (λ s. read_words s (words_from LineStart (next + length (decimal c) + 1) lines) end))
    (number_of-decimal c h.clauses)
    ∙ entries_again f.clauses v c (next + length (decimal c) + 1) end [] h.variables h.formula (omega arith)

pub read_again : (f : Formula) → CanWrite f → read_of (text_of f) ≡ Ok f
read_again f h =
    let text : List ℕ = text_of f in
    sym (by_words text) ∙ ap (λ (ws : List Word). read_words at_start ws (length text)) (sym (words_are text))
    ∙ written_again f h
