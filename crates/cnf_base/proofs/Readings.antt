-- What is read has literals of its variables.
use Rattle.std.proofs.Common.{◌≡◌, ℕ, ◌<◌, ◌≤◌, Bool, true, false, List, [], ◌∷◌, ◌++◌, Option, Some, None, Result}
use Rattle.std.proofs.Common.{Ok, Err, length, refl, sym, ◌∙◌, ap, subst, cond, arith}
use Rattle.std.specs.Prelude.{◌==◌, not, nat_lt, codes}
use Rattle.std.specs.Str.{bytes_eq}
use Rattle.std.proofs.lemmas.Bool.{ltb-false, eqb-false}
use Rattle.base.specs.declared.refused.Refused.{Refused}
use Rattle.base.specs.declared.refused.Refused.TheVariants.{For, NoMemory}
use Rattle.cnf_base.specs.Answers.{Fails}
use Rattle.cnf_base.specs.declared.fault_code.CnfFaultCode.TheVariants.{BadHeader, WrongClauseCount}
use Rattle.cnf_base.specs.declared.cnf.Entry.{Entry}
use Rattle.cnf_base.specs.declared.text.Stage.{Stage}
use Rattle.cnf_base.specs.declared.text.Stage.TheVariants.{Problem, Format, Variables, Clauses, Body}
use Rattle.cnf_base.specs.declared.text.Numeral.{Numeral}
use Rattle.cnf_base.specs.declared.text.CnfFault.{CnfFault}
use Rattle.cnf_base.specs.Literals.{literal_of, IsLiteral, AreLiterals}
use Rattle.cnf_base.specs.Clauses.{IsEntry, entry_of}
use Rattle.cnf_base.specs.Formulas.{Formula, AreEntries, IsFormula}
use Rattle.cnf_base.specs.Words.{Word, words_of}
use Rattle.cnf_base.specs.Numerals.{number_of}
use Rattle.cnf_base.specs.WordByWord.{State, at_start, fault, header_number, body_number, take_at, take_word, ended}
use Rattle.cnf_base.specs.WordByWord.{ended_at, ended_body, and_then, read_words, read_by_words}
use Rattle.cnf_base.proofs.Entries.{entry_in, push_literal}
use Rattle.cnf_base.proofs.Literals.{variable_of-literal_of}

push_entry : (m : ℕ) (xs : List Entry) (e : Entry) → AreEntries m xs → IsEntry m e → AreEntries m (xs ++ e ∷ [])
push_entry m [] e p q = (q, tt)
push_entry m (x ∷ xs) e p q = (p.0, push_entry m xs e p.1 q)

a_literal : (m n : ℕ) (s : Bool) → 0 < n → n ≤ m → IsLiteral m (literal_of s n)
a_literal m n s h g = subst (λ (v : ℕ). (0 < v) × (v ≤ m)) (sym (variable_of-literal_of s n)) (h, g)

-- before the body there is nothing
abbrev FineAt : Stage → State → Type 0
FineAt Problem s = (s.entries ≡ []) × (s.lits ≡ [])
FineAt Format s = (s.entries ≡ []) × (s.lits ≡ [])
FineAt Variables s = (s.entries ≡ []) × (s.lits ≡ [])
FineAt Clauses s = (s.entries ≡ []) × (s.lits ≡ [])
FineAt Body s = AreEntries s.variables s.entries × AreLiterals s.variables s.lits

abbrev Fine : State → Type 0
Fine s = FineAt s.stage s

abbrev FineResult : Result State CnfFault → Type 0
FineResult (Ok s) = Fine s
FineResult (Err f) = Unit {0}

fine_cond : (b : Bool) (x y : Result State CnfFault) → (b ≡ true → FineResult x) → (b ≡ false → FineResult y)
    → FineResult (cond b x y)
fine_cond true x y p q = p refl
fine_cond false x y p q = q refl

fine_header : (o : Option Numeral) (go : ℕ → State) (at : ℕ) → ((n : ℕ) → Fine (go n))
    → FineResult (header_number o go at)
fine_header None go at h = tt
fine_header (Some n) go at h = fine_cond n.negative (fault BadHeader at) (Ok (go n.value)) (λ _. tt) (λ _. h n.value)

nothing_in : (m : ℕ) (es : List Entry) → es ≡ [] → AreEntries m es
nothing_in m es e = subst (AreEntries m) (sym e) tt

no_lits_in : (m : ℕ) (ls : List ℕ) → ls ≡ [] → AreLiterals m ls
no_lits_in m ls e = subst (AreLiterals m) (sym e) tt

positive : (n : ℕ) → (n == 0) ≡ false → 0 < n
positive n e = let h = eqb-false n 0 e in omega (arith, h)

fine_body : (s : State) (o : Option Numeral) (at : ℕ) → s.stage ≡ Body → AreEntries s.variables s.entries
    → AreLiterals s.variables s.lits → FineResult (body_number s o at)
fine_body s None at b es ls = tt
fine_body s (Some n) at b es ls =
    fine_cond (nat_lt s.variables n.value) _ _ (λ _. tt) (λ within.
    fine_cond (length s.entries == s.count) _ _ (λ _. tt) (λ _.
    fine_cond (n.value == 0) _ _
    (λ _. subst (λ (x : Stage). FineAt x (record s { entries = s.entries ++ entry_of [] s.lits ∷ []; lits = [] }))
    (sym b)
    (push_entry s.variables s.entries (entry_of [] s.lits) es (entry_in s.variables [] s.lits tt tt ls), tt))
    (λ some. subst (λ (x : Stage). FineAt x (record s { lits = s.lits ++ literal_of (not n.negative) n.value ∷ [] }))
    (sym b) (
      es,
      push_literal s.variables s.lits (literal_of (not n.negative) n.value) ls
          (a_literal s.variables n.value (not n.negative) (positive n.value some)
          (ltb-false s.variables n.value within)),
    ))))

fine_word : (x : Stage) (s : State) (w : Word) → s.stage ≡ x → FineAt x s → FineResult (take_at x s w)
fine_word Problem s w e h = fine_cond (bytes_eq w.text (codes "p")) _ _ (λ _. h) (λ _. tt)
fine_word Format s w e h = fine_cond (bytes_eq w.text (codes "cnf")) _ _ (λ _. h) (λ _. tt)
fine_word Variables s w e h = fine_header (number_of w.text) (λ n. record s { stage = Clauses; variables = n }) w.at
    (λ n. h)
fine_word Clauses s w e h = fine_header (number_of w.text) (λ n. record s { stage = Body; count = n }) w.at
    (λ n. (nothing_in s.variables s.entries h.0, no_lits_in s.variables s.lits h.1))
fine_word Body s w e h = fine_body s (number_of w.text) w.at e h.0 h.1

said_cond : (b : Bool) (x f : Formula) (g : CnfFault) → cond b (Ok x) (Err g) ≡ Ok f → x ≡ f
said_cond true x f g h = cc h
said_cond false x f g h = cc h

fine_lits : (s : State) (ls : List ℕ) (end : ℕ) (f : Formula) → AreEntries s.variables s.entries
    → ended_body s ls end ≡ Ok f → IsFormula f
fine_lits s (l ∷ ls) end f es h = cc h
fine_lits s [] end f es h = subst IsFormula
    (said_cond (length s.entries == s.count) (record { variables = s.variables; clauses = s.entries }) f
    (record { code = WrongClauseCount; at = end }) h) es

fine_end : (x : Stage) (s : State) (end : ℕ) (f : Formula) → FineAt x s → ended_at x s end ≡ Ok f → IsFormula f
fine_end Problem s end f p h = cc h
fine_end Format s end f p h = cc h
fine_end Variables s end f p h = cc h
fine_end Clauses s end f p h = cc h
fine_end Body s end f p h = fine_lits s s.lits end f p.0 h

fine_then : (r : Result State CnfFault) (go : State → Result Formula CnfFault) (f : Formula) → FineResult r
    → ((s : State) → Fine s → go s ≡ Ok f → IsFormula f)
    → and_then r go ≡ Ok f → IsFormula f
fine_then (Ok s) go f p k h = k s p h
fine_then (Err g) go f p k h = cc h

fine_read : (ws : List Word) (s : State) (end : ℕ) (f : Formula) → Fine s → read_words s ws end ≡ Ok f → IsFormula f
fine_read [] s end f p h = fine_end s.stage s end f p h
fine_read (w ∷ ws) s end f p h = fine_then (take_word s w) (λ s. read_words s ws end) f (fine_word s.stage s w refl p)
    (λ s q. fine_read ws s end f q) h

pub read_is_formula : (text : List ℕ) (f : Formula) → read_by_words text ≡ Ok f → IsFormula f
read_is_formula text f h = fine_read (words_of text) at_start (length text) f (refl, refl) h

-- where no words are left
pub end_is_formula : (text : List ℕ) (ws : List Word) (s : State) (f : Formula) → ws ≡ []
    → read_words s ws (length text) ≡ read_by_words text → ended s (length text) ≡ Ok f → IsFormula f
end_is_formula text ws s f e same h =
    read_is_formula text f (sym same ∙ ap (λ (xs : List Word). read_words s xs (length text)) e ∙ h)

pub fails_as : {A F : Type 0} (said other : Result A F) (e : Refused F) → said ≡ other → Fails said e → Fails other e
fails_as said other (For f) is h = sym is ∙ h
fails_as said other NoMemory is h = tt
