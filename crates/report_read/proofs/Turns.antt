-- One turn of each loop.
use Rattle.std.proofs.Common.{◌≡◌, ℕ, zero, suc, ◌+◌, ◌-◌, ◌<◌, Bool, true, List, [], ◌∷◌, ◌++◌, length}
use Rattle.std.proofs.Common.{Option, Some, None, refl, sym, ap, ◌∙◌, subst, cond, arith, get_or, drop, All}
use Rattle.std.specs.Prelude.{slice_get, Err}
use Rattle.fol_sig.specs.Tables.{Tables}
use Rattle.fol_sig.specs.Updates.{with_relation_cells, with_function_cells}
use Rattle.rml_command.specs.Trees.{PrimitiveTree}
use Rattle.rml_command.specs.Goals.{is_for}
use Rattle.rml_command.specs.declared.names.Names.{Names}
use Rattle.rml_command.specs.declared.goal.About.{About}
use Rattle.base.specs.declared.refused.Refused.{Refused}
use Rattle.base.specs.declared.refused.Refused.TheVariants.{For, NoMemory}
use Rattle.printed_report.specs.declared.printed.Unread.{Unread}
use Rattle.line_scan.specs.Lines.{LinesLeft, first_of}
use Rattle.report_read.specs.Got.{Got, got, stuck, one, and_then, passed}
use Rattle.report_read.specs.Reading.{Reads, read_sizes, read_truths, read_images, read_relations, read_functions}
use Rattle.std.proofs.lemmas.List.Elements.{All-from_recursion}
use Rattle.std.specs.List.{AllByRecursion}
use Rattle.line_scan.specs.Scanning.{name_at}
use Rattle.report_read.specs.LineReading.{has_goal_among, size_in}

-- numbers that are left
one_less : (k n : ℕ) → k < n → n - k ≡ suc (n - (k + 1))
one_less k n lt = omega arith

add_one : (k : ℕ) → suc k ≡ k + 1
add_one k = omega arith

-- paths of a block
drop_get : {A : Type 0} (xs : List A) (i : ℕ) (x : A) → slice_get xs i ≡ Some x → drop i xs ≡ x ∷ drop (i + 1) xs
drop_get [] i x is = absurd (cc is)
drop_get (y ∷ ys) zero x is = let e : y ≡ x = cc is in ap (λ z. z ∷ ys) e
drop_get (y ∷ ys) (suc i) x is =
    let s : suc (i + 1) ≡ suc i + 1 = omega arith in
    drop_get ys i x is ∙ ap (λ j. x ∷ drop j (y ∷ ys)) s

pub among_turn : (a : About) (ps : List (List PrimitiveTree)) (i : ℕ) (p : List PrimitiveTree) (t : Bool)
    → slice_get ps i ≡ Some p → t ≡ is_for a p
    → has_goal_among a (drop i ps) ≡ cond t true (has_goal_among a (drop (i + 1) ps))
among_turn a ps i p t is told =
    ap (has_goal_among a) (drop_get ps i p is)
    ∙ ap (λ b. cond b true (has_goal_among a (drop (i + 1) ps))) (sym told)

-- sizes
pub sizes_turn : (names : Names) (k n size : ℕ) (done new line : List ℕ) (named : List (List ℕ))
    (old next : LinesLeft) (o : Option ℕ) → k < n
    → named ≡ names.sorts → line ≡ first_of old.lines → o ≡ size_in (name_at named k) line → o ≡ Some size
    → new ≡ done ++ size ∷ [] → next ≡ passed old
    → read_sizes names (k + 1) (n - (k + 1)) new next ≡ read_sizes names k (n - k) done old
sizes_turn names k n size done new line named old next o lt is_named is_line told found pushed pass =
    sym (ap (λ j. read_sizes names k j done old) (one_less k n lt)
    ∙ ap (λ p. and_then (one p old) (λ v more. read_sizes names (suc k) (n - (k + 1)) (done ++ v ∷ []) more))
    (ap (λ z. size_in (name_at z k) (first_of old.lines)) (sym is_named)
    ∙ ap (size_in (name_at named k)) (sym is_line) ∙ sym told ∙ found)
    ∙ ap (λ j. read_sizes names j (n - (k + 1)) (done ++ size ∷ []) (passed old)) (add_one k)
    ∙ ap (λ l. read_sizes names (k + 1) (n - (k + 1)) l (passed old)) (sym pushed)
    ∙ ap (read_sizes names (k + 1) (n - (k + 1)) new) (sym pass))

pub sizes_stop : (names : Names) (k n : ℕ) (done line : List ℕ) (named : List (List ℕ)) (old : LinesLeft)
    (o : Option ℕ) → k < n → named ≡ names.sorts → line ≡ first_of old.lines → o ≡ size_in (name_at named k) line
    → o ≡ None → read_sizes names k (n - k) done old ≡ stuck old
sizes_stop names k n done line named old o lt is_named is_line told missing =
    ap (λ j. read_sizes names k j done old) (one_less k n lt)
    ∙ ap (λ p. and_then (one p old) (λ v more. read_sizes names (suc k) (n - (k + 1)) (done ++ v ∷ []) more))
    (ap (λ z. size_in (name_at z k) (first_of old.lines)) (sym is_named)
    ∙ ap (size_in (name_at named k)) (sym is_line) ∙ sym told ∙ missing)

-- a part that halts in a greater one
pub reads_err : {A B : Type 0} (small : Got A) (great : Got B) (l : LinesLeft) (e : Refused Unread)
    → (small ≡ stuck l → great ≡ stuck l) → Reads small l (Err e) → Reads great l (Err e)
reads_err small great l (For u) so h = (so h.0, h.1)
reads_err small great l NoMemory so h = tt

pub reads_unread : {A : Type 0} (read : Got A) (l : LinesLeft) (e : Refused Unread) → read ≡ stuck l
    → e ≡ For (record { line = l.number }) → Reads read l (Err e)
reads_unread read l e halts is = subst (λ r. Reads read l (Err r)) (sym is) (halts, refl)

-- tables
pub relations_turn : (names : Names) (k n : ℕ) (s new : Tables) (cells items : List Bool) (old next : LinesLeft) → k < n
    → read_truths names s k old ≡ got cells next → items ≡ cells → new ≡ with_relation_cells s k items
    → read_relations names (k + 1) (n - (k + 1)) new next ≡ read_relations names k (n - k) s old
relations_turn names k n s new cells items old next lt read same set_is =
    sym (ap (λ j. read_relations names k j s old) (one_less k n lt)
    ∙ ap (λ g. and_then g (λ cs more. read_relations names (suc k) (n - (k + 1)) (with_relation_cells s k cs) more))
    read
    ∙ ap (λ j. read_relations names j (n - (k + 1)) (with_relation_cells s k cells) next) (add_one k)
    ∙ ap (λ t. read_relations names (k + 1) (n - (k + 1)) t next)
    (ap (with_relation_cells s k) (sym same) ∙ sym set_is))

pub relations_stop : (names : Names) (k n : ℕ) (s : Tables) (old l : LinesLeft) → k < n
    → read_truths names s k old ≡ stuck l → read_relations names k (n - k) s old ≡ stuck l
relations_stop names k n s old l lt read =
    ap (λ j. read_relations names k j s old) (one_less k n lt)
    ∙ ap (λ g. and_then g (λ cs more. read_relations names (suc k) (n - (k + 1)) (with_relation_cells s k cs) more))
    read

pub functions_turn : (names : Names) (k n : ℕ) (s new : Tables) (cells items : List ℕ) (old next : LinesLeft) → k < n
    → read_images names s k old ≡ got cells next → items ≡ cells → new ≡ with_function_cells s k items
    → read_functions names (k + 1) (n - (k + 1)) new next ≡ read_functions names k (n - k) s old
functions_turn names k n s new cells items old next lt read same set_is =
    sym (ap (λ j. read_functions names k j s old) (one_less k n lt)
    ∙ ap (λ g. and_then g (λ cs more. read_functions names (suc k) (n - (k + 1)) (with_function_cells s k cs) more))
    read
    ∙ ap (λ j. read_functions names j (n - (k + 1)) (with_function_cells s k cells) next) (add_one k)
    ∙ ap (λ t. read_functions names (k + 1) (n - (k + 1)) t next)
    (ap (with_function_cells s k) (sym same) ∙ sym set_is))

pub functions_stop : (names : Names) (k n : ℕ) (s : Tables) (old l : LinesLeft) → k < n
    → read_images names s k old ≡ stuck l → read_functions names k (n - k) s old ≡ stuck l
functions_stop names k n s old l lt read =
    ap (λ j. read_functions names k j s old) (one_less k n lt)
    ∙ ap (λ g. and_then g (λ cs more. read_functions names (suc k) (n - (k + 1)) (with_function_cells s k cs) more))
    read

-- sorts of a signature
pub sorts_in : (n : ℕ) (given ks : List ℕ) → given ≡ ks → AllByRecursion (λ k. k < n) ks → All (λ k. k < n) given
sorts_in n given ks same all =
    subst (All (λ k. k < n)) (sym same) (All-from_recursion (λ k. k < n) ks all)

pub get_is : {A : Type 0} (xs : List A) (k : ℕ) (x : A) → k < length xs → x ≡ get_or xs k x → slice_get xs k ≡ Some x
get_is [] k x lt is = absurd (omega (arith, lt))
get_is (y ∷ ys) zero x lt is = ap Some (sym is)
get_is (y ∷ ys) (suc k) x lt is = get_is ys k x (omega (arith, lt)) is
