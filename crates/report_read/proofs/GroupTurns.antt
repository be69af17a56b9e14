-- The turns of the loops over groups, and what is made of a whole text.
use Rattle.std.proofs.Common.{◌≡◌, ℕ, suc, ◌+◌, ◌-◌, ◌<◌, ◌≤◌, List, [], ◌∷◌, ◌++◌, length, map, Result, Ok, Err}
use Rattle.std.proofs.Common.{refl, sym, ap, ◌∙◌, subst, arith, append_assoc}
use Rattle.std.specs.Prelude.{◌^◌, IfOk, IfErr}
use Rattle.std.specs.List.{flat_map}
use Rattle.base.specs.Because.{Because}
use Rattle.fol_sig.specs.Tables.{IsSignature}
use Rattle.rml_command.specs.Fragment.{IsChecked}
use Rattle.printed_report.specs.PrintedReports.{IsPrinted, IsRead, IsUnread}
use Rattle.printed_report.specs.declared.printed.Printed.{Printed}
use Rattle.report_read.specs.Laws.{ReadingIsExact, IsReadBack}
use Rattle.base.specs.Lists.{count_from}
use Rattle.base.specs.declared.refused.Refused.{Refused}
use Rattle.base.specs.declared.refused.Refused.TheVariants.{For, NoMemory}
use Rattle.rml_command.specs.Models.{ModelTree}
use Rattle.rml_command.specs.declared.goal.Head.{Head}
use Rattle.line_scan.specs.Lines.{LinesLeft}
use Rattle.printed_report.specs.declared.printed.Unread.{Unread}
use Rattle.printed_report.specs.declared.printed.PrintedGroup.{PrintedGroup}
use Rattle.report_read.specs.Got.{Got, got, stuck, and_then}
use Rattle.report_read.specs.Reading.{Reads, ReadsText, read_group, read_groups}
use Rattle.report_read.proofs.Parts.{got_value}
use Rattle.report_read.proofs.Turns.{reads_err}

module _ (m : ModelTree) where
  groups_join : (gs hs : List Head) (done : List PrintedGroup) (left : LinesLeft)
      → read_groups m (gs ++ hs) done left ≡ and_then (read_groups m gs done left) (read_groups m hs)
  groups_join [] hs done left = refl
  groups_join (g ∷ gs) hs done left = by (read_group m g left) (λ x more. groups_join gs hs (done ++ x ∷ []) more)
    where
      by : (r : Got PrintedGroup)
          → ((x : PrintedGroup) (more : LinesLeft) → read_groups m (gs ++ hs) (done ++ x ∷ []) more
          ≡ and_then (read_groups m gs (done ++ x ∷ []) more) (read_groups m hs))
          → and_then r (λ x more. read_groups m (gs ++ hs) (done ++ x ∷ []) more)
          ≡ and_then (and_then r (λ x more. read_groups m gs (done ++ x ∷ []) more)) (read_groups m hs)
      by (got x more) h = h x more
      by (stuck l) h = refl

  pub groups_next : (gs hs : List Head) (done new : List PrintedGroup) (old next : LinesLeft)
      → read_groups m gs done old ≡ got new next → read_groups m (gs ++ hs) done old ≡ read_groups m hs new next
  groups_next gs hs done new old next e =
      groups_join gs hs done old ∙ ap (λ g. and_then g (read_groups m hs)) e

  pub groups_halt : (gs hs : List Head) (done : List PrintedGroup) (old l : LinesLeft)
      → read_groups m gs done old ≡ stuck l → read_groups m (gs ++ hs) done old ≡ stuck l
  groups_halt gs hs done old l e = groups_join gs hs done old ∙ ap (λ g. and_then g (read_groups m hs)) e

  -- where the first groups are refused
  pub groups_err : (gs hs all : List Head) (done before : List PrintedGroup) (old start l : LinesLeft)
      (e : Refused Unread) → read_groups m (gs ++ hs) done old ≡ read_groups m all before start
      → Reads (read_groups m gs done old) l (Err e) → Reads (read_groups m all before start) l (Err e)
  groups_err gs hs all done before old start l e same reads =
      reads_err (read_groups m gs done old) (read_groups m all before start) l e
      (λ h. sym same ∙ groups_halt gs hs done old l h) reads

pub map_step : (F : ℕ → Head) (k n : ℕ) → k < n
    → map F (count_from k (n - k)) ≡ (F k ∷ []) ++ map F (count_from (k + 1) (n - (k + 1)))
map_step F k n lt =
    let e : n - k ≡ suc (n - (k + 1)) = omega arith in
    let s : suc k ≡ k + 1 = omega arith in
    ap (λ j. map F (count_from k j)) e ∙ ap (λ j. F k ∷ map F (count_from j (n - (k + 1)))) s

pub flat_step : (G : ℕ → List Head) (last : List Head) (k n : ℕ) → k < n
    → flat_map G (count_from k (n - k)) ++ last ≡ G k ++ (flat_map G (count_from (k + 1) (n - (k + 1))) ++ last)
flat_step G last k n lt =
    let e : n - k ≡ suc (n - (k + 1)) = omega arith in
    let s : suc k ≡ k + 1 = omega arith in
    ap (λ j. flat_map G (count_from k j) ++ last) e
    ∙ append_assoc (G k) (flat_map G (count_from (suc k) (n - (k + 1)))) last
    ∙ ap (λ j. G k ++ (flat_map G (count_from j (n - (k + 1))) ++ last)) s

pub flat_end : (G : ℕ → List Head) (last : List Head) (k n : ℕ) → n ≤ k
    → flat_map G (count_from k (n - k)) ++ last ≡ last
flat_end G last k n le =
    let e : n - k ≡ 0 = omega arith in ap (λ j. flat_map G (count_from k j) ++ last) e

-- what a text is read to
module _ (m : ModelTree) (ok : IsChecked m) (sig : IsSignature m.signature) (law : ReadingIsExact)
    (lines : List (List ℕ)) where
  pub text_report : (r : Result Printed (Refused Unread)) → ReadsText m lines r → IfOk r (λ p. IsPrinted m p lines)
  text_report (Ok p) reads = law.whole m ok sig lines p reads.0 reads.1
  text_report (Err e) reads = tt

  pub text_read : (r : Result Printed (Refused Unread)) → length lines < 2 ^ 63 → ReadsText m lines r
      → IfOk r (IsRead m)
  text_read (Ok p) few reads = (lines, law.whole m ok sig lines p reads.0 reads.1, few)
  text_read (Err e) few reads = tt

  pub text_unread : (r : Result Printed (Refused Unread)) → ReadsText m lines r
      → IfErr r (Because (λ u. IsUnread m lines u.line))
  text_unread (Ok p) reads = tt
  text_unread (Err (For u)) reads =
      subst (IsUnread m lines) (sym reads.2) (law.unread m ok sig lines reads.0 reads.1)
  text_unread (Err NoMemory) reads = tt

  pub text_there : (r : Result Printed (Refused Unread)) → ReadsText m lines r → IsReadBack m lines r
  text_there (Ok q) reads = λ p is. let t = law.there m ok sig lines p is in
      got_value q p reads.0 t.0 (sym reads.1 ∙ t.1)
  text_there (Err (For u)) reads = λ p is. let t = law.there m ok sig lines p is in
      let e : stuck reads.0 ≡ got p t.0 = sym reads.1 ∙ t.1 in cc e
  text_there (Err NoMemory) reads = λ p is. tt
