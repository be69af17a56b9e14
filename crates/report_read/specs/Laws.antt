-- What follows of printed reports, and of how they are read.
use Rattle.std.specs.Prelude.{◌≡◌, ℕ, List, Result, Ok, Err}
use Rattle.base.specs.declared.refused.Refused.{Refused}
use Rattle.base.specs.declared.refused.Refused.TheVariants.{For, NoMemory}
use Rattle.fol_sig.specs.Tables.{IsSignature}
use Rattle.rml_command.specs.Models.{ModelTree}
use Rattle.rml_command.specs.Fragment.{IsChecked}
use Rattle.line_scan.specs.Lines.{LinesLeft}
use Rattle.printed_report.specs.PrintedReports.{IsPrinted, IsUnread}
use Rattle.printed_report.specs.declared.printed.Printed.{Printed}
use Rattle.printed_report.specs.declared.printed.Unread.{Unread}
use Rattle.report_read.specs.Got.{got, stuck}
use Rattle.report_read.specs.Reading.{read_all}

-- the answer is this, or memory is wanting
abbrev pub Answers : Printed → Result Printed (Refused Unread) → Type 0
Answers p (Ok q) = q ≡ p
Answers p (Err (For u)) = ⊥
Answers p (Err NoMemory) = Unit {0}

-- Where the lines are a printed report of the model, what it says is answered.
abbrev pub IsReadBack : ModelTree → List (List ℕ) → Result Printed (Refused Unread) → Type 0
IsReadBack m lines r = (p : Printed) → IsPrinted m p lines → Answers p r

-- Lines are at most one printed report of a model.
abbrev pub PrintedIsOne : Type 0
PrintedIsOne = (m : ModelTree) (p q : Printed) (lines : List (List ℕ)) → IsChecked m → IsSignature m.signature
    → IsPrinted m p lines → IsPrinted m q lines → p ≡ q

-- lines of which none was passed
abbrev pub first_left : List (List ℕ) → LinesLeft
first_left lines = record { lines = lines; number = 1 }

-- What is read of all lines is what they say, and where the reading halts no report goes on.
pub record ReadingIsExact : Type 0 where
  pub whole : (m : ModelTree) → IsChecked m → IsSignature m.signature → (lines : List (List ℕ)) (p : Printed)
      (rest : LinesLeft) → read_all m (first_left lines) ≡ got p rest → IsPrinted m p lines
  pub unread : (m : ModelTree) → IsChecked m → IsSignature m.signature → (lines : List (List ℕ)) (rest : LinesLeft)
      → read_all m (first_left lines) ≡ stuck rest → IsUnread m lines rest.number
  pub there : (m : ModelTree) → IsChecked m → IsSignature m.signature → (lines : List (List ℕ)) (p : Printed)
      → IsPrinted m p lines → (rest : LinesLeft) × (read_all m (first_left lines) ≡ got p rest)
