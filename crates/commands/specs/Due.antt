-- What is due on the sinks, and what was written of it.
use Rattle.std.specs.Prelude.{◌≡◌, ℕ, ◌≤◌, List, take, Option, codes}
use Rattle.std.specs.Io.KnownBytes.{Appends}
use Rattle.rml_bytes.specs.Outside.{Rose}
use Rattle.rml_bytes.specs.declared.outside.LoadError.{LoadError}
use Rattle.rml_bytes.specs.declared.outside.LoadError.TheVariants as stop
use Rattle.commands.specs.declared.side.Side.{Side}
use Rattle.commands.specs.declared.side.Side.TheVariants as side
use Rattle.commands.specs.declared.side.Written.{Written}
use Rattle.commands.specs.declared.side.Written.TheVariants as wrote

-- the text that is due on one sink, while the other gets none, and the status
pub record Due : Type 0 where
  pub side : Side
  pub text : List ℕ
  pub status : ℕ

-- what is said where there is no answer
abbrev pub stop_due : LoadError → Due
stop_due stop.TooLong = record { side = side.Err; text = codes "the file is too long\n"; status = 4 }
stop_due stop.Failed = record { side = side.Err; text = codes "cannot read the file\n"; status = 5 }
stop_due stop.NoMemory = record { side = side.Err; text = codes "no memory\n"; status = 7 }

-- What a call handed to a sink: the bytes that the sink took, where it tells them, and the count of its faults, before
-- the call and behind it.
pub record Passage : Type 0 where
  pub taken : Option (List ℕ)
  pub taken_then : Option (List ℕ)
  pub faults : ℕ
  pub faults_then : ℕ

abbrev pub passage : Option (List ℕ) → Option (List ℕ) → ℕ → ℕ → Passage
passage taken taken_then faults faults_then =
    record { taken = taken; taken_then = taken_then; faults = faults; faults_then = faults_then }

-- a front of the text was taken
abbrev pub TakesFront : Passage → List ℕ → Type 0
TakesFront p text = (n : ℕ) × Appends p.taken p.taken_then (take n text)

-- a text was handed over, or a front of it and the count rose
abbrev pub Hands : Written → Passage → List ℕ → Type 0
Hands wrote.All p text = (p.faults ≤ p.faults_then) × Appends p.taken p.taken_then text
Hands wrote.Failed p text = (p.faults ≤ p.faults_then) × TakesFront p text × Rose p.faults p.faults_then

-- nothing was handed over
abbrev pub Rests : Passage → Type 0
Rests p = (p.faults_then ≡ p.faults) × (p.taken_then ≡ p.taken)

-- the status that is due, or 5 where the sink failed
abbrev pub status_of : Written → ℕ → ℕ
status_of wrote.All status = status
status_of wrote.Failed status = 5

-- All that was due was written to its sink, or a front of it, with status 5, where that sink failed. The other sink
-- rests.
abbrev pub IsWrittenTo : Side → List ℕ → Written → Passage → Passage → Type 0
IsWrittenTo side.Out text written out err = Hands written out text × Rests err
IsWrittenTo side.Err text written out err = Hands written err text × Rests out

-- What is due was written so, and this is the status.
pub record IsWritten (due : Due) (written : Written) (status : ℕ) (out err : Passage) : Type 0 where
  pub text : IsWrittenTo due.side due.text written out err
  pub code : status ≡ status_of written due.status
