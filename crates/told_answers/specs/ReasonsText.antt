-- The text of the reasons of a model's groups.
use Rattle.std.specs.Prelude.{ℕ, Bool, true, false, List, [], ◌∷◌, ◌++◌, codes}
use Rattle.std.specs.List.{flat_map}
use Rattle.rml_command.specs.Models.{ModelTree}
use Rattle.rml_command.specs.declared.names.Names.{Names}
use Rattle.rml_report.specs.Words.{name_at}
use Rattle.rml_report.specs.ReportText.{head_text}
use Rattle.rml_reasons.specs.declared.reason.Need.{Need}
use Rattle.rml_reasons.specs.declared.reason.Lack.{Lack}
use Rattle.rml_reasons.specs.declared.reason.Lack.TheVariants.{Fails, Open}
use Rattle.rml_reasons.specs.declared.reason.Carried.{Carried}
use Rattle.rml_reasons.specs.declared.reason.Carried.TheVariants.{By, Not}
use Rattle.told_report.specs.CauseWords.{open_at}
use Rattle.model_reasons.specs.declared.reason.Reason.{Reason}
use Rattle.model_reasons.specs.Idle.{idle_conjectures, are_carried}

-- the name of a conjecture, behind a comma
unfoldable pub next_name : List (List ℕ) → ℕ → List ℕ
next_name names k = codes ", " ++ name_at names k

-- the needed conjectures behind the first
abbrev pub more_needs : List (List ℕ) → List Need → List ℕ
more_needs names needs = flat_map (λ n. next_name names n.conjecture) needs

-- the conjectures of these numbers, behind the first
abbrev pub more_names : List (List ℕ) → List ℕ → List ℕ
more_names names ks = flat_map (λ k. next_name names k) ks

-- linked_down, unique
abbrev pub needs_text : List (List ℕ) → List Need → List ℕ
needs_text names [] = codes "no conjecture"
needs_text names (n ∷ needs) = name_at names n.conjecture ++ more_needs names needs

-- that a goal fails; or the path of the first one that is left open, and why it is
abbrev pub lack_text : Lack → List ℕ
lack_text (Fails shown) = codes "fails"
lack_text (Open goal c) = open_at (codes "left open at path ") goal.path c (codes "")

-- by which conjectures a group is carried, or what it lacks where all are held
abbrev pub carried_text : List (List ℕ) → Carried → List ℕ
carried_text names (By needs) = codes "by " ++ needs_text names needs
carried_text names (Not lack) = lack_text lack

-- action connect linked_down: by linked_down, unique
unfoldable pub reason_line : Names → Reason → List ℕ
reason_line names r =
    head_text names r.stage r.about ++ codes ": " ++ carried_text names.conjectures r.carried ++ codes "\n"

-- of all groups; or, where some fail or are left open, of the others
abbrev pub idle_words : Bool → List ℕ
idle_words true = codes "no other group needs: "
idle_words false = codes "of the groups that hold, no other needs: "

-- nothing where each conjecture serves another group
abbrev pub idle_line : Bool → List (List ℕ) → List ℕ → List ℕ
idle_line all names [] = []
idle_line all names (k ∷ ks) = idle_words all ++ name_at names k ++ more_names names ks ++ codes "\n"

-- a line for each group, and one for the conjectures that carry no group but their own
unfoldable pub reasons_text : ModelTree → List Reason → List ℕ
reasons_text m reasons =
    flat_map (reason_line m.names) reasons
    ++ idle_line (are_carried reasons) m.names.conjectures (idle_conjectures m reasons)
