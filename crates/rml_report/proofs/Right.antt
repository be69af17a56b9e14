-- What follows from a right report.
use Rattle.std.proofs.Common.{◌≡◌, Bool, true, false, if◌then◌else◌, List, [], ◌∷◌, map, sym, ◌∙◌, subst, refl}
use Rattle.std.specs.List.{AllByRecursion, list_all, list_any}
use Rattle.std.proofs.lemmas.Bool.{and_parts}
use Rattle.rml_command.specs.Models.{ModelTree}
use Rattle.rml_command.specs.declared.goal.Head.{Head}
use Rattle.rml_command.specs.Goals as goals
use Rattle.rml_command.specs.Laws.{InductionIsSound}
use Rattle.rml_report.specs.Reports.{head_of, IsAnswer, IsRight, says_holds, says_fails, ShowsRefutation, CanRender}
use Rattle.rml_report.specs.Laws.{InductiveIsSafe, RightCanBeRendered}
use Rattle.rml_report.specs.declared.report.Verdict.TheVariants as verdict
use Rattle.rml_report.specs.declared.report.Answer.{Answer}
use Rattle.rml_report.specs.declared.report.Answer.TheVariants as answer
use Rattle.rml_report.specs.declared.report.Group.{Group}

holds : (m : ModelTree) (group : Head) (a : Answer) → says_holds a ≡ true → IsAnswer m group a
    → goals.Holds m group
holds m group answer.Holds e h = h
holds m group (answer.Fails paths l shown) e h = cc e
holds m group (answer.Undecided path cause) e h = cc e

all_hold : (m : ModelTree) (gs : List Group) → list_all (λ g. says_holds g.answer) gs ≡ true
    → AllByRecursion (IsRight m) gs → AllByRecursion (goals.Holds m) (map head_of gs)
all_hold m [] e h = tt
all_hold m (g ∷ gs) e h =
    let p = and_parts (says_holds g.answer) (list_all (λ g. says_holds g.answer) gs) e in
    (holds m (head_of g) g.answer p.0 h.0, all_hold m gs p.1 h.1)

inductive : (a b : Bool) → (if a then verdict.Inductive else (if b then verdict.NotInductive else verdict.Undecided))
    ≡ verdict.Inductive → a ≡ true
inductive true b e = refl
inductive false true e = cc e
inductive false false e = cc e

pub safe : InductionIsSound → InductiveIsSafe
safe sound m report fits right says =
    sound m fits (subst (λ gs. AllByRecursion (goals.Holds m) gs) right.groups
    (all_hold m report.groups
    (inductive (list_all (λ g. says_holds g.answer) report.groups)
    (list_any (λ g. says_fails g.answer) report.groups) (sym right.verdict ∙ says)) right.right))

shows : (m : ModelTree) (group : Head) (a : Answer) → IsAnswer m group a → ShowsRefutation m a
shows m group answer.Holds h = tt
shows m group (answer.Fails paths l shown) h = h.0.refutation
shows m group (answer.Undecided path cause) h = tt

all_show : (m : ModelTree) (gs : List Group) → AllByRecursion (IsRight m) gs → AllByRecursion (CanRender m) gs
all_show m [] h = tt
all_show m (g ∷ gs) h = (shows m (head_of g) g.answer h.0, all_show m gs h.1)

pub renderable : RightCanBeRendered
renderable m report right = all_show m report.groups right.right
