-- A part of a tree answers for the whole: rules on refusals that no clause speaks of, and that every walk takes which
-- judges.
use Rattle.std.proofs.Common.{◌≡◌, ◌++◌, List, Some, None, Result, Ok, Err, sym, subst, ◌∙◌}
use Rattle.std.specs.Result.{IsErrAnd, IfErr}
use Rattle.base.specs.declared.refused.Refused.{Refused}
use Rattle.base.specs.declared.refused.Refused.TheVariants.{For, NoMemory}
use Rattle.base.specs.Because.{Because}
use Rattle.rml_lex.specs.declared.token.Fault.{Fault}
use Rattle.rml_sort_check.specs.Demands.{Demand, first_fault}
use Rattle.rml_items.specs.Answering.{Answers}
use Rattle.rml_sort_check.specs.Firsts.{first_left, first_right}

-- a refusal is the first fault of these demands
abbrev pub Refuses : List Demand → Refused Fault → Type 0
Refuses ds e = Because (λ f. first_fault ds ≡ Some f) e

-- lists with the same first fault are refused alike
pub refuses_as : (xs ys : List Demand) (e : Refused Fault) → first_fault xs ≡ first_fault ys → Refuses xs e
    → Refuses ys e
refuses_as xs ys (For f) same h = sym same ∙ h
refuses_as xs ys NoMemory same h = tt

-- a refusal of the first part is one of the whole
pub refuses_left : (xs ys : List Demand) (e : Refused Fault) → Refuses xs e → Refuses (xs ++ ys) e
refuses_left xs ys (For f) h = first_left xs ys f h
refuses_left xs ys NoMemory h = tt

-- where the first part is met, a refusal of the second is one of the whole
pub refuses_right : (xs ys : List Demand) (e : Refused Fault) → first_fault xs ≡ None → Refuses ys e
    → Refuses (xs ++ ys) e
refuses_right xs ys e met h = refuses_as ys (xs ++ ys) e (sym (first_right xs ys met)) h

-- where both parts are met, the whole is
pub both_met : (xs ys : List Demand) → first_fault xs ≡ None → first_fault ys ≡ None → first_fault (xs ++ ys) ≡ None
both_met xs ys a b = first_right xs ys a ∙ b

-- the exit by `?`
pub at_err : {X V : Type 0} (view : X → V) (r : Result X (Refused Fault)) (e : Refused Fault) (ds : List Demand) (v : V)
    → IsErrAnd r (λ x. x ≡ e) → Refuses ds e → Answers view r ds v
at_err view (Ok x) e ds v is h = absurd is
at_err view (Err y) e ds v is h = subst (λ (z : Refused Fault). Refuses ds z) (sym is) h

-- where the refusal is of these demands, a fault of them is so
pub because_first : (P : Fault → Type 0) (ds : List Demand) (e : Refused Fault)
    → ((f : Fault) → first_fault ds ≡ Some f → P f) → Refuses ds e → Because P e
because_first P ds (For f) so h = so f h
because_first P ds NoMemory so h = tt

-- what holds of the refusal that a call gave holds of the call's result
pub if_err : {X : Type 0} (P : Refused Fault → Type 0) (r : Result X (Refused Fault)) (e : Refused Fault)
    → IsErrAnd r (λ x. x ≡ e) → P e → IfErr r P
if_err P (Ok x) e is h = absurd is
if_err P (Err y) e is h = subst P (sym is) h

-- where a refusal is for a fault, what follows of the fault is so
pub if_refused : {X : Type 0} (P Q : Fault → Type 0) → ((f : Fault) → P f → Q f) → (r : Result X (Refused Fault))
    → IfErr r (Because P) → IfErr r (Because Q)
if_refused P Q so (Ok x) h = tt
if_refused P Q so (Err (For f)) h = so f h
if_refused P Q so (Err NoMemory) h = tt
