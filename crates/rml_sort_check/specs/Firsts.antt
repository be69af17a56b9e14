-- The first fault of demands by that of their parts. These rules are inductions over lists of demands that no clause
-- speaks of, and every proof about demands takes them; so they stand here, beside the definition.
use Rattle.std.proofs.Common.{◌≡◌, Bool, true, false, if◌then◌else◌, List, [], ◌∷◌, ◌++◌, Option, Some, None, refl}
use Rattle.rml_lex.specs.declared.token.Fault.{Fault}
use Rattle.rml_sort_check.specs.Demands.{Demand, first_fault}

split : (f : Fault) (p : Option Fault) (b : Bool) → (if b then p else Some f) ≡ None → (b ≡ true) × (p ≡ None)
split f p true h = (refl, h)
split f p false h = cc

-- the first one is met, and so are the others
pub met : (d : Demand) (ds : List Demand) → first_fault (d ∷ ds) ≡ None → (d.met ≡ true) × (first_fault ds ≡ None)
met d ds h = split d.fault (first_fault ds) d.met h

join : (f : Fault) (p q : Option Fault) (b : Bool) → (p ≡ None → q ≡ None) → (if b then p else Some f) ≡ None
    → (if b then q else Some f) ≡ None
join f p q true so h = so h
join f p q false so h = h

-- where all are met, so are those of the first part
pub met_left : (xs ys : List Demand) → first_fault (xs ++ ys) ≡ None → first_fault xs ≡ None
met_left [] ys h = refl
met_left (x ∷ xs) ys h = join x.fault (first_fault (xs ++ ys)) (first_fault xs) x.met (met_left xs ys) h

-- and so are those of the second
pub met_right : (xs ys : List Demand) → first_fault (xs ++ ys) ≡ None → first_fault ys ≡ None
met_right [] ys h = h
met_right (x ∷ xs) ys h = met_right xs ys (met x (xs ++ ys) h).1

-- a fault of the first part is the first of both
pub first_left : (xs ys : List Demand) (f : Fault) → first_fault xs ≡ Some f → first_fault (xs ++ ys) ≡ Some f
first_left [] ys f h = cc
first_left (x ∷ xs) ys f h = step x.met (first_left xs ys f) h
  where
    step : (b : Bool) → (first_fault xs ≡ Some f → first_fault (xs ++ ys) ≡ Some f)
        → (if b then first_fault xs else Some x.fault) ≡ Some f
        → (if b then first_fault (xs ++ ys) else Some x.fault) ≡ Some f
    step true so k = so k
    step false so k = k

-- behind demands that are met, the first fault is the others'
pub first_right : (xs ys : List Demand) → first_fault xs ≡ None → first_fault (xs ++ ys) ≡ first_fault ys
first_right [] ys h = refl
first_right (x ∷ xs) ys h = let m = met x xs h in step x.met m.0 (first_right xs ys m.1)
  where
    step : (b : Bool) → b ≡ true → first_fault (xs ++ ys) ≡ first_fault ys
        → (if b then first_fault (xs ++ ys) else Some x.fault) ≡ first_fault ys
    step true is so = so
    step false is so = cc
