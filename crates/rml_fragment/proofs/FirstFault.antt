-- The first of some faults is found by taking the earlier of each two.
use Rattle.std.proofs.Common.{
  ◌≡◌,
  ◌⊎◌,
  ℕ,
  ap,
  ◌<◌,
  ◌≤◌,
  nat_lt,
  nat_le,
  Bool,
  true,
  false,
  if◌then◌else◌,
  Option,
  Some,
  None,
  ◌↔◌,
  IsTrue,
  refl,
  sym,
  subst,
  inl,
  inr,
  arith,
}
use Rattle.std.proofs.lemmas.Bool.{ltb-true, ltb-false, leb-true, leb-false}
use Rattle.rml_lex.specs.declared.token.Fault.{Fault}
use Rattle.rml_lex.specs.declared.fault_code.FaultCode.{FaultCode}
use Rattle.rml_lex.specs.FaultCodes.{number_of}
use Rattle.rml_fragment.specs.First.{IsNotBehind, IsFirstOf}
use Rattle.rml_fragment.specs.Search.{earlier_of, earlier, fault_unless, IsFound, IsNotBehindFound, IsFirstSoFar}

not_behind-trans : (f g h : Fault) → IsNotBehind f g → IsNotBehind g h → IsNotBehind f h
not_behind-trans f g h p q = elim p [
  | inl lt ↦ elim q [ inl more ↦ inl (omega (arith, lt, more)) | inr same ↦ inl (omega (arith, lt, same.0)) ]
  | inr same ↦ elim q [
    | inl more ↦ inl (omega (arith, same.0, more))
    | inr again ↦
        inr (omega (arith, same.0, again.0), omega (arith, same.1, again.1))
  ]
]

-- the earlier of two faults is one of them, and not behind the other
abbrev Picks : Fault → Fault → Fault → Type 0
Picks f g e = ((e ≡ f) × IsNotBehind f g) ⊎ ((e ≡ g) × IsNotBehind g f)

picks : (f g : Fault) → Picks f g (earlier_of f g)
picks f g = at (nat_lt f.at g.at) refl
  where
    code : (x : Bool) → g.at ≡ f.at → nat_le (number_of f.code) (number_of g.code) ≡ x → Picks f g (if x then f else g)
    code true e c = inl (refl, inr (sym e, leb-true (number_of f.code) (number_of g.code) c))
    code false e c =
        let lt : number_of g.code < number_of f.code = leb-false (number_of f.code) (number_of g.code) c in
        inr (refl, inr (e, omega arith))

    other : (x : Bool) → g.at ≤ f.at → nat_lt g.at f.at ≡ x
        → Picks f g (if x then g else (if nat_le (number_of f.code) (number_of g.code) then f else g))
    other true le e = inr (refl, inl (ltb-true g.at f.at e))
    other false le e = let back : f.at ≤ g.at = ltb-false g.at f.at e in
        code (nat_le (number_of f.code) (number_of g.code)) (omega arith) refl

    at : (x : Bool) → nat_lt f.at g.at ≡ x → Picks f g
        (if x then f else (if nat_lt g.at f.at then g else
        (if nat_le (number_of f.code) (number_of g.code) then f else g)))
    at true e = inl (refl, inl (ltb-true f.at g.at e))
    at false e = other (nat_lt g.at f.at) (ltb-false f.at g.at e) refl

-- what is not behind one of the two is not before the earlier
behind_either : (f g h : Fault) → IsNotBehind f h ⊎ IsNotBehind g h → IsNotBehind (earlier_of f g) h
behind_either f g h p = elim (picks f g) [
  | inl a ↦ subst (λ e. IsNotBehind e h) (sym a.0) (elim p [ inl q ↦ q | inr q ↦ not_behind-trans f g h a.1 q ])
  | inr b ↦ subst (λ e. IsNotBehind e h) (sym b.0) (elim p [ inl q ↦ not_behind-trans g f h b.1 q | inr q ↦ q ])
]

one_of : (P : Fault → Type 0) (f g : Fault) → P f → P g → P (earlier_of f g)
one_of P f g p q = elim (picks f g) [ inl a ↦ subst P (sym a.0) p | inr b ↦ subst P (sym b.0) q ]

-- the first fault of either kind
pub first-earlier : (P Q : Fault → Type 0) (a b : Option Fault) → IsFirstOf P a → IsFirstOf Q b
    → IsFirstOf (λ f. P f ⊎ Q f) (earlier a b)
first-earlier P Q None None p q = λ f. elim [ inl x ↦ p f x | inr y ↦ q f y ]
first-earlier P Q None (Some g) p q =
    record { is_one = inr q.is_one; least = λ o. elim [ inl x ↦ absurd (p o x) | inr y ↦ q.least o y ] }
first-earlier P Q (Some f) None p q =
    record { is_one = inl p.is_one; least = λ o. elim [ inl x ↦ p.least o x | inr y ↦ absurd (q o y) ] }
first-earlier P Q (Some f) (Some g) p q = record {
  is_one = one_of (λ h. P h ⊎ Q h) f g (inl p.is_one) (inr q.is_one);
  least = λ o. elim [
    | inl x ↦ behind_either f g o (inl (p.least o x))
    | inr y ↦
        behind_either f g o (inr (q.least o y))
  ];
}

-- before anything was looked at
pub start : (P : Fault → Type 0) → IsFirstSoFar P P None
start P = record { is_one = tt; within = λ f p. p; least = λ f p. inl p }

found_either : (P : Fault → Type 0) (a b : Option Fault) → IsFound P a → IsFound P b → IsFound P (earlier a b)
found_either P None b p q = q
found_either P (Some f) None p q = p
found_either P (Some f) (Some g) p q = one_of P f g p q

found : (P X : Fault → Type 0) (b : Option Fault) → ((f : Fault) → X f → P f) → IsFirstOf X b → IsFound P b
found P X None h p = tt
found P X (Some g) h p = h g p.is_one

old_stays : (a b : Option Fault) (h : Fault) → IsNotBehindFound a h → IsNotBehindFound (earlier a b) h
old_stays None b h p = absurd p
old_stays (Some f) None h p = p
old_stays (Some f) (Some g) h p = behind_either f g h (inl p)

new_comes : (X : Fault → Type 0) (a b : Option Fault) (h : Fault) → IsFirstOf X b → X h
    → IsNotBehindFound (earlier a b) h
new_comes X a None h p x = absurd (p h x)
new_comes X None (Some g) h p x = p.least h x
new_comes X (Some f) (Some g) h p x = behind_either f g h (inr (p.least h x))

-- one thing more was looked at
pub step : (P X Left : Fault → Type 0) (a b : Option Fault) → IsFirstSoFar P (λ f. X f ⊎ Left f) a → IsFirstOf X b
    → IsFirstSoFar P Left (earlier a b)
step P X Left a b h p = record {
  is_one = found_either P a b h.is_one (found P X b (λ f x. h.within f (inl x)) p);
  within = λ f l. h.within f (inr l);
  least = λ f q. elim (h.least f q) [
    | inl (inl x) ↦ inr (new_comes X a b f p x)
    | inl (inr l) ↦ inl l
    | inr old ↦ inr (old_stays a b f old)
  ];
}

-- all were looked at
pub done : (P Left : Fault → Type 0) (a : Option Fault) → ((f : Fault) → Left f → ⊥) → IsFirstSoFar P Left a
    → IsFirstOf P a
done P Left None never h = λ f p. elim (h.least f p) [ inl l ↦ never f l | inr never ↦ never ]
done P Left (Some f) never h = record {
  is_one = h.is_one;
  least =
      λ o p. elim (h.least o p) [ inl l ↦ absurd (never o l) | inr nb ↦ nb ];
}

-- a fault where something is not so
pub unless-first : (b : Bool) (code : FaultCode) (at : ℕ) (R : Type 0) → IsTrue b ↔ R
    → IsFirstOf (λ f. (f.at ≡ at) × ((f.code ≡ code) × (R → ⊥))) (fault_unless b code at)
unless-first true code at R so = λ f h. h.1.1 (so.0 refl)
unless-first false code at R so = record {
  is_one = (refl, (refl, λ r. let e : false ≡ true = so.1 r in cc));
  least =
      λ o h. inr (sym h.0, omega (arith, ap number_of h.1.0));
}

-- one fault is the first of itself
pub alone-first : (code : FaultCode) (at : ℕ) → IsFirstOf (λ f. (f.at ≡ at) × (f.code ≡ code))
    (Some (record { code = code; at = at }))
alone-first code at = record { is_one = (refl, refl); least = λ o h. inr (sym h.0, omega (arith, ap number_of h.1)) }
