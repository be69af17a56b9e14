-- A name that is no symbol is among no names of symbols.
use Rattle.std.proofs.Common.{◌≡◌, ◌+◌, ◌||◌, ℕ, suc, Bool, true, false, not, nat_lt, cond, List, [], ◌∷◌, length, Some}
use Rattle.std.proofs.Common.{None, refl, ◌∙◌, arith}
use Rattle.std.specs.List.{position_or_len, list_any}
use Rattle.std.specs.Str.{bytes_eq}
use Rattle.std.proofs.lemmas.Bool.Decides.{nat_tests}
use Rattle.rml_names.specs.Vocabulary.{Vocabulary}
use Rattle.rml_names.specs.Meanings.{symbol_by, is_known, is_symbol, is_among}

any_place : {A : Type 0} (p : A → Bool) (xs : List A) → list_any p xs ≡ nat_lt (position_or_len p xs) (length xs)
any_place p [] = refl
any_place p (x ∷ xs) = by (p x) (any_place p xs)
  where
    by : (b : Bool) → list_any p xs ≡ nat_lt (position_or_len p xs) (length xs)
        → (b || list_any p xs) ≡ nat_lt (cond (not b) (1 + position_or_len p xs) 0) (suc (length xs))
    by true h = grind (arith, nat_tests)
    by false h = h ∙ grind (arith, nat_tests)

known_by : (a b c : Bool) (x y z : ℕ)
    → is_known (symbol_by (cond a (Some x) None) (cond b (Some y) None) (cond c (Some z) None)) ≡ false
    → (a ≡ false) × (b ≡ false) × (c ≡ false)
known_by true b c x y z h = absurd (cc)
known_by false true c x y z h = absurd (cc)
known_by false false true x y z h = absurd (cc)
known_by false false false x y z h = (refl, refl, refl)

all_new : (v : Vocabulary) (name : List ℕ) → is_symbol v name ≡ false
    → (is_among v.names.relations name ≡ false) × (is_among v.names.functions name ≡ false)
    × (is_among v.derived_names name ≡ false)
all_new v name h =
    let rs = v.names.relations in
    let fs = v.names.functions in
    let ds = v.derived_names in
    let r = position_or_len (bytes_eq name) rs in
    let f = position_or_len (bytes_eq name) fs in
    let d = position_or_len (bytes_eq name) ds in
    known_by (is_among rs name) (is_among fs name) (is_among ds name) r f d
    (rw (any_place (bytes_eq name) rs, any_place (bytes_eq name) fs, any_place (bytes_eq name) ds) h)

pub no_relation : (v : Vocabulary) (name : List ℕ) → is_symbol v name ≡ false
    → is_among v.names.relations name ≡ false
no_relation v name h = let all = all_new v name h in all.0

pub no_function : (v : Vocabulary) (name : List ℕ) → is_symbol v name ≡ false
    → is_among v.names.functions name ≡ false
no_function v name h = let all = all_new v name h in all.1

pub no_definition : (v : Vocabulary) (name : List ℕ) → is_symbol v name ≡ false
    → is_among v.derived_names name ≡ false
no_definition v name h = let all = all_new v name h in all.2
