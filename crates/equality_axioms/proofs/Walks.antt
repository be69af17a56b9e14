-- The walk over tuples: the first sort and the rest, and a tuple that grows.
use Rattle.std.proofs.Common.{◌≡◌, ℕ, zero, suc, ◌+◌, ◌-◌, ◌<◌, ◌≤◌, List, [], ◌∷◌, ◌++◌, length, get_or, take, drop}
use Rattle.std.proofs.Common.{refl, sym, ap, ◌∙◌, append_assoc, arith}
use Rattle.std.proofs.lemmas.List.{take_all}
use Rattle.fol_sig.specs.declared.Sort.{Sort}
use Rattle.fol_sig.specs.Tables.{numbers}
use Rattle.fol_sig.specs.Tuples.{join_below}
use Rattle.ground_terms.specs.Trees.{Tree}
use Rattle.ground_terms.specs.Taking.{calls_of_each, calls-append}
use Rattle.equality_axioms.specs.Axioms.{join_tuples}

pub no_sorts : (ks : List Sort) → length ks < 1 → numbers ks ≡ []
no_sorts [] lt = refl
no_sorts (k ∷ ks) lt = absurd (omega arith)

pub first_and_rest : (ks : List Sort) (d : Sort) → 1 ≤ length ks
    → numbers ks ≡ (get_or ks 0 d).0 ∷ numbers (take (length ks - 1) (drop 1 ks))
first_and_rest [] d le = absurd (omega arith)
first_and_rest (k ∷ ks) d le = ap (λ zs. k.0 ∷ numbers zs) (sym (take_all (length (k ∷ ks) - 1) ks (omega arith)))

pub rest-length : (ks : List Sort) → 1 ≤ length ks → length (take (length ks - 1) (drop 1 ks)) + 1 ≡ length ks
rest-length [] le = absurd (omega arith)
rest-length (k ∷ ks) le = ap (λ zs. length zs + 1) (take_all (length (k ∷ ks) - 1) ks (omega arith)) ∙ omega arith

below-same : {A : Type 0} (n : ℕ) (f g : ℕ → List A) → ((x : ℕ) → f x ≡ g x) → join_below n f ≡ join_below n g
below-same zero f g h = refl
below-same (suc n) f g h = let e1 = below-same n f g h in let e2 = h n in cc (e1, e2)

tuples-same : {A : Type 0} (sizes ks : List ℕ) (f g : List ℕ → List A) → ((xs : List ℕ) → f xs ≡ g xs)
    → join_tuples sizes ks f ≡ join_tuples sizes ks g
tuples-same sizes [] f g h = h []
tuples-same sizes (k ∷ ks) f g h =
    below-same (get_or sizes k 0) (λ x. join_tuples sizes ks (λ xs. f (x ∷ xs)))
    (λ x. join_tuples sizes ks (λ xs. g (x ∷ xs)))
    (λ x. tuples-same sizes ks (λ xs. f (x ∷ xs)) (λ xs. g (x ∷ xs)) (λ xs. h (x ∷ xs)))

pub longer_tuples : {A : Type 0} (sizes ks tuple longer : List ℕ) (x : ℕ) (f : List ℕ → List A)
    → longer ≡ tuple ++ x ∷ [] → join_tuples sizes ks (λ xs. f (longer ++ xs))
    ≡ join_tuples sizes ks (λ xs. f (tuple ++ (x ∷ xs)))
longer_tuples sizes ks tuple longer x f e =
    tuples-same sizes ks (λ xs. f (longer ++ xs)) (λ xs. f (tuple ++ (x ∷ xs)))
    (λ xs. ap (λ zs. f (zs ++ xs)) e ∙ ap f (append_assoc tuple (x ∷ []) xs))

pub three_parts : (ps qs rs : List Tree) → calls_of_each ps ++ (calls_of_each qs ++ calls_of_each rs)
    ≡ calls_of_each (ps ++ (qs ++ rs))
three_parts ps qs rs = ap (λ cs. calls_of_each ps ++ cs) (sym (calls-append qs rs)) ∙ sym (calls-append ps (qs ++ rs))
