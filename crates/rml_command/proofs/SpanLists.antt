-- The places of spans.
use Rattle.std.proofs.Common.{◌≡◌, ℕ, zero, suc, ◌+◌, ◌-◌, ◌≤◌, Bool, List, ◌∷◌, ◌++◌, sym, ap, ◌∙◌, arith}
use Rattle.std.proofs.Common.{append_assoc}
use Rattle.base.specs.Lists.{count_from}
use Rattle.rml_command.specs.Spans.{places_of, RouteTree}
use Rattle.rml_command.specs.declared.span.Span.{Span}

pub count_from-sum : (k m n j : ℕ) → j ≡ k + m → count_from k (m + n) ≡ count_from k m ++ count_from j n
count_from-sum k zero n j e =
    let none : 0 + n ≡ n = omega arith in
    let same : k ≡ j = omega arith in
    ap (count_from k) none ∙ ap (λ i. count_from i n) same
count_from-sum k (suc m) n j e = let one : suc m + n ≡ suc (m + n) = omega arith in
    ap (count_from k) one ∙ ap (λ z. k ∷ z) (count_from-sum (suc k) m n j (omega arith))

-- a span and the one that begins at its end
pub places_in-joined : (a b c : ℕ) → a ≤ b → b ≤ c → count_from a (c - a) ≡ count_from a (b - a) ++ count_from b (c - b)
places_in-joined a b c le more =
    let e : c - a ≡ (b - a) + (c - b) = omega arith in
    let f : b ≡ a + (b - a) = omega arith in
    ap (count_from a) e ∙ count_from-sum a (b - a) (c - b) b f

abbrev route : List ℕ → Bool → RouteTree
route places aborts = record { places = places; aborts = aborts }

-- a route whose last span grew
pub grown : (spans : List Span) (a b c d : ℕ) (m : Bool) (old : RouteTree) → a ≤ b → c ≤ d → c ≡ b
    → route (places_of spans ++ count_from a (b - a)) m ≡ old → route (places_of spans ++ count_from a (d - a)) m
    ≡ route (old.places ++ count_from c (d - c)) old.aborts
grown spans a b c d m old le more meet is =
    let front = places_of spans in
    let split : count_from a (d - a) ≡ count_from a (b - a) ++ count_from b (d - b) =
    places_in-joined a b d le (omega arith) in
    let places : front ++ count_from a (d - a) ≡ (front ++ count_from a (b - a)) ++ count_from c (d - c) =
    ap (λ z. front ++ z) split ∙ sym (append_assoc front (count_from a (b - a)) (count_from b (d - b)))
    ∙ ap (λ i. (front ++ count_from a (b - a)) ++ count_from i (d - i)) (sym meet) in
    ap (λ z. route z m) places ∙ ap (λ (o : RouteTree). route (o.places ++ count_from c (d - c)) o.aborts) is
