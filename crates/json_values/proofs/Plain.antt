-- Data stays without floats where it grows.
use Rattle.std.proofs.Common.{◌≡◌, ℕ, List, [], ◌∷◌, ◌++◌, Bool, true, false, ◌||◌, true≢false, refl, Ordering, Less}
use Rattle.std.proofs.Common.{Equal, Greater, nat_cmp}
use Rattle.std.specs.Cmp.Lexicographic.{slice_cmp}
use Rattle.std.specs.Ordering.{match_ordering}
use Rattle.serde_json.specs.Data.{Data, Members, no_members, member, put}
use Rattle.serde_json.specs.View.{view, items_view}
use Rattle.serde_json.specs.declared.value.Value.{Value}
use Rattle.serde_json.specs.Written.{has_float, items_have_float, members_have_float}

both : (a b : Bool) → a ≡ false → b ≡ false → (a || b) ≡ false
both a b p q = rw p q

parts : (a b : Bool) → (a || b) ≡ false → (a ≡ false) × (b ≡ false)
parts true b p = absurd (true≢false p)
parts false b p = (refl, p)

pub plain_items : (vs : List Value) (v : Value) → items_have_float (items_view vs) ≡ false → has_float (view v) ≡ false
    → items_have_float (items_view (vs ++ v ∷ [])) ≡ false
plain_items [] v h g = both (has_float (view v)) false g refl
plain_items (w ∷ vs) v h g =
    let p = parts (has_float (view w)) (items_have_float (items_view vs)) h in
    both (has_float (view w)) (items_have_float (items_view (vs ++ v ∷ []))) p.0 (plain_items vs v p.1 g)

plain_at : (o : Ordering) (k l : List ℕ) (d e : Data) (ms : Members) → has_float d ≡ false
    → members_have_float (member l e ms) ≡ false → members_have_float (put k d ms) ≡ false
    → members_have_float (match_ordering o (member k d (member l e ms)) (member l d ms) (member l e (put k d ms)))
    ≡ false
plain_at Less k l d e ms h g later = both (has_float d) (members_have_float (member l e ms)) h g
plain_at Equal k l d e ms h g later =
    both (has_float d) (members_have_float ms) h (parts (has_float e) (members_have_float ms) g).1
plain_at Greater k l d e ms h g later =
    both (has_float e) (members_have_float (put k d ms)) (parts (has_float e) (members_have_float ms) g).0 later

pub plain_members : (k : List ℕ) (d : Data) (ms : Members) → has_float d ≡ false → members_have_float ms ≡ false
    → members_have_float (put k d ms) ≡ false
plain_members k d no_members h g = both (has_float d) false h refl
plain_members k d (member l e ms) h g =
    plain_at (slice_cmp nat_cmp k l) k l d e ms h g
    (plain_members k d ms h (parts (has_float e) (members_have_float ms) g).1)
