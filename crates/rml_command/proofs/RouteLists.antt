-- Routes that go on, and the paths that they take.
use Rattle.std.proofs.Common.{◌≡◌, ℕ, zero, suc, ◌+◌, ◌-◌, ◌<◌, ◌≤◌, Bool, true, false, ◌||◌, ◌&&◌, not, cond, List, []}
use Rattle.std.proofs.Common.{◌∷◌, ◌++◌, length, length-append, get_or, take, drop, map, refl, sym, ap, ◌∙◌, subst}
use Rattle.std.proofs.Common.{arith, append_assoc, append-nil}
use Rattle.std.proofs.lemmas.List.{take-append-drop, drop_all, drop_more, take-map, drop-map, map-append, length-map}
use Rattle.std.proofs.lemmas.List.{get_or_append_left}
use Rattle.std.specs.List.{AllByRecursion, flat_map}
use Rattle.base.proofs.Lists.{all_append, all_front, all_back, all_more, flat_map-append}
use Rattle.rml_command.specs.Trees.{PrimitiveTree, abort}
use Rattle.rml_command.specs.View.{primitive}
use Rattle.rml_command.specs.Paths.{has_abort, continued}
use Rattle.base.specs.Lists.{count_from}
use Rattle.rml_command.specs.Spans.{places_in, places_of, IsFilled, RouteTree, no_route, joined, longer, routes_on}
use Rattle.rml_command.specs.Spans.{Stops}
use Rattle.rml_command.specs.Routes.{primitive_at, primitives_at, path_along, AreWithin, IsSpanOf, IsRoute, Grows}
use Rattle.rml_command.specs.declared.command.Primitive.{Primitive}
use Rattle.rml_command.specs.declared.span.Span.{Span}
use Rattle.rml_command.proofs.Counting.{has_abort-append, continued-start}

-- a route that goes on with two others
pub longer-twice : (r b o : RouteTree) → longer r (longer b o) ∷ [] ≡ routes_on (o ∷ []) (longer r b)
longer-twice r b o = first r.aborts refl
  where
    second : (x : Bool) → b.aborts ≡ x → joined r (cond x b (joined b o)) ∷ []
        ≡ cond x (joined r b ∷ []) (joined (joined r b) o ∷ [])
    second true e = refl
    second false e =
        ap (λ (ps : List ℕ). record { places = ps; aborts = o.aborts } ∷ [])
        (sym (append_assoc r.places b.places o.places))

    first : (x : Bool) → r.aborts ≡ x → cond x r (joined r (longer b o)) ∷ []
        ≡ routes_on (o ∷ []) (cond x r (joined r b))
    first true e = ap (λ x. cond x (r ∷ []) (joined r o ∷ [])) (sym e)
    first false e = second b.aborts refl

pub all_longer : (rs : List RouteTree) (b o : RouteTree) → map (λ r. longer r (longer b o)) rs
    ≡ flat_map (routes_on (o ∷ [])) (map (λ r. longer r b) rs)
all_longer [] b o = refl
all_longer (r ∷ rs) b o = ap (λ z. z ++ map (λ r. longer r (longer b o)) rs) (longer-twice r b o)
    ∙ ap (λ z. routes_on (o ∷ []) (longer r b) ++ z) (all_longer rs b o)

-- no route goes on with that of `skip`
pub longer-none : (rs : List RouteTree) → map (λ r. longer r no_route) rs ≡ rs
longer-none [] = refl
longer-none (r ∷ rs) =
    ap (λ z. z ∷ map (λ r. longer r no_route) rs) (one r.aborts refl) ∙ ap (λ z. r ∷ z) (longer-none rs)
  where
    one : (x : Bool) → r.aborts ≡ x → cond x r (joined r no_route) ≡ r
    one true e = refl
    one false e =
        let same : record { places = r.places; aborts = false }
        ≡ r = ap (λ (x : Bool). record { places = r.places; aborts = x }) (sym e) in
        ap (λ (ps : List ℕ). record { places = ps; aborts = false }) (append-nil r.places) ∙ same

-- where a route stops, it goes no further
pub stops_longer : (rs : List RouteTree) (b o : RouteTree) → AllByRecursion Stops (map (λ r. longer r b) rs)
    → AllByRecursion Stops (map (λ r. longer r (longer b o)) rs)
stops_longer [] b o h = tt
stops_longer (r ∷ rs) b o h = (one r.aborts refl h.0, stops_longer rs b o h.1)
  where
    further : (x : Bool) → b.aborts ≡ x → b.aborts ≡ true → (cond x b (joined b o)).aborts ≡ true
    further true e h = h
    further false e h = let no_way : false ≡ true = sym e ∙ h in cc no_way

    one : (x : Bool) → r.aborts ≡ x → Stops (cond x r (joined r b)) → Stops (cond x r (joined r (longer b o)))
    one true e h = h
    one false e h = further b.aborts refl h

pub stops_behind : (rs : List RouteTree) (b o : RouteTree) → Stops o
    → AllByRecursion Stops (map (λ r. longer r (longer b o)) rs)
stops_behind [] b o h = tt
stops_behind (r ∷ rs) b o h = (one r.aborts refl, stops_behind rs b o h)
  where
    further : (x : Bool) → b.aborts ≡ x → (cond x b (joined b o)).aborts ≡ true
    further true e = e
    further false e = h

    one : (x : Bool) → r.aborts ≡ x → Stops (cond x r (joined r (longer b o)))
    one true e = e
    one false e = further b.aborts refl

-- The spans of a route are spans of the list.

last_below : (k m n : ℕ) → AllByRecursion (λ i. i < n) (count_from k (suc m)) → k + suc m ≤ n
last_below k zero n h = let below : k < n = h.0 in omega arith
last_below k (suc m) n h = let more : suc k + suc m ≤ n = last_below (suc k) m n h.1 in omega arith

span_of : (ps : List Primitive) (s : Span) → AreWithin ps (places_in s) → IsSpanOf ps s
span_of ps s h lt = last (s.end - s.start) refl h
  where
    last : (n : ℕ) → n ≡ s.end - s.start → AllByRecursion (λ i. i < length ps) (count_from s.start n)
        → s.end ≤ length ps
    last zero e h = omega arith
    last (suc m) e h = let below : s.start + suc m ≤ length ps = last_below s.start m (length ps) h in omega arith

pub last_span_of : (ps : List Primitive) (spans : List Span) (s : Span) (places : List ℕ)
    → places_of spans ++ places_in s ≡ places → AreWithin ps places → IsSpanOf ps s
last_span_of ps spans s places e h =
    span_of ps s (all_back (λ i. i < length ps) (places_of spans) (places_in s) (subst (AreWithin ps) (sym e) h))

each_span_of : (ps : List Primitive) (spans : List Span) → AreWithin ps (places_of spans)
    → AllByRecursion (IsSpanOf ps) spans
each_span_of ps [] h = tt
each_span_of ps (s ∷ spans) h = (
  span_of ps s (all_front (λ i. i < length ps) (places_in s) (places_of spans) h),
  each_span_of ps spans (all_back (λ i. i < length ps) (places_in s) (places_of spans) h),
)

pub spans_of : (ps : List Primitive) (spans : List Span) (s : Span) (places : List ℕ)
    → places_of spans ++ places_in s ≡ places → AreWithin ps places → AllByRecursion (IsSpanOf ps) spans
spans_of ps spans s places e h =
    each_span_of ps spans
    (all_front (λ i. i < length ps) (places_of spans) (places_in s) (subst (AreWithin ps) (sym e) h))

-- the part of a list that a span is
part : (qs : List PrimitiveTree) (s n : ℕ) → s + n ≤ length qs → take n (drop s qs)
    ≡ map (λ i. get_or qs i abort) (count_from s n)
part qs s zero le = refl
part qs s (suc n) le =
    let lt : s < length qs = omega arith in
    let next : s + 1 ≡ suc s = omega arith in
    ap (take (suc n)) (drop_more qs s abort lt) ∙ ap (λ i. get_or qs s abort ∷ take n (drop i qs)) next
    ∙ ap (λ z. get_or qs s abort ∷ z) (part qs (suc s) n (omega arith))

pub piece : (ps : List Primitive) (s : Span) → s.start < s.end → s.end ≤ length ps
    → map primitive (take (s.end - s.start) (drop s.start ps)) ≡ primitives_at ps (places_in s)
piece ps s lt le =
    let n = s.end - s.start in
    sym (take-map primitive n (drop s.start ps))
    ∙ ap (take n) (sym (drop-map primitive s.start ps))
    ∙ part (map primitive ps) s.start n (omega (arith, le, lt, length-map ps primitive))

pub no_piece : (ps : List Primitive) (s : Span) → s.end ≤ s.start → primitives_at ps (places_in s) ≡ []
no_piece ps s le = let none : s.end - s.start ≡ 0 = omega arith in
    ap (λ n. primitives_at ps (count_from s.start n)) none

-- What routes take of a list stands when the list was pushed to.

length-grown : (old new : List Primitive) → Grows old new → length old ≤ length new
length-grown old new g = omega (arith, ap length g.is, length-append old g.more)

places-grown : (old new : List Primitive) (places : List ℕ) → Grows old new → AreWithin old places
    → primitives_at new places ≡ primitives_at old places
places-grown old new [] g h = refl
places-grown old new (i ∷ places) g h =
    let qs = map primitive old in
    let lt : i < length qs = omega (arith, h.0, length-map old primitive) in
    let here : primitive_at new i ≡ primitive_at old i = ap (λ ps. get_or (map primitive ps) i abort) g.is
    ∙ ap (λ z. get_or z i abort) (map-append primitive old g.more)
    ∙ get_or_append_left qs (map primitive g.more) abort i lt in
    ap (λ z. z ∷ primitives_at new places) here ∙ ap (λ z. primitive_at old i ∷ z) (places-grown old new places g h.1)

pub route-grown : (old new : List Primitive) (r : RouteTree) → Grows old new → IsRoute old r → IsRoute new r
route-grown old new r g h = record {
  within = all_more (λ i. i < length old) (λ i. i < length new) (λ i lt. omega (arith, lt, length-grown old new g))
      r.places h.within;
  marked = h.marked ∙ ap has_abort (sym (places-grown old new r.places g h.within));
}

pub routes-grown : (old new : List Primitive) (rs : List RouteTree) → Grows old new → AllByRecursion (IsRoute old) rs
    → AllByRecursion (IsRoute new) rs
routes-grown old new rs g h = all_more (IsRoute old) (IsRoute new) (λ r is. route-grown old new r g is) rs h

pub paths-grown : (old new : List Primitive) (rs : List RouteTree) → Grows old new → AllByRecursion (IsRoute old) rs
    → map (path_along new) rs ≡ map (path_along old) rs
paths-grown old new [] g h = refl
paths-grown old new (r ∷ rs) g h =
    ap (λ z. z ∷ map (path_along new) rs) (places-grown old new r.places g h.0.within)
    ∙ ap (λ z. path_along old r ∷ z) (paths-grown old new rs g h.1)

pub grows-twice : (a b c : List Primitive) → Grows a b → Grows b c → Grows a c
grows-twice a b c g h =
    record { more = g.more ++ h.more; is = h.is ∙ ap (λ z. z ++ h.more) g.is ∙ append_assoc a g.more h.more }

pub grows-none : (a : List Primitive) → Grows a a
grows-none a = record { more = []; is = sym (append-nil a) }

-- Routes that go on take the paths that go on.
module _ (ps : List Primitive) where
  joined-path : (r q : RouteTree) → path_along ps (joined r q) ≡ path_along ps r ++ path_along ps q
  joined-path r q = map-append (primitive_at ps) r.places q.places

  joined-route : (r q : RouteTree) → r.aborts ≡ false → IsRoute ps r → IsRoute ps q → IsRoute ps (joined r q)
  joined-route r q onward h k = record {
    within = all_append (λ i. i < length ps) r.places q.places h.within k.within;
    marked = k.marked ∙ ap (λ b. b || has_abort (path_along ps q)) (sym onward ∙ h.marked)
        ∙ sym (has_abort-append (path_along ps r) (path_along ps q)) ∙ ap has_abort (sym (joined-path r q));
  }

  joined-routes : (r : RouteTree) (qs : List RouteTree) → r.aborts ≡ false → IsRoute ps r
      → AllByRecursion (IsRoute ps) qs → AllByRecursion (IsRoute ps) (map (joined r) qs)
  joined-routes r [] onward h k = tt
  joined-routes r (q ∷ qs) onward h k = (joined-route r q onward h k.0, joined-routes r qs onward h k.1)

  joined-paths : (r : RouteTree) (qs : List RouteTree) → map (path_along ps) (map (joined r) qs)
      ≡ map (λ q. path_along ps r ++ q) (map (path_along ps) qs)
  joined-paths r [] = refl
  joined-paths r (q ∷ qs) = ap (λ z. z ∷ map (path_along ps) (map (joined r) qs)) (joined-path r q)
      ∙ ap (λ z. (path_along ps r ++ path_along ps q) ∷ z) (joined-paths r qs)

  on-routes : (r : RouteTree) (qs : List RouteTree) → IsRoute ps r → AllByRecursion (IsRoute ps) qs
      → AllByRecursion (IsRoute ps) (routes_on qs r)
  on-routes r qs h k = either r.aborts refl
    where
      either : (x : Bool) → r.aborts ≡ x → AllByRecursion (IsRoute ps) (cond x (r ∷ []) (map (joined r) qs))
      either true e = (h, tt)
      either false e = joined-routes r qs e h k

  on-paths : (r : RouteTree) (qs : List RouteTree) → IsRoute ps r → map (path_along ps) (routes_on qs r)
      ≡ continued (map (path_along ps) qs) (path_along ps r)
  on-paths r qs h =
      either r.aborts
      ∙ ap (λ x. cond x (path_along ps r ∷ []) (map (λ q. path_along ps r ++ q) (map (path_along ps) qs))) h.marked
    where
      either : (x : Bool) → map (path_along ps) (cond x (r ∷ []) (map (joined r) qs))
          ≡ cond x (path_along ps r ∷ []) (map (λ q. path_along ps r ++ q) (map (path_along ps) qs))
      either true = refl
      either false = joined-paths r qs

  pub all_on-routes : (rs qs : List RouteTree) → AllByRecursion (IsRoute ps) rs → AllByRecursion (IsRoute ps) qs
      → AllByRecursion (IsRoute ps) (flat_map (routes_on qs) rs)
  all_on-routes [] qs h k = tt
  all_on-routes (r ∷ rs) qs h k =
      all_append (IsRoute ps) (routes_on qs r) (flat_map (routes_on qs) rs) (on-routes r qs h.0 k)
      (all_on-routes rs qs h.1 k)

  pub all_on-paths : (rs qs : List RouteTree) → AllByRecursion (IsRoute ps) rs
      → map (path_along ps) (flat_map (routes_on qs) rs)
      ≡ flat_map (continued (map (path_along ps) qs)) (map (path_along ps) rs)
  all_on-paths [] qs h = refl
  all_on-paths (r ∷ rs) qs h =
      map-append (path_along ps) (routes_on qs r) (flat_map (routes_on qs) rs)
      ∙ ap (λ z. z ++ map (path_along ps) (flat_map (routes_on qs) rs)) (on-paths r qs h.0)
      ∙ ap (λ z. continued (map (path_along ps) qs) (path_along ps r) ++ z) (all_on-paths rs qs h.1)

  -- behind aborts alone nothing is done
  pub stopped-paths : (rs : List RouteTree) (rest : List (List PrimitiveTree)) → AllByRecursion Stops rs
      → AllByRecursion (IsRoute ps) rs → map (path_along ps) rs ≡ flat_map (continued rest) (map (path_along ps) rs)
  stopped-paths [] rest h k = refl
  stopped-paths (r ∷ rs) rest h k =
      let aborts : has_abort (path_along ps r) ≡ true = sym k.0.marked ∙ h.0 in
      ap (λ z. path_along ps r ∷ z) (stopped-paths rs rest h.1 k.1)
      ∙ ap (λ x. cond x (path_along ps r ∷ []) (map (λ q. path_along ps r ++ q) rest)
      ++ flat_map (continued rest) (map (path_along ps) rs)) (sym aborts)

-- Drafts whose common end goes on with one route.

pub stops_further : (rs : List RouteTree) (b o t : RouteTree) (x a : Bool) → t ≡ longer b o → a ≡ o.aborts
    → (x ≡ false → AllByRecursion Stops (map (λ r. longer r b) rs)) → (x && not a) ≡ false
    → AllByRecursion Stops (map (λ r. longer r t) rs)
stops_further rs b o t x a is marked before stops =
    subst (λ t. AllByRecursion Stops (map (λ r. longer r t) rs)) (sym is) (either x a before marked stops)
  where
    either : (x a : Bool) → (x ≡ false → AllByRecursion Stops (map (λ r. longer r b) rs)) → a ≡ o.aborts
        → (x && not a) ≡ false → AllByRecursion Stops (map (λ r. longer r (longer b o)) rs)
    either false a before marked stops = stops_longer rs b o (before refl)
    either true true before marked stops = stops_behind rs b o (sym marked)
    either true false before marked stops = let no_way : true ≡ false = stops in absurd (cc no_way)

pub further : (rs : List RouteTree) (b o t : RouteTree) (old new : List RouteTree) → t ≡ longer b o
    → map (λ r. longer r b) rs ≡ old → new ≡ map (λ r. longer r t) rs → new ≡ flat_map (routes_on (o ∷ [])) old
further rs b o t old new is before made =
    made ∙ ap (λ t. map (λ r. longer r t) rs) is ∙ all_longer rs b o ∙ ap (flat_map (routes_on (o ∷ []))) before

pub stops_alone : (rs read : List RouteTree) (t : RouteTree) (x : Bool) → t ≡ no_route → read ≡ rs
    → (x ≡ false → AllByRecursion Stops read) → x ≡ false → AllByRecursion Stops (map (λ r. longer r t) rs)
stops_alone rs read t x is same before stops =
    subst (AllByRecursion Stops) (same ∙ sym (longer-none rs) ∙ ap (λ t. map (λ r. longer r t) rs) (sym is))
    (before stops)

pub alone : (rs new : List RouteTree) (t : RouteTree) → t ≡ no_route → new ≡ map (λ r. longer r t) rs → new ≡ rs
alone rs new t is made = made ∙ ap (λ t. map (λ r. longer r t) rs) is ∙ longer-none rs

-- What the listing of one part more leaves.
module _ (old new : List Primitive) (g : Grows old new) where
  pub behind-routes : (drafts next longer : List RouteTree) → longer ≡ flat_map (routes_on next) drafts
      → AllByRecursion (IsRoute old) drafts → AllByRecursion (IsRoute new) next → AllByRecursion (IsRoute new) longer
  behind-routes drafts next longer made h k =
      subst (AllByRecursion (IsRoute new)) (sym made)
      (all_on-routes new drafts next (routes-grown old new drafts g h) k)

  pub behind-paths : (drafts next longer : List RouteTree) (paths : List (List PrimitiveTree))
      → longer ≡ flat_map (routes_on next) drafts → AllByRecursion (IsRoute old) drafts
      → map (path_along new) next ≡ paths → map (path_along new) longer
      ≡ flat_map (continued paths) (map (path_along old) drafts)
  behind-paths drafts next longer paths made h e =
      ap (map (path_along new)) made
      ∙ all_on-paths new drafts next (routes-grown old new drafts g h)
      ∙ ap (λ z. flat_map (continued z) (map (path_along new) drafts)) e
      ∙ ap (flat_map (continued paths)) (paths-grown old new drafts g h)

  pub beside-routes : (all next appended : List RouteTree) → appended ≡ all ++ next → AllByRecursion (IsRoute old) all
      → AllByRecursion (IsRoute new) next → AllByRecursion (IsRoute new) appended
  beside-routes all next appended made h k =
      subst (AllByRecursion (IsRoute new)) (sym made)
      (all_append (IsRoute new) all next (routes-grown old new all g h) k)

  pub beside-paths : (all next appended : List RouteTree) (paths : List (List PrimitiveTree)) → appended ≡ all ++ next
      → AllByRecursion (IsRoute old) all → map (path_along new) next ≡ paths
      → map (path_along new) appended ≡ map (path_along old) all ++ paths
  beside-paths all next appended paths made h e =
      ap (map (path_along new)) made
      ∙ map-append (path_along new) all next
      ∙ ap (λ z. z ++ map (path_along new) next) (paths-grown old new all g h)
      ∙ ap (λ z. map (path_along old) all ++ z) e

pub start-routes : (ps : List Primitive) (drafts : List RouteTree) → drafts ≡ no_route ∷ []
    → AllByRecursion (IsRoute ps) drafts
start-routes ps drafts is = subst (AllByRecursion (IsRoute ps)) (sym is) (record { within = tt; marked = refl }, tt)

pub start-paths : (ps : List Primitive) (drafts : List RouteTree) (rest : List (List PrimitiveTree))
    → drafts ≡ no_route ∷ [] → flat_map (continued rest) (map (path_along ps) drafts) ≡ rest
start-paths ps drafts rest is = ap (λ ds. flat_map (continued rest) (map (path_along ps) ds)) is ∙ continued-start rest

-- The last primitive of what is left of a path.

length_piece : (block piece : List Primitive) (s : Span) → s.start < s.end
    → map primitive piece ≡ primitives_at block (places_in s) → 0 < length piece
length_piece block piece s lt is = some (s.end - s.start) (omega arith) is
  where
    some : (n : ℕ) → 0 < n → map primitive piece ≡ primitives_at block (count_from s.start n) → 0 < length piece
    some zero more e = absurd (omega arith)
    some (suc n) more e =
        let size : length piece ≡ suc (length (primitives_at block (count_from (suc s.start) n))) =
        sym (length-map piece primitive) ∙ ap length e in omega arith

last : (piece : List Primitive) (x : Primitive) → 0 < length piece → x ≡ get_or piece (length piece - 1) x
    → piece ≡ take (length piece - 1) piece ++ x ∷ []
last piece x some is =
    let n = length piece - 1 in
    let lt : n < length piece = omega arith in
    sym (take-append-drop n piece)
    ∙ ap (λ z. take n piece ++ z)
    (drop_more piece n x lt ∙ ap (λ z. get_or piece n x ∷ z) (drop_all (n + 1) piece (omega arith))
    ∙ ap (λ y. y ∷ []) (sym is))

empty : (back : List Primitive) → length back ≡ 0 → back ≡ []
empty [] none = refl
empty (x ∷ back) none = absurd (omega (arith, none))

pub last_of : (block front : List Primitive) (spans before : List Span) (s : Span) (back piece : List Primitive)
    (x : Primitive) (path : List PrimitiveTree) → AllByRecursion IsFilled spans → spans ≡ before ++ s ∷ []
    → length back ≡ 0 → map primitive piece ≡ primitives_at block (places_in s) → x ≡ get_or piece (length piece - 1) x
    → map primitive front ++ (primitives_at block (places_of spans) ++ map primitive back) ≡ path
    → path ≡ (map primitive front
    ++ (primitives_at block (places_of before) ++ map primitive (take (length piece - 1) piece))) ++ primitive x ∷ []
last_of block front spans before s back piece x path filled split none is at view =
    let lt : s.start < s.end = (all_back IsFilled before (s ∷ []) (subst (AllByRecursion IsFilled) split filled)).0 in
    let rest = take (length piece - 1) piece in
    let inner = primitives_at block (places_of before) in
    let whole : map primitive piece ≡ map primitive rest ++ primitive x ∷ [] =
    ap (map primitive) (last piece x (length_piece block piece s lt is) at) ∙ map-append primitive rest (x ∷ []) in
    let places : primitives_at block (places_of spans) ≡ inner ++ primitives_at block (places_in s) =
    ap (λ z. primitives_at block (places_of z)) split
    ∙ ap (primitives_at block) (flat_map-append places_in before (s ∷ [])
    ∙ ap (λ z. places_of before ++ z) (append-nil (places_in s)))
    ∙ map-append (primitive_at block) (places_of before) (places_in s) in
    sym view
    ∙ ap (λ z. map primitive front ++ (primitives_at block (places_of spans) ++ map primitive z)) (empty back none)
    ∙ ap (λ z. map primitive front ++ z) (append-nil (primitives_at block (places_of spans)) ∙ places
    ∙ ap (λ z. inner ++ z) (sym is ∙ whole) ∙ sym (append_assoc inner (map primitive rest) (primitive x ∷ [])))
    ∙ sym (append_assoc (map primitive front) (inner ++ map primitive rest) (primitive x ∷ []))

pub shorter : (rest : List PrimitiveTree) (q : PrimitiveTree) (path : List PrimitiveTree) → path ≡ rest ++ q ∷ []
    → length rest < length path
shorter rest q path e = omega (arith, ap length e, length-append rest (q ∷ []))
