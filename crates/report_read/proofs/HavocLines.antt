-- The line of a path's havocs.
use Rattle.std.proofs.Common.{◌≡◌, ℕ, suc, ◌<◌, ◌≤◌, Bool, true, false, List, [], ◌∷◌, ◌++◌, length, Option}
use Rattle.std.proofs.Common.{Some, None, refl, sym, ap, ◌∙◌, subst, cond, arith, append_assoc, append-nil, inl, inr}
use Rattle.std.specs.Prelude.{codes, decimal, slice_index}
use Rattle.std.specs.List.{AllByRecursion, filter, flat_map}
use Rattle.fol_sig.specs.Tables.{Tables, InRange, relation_at, function_at, tuple_count}
use Rattle.fol_sig.specs.Symbols.{Symbols, FitsStructure}
use Rattle.fol_sig.specs.Tuples.{tuples, TuplesAreNumbered}
use Rattle.fol_sig.specs.TupleSets.{has_tuple}
use Rattle.rml_command.specs.Trees.{PrimitiveTree, assume, set_rel, set_fun, havoc, havoc_rel, abort}
use Rattle.rml_command.specs.Models.{FitsPath}
use Rattle.rml_command.specs.Outcomes.{range_of}
use Rattle.rml_command.specs.Paths.{havoc_count}
use Rattle.rml_command.specs.declared.havoc.Havoc.{Havoc}
use Rattle.rml_command.specs.declared.havoc.Havoc.TheVariants.{Element, Tuples}
use Rattle.rml_report.specs.Words.{truth_text}
use Rattle.rml_report.specs.TableText.{tuple_text, bare_text, member_text, set_text}
use Rattle.rml_report.specs.HavocText.{element_text, relation_text, havocs_text, havoc_line}
use Rattle.line_scan.specs.Scanning.{behind, is_end, most}
use Rattle.line_scan.specs.Laws.{ScansAreExact, ends_number}
use Rattle.printed_report.specs.Executions.{AreAsked, AreAskedAlong}
use Rattle.report_values.specs.ValueReading.{choose, on, element_at, value_at, all_tuples}
use Rattle.report_values.specs.HavocReading.{truth_at, members_at, set_at, table_at, entry_at, entries_end, entries_in}
use Rattle.report_values.specs.HavocReading.{entries_along}
use Rattle.report_read.proofs.Pieces.{behind_then}
use Rattle.report_read.proofs.Parts.{IsLine}
use Rattle.report_read.proofs.LineLaws.{taken, kept, value_there, value_sound}
use Rattle.report_read.proofs.Tuples.{Distinct, tuple_same, in_range, distinct, tuples_are, each_tuple_is}
use Rattle.report_read.proofs.Members.{Picks, picks_all, picks_filter, picks_kept, filter_kept, filter_none}
use Rattle.report_read.proofs.Members.{filter_text}

behind_blank : (xs r : List ℕ) → tuple_text xs ++ r ≡ 32 ∷ (bare_text xs ++ r)
unfolding tuple_text bare_text
behind_blank xs r = refl

no_brace : (xs rest : List ℕ) → behind (bare_text xs) (125 ∷ rest) ≡ None
unfolding bare_text
no_brace xs rest = refl

module _ (x : ScansAreExact) (numbered : TuplesAreNumbered) (sizes : List ℕ)
    (small : (k : ℕ) → slice_index sizes k ≤ most) where
  not_bare : (ks xs ys rest : List ℕ) → InRange sizes ks xs → InRange sizes ks ys → (xs ≡ ys → ⊥)
      → behind (bare_text xs) (bare_text ys ++ rest) ≡ None
  not_bare ks xs ys rest h k differ = by (behind (bare_text xs) (bare_text ys ++ rest)) refl
    where
      by : (o : Option (List ℕ)) → behind (bare_text xs) (bare_text ys ++ rest) ≡ o
          → behind (bare_text xs) (bare_text ys ++ rest) ≡ None
      by None is = is
      by (Some r) is =
          let same : bare_text ys ++ rest ≡ bare_text xs ++ r =
          x.behind_sound (bare_text xs) (bare_text ys ++ rest) r is in
          absurd (differ (sym (tuple_same x sizes small ks ys xs rest r k h
          (behind_blank ys rest ∙ ap (λ l. 32 ∷ l) same ∙ sym (behind_blank xs r)))))

  -- a tuple that is not among those that stand there
  no_member : (ks xs : List ℕ) (vs : List (List ℕ)) (rest : List ℕ) → InRange sizes ks xs
      → AllByRecursion (InRange sizes ks) vs → AllByRecursion (λ ys. xs ≡ ys → ⊥) vs
      → behind (bare_text xs) (flat_map bare_text vs ++ 125 ∷ rest) ≡ None
  no_member ks xs [] rest h all others = no_brace xs rest
  no_member ks xs (v ∷ vs) rest h all others =
      ap (behind (bare_text xs)) (append_assoc (bare_text v) (flat_map bare_text vs) (125 ∷ rest))
      ∙ not_bare ks xs v (flat_map bare_text vs ++ 125 ∷ rest) h all.0 others.0

  members_there : (ks : List ℕ) (ts vs done : List (List ℕ)) (rest : List ℕ) → AllByRecursion (InRange sizes ks) ts
      → Distinct ts → Picks ts vs
      → members_at ts done (flat_map bare_text vs ++ 125 ∷ rest) ≡ Some (done ++ vs, rest)
  members_there ks [] vs done rest all one p =
      ap (λ l. members_at [] done (flat_map bare_text l ++ 125 ∷ rest)) p
      ∙ ap (λ l. Some (l, rest)) (sym (append-nil done) ∙ ap (λ l. done ++ l) (sym p))
  members_there ks (t ∷ ts) vs done rest all one (inl p) =
      let here : List ℕ = flat_map bare_text vs ++ 125 ∷ rest in
      ap (λ o. choose o (members_at ts (done ++ t ∷ [])) (members_at ts done here))
      (no_member ks t vs rest all.0 (picks_all (InRange sizes ks) ts vs p all.1)
      (picks_all (λ ys. t ≡ ys → ⊥) ts vs p one.0))
      ∙ members_there ks ts vs done rest all.1 one.1 p
  members_there ks (t ∷ ts) vs done rest all one (inr p) =
      let after : List ℕ = flat_map bare_text p.0 ++ 125 ∷ rest in
      let here : List ℕ = (bare_text t ++ flat_map bare_text p.0) ++ 125 ∷ rest in
      let found : behind (bare_text t) here ≡ Some after =
      ap (behind (bare_text t)) (append_assoc (bare_text t) (flat_map bare_text p.0) (125 ∷ rest))
      ∙ x.behind_there (bare_text t) (flat_map bare_text p.0 ++ 125 ∷ rest) in
      ap (λ l. members_at (t ∷ ts) done (flat_map bare_text l ++ 125 ∷ rest)) p.1
      ∙ ap (λ o. choose o (members_at ts (done ++ t ∷ [])) (members_at ts done here)) found
      ∙ members_there ks ts p.0 (done ++ t ∷ []) rest all.1 one.1 p.2
      ∙ ap (λ l. Some (l, rest)) (append_assoc done (t ∷ []) p.0 ∙ ap (λ l. done ++ l) (sym p.1))

  record HasMembers (ts done : List (List ℕ)) (bs : List ℕ) (n : List (List ℕ) × List ℕ) : Type 0 where
    values : List (List ℕ)
    picks : Picks ts values
    all : n.0 ≡ done ++ values
    text : bs ≡ flat_map bare_text values ++ 125 ∷ n.1

  members_sound : (ts done : List (List ℕ)) (bs : List ℕ) (n : List (List ℕ) × List ℕ)
      → members_at ts done bs ≡ Some n → HasMembers ts done bs n
  members_sound [] done bs n e =
      let a = taken (behind (codes "}") bs) (λ (r : List ℕ). Some (done, r)) n e in
      let same : (done, a.value) ≡ n = cc a.gives in
      record {
        values = [];
        picks = refl;
        all = sym (ap (λ (m : List (List ℕ) × List ℕ). m.0) same) ∙ sym (append-nil done);
        text = x.behind_sound (codes "}") bs a.value a.found
            ∙ ap (λ (m : List (List ℕ) × List ℕ). 125 ∷ m.1) same;
      }
  members_sound (t ∷ ts) done bs n e =
      by (behind (bare_text t) bs) refl e (λ a. members_sound ts (done ++ t ∷ []) a n)
      (members_sound ts done bs n)
    where
      by : (o : Option (List ℕ)) → behind (bare_text t) bs ≡ o
          → choose o (members_at ts (done ++ t ∷ [])) (members_at ts done bs) ≡ Some n
          → ((a : List ℕ) → members_at ts (done ++ t ∷ []) a ≡ Some n → HasMembers ts (done ++ t ∷ []) a n)
          → (members_at ts done bs ≡ Some n → HasMembers ts done bs n)
          → HasMembers (t ∷ ts) done bs n
      by (Some a) is f yes_more no_more =
          let r = yes_more a f in
          record {
            values = t ∷ r.values;
            picks = inr (r.values, refl, r.picks);
            all = r.all ∙ append_assoc done (t ∷ []) r.values;
            text = behind_then x (bare_text t) bs a (flat_map bare_text r.values ++ 125 ∷ n.1) is r.text
                ∙ sym (append_assoc (bare_text t) (flat_map bare_text r.values) (125 ∷ n.1));
          }
      by None is f yes_more no_more =
          let r = no_more f in
          record { values = r.values; picks = inl r.picks; all = r.all; text = r.text }

  all_distinct : (ks : List ℕ) → Distinct (all_tuples sizes ks)
  all_distinct ks = distinct sizes ks (numbered sizes ks) (tuple_count sizes ks) 0 (omega arith)

  all_in_range : (ks : List ℕ) → AllByRecursion (InRange sizes ks) (all_tuples sizes ks)
  all_in_range ks = in_range sizes ks (numbered sizes ks) (tuple_count sizes ks) 0 (omega arith)

-- the text of a table is that of its tuples in order
module _ (numbered : TuplesAreNumbered) (sizes : List ℕ) where
  pub tuples_distinct : (ks : List ℕ) → Distinct (tuples sizes ks)
  tuples_distinct ks =
      subst Distinct (sym (tuples_are sizes ks (numbered sizes ks)))
      (distinct sizes ks (numbered sizes ks) (tuple_count sizes ks) 0 (omega arith))

  set_text_is : (k : ℕ) (ks : List ℕ) (xss : List (List ℕ)) → set_text sizes (k ∷ ks) xss
      ≡ (codes "{" ++ flat_map bare_text (filter (has_tuple xss) (tuples sizes (k ∷ ks)))) ++ codes "}"
  set_text_is k ks xss =
      ap (λ l. (codes "{" ++ l) ++ codes "}")
      (each_tuple_is sizes (k ∷ ks) (member_text xss) (numbered sizes (k ∷ ks))
      ∙ ap (flat_map (member_text xss)) (sym (tuples_are sizes (k ∷ ks) (numbered sizes (k ∷ ks))))
      ∙ filter_text (has_tuple xss) bare_text (tuples sizes (k ∷ ks)))

  has_empty : (xss : List (List ℕ)) → has_tuple (filter (has_tuple xss) ([] ∷ [])) [] ≡ has_tuple xss []
  has_empty xss = by (has_tuple xss [])
    where
      by : (b : Bool) → has_tuple (cond b ([] ∷ []) []) [] ≡ b
      by true = refl
      by false = refl

  pub same_set : (ks : List ℕ) (xss : List (List ℕ))
      → set_text sizes ks (filter (has_tuple xss) (tuples sizes ks)) ≡ set_text sizes ks xss
  same_set [] xss = ap truth_text (has_empty xss)
  same_set (k ∷ ks) xss =
      let ts : List (List ℕ) = tuples sizes (k ∷ ks) in
      set_text_is k ks (filter (has_tuple xss) ts)
      ∙ ap (λ l. (codes "{" ++ flat_map bare_text l) ++ codes "}")
      (filter_kept (has_tuple xss) ts (tuples_distinct (k ∷ ks)))
      ∙ sym (set_text_is k ks xss)

module _ (x : ScansAreExact) (numbered : TuplesAreNumbered) (sizes : List ℕ)
    (small : (k : ℕ) → slice_index sizes k ≤ most) where
  truth_word : (b : Bool) (rest : List ℕ) → truth_at (truth_text b ++ rest) ≡ Some (cond b ([] ∷ []) [], rest)
  unfolding truth_text
  truth_word true rest = refl
  truth_word false rest = refl

  set_there : (ks : List ℕ) (xss : List (List ℕ)) (rest : List ℕ) → filter (has_tuple xss) (tuples sizes ks) ≡ xss
      → set_at sizes ks (set_text sizes ks xss ++ rest) ≡ Some (xss, rest)
  set_there [] xss rest is =
      truth_word (has_tuple xss []) rest ∙ ap (λ l. Some (l, rest)) is
  set_there (k ∷ ks) xss rest is =
      let all : List (List ℕ) = all_tuples sizes (k ∷ ks) in
      let same = tuples_are sizes (k ∷ ks) (numbered sizes (k ∷ ks)) in
      let picks : Picks all xss = subst (Picks all)
      (ap (filter (has_tuple xss)) (sym same) ∙ is) (picks_filter (has_tuple xss) all) in
      ap (λ l. set_at sizes (k ∷ ks) (l ++ rest))
      (set_text_is numbered sizes k ks xss ∙ ap (λ l. (codes "{" ++ flat_map bare_text l) ++ codes "}") is)
      ∙ ap (members_at all []) (append_assoc (flat_map bare_text xss) (codes "}") rest)
      ∙ members_there x numbered sizes small (k ∷ ks) all xss [] rest
      (all_in_range x numbered sizes small (k ∷ ks)) (all_distinct x numbered sizes small (k ∷ ks)) picks

  record IsSet (ks bs : List ℕ) (n : List (List ℕ) × List ℕ) : Type 0 where
    in_order : filter (has_tuple n.0) (tuples sizes ks) ≡ n.0
    text : bs ≡ set_text sizes ks n.0 ++ n.1

  truth_sound : (bs : List ℕ) (n : List (List ℕ) × List ℕ) → truth_at bs ≡ Some n → IsSet [] bs n
  unfolding truth_text
  truth_sound bs n e = by (behind (codes "true") bs) (behind (codes "false") bs) refl refl e
    where
      by : (o p : Option (List ℕ)) → behind (codes "true") bs ≡ o → behind (codes "false") bs ≡ p
          → choose o (λ a. Some ([] ∷ [], a)) (on p (λ a. Some ([], a))) ≡ Some n → IsSet [] bs n
      by (Some a) p i j f =
          let same : ([] ∷ [], a) ≡ n = cc f in
          subst (IsSet [] bs) same (record { in_order = refl; text = x.behind_sound (codes "true") bs a i })
      by None (Some a) i j f =
          let same : ([], a) ≡ n = cc f in
          subst (IsSet [] bs) same (record { in_order = refl; text = x.behind_sound (codes "false") bs a j })
      by None None i j f = absurd (cc f)

  set_sound : (ks bs : List ℕ) (n : List (List ℕ) × List ℕ) → set_at sizes ks bs ≡ Some n → IsSet ks bs n
  set_sound [] bs n e = truth_sound bs n e
  set_sound (k ∷ ks) bs n e =
      let all : List (List ℕ) = all_tuples sizes (k ∷ ks) in
      let same = tuples_are sizes (k ∷ ks) (numbered sizes (k ∷ ks)) in
      let a = taken (behind (codes "{") bs) (members_at all []) n e in
      let r = members_sound x numbered sizes small all [] a.value n a.gives in
      let in_order : filter (has_tuple n.0) (tuples sizes (k ∷ ks)) ≡ n.0 =
      ap (filter (has_tuple n.0)) same
      ∙ picks_kept all n.0 (all_distinct x numbered sizes small (k ∷ ks)) (subst (Picks all) (sym r.all) r.picks) in
      record {
        in_order = in_order;
        text = behind_then x (codes "{") bs a.value (flat_map bare_text r.values ++ 125 ∷ n.1) a.found r.text
            ∙ ap (λ l. 123 ∷ (flat_map bare_text l ++ 125 ∷ n.1)) (sym r.all)
            ∙ ap (λ l. 123 ∷ l) (sym (append_assoc (flat_map bare_text n.0) (codes "}") n.1))
            ∙ ap (λ l. ((codes "{" ++ flat_map bare_text l) ++ codes "}") ++ n.1) (sym in_order)
            ∙ ap (λ l. l ++ n.1) (sym (set_text_is numbered sizes k ks n.0));
      }

-- the entries of a trace
pub asked_count : (s : Tables) (path : List PrimitiveTree) (hs : List Havoc) → AreAsked s path hs
    → length hs ≡ havoc_count path
asked_count s [] hs is = ap (λ (l : List Havoc). length l) is
asked_count s (assume p ∷ qs) hs is = asked_count s qs hs is.1
asked_count s (set_rel r by ∷ qs) hs is = asked_count s qs hs is.1
asked_count s (set_fun f by ∷ qs) hs is = asked_count s qs hs is.1
asked_count s (havoc v ∷ qs) [] is = absurd is.0
asked_count s (havoc v ∷ qs) (Element x ∷ hs) is = ap suc (asked_count s qs hs is.1)
asked_count s (havoc v ∷ qs) (Tuples xss ∷ hs) is = absurd is.0
asked_count s (havoc_rel r ∷ qs) [] is = absurd is.0
asked_count s (havoc_rel r ∷ qs) (Element x ∷ hs) is = absurd is.0
asked_count s (havoc_rel r ∷ qs) (Tuples xss ∷ hs) is = ap suc (asked_count s qs hs is.1)
asked_count s (abort ∷ qs) hs is = asked_count s qs hs is.1

ends_entries : (s : Tables) (path : List PrimitiveTree) (hs : List Havoc)
    → ends_number (havocs_text s path hs ++ codes "\n") ≡ true
unfolding element_text relation_text
ends_entries s [] hs = refl
ends_entries s (assume p ∷ qs) hs = ends_entries s qs hs
ends_entries s (set_rel r by ∷ qs) hs = ends_entries s qs hs
ends_entries s (set_fun f by ∷ qs) hs = ends_entries s qs hs
ends_entries s (havoc v ∷ qs) [] = ends_entries s qs []
ends_entries s (havoc v ∷ qs) (Element x ∷ hs) = refl
ends_entries s (havoc v ∷ qs) (Tuples xss ∷ hs) = ends_entries s qs hs
ends_entries s (havoc_rel r ∷ qs) [] = ends_entries s qs []
ends_entries s (havoc_rel r ∷ qs) (Element x ∷ hs) = ends_entries s qs hs
ends_entries s (havoc_rel r ∷ qs) (Tuples xss ∷ hs) = refl
ends_entries s (abort ∷ qs) hs = ends_entries s qs hs

module _ (x : ScansAreExact) (numbered : TuplesAreNumbered) (s : Tables)
    (small : (k : ℕ) → slice_index s.sizes k ≤ most) where
  entries_there : (path : List PrimitiveTree) (done hs : List Havoc) → AreAsked s path hs
      → entries_end s path done (havocs_text s path hs ++ codes "\n") ≡ Some (done ++ hs)
  unfolding element_text relation_text
  entries_there [] done hs is =
      ap (λ t. cond t (Some done) None) x.end_there
      ∙ ap Some (sym (append-nil done) ∙ ap (λ l. done ++ l) (sym is))
  entries_there (assume p ∷ qs) done hs is = entries_there qs done hs is.1
  entries_there (set_rel r by ∷ qs) done hs is = entries_there qs done hs is.1
  entries_there (set_fun f by ∷ qs) done hs is = entries_there qs done hs is.1
  entries_there (havoc v ∷ qs) done [] is = absurd is.0
  entries_there (havoc v ∷ qs) done (Element y ∷ hs) is =
      let more : List ℕ = havocs_text s qs hs in
      ap (λ l. entries_end s (havoc v ∷ qs) done (32 ∷ l)) (append_assoc (decimal y) more (codes "\n"))
      ∙ ap (λ o. on (on o (λ (n : ℕ × List ℕ). Some (done ++ Element n.0 ∷ [], n.1)))
      (λ (n : List Havoc × List ℕ). entries_end s qs n.0 n.1))
      (value_there x (range_of s v) y (more ++ codes "\n") is.0 (small (function_at s v).into) (ends_entries s qs hs))
      ∙ entries_there qs (done ++ Element y ∷ []) hs is.1
      ∙ ap Some (append_assoc done (Element y ∷ []) hs)
  entries_there (havoc v ∷ qs) done (Tuples xss ∷ hs) is = absurd is.0
  entries_there (havoc_rel r ∷ qs) done [] is = absurd is.0
  entries_there (havoc_rel r ∷ qs) done (Element y ∷ hs) is = absurd is.0
  entries_there (havoc_rel r ∷ qs) done (Tuples xss ∷ hs) is =
      let more : List ℕ = havocs_text s qs hs in
      let set : List ℕ = set_text s.sizes (relation_at s r).sorts xss in
      ap (λ l. entries_end s (havoc_rel r ∷ qs) done (32 ∷ l)) (append_assoc set more (codes "\n"))
      ∙ ap (λ o. on (on o (λ (n : List (List ℕ) × List ℕ). Some (done ++ Tuples n.0 ∷ [], n.1)))
      (λ (n : List Havoc × List ℕ). entries_end s qs n.0 n.1))
      (set_there x numbered s.sizes small (relation_at s r).sorts xss (more ++ codes "\n") is.0)
      ∙ entries_there qs (done ++ Tuples xss ∷ []) hs is.1
      ∙ ap Some (append_assoc done (Tuples xss ∷ []) hs)
  entries_there (abort ∷ qs) done hs is = entries_there qs done hs is.1

  record HasEntries (path : List PrimitiveTree) (done hs : List Havoc) (bs : List ℕ) : Type 0 where
    values : List Havoc
    asked : AreAsked s path values
    all : hs ≡ done ++ values
    text : bs ≡ havocs_text s path values ++ codes "\n"

  entries_sound : (path : List PrimitiveTree) (done hs : List Havoc) (bs : List ℕ)
      → entries_end s path done bs ≡ Some hs → HasEntries path done hs bs
  unfolding element_text relation_text
  entries_sound [] done hs bs e =
      let k = kept (is_end bs) done hs e in
      record {
        values = [];
        asked = refl;
        all = sym k.value ∙ sym (append-nil done);
        text = x.end_sound bs k.test;
      }
  entries_sound (assume p ∷ qs) done hs bs e =
      let r = entries_sound qs done hs bs e in
      record { values = r.values; asked = (tt, r.asked); all = r.all; text = r.text }
  entries_sound (set_rel r by ∷ qs) done hs bs e =
      let r = entries_sound qs done hs bs e in
      record { values = r.values; asked = (tt, r.asked); all = r.all; text = r.text }
  entries_sound (set_fun f by ∷ qs) done hs bs e =
      let r = entries_sound qs done hs bs e in
      record { values = r.values; asked = (tt, r.asked); all = r.all; text = r.text }
  entries_sound (havoc v ∷ qs) done hs bs e =
      let a = taken (entry_at s (havoc v) done bs) (λ (n : List Havoc × List ℕ). entries_end s qs n.0 n.1) hs e in
      let b = taken (element_at (range_of s v) bs) (λ (n : ℕ × List ℕ). Some (done ++ Element n.0 ∷ [], n.1)) a.value
      a.found in
      let c = taken (behind (codes " ") bs) (value_at (range_of s v)) b.value b.found in
      let w = value_sound x (range_of s v) c.value b.value c.gives in
      let same : (done ++ Element b.value.0 ∷ [], b.value.1) ≡ a.value = cc b.gives in
      let r = entries_sound qs (done ++ Element b.value.0 ∷ []) hs b.value.1
      (ap (λ (n : List Havoc × List ℕ). entries_end s qs n.0 n.1) same ∙ a.gives) in
      record {
        values = Element b.value.0 ∷ r.values;
        asked = (w.below, r.asked);
        all = r.all ∙ append_assoc done (Element b.value.0 ∷ []) r.values;
        text = behind_then x (codes " ") bs c.value
            (decimal b.value.0 ++ (havocs_text s qs r.values ++ codes "\n")) c.found
            (w.text ∙ ap (λ l. decimal b.value.0 ++ l) r.text)
            ∙ ap (λ l. 32 ∷ l) (sym (append_assoc (decimal b.value.0) (havocs_text s qs r.values) (codes "\n")));
      }
  entries_sound (havoc_rel q ∷ qs) done hs bs e =
      let a = taken (entry_at s (havoc_rel q) done bs) (λ (n : List Havoc × List ℕ). entries_end s qs n.0 n.1) hs e in
      let b = taken (table_at s q bs) (λ (n : List (List ℕ) × List ℕ). Some (done ++ Tuples n.0 ∷ [], n.1)) a.value
      a.found in
      let c = taken (behind (codes " ") bs) (set_at s.sizes (relation_at s q).sorts) b.value b.found in
      let w = set_sound x numbered s.sizes small (relation_at s q).sorts c.value b.value c.gives in
      let set : List ℕ = set_text s.sizes (relation_at s q).sorts b.value.0 in
      let same : (done ++ Tuples b.value.0 ∷ [], b.value.1) ≡ a.value = cc b.gives in
      let r = entries_sound qs (done ++ Tuples b.value.0 ∷ []) hs b.value.1
      (ap (λ (n : List Havoc × List ℕ). entries_end s qs n.0 n.1) same ∙ a.gives) in
      record {
        values = Tuples b.value.0 ∷ r.values;
        asked = (w.in_order, r.asked);
        all = r.all ∙ append_assoc done (Tuples b.value.0 ∷ []) r.values;
        text = behind_then x (codes " ") bs c.value (set ++ (havocs_text s qs r.values ++ codes "\n")) c.found
            (w.text ∙ ap (λ l. set ++ l) r.text)
            ∙ ap (λ l. 32 ∷ l) (sym (append_assoc set (havocs_text s qs r.values) (codes "\n")));
      }
  entries_sound (abort ∷ qs) done hs bs e =
      let r = entries_sound qs done hs bs e in
      record { values = r.values; asked = (tt, r.asked); all = r.all; text = r.text }

  pub record IsTrace (path : Option (List PrimitiveTree)) (hs : List Havoc) (line : List ℕ) : Type 0 where
    pub asked : AreAskedAlong s path hs
    pub text : line ≡ havoc_line s path hs

  module _ (path : List PrimitiveTree) where
    trace_there : (hs : List Havoc) (line : List ℕ) → IsTrace (Some path) hs line
        → entries_along s (Some path) line ≡ Some hs
    unfolding havoc_line
    trace_there hs line is =
        ap (entries_in s path)
        (is.text ∙ append_assoc (codes "  havoc:") (havocs_text s path hs) (codes "\n"))
        ∙ ap (λ o. on o (entries_end s path []))
        (x.behind_there (codes "  havoc:") (havocs_text s path hs ++ codes "\n"))
        ∙ entries_there path [] hs is.asked

    trace_sound : (line : List ℕ) (hs : List Havoc) → entries_along s (Some path) line ≡ Some hs
        → IsTrace (Some path) hs line
    unfolding havoc_line
    trace_sound line hs e =
        let a = taken (behind (codes "  havoc:") line) (entries_end s path []) hs e in
        let r = entries_sound path [] hs a.value a.gives in
        record {
          asked = subst (AreAsked s path) (sym r.all) r.asked;
          text = behind_then x (codes "  havoc:") line a.value (havocs_text s path r.values ++ codes "\n") a.found r.text
              ∙ sym (append_assoc (codes "  havoc:") (havocs_text s path r.values) (codes "\n"))
              ∙ ap (λ l. (codes "  havoc:" ++ havocs_text s path l) ++ codes "\n") (sym r.all);
        }

  -- some trace there is
  first_entries : List PrimitiveTree → List Havoc
  first_entries [] = []
  first_entries (assume p ∷ qs) = first_entries qs
  first_entries (set_rel r by ∷ qs) = first_entries qs
  first_entries (set_fun f by ∷ qs) = first_entries qs
  first_entries (havoc v ∷ qs) = Element 0 ∷ first_entries qs
  first_entries (havoc_rel r ∷ qs) = Tuples [] ∷ first_entries qs
  first_entries (abort ∷ qs) = first_entries qs

  module _ (sig : Symbols) (fits : FitsStructure sig s) where
    are_first : (path : List PrimitiveTree) → FitsPath sig path → AreAsked s path (first_entries path)
    unfolding first_entries
    are_first [] f = refl
    are_first (assume p ∷ qs) f = (tt, are_first qs f.1)
    are_first (set_rel r by ∷ qs) f = (tt, are_first qs f.1)
    are_first (set_fun g by ∷ qs) f = (tt, are_first qs f.1)
    are_first (havoc v ∷ qs) f =
        let lt : sig.into_of v < length s.sizes = subst (λ n. sig.into_of v < n) fits.sorts f.0.2 in (
          fits.whole.positive (function_at s v).into 0
              (subst (λ k. k < length s.sizes) (fits.into_of v f.0.0) lt),
          are_first qs f.1,
        )
    are_first (havoc_rel r ∷ qs) f = (filter_none (tuples s.sizes (relation_at s r).sorts), are_first qs f.1)
    are_first (abort ∷ qs) f = (tt, are_first qs f.1)

    trace_along : (path : List PrimitiveTree) → FitsPath sig path
        → IsLine (entries_along s (Some path)) (IsTrace (Some path))
    trace_along path f = record {
      there = trace_there path;
      sound = trace_sound path;
      empty = refl;
      value = first_entries path;
      line = havoc_line s (Some path) (first_entries path);
      some = record { asked = are_first path f; text = refl };
    }

    pub trace_line_is : (path : Option (List PrimitiveTree)) (p : List PrimitiveTree) → path ≡ Some p
        → FitsPath sig p → IsLine (entries_along s path) (IsTrace path)
    trace_line_is path p is f =
        subst (λ o. IsLine (entries_along s o) (IsTrace o)) (sym is) (trace_along p f)
