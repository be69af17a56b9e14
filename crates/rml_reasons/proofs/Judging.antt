-- Conjectures that are judged one after another, and what is left where one is left out.
use Rattle.std.proofs.Common.{◌≡◌, ◌==◌, ◌<◌, ◌≤◌, ◌+◌, ℕ, not, List, [], ◌∷◌, ◌++◌, length, map, drop, get_or}
use Rattle.std.proofs.Common.{sym, ap, ◌∙◌, subst, append_assoc}
use Rattle.std.specs.Prelude.{All}
use Rattle.std.specs.List.{AllByRecursion, filter}
use Rattle.std.proofs.lemmas.List.{append-nil, drop_all, drop_more, map-append}
use Rattle.base.proofs.Lists.{all_push}
use Rattle.rml_command.specs.Models.{ModelTree}
use Rattle.rml_command.specs.Goals.{HasAbout}
use Rattle.rml_command.specs.declared.goal.Head.{Head}
use Rattle.rml_command.specs.declared.goal.Stage.{Stage}
use Rattle.rml_command.specs.declared.goal.Stage.TheVariants as stage
use Rattle.rml_command.specs.declared.goal.About.TheVariants as about
use Rattle.limits.specs.Ceilings.{Ceilings}
use Rattle.rml_reasons.specs.Reasons.{AreConjectures, IsLack, IsMinimalReason, IsReason, needed_conjectures, without}
use Rattle.rml_reasons.specs.Shrinking.{Carry, IsJudged}
use Rattle.rml_reasons.specs.declared.reason.Need.{Need}
use Rattle.rml_reasons.specs.declared.needs.Judged.{Judged}
use Rattle.rml_reasons.specs.declared.needs.Judged.TheVariants.{Needed}
use Rattle.rml_reasons.proofs.Sets.{fewer_conjectures}

pub own_below : (m : ModelTree) (st : Stage) (k : ℕ) → HasAbout m st (about.Conjecture k) → k < length m.conjectures
own_below m stage.Init k has = has
own_below m (stage.Action a) k has = has
own_below m stage.Final k has = absurd has

module _ (limits : Ceilings) (m : ModelTree) (group : Head) (held : List ℕ) where
  -- what is lacking without each of these
  abbrev pub AreLacks : List Need → Type 0
  AreLacks needs = AllByRecursion (λ n. IsLack limits m group (without n.conjecture held) n.lack) needs

  -- The needs so far stand before what is left.
  pub record AreNeedsSoFar (i : ℕ) (needs : List Need) : Type 0 where
    pub front : needed_conjectures needs ++ drop i held ≡ held
    pub lacks : AreLacks needs

  pub next_need : (i : ℕ) (needs new : List Need) (n : Need) → i < length held → n.conjecture ≡ get_or held i 0
      → new ≡ needs ++ n ∷ [] → AreNeedsSoFar i needs
      → IsLack limits m group (without n.conjecture held) n.lack → AreNeedsSoFar (i + 1) new
  next_need i needs new n lt is e h lack = record {
    front = ap (λ (l : List Need). needed_conjectures l ++ drop (i + 1) held) e
        ∙ ap (λ (l : List ℕ). l ++ drop (i + 1) held) (map-append (λ n. n.conjecture) needs (n ∷ []))
        ∙ append_assoc (needed_conjectures needs) (n.conjecture ∷ []) (drop (i + 1) held)
        ∙ ap (λ (k : ℕ). needed_conjectures needs ++ k ∷ drop (i + 1) held) is
        ∙ ap (λ (l : List ℕ). needed_conjectures needs ++ l) (sym (drop_more held i 0 lt)) ∙ h.front;
    lacks = subst AreLacks (sym e)
        (all_push (λ n. IsLack limits m group (without n.conjecture held) n.lack) needs n h.lacks lack);
  }

  pub all_needed : (i : ℕ) (needs new : List Need) → length held ≤ i → new ≡ needs → AreNeedsSoFar i needs
      → IsJudged limits m group held (Needed new)
  all_needed i needs new le e h = (
    ap needed_conjectures e ∙ sym (append-nil (needed_conjectures needs))
        ∙ ap (λ (l : List ℕ). needed_conjectures needs ++ l) (sym (drop_all i held le)) ∙ h.front,
    subst AreLacks (sym e) h.lacks,
  )

  pub minimal : (needs : List Need) → Carry limits m group held → IsJudged limits m group held (Needed needs)
      → IsMinimalReason limits m group needs
  minimal needs carry judged = record {
    conjectures = subst (AreConjectures m) (sym judged.0) carry.0;
    carry = subst (IsReason limits m group) (sym judged.0) carry.1;
    needed = subst (λ (ks : List ℕ).
        AllByRecursion (λ n. IsLack limits m group (without n.conjecture ks) n.lack) needs) (sym judged.0) judged.1;
  }

  pub carry_less : (k : ℕ) (left : List ℕ) → left ≡ filter (λ n. not (k == n)) held → Carry limits m group held
      → IsReason limits m group left → Carry limits m group left
  carry_less k left e carry reason =
      (subst (AreConjectures m) (sym e) (fewer_conjectures m k held carry.0), reason)
