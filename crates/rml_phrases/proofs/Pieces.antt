-- All that is proved of a reader, for a level and the next: one lemma for each word of the grammar.
use Rattle.std.proofs.Common.{◌≡◌, Bool, true, false, inl, inr, List, [], ◌∷◌, ◌++◌, Option, Some, None, refl, subst}
use Rattle.std.proofs.lemmas.List.{append-nil}
use Rattle.rml_lex.specs.declared.token.Kind.{Kind}
use Rattle.rml_phrases.specs.Language.{Tokens, Phrase, place_of}
use Rattle.rml_phrases.specs.Language as phrase
use Rattle.rml_phrases.specs.Piece.{Piece, terminal, opens, ◌⊗◌, ◌∣◌, ◌⇒◌, optional, many, listed, placed}
use Rattle.rml_phrases.specs.Piece.{between, after, separated}
use Rattle.rml_phrases.specs.Reading.{Reader, expect_at, both_at, made_at, either_at, optional_at, many_at, listed_at}
use Rattle.rml_phrases.specs.Reading.{placed_at, opening_at, between_at, after_at, separated_at}
use Rattle.rml_phrases.specs.Good.{Some_of, Exact, Good, Held, Inside}
use Rattle.rml_phrases.proofs.Exact.{some_terminal, terminal_exact, both_exact, made_exact, either_exact}
use Rattle.rml_phrases.proofs.Exact.{optional_exact, many_exact, placed_exact, closed_exact, wider_exact, joint, apart}
use Rattle.rml_phrases.proofs.Exact.{apart-nil, within}
use Rattle.rml_phrases.proofs.Levels.{terminal_extends, both_extends, made_extends, either_extends, optional_extends}
use Rattle.rml_phrases.proofs.Levels.{many_extends, placed_extends, closed_extends}
use Rattle.rml_phrases.proofs.Listed.{listed_exact, listed_extends}
use Rattle.rml_phrases.proofs.Fronts.{terminal_fronts, both_fronts, made_fronts, placed_fronts, optional_fronts}
use Rattle.rml_phrases.proofs.Fronts.{either_fronts, many_fronts, listed_fronts, closed_fronts, opened_fronts}
use Rattle.rml_phrases.proofs.Fronts.{terminal_closed, both_closed, opens_closed, either_closed, optional_closed}
use Rattle.rml_phrases.proofs.Fronts.{many_closed, listed_closed}

-- ---- some phrase

pub some_both : {A B : Type 0} {L : Phrase A} {M : Phrase B} → Some_of L → Some_of M → Some_of (phrase.◌⊗◌ L M)
some_both a b = record {
  tokens = a.tokens ++ b.tokens;
  value = (a.value, b.value);
  means =
      (a.tokens, b.tokens, refl, a.means, b.means);
}

pub some_made : {A B : Type 0} {L : Phrase A} (h : A → B) → Some_of L → Some_of (phrase.◌⇒◌ L h)
some_made h a = record { tokens = a.tokens; value = h a.value; means = (a.value, a.means, refl) }

pub some_placed : {A : Type 0} {L : Phrase A} → Some_of L → Some_of (phrase.placed L)
some_placed a = record { tokens = a.tokens; value = (place_of a.tokens, a.value); means = (refl, a.means) }

pub some_left : {A : Type 0} {L : Phrase A} (M : Phrase A) → Some_of L → Some_of (phrase.◌∣◌ L M)
some_left M a = record { tokens = a.tokens; value = a.value; means = inl a.means }

pub some_right : {A : Type 0} (L : Phrase A) {M : Phrase A} → Some_of M → Some_of (phrase.◌∣◌ L M)
some_right L a = record { tokens = a.tokens; value = a.value; means = inr a.means }

pub no_optional : {A : Type 0} (L : Phrase A) → Some_of (phrase.optional L)
no_optional L = record { tokens = []; value = None; means = refl }

pub no_many : {A : Type 0} (L : Phrase A) → Some_of (phrase.many L)
no_many L = record { tokens = []; value = []; means = refl }

pub no_listed : {A : Type 0} (k : Kind) (L : Phrase A) → Some_of (phrase.listed k L)
no_listed k L = record { tokens = []; value = []; means = refl }

-- ---- the words

pub a_terminal : (k : Kind) → Good (expect_at k) (expect_at k) (terminal k) (terminal k) (k ∷ []) [] false
a_terminal k = record {
  exact = terminal_exact k;
  grows = terminal_extends k;
  fronts = terminal_fronts k;
  some =
      some_terminal k;
  closed = terminal_closed k;
}

pub both : {A B : Type 0} {p p' : Reader A} {q q' : Reader B} {L L' : Piece A} {M M' : Piece B} {f m g n : List Kind}
    {e : Bool} → Good p p' L L' f m false → Good q q' M M' g n e → apart g m ≡ true
    → Good (both_at p q) (both_at p' q') (L ⊗ M) (L' ⊗ M') f (joint e n m) false
both {L = L} {M = M} P Q clear = record {
  exact = both_exact _ _ _ _ _ _ _ _ _ _ P.exact Q.exact clear;
  grows = both_extends _ _ _ _ _ _ _ _ _ _ _ P.exact P.grows Q.grows Q.some;
  fronts = both_fronts _ _ _ _ _ _ _ _ _ _ _ P.exact Q.exact P.fronts Q.fronts clear;
  some = some_both P.some Q.some;
  closed = both_closed L M P.fronts.whole P.closed Q.closed;
}

pub made : {A B : Type 0} {p p' : Reader A} {L L' : Piece A} {f m : List Kind} {e : Bool} (h : A → B)
    → Good p p' L L' f m e → Good (made_at h p) (made_at h p') (L ⇒ h) (L' ⇒ h) f m e
made h P = record {
  exact = made_exact h _ _ _ _ _ P.exact;
  grows = made_extends h _ _ _ _ P.grows;
  fronts = made_fronts h _ _ _ _ P.fronts;
  some = some_made h P.some;
  closed = P.closed;
}

pub with_place : {A : Type 0} {p p' : Reader A} {L L' : Piece A} {f m : List Kind} → Good p p' L L' f m false
    → Good (placed_at p) (placed_at p') (placed L) (placed L') f m false
with_place P = record {
  exact = placed_exact _ _ _ _ P.exact;
  grows = placed_extends _ _ _ _ P.grows;
  fronts = placed_fronts _ _ _ _ P.fronts;
  some = some_placed P.some;
  closed = P.closed;
}

pub either : {A : Type 0} {p p' q q' : Reader A} {L L' M M' : Piece A} {f m g n : List Kind} {e : Bool}
    → Good p p' L L' f m false → Good q q' M M' g n e → apart g f ≡ true
    → Good (either_at f p q) (either_at f p' q') (L ∣ M) (L' ∣ M') (f ++ g) (m ++ joint e n f) e
either {L = L} {M = M} P Q clear = record {
  exact = either_exact _ _ _ _ _ _ _ _ _ P.exact Q.exact clear;
  grows = either_extends _ _ _ _ _ _ _ _ _ P.grows Q.grows;
  fronts = either_fronts _ _ _ _ _ _ _ _ _ _ _ P.exact Q.exact P.fronts Q.fronts clear;
  some = some_right _ Q.some;
  closed = either_closed L M P.closed Q.closed;
}

pub at_most_once : {A : Type 0} {p p' : Reader A} {L L' : Piece A} {f m : List Kind} → Good p p' L L' f m false
    → Good (optional_at f p) (optional_at f p') (optional L) (optional L') f (f ++ m) true
at_most_once {L = L} P = record {
  exact = optional_exact _ _ _ _ P.exact;
  grows = optional_extends _ _ _ _ _ P.grows;
  fronts = optional_fronts _ _ _ _ _ P.exact P.fronts;
  some = no_optional _;
  closed = optional_closed L P.closed;
}

pub any_number : {A : Type 0} {p p' : Reader A} {L L' : Piece A} {f m : List Kind} → Good p p' L L' f m false
    → apart f m ≡ true → Good (many_at f p) (many_at f p') (many L) (many L') f (f ++ m) true
any_number {L = L} P clear = record {
  exact = many_exact _ _ _ _ P.exact clear;
  grows = many_extends _ _ _ _ _ _ P.exact P.grows;
  fronts = many_fronts _ _ _ _ _ P.exact P.fronts clear;
  some = no_many _;
  closed = many_closed L P.fronts.whole P.closed;
}

pub a_list : {A : Type 0} {p p' : Reader A} {L L' : Piece A} {f m : List Kind} (k : Kind) → Good p p' L L' f m false
    → apart (k ∷ []) m ≡ true → Good (listed_at f k p) (listed_at f k p') (listed k L) (listed k L') f
    ((k ∷ []) ++ (m ++ f)) true
a_list {L = L} k P clear = record {
  exact = listed_exact k _ _ _ _ P.exact clear;
  grows = listed_extends k _ _ _ _ _ _ P.exact P.grows;
  fronts = listed_fronts k _ _ _ _ _ P.exact P.fronts clear;
  some = no_listed k _;
  closed = listed_closed k L P.fronts.whole P.closed;
}

pub opening : {A : Type 0} {o r : Option (Reader A)} {a b : Piece A} {f m : List Kind} {e : Bool} (k : Kind)
    → Inside o r a b f m e → Good (opening_at k o) (opening_at k r) (opens k a) (opens k b) (k ∷ []) m false
opening {o = o} {r = r} {a = a} {b = b} {f = f} {m = m} {e = e} k h = opens_good k o r a b f m e h.held
  where
    joint-nil : (e : Bool) (m : List Kind) → joint e m [] ≡ m
    joint-nil true m = append-nil m
    joint-nil false m = refl

    opens_good : {A : Type 0} (k : Kind) (o r : Option (Reader A)) (a b : Piece A) (f m : List Kind) (e : Bool)
        → Held o r a b f m e → Good (opening_at k o) (opening_at k r) (opens k a) (opens k b) (k ∷ []) m false
    opens_good k None None a b f m e h = absurd h
    opens_good k None (Some q) a b f m e h = record {
      exact = closed_exact k a.whole m h.0.whole;
      grows = closed_extends k a.whole q b.whole h.0.whole h.1;
      fronts = closed_fronts k a.front a.whole h.0.whole h.0.front;
      some = some_both (some_terminal k) h.1;
      closed = opens_closed k a (λ u v g. absurd (h.0.front (u ++ v) g));
    }
    opens_good k (Some p) None a b f m e h = absurd h
    opens_good k (Some p) (Some q) a b f m e h = record {
      exact = subst (λ n. Exact (opening_at k (Some p)) (phrase.◌⊗◌ (phrase.terminal k) a.whole) (k ∷ []) n false)
          (joint-nil e m) (both_exact (expect_at k) p (phrase.terminal k) a.whole (k ∷ []) [] f m false e
          (terminal_exact k) h.exact (apart-nil f));
      grows = both_extends _ _ _ _ _ _ _ _ _ _ _ (terminal_exact k) (terminal_extends k) h.grows h.some;
      fronts = opened_fronts k a.front p a.whole f m e h.exact h.fronts;
      some = some_both (some_terminal k) h.some;
      closed = opens_closed k a h.closed;
    }

-- a larger set of what it may go on with
pub wider : {A : Type 0} {p p' : Reader A} {L L' : Piece A} {f m n : List Kind} {e : Bool} → Good p p' L L' f m e
    → within m n ≡ true → Good p p' L L' f n e
wider P h = record {
  exact = wider_exact _ _ _ _ _ _ P.exact h;
  grows = P.grows;
  fronts = P.fronts;
  some =
      P.some;
  closed = P.closed;
}

-- ---- the words of the grammar itself

pub enclosing : {A : Type 0} {o r : Option (Reader A)} {L M : Piece A} {f m : List Kind} {e : Bool} (j k : Kind)
    → Inside o r L M f m e → apart (k ∷ []) m ≡ true → Good (between_at j o k) (between_at j r k) (between j L k)
    (between j M k) (j ∷ []) [] false
enclosing j k h clear = made (λ x. x.0.1) (both (opening j h) (a_terminal k) clear)

pub leading : {A : Type 0} {p p' : Reader A} {L L' : Piece A} {f m : List Kind} (k : Kind) → Good p p' L L' f m false
    → Good (after_at k p) (after_at k p') (after k L) (after k L') (k ∷ []) m false
leading {f = f} k P = made (λ x. x.1) (both (a_terminal k) P (apart-nil f))

pub separating : {A : Type 0} {p p' : Reader A} {L L' : Piece A} {f m : List Kind} (k : Kind)
    → Good p p' L L' f m false → apart (k ∷ []) m ≡ true
    → Good (separated_at k p) (separated_at k p') (separated k L) (separated k L') f (((k ∷ []) ++ m) ++ m) false
separating k P clear = made (λ x. x.0 ∷ x.1) (both P (any_number (leading k P) clear) clear)
