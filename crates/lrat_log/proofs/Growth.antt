-- One more line.
use Rattle.std.proofs.Common.{◌≡◌, ℕ, ◌||◌, eqb, List, [], ◌∷◌, ◌++◌, refl, arith, length}
use Rattle.std.proofs.lemmas.Grind.{common_steps}
use Rattle.lrat_log.specs.declared.line.Line.{Line}
use Rattle.lrat_log.specs.declared.line.Line.TheVariants.{Add, Delete}
use Rattle.lrat_log.specs.declared.outcome.Outcome.TheVariants.{Accepted}
use Rattle.lrat_log.specs.Held.{Held, after_line, after_lines}
use Rattle.lrat_log.specs.Learnt.{IsLearnt, AreLearntFrom}
use Rattle.lrat_log.specs.Logs.{IsLineOver, IsLogOver}
use Rattle.lrat_log.specs.Accepted.{last_id, outcome_of, IsFit, IsAcceptedFrom, adds_empty}

pub after_lines-push : (held : Held) (lines : List Line) (line : Line)
    → after_lines held (lines ++ line ∷ []) ≡ after_line (after_lines held lines) line
after_lines-push held [] line = refl
after_lines-push held (l ∷ lines) line = after_lines-push (after_line held l) lines line

pub last_id-push : (last : ℕ) (lines : List Line) (line : Line)
    → last_id last (lines ++ line ∷ []) ≡ last_id (last_id last lines) (line ∷ [])
last_id-push last [] line = refl
last_id-push last (Add id ls hints ∷ lines) line = last_id-push id lines line
last_id-push last (Delete id ids ∷ lines) line = last_id-push last lines line

pub adds_empty-push : (lines : List Line) (id : ℕ) (ls hints : List ℕ)
    → adds_empty (lines ++ Add id ls hints ∷ []) ≡ (adds_empty lines || eqb (length ls) 0)
adds_empty-push [] id [] hints = refl
adds_empty-push [] id (l ∷ ls) hints = grind (arith, common_steps)
adds_empty-push (Add k [] hs ∷ lines) id ls hints = refl
adds_empty-push (Add k (m ∷ ms) hs ∷ lines) id ls hints = adds_empty-push lines id ls hints
adds_empty-push (Delete k ids ∷ lines) id ls hints = adds_empty-push lines id ls hints

pub adds_empty-push_deletion : (lines : List Line) (id : ℕ) (ids : List ℕ)
    → adds_empty (lines ++ Delete id ids ∷ []) ≡ adds_empty lines
adds_empty-push_deletion [] id ids = refl
adds_empty-push_deletion (Add k [] hs ∷ lines) id ids = refl
adds_empty-push_deletion (Add k (m ∷ ms) hs ∷ lines) id ids = adds_empty-push_deletion lines id ids
adds_empty-push_deletion (Delete k js ∷ lines) id ids = adds_empty-push_deletion lines id ids

pub log-push : (n last : ℕ) (lines : List Line) (line : Line) → IsLogOver n last lines
    → IsLineOver n (last_id last lines) line → IsLogOver n last (lines ++ line ∷ [])
log-push n last [] line a f = (f, tt)
log-push n last (Add k ms gs ∷ lines) line a f = (a.0, log-push n k lines line a.1 f)
log-push n last (Delete k ids ∷ lines) line a f = (a.0, log-push n last lines line a.1 f)

pub accepted-push : (n : ℕ) (held : Held) (last : ℕ) (lines : List Line) (line : Line)
    → IsAcceptedFrom n held last lines
    → IsFit n (last_id last lines) line → outcome_of (after_lines held lines) line ≡ Accepted
    → IsAcceptedFrom n held last (lines ++ line ∷ [])
accepted-push n held last [] line a f o = (f, o, tt)
accepted-push n held last (Add id ls hints ∷ lines) line a f o =
    (a.0, a.1, accepted-push n (after_line held (Add id ls hints)) id lines line a.2 f o)
accepted-push n held last (Delete id ids ∷ lines) line a f o =
    (a.0, a.1, accepted-push n (after_line held (Delete id ids)) last lines line a.2 f o)

pub learnt_push : (n : ℕ) (held : Held) (last : ℕ) (lines : List Line) (id : ℕ) (ls hints : List ℕ)
    → AreLearntFrom n held last lines
    → IsFit n (last_id last lines) (Add id ls hints) → IsLearnt (after_lines held lines) ls hints
    → AreLearntFrom n held last (lines ++ Add id ls hints ∷ [])
learnt_push n held last [] id ls hints a f l = (f, l, tt)
learnt_push n held last (Add k ms gs ∷ lines) id ls hints a f l =
    (a.0, a.1, learnt_push n (after_line held (Add k ms gs)) k lines id ls hints a.2 f l)
learnt_push n held last (Delete k ids ∷ lines) id ls hints a f l = absurd a
