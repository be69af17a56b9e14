-- What was found in front of a text, one piece behind another.
use Rattle.std.proofs.Common.{◌≡◌, ℕ, suc, zero, ◌≤◌, Bool, true, false, List, ◌++◌, length, Option}
use Rattle.std.proofs.Common.{Some, None, refl, ap, ◌∙◌, cond, arith, append_assoc}
use Rattle.std.specs.Prelude.{decimal}
use Rattle.base.specs.Lists.{numbered}
use Rattle.base.proofs.Lists.{at-below}
use Rattle.line_scan.specs.Scanning.{behind, number_at, most}
use Rattle.line_scan.specs.Laws.{ScansAreExact}

-- lists behind one another, from the right
pub apart3 : (a b c : List ℕ) → (a ++ b) ++ c ≡ a ++ (b ++ c)
apart3 a b c = append_assoc a b c

pub apart4 : (a b c d : List ℕ) → ((a ++ b) ++ c) ++ d ≡ a ++ (b ++ (c ++ d))
apart4 a b c d = append_assoc (a ++ b) c d ∙ append_assoc a b (c ++ d)

pub apart5 : (a b c d e : List ℕ) → (((a ++ b) ++ c) ++ d) ++ e ≡ a ++ (b ++ (c ++ (d ++ e)))
apart5 a b c d e = append_assoc ((a ++ b) ++ c) d e ∙ apart4 a b c (d ++ e)

pub apart6 : (a b c d e f : List ℕ) → ((((a ++ b) ++ c) ++ d) ++ e) ++ f ≡ a ++ (b ++ (c ++ (d ++ (e ++ f))))
apart6 a b c d e f = append_assoc (((a ++ b) ++ c) ++ d) e f ∙ apart5 a b c d (e ++ f)

-- a test that was passed
pub tested : {A : Type 0} (t : Bool) (o : Option A) (b : A) → cond t o None ≡ Some b → (t ≡ true) × (o ≡ Some b)
tested true o b e = (refl, e)
tested false o b e = absurd (cc e)

pub passed_test : (t u : Bool) → cond t u false ≡ true → (t ≡ true) × (u ≡ true)
passed_test true u e = (refl, e)
passed_test false u e = absurd (cc e)

pub numbered_below : {A : Type 0} (xs : List A) (n : ℕ) (x : A) → numbered xs n ≡ Some x → n ≤ length xs
numbered_below xs zero x is = absurd (cc is)
numbered_below xs (suc n) x is = omega (arith, at-below xs n x is)

module _ (x : ScansAreExact) where
  pub behind_then : (w bs a r : List ℕ) → behind w bs ≡ Some a → a ≡ r → bs ≡ w ++ r
  behind_then w bs a r found e = x.behind_sound w bs a found ∙ ap (λ l. w ++ l) e

  pub number_then : (bs : List ℕ) (n : ℕ × List ℕ) (r : List ℕ) → number_at bs ≡ Some n → n.1 ≡ r
      → bs ≡ decimal n.0 ++ r
  number_then bs n r found e =
      let s : (bs ≡ decimal n.0 ++ n.1) × (n.0 ≤ most) = x.number_sound bs n.0 n.1 found in
      s.0 ∙ ap (λ l. decimal n.0 ++ l) e

  pub number_small : (bs : List ℕ) (n : ℕ × List ℕ) → number_at bs ≡ Some n → n.0 ≤ most
  number_small bs n found =
      let s : (bs ≡ decimal n.0 ++ n.1) × (n.0 ≤ most) = x.number_sound bs n.0 n.1 found in s.1
