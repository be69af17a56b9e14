use Rattle.std.proofs.Common.{◌≡◌, ◌+◌, ◌≤◌, ℕ, length, get_or, map, take, drop}
use Rattle.fol_formula.specs.Syntax.{forms_then, terms_then}
use Rattle.fol_formula.specs.View.{form, term, forms, terms}
use Rattle.fol_formula.specs.declared.Formula.{Formula}
use Rattle.fol_formula.specs.declared.Term.{Term}
use Rattle.fol_subst.specs.Replace.{changed_forms, changed_terms}
use Rattle.fol_subst.specs.Room.{ReadyForms, ReadyTerms, RoomForms, RoomTerms}
use Rattle.fol_subst.specs.Kept.{kept}
use Rattle.fol_subst.specs.Changes.{change_of}
use Rattle.fol_subst.proofs.change.+change.Given as goal

abbrev pub invariant-change_formulas-loop-i : goal.invariant-change_formulas-loop-i
invariant-change_formulas-loop-i l = record {
  count : length l.ps.items ≡ length l.initial.ps.items;
  unvisited : (k : ℕ) (d : Formula) → l.i ≤ k → get_or l.ps.items k d ≡ get_or l.initial.ps.items k d;
  ready : ReadyForms (change_of l.c) (forms (drop l.i l.ps.items));
  room : RoomForms l.depth (changed_forms (change_of l.c) l.depth (forms (drop l.i l.ps.items)));
  made : forms_then (map form (take l.i l.ps.items))
      (changed_forms (change_of l.c) l.depth (forms (drop l.i l.ps.items)))
      ≡ changed_forms (change_of l.c) l.depth (forms l.initial.ps.items);
}

abbrev pub invariant-change_terms-loop-i : goal.invariant-change_terms-loop-i
invariant-change_terms-loop-i l = record {
  count : length l.ts.items ≡ length l.initial.ts.items;
  unvisited : (k : ℕ) (d : Term) → l.i ≤ k → get_or l.ts.items k d ≡ get_or l.initial.ts.items k d;
  ready : ReadyTerms (change_of l.c) (terms (drop l.i l.ts.items));
  room : RoomTerms l.depth (changed_terms (change_of l.c) l.depth (terms (drop l.i l.ts.items)));
  made : terms_then (map term (take l.i l.ts.items))
      (changed_terms (change_of l.c) l.depth (terms (drop l.i l.ts.items)))
      ≡ changed_terms (change_of l.c) l.depth (terms l.initial.ts.items);
}

abbrev pub invariant-change_kept-loop-i : goal.invariant-change_kept-loop-i
invariant-change_kept-loop-i l = record {
  few : length l.ts.items ≤ 8;
  left : l.index + l.i ≡ length l.ts.items;
  count : length l.ts.items ≡ length l.initial.ts.items;
  unvisited : (k : ℕ) (d : Term) → l.i ≤ k → get_or l.ts.items k d ≡ get_or l.initial.ts.items k d;
  ready : ReadyTerms (change_of l.c) (terms (drop l.i l.ts.items));
  room : RoomTerms l.depth (kept (change_of l.c) (changed_terms (change_of l.c) l.depth (terms (drop l.i l.ts.items))));
  made : terms_then (map term (take l.i l.ts.items))
      (kept (change_of l.c) (changed_terms (change_of l.c) l.depth (terms (drop l.i l.ts.items))))
      ≡ kept (change_of l.c) (changed_terms (change_of l.c) l.depth (terms l.initial.ts.items));
}
