use Rattle.std.proofs.Common.{◌≡◌, ◌+◌, ◌++◌, ◌∷◌, [], List, ℕ, false, length, sym, ap, subst, ◌∙◌, arith, append-nil, rules}
use Rattle.std.proofs.lemmas.List.{length-append}
use Rattle.fol_formula.specs.Syntax.{forms_of}
use Rattle.skolem.specs.Constants.{new_sorts, all_new_sorts, skolem_form, skolem_forms}
use Rattle.fol_pool.specs.Trees.{a_form, some_forms, form_at, forms_at}
use Rattle.fol_pool.specs.Facts.{has_existential}
use Rattle.fol_pool.specs.Growing.{grows_on}
use Rattle.fol_pool.specs.Rows.{AreForms, forms_stay, forms_push, row_behind, row_front, row_end, lent_forms}
use Rattle.fol_pool.specs.Rows.{lent_formulas}
use Rattle.fol_pool.specs.declared.shape.Node.{Node}
use Rattle.pool_subst.specs.Memos.{right_grows}
use Rattle.pool_skolem.specs.Named.{slots, next}
use Rattle.pool_skolem.specs.Naming.{naming}
use Rattle.pool_skolem.proofs.Unnamed.{no_sorts, stays}
use Rattle.pool_skolem.proofs.Walking.{made_more, sorts_more, few_more, made_all, sorts_all}
use Rattle.pool_skolem.proofs.walk.+skolem.Goals as goal

pub skolem_node-returns-then-not-has_existential-clause-node :
    goal.skolem_node-returns-then-not-has_existential-clause-node
skolem_node-returns-then-not-has_existential-clause-node t c =
    let p = form_at c.args.pool.now c.args.at.0 in
    let none : has_existential p ≡ false = sym c.has_existential.ensures ∙ c.if-not-has_existential.true in
    let made = c.in_ok-node.ensures.node in
    (made.0, made.1 ∙ ap a_form (sym (stays (slots c.args.scope.now) p (next c.args.constants.now) none)))

pub skolem_node-returns-then-not-has_existential-clause-sorts :
    goal.skolem_node-returns-then-not-has_existential-clause-sorts
skolem_node-returns-then-not-has_existential-clause-sorts t c =
    let p = form_at c.args.pool.now c.args.at.0 in
    let none : has_existential p ≡ false = sym c.has_existential.ensures ∙ c.if-not-has_existential.true in
    let sorts = c.args.constants.now.sorts in
    sym (append-nil sorts) ∙ ap (λ (l : List ℕ). sorts ++ l) (sym (no_sorts p none))

pub skolem_node-returns-in_err-node-in-And-clause-right : goal.skolem_node-returns-in_err-node-in-And-clause-right
skolem_node-returns-in_err-node-in-And-clause-right t c =
    right_grows (naming (slots c.args.scope.now)) c.skolem_row.new.pool c.add.new.self c.skolem_row.new.memo
    c.add.ensures.grows c.skolem_row.ensures.right

pub skolem_node-returns-in_ok-node-in-And-clause-right : goal.skolem_node-returns-in_ok-node-in-And-clause-right
skolem_node-returns-in_ok-node-in-And-clause-right t c =
    right_grows (naming (slots c.args.scope.now)) c.skolem_row.new.pool c.add.new.self c.skolem_row.new.memo
    c.add.ensures.grows c.skolem_row.ensures.right

pub skolem_node-returns-in_err-node-in-Or-clause-right : goal.skolem_node-returns-in_err-node-in-Or-clause-right
skolem_node-returns-in_err-node-in-Or-clause-right t c =
    right_grows (naming (slots c.args.scope.now)) c.skolem_row-in-Or.new.pool c.add-in-Or.new.self
    c.skolem_row-in-Or.new.memo c.add-in-Or.ensures.grows c.skolem_row-in-Or.ensures.right

pub skolem_node-returns-in_ok-node-in-Or-clause-right : goal.skolem_node-returns-in_ok-node-in-Or-clause-right
skolem_node-returns-in_ok-node-in-Or-clause-right t c =
    right_grows (naming (slots c.args.scope.now)) c.skolem_row-in-Or.new.pool c.add-in-Or.new.self
    c.skolem_row-in-Or.new.memo c.add-in-Or.ensures.grows c.skolem_row-in-Or.ensures.right

pub skolem_node-returns-in_err-node-in-Exists-clause-right :
    goal.skolem_node-returns-in_err-node-in-Exists-clause-right
skolem_node-returns-in_err-node-in-Exists-clause-right t c =
    right_grows (naming (slots c.args.scope.now)) c.args.pool.now c.skolem_exists.new.pool c.args.memo.now
    c.skolem_exists.ensures.grows c.requires.right

pub skolem_node-returns-in_ok-node-in-Exists-clause-right : goal.skolem_node-returns-in_ok-node-in-Exists-clause-right
skolem_node-returns-in_ok-node-in-Exists-clause-right t c =
    right_grows (naming (slots c.args.scope.now)) c.args.pool.now c.skolem_exists.new.pool c.args.memo.now
    c.skolem_exists.ensures.grows c.requires.right

pub skolem_row-skolem_node-requires : goal.skolem_row-skolem_node-requires
skolem_row-skolem_node-requires t c =
    let h = c.loop-first.invariant in
    let w = c.in-FormThen in
    let start = c.args.pool.now in
    let rest = c.loop-first.rest in
    let now = c.loop-first.constants in
    let old = c.loop-first.pool in
    let front = row_front start old h.grows rest h.row w.first w.after w.ensures.tree w.ensures.below.1 w.ensures.parts.1 in
    let few =
    few_more (form_at old w.first.0) (forms_at start rest.0) (forms_at start w.after.0) front c.args.constants.now.functions
    now.sorts c.args.constants.now.sorts (all_new_sorts (forms_at start c.args.row.0)) h.sorts c.requires.few in (
      omega (arith, c.decreases, w.ensures.below.0, h.within),
      (w.ensures.parts.0, (omega (arith, few, h.functions), h.right)),
    )

pub skolem_row-loop-first-preserved : goal.skolem_row-loop-first-preserved
skolem_row-loop-first-preserved t c =
    let h = c.loop-first.invariant in
    let w = c.in-FormThen in
    let start = c.args.pool.now in
    let old = c.loop-first.pool in
    let new = c.skolem_node.new.pool in
    let rest = c.loop-first.rest in
    let scope = slots c.args.scope.now in
    let now = c.loop-first.constants in
    let then = c.skolem_node.new.constants in
    let below = w.ensures.below in
    let p = form_at old w.first.0 in
    let tail = forms_at start w.after.0 in
    let front = row_front start old h.grows rest h.row w.first w.after w.ensures.tree below.1 w.ensures.parts.1 in
    let pushed : then.sorts ≡ now.sorts ++ new_sorts p = c.in_ok-part.ensures.sorts in
    let count : next then ≡ next now + length (new_sorts p) =
    omega (arith, c.skolem_node.ensures.functions, ap length pushed ∙ length-append now.sorts (new_sorts p)) in
    let ps = h.made.0 in
    let made = skolem_form (next now) scope p in
    let parts = c.loop-first.parts.items in
    let part = c.in_ok-part.part in
    let stay = forms_stay old new c.skolem_node.ensures.grows parts ps h.made.1 in
    record {
      within = omega (arith, below.1, h.within);
      grows = grows_on start old new h.grows c.skolem_node.ensures.grows;
      row = row_behind start old h.grows rest h.row w.first w.after w.ensures.tree below.1 w.ensures.parts.1;
      right = c.skolem_node.ensures.right;
      functions = c.skolem_node.ensures.functions ∙ h.functions;
      sorts = sorts_more p (forms_at start rest.0) tail front now.sorts then.sorts
          (c.args.constants.now.sorts ++ all_new_sorts (forms_at start c.args.row.0)) pushed h.sorts;
      made = (
        ps ++ made ∷ [],
        subst (λ (ns : List Node). AreForms new ns (ps ++ made ∷ [])) (sym c.in_ok-push.ensures.items)
            (forms_push new parts ps part made stay c.in_ok-part.ensures.node),
        made_more p (forms_at start rest.0) tail front scope ps (next now) (next then)
            (skolem_forms (next c.args.constants.now) scope (forms_at start c.args.row.0)) count h.made.2,
      );
    }

pub skolem_row-row_of-requires : goal.skolem_row-row_of-requires
skolem_row-row_of-requires t c =
    let h = c.loop-first.invariant in
    lent_forms c.loop-first.pool c.loop-first.parts.items c.deref.result.now h.made.0 h.made.1 c.deref.ensures.value

pub skolem_row-returns-in_err-node : goal.skolem_row-returns-in_err-node
skolem_row-returns-in_err-node t c =
    let h = c.loop-first.invariant in
    record {
      node = search rules;
      functions = h.functions;
      sorts = search rules;
      grows = grows_on c.args.pool.now c.loop-first.pool c.row_of.new.self h.grows c.row_of.ensures.grows;
      right = right_grows (naming (slots c.args.scope.now)) c.loop-first.pool c.row_of.new.self c.loop-first.memo
          c.row_of.ensures.grows h.right;
    }

pub skolem_row-returns : goal.skolem_row-returns
skolem_row-returns t c =
    let h = c.loop-first.invariant in
    let start = c.args.pool.now in
    let old = c.loop-first.pool in
    let new = c.row_of.new.self in
    let scope = slots c.args.scope.now in
    let end = row_end start old h.grows c.loop-first.rest h.row c.shape.result c.shape.ensures.tree
    c.in_default.not-FormThen in
    let whole = skolem_forms (next c.args.constants.now) scope (forms_at start c.args.row.0) in
    let read =
    ap forms_of (lent_formulas old c.loop-first.parts.items c.deref.result.now h.made.0 h.made.1 c.deref.ensures.value)
    ∙ made_all (forms_at start c.loop-first.rest.0) scope h.made.0 (next c.loop-first.constants) whole end h.made.2 in
    let node = c.in_ok-node.ensures.node in
    record {
      node = (node.0, node.1 ∙ ap some_forms read);
      functions = h.functions;
      sorts = sorts_all (forms_at start c.loop-first.rest.0) c.loop-first.constants.sorts
          (c.args.constants.now.sorts ++ all_new_sorts (forms_at start c.args.row.0)) end h.sorts;
      grows = grows_on start old new h.grows c.row_of.ensures.grows;
      right = right_grows (naming scope) old new c.loop-first.memo c.row_of.ensures.grows h.right;
    }
