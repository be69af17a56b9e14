use Rattle.std.proofs.Common.{rules, ◌≡◌, ◌∷◌, false, sym, ap, ◌∙◌, List}
use Rattle.std.specs.Str.{bytes_eq}
use Rattle.rml_names.specs.declared.scope.Scope.TheViews.{rolls-Inside}
use Rattle.rml_names.specs.declared.scope.Scope.TheOpen as opened
use Rattle.rml_names.specs.declared.scope.Scope.TheFolds.{fold-roll-Scope}
use Rattle.rml_names.specs.Meanings.{BoundName}
use Rattle.rml_names.specs.Drafts.{words_in}
use Rattle.rml_names.specs.Scopes.{bound_names, scope_step, max_bound}
use Rattle.rml_names.proofs.Binders.{past_binder, one_binder_less}
use Rattle.rml_names.proofs.declarations.Declarations.meaning_from.Goals as goal

pub loop-around-preserved : goal.loop-around-preserved
loop-around-preserved c =
    let b = c.in-Inside.bound in
    let nearest : BoundName = record { name = b.name.now; sort = b.sort } in
    let behind = bound_names c.in-Inside.outer.now in
    let all = bound_names c.loop-around.around.now in
    let is : all ≡ nearest ∷ behind =
    ap bound_names (c.in-Inside.is ∙ sym (rolls-Inside b c.in-Inside.outer))
    ∙ fold-roll-Scope (List BoundName) scope_step (opened.Inside b c.in-Inside.outer) in
    let other : bytes_eq c.args.name.now b.name.now ≡ false = search rules in (
      past_binder (words_in c.args.self.now) c.loop-around.index nearest behind all c.args.name.now is other
          ∙ c.loop-around.invariant.0,
      one_binder_less c.loop-around.index max_bound nearest behind all is c.loop-around.invariant.1,
    )
