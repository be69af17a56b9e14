use Rattle.std.proofs.Common.{◌≡◌, ◌++◌, ◌∷◌, [], false, map, sym, ap, ◌∙◌, List, ℕ}
use Rattle.std.specs.List.{list_any}
use Rattle.std.specs.Str.{bytes_eq}
use Rattle.rml_names.proofs.Tables.{any_map, key_behind}
use Rattle.rml_names.proofs.table.NameTable.insert.Goals as goal

pub returns : goal.returns
returns c =
    let old = c.self.inside.names.keys in
    let v = c.in_ok-owned.field-0 in
    let none : list_any (λ w. bytes_eq v.items w.items) old ≡ false =
    sym (any_map (bytes_eq v.items) (λ w. w.items) old) ∙ ap (λ ns. list_any (bytes_eq v.items) ns) c.self.view_is
    ∙ ap (λ (b : List ℕ). list_any (bytes_eq b) c.args.self.now) c.in_ok-owned.ensures ∙ c.requires.new in
    ap (λ ks. map (λ w. w.items) ks) c.in_ok-insert.ensures.keys
    ∙ key_behind (λ w. w.items) (λ w. bytes_eq v.items w.items) old v none
    ∙ ap (λ ns. ns ++ v.items ∷ []) c.self.view_is
    ∙ ap (λ (b : List ℕ). c.args.self.now ++ b ∷ []) c.in_ok-owned.ensures
