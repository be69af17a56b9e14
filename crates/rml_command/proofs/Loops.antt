-- One turn of the loops that count and list paths.
use Rattle.std.proofs.Common.{◌≡◌, ℕ, ◌+◌, ◌*◌, ◌<◌, List, ◌++◌, length, get_or, drop, min, refl, sym, ap, ◌∙◌, arith}
use Rattle.std.proofs.Common.{append_assoc}
use Rattle.std.proofs.lemmas.List.{drop_more}
use Rattle.std.specs.List.{flat_map}
use Rattle.rml_command.specs.Trees.{PrimitiveTree, command_then}
use Rattle.rml_command.specs.View.{command, commands}
use Rattle.rml_command.specs.Paths.{continued, paths_of, paths_in_turn, paths_of_each}
use Rattle.rml_command.specs.Counts.{open_count, stopped_count, capped}
use Rattle.rml_command.specs.declared.command.Command.{Command}
use Rattle.rml_command.proofs.Counting.{continued-twice, open-continued, stopped-continued, open-append_count}
use Rattle.rml_command.proofs.Counting.{stopped-append_count, capped-product_left, capped-product_right}

pub commands-drop : (cs : List Command) (i : ℕ) (c : Command) → i < length cs → c ≡ get_or cs i c
    → commands (drop i cs) ≡ command_then (command c) (commands (drop (i + 1) cs))
commands-drop cs i c lt is =
    ap commands (drop_more cs i c lt) ∙ ap (λ q. command_then (command q) (commands (drop (i + 1) cs))) (sym is)

-- the algebra of counts
three : (a c r n new whole : ℕ) → n ≡ capped c → new ≡ capped (a * n) → capped (a * (c * r)) ≡ whole
    → capped (new * r) ≡ whole
three a c r n new whole counted made before =
    let swap : a * capped c * r ≡ a * r * capped c = omega arith in
    let back : a * r * c ≡ a * (c * r) = omega arith in
    ap (λ z. capped (z * r)) made
    ∙ capped-product_left (a * n) r
    ∙ ap (λ z. capped (a * z * r)) counted
    ∙ ap capped swap
    ∙ capped-product_right (a * r) c
    ∙ ap capped back
    ∙ before

four : (s a cs co r ncs nco p new_s new_o whole : ℕ) → ncs ≡ capped cs → nco ≡ capped co → p ≡ capped (a * ncs)
    → new_s ≡ capped (s + p) → new_o ≡ capped (a * nco) → capped (s + a * (cs + co * r)) ≡ whole
    → capped (new_s + new_o * r) ≡ whole
four s a cs co r ncs nco p new_s new_o whole counted_s counted_o product sum made before =
    let e1 : p ≡ capped (a * cs) = product ∙ ap (λ z. capped (a * z)) counted_s ∙ capped-product_right a cs in
    let e2 : capped (new_o * r) ≡ capped (a * (co * r)) =
    three a co r nco new_o (capped (a * (co * r))) counted_o made refl in
    let e3 : a * (cs + co * r) ≡ a * cs + a * (co * r) = omega arith in
    let e4 : capped (s + (a * cs + a * (co * r))) ≡ whole = ap (λ z. capped (s + z)) (sym e3) ∙ before in
    linear s (a * cs) (a * (co * r)) (new_o * r) p new_s whole e1 sum e2 e4
  where
    linear : (s x y z p n w : ℕ) → p ≡ min x 4097 → n ≡ min (s + p) 4097 → min z 4097 ≡ min y 4097
        → min (s + (x + y)) 4097 ≡ w → min (n + z) 4097 ≡ w
    linear s x y z p n w e1 e2 e3 e4 = omega arith

module _ (cs : List Command) (i : ℕ) (c : Command) (lt : i < length cs) (is : c ≡ get_or cs i c) where
  pub next-onward : (onward n new whole : ℕ) → n ≡ capped (open_count (paths_of (command c)))
      → new ≡ capped (onward * n) → capped (onward * open_count (paths_in_turn (commands (drop i cs)))) ≡ whole
      → capped (new * open_count (paths_in_turn (commands (drop (i + 1) cs)))) ≡ whole
  next-onward onward n new whole counted made before =
      let rest = paths_in_turn (commands (drop (i + 1) cs)) in
      let step = ap (λ z. open_count (paths_in_turn z)) (commands-drop cs i c lt is)
      ∙ open-continued (paths_of (command c)) rest in
      three onward (open_count (paths_of (command c))) (open_count rest) n new whole counted made
      (ap (λ z. capped (onward * z)) (sym step) ∙ before)

  pub next-stopped : (s onward ncs nco p new_s new_o whole : ℕ) → ncs ≡ capped (stopped_count (paths_of (command c)))
      → nco ≡ capped (open_count (paths_of (command c))) → p ≡ capped (onward * ncs) → new_s ≡ capped (s + p)
      → new_o ≡ capped (onward * nco) → capped (s + onward * stopped_count (paths_in_turn (commands (drop i cs))))
      ≡ whole → capped (new_s + new_o * stopped_count (paths_in_turn (commands (drop (i + 1) cs)))) ≡ whole
  next-stopped s onward ncs nco p new_s new_o whole counted_s counted_o product sum made before =
      let rest = paths_in_turn (commands (drop (i + 1) cs)) in
      let step = ap (λ z. stopped_count (paths_in_turn z)) (commands-drop cs i c lt is)
      ∙ stopped-continued (paths_of (command c)) rest in
      four s onward (stopped_count (paths_of (command c))) (open_count (paths_of (command c))) (stopped_count rest) ncs
      nco p new_s new_o whole counted_s counted_o product sum made
      (ap (λ z. capped (s + onward * z)) (sym step) ∙ before)

  linear_sum : (a x y n new w : ℕ) → n ≡ min x 4097 → new ≡ min (a + n) 4097 → min (a + (x + y)) 4097 ≡ w
      → min (new + y) 4097 ≡ w
  linear_sum a x y n new w e1 e2 e3 = omega arith

  pub branch-onward : (a n new whole : ℕ) → n ≡ capped (open_count (paths_of (command c))) → new ≡ capped (a + n)
      → capped (a + open_count (paths_of_each (commands (drop i cs)))) ≡ whole
      → capped (new + open_count (paths_of_each (commands (drop (i + 1) cs)))) ≡ whole
  branch-onward a n new whole counted made before =
      let rest = paths_of_each (commands (drop (i + 1) cs)) in
      let step = ap (λ z. open_count (paths_of_each z)) (commands-drop cs i c lt is)
      ∙ open-append_count (paths_of (command c)) rest in
      linear_sum a (open_count (paths_of (command c))) (open_count rest) n new whole counted made
      (ap (λ z. capped (a + z)) (sym step) ∙ before)

  pub branch-stopped : (a n new whole : ℕ) → n ≡ capped (stopped_count (paths_of (command c))) → new ≡ capped (a + n)
      → capped (a + stopped_count (paths_of_each (commands (drop i cs)))) ≡ whole
      → capped (new + stopped_count (paths_of_each (commands (drop (i + 1) cs)))) ≡ whole
  branch-stopped a n new whole counted made before =
      let rest = paths_of_each (commands (drop (i + 1) cs)) in
      let step = ap (λ z. stopped_count (paths_of_each z)) (commands-drop cs i c lt is)
      ∙ stopped-append_count (paths_of (command c)) rest in
      linear_sum a (stopped_count (paths_of (command c))) (stopped_count rest) n new whole counted made
      (ap (λ z. capped (a + z)) (sym step) ∙ before)

  -- the paths that go on with one more part
  pub next-paths : (all new whole : List (List PrimitiveTree)) → new ≡ flat_map (continued (paths_of (command c))) all
      → flat_map (continued (paths_in_turn (commands (drop i cs)))) all ≡ whole
      → flat_map (continued (paths_in_turn (commands (drop (i + 1) cs)))) new ≡ whole
  next-paths all new whole made before =
      let rest = paths_in_turn (commands (drop (i + 1) cs)) in
      ap (flat_map (continued rest)) made
      ∙ continued-twice all (paths_of (command c)) rest
      ∙ ap (λ z. flat_map (continued (paths_in_turn z)) all) (sym (commands-drop cs i c lt is))
      ∙ before

  -- the paths of one more branch
  pub branch-paths : (all new whole : List (List PrimitiveTree)) → new ≡ all ++ paths_of (command c)
      → all ++ paths_of_each (commands (drop i cs)) ≡ whole → new ++ paths_of_each (commands (drop (i + 1) cs)) ≡ whole
  branch-paths all new whole made before =
      let rest = paths_of_each (commands (drop (i + 1) cs)) in
      ap (λ z. z ++ rest) made
      ∙ append_assoc all (paths_of (command c)) rest
      ∙ ap (λ z. all ++ paths_of_each z) (sym (commands-drop cs i c lt is))
      ∙ before
