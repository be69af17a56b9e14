use Rattle.std.proofs.Common.{[], ◌∷◌, map, refl}
use Rattle.rml_command.specs.declared.goal.About.TheVariants as about
use Rattle.rml_command.proofs.Pieces.{next_piece}
use Rattle.rml_command.proofs.groups.push_stage.Goals as goal

pub loop-k-preserved : goal.loop-k-preserved
loop-k-preserved c = record {
  count = c.loop-k.invariant.count;
  heads = next_piece (map (λ k. record { stage = c.args.stage; about = about.Conjecture k })) c.loop-k.k _
      (record { stage = c.args.stage; about = about.Conjecture c.loop-k.k } ∷ [])
      c.loop-k.heads.items c.push-in-loop-k.new.self.items _
      c.loop-k-test.true (λ ks. refl) c.in_ok-push-2.ensures.items c.loop-k.invariant.heads;
}
