use Rattle.std.proofs.Common.{◌≡◌, ◌+◌, length}
use Rattle.std.specs.Prelude.{not}
use Rattle.std.specs.List.{prefix_len}
use Rattle.base.specs.Bytes.{is_blank}
use Rattle.cnf_base.proofs.words.word_len.Given as goal

abbrev pub invariant-loop-rest : goal.invariant-loop-rest
invariant-loop-rest l = record {
  within : l.count + length l.rest ≡ length l.bytes;
  same : l.count + prefix_len (λ b. not (is_blank b)) l.rest ≡ prefix_len (λ b. not (is_blank b)) l.bytes;
}

abbrev pub decreases-loop-rest : goal.decreases-loop-rest
decreases-loop-rest l = length l.rest
