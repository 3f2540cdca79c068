use Rattle.std.proofs.Common.{◌≡◌, ℕ, ◌*◌, ◌<◌, ◌≤◌, false}
use Rattle.query_syntax.proofs.SetBits.{has_bit}
use Rattle.query_syntax.proofs.value_set.end_of.Given as goal

abbrev pub invariant-loop-word : goal.invariant-loop-word
invariant-loop-word l = record {
  within : l.end ≤ 64 * l.word;
  none : (v : ℕ) → l.end ≤ v → v < 64 * l.word → has_bit l.bits v ≡ false;
}
