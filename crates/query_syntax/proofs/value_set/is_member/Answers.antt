use Rattle.std.proofs.Common.{ℕ, ◌/◌, ◌%◌, ◌^◌, get_or, eqb, sym, ◌∙◌, ap}
use Rattle.std.specs.Int.RustNames.{bit_and}
use Rattle.std.proofs.lemmas.Nat.Bits.{shr_and_one}
use Rattle.query_syntax.proofs.SetBits.{member_at}
use Rattle.query_syntax.proofs.value_set.is_member.Goals as goal

pub returns : goal.returns
returns c =
    let words = c.args.bits.now in
    let k = c.args.value % 64 in
    ap (λ (i : ℕ). eqb (bit_and (get_or words i 0 / 2 ^ k) 1) 1) c.from.ensures
    ∙ ap (λ b. eqb b 1) (shr_and_one (get_or words (c.args.value / 64) 0) k) ∙ sym (member_at words c.args.value)
