use Rattle.std.proofs.Common.{◌≡◌, length, sym, ap, arith}
use Rattle.std.proofs.lemmas.List.{take_at}
use Rattle.feed_reader.proofs.refusal.FirstRefusals.keep.Goals as goal

pub returns-else-len-lt-KEPT : goal.returns-else-len-lt-KEPT
returns-else-len-lt-KEPT c =
    let five : length c.args.self.now ≡ 5 = omega (arith, ap length c.self.view_is, c.self.invariant, c.len.ensures, c.if-len-lt-KEPT.false) in
    sym (take_at c.args.self.now _ 5 five)
