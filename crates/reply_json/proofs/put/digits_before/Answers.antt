use Rattle.std.proofs.Common.{ℕ, ◌<◌, ◌≤◌, ◌^◌, length, decimal, arith}
use Rattle.std.proofs.lemmas.Fmt.{length-decimal-le}
use Rattle.reply_json.proofs.put.digits_before.Goals as goal

-- a number of 64 bits has at most 20 digits
few : (n : ℕ) → n < 2 ^ 64 → length (decimal n) ≤ 20
few n h = length-decimal-le 20 n (omega arith) (omega (arith, h)) h

pub write_digits-requires : goal.write_digits-requires
write_digits-requires c = let digits = few c.args.number c.ranges.number.fits in (omega (arith, digits, c.requires.room), omega (arith, c.told-buffer, c.requires.within))

pub returns-clause-near : goal.returns-clause-near
returns-clause-near c = let digits = few c.args.number c.ranges.number.fits in omega (arith, digits, c.write_digits.ensures.start)
