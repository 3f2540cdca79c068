use Rattle.std.proofs.Common.{◌≡◌, ℕ, ◌<◌, length, get_or}
use Rattle.flat_view.specs.Paths.{path_number}
use Rattle.flat_view.proofs.paths.Paths.new.Given as goal

abbrev pub invariant-loop-n : goal.invariant-loop-n
invariant-loop-n l = (length l.digits ≡ 1024) × ((k : ℕ) → k < l.n → get_or l.digits k 0 ≡ path_number 10 k 0)
