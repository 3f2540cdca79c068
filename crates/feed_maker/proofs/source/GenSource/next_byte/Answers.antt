use Rattle.std.proofs.Common.{◌≡◌, ℕ, ◌<◌, List, [], ◌++◌, ap, ◌∙◌, arith, rules}
use Rattle.feed_maker.specs.GeneratedFeed.{generated_rows}
use Rattle.feed_maker.proofs.Feeds.{first_of_rows}
use Rattle.feed_maker.proofs.source.GenSource.next_byte.Goals as goal

pub returns : goal.returns
returns c =
    let some : 0 < c.self.inside.rows = omega arith in
    let empty : c.self.inside.line ≡ [] = search rules in
    let rows = generated_rows c.self.inside.state c.self.inside.rows in
    let whole : c.args.self.now ≡ c.self.inside.line ++ rows = search rules in
    let taken = rw (c.of-self-inside.ensures, c.row_of.ensures, c.next_state-self-inside.ensures) at c.next_byte-2.ensures in
    rw c.next_state-self-inside.ensures (first_of_rows c.self.inside.state c.self.inside.rows c.args.self.now c.next_byte-2.new.self c.next_byte-2.result some (whole ∙ ap (λ (line : List ℕ). line ++ rows) empty) taken)
