use Rattle.std.proofs.Common.{◌≡◌, ℕ, ◌<◌, ◌^◌, List, ◌++◌, length, ap, ◌∙◌, rules}
use Rattle.std.specs.FinMap.{entries}
use Rattle.cube_image.proofs.Rests.{rows-last}
use Rattle.cube_image.proofs.rows.read_rows.Goals as goal

pub returns-clause-read : goal.returns-clause-read
returns-clause-read g c =
    let size : c.len-count.result ≡ length c.put_rows.new.out.items = search rules in
    let small : c.index.result.now.0 < 2 ^ 32 = search rules in
    (rows-last c.args.table.now c.put_rows.new.out.items c.len-count.result c.index.result.now (c.in_ok-put_rows.ensures.put ∙ ap (λ (t : List (ℕ × ℕ)). t ++ entries c.args.table.now) c.clear.ensures.items) c.if-count-eq0.false size c.index.ensures small).0

pub returns-clause-few : goal.returns-clause-few
returns-clause-few g c =
    let size : c.len-count.result ≡ length c.put_rows.new.out.items = search rules in
    let small : c.index.result.now.0 < 2 ^ 32 = search rules in
    (rows-last c.args.table.now c.put_rows.new.out.items c.len-count.result c.index.result.now (c.in_ok-put_rows.ensures.put ∙ ap (λ (t : List (ℕ × ℕ)). t ++ entries c.args.table.now) c.clear.ensures.items) c.if-count-eq0.false size c.index.ensures small).1
