use Rattle.std.proofs.Common.{List, take, ◌∙◌, subst, rules}
use Rattle.std.proofs.lemmas.List.Sorted.{answers_always}
use Rattle.cross_table.proofs.RowsByTotal.{sorted_first}
use Rattle.cross_table.specs.Ranking.{total_of_row, IsFirstByTotal}
use Rattle.query_syntax.specs.declared.table.RowOut.{RowOut}
use Rattle.cross_table.proofs.best.first_by_total.Goals as goal

pub returns-in-Ok : goal.returns-in-Ok
returns-in-Ok c =
    let up = c.in-Ok.ensures.sorted (λ row. record { 0 = total_of_row row }) (answers_always _ _ _ (λ f a r f' called. search rules)) in
    let stable = c.in-Ok.ensures.stable (λ row. record { 0 = total_of_row row }) (answers_always _ _ _ (λ f a r f' called. search rules)) in
    let kept = sorted_first c.into_vec-rows.result.items c.sort_by_key.new.self.items c.args.count c.in-Ok.ensures.permutation up stable in
    let first = subst (λ (rows : List RowOut). IsFirstByTotal rows c.args.count (take c.args.count c.sort_by_key.new.self.items)) c.into_vec-rows.ensures kept in
    λ most within. c.from_vec.ensures ∙ (c.truncate.ensures.items ∙ first most within)
