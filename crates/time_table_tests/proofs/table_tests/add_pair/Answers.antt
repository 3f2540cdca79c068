use Rattle.std.proofs.Common.{◌≡◌, ℕ, ◌+◌, ◌<◌, List, [], ◌∷◌, ap, subst, ◌∙◌, arith}
use Rattle.std.specs.Prelude.{OnOk}
use Rattle.std.proofs.lemmas.List.Elements.{All-nil, All-cons}
use Rattle.std.proofs.lemmas.List.Kept.{AllPairs-cons}
use Rattle.time_table.specs.Counts.{IsBinRun, add_run, run_total, total_count}
use Rattle.time_table.proofs.Runs.{total_count-add_run}
use Rattle.time_table_tests.proofs.table_tests.add_pair.Goals as goal

-- two amounts above 0 whose bins rise are a run
pair_is_run : (a b : ℕ × ℕ) → 0 < a.1 → 0 < b.1 → a.0 < b.0 → IsBinRun (a ∷ b ∷ [])
pair_is_run a b one two rise = record {
  some = All-cons (λ (x : ℕ × ℕ). 0 < x.1) a (b ∷ []) one (All-cons (λ (x : ℕ × ℕ). 0 < x.1) b [] two (All-nil (λ (x : ℕ × ℕ). 0 < x.1)));
  rises = AllPairs-cons (λ (x y : ℕ × ℕ). x.0 < y.0) a (b ∷ []) (All-cons (λ (y : ℕ × ℕ). a.0 < y.0) b [] rise (All-nil (λ (y : ℕ × ℕ). a.0 < y.0))) (λ i j d lt within. absurd (omega arith));
}

pub add_run-requires-clause-run : goal.add_run-requires-clause-run
add_run-requires-clause-run g c = pair_is_run c.args.first c.args.second c.requires.some.0 c.requires.some.1 c.requires.rise

pub returns : goal.returns
returns g c =
    let run : List (ℕ × ℕ) = c.args.first ∷ c.args.second ∷ [] in
    let is : c.add_run.new.self ≡ add_run c.args.table.now run =
    subst (λ r. OnOk r (c.add_run.new.self ≡ add_run c.args.table.now run)) c.expect.ensures c.add_run.ensures.added in
    let sum : run_total run ≡ c.args.first.1 + c.args.second.1 = omega arith in
    ap total_count is ∙ total_count-add_run c.args.table.now run ∙ ap (λ k. total_count c.args.table.now + k) sum
