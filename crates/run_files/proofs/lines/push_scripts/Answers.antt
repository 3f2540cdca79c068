use Rattle.std.proofs.Common.{ℕ, List, ◌++◌, ap, ◌∙◌, string_bytes, arith, get_or, None}
use Rattle.run_files.proofs.Pairs.{all_pairs, more_pairs_at}
use Rattle.run_files.specs.Lines.{script_lines}
use Rattle.run_files.specs.declared.counts.ScriptCounts.{ScriptCounts}
use Rattle.run_files.proofs.lines.push_scripts.Goals as goal

-- what is read past the last script
abbrev none : ScriptCounts
none = record { replies = 0; seen = 0; fault = None }

pub loop-place-preserved : goal.loop-place-preserved
loop-place-preserved c =
    c.in_ok-push_script.ensures ∙ ap (λ n. string_bytes c.loop-place.text ++ script_lines n (get_or c.args.scripts.now c.loop-place.place none)) c.as_str.ensures
    ∙ more_pairs_at (λ (s : List ℕ × ScriptCounts). script_lines s.0 s.1) c.args.names.now c.args.scripts.now (string_bytes c.args.text.now) (string_bytes c.loop-place.text) c.loop-place.place c.index-names-place.result none (omega (arith, c.loop-place-test.true, c.min-place-end.ensures)) (omega (arith, c.loop-place-test.true, c.min-place-end.ensures)) c.index-names-place.is c.loop-place.invariant

pub returns : goal.returns
returns c = all_pairs (λ (s : List ℕ × ScriptCounts). script_lines s.0 s.1) c.args.names.now c.args.scripts.now (string_bytes c.args.text.now) (string_bytes c.loop-place.text) c.loop-place.place (omega (arith, c.loop-place-test.false, c.min-place-end.ensures)) c.loop-place.invariant
