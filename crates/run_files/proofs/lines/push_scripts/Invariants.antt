use Rattle.std.proofs.Common.{◌≡◌, ◌++◌, string_bytes, take, List, ℕ}
use Rattle.std.specs.List.{flat_map, zip}
use Rattle.run_files.specs.Lines.{script_lines}
use Rattle.run_files.specs.declared.counts.ScriptCounts.{ScriptCounts}
use Rattle.run_files.proofs.lines.push_scripts.Given as goal

abbrev pub invariant-loop-place : goal.invariant-loop-place
invariant-loop-place l = string_bytes l.text ≡ string_bytes l.initial.text ++ flat_map (λ (s : List ℕ × ScriptCounts). script_lines s.0 s.1) (take l.place (zip l.names l.scripts))
