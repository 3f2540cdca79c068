use Rattle.std.proofs.Common.{◌≡◌, ◌++◌, string_bytes, take}
use Rattle.std.specs.List.{flat_map}
use Rattle.run_files.specs.Lines.{refusal_line}
use Rattle.run_files.proofs.lines.push_refusals.Given as goal

abbrev pub invariant-loop-refusal : goal.invariant-loop-refusal
invariant-loop-refusal l = string_bytes l.text ≡ string_bytes l.initial.text ++ flat_map (refusal_line l.schema l.name) (take l.refusal-index l.refusals)
