use Rattle.std.proofs.Common.{ℕ, ◌+◌, List, [], sym, subst}
use Rattle.std.proofs.lemmas.List.{get_or-map}
use Rattle.run_files.specs.Outside.{of_sink}
use Rattle.run_files.specs.Saying.{SaysText}
use Rattle.share_replies.specs.Texts.{share_line}
use Rattle.live_sums.specs.Ends.{SaysTurnFault}
use Rattle.live_sums.specs.Opening.{reply_names}
use Rattle.live_sums.specs.Wrong.{wrong_share_text}
use Rattle.live_sums.specs.declared.fault.TurnFault.{TurnFault}
use Rattle.live_sums.specs.declared.opening.RunNames.{RunNames}
use Rattle.live_sums.proofs.live.say_fault.Goals as goal

pub returns-in-Wrong : goal.returns-in-Wrong
returns-in-Wrong g c =
    let s = of_sink g.O.Sink in
    let k = c.in-Wrong.run' in
    let why = c.in-Wrong.why in
    subst (λ (f : TurnFault). SaysTurnFault s (reply_names c.args.runs.now) c.args.sums f c.args.out.now c.refuse.new.out c.refuse.result) (sym c.in-Wrong.is)
    (subst (λ (n : List ℕ). SaysText s c.args.out.now c.refuse.new.out (share_line n (c.args.sums + 1) (wrong_share_text why)) c.refuse.result) (sym (get_or-map (λ (run : RunNames). run.replies.now) c.args.runs.now k _ [] (c.requires.run k why c.in-Wrong.is))) c.refuse.ensures.says, c.refuse.ensures.outcome)
