use Rattle.std.proofs.Common.{ℕ, List, [], Err, refl, map, sym, ◌∙◌, ap, subst}
use Rattle.std.specs.Prelude.{string_bytes}
use Rattle.std.proofs.lemmas.List.{get_or-map}
use Rattle.run_files.proofs.SinkPuts.{silent_itself}
use Rattle.run_files.specs.Outside.{of_sink}
use Rattle.run_files.specs.Saying.{SaysText}
use Rattle.share_replies.specs.Ends.{SaysWrong}
use Rattle.share_replies.specs.Texts.{wrong_line}
use Rattle.share_replies.specs.declared.fault.SharesFault.{SharesFault}
use Rattle.share_replies.proofs.adding.say_fault.Goals as goal

pub returns-in-Wrong-clause-says : goal.returns-in-Wrong-clause-says
returns-in-Wrong-clause-says g c =
    let seen = of_sink g.O.Sink in
    let names = map string_bytes c.args.replies.now in
    let k = c.in-Wrong.share in
    let name = c.as_str.ensures.value ∙ (ap string_bytes c.index-replies-share.is ∙ sym (get_or-map string_bytes c.args.replies.now k c.index-replies-share.result [] (c.requires.share k c.in-Wrong.line c.in-Wrong.why c.in-Wrong.is))) in
    subst (λ (f : SharesFault). SaysWrong seen c.args.out.now c.refuse.new.out names f c.refuse.result) (sym c.in-Wrong.is)
    (subst (λ (n : List ℕ). SaysText seen c.args.out.now c.refuse.new.out (wrong_line n c.in-Wrong.line c.in-Wrong.why) c.refuse.result) name c.refuse.ensures.says, c.refuse.ensures.outcome)

pub returns-in-Stopped-clause-says : goal.returns-in-Stopped-clause-says
returns-in-Stopped-clause-says g c =
    let seen = of_sink g.O.Sink in
    subst (λ (f : SharesFault). SaysWrong seen c.args.out.now c.args.out.now (map string_bytes c.args.replies.now) f (Err c.in-Stopped.stop)) (sym c.in-Stopped.is) (refl, silent_itself seen c.args.out.now)
