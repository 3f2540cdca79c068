use Rattle.std.proofs.Common.{◌≡◌, ◌∙◌, ap, get_or, length, set, sym}
use Rattle.std.proofs.lemmas.List.Edits.{map_over_more}
use Rattle.builder_core.specs.Telling.{having_put}
use Rattle.published_pair.specs.Rules.{Known}
use Rattle.builder_core.proofs.telling.tell_all.Goals as goal

pub loop-mail-preserved : goal.loop-mail-preserved
loop-mail-preserved g c =
    let list = c.args.builder.now.published in
    let mail = get_or c.loop-mail.mails c.loop-mail.mail-index c.mail-item.result in
    let told : c.put.new.self ≡ having_put (length list.points) c.mail-item.result =
    c.put.ensures ∙ (ap (λ (k : Known). having_put (length k.points) mail) c.tell.ensures ∙ ap (having_put (length list.points)) (sym c.mail-item.is)) in
    ap (set c.loop-mail.mails c.loop-mail.mail-index) told ∙ map_over_more (having_put (length list.points)) c.args.mails.now c.loop-mail.mails c.loop-mail.mail-index c.mail-item.result c.loop-mail-test.true c.loop-mail.invariant c.mail-item.is
