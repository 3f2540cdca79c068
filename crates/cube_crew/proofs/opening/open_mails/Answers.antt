use Rattle.std.proofs.Common.{◌+◌, ◌++◌, ◌∷◌, [], sym, ap, subst, ◌∙◌}
use Rattle.cube_crew.specs.Opened.{AreMails, IsMail}
use Rattle.cube_crew.proofs.Zips.{AllZip-add}
use Rattle.cube_crew.proofs.opening.open_mails.Goals as goal

pub loop-preserved : goal.loop-preserved
loop-preserved g c =
    let book = c.args.publisher.now.published.book in
    record {
      mails = subst (λ l. AreMails book l c.push.new.self.items) (sym c.in_ok-add.ensures.added)
          (subst (AreMails book (c.loop.ins ++ c.in_ok-put.put ∷ [])) (sym c.in_ok-push.ensures.items)
          (AllZip-add (IsMail book) c.loop.ins c.loop.outs.items c.in_ok-put.put c.in_ok-put.take c.loop.invariant.mails (c.in_ok-put.ensures.put, c.in_ok-put.ensures.take)));
      count = c.in_ok-push.ensures.len ∙ ap (λ n. n + 1) c.loop.invariant.count;
    }
