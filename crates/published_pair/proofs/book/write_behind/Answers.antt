use Rattle.std.proofs.Common.{◌≡◌, sym, ◌∙◌, ap, arith}
use Rattle.std.proofs.lemmas.Bool.Decides.{nat_tests}
use Rattle.published_pair.specs.Notes.{batches_of}
use Rattle.published_pair.proofs.NoteRule.{adds_moves, was_added}
use Rattle.published_pair.proofs.book.write_behind.Goals as goal

pub compare_exchange-found-requires : goal.compare_exchange-found-requires
compare_exchange-found-requires c =
    let h = c.requires.book in
    let at = sym (ap (λ w. w.book) h) in
    let pen = c.no_pen-pen.ensures in (
      ap (λ w. w.tracked) h,
      at,
      pen.0 ∙ at,
      c.requires.offer.0,
      rw (ap (λ w. w.key) h, pen.1, c.requires.offer.1) (adds_moves c.args.seen.log c.args.offer.ask (batches_of c.args.seen.log) c.args.notes c.requires.open (sym c.requires.notes.0)),
    )

pub returns-clause-log : goal.returns-clause-log
returns-clause-log c =
    let found : c.compare_exchange-found.result ≡ c.args.notes = grind (arith, nat_tests, c.if-found-notes.false) in
    was_added _ _ _ _ _ found c.compare_exchange-found.ensures.7
