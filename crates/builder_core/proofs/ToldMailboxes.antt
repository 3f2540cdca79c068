-- What telling leaves of mailboxes.
use Rattle.std.proofs.Common.{◌≡◌, ℕ, List, ◌++◌, All, map, length, take, drop, sym, subst}
use Rattle.std.proofs.lemmas.List.Elements.{All-append, All-drop, All-map, All-take}
use Rattle.builder_core.specs.Builder.{BuilderState}
use Rattle.feed_queue.specs.Ends.{DrawState}
use Rattle.mailbox.specs.Ends.{InEnd}
use Rattle.builder_core.specs.Telling.{having_put}
use Rattle.builder_core.specs.Work.{IsWork, work_state}

-- the type's fact of a work that told each mailbox
pub keeps_told : (end : DrawState) (b : BuilderState) (items mails told : List InEnd) (len : ℕ)
    → IsWork (work_state end b items) → mails ≡ items → told ≡ map (having_put (length b.published.points)) mails
    → IsWork (work_state end b (take len (told ++ drop (length told) items)))
keeps_told end b items mails told len is value put = record {
  draws = is.draws;
  pair = All-take (λ (m : InEnd). m.pair ≡ b.published.book) len (told ++ drop (length told) items) (All-append (λ (m : InEnd). m.pair ≡ b.published.book) told (drop (length told) items)
      (subst (All (λ (m : InEnd). m.pair ≡ b.published.book)) (sym put) (All-map (λ (m : InEnd). m.pair ≡ b.published.book) (having_put (length b.published.points)) mails (subst (All (λ (m : InEnd). m.pair ≡ b.published.book)) (sym value) is.pair)))
      (All-drop (λ (m : InEnd). m.pair ≡ b.published.book) (length told) items is.pair));
}
