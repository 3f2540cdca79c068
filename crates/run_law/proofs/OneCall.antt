-- One call of an end is one step of a run that shows the end.
use Rattle.std.proofs.Common.{◌≡◌, ◌-◌, List, [], ◌∷◌, ◌++◌, length, Option, Some, None, IfSome, refl, sym, ap, ◌∙◌, subst}
use Rattle.std.specs.Prelude.{Result, Ok, Err, IfOk, slice_set}
use Rattle.builder_core.specs.Builder.{BuilderState, KeepsJournal}
use Rattle.builder_core.specs.Taking.{IsTaking}
use Rattle.builder_core.specs.declared.taken.Taken.{Taken}
use Rattle.cube_view.specs.declared.schema.Schema.{Schema}
use Rattle.feed_queue.specs.Ends.{FeedState, DrawState, MaySend, having_sent, having_drawn}
use Rattle.feed_queue.specs.declared.item.Item.{Item}
use Rattle.live_session.specs.News.{IsLonger}
use Rattle.logbook.specs.Pages.{Book}
use Rattle.mailbox.specs.Ends.{InEnd, OutEnd, mail_in, mail_out, and_taken}
use Rattle.mailbox.specs.Rule.{IsLastPut}
use Rattle.mailbox.specs.declared.place.Letter.TheVariants.{Brings}
use Rattle.published_pair.specs.Pair.{Knows}
use Rattle.published_pair.specs.Rules.{Known}
use Rattle.published_pair.specs.declared.told.Told.{Told}
use Rattle.texts.specs.Counts.{next_count}
use Rattle.texts.specs.declared.no_memory.NoMemory.{NoMemory}
use Rattle.world_core.specs.Interleaving.{entry_points}
use Rattle.world_core.specs.declared.entry.Entry.{Entry}
use Rattle.run_law.specs.Calls.{AsksBy, DrawsBy, EndsPairBy, ShowsPlace, LearnsBy, LearnsEndBy, LooksBy, PutsBy, SendsBy, TakesBy, TellsBy}
use Rattle.mailbox.proofs.HeldLetters.{holds_last_put}
use Rattle.run_law.specs.Moves.{IsLastIn, having_ended_pair, knows, publishes, with_session}
use Rattle.run_law.specs.Views.{SessionView}

pub sends_by : (end : FeedState) (item : Item) (left : FeedState) → MaySend end item → left ≡ having_sent end item → SendsBy end item left
sends_by end item left may is room f a at number fits = record {
  end = end;
  at = at;
  number = number;
  may = may;
  fits = fits;
  after = ap (λ (e : FeedState). record a { feeds = slice_set a.feeds (f - 1) e; queue = a.queue ++ item ∷ [] }) is;
}

pub draws_by : (draws : DrawState) (item : Item) (left : DrawState) → left ≡ having_drawn draws item → DrawsBy draws item left
draws_by draws item left is a rest same front = record {
  rest = rest;
  front = front;
  after = ap (λ (d : DrawState). record a { queue = rest; draws = d }) (is ∙ ap (λ (d : DrawState). having_drawn d item) (sym same));
}

pub takes_by : (builder : BuilderState) (item : Item) (answer : Result Taken NoMemory) (left : BuilderState) → IsTaking builder item answer left → KeepsJournal left → TakesBy builder item answer left
takes_by builder item answer left taking keeps a same drawn = record {
  item = item;
  drawn = drawn ∙ ap (λ (b : BuilderState). b.taken ++ item ∷ []) (sym same);
  answer = answer;
  left = left;
  taking = subst (λ (b : BuilderState). IsTaking b item answer left) (sym same) taking;
  keeps = keeps;
  is = ap (λ (b : BuilderState). publishes b item answer) same;
  after = refl;
}

pub tells_by : (builder : BuilderState) (told : Told) → told.front ≡ builder.published → TellsBy builder told
tells_by builder told is a s session same at = record {
  session = session;
  at = at;
  told = told;
  list = is ∙ ap (λ (b : BuilderState). b.published) (sym same);
  after = refl;
}

pub puts_by : (mail : InEnd) (told : Told) (left : InEnd) → left ≡ mail_in mail.mailbox mail.pair (mail.lengths ++ length told.front.points ∷ []) → PutsBy mail told left
puts_by mail told left is a s session earlier at same last = record {
  session = session;
  at = at;
  told = told;
  earlier = earlier;
  last = last;
  after = ap (λ (m : InEnd). with_session a s (record session { put = m })) (is ∙ ap (λ (m : InEnd). mail_in m.mailbox m.pair (m.lengths ++ length told.front.points ∷ [])) (sym same));
}

brings_same : (x y : Told) → Brings x ≡ Brings y → x ≡ y
brings_same x y e = cc

-- by the rule of the mailbox what is taken was put last
last_of : (session : SessionView) (told : Option Told) → ShowsPlace session told → IfSome told (IsLastIn session)
last_of session None place = tt
last_of session (Some t) place =
    let held = holds_last_put place.letters place.views place.in_seat place.out_seat place.putter place.taker place.keeps place.puts place.takes in
    let brings = held.next (Brings t) place.front.0 place.front.1 in
    let same = brings_same t brings.told brings.brings in
    record {
      put = place.putter.put;
      lengths = place.put.0;
      last = subst (λ (x : Book × Told). IsLastPut x.0 place.putter.put x.1) (λ i. (place.put.1 i, sym same i)) brings.last;
    }

pub asks_by : (mail : OutEnd) (told : Option Told) (left : OutEnd) → left ≡ mail_out mail.mailbox mail.pair (next_count mail.takes) (and_taken mail.taken told) → AsksBy mail told left
asks_by mail told left is a s session at same place = record {
  session = session;
  at = at;
  told = told;
  of = last_of session told place;
  after = ap (λ (m : OutEnd). with_session a s (record session { taken = m })) (is ∙ ap (λ (m : OutEnd). mail_out m.mailbox m.pair (next_count m.takes) (and_taken m.taken told)) (sym same));
}

pub learns_by : (learned : Known) (told : Told) (left : Known) → IsLonger learned told.front left → LearnsBy learned told left
learns_by learned told left longer a s session earlier at same last = record {
  learned = left;
  session = session;
  at = at;
  earlier = earlier;
  told = told;
  last = last;
  longer = subst (λ (l : Known). IsLonger l told.front left) (sym same) longer;
  after = refl;
}

pub looks_by : (schema : Schema) (shown left : Known) → LooksBy schema shown left
looks_by schema shown left a s session q views seat at same valid is keeps seated = record {
  session = session;
  at = at;
  valid = valid;
  shown = left;
  sees = record {
    told = refl;
    before = subst (λ (x : Known × Known). IfSome (knows schema x.0) (Knows x.1.points x.1.book schema)) (λ i. (sym same i, is i)) (keeps.named seat (knows schema shown) seated);
    after = ap (knows schema) is;
  };
  after = refl;
}

ends_by : (builder : BuilderState) (ended : Known) → ended.points ≡ entry_points (builder.journal ++ builder.pending) → EndsPairBy builder ended
ends_by builder ended points a same = record {
  ended = ended;
  points = points ∙ ap (λ (b : BuilderState). entry_points (b.journal ++ b.pending)) (sym same);
  after = ap (λ (b : BuilderState). record a { builder = having_ended_pair b ended }) (sym same);
}

-- where the pair's end succeeds
pub ends_ok : {A E : Type 0} (ended : A → Known) (builder : BuilderState) (list : List Entry) (r : Result A E) → IfOk r (λ _. list ≡ builder.journal ++ builder.pending)
    → IfOk r (λ t. (ended t).points ≡ entry_points list) → IfOk r (λ t. EndsPairBy builder (ended t))
ends_ok ended builder list (Ok t) journal points = ends_by builder (ended t) (points ∙ ap entry_points journal)
ends_ok ended builder list (Err e) journal points = tt

pub learns_end_by : (last left : Known) → left.points ≡ last.points → LearnsEndBy last left
learns_end_by last left is = (is, λ a s session at same. record { session = session; at = at; last = last; list = sym same; after = refl })
