-- Each step of the lane and the builder is its event, or none.
use Rattle.std.proofs.Common.{◌≡◌, ◌≢◌, ℕ, ◌-◌, ◌≤◌, ◌<◌, Bool, true, false, ◌&&◌, ltb, if◌then◌else◌, List, [], ◌∷◌, ◌++◌, length, length-append, take, drop, set, Some, refl, sym, ap, ◌∙◌, subst, arith, append_assoc}
use Rattle.std.specs.Prelude.{slice_get}
use Rattle.std.proofs.lemmas.Bool.Decides.{nat_tests}
use Rattle.std.proofs.lemmas.List.{append-nil, append_cancel_left, length-set}
use Rattle.builder_core.specs.Builder.{BuilderState}
use Rattle.cube_view.specs.Points.{Point}
use Rattle.cube_view.specs.declared.schema.Schema.{Schema}
use Rattle.feed_queue.specs.Ends.{DrawState, FeedState, MaySend, having_sent, having_drawn, sent_lists}
use Rattle.feed_queue.specs.Items.{entries_in}
use Rattle.feed_queue.specs.declared.item.Item.{Item}
use Rattle.feed_queue.specs.declared.item.Item.TheVariants.{One, End}
use Rattle.feed_queue.proofs.ItemOrder.{entries_append}
use Rattle.world_core.specs.Interleaving.{numbered, entries_of, entry_points, list_of}
use Rattle.world_core.specs.Machine.{pushed, next_entry, has_rest, is_possible, happens, after_skip, after_events}
use Rattle.world_core.specs.declared.entry.Entry.{Entry}
use Rattle.world_core.specs.declared.event.Event.{Event}
use Rattle.world_core.specs.declared.event.Event.TheVariants as event
use Rattle.world_core.specs.declared.world.World.{World}
use Rattle.world_core.proofs.Entries.{length-entry_points, length-numbered}
use Rattle.run_law.specs.Moves.{TakesItem, EndsPair, having_ended_pair}
use Rattle.run_law.specs.Standing.{sent_of, GoOnFrom, KeepsRun, StandsWith}
use Rattle.run_law.specs.Steps.{DroppedNone}
use Rattle.run_law.specs.Views.{RunView}
use Rattle.run_law.proofs.Feeders.{set_own, set_other, each_feeder, feeder_high, sent_at, sent_own, sent_other, sent_same}
use Rattle.run_law.proofs.HeardLists.{all_heard_more}
use Rattle.run_law.proofs.Lanes.{own_entry, lane_own, lane_other, drawn_moves, sent_comes_last, entries_few}
use Rattle.run_law.proofs.Takings.{take_publishes, take_keeps}

-- an event that is possible happens
pub occurs : (schema : Schema) (room n : ℕ) (w : World) (e : Event) → is_possible schema room w e ≡ true → after_events schema room n w (e ∷ []) ≡ happens schema w e
occurs schema room n w e possible = ap (λ b. if b then happens schema w e else after_skip w n) possible

abbrev after_sending : RunView → ℕ → FeedState → Item → RunView
after_sending a f end i = record a { feeds = set a.feeds (f - 1) (having_sent end i); queue = a.queue ++ i ∷ [] }

abbrev after_drawing : RunView → List Item → Item → RunView
after_drawing a rest i = record a { queue = rest; draws = having_drawn a.draws i }

module _ (lists : List (List Point)) (a : RunView) (w : World) (stands : StandsWith lists a w) where
  -- only the lane changes, on its part and the machine's
  lane_stands : (feeds : List FeedState) (queue : List Item) (draws : DrawState) {rest : List (List Point)} {queued pending : List Entry} → length rest ≡ length feeds
      → ((f : ℕ) → 1 ≤ f → f ≤ length feeds → list_of lists f ≡ list_of (sent_lists feeds) f ++ list_of rest f) → queued ≡ entries_in queue → w.journal ++ pending ≡ entries_in draws.drawn
      → ((f : ℕ) → 1 ≤ f → f ≤ length feeds → entries_of f (entries_in draws.drawn ++ entries_in queue) ≡ numbered f 0 (list_of (sent_lists feeds) f))
      → StandsWith lists (record a { feeds = feeds; queue = queue; draws = draws }) (record w { rest = rest; queue = queued; pending = pending })
  lane_stands feeds queue draws count rest queued drawn lane = record {
    count = count;
    rest = rest;
    queue = queued;
    drawn = drawn;
    journal = stands.journal;
    seen = stands.seen;
    told = stands.told;
    shots = stands.shots;
    skipped = stands.skipped;
    keeps = record { lane = lane; published = stands.keeps.published; heard = stands.keeps.heard };
  }

  -- a feeder sends an entry

  module _ (f : ℕ) (end : FeedState) (e : Entry) (at : slice_get a.feeds (f - 1) ≡ Some end) (low : 1 ≤ f) (number : end.feeder ≡ f) (may : MaySend end (One e)) (go : GoOnFrom (after_sending a f end (One e)) lists) where
    abbrev b : RunView
    b = after_sending a f end (One e)

    high : f ≤ length a.feeds
    high = feeder_high a.feeds f end (having_sent end (One e)) at low

    sent : sent_of a f ≡ end.points
    sent = sent_at a.feeds f end (having_sent end (One e)) at low

    sends : sent_of b f ≡ end.points ++ e.point ∷ []
    sends = sent_own a.feeds f end (having_sent end (One e)) at low

    as_many : length b.feeds ≡ length a.feeds
    as_many = length-set a.feeds (f - 1) (having_sent end (One e))

    high_then : f ≤ length b.feeds
    high_then = let l = as_many in let h = high in omega (arith, l, h)

    abbrev more : List Point
    more = (go.each f low high_then).0

    -- the feeder's list has the entry's point next
    rest_is : list_of w.rest f ≡ e.point ∷ more
    rest_is =
        append_cancel_left end.points (list_of w.rest f) (e.point ∷ more)
        (ap (λ (l : List Point). l ++ list_of w.rest f) (sym sent)
        ∙ sym (stands.rest f low high)
        ∙ (go.each f low high_then).1
        ∙ ap (λ (l : List Point). l ++ more) sends
        ∙ append_assoc end.points (e.point ∷ []) more)

    -- its entries are as many as it has sent
    own_count : length (entries_of f (pushed w)) ≡ e.number
    own_count =
        ap (λ l. length (entries_of f l)) (λ i. stands.drawn i ++ stands.queue i)
        ∙ ap length (stands.keeps.lane f low high)
        ∙ length-numbered f 0 (sent_of a f)
        ∙ ap length sent
        ∙ sym may.1

    entry_is : e ∷ [] ≡ numbered f e.number (e.point ∷ [])
    entry_is = own_entry e f e.number (may.0 ∙ number) refl

    next : next_entry w f ≡ e ∷ []
    next = (λ i. numbered f (own_count i) (take 1 (rest_is i))) ∙ sym entry_is

    possible : (schema : Schema) (room : ℕ) → length a.queue < room → is_possible schema room w (event.Push f) ≡ true
    possible schema room fits =
        let known : f ≤ length w.rest = let c = stands.count in let h = high in omega (arith, c, h) in
        let some_left : 0 < length (list_of w.rest f) = let l = ap length rest_is in omega (arith, l) in
        let left : has_rest w f ≡ true = grind (arith, nat_tests, low, known, some_left) in
        let short : length w.queue < room = let q = ap length stands.queue in let few = entries_few a.queue in omega (arith, q, few, fits) in
        let space : ltb (length w.queue) room ≡ true = grind (arith, nat_tests, short) in
        (λ i. left i && space i)

    abbrev before : List Entry
    before = entries_in a.draws.drawn ++ entries_in a.queue

    lane_here : entries_of f (before ++ numbered f e.number (e.point ∷ [])) ≡ numbered f 0 (sent_of b f)
    lane_here =
        lane_own f e.number before (sent_of a f) e.point (may.1 ∙ ap length (sym sent)) (stands.keeps.lane f low high)
        ∙ ap (λ points. numbered f 0 (points ++ e.point ∷ [])) sent
        ∙ ap (numbered f 0) (sym sends)

    lane_there : (g : ℕ) → f ≢ g → 1 ≤ g → g ≤ length a.feeds → entries_of g (before ++ numbered f e.number (e.point ∷ [])) ≡ numbered g 0 (sent_of b g)
    lane_there g apart l h =
        lane_other f g e.number before (e.point ∷ []) apart
        ∙ stands.keeps.lane g l h
        ∙ ap (numbered g 0) (sym (sent_other a.feeds f end (having_sent end (One e)) at low g l apart))

    lane_then : (g : ℕ) → 1 ≤ g → g ≤ length b.feeds → entries_of g (entries_in b.draws.drawn ++ entries_in b.queue) ≡ numbered g 0 (sent_of b g)
    lane_then g l h =
        let last : entries_in a.draws.drawn ++ entries_in (a.queue ++ One e ∷ []) ≡ before ++ numbered f e.number (e.point ∷ []) =
        sent_comes_last (entries_in a.draws.drawn) a.queue (One e) ∙ ap (λ x. before ++ x) entry_is in
        ap (entries_of g) last
        ∙ each_feeder (λ k. 1 ≤ k → k ≤ length a.feeds → entries_of k (before ++ numbered f e.number (e.point ∷ [])) ≡ numbered k 0 (sent_of b k)) f
        (λ _ _. lane_here)
        (λ k apart. lane_there k apart)
        g l (let m = as_many in omega (arith, m, h))

    abbrev left_over : List Point
    left_over = drop 1 (list_of w.rest f)

    rest_here : list_of lists f ≡ sent_of b f ++ list_of (set w.rest (f - 1) left_over) f
    rest_here =
        let own = set_own w.rest f left_over low (let c = stands.count in let h = high in omega (arith, c, h)) in
        (go.each f low high_then).1 ∙ ap (λ points. sent_of b f ++ points) (sym (ap (drop 1) rest_is) ∙ sym own)

    rest_there : (g : ℕ) → f ≢ g → 1 ≤ g → g ≤ length b.feeds → list_of lists g ≡ sent_of b g ++ list_of (set w.rest (f - 1) left_over) g
    rest_there g apart l h =
        stands.rest g l (let m = as_many in omega (arith, m, h))
        ∙ ap (λ points. points ++ list_of w.rest g) (sym (sent_other a.feeds f end (having_sent end (One e)) at low g l apart))
        ∙ ap (λ points. sent_of b g ++ points) (sym (set_other w.rest f g left_over low l apart))

    pub entry_sent : (schema : Schema) (room n : ℕ) → length a.queue < room → StandsWith lists b (after_events schema room n w (event.Push f ∷ []))
    entry_sent schema room n fits =
        subst (StandsWith lists b) (sym (occurs schema room n w (event.Push f) (possible schema room fits)))
        (lane_stands b.feeds b.queue a.draws
        (length-set w.rest (f - 1) left_over ∙ stands.count ∙ sym as_many)
        (each_feeder (λ k. 1 ≤ k → k ≤ length b.feeds → list_of lists k ≡ sent_of b k ++ list_of (set w.rest (f - 1) left_over) k) f (λ _ _. rest_here) (λ k apart. rest_there k apart))
        ((λ i. stands.queue i ++ next i) ∙ sym (entries_append a.queue (One e ∷ [])))
        stands.drawn
        lane_then)

  -- a feeder sends its End
  module _ (f m k : ℕ) (end : FeedState) (at : slice_get a.feeds (f - 1) ≡ Some end) (low : 1 ≤ f) where
    abbrev after_end : RunView
    after_end = after_sending a f end (End m k)

    same_sent : sent_lists after_end.feeds ≡ sent_lists a.feeds
    same_sent = sent_same a.feeds f end (having_sent end (End m k)) at low refl

    same_count : length after_end.feeds ≡ length a.feeds
    same_count = length-set a.feeds (f - 1) (having_sent end (End m k))

    same_queue : entries_in (a.queue ++ End m k ∷ []) ≡ entries_in a.queue
    same_queue = entries_append a.queue (End m k ∷ []) ∙ append-nil (entries_in a.queue)

    pub end_sent : StandsWith lists after_end w
    end_sent =
        lane_stands after_end.feeds after_end.queue a.draws
        (stands.count ∙ sym same_count)
        (λ g l h. stands.rest g l (let m = same_count in omega (arith, m, h)) ∙ ap (λ sents. list_of sents g ++ list_of w.rest g) (sym same_sent))
        (stands.queue ∙ sym same_queue)
        stands.drawn
        (λ g l h.
        ap (λ x. entries_of g (entries_in a.draws.drawn ++ x)) same_queue
        ∙ stands.keeps.lane g l (let m = same_count in omega (arith, m, h))
        ∙ ap (λ sents. numbered g 0 (list_of sents g)) (sym same_sent))

  -- an item is drawn
  lane_drawn : (rest : List Item) (i : Item) → a.queue ≡ i ∷ rest → (g : ℕ) → 1 ≤ g → g ≤ length a.feeds → entries_of g (entries_in (a.draws.drawn ++ i ∷ []) ++ entries_in rest) ≡ numbered g 0 (sent_of a g)
  lane_drawn rest i front g l h = ap (entries_of g) (drawn_moves a.draws.drawn a.queue rest i front) ∙ stands.keeps.lane g l h

  pub entry_drawn : (rest : List Item) (e : Entry) → a.queue ≡ One e ∷ rest → (schema : Schema) (room n : ℕ) → StandsWith lists (after_drawing a rest (One e)) (after_events schema room n w (event.Pop ∷ []))
  entry_drawn rest e front schema room n =
      let q : w.queue ≡ e ∷ entries_in rest = stands.queue ∙ ap entries_in front in
      let possible : is_possible schema room w event.Pop ≡ true = let l = ap length q in grind (arith, nat_tests, l) in
      subst (StandsWith lists (after_drawing a rest (One e))) (sym (occurs schema room n w event.Pop possible))
      (lane_stands a.feeds rest (having_drawn a.draws (One e)) stands.count stands.rest (ap (drop 1) q)
      (sym (append_assoc w.journal w.pending (take 1 w.queue)) ∙ (λ i. stands.drawn i ++ take 1 (q i)) ∙ sym (entries_append a.draws.drawn (One e ∷ [])))
      (lane_drawn rest (One e) front))

  pub end_drawn : (rest : List Item) (f k : ℕ) → a.queue ≡ End f k ∷ rest → StandsWith lists (after_drawing a rest (End f k)) w
  end_drawn rest f k front =
      lane_stands a.feeds rest (having_drawn a.draws (End f k)) stands.count stands.rest (stands.queue ∙ ap entries_in front)
      (stands.drawn ∙ sym (append-nil (entries_in a.draws.drawn)) ∙ sym (entries_append a.draws.drawn (End f k ∷ [])))
      (lane_drawn rest (End f k) front)

  -- the builder becomes another

  -- which has published no less
  grown : (left : BuilderState) → left.published.points ≡ entry_points left.journal → length a.builder.journal ≤ length left.journal → length a.builder.published.points ≤ length left.published.points
  grown left is more =
      let old = ap length stands.keeps.published ∙ length-entry_points a.builder.journal in
      let now = ap length is ∙ length-entry_points left.journal in
      omega (arith, old, now, more)

  keeps_built : (left : BuilderState) → left.published.points ≡ entry_points left.journal → length a.builder.journal ≤ length left.journal → KeepsRun (record a { builder = left })
  keeps_built left is more = record {
    lane = stands.keeps.lane;
    published = is;
    heard = all_heard_more a.builder.published left.published a.sessions (grown left is more) stands.keeps.heard;
  }

  -- with the same journal
  pub built_quietly : (left : BuilderState) → left.published.points ≡ entry_points left.journal → left.journal ≡ a.builder.journal → StandsWith lists (record a { builder = left }) w
  built_quietly left is same = record {
    count = stands.count;
    rest = stands.rest;
    queue = stands.queue;
    drawn = stands.drawn;
    journal = stands.journal ∙ sym same;
    seen = stands.seen;
    told = stands.told;
    shots = stands.shots;
    skipped = stands.skipped;
    keeps = keeps_built left is (let l = ap length same in omega (arith, l));
  }

  -- with all that was drawn in its journal
  pub built_publishing : (left : BuilderState) → left.published.points ≡ entry_points left.journal → left.journal ≡ entries_in a.draws.drawn
      → (schema : Schema) (room n : ℕ) → StandsWith lists (record a { builder = left }) (after_events schema room n w (event.Publish ∷ []))
  built_publishing left is all schema room n =
      let whole : w.journal ++ w.pending ≡ left.journal = stands.drawn ∙ sym all in
      let more : length a.builder.journal ≤ length left.journal =
      let l = ap length whole in
      let s = length-append w.journal w.pending in
      let j = ap length stands.journal in
      omega (arith, l, s, j) in
      record {
        count = stands.count;
        rest = stands.rest;
        queue = stands.queue;
        drawn = append-nil (w.journal ++ w.pending) ∙ stands.drawn;
        journal = whole;
        seen = stands.seen;
        told = stands.told;
        shots = stands.shots;
        skipped = stands.skipped;
        keeps = keeps_built left is more;
      }

  -- the builder takes an item
  module _ (b : RunView) where
    took : (published : Bool) (takes : TakesItem published a b) → takes.left.taken ≡ a.draws.drawn
    took published takes = takes.taking.counted ∙ sym takes.drawn

    pub kept : TakesItem false a b → StandsWith lists b w
    kept takes =
        subst (λ (x : RunView). StandsWith lists x w) (sym takes.after)
        (built_quietly takes.left takes.keeps.published (take_keeps a.builder takes.left takes.item takes.answer takes.taking takes.is))

    pub published : TakesItem true a b → (schema : Schema) (room n : ℕ) → StandsWith lists b (after_events schema room n w (event.Publish ∷ []))
    published takes schema room n =
        let all = take_publishes a.builder takes.left takes.item takes.answer takes.taking takes.keeps takes.is in
        subst (λ (x : RunView). StandsWith lists x (after_events schema room n w (event.Publish ∷ []))) (sym takes.after)
        (built_publishing takes.left takes.keeps.published (all ∙ ap entries_in (took true takes)) schema room n)

    -- the publisher ends
    pub ended : EndsPair a b → a.builder.pending ≡ [] → StandsWith lists b w
    ended ends none =
        subst (λ (x : RunView). StandsWith lists x w) (sym ends.after)
        (built_quietly (having_ended_pair a.builder ends.ended) ends.points (ap (λ l. a.builder.journal ++ l) none ∙ append-nil a.builder.journal))

    pub ended_publishing : EndsPair a b → DroppedNone a → (schema : Schema) (room n : ℕ) → StandsWith lists b (after_events schema room n w (event.Publish ∷ []))
    ended_publishing ends whole schema room n =
        subst (λ (x : RunView). StandsWith lists x (after_events schema room n w (event.Publish ∷ []))) (sym ends.after)
        (built_publishing (having_ended_pair a.builder ends.ended) ends.points whole schema room n)
