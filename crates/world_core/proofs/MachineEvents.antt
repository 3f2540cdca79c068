-- A machine that runs: what its world is after each event.
use Rattle.std.proofs.Common.{◌≡◌, ℕ, ◌+◌, ◌-◌, ◌<◌, ◌≤◌, ◌&&◌, leb, ltb, IsTrue, IfOk, Result, Ok, Err, List, [], ◌∷◌, ◌++◌, length, length-append, get_or, take, drop, set, sym, subst, ap, ◌∙◌, arith}
use Rattle.std.specs.declared.alloc.Global.{Global}
use Rattle.std.specs.declared.collections.VecDeque.{VecDeque}
use Rattle.std.proofs.lemmas.Bool.{and_parts, leb-true}
use Rattle.std.proofs.lemmas.Grind.{take_at_read}
use Rattle.std.proofs.lemmas.List.{length-map, length-take, get_or-map, get_or_default, map-set, take_all}
use Rattle.cube_view.specs.Points.{Point}
use Rattle.cube_view.specs.declared.schema.Schema.{Schema}
use Rattle.world_core.specs.Interleaving.{entry, numbered, entries_of, list_of}
use Rattle.world_core.specs.Machine.{first_world, pushed, has_rest, after_push, after_event, world_of}
use Rattle.world_core.specs.Parts.{deque_lists}
use Rattle.world_core.specs.Worlds.{pushed_of, KeepsOrder, LooksAreFresh}
use Rattle.world_core.specs.declared.entry.Entry.{Entry}
use Rattle.world_core.specs.declared.event.Event.{Event}
use Rattle.world_core.specs.declared.world.World.{World}
use Rattle.world_core.proofs.Entries.{length-numbered}
use Rattle.world_core.proofs.Worlds.{after_events-append, Kept-world, keeps_order, every_look_is_fresh}

-- Pushes

-- how many entries a feeder has pushed is how much of its feed isn't left
pub pushed_count : (feeds : List (List Point)) (sessions : ℕ) (w : World) (f : ℕ) → KeepsOrder feeds sessions w → 1 ≤ f → f ≤ length feeds → length (list_of feeds f) ≡ length (entries_of f (pushed w)) + length (list_of w.rest f)
pushed_count feeds sessions w f keeps low high =
    let split = ap length (keeps.rest f low high) in
    let sum = length-append (pushed_of feeds w f) (list_of w.rest f) in
    let own = ap length (keeps.lane.each f low high) ∙ length-numbered f 0 (pushed_of feeds w f) in
    omega (arith, split, sum, own)

-- the world with what a push changes
pub after_push-is : (w : World) (f n : ℕ) (p : Point) (rest : List (List Point)) (queue : List Entry) → rest ≡ set w.rest (f - 1) (drop 1 (list_of w.rest f)) → queue ≡ w.queue ++ entry f n p ∷ [] → n ≡ length (entries_of f (pushed w)) → take 1 (list_of w.rest f) ≡ p ∷ [] → record w { rest = rest; queue = queue } ≡ after_push w f
after_push-is w f n p rest queue rest_is queue_is number first =
    let next : queue ≡ w.queue ++ numbered f (length (entries_of f (pushed w))) (take 1 (list_of w.rest f)) =
    queue_is ∙ (ap (λ k. w.queue ++ entry f k p ∷ []) number ∙ ap (λ points. w.queue ++ numbered f (length (entries_of f (pushed w))) points) (sym first)) in
    λ i. record w { rest = rest_is i; queue = next i }

-- what a push does to the deques that hold the rests, and to the queue
module _ (feeds : List (List Point)) (sessions : ℕ) (w : World) (deques : List (VecDeque Point Global)) (f place : ℕ) (own left : VecDeque Point Global) (rests : w.rest ≡ deque_lists deques) (known : IsTrue (has_rest w f)) (at : place ≡ f) where
  range : (1 ≤ f) × (f ≤ length w.rest)
  range =
      let parts = and_parts (leb 1 f) (leb f (length w.rest)) (and_parts (leb 1 f && leb f (length w.rest)) (ltb 0 (length (list_of w.rest f))) known).0 in
      (leb-true 1 f parts.0, leb-true f (length w.rest) parts.1)

  own_rest : own ≡ get_or deques (place - 1) own → list_of w.rest f ≡ own.items
  own_rest is =
      let items : VecDeque Point Global → List Point = λ d. d.items in
      let l = ap length rests in
      let m = length-map deques items in
      ap (λ k. get_or w.rest (k - 1) []) (sym at)
      ∙ (ap (λ l. get_or l (place - 1) []) rests
      ∙ (get_or-map items deques (place - 1) own [] (let r = range in omega (arith, at, r.0, r.1, l, m)) ∙ ap items (sym is)))

  pub push_world : (n size left_size : ℕ) (feed : List Point) (p : Point) (queue : List Entry) → KeepsOrder feeds sessions w → own ≡ get_or deques (place - 1) own → feed ≡ get_or feeds (place - 1) feed → size ≡ length feed → left_size ≡ length own.items → n ≡ size - left_size → own.items ≡ p ∷ left.items → queue ≡ w.queue ++ entry f n p ∷ [] → record w { rest = deque_lists (set deques (place - 1) left); queue = queue } ≡ after_push w f
  push_world n size left_size feed p queue keeps own_is feed_is size_is left_size_is n_is first queue_is =
      let items : VecDeque Point Global → List Point = λ d. d.items in
      let mine = own_rest own_is in
      let r = range in
      let high : f ≤ length feeds = let c = keeps.sizes.0 in omega (arith, r.1, c) in
      let own_feed : list_of feeds f ≡ feed = ap (λ k. get_or feeds (k - 1) []) (sym at) ∙ (get_or_default feeds (place - 1) [] feed (omega (arith, at, r.0, high)) ∙ sym feed_is) in
      let count = pushed_count feeds sessions w f keeps r.0 high in
      let a = ap length own_feed in
      let b = ap length mine in
      after_push-is w f n p (deque_lists (set deques (place - 1) left)) queue
      (map-set items deques (place - 1) left
      ∙ (ap (λ l. set l (place - 1) left.items) (sym rests)
      ∙ (ap (λ k. set w.rest (k - 1) left.items) at
      ∙ ap (λ l. set w.rest (f - 1) l) (sym (ap (drop 1) (mine ∙ first))))))
      queue_is
      (omega (arith, n_is, size_is, left_size_is, count, a, b))
      (ap (take 1) (mine ∙ first))

-- Runs

module _ (schema : Schema) (feeds : List (List Point)) (room sessions : ℕ) (events : List Event) where
  pub world_of-next : (n : ℕ) (e : Event) (w v : World) → n < length events → e ≡ get_or events n e → w ≡ world_of schema feeds room sessions (take n events) → v ≡ after_event schema room n w e → v ≡ world_of schema feeds room sessions (take (n + 1) events)
  world_of-next n e w v lt is at next =
      let k : n ≡ 0 + length (take n events) = let l = length-take n events in omega (arith, l, lt) in
      next
      ∙ (ap (λ u. after_event schema room n u e) at
      ∙ (ap (λ j. after_event schema room j (world_of schema feeds room sessions (take n events)) e) k
      ∙ (sym (after_events-append schema room 0 (first_world feeds sessions) (take n events) (e ∷ []))
      ∙ ap (λ l. world_of schema feeds room sessions l) (ap (λ x. take n events ++ x ∷ []) is ∙ sym (take_at_read events n e lt).1))))

-- what a machine needs to go on
pub keeps_order_so_far : (schema : Schema) (feeds : List (List Point)) (room sessions : ℕ) (events : List Event) (w : World) → w ≡ world_of schema feeds room sessions events → KeepsOrder feeds (length w.seen) w
keeps_order_so_far schema feeds room sessions events w is =
    let kept = Kept-world feeds sessions schema room events in
    let own = world_of schema feeds room sessions events in
    subst (λ (u : World). KeepsOrder feeds (length u.seen) u) (sym is) (subst (λ n. KeepsOrder feeds n own) (sym kept.sizes.0) (keeps_order feeds sessions own kept))

pub order_if_ok : {E : Type 0} (schema : Schema) (feeds : List (List Point)) (room sessions : ℕ) (events : List Event) (r : Result World E) → IfOk r (λ w. w ≡ world_of schema feeds room sessions events) → IfOk r (λ w. KeepsOrder feeds sessions w)
order_if_ok schema feeds room sessions events (Ok w) is = subst (KeepsOrder feeds sessions) (sym is) (keeps_order feeds sessions (world_of schema feeds room sessions events) (Kept-world feeds sessions schema room events))
order_if_ok schema feeds room sessions events (Err e) is = tt

pub looks_if_ok : {E : Type 0} (schema : Schema) (feeds : List (List Point)) (room sessions : ℕ) (events : List Event) (r : Result World E) → IfOk r (λ w. w ≡ world_of schema feeds room sessions events) → IfOk r (λ w. LooksAreFresh schema feeds room sessions events w)
looks_if_ok schema feeds room sessions events (Ok w) is = subst (LooksAreFresh schema feeds room sessions events) (sym is) (every_look_is_fresh schema feeds room sessions events)
looks_if_ok schema feeds room sessions events (Err e) is = tt

-- the last world is that of all events
pub last_world : {E : Type 0} (schema : Schema) (feeds : List (List Point)) (room sessions : ℕ) (events : List Event) (n : ℕ) (m : World) (r : Result World E) → length events ≤ n → m ≡ world_of schema feeds room sessions (take n events) → IfOk r (λ w. w ≡ m) → IfOk r (λ w. w ≡ world_of schema feeds room sessions events)
last_world schema feeds room sessions events n m (Ok w) all at is = is ∙ (at ∙ ap (world_of schema feeds room sessions) (take_all n events all))
last_world schema feeds room sessions events n m (Err e) all at is = tt
