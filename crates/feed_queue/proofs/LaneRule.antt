-- Each step keeps the rule of the lane.
use Rattle.std.proofs.Common.{◌≡◌, ℕ, inl, [], ◌∷◌, sym, refl, subst}
use Rattle.crossbeam_queue.specs.Fifo.{Pushes, Pops, Forks, Merges, Learns}
use Rattle.cube_view.specs.declared.schema.Schema.{Schema}
use Rattle.feed_queue.specs.declared.item.Item.{Item}
use Rattle.feed_queue.specs.declared.item.Item.TheVariants.{One, End}
use Rattle.feed_queue.specs.declared.item.Slot.{Slot}
use Rattle.feed_queue.specs.declared.item.Slot.TheVariants.{Carries}
use Rattle.feed_queue.specs.declared.line.Feeding.{Feeding}
use Rattle.feed_queue.specs.declared.line.Drawing.{Drawing}
use Rattle.feed_queue.specs.declared.line.View.{View}
use Rattle.feed_queue.specs.declared.line.View.TheVariants.{Fresh, Opening, Draws, Feeds, Spent}
use Rattle.feed_queue.specs.Rule.{KeepsLane, opening_view}
use Rattle.feed_queue.specs.Steps.{begun_view, ViewSends, ViewDraws, after_slot, IsDraw, split_left, split_right, joined_with, Settles}
use Rattle.feed_queue.proofs.OpenedLanes.{opens, begins, splits}
use Rattle.feed_queue.proofs.SentItems.{sends, entry_on, end_on}
use Rattle.feed_queue.proofs.DrawnItems.{draws}
use Rattle.feed_queue.proofs.JoinedPasses.{joins, settles}

pub may_push : (n pass : ℕ) (v : View) (i : Item) → ViewSends v i → Pushes KeepsLane n pass v (Carries i) (λ w. w ≡ after_slot v (Carries i))
may_push n pass Fresh i h = absurd h
may_push n pass (Opening z) i h = absurd h
may_push n pass (Draws d) i h = absurd h
may_push n pass (Feeds w) (One x) h = sends n pass w (One x) h.1 h.3 (entry_on w x h.0 h.1 h.2)
may_push n pass (Feeds w) (End f m) h = sends n pass w (End f m) h.1 refl (end_on w f m h.0 h.1 h.2)
may_push n pass Spent i h = absurd h

pub may_pop : (pass : ℕ) (v : View) → ViewDraws v → Pops KeepsLane pass v (IsDraw v)
may_pop pass Fresh h = absurd h
may_pop pass (Opening z) h = absurd h
may_pop pass (Draws d) h = draws pass d
may_pop pass (Feeds w) h = absurd h
may_pop pass Spent h = absurd h

pub may_split : (pass : ℕ) (v : View) → ViewDraws v → Forks KeepsLane pass v (split_left v) (split_right v)
may_split pass Fresh h = absurd h
may_split pass (Opening z) h = absurd h
may_split pass (Draws d) h = splits pass d
may_split pass (Feeds w) h = absurd h
may_split pass Spent h = absurd h

pub may_join : (pass : ℕ) (v : View) (other : ℕ) (w : Feeding) → ViewDraws v → Merges KeepsLane pass v other (Feeds w) (joined_with v (Feeds w)) Spent
may_join pass Fresh other w h = absurd h
may_join pass (Opening z) other w h = absurd h
may_join pass (Draws d) other w h = joins pass d other w
may_join pass (Feeds u) other w h = absurd h
may_join pass Spent other w h = absurd h

pub new_lane : KeepsLane [] (Fresh ∷ [])
new_lane = inl (record { slots_are = refl; views_are = refl })

pub may_open : (n pass : ℕ) (v : View) (s : Slot) (z : Schema) → v ≡ Fresh → opening_view s ≡ Opening z → Pushes KeepsLane n pass v s (λ w. w ≡ opening_view s)
may_open n pass v s z is e = subst (λ (u : View). Pushes KeepsLane n pass u s (λ w. w ≡ opening_view s)) (sym is) (opens n pass s z e)

pub may_begin : (pass : ℕ) (v : View) (z : Schema) → v ≡ Opening z → Pops KeepsLane pass v (λ x w. w ≡ begun_view v)
may_begin pass v z is = subst (λ (u : View). Pops KeepsLane pass u (λ x w. w ≡ begun_view u)) (sym is) (begins pass z)

pub may_rejoin : (pass : ℕ) (v : View) (other : ℕ) (u : View) (w : Feeding) → ViewDraws v → u ≡ Feeds w → Merges KeepsLane pass v other u (joined_with v u) Spent
may_rejoin pass v other u w h is = subst (λ (x : View). Merges KeepsLane pass v other x (joined_with v x) Spent) (sym is) (may_join pass v other w h)

pub may_settle : (pass : ℕ) (v : View) → Learns KeepsLane pass v (λ items. Settles v)
may_settle pass Fresh items views k at = tt
may_settle pass (Opening z) items views k at = tt
may_settle pass (Draws d) items views k at = settles pass d items views k at
may_settle pass (Feeds w) items views k at = tt
may_settle pass Spent items views k at = tt

pub may_part : (pass : ℕ) (v : View) (d : Drawing) → v ≡ Draws d → Forks KeepsLane pass v (split_left v) (split_right v)
may_part pass v d is = subst (λ (u : View). Forks KeepsLane pass u (split_left u) (split_right u)) (sym is) (splits pass d)
