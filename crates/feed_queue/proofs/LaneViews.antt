-- A lane that runs: its rule, and the views of its passes.
use Rattle.std.proofs.Common.{◌≡◌, ℕ, zero, suc, ◌≤◌, ◌<◌, ◌⊎◌, inl, inr, ⊎_elim, leb, true, false, IsTrue, List, ◌++◌, All, Option, Some, None, map, sym, refl, ap, ◌∙◌, subst, arith}
use Rattle.std.proofs.lemmas.Bool.Decides.{leb_tells}
use mathlib.Core.Option.{some}
use lib.ListN.{get_elem?}
use Rattle.world_core.specs.declared.entry.Entry.{Entry}
use Rattle.cube_view.specs.declared.schema.Schema.{Schema}
use Rattle.world_core.specs.Interleaving.{entries_of}
use Rattle.world_core.specs.LaneFact.{lane_fact}
use Rattle.world_core.proofs.Lists.{one_item}
use Rattle.feed_queue.specs.declared.item.Item.{Item}
use Rattle.feed_queue.specs.declared.item.Slot.{Slot}
use Rattle.feed_queue.specs.declared.item.Slot.TheVariants.{Carries}
use Rattle.feed_queue.specs.declared.line.Feeding.{Feeding}
use Rattle.feed_queue.specs.declared.line.Drawing.{Drawing}
use Rattle.feed_queue.specs.declared.line.View.{View}
use Rattle.feed_queue.specs.declared.line.View.TheVariants.{Fresh, Opening, Draws, Feeds, Spent}
use Rattle.feed_queue.specs.Items.{feeder_of, items_of, entries_in, valid_item, stream_from}
use Rattle.feed_queue.specs.Rule.{stream, new_feeding, IsKnown, IsRunning, KeepsLane}
use Rattle.feed_queue.proofs.ItemOrder.{entries_append, entries_items, entries_stream, entries_all}

-- the lane's fact follows from the rest of the rule
pub fact_of : (drawn queue : List Item) (made : ℕ) (now : ℕ → Feeding) → ((f : ℕ) → (now f).feeder ≡ f) → ((f : ℕ) → items_of f (drawn ++ queue) ≡ stream (now f))
    → All (λ (i : Item). (1 ≤ feeder_of i) × (feeder_of i ≤ made)) (drawn ++ queue) → lane_fact made (λ f. (now f).points) (entries_in drawn) (entries_in queue)
fact_of drawn queue made now named flow from = record {
  known = subst (All (λ (e : Entry). (1 ≤ e.feeder) × (e.feeder ≤ made))) (entries_append drawn queue) (entries_all (λ f. (1 ≤ f) × (f ≤ made)) (drawn ++ queue) from);
  each = λ f low high.
      ap (entries_of f) (sym (entries_append drawn queue)) ∙ entries_items f (drawn ++ queue) ∙ ap entries_in (flow f)
      ∙ ap (λ g. entries_in (stream_from g 0 (now f).points (now f).ended)) (named f) ∙ entries_stream f 0 (now f).points (now f).ended;
}

-- a running lane, whose fact is made from the rest
pub running : (items : List Slot) (views : List View) (drawer : ℕ) (d : Drawing) (now : ℕ → Feeding) (seat : ℕ → Option ℕ) (queue : List Item)
    → items ≡ map Carries queue
    → ((pass : ℕ) (v : View) → get_elem? views pass ≡ some v → IsKnown drawer d now seat pass v)
    → ((f : ℕ) → ((now f).feeder ≡ f) × ((now f).schema ≡ d.schema))
    → ((f : ℕ) → items_of f (d.drawn ++ queue) ≡ stream (now f))
    → ((f : ℕ) → (f ≡ 0) ⊎ (d.made < f) → (seat f ≡ None) × (now f ≡ new_feeding d.schema f))
    → All (λ (i : Item). (1 ≤ feeder_of i) × (feeder_of i ≤ d.made)) (d.drawn ++ queue)
    → All (λ (i : Item). IsTrue (valid_item d.schema i)) (d.drawn ++ queue)
    → All (λ (w : Feeding). (w.feeder ≤ d.made) × (seat w.feeder ≡ None) × (w ≡ now w.feeder)) d.joined
    → KeepsLane items views
running items views drawer d now seat queue held known named flow later from valid joined = inr (inr (record {
  drawer = drawer;
  drawing = d;
  now = now;
  seat = seat;
  queue = queue;
  held = held;
  known = known;
  named = named;
  flow = flow;
  fact = fact_of d.drawn queue d.made now (λ f. (named f).0) flow from;
  later = later;
  from = from;
  valid = valid;
  joined = joined;
}))

-- a feeder's pass runs
pub feeds_run : (items : List Slot) (views : List View) (pass : ℕ) (w : Feeding) → KeepsLane items views → get_elem? views pass ≡ some (Feeds w) → IsRunning items views
feeds_run items views pass w (inl n) at = absurd (let e : Fresh ≡ Feeds w = (one_item views Fresh (Feeds w) pass n.views_are at).1 in cc)
feeds_run items views pass w (inr (inl o)) at = absurd (let e : Opening o.schema ≡ Feeds w = (one_item views (Opening o.schema) (Feeds w) pass o.views_are at).1 in cc)
feeds_run items views pass w (inr (inr r)) at = r

pub draws_run : (items : List Slot) (views : List View) (pass : ℕ) (d : Drawing) → KeepsLane items views → get_elem? views pass ≡ some (Draws d) → IsRunning items views
draws_run items views pass d (inl n) at = absurd (let e : Fresh ≡ Draws d = (one_item views Fresh (Draws d) pass n.views_are at).1 in cc)
draws_run items views pass d (inr (inl o)) at = absurd (let e : Opening o.schema ≡ Draws d = (one_item views (Opening o.schema) (Draws d) pass o.views_are at).1 in cc)
draws_run items views pass d (inr (inr r)) at = r

-- what a running lane knows, by the view of its drawing end and what its queue holds
pub record RunsAt (items : List Slot) (views : List View) (drawer : ℕ) (d : Drawing) (queue : List Item) : Type 0 where
  pub now : ℕ → Feeding
  pub seat : ℕ → Option ℕ
  pub held : items ≡ map Carries queue
  pub known : (pass : ℕ) (v : View) → get_elem? views pass ≡ some v → IsKnown drawer d now seat pass v
  pub named : (f : ℕ) → ((now f).feeder ≡ f) × ((now f).schema ≡ d.schema)
  pub flow : (f : ℕ) → items_of f (d.drawn ++ queue) ≡ stream (now f)
  pub later : (f : ℕ) → (f ≡ 0) ⊎ (d.made < f) → (seat f ≡ None) × (now f ≡ new_feeding d.schema f)
  pub from : All (λ (i : Item). (1 ≤ feeder_of i) × (feeder_of i ≤ d.made)) (d.drawn ++ queue)
  pub valid : All (λ (i : Item). IsTrue (valid_item d.schema i)) (d.drawn ++ queue)
  pub joined : All (λ (w : Feeding). (w.feeder ≤ d.made) × (seat w.feeder ≡ None) × (w ≡ now w.feeder)) d.joined

pub runs_at : (items : List Slot) (views : List View) (r : IsRunning items views) → RunsAt items views r.drawer r.drawing r.queue
runs_at items views r = record { now = r.now; seat = r.seat; held = r.held; known = r.known; named = r.named; flow = r.flow; later = r.later; from = r.from; valid = r.valid; joined = r.joined }

pub draws_at : (items : List Slot) (views : List View) (pass : ℕ) (d : Drawing) → KeepsLane items views → get_elem? views pass ≡ some (Draws d) → (queue : List Item) × RunsAt items views pass d queue
draws_at items views pass d k at =
    let r = draws_run items views pass d k at in
    let e : (pass ≡ r.drawer) × (d ≡ r.drawing) = r.known pass (Draws d) at in
    (r.queue, subst (λ (x : ℕ × Drawing). RunsAt items views x.0 x.1 r.queue) (λ i. (sym e.0 i, sym e.1 i)) (runs_at items views r))

pub some_not_none : {A : Type 0} (a : A) (o : Option A) → o ≡ Some a → o ≡ None → ⊥
some_not_none a o e n = cc

pub same_seat : (o : Option ℕ) (a b : ℕ) → o ≡ Some a → o ≡ Some b → a ≡ b
same_seat o a b e f = cc

-- a pass keeps what it knows, where its number keeps its seat and its list
pub moved : (drawer : ℕ) (d d' : Drawing) (now now' : ℕ → Feeding) (seat seat' : ℕ → Option ℕ) (j : ℕ) (u : View)
    → (j ≡ drawer → d ≡ d')
    → ((x : Feeding) → seat x.feeder ≡ Some j → (seat' x.feeder ≡ Some j) × (now x.feeder ≡ now' x.feeder))
    → IsKnown drawer d now seat j u → IsKnown drawer d' now' seat' j u
moved drawer d d' now now' seat seat' j Fresh s t h = h
moved drawer d d' now now' seat seat' j (Opening z) s t h = h
moved drawer d d' now now' seat seat' j (Draws e) s t h = (h.0, h.1 ∙ s h.0)
moved drawer d d' now now' seat seat' j (Feeds w) s t h = ((t w h.0).0, h.1 ∙ (t w h.0).1)
moved drawer d d' now now' seat seat' j Spent s t h = tt

pub not_past : (made f : ℕ) → (made < f → ⊥) → f ≤ made
not_past made f h = ⊎_elim (λ (t : (leb f made ≡ true) × (f ≤ made)). t.1) (λ (t : (leb f made ≡ false) × (made < f)). absurd (h t.1)) (leb_tells f made)

-- a number with a pass was split off
pub numbered_off : (seat : ℕ → Option ℕ) (now : ℕ → Feeding) (z : Schema) (made f pass : ℕ) → ((f : ℕ) → (f ≡ 0) ⊎ (made < f) → (seat f ≡ None) × (now f ≡ new_feeding z f)) → seat f ≡ Some pass → (1 ≤ f) × (f ≤ made)
numbered_off seat now z made zero pass later e = absurd (some_not_none pass (seat 0) e (later 0 (inl refl)).0)
numbered_off seat now z made (suc f) pass later e = (omega arith, not_past made (suc f) (λ past. some_not_none pass (seat (suc f)) e (later (suc f) (inr past)).0))
