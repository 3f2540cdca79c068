-- How a lane is opened: the schema goes in and comes out, and each feeder gets its pass.
use Rattle.std.proofs.Common.{◌≡◌, ◌≢◌, ℕ, zero, suc, ◌+◌, ◌≤◌, ◌<◌, ◌⊎◌, inl, inr, ⊎_elim, false, List, [], ◌∷◌, ◌++◌, Option, Some, None, length, set, sym, refl, ap, ◌∙◌, subst, arith, add-one}
use Rattle.std.proofs.lemmas.List.Elements.{All-weaker}
use mathlib.Core.Option.{some, some-injective, some-ne-none}
use lib.ListN.{get_elem?}
use Rattle.crossbeam_queue.specs.Fifo.{Pushes, Pops, Forks}
use Rattle.crossbeam_queue.proofs.Lists.{at_set}
use Rattle.cube_view.specs.declared.schema.Schema.{Schema}
use Rattle.feed_queue.specs.declared.item.Item.{Item}
use Rattle.feed_queue.specs.declared.item.Slot.{Slot}
use Rattle.feed_queue.specs.declared.line.Feeding.{Feeding}
use Rattle.feed_queue.specs.declared.line.Drawing.{Drawing}
use Rattle.feed_queue.specs.declared.line.View.{View}
use Rattle.feed_queue.specs.declared.line.View.TheVariants.{Fresh, Opening, Draws, Feeds}
use Rattle.feed_queue.specs.Items.{feeder_of}
use Rattle.feed_queue.specs.Rule.{new_feeding, opening_view, IsKnown, KeepsLane}
use Rattle.feed_queue.specs.Steps.{begun_view, drawing, split_left, split_right}
use Rattle.world_core.proofs.Lists.{cons-parts, one_item}
use Rattle.feed_queue.proofs.Updates.{updated, updated_here, updated_else}
use Rattle.feed_queue.proofs.LaneViews.{running, draws_at, some_not_none, moved}
use Rattle.atomic_table.specs.Seated.{TableId}
use Rattle.feed_queue.specs.Ends.{FeedState, feed_state, new_feeds}
use Rattle.feed_queue.specs.Passes.{known_schema}

-- the schema goes in
pub opens : (n pass : ℕ) (s : Slot) (z : Schema) → opening_view s ≡ Opening z → Pushes KeepsLane n pass Fresh s (λ w. w ≡ opening_view s)
opens n pass s z is items views room (inl k) at =
    let e = one_item views Fresh Fresh pass k.views_are at in
    (opening_view s, inr (inl (record { slot = s; schema = z; named = is; slots_are = ap (λ l. l ++ s ∷ []) k.slots_are; views_are = (λ i. set (k.views_are i) (e.0 i) (opening_view s)) ∙ ap (λ v. v ∷ []) is })), refl)
opens n pass s z is items views room (inr (inl o)) at = absurd (let e : Opening o.schema ≡ Fresh = (one_item views (Opening o.schema) Fresh pass o.views_are at).1 in cc)
opens n pass s z is items views room (inr (inr r)) at = absurd (r.known pass Fresh at)

pub first_known : (z : Schema) (pass : ℕ) (v : View) → get_elem? (Draws (drawing z [] 0 []) ∷ []) pass ≡ some v → IsKnown 0 (drawing z [] 0 []) (new_feeding z) (λ f. None) pass v
first_known z pass v at =
    let e = one_item (Draws (drawing z [] 0 []) ∷ []) (Draws (drawing z [] 0 [])) v pass refl at in
    subst (λ (x : ℕ × View). IsKnown 0 (drawing z [] 0 []) (new_feeding z) (λ f. None) x.0 x.1) (λ i. (sym e.0 i, e.1 i)) (refl, refl)

pub first : (z : Schema) → KeepsLane [] (Draws (drawing z [] 0 []) ∷ [])
first z = running [] (Draws (drawing z [] 0 []) ∷ []) 0 (drawing z [] 0 []) (new_feeding z) (λ f. None) [] refl (first_known z) (λ f. (refl, refl)) (λ f. refl) (λ f none. (refl, refl))
    (λ k d less. absurd (omega arith)) (λ k d less. absurd (omega arith)) (λ k d less. absurd (omega arith))

-- and comes out
pub begins : (pass : ℕ) (z : Schema) → Pops KeepsLane pass (Opening z) (λ x w. w ≡ begun_view (Opening z))
begins pass z x items views (inl k) at = absurd (let e : Fresh ≡ Opening z = (one_item views Fresh (Opening z) pass k.views_are at).1 in cc)
begins pass z x items views (inr (inl o)) at =
    let e = one_item views (Opening o.schema) (Opening z) pass o.views_are at in
    let w : View = begun_view (Opening z) in
    let vs : set views pass w ≡ w ∷ [] = λ i. set (o.views_are i) (e.0 i) w in
    let none : items ≡ [] = (cons-parts x o.slot items [] o.slots_are).1 in
    (w, subst (λ (y : List Slot × List View). KeepsLane y.0 y.1) (λ i. (sym none i, sym vs i)) (first z), refl)
begins pass z x items views (inr (inr r)) at = absurd (r.known pass (Opening z) at)

pub at_new : {A : Type 0} (l : List A) (a b : A) (j : ℕ) → get_elem? (l ++ a ∷ []) j ≡ some b → (get_elem? l j ≡ some b) ⊎ ((j ≡ length l) × (a ≡ b))
at_new [] a b zero e = inr (refl, some-injective a b e)
at_new [] a b (suc j) e = absurd (some-ne-none b (sym e))
at_new (x ∷ xs) a b zero e = inl e
at_new (x ∷ xs) a b (suc j) e = ⊎_elim (λ (t : get_elem? xs j ≡ some b). inl t) (λ (t : (j ≡ length xs) × (a ≡ b)). inr (ap suc t.0, t.1)) (at_new xs a b j e)

-- a feeder's pass is split off
pub splits : (pass : ℕ) (d : Drawing) → Forks KeepsLane pass (Draws d) (split_left (Draws d)) (split_right (Draws d))
splits pass d items views k at =
    let q = (draws_at items views pass d k at).0 in
    let r = (draws_at items views pass d k at).1 in
    let f : ℕ = d.made + 1 in
    let e : Drawing = drawing d.schema d.drawn (d.made + 1) d.joined in
    let vs : List View = set views pass (Draws e) in
    let new : View = Feeds (new_feeding d.schema f) in
    let seat : ℕ → Option ℕ = updated f (Some (length vs)) r.seat in
    let free : r.seat f ≡ None = (r.later f (inr (omega arith))).0 in
    let apart : (g : ℕ) (j : ℕ) → r.seat g ≡ Some j → g ≢ f = λ g j h same. some_not_none j (r.seat f) (subst (λ (x : ℕ). r.seat x ≡ Some j) same h) free in
    let stays : (j : ℕ) (x : Feeding) → r.seat x.feeder ≡ Some j → (seat x.feeder ≡ Some j) × (r.now x.feeder ≡ r.now x.feeder) = λ j x h. (updated_else f (Some (length vs)) r.seat x.feeder (apart x.feeder j h) ∙ h, refl) in
    let old : (j : ℕ) (u : View) → get_elem? vs j ≡ some u → IsKnown pass e r.now seat j u = λ j u h.
    ⊎_elim (λ (t : (j ≡ pass) × (Draws e ≡ u)). subst (λ (x : ℕ × View). IsKnown pass e r.now seat x.0 x.1) (λ i. (sym t.0 i, t.1 i)) (refl, refl))
    (λ (t : (j ≢ pass) × (get_elem? views j ≡ some u)). moved pass d e r.now r.now r.seat seat j u (λ same. absurd (t.0 same)) (stays j) (r.known j u t.1))
    (at_set views pass j (Draws e) u h) in
    let known : (j : ℕ) (u : View) → get_elem? (vs ++ new ∷ []) j ≡ some u → IsKnown pass e r.now seat j u = λ j u h.
    ⊎_elim (λ (t : get_elem? vs j ≡ some u). old j u t)
    (λ (t : (j ≡ length vs) × (new ≡ u)). subst (λ (x : ℕ × View). IsKnown pass e r.now seat x.0 x.1) (λ i. (sym t.0 i, t.1 i))
    (updated_here f (Some (length vs)) r.seat f refl, sym (r.later f (inr (omega arith))).1))
    (at_new vs new u j h) in
    running items (vs ++ new ∷ []) pass e r.now seat q r.held known r.named r.flow
    (λ g h. let past : (g ≡ 0) ⊎ (d.made < g) = ⊎_elim (λ (t : g ≡ 0). inl t) (λ (t : d.made + 1 < g). inr (omega arith)) h in
    (updated_else f (Some (length vs)) r.seat g (⊎_elim (λ (t : g ≡ 0). λ (same : g ≡ f). omega arith) (λ (t : d.made + 1 < g). λ (same : g ≡ f). omega arith) h) ∙ (r.later g past).0, (r.later g past).1))
    (All-weaker (λ (i : Item). (1 ≤ feeder_of i) × (feeder_of i ≤ d.made)) (λ (i : Item). (1 ≤ feeder_of i) × (feeder_of i ≤ f)) (λ i h. (h.0, omega (arith, h.1))) (d.drawn ++ q) r.from)
    r.valid
    (All-weaker (λ (w : Feeding). (w.feeder ≤ d.made) × (r.seat w.feeder ≡ None) × (w ≡ r.now w.feeder)) (λ (w : Feeding). (w.feeder ≤ f) × (seat w.feeder ≡ None) × (w ≡ r.now w.feeder))
    (λ w h. (omega (arith, h.0), updated_else f (Some (length vs)) r.seat w.feeder (λ (same : w.feeder ≡ f). omega (arith, h.0)) ∙ h.1, h.2)) d.joined r.joined)

-- the list of new ends grows by the next one
pub new_feeds_push : (was now : TableId) (v : View) (z : Schema) (n : ℕ) (before after : List FeedState) (end : FeedState) → now ≡ was → v ≡ Draws (drawing z [] n []) → before ≡ new_feeds was z n → end ≡ feed_state was (known_schema v) (n + 1) [] false → after ≡ before ++ end ∷ [] → after ≡ new_feeds now z (n + 1)
new_feeds_push was now v z n before after end same knows so_far next pushed =
    pushed
    ∙ ap (λ (es : List FeedState). es ++ end ∷ []) so_far
    ∙ ap (λ (e : FeedState). new_feeds was z n ++ e ∷ []) next
    ∙ ap (λ (u : View). new_feeds was z n ++ feed_state was (known_schema u) (n + 1) [] false ∷ []) knows
    ∙ ap (new_feeds was z) (sym (add-one n))
    ∙ ap (λ (l : TableId). new_feeds l z (n + 1)) (sym same)
