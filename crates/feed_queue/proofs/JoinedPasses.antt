-- A feeder's pass that comes back keeps the rule, which then tells that all was drawn.
use Rattle.std.proofs.Common.{◌≡◌, ◌≢◌, ℕ, ◌≤◌, ⊎_elim, true, List, [], ◌∷◌, ◌++◌, All, length, Option, Some, None, set, sym, refl, ap, ◌∙◌, subst}
use Rattle.std.proofs.Math.Seq.{take-append_seam}
use Rattle.std.proofs.lemmas.List.Elements.{All-push, All-take, All-weaker}
use mathlib.Core.Option.{some}
use lib.ListN.{get_elem?}
use Rattle.crossbeam_queue.specs.Fifo.{Merges, Learns}
use Rattle.crossbeam_queue.proofs.Lists.{at_set}
use Rattle.feed_queue.specs.declared.item.Item.{Item}
use Rattle.feed_queue.specs.declared.line.Feeding.{Feeding}
use Rattle.feed_queue.specs.declared.line.Drawing.{Drawing}
use Rattle.feed_queue.specs.declared.line.View.{View}
use Rattle.feed_queue.specs.declared.line.View.TheVariants.{Draws, Feeds, Spent}
use Rattle.feed_queue.specs.Items.{feeder_of, items_of, has_end}
use Rattle.feed_queue.specs.Rule.{stream, IsKnown, KeepsLane}
use Rattle.feed_queue.specs.Steps.{drawing, joined_with, Settles}
use Rattle.feed_queue.proofs.ItemOrder.{all_drawn}
use Rattle.feed_queue.proofs.Updates.{updated, updated_here, updated_else, updated_cases}
use Rattle.feed_queue.proofs.LaneViews.{running, draws_at, same_seat, moved, numbered_off}

pub none_stays : (f : ℕ) (seat : ℕ → Option ℕ) (g : ℕ) → seat g ≡ None → updated f None seat g ≡ None
none_stays f seat = updated_cases (λ (g : ℕ) (o : Option ℕ). seat g ≡ None → o ≡ None) f None seat (λ h. refl) (λ g ne h. h)

-- a feeder's pass comes back
pub joins : (pass : ℕ) (d : Drawing) (other : ℕ) (w : Feeding) → Merges KeepsLane pass (Draws d) other (Feeds w) (joined_with (Draws d) (Feeds w)) Spent
joins pass d other w items views k at two at' =
    let q = (draws_at items views pass d k at).0 in
    let r = (draws_at items views pass d k at).1 in
    let e : Drawing = drawing d.schema d.drawn d.made (d.joined ++ w ∷ []) in
    let f : ℕ = w.feeder in
    let vs : List View = set views pass (Draws e) in
    let was : get_elem? views other ≡ some (Feeds w) = ⊎_elim (λ (t : (other ≡ pass) × (Draws e ≡ Feeds w)). absurd (two t.0)) (λ (t : (other ≢ pass) × (get_elem? views other ≡ some (Feeds w))). t.1) (at_set views pass other (Draws e) (Feeds w) at') in
    let here : (r.seat f ≡ Some other) × (w ≡ r.now f) = r.known other (Feeds w) was in
    let seat : ℕ → Option ℕ = updated f None r.seat in
    let off : (1 ≤ f) × (f ≤ d.made) = numbered_off r.seat r.now d.schema d.made f other r.later here.0 in
    let old : (j : ℕ) (v : View) → j ≢ other → get_elem? vs j ≡ some v → IsKnown pass e r.now seat j v = λ j v ne h.
    ⊎_elim (λ (t : (j ≡ pass) × (Draws e ≡ v)). subst (λ (y : ℕ × View). IsKnown pass e r.now seat y.0 y.1) (λ i. (sym t.0 i, t.1 i)) (refl, refl))
    (λ (t : (j ≢ pass) × (get_elem? views j ≡ some v)). moved pass d e r.now r.now r.seat seat j v (λ same. absurd (t.0 same))
    (λ x h. (updated_else f None r.seat x.feeder (λ (same : x.feeder ≡ f). ne (same_seat (r.seat f) j other (subst (λ (y : ℕ). r.seat y ≡ Some j) same h) here.0)) ∙ h, refl))
    (r.known j v t.1))
    (at_set views pass j (Draws e) v h) in
    let known : (j : ℕ) (v : View) → get_elem? (set vs other Spent) j ≡ some v → IsKnown pass e r.now seat j v = λ j v h.
    ⊎_elim (λ (t : (j ≡ other) × (Spent ≡ v)). subst (λ (y : View). IsKnown pass e r.now seat j y) t.1 tt)
    (λ (t : (j ≢ other) × (get_elem? vs j ≡ some v)). old j v t.0 t.1)
    (at_set vs other j Spent v h) in
    running items (set vs other Spent) pass e r.now seat q r.held known r.named r.flow
    (λ g h. (none_stays f r.seat g (r.later g h).0, (r.later g h).1))
    r.from r.valid
    (All-push (λ (x : Feeding). (x.feeder ≤ d.made) × (seat x.feeder ≡ None) × (x ≡ r.now x.feeder)) d.joined w
    (All-weaker (λ (x : Feeding). (x.feeder ≤ d.made) × (r.seat x.feeder ≡ None) × (x ≡ r.now x.feeder)) (λ (x : Feeding). (x.feeder ≤ d.made) × (seat x.feeder ≡ None) × (x ≡ r.now x.feeder))
    (λ x h. (h.0, none_stays f r.seat x.feeder h.1, h.2)) d.joined r.joined)
    (off.1, updated_here f None r.seat f refl, here.1))

-- what is learned at the end
pub settles : (pass : ℕ) (d : Drawing) → Learns KeepsLane pass (Draws d) (λ items. Settles (Draws d))
settles pass d items views k at =
    let q = (draws_at items views pass d k at).0 in
    let r = (draws_at items views pass d k at).1 in
    record {
      from = subst (All (λ (i : Item). (1 ≤ feeder_of i) × (feeder_of i ≤ d.made))) (take-append_seam d.drawn q) (All-take (λ (i : Item). (1 ≤ feeder_of i) × (feeder_of i ≤ d.made)) (length d.drawn) (d.drawn ++ q) r.from);
      whole = All-weaker (λ (w : Feeding). (w.feeder ≤ d.made) × (r.seat w.feeder ≡ None) × (w ≡ r.now w.feeder)) (λ (w : Feeding). has_end w.feeder d.drawn ≡ true → items_of w.feeder d.drawn ≡ stream w)
          (λ w h ended. all_drawn d.drawn q w.feeder w.points w.ended (r.flow w.feeder ∙ ap stream (sym h.2)) ended) d.joined r.joined;
    }
