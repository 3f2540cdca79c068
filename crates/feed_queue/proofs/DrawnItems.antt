-- An item that is drawn keeps the rule.
use Rattle.std.proofs.Common.{◌≡◌, ◌≢◌, ℕ, ◌≤◌, ⊎_elim, IsTrue, List, [], ◌∷◌, ◌++◌, All, length, map, set, sym, refl, ap, ◌∙◌, subst, append_assoc}
use Rattle.std.proofs.Math.Seq.{take-append_seam}
use Rattle.std.proofs.lemmas.List.Elements.{All-take}
use mathlib.Core.Option.{some}
use lib.ListN.{get_elem?}
use Rattle.crossbeam_queue.specs.Fifo.{Pops}
use Rattle.crossbeam_queue.proofs.Lists.{at_set}
use Rattle.feed_queue.specs.declared.item.Item.{Item}
use Rattle.feed_queue.specs.declared.item.Slot.{Slot}
use Rattle.feed_queue.specs.declared.item.Slot.TheVariants.{Carries}
use Rattle.feed_queue.specs.declared.line.Drawing.{Drawing}
use Rattle.feed_queue.specs.declared.line.View.{View}
use Rattle.feed_queue.specs.declared.line.View.TheVariants.{Draws}
use Rattle.feed_queue.specs.Items.{feeder_of, items_of, valid_item, stream_from}
use Rattle.feed_queue.specs.Rule.{IsKnown, KeepsLane}
use Rattle.feed_queue.specs.Steps.{drawing_after, IsDraw}
use Rattle.feed_queue.proofs.ItemOrder.{next_in, drawn_ordered}
use Rattle.world_core.proofs.Lists.{All-middle, cons-parts}
use Rattle.feed_queue.proofs.LaneViews.{running, RunsAt, draws_at, moved}

pub draws_from : (x : Slot) (items : List Slot) (views : List View) (pass : ℕ) (d : Drawing) (q : List Item) → RunsAt (x ∷ items) views pass d q → (w : View) × KeepsLane items (set views pass w) × IsDraw (Draws d) x w
draws_from x items views pass d [] r = absurd (let e : x ∷ items ≡ [] = r.held in cc)
draws_from x items views pass d (i ∷ q) r =
    let is : (x ≡ Carries i) × (items ≡ map Carries q) = cons-parts x (Carries i) items (map Carries q) r.held in
    let e : Drawing = drawing_after d i in
    let f : ℕ = feeder_of i in
    let same : d.drawn ++ i ∷ q ≡ (d.drawn ++ i ∷ []) ++ q = sym (append_assoc d.drawn (i ∷ []) q) in
    let known : (j : ℕ) (v : View) → get_elem? (set views pass (Draws e)) j ≡ some v → IsKnown pass e r.now r.seat j v = λ j v h.
    ⊎_elim (λ (t : (j ≡ pass) × (Draws e ≡ v)). subst (λ (y : ℕ × View). IsKnown pass e r.now r.seat y.0 y.1) (λ i. (sym t.0 i, t.1 i)) (refl, refl))
    (λ (t : (j ≢ pass) × (get_elem? views j ≡ some v)). moved pass d e r.now r.now r.seat r.seat j v (λ same. absurd (t.0 same)) (λ y h. (h, refl)) (r.known j v t.1))
    (at_set views pass j (Draws e) v h) in (
      Draws e,
      running items (set views pass (Draws e)) pass e r.now r.seat q is.1 known r.named
          (λ g. ap (items_of g) (sym same) ∙ r.flow g)
          r.later
          (subst (All (λ (y : Item). (1 ≤ feeder_of y) × (feeder_of y ≤ d.made))) same r.from)
          (subst (All (λ (y : Item). IsTrue (valid_item d.schema y))) same r.valid)
          r.joined,
      subst (λ (y : Slot). IsDraw (Draws d) y (Draws e)) (sym is.0) (
        refl,
        record {
          from = All-middle (λ (y : Item). (1 ≤ feeder_of y) × (feeder_of y ≤ d.made)) d.drawn i q r.from;
          valid = All-middle (λ (y : Item). IsTrue (valid_item d.schema y)) d.drawn i q r.valid;
          all_from = subst (All (λ (y : Item). (1 ≤ feeder_of y) × (feeder_of y ≤ d.made))) (take-append_seam (d.drawn ++ i ∷ []) q) (All-take (λ (y : Item). (1 ≤ feeder_of y) × (feeder_of y ≤ d.made)) (length (d.drawn ++ i ∷ [])) ((d.drawn ++ i ∷ []) ++ q) (subst (All (λ (y : Item). (1 ≤ feeder_of y) × (feeder_of y ≤ d.made))) same r.from));
          all_valid = subst (All (λ (y : Item). IsTrue (valid_item d.schema y))) (take-append_seam (d.drawn ++ i ∷ []) q) (All-take (λ (y : Item). IsTrue (valid_item d.schema y)) (length (d.drawn ++ i ∷ [])) ((d.drawn ++ i ∷ []) ++ q) (subst (All (λ (y : Item). IsTrue (valid_item d.schema y))) same r.valid));
          all_ordered = λ g. drawn_ordered (d.drawn ++ i ∷ []) q g (r.now g).feeder (r.now g).points (r.now g).ended (ap (items_of g) (sym same) ∙ r.flow g);
          next = next_in d.drawn q i f (r.now f).points (r.now f).ended refl (r.flow f ∙ ap (λ g. stream_from g 0 (r.now f).points (r.now f).ended) (r.named f).0);
        },
      ),
    )

-- an item is drawn
pub draws : (pass : ℕ) (d : Drawing) → Pops KeepsLane pass (Draws d) (IsDraw (Draws d))
draws pass d x items views k at = let r = draws_at (x ∷ items) views pass d k at in draws_from x items views pass d r.0 r.1
