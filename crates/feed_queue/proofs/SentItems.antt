-- An item that is sent keeps the rule.
use Rattle.std.proofs.Common.{◌≡◌, ◌≢◌, ℕ, ◌+◌, ◌≤◌, ⊎_elim, false, IsTrue, List, [], ◌∷◌, ◌++◌, All, Some, None, length, set, sym, refl, ap, ◌∙◌, subst, append_assoc, arith}
use Rattle.std.proofs.lemmas.List.{append-nil, map-append}
use Rattle.std.proofs.lemmas.List.Elements.{All-push, All-weaker}
use mathlib.Core.Option.{some}
use lib.ListN.{get_elem?}
use Rattle.crossbeam_queue.specs.Fifo.{Pushes}
use Rattle.crossbeam_queue.proofs.Lists.{at_set}
use Rattle.world_core.specs.declared.entry.Entry.{Entry}
use Rattle.cube_view.specs.declared.schema.Schema.{Schema}
use Rattle.world_core.specs.Interleaving.{entry}
use Rattle.feed_queue.specs.declared.item.Item.{Item}
use Rattle.feed_queue.specs.declared.item.Item.TheVariants.{One, End}
use Rattle.feed_queue.specs.declared.item.Slot.TheVariants.{Carries}
use Rattle.feed_queue.specs.declared.line.Feeding.{Feeding}
use Rattle.feed_queue.specs.declared.line.Drawing.{Drawing}
use Rattle.feed_queue.specs.declared.line.View.{View}
use Rattle.feed_queue.specs.declared.line.View.TheVariants.{Feeds}
use Rattle.feed_queue.specs.Items.{feeder_of, items_of, valid_item, stream_from}
use Rattle.feed_queue.specs.Rule.{stream, IsKnown, KeepsLane}
use Rattle.feed_queue.specs.Steps.{feeding_after}
use Rattle.feed_queue.proofs.ItemOrder.{items_append, stream_more, stream_end, own_item, other_item}
use Rattle.feed_queue.proofs.Updates.{updated, updated_here, updated_else, updated_cases}
use Rattle.feed_queue.proofs.LaneViews.{running, feeds_run, runs_at, some_not_none, same_seat, moved, numbered_off}

pub sent_schema : (w : Feeding) (i : Item) → (feeding_after w i).schema ≡ w.schema
sent_schema w (One e) = refl
sent_schema w (End f n) = refl

pub sent_feeder : (w : Feeding) (i : Item) → (feeding_after w i).feeder ≡ w.feeder
sent_feeder w (One e) = refl
sent_feeder w (End f n) = refl

-- an item is sent
pub sends : (n pass : ℕ) (w : Feeding) (i : Item) → feeder_of i ≡ w.feeder → IsTrue (valid_item w.schema i) → stream (feeding_after w i) ≡ stream w ++ i ∷ []
    → Pushes KeepsLane n pass (Feeds w) (Carries i) (λ v. v ≡ Feeds (feeding_after w i))
sends n pass w i mine fit more items views room k at =
    let s = feeds_run items views pass w k at in
    let d : Drawing = s.drawing in
    let r = runs_at items views s in
    let q : List Item = s.queue in
    let u : Feeding = feeding_after w i in
    let f : ℕ = w.feeder in
    let here : (r.seat f ≡ Some pass) × (w ≡ r.now f) = r.known pass (Feeds w) at in
    let now : ℕ → Feeding = updated f u r.now in
    let vs : List View = set views pass (Feeds u) in
    let schema : w.schema ≡ d.schema = ap (λ (x : Feeding). x.schema) here.1 ∙ (r.named f).1 in
    let fits : IsKnown s.drawer d now r.seat pass (Feeds u) =
    (ap r.seat (sent_feeder w i) ∙ here.0, sym (updated_here f u r.now u.feeder (sent_feeder w i))) in
    let known : (j : ℕ) (v : View) → get_elem? vs j ≡ some v → IsKnown s.drawer d now r.seat j v = λ j v h.
    ⊎_elim (λ (t : (j ≡ pass) × (Feeds u ≡ v)). subst (λ (x : ℕ × View). IsKnown s.drawer d now r.seat x.0 x.1) (λ i. (sym t.0 i, t.1 i)) fits)
    (λ (t : (j ≢ pass) × (get_elem? views j ≡ some v)). moved s.drawer d d r.now now r.seat r.seat j v (λ same. refl)
    (λ x h. (h, sym (updated_else f u r.now x.feeder (λ (same : x.feeder ≡ f). t.0 (same_seat (r.seat f) j pass (subst (λ (y : ℕ). r.seat y ≡ Some j) same h) here.0)))))
    (r.known j v t.1))
    (at_set views pass j (Feeds u) v h) in
    let longer : (g : ℕ) → items_of g (d.drawn ++ (q ++ i ∷ [])) ≡ items_of g (d.drawn ++ q) ++ items_of g (i ∷ []) = λ g.
    ap (items_of g) (sym (append_assoc d.drawn q (i ∷ []))) ∙ items_append g (d.drawn ++ q) (i ∷ []) in
    let flow : (g : ℕ) → items_of g (d.drawn ++ (q ++ i ∷ [])) ≡ stream (now g) =
    updated_cases (λ (g : ℕ) (x : Feeding). items_of g (d.drawn ++ (q ++ i ∷ [])) ≡ stream x) f u r.now
    (longer f ∙ ap (λ l. l ++ items_of f (i ∷ [])) (r.flow f ∙ ap stream (sym here.1)) ∙ ap (λ l. stream w ++ l) (own_item f i mine) ∙ sym more)
    (λ g ne. longer g ∙ ap (λ l. items_of g (d.drawn ++ q) ++ l) (other_item g i (λ (same : feeder_of i ≡ g). ne (sym same ∙ mine))) ∙ append-nil (items_of g (d.drawn ++ q)) ∙ r.flow g) in
    let off : (1 ≤ f) × (f ≤ d.made) = numbered_off r.seat r.now d.schema d.made f pass r.later here.0 in (
      Feeds u,
      running (items ++ Carries i ∷ []) vs s.drawer d now r.seat (q ++ i ∷ [])
          (ap (λ l. l ++ Carries i ∷ []) r.held ∙ sym (map-append Carries q (i ∷ [])))
          known
          (updated_cases (λ (g : ℕ) (x : Feeding). (x.feeder ≡ g) × (x.schema ≡ d.schema)) f u r.now (sent_feeder w i, sent_schema w i ∙ schema) (λ g ne. r.named g))
          flow
          (λ g h. let none = r.later g h in (none.0, updated_else f u r.now g (λ (same : g ≡ f). some_not_none pass (r.seat f) here.0 (subst (λ (y : ℕ). r.seat y ≡ None) same none.0)) ∙ none.1))
          (subst (All (λ (x : Item). (1 ≤ feeder_of x) × (feeder_of x ≤ d.made))) (append_assoc d.drawn q (i ∷ []))
          (All-push (λ (x : Item). (1 ≤ feeder_of x) × (feeder_of x ≤ d.made)) (d.drawn ++ q) i r.from (subst (λ (y : ℕ). (1 ≤ y) × (y ≤ d.made)) (sym mine) off)))
          (subst (All (λ (x : Item). IsTrue (valid_item d.schema x))) (append_assoc d.drawn q (i ∷ []))
          (All-push (λ (x : Item). IsTrue (valid_item d.schema x)) (d.drawn ++ q) i r.valid (subst (λ (z : Schema). IsTrue (valid_item z i)) schema fit)))
          (All-weaker (λ (x : Feeding). (x.feeder ≤ d.made) × (r.seat x.feeder ≡ None) × (x ≡ r.now x.feeder)) (λ (x : Feeding). (x.feeder ≤ d.made) × (r.seat x.feeder ≡ None) × (x ≡ now x.feeder))
          (λ x h. (h.0, h.1, h.2 ∙ sym (updated_else f u r.now x.feeder (λ (same : x.feeder ≡ f). some_not_none pass (r.seat f) here.0 (subst (λ (y : ℕ). r.seat y ≡ None) same h.1))))) d.joined r.joined),
      refl,
    )

-- an entry that has the feeder's number, and an End that has its count, go on the stream
pub entry_on : (w : Feeding) (x : Entry) → w.ended ≡ false → x.feeder ≡ w.feeder → x.number ≡ length w.points → stream (feeding_after w (One x)) ≡ stream w ++ One x ∷ []
entry_on w x open_ mine number =
    let is : entry w.feeder (0 + length w.points) x.point ≡ x = λ i. record { feeder = sym mine i; number = (let e : 0 + length w.points ≡ x.number = omega (arith, number) in e) i; point = x.point } in
    ap (λ b. stream_from w.feeder 0 (w.points ++ x.point ∷ []) b) open_ ∙ stream_more w.feeder 0 w.points x.point
    ∙ ap (λ b. stream_from w.feeder 0 w.points b ++ One (entry w.feeder (0 + length w.points) x.point) ∷ []) (sym open_)
    ∙ ap (λ y. stream w ++ One y ∷ []) is

pub end_on : (w : Feeding) (f n : ℕ) → w.ended ≡ false → f ≡ w.feeder → n ≡ length w.points → stream (feeding_after w (End f n)) ≡ stream w ++ End f n ∷ []
end_on w f n open_ mine count =
    let e : 0 + length w.points ≡ n = omega (arith, count) in
    stream_end w.feeder 0 w.points ∙ ap (λ b. stream_from w.feeder 0 w.points b ++ End w.feeder (0 + length w.points) ∷ []) (sym open_)
    ∙ (λ i. stream w ++ End (sym mine i) (e i) ∷ [])
