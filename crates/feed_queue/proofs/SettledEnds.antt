-- What was drawn, and what the ends that finished have sent.
use Rattle.std.proofs.Common.{◌≡◌, ◌≢◌, ℕ, ◌+◌, ◌≤◌, ⊎_elim, eqb, eq-eqb, Bool, true, false, true≢false, cond, List, [], ◌∷◌, All, map, length, sym, refl, ap, ◌∙◌, subst, arith}
use Rattle.std.proofs.lemmas.List.Elements.{All-cons, All-tail}
use Rattle.std.proofs.lemmas.Bool.Decides.{eqb_tells}
use Rattle.world_core.specs.declared.entry.Entry.{Entry}
use Rattle.cube_view.specs.Points.{Point}
use Rattle.world_core.specs.Interleaving.{entry, IsInterleaving}
use Rattle.feed_queue.specs.declared.item.Item.{Item}
use Rattle.feed_queue.specs.declared.item.Item.TheVariants.{One, End}
use Rattle.feed_queue.specs.declared.line.Feeding.{Feeding}
use Rattle.feed_queue.specs.declared.line.Drawing.{Drawing}
use Rattle.feed_queue.specs.Items.{feeder_of, items_of, entries_in, has_end, stream_from}
use Rattle.feed_queue.specs.Rule.{stream}
use Rattle.feed_queue.specs.declared.line.View.{View}
use Rattle.feed_queue.specs.declared.line.View.TheVariants.{Draws}
use Rattle.feed_queue.specs.Steps.{IsSettled, Settles, drawing}
use Rattle.feed_queue.specs.Ends.{FeedState, DrawState, sent_by, is_among, TellsCount}
use Rattle.feed_queue.specs.Passes.{feeding_of, all_joined}
use Rattle.feed_queue.proofs.ItemOrder.{entries_items, entries_stream, entries_all}

abbrev Whole : List Item → Feeding → Type 0
Whole drawn w = has_end w.feeder drawn ≡ true → items_of w.feeder drawn ≡ stream w

-- of a feeder among them all was drawn
whole_of : (drawn : List Item) (f : ℕ) (es : List FeedState) → has_end f drawn ≡ true → All (Whole drawn) (map feeding_of es) → is_among es f ≡ true → (b : Bool) × (items_of f drawn ≡ stream_from f 0 (sent_by es f) b)
whole_of drawn f [] ended all among = absurd (true≢false (sym among))
whole_of drawn f (e ∷ es) ended all among = ⊎_elim
    (λ (t : (eqb e.feeder f ≡ true) × (e.feeder ≡ f)). (
      e.ended,
      ap (λ g. items_of g drawn) (sym t.1) ∙ all 0 (feeding_of e) (omega arith) (subst (λ (g : ℕ). has_end g drawn ≡ true) (sym t.1) ended)
          ∙ ap (λ g. stream_from g 0 e.points e.ended) t.1 ∙ ap (λ c. stream_from f 0 (cond c e.points (sent_by es f)) e.ended) (sym t.0),
    ))
    (λ (t : (eqb e.feeder f ≡ false) × (e.feeder ≢ f)).
    let r = whole_of drawn f es ended (All-tail (Whole drawn) (feeding_of e) (map feeding_of es) all) (ap (λ c. cond c true (is_among es f)) (sym t.0) ∙ among) in
    (r.0, r.1 ∙ ap (λ c. stream_from f 0 (cond c e.points (sent_by es f)) r.0) (sym t.0)))
    (eqb_tells e.feeder f)

past : (P : Item → Type 0) (i : Item) (is : List Item) (b : Bool) → All P (cond b (i ∷ is) is) → All P is
past P i is true h = All-tail P i is h
past P i is false h = h

by_feeder : (P : Item → Type 0) (ok : ℕ → Type 0) (is : List Item) → ((f : ℕ) → ok f → All P (items_of f is)) → All (λ (i : Item). ok (feeder_of i)) is → All P is
by_feeder P ok [] h known = λ k d less. absurd (omega arith)
by_feeder P ok (i ∷ is) h known =
    let f : ℕ = feeder_of i in
    let mine : All P (i ∷ items_of f is) = subst (λ (b : Bool). All P (cond b (i ∷ items_of f is) (items_of f is))) (eq-eqb f f refl) (h f (known 0 i (omega arith))) in
    All-cons P i is (mine 0 i (omega arith)) (by_feeder P ok is (λ g fine. past P i (items_of g is) (eqb f g) (h g fine)) (All-tail (λ (x : Item). ok (feeder_of x)) i is known))

counted : (lists : ℕ → List Point) (f n : ℕ) (ps : List Point) (b : Bool) → length (lists f) ≡ n + length ps → All (TellsCount lists) (stream_from f n ps b)
counted lists f n [] true e = All-cons (TellsCount lists) (End f n) [] (omega arith) (λ k d less. absurd (omega arith))
counted lists f n [] false e = λ k d less. absurd (omega arith)
counted lists f n (p ∷ ps) b e = All-cons (TellsCount lists) (One (entry f n p)) (stream_from f (n + 1) ps b) tt (counted lists f (n + 1) ps b (omega arith))

module _ (d : Drawing) (es : List FeedState) (s : IsSettled d) (is : d.joined ≡ map feeding_of es) (each : (f : ℕ) → 1 ≤ f → f ≤ d.made → is_among es f ≡ true) (ends : (f : ℕ) → 1 ≤ f → f ≤ d.made → has_end f d.drawn ≡ true) where
  -- what was drawn of a feeder that is among them is all that it has sent
  drawn_whole : (f : ℕ) → 1 ≤ f → f ≤ d.made → (b : Bool) × (items_of f d.drawn ≡ stream_from f 0 (sent_by es f) b)
  drawn_whole f low high = whole_of d.drawn f es (ends f low high) (subst (All (Whole d.drawn)) is s.whole) (each f low high)

  interleaves : IsInterleaving d.made (sent_by es) (entries_in d.drawn)
  interleaves = record {
    known = entries_all (λ f. (1 ≤ f) × (f ≤ d.made)) d.drawn s.from;
    each = λ f low high. let r = drawn_whole f low high in entries_items f d.drawn ∙ ap entries_in r.1 ∙ entries_stream f 0 (sent_by es f) r.0;
  }

  counts : All (TellsCount (sent_by es)) d.drawn
  counts = by_feeder (TellsCount (sent_by es)) (λ f. (1 ≤ f) × (f ≤ d.made)) d.drawn
      (λ f (ok : (1 ≤ f) × (f ≤ d.made)).
      let r = drawn_whole f ok.0 ok.1 in
      subst (All (TellsCount (sent_by es))) (sym r.1) (counted (sent_by es) f 0 (sent_by es f) r.0 (omega arith)))
      s.from

module _ (v w : View) (d : DrawState) (es : List FeedState) (e : v ≡ Draws (drawing d.schema d.drawn d.feeders [])) (f : w ≡ all_joined v es) (s : Settles w) (each : (f : ℕ) → 1 ≤ f → f ≤ d.feeders → is_among es f ≡ true) (ends : (f : ℕ) → 1 ≤ f → f ≤ d.feeders → has_end f d.drawn ≡ true) where
  abbrev drawing_end : Drawing
  drawing_end = drawing d.schema d.drawn d.feeders (map feeding_of es)

  settled : IsSettled drawing_end
  settled = subst Settles (f ∙ ap (λ (u : View). all_joined u es) e) s

  pub settled_interleaves : (out : List Entry) → out ≡ entries_in d.drawn → IsInterleaving d.feeders (sent_by es) out
  settled_interleaves out is = subst (IsInterleaving d.feeders (sent_by es)) (sym is) (interleaves drawing_end es settled refl each ends)

  pub settled_counts : All (TellsCount (sent_by es)) d.drawn
  settled_counts = counts drawing_end es settled refl each ends
