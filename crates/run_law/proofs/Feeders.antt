-- What feeders have sent, where one of them sends an item.
use Rattle.std.proofs.Common.{◌≡◌, ◌≢◌, ℕ, ◌-◌, ◌≤◌, List, [], ◌++◌, length, set, Some, refl, sym, ap, ◌∙◌, subst, arith, ⊎_elim}
use Rattle.std.specs.Prelude.{slice_get}
use Rattle.std.specs.Option.{option_map}
use Rattle.std.proofs.Math.Seq.{map-set_same}
use Rattle.std.proofs.lemmas.Bool.{cases_eq}
use Rattle.std.proofs.lemmas.List.{append-nil, length-map, length-set, get_or-set_same, get_or-set_other, map-set}
use Rattle.std.proofs.lemmas.Option.{get_or_from_slice_get, slice_get_within, slice_get-map}
use Rattle.cube_view.specs.Points.{Point}
use Rattle.feed_queue.specs.Ends.{FeedState, sent_lists}
use Rattle.world_core.specs.Interleaving.{list_of}
use Rattle.world_core.specs.PairFact.{IsPrefix}

abbrev pub points_of : FeedState → List Point
points_of end = end.points

-- a list of lists, one of which is replaced
pub set_own : (lists : List (List Point)) (f : ℕ) (points : List Point) → 1 ≤ f → f ≤ length lists → list_of (set lists (f - 1) points) f ≡ points
set_own lists f points low high = get_or-set_same lists (f - 1) points [] (omega (arith, low, high))

pub set_other : (lists : List (List Point)) (f g : ℕ) (points : List Point) → 1 ≤ f → 1 ≤ g → f ≢ g → list_of (set lists (f - 1) points) g ≡ list_of lists g
set_other lists f g points low low_g apart = get_or-set_other lists (f - 1) (g - 1) points [] (λ (e : g - 1 ≡ f - 1). apart (omega (arith, e, low, low_g)))

-- what holds of the feeder that sends, and of each other
pub each_feeder : (P : ℕ → Type 0) (f : ℕ) → P f → ((g : ℕ) → f ≢ g → P g) → (g : ℕ) → P g
each_feeder P f own other g = ⊎_elim (λ (e : f ≡ g). subst P e own) (λ (apart : f ≢ g). other g apart) (cases_eq f g)

-- of feeders of which f has this end
module _ (feeds : List FeedState) (f : ℕ) (end after : FeedState) (at : slice_get feeds (f - 1) ≡ Some end) (low : 1 ≤ f) where
  pub feeder_high : f ≤ length feeds
  feeder_high = let h = slice_get_within feeds (f - 1) end at in omega (arith, h, low)

  pub sent_at : list_of (sent_lists feeds) f ≡ end.points
  sent_at = get_or_from_slice_get (sent_lists feeds) (f - 1) end.points [] (slice_get-map points_of feeds (f - 1) ∙ ap (option_map points_of) at)

  -- where its end becomes another, so does what it has sent
  pub sent_set : sent_lists (set feeds (f - 1) after) ≡ set (sent_lists feeds) (f - 1) after.points
  sent_set = map-set points_of feeds (f - 1) after

  pub sent_own : list_of (sent_lists (set feeds (f - 1) after)) f ≡ after.points
  sent_own =
      let l = length-map feeds points_of in
      let h = feeder_high in
      ap (λ (lists : List (List Point)). list_of lists f) sent_set ∙ set_own (sent_lists feeds) f after.points low (omega (arith, l, h))

  pub sent_other : (g : ℕ) → 1 ≤ g → f ≢ g → list_of (sent_lists (set feeds (f - 1) after)) g ≡ list_of (sent_lists feeds) g
  sent_other g low_g apart = ap (λ (lists : List (List Point)). list_of lists g) sent_set ∙ set_other (sent_lists feeds) f g after.points low low_g apart

  pub sent_same : after.points ≡ end.points → sent_lists (set feeds (f - 1) after) ≡ sent_lists feeds
  sent_same same = map-set_same points_of feeds (f - 1) after end (same ∙ ap points_of (sym (get_or_from_slice_get feeds (f - 1) end end at)))

-- What feeders have sent once they have sent perhaps more
pub record SendsOn (feeds later : List FeedState) : Type 0 where
  pub count : length later ≡ length feeds
  pub each : (f : ℕ) → 1 ≤ f → f ≤ length feeds → IsPrefix (list_of (sent_lists feeds) f) (list_of (sent_lists later) f)

pub SendsOn-none : (feeds later : List FeedState) → later ≡ feeds → SendsOn feeds later
SendsOn-none feeds later same = subst (SendsOn feeds) (sym same) (record { count = refl; each = λ f low high. ([], sym (append-nil (list_of (sent_lists feeds) f))) })

pub SendsOn-one : (feeds : List FeedState) (f : ℕ) (end after : FeedState) (more : List Point) → slice_get feeds (f - 1) ≡ Some end → 1 ≤ f → after.points ≡ end.points ++ more → SendsOn feeds (set feeds (f - 1) after)
SendsOn-one feeds f end after more at low gains = record {
  count = length-set feeds (f - 1) after;
  each = λ g low_g high. each_feeder (λ g. 1 ≤ g → IsPrefix (list_of (sent_lists feeds) g) (list_of (sent_lists (set feeds (f - 1) after)) g)) f
      (λ l. (more, sent_own feeds f end after at low ∙ gains ∙ ap (λ (points : List Point). points ++ more) (sym (sent_at feeds f end after at low))))
      (λ g apart l. ([], sent_other feeds f end after at low g l apart ∙ sym (append-nil (list_of (sent_lists feeds) g))))
      g low_g;
}
