-- What a journal weighs in all: the total of any of its entries' points fits a number of 64 bits.
use Rattle.std.proofs.Common.{ℕ, ◌+◌, ◌-◌, ◌*◌, ◌<◌, ◌≤◌, ◌^◌, IsTrue, List, [], ◌++◌, All, length, sym, subst, ap, arith, append_assoc}
use Rattle.std.specs.List.{range_with_len}
use Rattle.std.proofs.lemmas.Bool.{and_parts}
use Rattle.std.proofs.lemmas.List.Elements.{All-weaker}
use Rattle.std.proofs.lemmas.List.FromFn.{length-range_with_len, get_or-range_with_len}
use Rattle.std.proofs.lemmas.List.Sums.{sum_by-le}
use Rattle.cube_view.specs.Bag.{amount, anywhere}
use Rattle.cube_view.specs.Points.{Point, weight_of_point}
use Rattle.cube_view.specs.Validity.{sound, valid, weight_is_told}
use Rattle.cube_view.specs.declared.schema.Schema.{Schema}
use Rattle.cube_view.proofs.Amounts.{amount-take}
use Rattle.cube_view.proofs.PointWeights.{amount-most}
use Rattle.world_core.specs.Interleaving.{entry_points, list_of, IsInterleaving, sum_of_feeders}
use Rattle.world_core.specs.Worlds.{pushed_of, KeepsOrder}
use Rattle.world_core.specs.declared.world.World.{World}
use Rattle.world_core.proofs.Interleavings.{prefixes_interleave, amounts_interleave}
use Rattle.world_core.proofs.Prefixes.{IsPrefix-take, IsPrefix-then}

-- a sum over the feeders is at most so often the most of one
sum_of_feeders-most : (feeders most : ℕ) (n : ℕ → ℕ) → ((f : ℕ) → 1 ≤ f → f ≤ feeders → n f ≤ most) → sum_of_feeders feeders n ≤ feeders * most
sum_of_feeders-most feeders most n each =
    let size = length-range_with_len 1 feeders in
    let all : All (λ f. n f ≤ most) (range_with_len 1 feeders) = λ i d lt.
    let k : i < feeders = omega (arith, lt, size) in
    subst (λ f. n f ≤ most) (sym (get_or-range_with_len 1 feeders i d k)) (each (1 + i) (omega arith) (omega (arith, k))) in
    let sum = sum_by-le n most (range_with_len 1 feeders) all in
    subst (λ k. sum_of_feeders feeders n ≤ k * most) size sum

valid-sound : (schema : Schema) (p : Point) → IsTrue (valid schema p) → IsTrue (sound schema p)
valid-sound schema p is = (and_parts (sound schema p) (weight_is_told schema.weight (weight_of_point p)) is).0

module _ (schema : Schema) (feeds : List (List Point)) (sessions : ℕ) (w : World) (few : length feeds ≤ 8) (short : All (λ feed. length feed < 2 ^ 32) feeds) (are_valid : All (All (λ p. IsTrue (valid schema p))) feeds) (keeps : KeepsOrder feeds sessions w) where
  feed_light : (f : ℕ) → 1 ≤ f → f ≤ length feeds → amount anywhere (list_of feeds f) ≤ 2 ^ 60
  feed_light f low high =
      let lt : f - 1 < length feeds = omega (arith, low, high) in
      let size = short (f - 1) [] lt in
      let points = All-weaker (λ p. IsTrue (valid schema p)) (λ p. IsTrue (sound schema p)) (valid-sound schema) (list_of feeds f) (are_valid (f - 1) [] lt) in
      let most = amount-most schema (list_of feeds f) points in
      omega (arith, size, most)

  -- the points of the journal weigh less than 2^64 in all
  pub journal_light : amount anywhere (entry_points w.journal) < 2 ^ 64
  journal_light =
      let all : IsInterleaving (length feeds) (pushed_of feeds w) (w.journal ++ (w.pending ++ w.queue)) = subst (IsInterleaving (length feeds) (pushed_of feeds w)) (append_assoc w.journal w.pending w.queue) keeps.lane in
      let front = prefixes_interleave (length feeds) (pushed_of feeds w) w.journal (w.pending ++ w.queue) all in
      let fronts = front.0 in
      let sum = amounts_interleave (length feeds) fronts w.journal front.1 anywhere in
      let each : (f : ℕ) → 1 ≤ f → f ≤ length feeds → amount anywhere (fronts f) ≤ 2 ^ 60 = λ f low high.
      let feed = list_of feeds f in
      let is = IsPrefix-take (fronts f) feed (IsPrefix-then (fronts f) (pushed_of feeds w f) feed (front.2 f low high) (list_of w.rest f, keeps.rest f low high)) in
      let part = amount-take anywhere feed (length (fronts f)) in
      let same = ap (amount anywhere) is in
      let whole = feed_light f low high in
      omega (arith, part, same, whole) in
      let most = sum_of_feeders-most (length feeds) (2 ^ 60) (λ f. amount anywhere (fronts f)) each in
      omega (arith, sum, most, few)
