-- Slots that count records of a schema fit it, with as many points.
use Rattle.std.proofs.Common.{◌≡◌, ◌⊎◌, inl, inr, ℕ, zero, suc, ◌<◌, ◌≤◌, Bool, true, false, cond, ◌&&◌, eqb, eqb-true, nat_cmp, IsTrue, List, [], ◌∷◌, length, map, Option, None, Contains, All, sum_by, refl, sym, ap, ◌∙◌, subst, arith}
use Rattle.std.specs.FinMap.{empty, entries, len-entries, len-empty}
use Rattle.std.proofs.lemmas.Bool.{and_parts}
use Rattle.std.proofs.lemmas.List.Elements.{All-nil, All-cons, All-head, All-tail}
use Rattle.std.proofs.lemmas.List.Sums.{sum_by-cons, sum_by-append}
use Rattle.cube_view.specs.Bag.{most_points}
use Rattle.cube_view.specs.Places.{time_dim}
use Rattle.cube_view.specs.Points.{Point, spot_of, weight_of_point, heaviest}
use Rattle.cube_view.specs.Validity.{sound, weight_is_told, valid}
use Rattle.cube_view.specs.Walks.{Walk, SpotPath, under}
use Rattle.cube_view.specs.declared.schema.Schema.{Schema}
use Rattle.cube_view.proofs.FinerWalks.{Contains-cases}
use Rattle.cube_view.proofs.PointWeights.{sound-fits, sound-weighs, sound-light}
use Rattle.time_table.specs.Counts.{BinCounts, AllCounted, count_of}
use Rattle.time_table.proofs.KeySums.{nothing}
use Rattle.node_arena.specs.Amounts.{Weighted, spots_in, amount_under}
use Rattle.node_arena.specs.Shape.{home_of}
use Rattle.node_arena.specs.Slots.{Slot, node, table, empty_node, is_table, slot_of, counts_of, count}
use Rattle.node_arena.specs.Stats.{AllRising}
use Rattle.proper_path.specs.Paths.{point_path, paths_of}
use Rattle.cube_store.specs.Counted.{CountsPoints}
use Rattle.shape_test.specs.Laws.{AllTablesCounted}
use Rattle.shape_test.specs.Levels.{label_counts}
use Rattle.shape_test.specs.Local.{IsLocal}
use Rattle.shape_test.specs.Wholes.{is_whole, spot_at, rows_at, spelled_rows}
use Rattle.shape_test.specs.Fits.{IsSchemaCube, Fits, slots_bag, bag_sum, least_points, least_size}
use Rattle.shape_test.specs.Labels.{schema_levels, paths_fit}
use Rattle.shape_test.proofs.SchemaConditions.{ends_with_time, cube_is_local, owns_bag}
use Rattle.shape_test.proofs.PathSpots.{HasSpotOf}
use Rattle.image_cube.proofs.ListShares.{sum_upto, upto-le, upto-same, part, part-none, parted}
use Rattle.image_cube.proofs.PointPaths.{path-levels, path-labels}
use Rattle.image_cube.proofs.RowAmounts.{rows-sum, rows-least}
use Rattle.image_cube.proofs.WholeHomes.{lies_at, all-placed}

module _ (schema : Schema) where
  -- a spot that is counted is that of a point
  spot-from : (h : List Point) → All (λ p. IsTrue (sound schema p)) h → All (λ p. length (spot_of p).values ≡ 4) h → (q : SpotPath) → Contains (spots_in (paths_of schema h)) q → HasSpotOf schema q
  spot-from [] S F q c = absurd (omega (arith, c.1))
  spot-from (p ∷ h) S F q c =
      go (Contains-cases (spots_in (paths_of schema h)) (point_path schema p).spot q c) (λ d. spot-from h (All-tail (λ p. IsTrue (sound schema p)) p h S) (All-tail (λ p. length (spot_of p).values ≡ 4) p h F) q d)
    where
      go : ((point_path schema p).spot ≡ q) ⊎ Contains (spots_in (paths_of schema h)) q → (Contains (spots_in (paths_of schema h)) q → HasSpotOf schema q) → HasSpotOf schema q
      go (inl e) rest = record { spot = spot_of p; is = e; fit = sound-fits schema p (All-head (λ p. IsTrue (sound schema p)) p h S); four = All-head (λ p. length (spot_of p).values ≡ 4) p h F }
      go (inr d) rest = rest d

  each-amount : (P : ℕ → Type 0) → ((p : Point) → IsTrue (sound schema p) → P (weight_of_point p)) → (h : List Point) → All (λ p. IsTrue (sound schema p)) h → All (λ (w : Weighted). P w.amount) (paths_of schema h)
  each-amount P f [] S = All-nil (λ (w : Weighted). P w.amount)
  each-amount P f (p ∷ h) S = All-cons (λ (w : Weighted). P w.amount) (point_path schema p) (paths_of schema h) (f p (All-head (λ p. IsTrue (sound schema p)) p h S)) (each-amount P f h (All-tail (λ p. IsTrue (sound schema p)) p h S))

  -- points weigh at least as much as there are
  number-le : (h : List Point) → All (λ p. IsTrue (sound schema p)) h → length h ≤ bag_sum (paths_of schema h)
  number-le [] S = omega arith
  number-le (p ∷ h) S =
      let c = sum_by-cons (λ (w : Weighted). w.amount) (point_path schema p) (paths_of schema h) in
      let o = sound-weighs schema p (All-head (λ p. IsTrue (sound schema p)) p h S) in
      let r = number-le h (All-tail (λ p. IsTrue (sound schema p)) p h S) in
      omega (arith, c, o, r)

  -- without a weight column just so much
  number-same : (h : List Point) → schema.weight ≡ None → All (λ p. IsTrue (valid schema p)) h → length h ≡ bag_sum (paths_of schema h)
  number-same [] n V = refl
  number-same (p ∷ h) n V =
      let c = sum_by-cons (λ (w : Weighted). w.amount) (point_path schema p) (paths_of schema h) in
      let told = (and_parts (sound schema p) (weight_is_told schema.weight (weight_of_point p)) (All-head (λ p. IsTrue (valid schema p)) p h V)).1 in
      let test : eqb (weight_of_point p) 1 ≡ true = sym (ap (λ (o : Option (List ℕ)). weight_is_told o (weight_of_point p)) n) ∙ told in
      let o = eqb-true (weight_of_point p) 1 test in
      let r = number-same h n (All-tail (λ p. IsTrue (valid schema p)) p h V) in
      omega (arith, c, o, r)

  ones : (h : List Point) → sum_by (λ (w : Weighted). 1) (paths_of schema h) ≡ length h
  ones [] = refl
  ones (p ∷ h) = let c = sum_by-cons (λ (w : Weighted). 1) (point_path schema p) (paths_of schema h) in let r = ones h in omega (arith, c, r)

no-entries : entries (empty {K = ℕ} {X = ℕ} {R = nat_cmp}) ≡ []
no-entries = nothing (entries (empty {K = ℕ} {X = ℕ} {R = nat_cmp})) (sym (len-entries (empty {K = ℕ} {X = ℕ} {R = nat_cmp})) ∙ len-empty nat_cmp ℕ)

-- sums over the bag of slots, slot by slot
spelled-sum : (g : Weighted → ℕ) (levels : List ℕ) (slots : List Slot) (homes : List Walk) (n : ℕ) → sum_by g (spelled_rows levels slots homes n) ≡ sum_upto (λ i. sum_by g (rows_at levels (home_of homes i) (slot_of slots i))) n
spelled-sum g levels slots homes zero = refl
spelled-sum g levels slots homes (suc n) =
    let a = sum_by-append g (spelled_rows levels slots homes n) (rows_at levels (home_of homes n) (slot_of slots n)) in
    let r = spelled-sum g levels slots homes n in
    omega (arith, a, r)

module _ (schema : Schema) (slots : List Slot) (size : ℕ) (h : List Point) (C : CountsPoints schema slots 0 size h) (R : AllRising slots) (A : AllTablesCounted slots) where
  abbrev all : List Weighted
  all = paths_of schema h

  spots : (q : SpotPath) → Contains (spots_in all) q → HasSpotOf schema q
  spots q c = spot-from schema h C.all_sound C.all_four q c

  lengths : (q : SpotPath) → Contains (spots_in all) q → label_counts q ≡ schema_levels schema
  lengths q c = let s = spots q c in ap label_counts (sym s.is) ∙ path-levels schema s.spot

  some : All (λ (w : Weighted). 0 < w.amount) all
  some = each-amount schema (λ n. 0 < n) (λ p s. sound-weighs schema p s) h C.all_sound

  light : All (λ (w : Weighted). w.amount ≤ heaviest) all
  light = each-amount schema (λ n. n ≤ heaviest) (λ p s. sound-light schema p s) h C.all_sound

  -- they are a cube of the schema
  pub schema-cube : IsSchemaCube schema slots C.homes all
  schema-cube = record {
    cube = record { shape = C.shape; lengths = lengths; amounts = some };
    labels = λ q c. let s = spots q c in ap (λ (p : SpotPath). paths_fit schema 1 p.paths) (sym s.is) ∙ path-labels schema s.spot s.fit s.four;
  }

  module _ (i : ℕ) (lt : i < length slots) where
    counted-at : (counts : BinCounts) → slot_of slots i ≡ table counts → AllCounted counts
    counted-at counts x = subst (λ (s : Slot). AllCounted (counts_of s)) x (A i empty_node lt)

    same-at : (counts : BinCounts) → slot_of slots i ≡ table counts → (bin : ℕ) → count_of counts bin ≡ amount_under all (home_of C.homes i) bin
    same-at counts x bin = ap (λ (s : Slot). count s bin) (sym x) ∙ C.shape.counted.counts i bin lt (ap is_table x)

    slot-sum : bag_sum (rows_at (schema_levels schema) (home_of C.homes i) (slot_of slots i)) ≡ part (lies_at (schema_levels schema) slots C.homes i) (λ (w : Weighted). w.amount) all
    slot-sum = go (is_whole (schema_levels schema) (home_of C.homes i)) (slot_of slots i) refl
      where
        go : (b : Bool) (s : Slot) → slot_of slots i ≡ s → bag_sum (cond b (map (spot_at (home_of C.homes i)) (entries (counts_of s))) []) ≡ part (λ (w : Weighted). b && (is_table s && under w.spot (home_of C.homes i))) (λ (w : Weighted). w.amount) all
        go false s x = sym (part-none (λ (w : Weighted). false) (λ (w : Weighted). w.amount) all (λ w. refl))
        go true (node cs content) x = ap (λ (es : List (ℕ × ℕ)). bag_sum (map (spot_at (home_of C.homes i)) es)) no-entries ∙ sym (part-none (λ (w : Weighted). false) (λ (w : Weighted). w.amount) all (λ w. refl))
        go true (table counts) x = rows-sum (home_of C.homes i) all counts (counted-at counts x) some (same-at counts x)

    slot-least : least_size (rows_at (schema_levels schema) (home_of C.homes i) (slot_of slots i)) ≤ part (lies_at (schema_levels schema) slots C.homes i) (λ (w : Weighted). 1) all
    slot-least = go (is_whole (schema_levels schema) (home_of C.homes i)) (slot_of slots i) refl
      where
        go : (b : Bool) (s : Slot) → slot_of slots i ≡ s → least_size (cond b (map (spot_at (home_of C.homes i)) (entries (counts_of s))) []) ≤ part (λ (w : Weighted). b && (is_table s && under w.spot (home_of C.homes i))) (λ (w : Weighted). 1) all
        go false s x = omega arith
        go true (node cs content) x = let z : least_size (map (spot_at (home_of C.homes i)) (entries (counts_of (node cs content)))) ≡ 0 = ap (λ (es : List (ℕ × ℕ)). least_size (map (spot_at (home_of C.homes i)) es)) no-entries in omega (arith, z)
        go true (table counts) x = rows-least (home_of C.homes i) all counts (counted-at counts x) some (same-at counts x) light

  local : IsLocal (time_dim schema) (schema_levels schema) slots C.homes
  local = (cube_is_local schema slots C.homes all R schema-cube).local

  shared-out : (g : Weighted → ℕ) → sum_upto (λ i. part (lies_at (schema_levels schema) slots C.homes i) g all) (length slots) ≡ sum_by g all
  shared-out g = parted (lies_at (schema_levels schema) slots C.homes) g (length slots) all (all-placed (time_dim schema) (schema_levels schema) slots C.homes all (ends_with_time schema) C.shape local lengths)

  bag-sum : bag_sum (slots_bag schema slots C.homes) ≡ bag_sum all
  bag-sum =
      spelled-sum (λ (w : Weighted). w.amount) (schema_levels schema) slots C.homes (length slots)
      ∙ (upto-same (λ i. bag_sum (rows_at (schema_levels schema) (home_of C.homes i) (slot_of slots i))) (λ i. part (lies_at (schema_levels schema) slots C.homes i) (λ (w : Weighted). w.amount) all) (length slots) slot-sum
      ∙ shared-out (λ (w : Weighted). w.amount))

  bag-least : least_size (slots_bag schema slots C.homes) ≤ length h
  bag-least =
      let s = spelled-sum (λ (w : Weighted). least_points w.amount) (schema_levels schema) slots C.homes (length slots) in
      let l = upto-le (λ i. least_size (rows_at (schema_levels schema) (home_of C.homes i) (slot_of slots i))) (λ i. part (lies_at (schema_levels schema) slots C.homes i) (λ (w : Weighted). 1) all) (length slots) slot-least in
      let o = shared-out (λ (w : Weighted). 1) in
      let n = ones schema h in
      omega (arith, s, l, o, n)

  -- SLOTS THAT COUNT RECORDS OF THE SCHEMA FIT IT
  pub counted-fits : size ≤ most_points → All (λ p. IsTrue (valid schema p)) h → Fits schema slots size
  counted-fits few V = record {
    homes = C.homes;
    cube = owns_bag schema slots C.homes all A R schema-cube;
    sized = record {
      most = let n = number-le schema h C.all_sound in let b = bag-sum in let s = C.number in omega (arith, n, b, s);
      least = let l = bag-least in let s = C.number in omega (arith, l, s);
      few = few;
      unweighted = λ none. let n = number-same schema h none V in let b = bag-sum in let s = C.number in omega (arith, n, b, s);
    };
  }
