-- No table of slots that fit a schema counts more records than one can hold.
use Rattle.std.proofs.Common.{◌≡◌, ◌≢◌, ◌⊎◌, inl, inr, ℕ, ◌+◌, ◌*◌, ◌<◌, ◌≤◌, ◌^◌, ◌&&◌, Bool, true, false, cond, eqb, List, [], ◌∷◌, All, length, sum_by, refl, sym, ap, ◌∙◌, subst, arith}
use Rattle.std.proofs.lemmas.Bool.Decides.{eqb_tells}
use Rattle.std.proofs.lemmas.List.Elements.{All-nil, All-cons, All-head, All-tail, All-get_or}
use Rattle.std.proofs.lemmas.List.Sums.{sum_by-cons}
use Rattle.cube_view.specs.Points.{heaviest}
use Rattle.cube_view.specs.Walks.{Walk, under}
use Rattle.time_table.specs.Counts.{BinCounts, AllCounted, count_of, total_count, amount_at}
use Rattle.time_table.proofs.AddLaws.{total_count-empty}
use Rattle.time_table.proofs.CountLaws.{total_count-same}
use Rattle.node_arena.specs.Amounts.{Weighted, amount_under}
use Rattle.node_arena.specs.Shape.{home_of, CountsSpots}
use Rattle.node_arena.specs.Slots.{Slot, node, table, empty_node, is_table, slot_of, counts_of, count}
use Rattle.shape_test.proofs.Core.{amount-cons}
use Rattle.shape_test.specs.Fits.{bag_sum, least_points, least_size, slots_bag}
use Rattle.shape_test.specs.Sizes.{TellsLight}

-- the amounts of the spots under an address, each with its bin
abbrev bins_under : Walk → List Weighted → List (ℕ × ℕ)
bins_under a [] = []
bins_under a (w ∷ h) = cond (under w.spot a) ((w.spot.bin, w.amount) ∷ bins_under a h) (bins_under a h)

either_way : (m n k : ℕ) → cond (eqb m n) k 0 ≡ cond (eqb n m) k 0
either_way m n k = go (eqb_tells m n) (eqb_tells n m)
  where
    go : ((eqb m n ≡ true) × (m ≡ n)) ⊎ ((eqb m n ≡ false) × (m ≢ n)) → ((eqb n m ≡ true) × (n ≡ m)) ⊎ ((eqb n m ≡ false) × (n ≢ m)) → cond (eqb m n) k 0 ≡ cond (eqb n m) k 0
    go (inl x) (inl y) = ap (λ (b : Bool). cond b k 0) (x.0 ∙ sym y.0)
    go (inl x) (inr y) = absurd (y.1 (sym x.1))
    go (inr x) (inl y) = absurd (x.1 (sym y.1))
    go (inr x) (inr y) = ap (λ (b : Bool). cond b k 0) (x.0 ∙ sym y.0)

-- what lies under the address in a bin is what they come to there
under_bins : (a : Walk) (h : List Weighted) (bin : ℕ) → amount_under h a bin ≡ amount_at bin (bins_under a h)
under_bins a [] bin = refl
under_bins a (w ∷ h) bin = go (under w.spot a) (amount-cons w h a bin) (under_bins a h bin)
  where
    go : (u : Bool) → amount_under (w ∷ h) a bin ≡ cond {A = ℕ} (u && eqb w.spot.bin bin) w.amount 0 + amount_under h a bin → amount_under h a bin ≡ amount_at bin (bins_under a h) → amount_under (w ∷ h) a bin ≡ amount_at bin (cond u ((w.spot.bin, w.amount) ∷ bins_under a h) (bins_under a h))
    go true e r =
        let s = sum_by-cons (λ (b : ℕ × ℕ). cond {A = ℕ} (eqb bin b.0) b.1 0) (w.spot.bin, w.amount) (bins_under a h) in
        let f = either_way w.spot.bin bin w.amount in
        omega (arith, e, r, s, f)
    go false e r = omega (arith, e, r)

some_bins : (a : Walk) (h : List Weighted) → All (λ (w : Weighted). 0 < w.amount) h → All (λ (b : ℕ × ℕ). 0 < b.1) (bins_under a h)
some_bins a [] A = All-nil (λ (b : ℕ × ℕ). 0 < b.1)
some_bins a (w ∷ h) A = go (under w.spot a) (some_bins a h (All-tail (λ (w : Weighted). 0 < w.amount) w h A))
  where
    go : (u : Bool) → All (λ (b : ℕ × ℕ). 0 < b.1) (bins_under a h) → All (λ (b : ℕ × ℕ). 0 < b.1) (cond u ((w.spot.bin, w.amount) ∷ bins_under a h) (bins_under a h))
    go true r = All-cons (λ (b : ℕ × ℕ). 0 < b.1) (w.spot.bin, w.amount) (bins_under a h) (All-head (λ (w : Weighted). 0 < w.amount) w h A) r
    go false r = r

-- together they are at most the whole
bins_less : (a : Walk) (h : List Weighted) → sum_by (λ (b : ℕ × ℕ). b.1) (bins_under a h) ≤ bag_sum h
bins_less a [] = omega arith
bins_less a (w ∷ h) = go (under w.spot a) (sum_by-cons (λ (w : Weighted). w.amount) w h) (bins_less a h)
  where
    go : (u : Bool) → bag_sum (w ∷ h) ≡ w.amount + bag_sum h → sum_by (λ (b : ℕ × ℕ). b.1) (bins_under a h) ≤ bag_sum h → sum_by (λ (b : ℕ × ℕ). b.1) (cond u ((w.spot.bin, w.amount) ∷ bins_under a h) (bins_under a h)) ≤ bag_sum (w ∷ h)
    go true e r = let s = sum_by-cons (λ (b : ℕ × ℕ). b.1) (w.spot.bin, w.amount) (bins_under a h) in omega (arith, e, r, s)
    go false e r = omega (arith, e, r)

-- so many points weigh no more than so many of the heaviest
points_weigh : (n : ℕ) → n ≤ least_points n * heaviest
points_weigh n = omega arith

bag_weighs : (h : List Weighted) → bag_sum h ≤ least_size h * heaviest
bag_weighs [] = omega arith
bag_weighs (w ∷ h) =
    let s = sum_by-cons (λ (w : Weighted). w.amount) w h in
    let t = sum_by-cons (λ (w : Weighted). least_points w.amount) w h in
    let p = points_weigh w.amount in
    let r = bag_weighs h in
    omega (arith, s, t, p, r)

-- a table of a cube's spots counts no more than they weigh together
table_light : (slots : List Slot) (homes : List Walk) (h : List Weighted) (i : ℕ) (counts : BinCounts) → CountsSpots slots homes h → All (λ (w : Weighted). 0 < w.amount) h → AllCounted counts → i < length slots → slot_of slots i ≡ table counts → total_count counts ≤ bag_sum h
table_light slots homes h i counts C A some l e =
    let same : (bin : ℕ) → count_of counts bin ≡ amount_at bin (bins_under (home_of homes i) h) = λ bin. ap (λ (s : Slot). count s bin) (sym e) ∙ (C.counts i bin l (ap is_table e) ∙ under_bins (home_of homes i) h bin) in
    let t = total_count-same counts (bins_under (home_of homes i) h) some (some_bins (home_of homes i) h A) same in
    let b = bins_less (home_of homes i) h in
    omega (arith, t, b)

pub tells_light : TellsLight
tells_light schema slots size counted F i l = go (slot_of slots i) refl
  where
    go : (s : Slot) → slot_of slots i ≡ s → total_count (counts_of (slot_of slots i)) ≤ 2 ^ 63
    go (node children content) e = let z = total_count-empty in let t = ap (λ (s : Slot). total_count (counts_of s)) e in omega (arith, z, t)
    go (table counts) e =
        let h = slots_bag schema slots F.homes in
        let some = subst (λ (s : Slot). AllCounted (counts_of s)) e (All-get_or (λ (s : Slot). AllCounted (counts_of s)) slots i empty_node l counted) in
        let t = table_light slots F.homes h i counts F.cube.cube.shape.shaped.counted F.cube.cube.amounts some l e in
        let b = bag_weighs h in
        let m = F.sized.least in
        let n = F.sized.few in
        let c = ap (λ (s : Slot). total_count (counts_of s)) e in
        omega (arith, t, b, m, n, c)
