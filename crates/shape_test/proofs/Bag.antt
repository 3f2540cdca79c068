-- The conditions give the shape of a cube of the slots' own bag, and any cube's shape gives the conditions.
use Rattle.std.proofs.Common.{◌≡◌, ◌⊎◌, inl, inr, ℕ, zero, suc, ◌<◌, ◌≤◌, Bool, true, false, cond, List, [], ◌∷◌, ◌++◌, length, map, Some, Contains, All, refl, sym, ap, ap₂, ◌∙◌, subst, arith}
use Rattle.std.proofs.lemmas.List.{nil_from_length, map-append}
use Rattle.std.specs.FinMap.{entries, len-entries, len-empty}
use Rattle.std.specs.Ordering.{nat_cmp}
use Rattle.std.proofs.lemmas.List.Elements.{All-nil, All-cons, All-head, All-tail, All-append, Contains-append_cases}
use Rattle.cube_view.specs.Walks.{down, across, Walk, SpotPath}
use Rattle.cube_view.proofs.FinerWalks.{under-some}
use Rattle.node_arena.specs.Amounts.{Weighted, spots_in, amount_under}
use Rattle.node_arena.specs.Shape.{home_of, HasShape}
use Rattle.node_arena.specs.Slots.{Slot, node, table, empty_node, slot_of, counts_of, IsTable}
use Rattle.shape_test.specs.Laws.{AllTablesCounted, TellsCube, TellsLocal}
use Rattle.shape_test.specs.Levels.{Levels, level_down, level_across, left, no_levels, label_counts, EndsWithTime}
use Rattle.shape_test.specs.Local.{IsLocal}
use Rattle.shape_test.specs.Wholes.{is_whole, paths_along, spot_at, rows_at, spelled_rows, spelled_bag, IsCubeOf}
use Rattle.shape_test.proofs.Core.{HasAmounts}
use Rattle.shape_test.proofs.ShapeConditions.{local_is_shape, shape_is_local}
use Rattle.shape_test.proofs.WholeAddresses.{IsWhole, joined, ListsRows}
use Rattle.shape_test.proofs.Local.{left_spot, levels_of, level_begun}
use Rattle.shape_test.proofs.BinRows.{whole_from_test, whole_test, labels_are, same_labels, table_rows, rows_at-paths}
use Rattle.shape_test.proofs.TimeAddresses.{time_of}

-- the first levels
first_left : (dims : ℕ) (levels : List ℕ) → EndsWithTime dims levels → (c : Levels) × (left levels [] ≡ Some c)
first_left dims [] T = let a = T.size in let b = T.some in absurd (omega (arith, a, b))
first_left dims (n ∷ levels) T = (record { rest = n; later = levels }, refl)

-- without lengths there are no paths
pub nothing_later : (xs : List (List ℕ)) → map (λ path. length path) xs ≡ [] → xs ≡ []
nothing_later [] x = refl
nothing_later (y ∷ xs) x = absurd cc

-- a node has no rows
no_rows : (q : SpotPath) (a : Walk) → Contains (spots_in (map (spot_at a) (entries (counts_of empty_node)))) q → ⊥
no_rows q a c = let d = subst (λ (es : List (ℕ × ℕ)). Contains (spots_in (map (spot_at a) es)) q) entries-empty c in omega (arith, d.1)
  where
    entries-empty : entries (counts_of empty_node) ≡ []
    entries-empty = nil_from_length (entries (counts_of empty_node)) (sym (len-entries (counts_of empty_node)) ∙ len-empty nat_cmp ℕ)

-- the labels of a whole address with nothing left are as many as the levels
lengths_along : (levels : List ℕ) (a : Walk) (path : List ℕ) (later : List (List ℕ)) → IsWhole levels a → left levels a ≡ Some (record { rest = length path; later = map (λ p. length p) later }) → map (λ p. length p) (paths_along a path later) ≡ levels
lengths_along levels [] path later w e = begins levels e
  where
    begins : (ls : List ℕ) → level_across ls ≡ Some (record { rest = length path; later = map (λ p. length p) later }) → length path ∷ map (λ p. length p) later ≡ ls
    begins [] x = absurd cc
    begins (n ∷ ls) x = let s : record { rest = n; later = ls } ≡ record { rest = length path; later = map (λ p. length p) later } = cc in sym (ap (λ (z : Levels). z.rest ∷ z.later) s)
lengths_along levels (down l ∷ a) path later w e = let b = level_begun (left levels a) (down l) _ e in lengths_along levels a (l ∷ path) later w (b.1 ∙ went b.0 b.2)
  where
    went : (b : Levels) → level_down b.rest b.later ≡ Some (record { rest = length path; later = map (λ p. length p) later }) → Some b ≡ Some (record { rest = suc (length path); later = map (λ p. length p) later })
    went b x = go b.rest refl x
      where
        go : (n : ℕ) → b.rest ≡ n → level_down n b.later ≡ Some (record { rest = length path; later = map (λ p. length p) later }) → Some b ≡ Some (record { rest = suc (length path); later = map (λ p. length p) later })
        go zero r y = absurd cc
        go (suc n) r y =
            let s : record { rest = n; later = b.later } ≡ record { rest = length path; later = map (λ p. length p) later } = cc in
            let f : b.rest ≡ suc (length path) = r ∙ ap (λ (z : Levels). suc z.rest) s in
            let g : b.later ≡ map (λ p. length p) later = ap (λ (z : Levels). z.later) s in
            ap₂ (λ (m : ℕ) (ls : List ℕ). Some (record { rest = m; later = ls })) f g
lengths_along levels (across ∷ a) path later w e = let b = level_begun (left levels a) across _ e in lengths_along levels a [] (path ∷ later) w.0 (w.2 ∙ ap (λ (ls : List ℕ). Some (record { rest = 0; later = ls })) (deeper b.0 b.1 b.2))
  where
    deeper : (b : Levels) → left levels a ≡ Some b → level_across b.later ≡ Some (record { rest = length path; later = map (λ p. length p) later }) → w.1 ≡ length path ∷ map (λ p. length p) later
    deeper b x y =
        let s : Some b ≡ Some (record { rest = 0; later = w.1 }) = sym x ∙ w.2 in
        let f : b ≡ record { rest = 0; later = w.1 } = cc in
        let g : b.later ≡ w.1 = ap (λ (z : Levels). z.later) f in
        sym g ∙ go b.later y
      where
        go : (ls : List ℕ) → level_across ls ≡ Some (record { rest = length path; later = map (λ p. length p) later }) → ls ≡ length path ∷ map (λ p. length p) later
        go [] z = absurd cc
        go (n ∷ ls) z = let t : record { rest = n; later = ls } ≡ record { rest = length path; later = map (λ p. length p) later } = cc in ap (λ (v : Levels). v.rest ∷ v.later) t

module _ (levels : List ℕ) (slots : List Slot) (homes : List Walk) where
  abbrev rows : ℕ → List Weighted
  rows i = rows_at levels (home_of homes i) (slot_of slots i)

  joined_rows : (n : ℕ) → joined rows n ≡ spelled_rows levels slots homes n
  joined_rows zero = refl
  joined_rows (suc n) = ap (λ (h : List Weighted). h ++ rows_at levels (home_of homes n) (slot_of slots n)) (joined_rows n)

  -- a spot of the rows is one of a slot
  spot_from : (n : ℕ) (q : SpotPath) → Contains (spots_in (joined rows n)) q → (i : ℕ) × (i < n) × Contains (spots_in (rows i)) q
  spot_from zero q c = absurd (omega (arith, c.1))
  spot_from (suc n) q c = go (Contains-append_cases (spots_in (joined rows n)) (spots_in (rows n)) q (subst (λ (qs : List SpotPath). Contains qs q) (map-append (λ (w : Weighted). w.spot) (joined rows n) (rows n)) c)) (λ d. spot_from n q d)
    where
      go : Contains (spots_in (joined rows n)) q ⊎ Contains (spots_in (rows n)) q → (Contains (spots_in (joined rows n)) q → (i : ℕ) × (i < n) × Contains (spots_in (rows i)) q) → (i : ℕ) × (i < suc n) × Contains (spots_in (rows i)) q
      go (inl d) rest = let r = rest d in (r.0, (let lt = r.1 in omega (arith, lt)), r.2)
      go (inr d) rest = (n, omega arith, d)

  pub spelled-spot : (n : ℕ) (q : SpotPath) → Contains (spots_in (spelled_rows levels slots homes n)) q → (i : ℕ) × (i < n) × Contains (spots_in (rows_at levels (home_of homes i) (slot_of slots i))) q
  spelled-spot n q c = spot_from n q (subst (λ (h : List Weighted). Contains (spots_in h) q) (sym (joined_rows n)) c)

  module _ (dims : ℕ) (T : EndsWithTime dims levels) (counted : AllTablesCounted slots) (L : IsLocal dims levels slots homes) where
    -- the labels of a whole table's home are as many as the levels
    home_lengths : (i : ℕ) → i < length slots → is_whole levels (home_of homes i) ≡ true → IsTable (slot_of slots i) → (q : SpotPath) → q.paths ≡ paths_along (home_of homes i) [] [] → label_counts q ≡ levels
    home_lengths i lt w t q e = ap (λ (z : List (List ℕ)). map (λ path. length path) z) e ∙ lengths_along levels (home_of homes i) [] [] (whole_from_test levels (home_of homes i) w) (L.at_time i lt t)

    -- a row's slot is a table
    has_rows : (i : ℕ) (q : SpotPath) → Contains (spots_in (rows i)) q → IsTable (slot_of slots i)
    has_rows i q c = go (is_whole levels (home_of homes i)) (slot_of slots i) c
      where
        go : (b : Bool) (s : Slot) → Contains (spots_in (cond b (map (spot_at (home_of homes i)) (entries (counts_of s))) [])) q → IsTable s
        go true (table counts) d = refl
        go true (node children content) d = absurd (no_rows q (home_of homes i) d)
        go false s d = absurd (omega (arith, d.1))

    lists : ListsRows levels slots homes rows
    lists = record {
      counts = λ i bin lt t w.
          let yes : is_whole levels (home_of homes i) ≡ true = whole_test levels (home_of homes i) w in
          table_rows levels (home_of homes i) (counts_of (slot_of slots i)) bin
          ∙ ap (λ (b : Bool). amount_under (cond b (map (spot_at (home_of homes i)) (entries (counts_of (slot_of slots i)))) []) (home_of homes i) bin) (sym yes);
      own = λ i q lt c a w at u.
          let p = rows_at-paths levels (home_of homes i) (slot_of slots i) q c in
          let s = under-some q a u in
          let len = home_lengths i lt p.0 (has_rows i q c) q p.1 in
          let e : Some (levels_of s.0) ≡ Some no_levels = sym (ap (λ (z : List ℕ). left z a) (sym len) ∙ left_spot q a s.0 s.1) ∙ at in
          let f : levels_of s.0 ≡ no_levels = cc in
          let none : s.0.rest ≡ [] = nil_from_length s.0.rest (ap (λ (z : Levels). z.rest) f) in
          let nolater : s.0.later ≡ [] = nothing_later s.0.later (ap (λ (z : Levels). z.later) f) in
          same_labels a (home_of homes i) (sym (ap₂ (paths_along a) none nolater) ∙ (sym (labels_are levels q a s.0 len w s.1) ∙ p.1));
    }

    amounts_at : (i : ℕ) → i < length slots → HasAmounts (rows i)
    amounts_at i lt = go (is_whole levels (home_of homes i))
      where
        each : (es : List (ℕ × ℕ)) → All (λ (n : ℕ). 0 < n) (map (λ (e : ℕ × ℕ). e.1) es) → HasAmounts (map (spot_at (home_of homes i)) es)
        each [] A = All-nil (λ (w : Weighted). 0 < w.amount)
        each (e ∷ es) A = All-cons (λ (w : Weighted). 0 < w.amount) (spot_at (home_of homes i) e) (map (spot_at (home_of homes i)) es) (All-head (λ (n : ℕ). 0 < n) e.1 (map (λ (e : ℕ × ℕ). e.1) es) A) (each es (All-tail (λ (n : ℕ). 0 < n) e.1 (map (λ (e : ℕ × ℕ). e.1) es) A))

        go : (b : Bool) → HasAmounts (cond b (map (spot_at (home_of homes i)) (entries (counts_of (slot_of slots i)))) [])
        go true = each (entries (counts_of (slot_of slots i))) (counted i empty_node lt)
        go false = All-nil (λ (w : Weighted). 0 < w.amount)

    amounts : (n : ℕ) → n ≤ length slots → HasAmounts (joined rows n)
    amounts zero le = All-nil (λ (w : Weighted). 0 < w.amount)
    amounts (suc n) le = All-append (λ (w : Weighted). 0 < w.amount) (joined rows n) (rows n) (amounts n (omega arith)) (amounts_at n (omega arith))

    lengths_all : (q : SpotPath) → Contains (spots_in (joined rows (length slots))) q → label_counts q ≡ levels
    lengths_all q c =
        let s = spot_from (length slots) q c in
        let p = rows_at-paths levels (home_of homes s.0) (slot_of slots s.0) q s.2 in
        home_lengths s.0 s.1 p.0 (has_rows s.0 q s.2) q p.1

    own_cube : IsCubeOf dims levels slots homes (spelled_bag levels slots homes)
    own_cube =
        let f = first_left dims levels T in
        let S = local_is_shape dims levels f.0 f.1 (time_of dims levels T) slots homes L rows lists (amounts (length slots) (omega arith)) lengths_all T.size in
        let same = joined_rows (length slots) in
        record {
          shape = subst (HasShape dims slots homes) same S;
          lengths = λ q c. lengths_all q (subst (λ (h : List Weighted). Contains (spots_in h) q) (sym same) c);
          amounts = subst HasAmounts same (amounts (length slots) (omega arith));
        }

pub tells_cube : TellsCube
tells_cube dims levels slots homes T counted L = own_cube levels slots homes dims T counted L

pub tells_local : TellsLocal
tells_local dims levels slots homes h T rising C =
    let f = first_left dims levels T in
    shape_is_local dims levels f.0 f.1 (time_of dims levels T) slots homes h C.shape C.amounts C.lengths rising
