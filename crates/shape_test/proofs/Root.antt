-- The root tells for the rows of the tables at whole addresses.
use Rattle.std.proofs.Common.{◌≡◌, ◌⊎◌, inl, inr, ℕ, zero, suc, ◌+◌, ◌<◌, ◌≤◌, Bool, true, List, [], ◌∷◌, length, Option, Some, None, refl, sym, ap, ◌∙◌, subst, arith, true≢false}
use Rattle.std.proofs.lemmas.List.Sums.{sum_by-append}
use Rattle.std.proofs.lemmas.Bool.{cases_eq, cases_lt}
use Rattle.cube_view.specs.Walks.{down, across, Walk, Finer, top, by_down, by_across, longer, dimension}
use Rattle.node_arena.specs.Amounts.{Weighted, amount_under}
use Rattle.node_arena.specs.Reach.{count_reached}
use Rattle.node_arena.specs.Shape.{home_of}
use Rattle.node_arena.specs.Slots.{Slot, slot_of, IsTable, walk_end}
use Rattle.node_arena.proofs.Walks.{walk-lt, walk_coarser, walk_home}
use Rattle.shape_test.specs.Levels.{Levels, level_step, then_level, left}
use Rattle.shape_test.specs.Local.{IsLocal}
use Rattle.shape_test.specs.Ways.{Way, along, IsFinest}
use Rattle.shape_test.proofs.WholeAddresses.{IsWhole, joined, ListsRows}
use Rattle.shape_test.proofs.LocalOfShape.{found_along, left_along}
use Rattle.shape_test.proofs.Core.{Tells, one_under, absent}
use Rattle.shape_test.proofs.Local.{level_begun}

-- a finest way leads to a whole address
pub along_whole : (levels : List ℕ) (a : Walk) (n : ℕ) (later : List ℕ) (way : Way) → IsWhole levels a → left levels a ≡ Some (record { rest = n; later = later }) → IsFinest n later way → IsWhole levels (along a way)
along_whole levels a n later [] w at f = w
along_whole levels a n later (down l ∷ way) w at f =
    along_whole levels (down l ∷ a) f.0 later way w (ap (λ (o : Option Levels). then_level o (down l)) at ∙ ap (λ (x : ℕ). level_step (down l) (record { rest = x; later = later })) f.1) f.2
along_whole levels a n later (across ∷ way) w at f =
    along_whole levels (across ∷ a) f.0 f.1 way (w, later, at ∙ ap (λ (x : ℕ). Some (record { rest = x; later = later })) f.2) (ap (λ (o : Option Levels). then_level o across) at ∙ ap (λ (x : List ℕ). level_step across (record { rest = n; later = x })) f.3) f.4

-- nothing is finer than a whole address but itself
pub finer_whole : {loose : Bool} {a b : Walk} (levels : List ℕ) → Finer loose a b → IsWhole levels a → (c d : Levels) → left levels a ≡ Some c → left levels b ≡ Some d → (loose ≡ true → c.rest ≡ 0) → a ≡ b
finer_whole levels top w c d x y z = refl
finer_whole levels (by_down {l = l} {a = a} {b = b} f) w c d x y z =
    let s = level_begun (left levels a) (down l) c x in let t = level_begun (left levels b) (down l) d y in
    ap (λ v. down l ∷ v) (finer_whole levels f w s.0 t.0 s.1 t.1 (λ e. absurd (true≢false (sym e))))
finer_whole levels (by_across {a = a} {b = b} f) w c d x y z =
    let t = level_begun (left levels b) across d y in
    ap (λ v. across ∷ v) (finer_whole levels f w.0 (record { rest = 0; later = w.1 }) t.0 w.2 t.1 (λ e. refl))
finer_whole {a = a} levels (longer {l = l} {b = b} f) w c d x y z =
    let t = level_begun (left levels b) (down l) d y in
    let same : a ≡ b = finer_whole levels f w c t.0 x t.1 z in
    let e : Some c ≡ Some t.0 = sym x ∙ (ap (left levels) same ∙ t.1) in
    let g : c ≡ t.0 = cc in
    let none : None ≡ Some d = ap (λ (n : ℕ). level_step (down l) (record { rest = n; later = t.0.later })) (sym (z refl) ∙ ap (λ (v : Levels). v.rest) g) ∙ t.2 in
    absurd cc

-- counts of joined lists
count_joined : (rows : ℕ → List Weighted) (a : Walk) (bin : ℕ) (n : ℕ) → amount_under (joined rows (suc n)) a bin ≡ amount_under (joined rows n) a bin + amount_under (rows n) a bin
count_joined rows a bin n = sum_by-append (λ x. one_under x a bin) (joined rows n) (rows n)

joined_none : (rows : ℕ → List Weighted) (a : Walk) (bin : ℕ) (n : ℕ) → ((i : ℕ) → i < n → amount_under (rows i) a bin ≡ 0) → amount_under (joined rows n) a bin ≡ 0
joined_none rows a bin zero z = refl
joined_none rows a bin (suc n) z =
    let s = count_joined rows a bin n in let r = joined_none rows a bin n (λ i l. z i (omega arith)) in let o = z n (omega arith) in omega (arith, s, r, o)

joined_one : (rows : ℕ → List Weighted) (a : Walk) (bin t : ℕ) (n : ℕ) → t < n → ((i : ℕ) → i < n → (i ≡ t → ⊥) → amount_under (rows i) a bin ≡ 0) → amount_under (joined rows n) a bin ≡ amount_under (rows t) a bin
joined_one rows a bin t zero l z = absurd (omega (arith, l))
joined_one rows a bin t (suc n) l z = go (cases_eq n t) (λ less. joined_one rows a bin t n less (λ i k ne. z i (omega arith) ne))
  where
    go : (n ≡ t) ⊎ (n ≡ t → ⊥) → (t < n → amount_under (joined rows n) a bin ≡ amount_under (rows t) a bin) → amount_under (joined rows (suc n)) a bin ≡ amount_under (rows t) a bin
    go (inl e) rest =
        let s = count_joined rows a bin n in
        let r = joined_none rows a bin n (λ i k. z i (omega arith) (λ x. omega (arith, x, e, k))) in
        let o : amount_under (rows n) a bin ≡ amount_under (rows t) a bin = ap (λ (i : ℕ). amount_under (rows i) a bin) e in
        omega (arith, s, r, o)
    go (inr ne) rest =
        let less : t < n = before ne in
        let s = count_joined rows a bin n in let r = rest less in let o = z n (omega arith) ne in omega (arith, s, r, o)
      where
        before : (n ≡ t → ⊥) → t < n
        before ne = pick (cases_lt t n)
          where
            pick : (t < n) ⊎ (n ≤ t) → t < n
            pick (inl x) = x
            pick (inr x) = absurd (ne (omega (arith, x, l)))

module _ (dims : ℕ) (levels : List ℕ) (slots : List Slot) (homes : List Walk) (L : IsLocal dims levels slots homes) (ends : (a : Walk) → left levels a ≡ Some (record { rest = 0; later = [] }) → dimension a ≡ dims) (rows : ℕ → List Weighted) (R : ListsRows levels slots homes rows) where
  -- THE ROOT TELLS
  pub root_tells : (c : Levels) → left levels [] ≡ Some c → Tells slots (joined rows (length slots)) 0 [] c.rest c.later
  root_tells c at way f bin =
      sym (ap (λ (o : Option ℕ). count_reached slots o bin) (found_along slots [] way)) ∙ go (walk_end slots 0 a) refl
    where
      a : Walk
      a = along [] way

      whole : IsWhole levels a
      whole = along_whole levels [] c.rest c.later way tt at f

      at_end : left levels a ≡ Some (record { rest = 0; later = [] })
      at_end = left_along levels [] c.rest c.later way f at

      elsewhere : (i : ℕ) → i < length slots → (a ≡ home_of homes i → ⊥) → amount_under (rows i) a bin ≡ 0
      elsewhere i l ne = absent (rows i) a bin (λ q k u. ne (R.own i q l k a whole at_end u))

      go : (o : Option ℕ) → walk_end slots 0 a ≡ o → count_reached slots o bin ≡ amount_under (joined rows (length slots)) a bin
      go None e = sym (joined_none rows a bin (length slots) (λ i l. elsewhere i l (λ x. let w : walk_end slots 0 a ≡ Some i = ap (walk_end slots 0) x ∙ walk_home slots homes L.has_homes (home_of homes i) i l refl in let n : None ≡ Some i = sym e ∙ w in absurd cc)))
      go (Some t) e =
          let l = walk-lt slots homes L.has_homes a t e in
          let d = L.within t l in
          let same : a ≡ home_of homes t = finer_whole levels (walk_coarser slots homes L.has_homes a t e) whole (record { rest = 0; later = [] }) d.levels_left at_end d.is (λ x. refl) in
          let table : IsTable (slot_of slots t) = (L.has_tables.tables t l).1 (sym (ap dimension same) ∙ ends a at_end) in
          R.counts t bin l table (subst (IsWhole levels) same whole)
          ∙ (ap (λ (b : Walk). amount_under (rows t) b bin) (sym same)
          ∙ sym (joined_one rows a bin t (length slots) l (λ i k ne. elsewhere i k (λ x. ne (L.has_homes.distinct i t k l (sym x ∙ same))))))
