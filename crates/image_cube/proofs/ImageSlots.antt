-- The slots of a cube of records, in the order of their image, are slots that an image may have.
use Rattle.std.proofs.Common.{◌≡◌, inl, inr, ℕ, suc, ◌+◌, ◌*◌, ◌^◌, ◌<◌, ◌≤◌, Bool, true, false, cond, ◌&&◌, eqb, eq-eqb, eqb-true, ne_eqb, nat_cmp, List, [], ◌∷◌, length, get_or, Option, Some, None, IfSome, IsTrue, All, unwrap_or, refl, sym, ap, ◌∙◌, subst, arith}
use Rattle.std.specs.FinMap.{entries, find, get-entries}
use Rattle.std.specs.List.{AllByRecursion}
use Rattle.std.proofs.lemmas.Bool.{cases_order}
use Rattle.std.proofs.lemmas.List.{get_or_default}
use Rattle.std.proofs.lemmas.List.Elements.{All-head, All-tail, recursion_from_All}
use Rattle.cube_view.specs.Bag.{most_points}
use Rattle.cube_view.specs.Points.{Point, spot_of, weight_of_point, heaviest}
use Rattle.cube_view.specs.Validity.{sound}
use Rattle.cube_view.specs.Walks.{down, across, Walk, under}
use Rattle.cube_view.specs.declared.schema.Schema.{Schema}
use Rattle.cube_view.proofs.PointWeights.{sound-light}
use Rattle.time_table.specs.Counts.{AllCounted, count_of}
use Rattle.time_table.proofs.Entries.{find_here, find_later, find_before}
use Rattle.time_table.proofs.KeySums.{counted_at}
use Rattle.node_arena.specs.declared.link.Link.{Link}
use Rattle.node_arena.specs.Amounts.{amount_under}
use Rattle.node_arena.specs.Shape.{home_of}
use Rattle.node_arena.specs.Slots.{target, Children, Slot, node, table, empty_node, IsRising, is_table, children_of, counts_of, count, child, link, slot_of, link_of}
use Rattle.node_arena.specs.Stats.{AllRising}
use Rattle.node_arena.proofs.Walks.{target-lt}
use Rattle.proper_path.specs.Paths.{point_path, paths_of}
use Rattle.cube_store.specs.Counted.{CountsPoints}
use Rattle.cube_image.proofs.Labels.{label-byte}
use Rattle.cube_image.proofs.Rests.{Rises, rises, rows-rise, child-low}
use Rattle.time_table.specs.Rows.{AreRows}
use Rattle.image_parse.specs.Images.{AreChildren, IsImageSlot}
use Rattle.shape_test.specs.Laws.{AllTablesCounted}
use Rattle.shape_test.proofs.Core.{amount-cons}

-- ---- children and rows, from what is known of each

are-children : (n from : ℕ) (cs : Children) → Rises from cs → ((label : ℕ) (l : Link) → child cs label ≡ Some l → (label < 256) × (target l < n)) → AreChildren n from cs
are-children n from [] R f = tt
are-children n from (c ∷ cs) R f =
    let here = f c.0 c.1 (ap (λ (b : Bool). cond b (Some c.1) (child cs c.0)) (eq-eqb c.0 c.0 refl)) in
    (R.0, here.0, here.1, are-children n (c.0 + 1) cs R.1 (λ label l e. f label l (later label l e)))
  where
    later : (label : ℕ) (l : Link) → child cs label ≡ Some l → child (c ∷ cs) label ≡ Some l
    later label l e =
        let low = child-low (c.0 + 1) cs label l R.1 e in
        ap (λ (b : Bool). cond b (Some c.1) (child cs label)) (ne_eqb c.0 label (λ s. omega (arith, s, low))) ∙ e

find-low : (b k n : ℕ) (es : List (ℕ × ℕ)) → Rises b es → find nat_cmp k es ≡ Some n → b ≤ k
find-low b k n [] R e = cc
find-low b k n (x ∷ es) R e =
    let low = R.0 in
    elim (cases_order k x.0) [
      | inl same ↦ omega (arith, low, same)
      | inr (inl less) ↦ let r = find-low (x.0 + 1) k n es R.1 (sym (find_before k x.0 x.1 es less) ∙ e) in omega (arith, low, r)
      | inr (inr more) ↦ omega (arith, low, more)
    ]

-- a row that can be in an image
abbrev IsRow : ℕ → ℕ → Type 0
IsRow bin n = (bin < 2 ^ 32) × (0 < n) × (n < 2 ^ 64)

are-entries : (from : ℕ) (es : List (ℕ × ℕ)) → Rises from es → ((bin n : ℕ) → find nat_cmp bin es ≡ Some n → IsRow bin n) → AreRows from es
are-entries from [] R f = tt
are-entries from (x ∷ es) R f =
    let here = f x.0 x.1 (find_here x.0 x.0 x.1 es refl) in
    (R.0, here.0, here.1, here.2, are-entries (x.0 + 1) es R.1 (λ bin n e. f bin n (let low = find-low (x.0 + 1) bin n es R.1 e in find_later bin x.0 x.1 es (omega (arith, low)) ∙ e)))

-- ---- what lies under an address in a bin

module _ (schema : Schema) where
  bin-low : (h : List Point) → All (λ p. (spot_of p).bin < 2 ^ 32) h → (a : Walk) (bin : ℕ) → 0 < amount_under (paths_of schema h) a bin → bin < 2 ^ 32
  bin-low [] B a bin some = absurd (omega (arith, some))
  bin-low (p ∷ h) B a bin some =
      go (under (point_path schema p).spot a) (eqb (spot_of p).bin bin) refl (amount-cons (point_path schema p) (paths_of schema h) a bin) (bin-low h (All-tail (λ p. (spot_of p).bin < 2 ^ 32) p h B) a bin)
    where
      low : (spot_of p).bin < 2 ^ 32
      low = All-head (λ p. (spot_of p).bin < 2 ^ 32) p h B

      go : (u t : Bool) → eqb (spot_of p).bin bin ≡ t → amount_under (paths_of schema (p ∷ h)) a bin ≡ cond {A = ℕ} (u && t) (weight_of_point p) 0 + amount_under (paths_of schema h) a bin → (0 < amount_under (paths_of schema h) a bin → bin < 2 ^ 32) → bin < 2 ^ 32
      go u true e s rest = let same = eqb-true (spot_of p).bin bin e in omega (arith, same, low)
      go true false e s rest = rest (omega (arith, s, some))
      go false false e s rest = rest (omega (arith, s, some))

  amount-le : (h : List Point) → All (λ p. IsTrue (sound schema p)) h → (a : Walk) (bin : ℕ) → amount_under (paths_of schema h) a bin ≤ length h * heaviest
  amount-le [] S a bin = omega arith
  amount-le (p ∷ h) S a bin =
      go (under (point_path schema p).spot a && eqb (spot_of p).bin bin) (amount-cons (point_path schema p) (paths_of schema h) a bin) (amount-le h (All-tail (λ p. IsTrue (sound schema p)) p h S) a bin) (sound-light schema p (All-head (λ p. IsTrue (sound schema p)) p h S))
    where
      go : (b : Bool) → amount_under (paths_of schema (p ∷ h)) a bin ≡ cond {A = ℕ} b (weight_of_point p) 0 + amount_under (paths_of schema h) a bin → amount_under (paths_of schema h) a bin ≤ length h * heaviest → weight_of_point p ≤ heaviest → amount_under (paths_of schema (p ∷ h)) a bin ≤ suc (length h) * heaviest
      go true s r l = omega (arith, s, r, l)
      go false s r l = omega (arith, s, r)

-- ---- the slots of a cube of records

module _ (schema : Schema) (slots : List Slot) (size : ℕ) (h : List Point) (C : CountsPoints schema slots 0 size h) (few : size ≤ most_points) (B : All (λ p. (spot_of p).bin < 2 ^ 32) h) (R : AllRising slots) (A : AllTablesCounted slots) where
  slot-fits : (i : ℕ) → i < length slots → IsImageSlot (length slots) (slot_of slots i)
  slot-fits i lt = go (slot_of slots i) refl
    where
      go : (s : Slot) → slot_of slots i ≡ s → IsImageSlot (length slots) s
      go (node cs content) x = (
        are-children (length slots) 0 cs (rises cs (subst (λ (s : Slot). IsRising (children_of s)) x (R i empty_node lt))) (λ label l e.
            let is : link_of slots i (down label) ≡ Some l = ap (λ (s : Slot). link s (down label)) x ∙ e in
            (label-byte schema slots 0 size h C i label l is, target-lt slots C.homes C.shape.has_homes i (down label) l is)),
        to-content content refl,
      )
        where
          to-content : (o : Option Link) → content ≡ o → IfSome o (λ l. target l < length slots)
          to-content None e = tt
          to-content (Some l) e = target-lt slots C.homes C.shape.has_homes i across l (ap (λ (s : Slot). link s across) x ∙ e)
      go (table counts) x = are-entries 0 (entries counts) (rows-rise counts) (λ bin n e. row bin n e)
        where
          row : (bin n : ℕ) → find nat_cmp bin (entries counts) ≡ Some n → IsRow bin n
          row bin n e =
              let some = counted_at bin n (entries counts) (subst (λ (s : Slot). AllCounted (counts_of s)) x (A i empty_node lt)) e in
              let c : count_of counts bin ≡ n = ap (λ (o : Option ℕ). unwrap_or o 0) (get-entries counts bin ∙ e) in
              let u : amount_under (paths_of schema h) (home_of C.homes i) bin ≡ n = sym (C.shape.counted.counts i bin lt (ap is_table x)) ∙ (ap (λ (s : Slot). count s bin) x ∙ c) in
              let low = bin-low schema h B (home_of C.homes i) bin (omega (arith, some, u)) in
              let most = amount-le schema h C.all_sound (home_of C.homes i) bin in
              let number = C.number in
              (low, some, omega (arith, most, u, number, few))

  pub slots-fit : AllByRecursion (IsImageSlot (length slots)) slots
  slots-fit = recursion_from_All (IsImageSlot (length slots)) slots (λ i d lt. at i d lt)
    where
      at : (i : ℕ) (d : Slot) → i < length slots → IsImageSlot (length slots) (get_or slots i d)
      at i d lt = subst (IsImageSlot (length slots)) (get_or_default slots i empty_node d lt) (slot-fits i lt)
