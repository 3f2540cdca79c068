-- The numbers of slots are those of the slots in the order of their image.
use Rattle.std.proofs.Common.{◌≡◌, ◌⊎◌, inl, inr, ℕ, zero, suc, ◌+◌, ◌<◌, Bool, cond, not, eqb, eq-eqb, ne_eqb, eqb-true, List, [], ◌∷◌, length, get_or, map, Option, Some, None, All, sum_by, refl, sym, ap, ap₂, ◌∙◌, arith}
use Rattle.std.proofs.lemmas.Bool.{cases_eq}
use Rattle.std.proofs.lemmas.List.Elements.{All-nil, All-cons}
use Rattle.std.proofs.lemmas.List.Sums.{sum_by-cons}
use Rattle.node_arena.specs.declared.link.Link.{Link}
use Rattle.node_arena.specs.Slots.{Children, Slot, node, table, empty_node, is_table, slot_of}
use Rattle.node_arena.specs.Stats.{is_proper, is_shared, children_that, content_that, links_that, node_count, table_count, proper_count, shared_count, capped, stat_of}
use Rattle.cube_image.specs.Order.{moved, moved_link, moved_child, moved_content, in_order}
use Rattle.cube_image.proofs.OwnedHits.{hits}
use Rattle.image_cube.proofs.ListShares.{HasPlace, sum_upto, upto-same, part, part-cons, parted}
use Rattle.image_cube.proofs.ShapeInOrder.{table-moved}

-- ---- sums over the places of a list that has each number once

part-zero : (k : ℕ) (g : ℕ → ℕ) (xs : List ℕ) → hits k xs ≡ 0 → part (λ i. eqb i k) g xs ≡ 0
part-zero k g [] none = refl
part-zero k g (x ∷ xs) none = go (cases_eq x k) (part-cons (λ i. eqb i k) g x xs) (λ z. part-zero k g xs z)
  where
    go : (x ≡ k) ⊎ (x ≡ k → ⊥) → part (λ i. eqb i k) g (x ∷ xs) ≡ cond {A = ℕ} (eqb x k) (g x) 0 + part (λ i. eqb i k) g xs → (hits k xs ≡ 0 → part (λ i. eqb i k) g xs ≡ 0) → part (λ i. eqb i k) g (x ∷ xs) ≡ 0
    go (inl e) c rest = let h : cond {A = ℕ} (eqb x k) 1 0 ≡ 1 = ap (λ (b : Bool). cond {A = ℕ} b 1 0) (eq-eqb x k e) in absurd (omega (arith, h, none))
    go (inr n) c rest =
        let h : cond {A = ℕ} (eqb x k) 1 0 ≡ 0 = ap (λ (b : Bool). cond {A = ℕ} b 1 0) (ne_eqb x k n) in
        let o : cond {A = ℕ} (eqb x k) (g x) 0 ≡ 0 = ap (λ (b : Bool). cond {A = ℕ} b (g x) 0) (ne_eqb x k n) in
        let r = rest (omega (arith, h, none)) in
        omega (arith, c, o, r)

part-one : (k : ℕ) (g : ℕ → ℕ) (xs : List ℕ) → hits k xs ≡ 1 → part (λ i. eqb i k) g xs ≡ g k
part-one k g [] one = absurd (omega (arith, one))
part-one k g (x ∷ xs) one = go (cases_eq x k) (part-cons (λ i. eqb i k) g x xs) (λ z. part-one k g xs z)
  where
    go : (x ≡ k) ⊎ (x ≡ k → ⊥) → part (λ i. eqb i k) g (x ∷ xs) ≡ cond {A = ℕ} (eqb x k) (g x) 0 + part (λ i. eqb i k) g xs → (hits k xs ≡ 1 → part (λ i. eqb i k) g xs ≡ g k) → part (λ i. eqb i k) g (x ∷ xs) ≡ g k
    go (inl e) c rest =
        let h : cond {A = ℕ} (eqb x k) 1 0 ≡ 1 = ap (λ (b : Bool). cond {A = ℕ} b 1 0) (eq-eqb x k e) in
        let o : cond {A = ℕ} (eqb x k) (g x) 0 ≡ g x = ap (λ (b : Bool). cond {A = ℕ} b (g x) 0) (eq-eqb x k e) in
        let z = part-zero k g xs (omega (arith, h, one)) in
        let s : g x ≡ g k = ap g e in
        omega (arith, c, o, z, s)
    go (inr n) c rest =
        let h : cond {A = ℕ} (eqb x k) 1 0 ≡ 0 = ap (λ (b : Bool). cond {A = ℕ} b 1 0) (ne_eqb x k n) in
        let o : cond {A = ℕ} (eqb x k) (g x) 0 ≡ 0 = ap (λ (b : Bool). cond {A = ℕ} b (g x) 0) (ne_eqb x k n) in
        let r = rest (omega (arith, h, one)) in
        omega (arith, c, o, r)

each-place : (n : ℕ) (xs : List ℕ) → ((j : ℕ) → 0 < hits j xs → j < n) → All (HasPlace (λ k i. eqb i k) n) xs
each-place n [] low = All-nil (HasPlace (λ (k i : ℕ). eqb i k) n)
each-place n (x ∷ xs) low =
    let h : cond {A = ℕ} (eqb x x) 1 0 ≡ 1 = ap (λ (b : Bool). cond {A = ℕ} b 1 0) (eq-eqb x x refl) in
    All-cons (HasPlace (λ (k i : ℕ). eqb i k) n) x xs
    (record { place = x; within = low x (omega (arith, h)); is = eq-eqb x x refl; only = λ i l e. sym (eqb-true x i e) })
    (each-place n xs (λ j some. low j (omega (arith, some))))

-- such a sum goes over all numbers
sum-places : (n : ℕ) (xs : List ℕ) (g : ℕ → ℕ) → ((j : ℕ) → 0 < hits j xs → j < n) → ((j : ℕ) → j < n → hits j xs ≡ 1) → sum_by g xs ≡ sum_upto g n
sum-places n xs g low one = sym (parted (λ (k i : ℕ). eqb i k) g n xs (each-place n xs low)) ∙ upto-same (λ k. part (λ i. eqb i k) g xs) g n (λ k l. part-one k g xs (one k l))

upto-shift : (g : ℕ → ℕ) (n : ℕ) → sum_upto g (suc n) ≡ g 0 + sum_upto (λ k. g (suc k)) n
upto-shift g zero = omega arith
upto-shift g (suc n) = let r = upto-shift g n in omega (arith, r)

-- and that over a list goes over its places
sum-list : {X : Type 0} (f : X → ℕ) (d : X) (xs : List X) → sum_by f xs ≡ sum_upto (λ k. f (get_or xs k d)) (length xs)
sum-list f d [] = refl
sum-list f d (x ∷ xs) =
    let c = sum_by-cons f x xs in
    let s = upto-shift (λ k. f (get_or (x ∷ xs) k d)) (length xs) in
    let r = sum-list f d xs in
    omega (arith, c, s, r)

sum-map : {X Y : Type 0} (f : Y → ℕ) (g : X → Y) (h : X → ℕ) (xs : List X) → ((x : X) → f (g x) ≡ h x) → sum_by f (map g xs) ≡ sum_by h xs
sum-map f g h [] same = refl
sum-map f g h (x ∷ xs) same =
    let a = sum_by-cons f (g x) (map g xs) in
    let b = sum_by-cons h x xs in
    let e = same x in
    let r = sum-map f g h xs same in
    omega (arith, a, b, e, r)

-- ---- what is counted of a slot, moved or not

kinds-moved : (p : Link → Bool) → ((places : List ℕ) (l : Link) → p (moved_link places l) ≡ p l) → (places : List ℕ) (s : Slot) → links_that p (moved places s) ≡ links_that p s
kinds-moved p same places (table counts) = refl
kinds-moved p same places (node cs content) = ap₂ (λ (a b : ℕ). a + b) (children cs) (to content)
  where
    children : (cs : Children) → children_that p (map (moved_child places) cs) ≡ children_that p cs
    children cs = sum-map (λ (k : ℕ × Link). cond {A = ℕ} (p k.1) 1 0) (moved_child places) (λ (k : ℕ × Link). cond {A = ℕ} (p k.1) 1 0) cs (λ k. ap (λ (b : Bool). cond {A = ℕ} b 1 0) (same places k.1))

    to : (o : Option Link) → content_that p (moved_content places o) ≡ content_that p o
    to None = refl
    to (Some l) = ap (λ (b : Bool). cond {A = ℕ} b 1 0) (same places l)

module _ (slots : List Slot) (places : List ℕ) (low : (j : ℕ) → 0 < hits j places → j < length slots) (one : (j : ℕ) → j < length slots → hits j places ≡ 1) where
  sum-again : (f : Slot → ℕ) → ((s : Slot) → f (moved places s) ≡ f s) → sum_by f (in_order slots places) ≡ sum_by f slots
  sum-again f same =
      sum-map f (λ (i : ℕ). moved places (slot_of slots i)) (λ (i : ℕ). f (slot_of slots i)) places (λ i. same (slot_of slots i))
      ∙ (sum-places (length slots) places (λ (i : ℕ). f (slot_of slots i)) low one ∙ sym (sum-list f empty_node slots))

  pub stat-again : stat_of (in_order slots places) ≡ stat_of slots
  stat-again =
      let nodes : node_count (in_order slots places) ≡ node_count slots = sum-again (λ (s : Slot). cond {A = ℕ} (not (is_table s)) 1 0) (λ s. ap (λ (b : Bool). cond {A = ℕ} (not b) 1 0) (table-moved places s)) in
      let tables : table_count (in_order slots places) ≡ table_count slots = sum-again (λ (s : Slot). cond {A = ℕ} (is_table s) 1 0) (λ s. ap (λ (b : Bool). cond {A = ℕ} b 1 0) (table-moved places s)) in
      let proper : proper_count (in_order slots places) ≡ proper_count slots = sum-again (links_that is_proper) (kinds-moved is_proper (λ places l. refl) places) in
      let shared : shared_count (in_order slots places) ≡ shared_count slots = sum-again (links_that is_shared) (kinds-moved is_shared (λ places l. refl) places) in
      ap₂ (λ (a b : ℕ × ℕ). record { nodes = capped a.0; tables = capped a.1; proper = capped b.0; shared = capped b.1 }) (ap₂ (λ (x y : ℕ). (x, y)) nodes tables) (ap₂ (λ (x y : ℕ). (x, y)) proper shared)
