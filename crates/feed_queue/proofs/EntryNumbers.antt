-- The numbers of an entry, and the entry that has them.
use Rattle.std.proofs.Common.{◌≡◌, ℕ, zero, suc, ◌+◌, ◌-◌, ◌^◌, ◌≤◌, ◌<◌, ◌&&◌, eqb, leb, ltb, true, IsTrue, List, [], ◌∷◌, ◌++◌, All, Option, Some, None, length, length-append, take, drop, get_or, sym, refl, ap, ◌∙◌, subst, arith}
use Rattle.std.proofs.lemmas.Bool.{and_parts, leb-true}
use Rattle.std.proofs.Math.Pow.{pow_mono}
use Rattle.std.proofs.lemmas.Bool.Decides.{nat_tests}
use Rattle.std.proofs.lemmas.List.Elements.{All-append, All-cons, All-tail}
use Rattle.std.proofs.lemmas.List.{get_or-append-add, take_at, length-take-le}
use Rattle.cube_view.specs.Points.{Point}
use Rattle.cube_view.specs.Validity.{values_fit, tile_fits, is_weight, weight_is_told, fits, sound, valid}
use Rattle.cube_view.specs.declared.category.Category.{Category}
use Rattle.cube_view.specs.declared.schema.Schema.{Schema}
use Rattle.cube_view.proofs.SchemaBounds.{few_categories, depth_bounds}
use Rattle.feed_queue.specs.Journal.{entry_numbers, told_weight, IsEntryOf}
use Rattle.feed_queue.specs.NumberReading.{four_of, weight_or_one, weight_count, entry_of_numbers}
use Rattle.world_core.specs.declared.entry.Entry.{Entry}

-- Four values

-- up to four values are the first of the four that they make
first_of_four : (values : List ℕ) → length values ≤ 4 → take (length values) (four_of values) ≡ values
first_of_four [] few = refl
first_of_four (a ∷ []) few = refl
first_of_four (a ∷ b ∷ []) few = refl
first_of_four (a ∷ b ∷ c ∷ []) few = refl
first_of_four (a ∷ b ∷ c ∷ d ∷ []) few = refl
first_of_four (a ∷ b ∷ c ∷ d ∷ e ∷ values) few = absurd (omega (arith, few))

four_are : (values : List ℕ) → length values ≡ 4 → four_of values ≡ values
four_are [] four = absurd (omega (arith, four))
four_are (a ∷ []) four = absurd (omega (arith, four))
four_are (a ∷ b ∷ []) four = absurd (omega (arith, four))
four_are (a ∷ b ∷ c ∷ []) four = absurd (omega (arith, four))
four_are (a ∷ b ∷ c ∷ d ∷ []) four = refl
four_are (a ∷ b ∷ c ∷ d ∷ e ∷ values) four = absurd (omega (arith, four))

eqb_is : (a b : ℕ) → eqb a b ≡ true → a ≡ b
eqb_is a b e = grind (arith, nat_tests, e)

all_zero : (values : List ℕ) (i : ℕ) → values_fit [] values ≡ true → 0 ≡ get_or values i 0
all_zero [] i fit = refl
all_zero (v ∷ values) zero fit = sym (eqb_is v 0 (and_parts (eqb v 0) (values_fit [] values) fit).0)
all_zero (v ∷ values) (suc i) fit = all_zero values i (and_parts (eqb v 0) (values_fit [] values) fit).1

-- values that fit are 0 past the categories
zeros_past : (categories : List Category) (values : List ℕ) (i : ℕ) → values_fit categories values ≡ true → get_or (take (length categories) values) i 0 ≡ get_or values i 0
zeros_past [] values i fit = all_zero values i fit
zeros_past (c ∷ categories) [] i fit = refl
zeros_past (c ∷ categories) (v ∷ values) zero fit = refl
zeros_past (c ∷ categories) (v ∷ values) (suc i) fit = zeros_past categories values i (and_parts _ _ fit).1

four_again : (categories : List Category) (values : List ℕ) → values_fit categories values ≡ true → length values ≡ 4 → four_of (take (length categories) values) ≡ values
four_again categories values fit four =
    (λ i. zeros_past categories values 0 fit i ∷ zeros_past categories values 1 fit i ∷ zeros_past categories values 2 fit i ∷ zeros_past categories values 3 fit i ∷ []) ∙ four_are values four

-- What the end of an entry's numbers is

one_left : (k : ℕ) (rest : List ℕ) → length rest ≡ k + 1 → take k rest ++ (get_or rest k 0 ∷ []) ≡ rest
one_left zero [] size = absurd (omega (arith, size))
one_left zero (a ∷ []) size = refl
one_left zero (a ∷ b ∷ rest) size = absurd (omega (arith, size))
one_left (suc k) [] size = absurd (omega (arith, size))
one_left (suc k) (a ∷ rest) size = ap (λ l. a ∷ l) (one_left k rest (omega (arith, size)))

two_left : (k : ℕ) (rest : List ℕ) → length rest ≡ k + 2 → take k rest ++ (get_or rest k 0 ∷ get_or rest (suc k) 0 ∷ []) ≡ rest
two_left zero [] size = absurd (omega (arith, size))
two_left zero (a ∷ []) size = absurd (omega (arith, size))
two_left zero (a ∷ b ∷ []) size = refl
two_left zero (a ∷ b ∷ c ∷ rest) size = absurd (omega (arith, size))
two_left (suc k) [] size = absurd (omega (arith, size))
two_left (suc k) (a ∷ rest) size = ap (λ l. a ∷ l) (two_left k rest (omega (arith, size)))

-- a number past the first four
past_four : (a b c d : ℕ) (rest : List ℕ) (i j : ℕ) → i ≡ 4 + j → get_or (a ∷ b ∷ c ∷ d ∷ rest) i 0 ≡ get_or rest j 0
past_four a b c d rest i j is = ap (λ k. get_or (a ∷ b ∷ c ∷ d ∷ rest) k 0) is ∙ get_or-append-add (a ∷ b ∷ c ∷ d ∷ []) rest j 0

ends_well : (weight : Option (List ℕ)) (k : ℕ) (rest : List ℕ) (p : Point) → length rest ≡ k + 1 + weight_count weight → p.weight ≡ weight_or_one weight (get_or rest (suc k) 0) → take k rest ++ (get_or rest k 0 ∷ told_weight weight p) ≡ rest
ends_well None k rest p size weighs = one_left k rest (omega (arith, size))
ends_well (Some column) k rest p size weighs = ap (λ w. take k rest ++ (get_or rest k 0 ∷ w ∷ [])) weighs ∙ two_left k rest (omega (arith, size))

-- the entry of these numbers has them
pub numbers_again : (schema : Schema) (numbers : List ℕ) → length numbers ≡ 5 + length schema.categories + weight_count schema.weight → entry_numbers schema (entry_of_numbers schema numbers) ≡ numbers
numbers_again schema [] size = absurd (omega (arith, size))
numbers_again schema (a ∷ []) size = absurd (omega (arith, size))
numbers_again schema (a ∷ b ∷ []) size = absurd (omega (arith, size))
numbers_again schema (a ∷ b ∷ c ∷ []) size = absurd (omega (arith, size))
numbers_again schema (a ∷ b ∷ c ∷ d ∷ rest) size =
    let k = length schema.categories in
    let few = few_categories schema in
    let e = entry_of_numbers schema (a ∷ b ∷ c ∷ d ∷ rest) in
    let len : length (take k rest) ≡ k = length-take-le k rest (omega (arith, size)) in
    let values : take k (four_of (take k rest)) ≡ take k rest = ap (λ n. take n (four_of (take k rest))) (sym len) ∙ first_of_four (take k rest) (omega (arith, len, few)) in
    let bin : get_or (a ∷ b ∷ c ∷ d ∷ rest) (4 + k) 0 ≡ get_or rest k 0 = past_four a b c d rest (4 + k) k refl in
    let weight : e.point.weight ≡ weight_or_one schema.weight (get_or rest (suc k) 0) = ap (weight_or_one schema.weight) (past_four a b c d rest (5 + k) (suc k) (omega arith)) in
    ap (λ l. a ∷ b ∷ c ∷ d ∷ (l ++ (get_or (a ∷ b ∷ c ∷ d ∷ rest) (4 + k) 0 ∷ told_weight schema.weight e.point))) values
    ∙ ap (λ n. a ∷ b ∷ c ∷ d ∷ (take k rest ++ (n ∷ told_weight schema.weight e.point))) bin
    ∙ ap (λ l. a ∷ b ∷ c ∷ d ∷ l) (ends_well schema.weight k rest e.point (omega (arith, size)) weight)

-- the weight of a valid point, as its numbers tell it
weighs_again : (weight : Option (List ℕ)) (p : Point) (k bin : ℕ) (values : List ℕ) → weight_is_told weight p.weight ≡ true → length values ≡ k → weight_or_one weight (get_or (values ++ (bin ∷ told_weight weight p)) (suc k) 0) ≡ p.weight
weighs_again None p k bin values told size = sym (eqb_is p.weight 1 told)
weighs_again (Some column) p k bin values told size =
    let at : suc k ≡ length values + 1 = omega (arith, size) in
    ap (λ i. get_or (values ++ (bin ∷ p.weight ∷ [])) i 0) at ∙ get_or-append-add values (bin ∷ p.weight ∷ []) 1 0

told_few : (weight : Option (List ℕ)) (p : Point) → length (told_weight weight p) ≤ 1
told_few None p = omega arith
told_few (Some column) p = omega arith

told_small : (weight : Option (List ℕ)) (p : Point) → p.weight < 2 ^ 32 → All (λ n. n < 2 ^ 32) (told_weight weight p)
told_small None p small = λ k d less. absurd (omega arith)
told_small (Some column) p small = All-cons (λ n. n < 2 ^ 32) p.weight [] small (λ k d less. absurd (omega arith))

taken_small : (n : ℕ) (values : List ℕ) → All (λ v. v < 256) values → All (λ v. v < 2 ^ 32) (take n values)
taken_small zero values all = λ k d less. absurd (omega arith)
taken_small (suc n) [] all = λ k d less. absurd (omega arith)
taken_small (suc n) (v ∷ values) all =
    let first = all 0 v (omega arith) in
    All-cons (λ v. v < 2 ^ 32) v (take n values) (omega (arith, first)) (taken_small n values (All-tail (λ v. v < 256) v values all))

-- What a valid entry has

module _ (schema : Schema) (e : Entry) (is : IsEntryOf schema e) where
  -- its feeder is 1 to 8, and its point is valid
  pub parts : (IsTrue (leb 1 e.feeder && leb e.feeder 8)) × (IsTrue (valid schema e.point))
  parts = and_parts (leb 1 e.feeder && leb e.feeder 8) (valid schema e.point) is.1

  point_parts : (IsTrue (sound schema e.point)) × (IsTrue (weight_is_told schema.weight e.point.weight))
  point_parts = and_parts (sound schema e.point) (weight_is_told schema.weight e.point.weight) parts.1

  spot_parts : (IsTrue (fits schema e.point.spot)) × (IsTrue (is_weight e.point.weight))
  spot_parts = and_parts (fits schema e.point.spot) (is_weight e.point.weight) point_parts.0

  fit_parts : (IsTrue (tile_fits schema.depth e.point.spot)) × (IsTrue (values_fit schema.categories e.point.spot.values))
  fit_parts = and_parts (tile_fits schema.depth e.point.spot) (values_fit schema.categories e.point.spot.values) spot_parts.0

  abbrev pub k : ℕ
  k = length schema.categories

  abbrev pub taken : List ℕ
  taken = take k e.point.spot.values

  size : length taken ≡ k
  size = let few = few_categories schema in let four = is.0.values in length-take-le k e.point.spot.values (omega (arith, few, four))

  values_back : four_of (take k (taken ++ (e.point.spot.bin ∷ told_weight schema.weight e.point))) ≡ e.point.spot.values
  values_back = ap four_of (take_at taken (e.point.spot.bin ∷ told_weight schema.weight e.point) k size) ∙ four_again schema.categories e.point.spot.values fit_parts.1 is.0.values

  -- it is the entry of its numbers
  pub entry_again : entry_of_numbers schema (entry_numbers schema e) ≡ e
  entry_again =
      let s = e.point.spot in
      let rest = taken ++ (s.bin ∷ told_weight schema.weight e.point) in
      let bin : get_or (e.feeder ∷ e.number ∷ s.x ∷ s.y ∷ rest) (4 + k) 0 ≡ s.bin =
      past_four e.feeder e.number s.x s.y rest (4 + k) (length taken + 0) (let z = size in omega (arith, z)) ∙ get_or-append-add taken (s.bin ∷ told_weight schema.weight e.point) 0 0 in
      let weight : weight_or_one schema.weight (get_or (e.feeder ∷ e.number ∷ s.x ∷ s.y ∷ rest) (5 + k) 0) ≡ e.point.weight =
      ap (weight_or_one schema.weight) (past_four e.feeder e.number s.x s.y rest (5 + k) (suc k) (omega arith)) ∙ weighs_again schema.weight e.point k s.bin taken point_parts.1 size in
      λ i. record { feeder = e.feeder; number = e.number; point = record { spot = record { x = s.x; y = s.y; values = values_back i; bin = bin i }; weight = weight i } }

  -- its values are bytes among its numbers
  pub bytes_among : (numbers : List ℕ) → entry_numbers schema e ≡ numbers → All (λ v. v < 256) (four_of (take k (drop 4 numbers)))
  bytes_among numbers same = subst (λ l. All (λ v. v < 256) (four_of (take k (drop 4 l)))) same (subst (All (λ v. v < 256)) (sym values_back) is.0.bytes)

  -- they are at most ten
  pub numbers_few : length (entry_numbers schema e) ≤ 10
  numbers_few =
      let a = length-append taken (e.point.spot.bin ∷ told_weight schema.weight e.point) in
      let b = size in
      let c = few_categories schema in
      let d = told_few schema.weight e.point in
      omega (arith, a, b, c, d)

  -- and each has 32 bits
  pub numbers_small : All (λ n. n < 2 ^ 32) (entry_numbers schema e)
  numbers_small =
      let feeder = leb-true e.feeder 8 (and_parts (leb 1 e.feeder) (leb e.feeder 8) parts.0).1 in
      let tile = and_parts (ltb e.point.spot.x (2 ^ schema.depth)) (ltb e.point.spot.y (2 ^ schema.depth)) fit_parts.0 in
      let depth = (depth_bounds schema).1 in
      let edge : 2 ^ schema.depth ≤ 2 ^ 20 = pow_mono depth in
      let x : e.point.spot.x < 2 ^ 32 = let h = leb-true (suc e.point.spot.x) (2 ^ schema.depth) tile.0 in omega (arith, h, edge) in
      let y : e.point.spot.y < 2 ^ 32 = let h = leb-true (suc e.point.spot.y) (2 ^ schema.depth) tile.1 in omega (arith, h, edge) in
      let weight : e.point.weight < 2 ^ 32 = let h = leb-true e.point.weight (2 ^ 28 - 1) (and_parts (leb 1 e.point.weight) (leb e.point.weight (2 ^ 28 - 1)) spot_parts.1).1 in omega (arith, h) in
      let small : ℕ → Type 0 = λ n. n < 2 ^ 32 in
      let s = e.point.spot in
      let last = s.bin ∷ told_weight schema.weight e.point in
      All-cons small e.feeder (e.number ∷ s.x ∷ s.y ∷ (taken ++ last)) (omega (arith, feeder))
      (All-cons small e.number (s.x ∷ s.y ∷ (taken ++ last)) is.0.number
      (All-cons small s.x (s.y ∷ (taken ++ last)) x
      (All-cons small s.y (taken ++ last) y
      (All-append small taken last (taken_small k s.values is.0.bytes)
      (All-cons small s.bin (told_weight schema.weight e.point) is.0.bin (told_small schema.weight e.point weight))))))
