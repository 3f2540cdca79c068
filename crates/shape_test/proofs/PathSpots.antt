-- The spot that has given paths in a schema.
use Rattle.std.proofs.Common.{◌≡◌, ◌⊎◌, inl, inr, ℕ, zero, suc, ◌+◌, ◌*◌, ◌-◌, ◌/◌, ◌%◌, ◌^◌, ◌<◌, ◌≤◌, Bool, true, cond, ◌&&◌, eq-eqb, ne_eqb, nat_lt, ltb-true, List, [], ◌∷◌, length, map, get_or, refl, sym, ap, ap₂, ◌∙◌, arith}
use Rattle.std.specs.List.{list_all}
use Rattle.std.proofs.Math.ListN.{get_or-eq_default}
use Rattle.std.proofs.lemmas.Bool.{and_parts, cases_lt, lt-ltb}
use Rattle.std.proofs.lemmas.Nat.{div-mul-add}
use Rattle.std.proofs.Math.Nat.{pow-suc}
use Rattle.cube_view.proofs.SchemaBounds.{deepest_category}
use Rattle.cube_view.specs.Paths.{labels_from, path_of, paths_from, spot_path}
use Rattle.cube_view.specs.Places.{deepest, time_dim, label_of, quadrant_at, bit_at}
use Rattle.cube_view.specs.Validity.{fits, values_fit}
use Rattle.cube_view.specs.Walks.{SpotPath}
use Rattle.cube_view.specs.declared.category.Category.{Category}
use Rattle.cube_view.specs.declared.schema.Schema.{Schema}
use Rattle.cube_view.specs.declared.spot.Spot.{Spot}
use Rattle.shape_test.specs.Levels.{label_counts}
use Rattle.shape_test.specs.Labels.{levels_from, schema_levels, value_count, label_end, label_fits, paths_fit}
use Rattle.shape_test.proofs.CategoryWays.{in_time}

-- the number whose bits are those of quadrants, the highest first
abbrev bits_of : (ℕ → ℕ) → List ℕ → ℕ
bits_of bit [] = 0
bits_of bit (q ∷ qs) = bit q * 2 ^ length qs + bits_of bit qs

bits_lt : (bit : ℕ → ℕ) → ((q : ℕ) → q < 4 → bit q < 2) → (qs : List ℕ) → list_all (λ q. nat_lt q 4) qs ≡ true → bits_of bit qs < 2 ^ length qs
bits_lt bit two [] all = omega arith
bits_lt bit two (q ∷ qs) all =
    let p = and_parts (nat_lt q 4) (list_all (λ q. nat_lt q 4) qs) all in
    let r = bits_lt bit two qs p.1 in
    let s = pow-suc 2 (length qs) in
    let b = two q (ltb-true q 4 p.0) in
    go (bit q) b r s
  where
    go : (b : ℕ) → b < 2 → bits_of bit qs < 2 ^ length qs → 2 ^ suc (length qs) ≡ 2 ^ length qs * 2 → b * 2 ^ length qs + bits_of bit qs < 2 ^ suc (length qs)
    go zero l r s = omega (arith, r, s)
    go (suc zero) l r s = omega (arith, r, s)
    go (suc (suc b)) l r s = absurd (omega (arith, l))

-- the number without its highest bit
next_bits : (bit : ℕ → ℕ) (k q n : ℕ) (qs : List ℕ) → n ≡ k * 2 ^ suc (length qs) + bits_of bit (q ∷ qs) → n ≡ (2 * k + bit q) * 2 ^ length qs + bits_of bit qs
next_bits bit k q n qs is = let s = ap (λ (z : ℕ). k * z) (pow-suc 2 (length qs)) in omega (arith, is, s)

-- the bit of a level is that of its quadrant
one_bit : (bit : ℕ → ℕ) → ((q : ℕ) → q < 4 → bit q < 2) → (depth level k q n : ℕ) (qs : List ℕ) → q < 4 → list_all (λ q. nat_lt q 4) qs ≡ true → depth - level ≡ length qs → n ≡ k * 2 ^ suc (length qs) + bits_of bit (q ∷ qs) → bit_at depth level n ≡ bit q
one_bit bit two depth level k q n qs less all at is =
    let s = pow-suc 2 (length qs) in
    let b = two q less in
    let l = bits_lt bit two qs all in
    let e = next_bits bit k q n qs is in
    let d : n / 2 ^ (depth - level) ≡ 2 * k + bit q = ap₂ (λ (x y : ℕ). x / 2 ^ y) e at ∙ div-mul-add (2 * k + bit q) (2 ^ length qs) (bits_of bit qs) l in
    ap (λ (x : ℕ). x % 2) d ∙ omega (arith, b)

-- the two bits of a quadrant
abbrev of_x : ℕ → ℕ
of_x q = q % 2

abbrev of_y : ℕ → ℕ
of_y q = q / 2

x_two : (q : ℕ) → q < 4 → of_x q < 2
x_two q l = omega arith

y_two : (q : ℕ) → q < 4 → of_y q < 2
y_two q l = omega arith

-- the labels of a spot in space are its quadrants
space_labels : (schema : Schema) (s : Spot) (qs : List ℕ) (level k m : ℕ) → 1 ≤ level → schema.depth ≡ (level - 1) + length qs → list_all (λ q. nat_lt q 4) qs ≡ true → s.x ≡ k * 2 ^ length qs + bits_of of_x qs → s.y ≡ m * 2 ^ length qs + bits_of of_y qs → labels_from schema s 1 level (length qs) ≡ qs
space_labels schema s [] level k m some deep all x y = refl
space_labels schema s (q ∷ qs) level k m some deep all x y =
    let p = and_parts (nat_lt q 4) (list_all (λ q. nat_lt q 4) qs) all in
    let l = ltb-true q 4 p.0 in
    let at : schema.depth - level ≡ length qs = omega (arith, deep, some) in
    let a = one_bit of_x x_two schema.depth level k q s.x qs l p.1 at x in
    let b = one_bit of_y y_two schema.depth level m q s.y qs l p.1 at y in
    let r = space_labels schema s qs (level + 1) (2 * k + of_x q) (2 * m + of_y q) (omega arith) (omega (arith, deep, some)) p.1 (next_bits of_x k q s.x qs x) (next_bits of_y m q s.y qs y) in
    let h : 2 * (q / 2) + q % 2 ≡ q = omega arith in
    ap₂ (λ (n : ℕ) (ns : List ℕ). n ∷ ns) (ap₂ (λ (u v : ℕ). 2 * u + v) b a ∙ h) r

-- the first label of each path, 0 where it has none
abbrev first_of_path : List ℕ → ℕ
first_of_path [] = 0
first_of_path (l ∷ path) = l

abbrev firsts : List (List ℕ) → List ℕ
firsts [] = []
firsts (path ∷ paths) = first_of_path path ∷ firsts paths

-- the first n numbers, and 0 where there are fewer
abbrev filled : ℕ → List ℕ → List ℕ
filled zero vs = []
filled (suc n) [] = 0 ∷ filled n []
filled (suc n) (v ∷ vs) = v ∷ filled n vs

length-filled : (n : ℕ) (vs : List ℕ) → length (filled n vs) ≡ n
length-filled zero vs = refl
length-filled (suc n) [] = let r = length-filled n [] in omega (arith, r)
length-filled (suc n) (v ∷ vs) = let r = length-filled n vs in omega (arith, r)

filled_at : (n : ℕ) (vs : List ℕ) (i : ℕ) → i < n → get_or (filled n vs) i 0 ≡ get_or vs i 0
filled_at zero vs i l = absurd (omega (arith, l))
filled_at (suc n) [] zero l = refl
filled_at (suc n) [] (suc i) l = filled_at n [] i (omega (arith, l))
filled_at (suc n) (v ∷ vs) zero l = refl
filled_at (suc n) (v ∷ vs) (suc i) l = filled_at n vs i (omega (arith, l))

-- values that are under their categories', and 0 past them, fit
all_values : (cs : List Category) (vs : List ℕ) → ((i : ℕ) → i < length cs → get_or vs i 0 < value_count cs i) → ((i : ℕ) → length cs ≤ i → get_or vs i 0 ≡ 0) → values_fit cs vs ≡ true
all_values cs [] under past = none cs
  where
    none : (cs : List Category) → values_fit cs [] ≡ true
    none [] = refl
    none (c ∷ cs) = refl
all_values [] (v ∷ vs) under past = ap₂ ◌&&◌ (eq-eqb v 0 (past 0 (omega arith))) (all_values [] vs (λ i l. absurd (omega (arith, l))) (λ i l. past (suc i) (omega arith)))
all_values (c ∷ cs) (v ∷ vs) under past = ap₂ ◌&&◌ (lt-ltb v (length c.values) (under 0 (omega arith))) (all_values cs vs (λ i l. under (suc i) (omega (arith, l))) (λ i l. past (suc i) (omega (arith, l))))

category_end : (schema : Schema) (d : ℕ) → 2 ≤ d → label_end schema d ≡ value_count schema.categories (d - 2)
category_end schema d two = ap (λ (b : Bool). cond {A = ℕ} b 4 (value_count schema.categories (d - 2))) (ne_eqb d 1 (λ e. omega (arith, e, two)))

value_label : (schema : Schema) (s : Spot) (d : ℕ) → 2 ≤ d → label_of schema s d 1 ≡ get_or s.values (d - 2) 0
value_label schema s d two = ap (λ (b : Bool). cond {A = ℕ} b (quadrant_at schema.depth 1 s.x s.y) (get_or s.values (d - 2) 0)) (ne_eqb d 1 (λ e. omega (arith, e, two)))

-- a path without labels, and one with a label
no_labels : (path : List ℕ) (n : ℕ) → length path ≡ n → n ≡ 0 → path ≡ []
no_labels [] n e z = refl
no_labels (l ∷ path) n e z = absurd (omega (arith, e, z))

one_label : (path : List ℕ) (n : ℕ) → length path ≡ n → n ≡ 1 → path ≡ first_of_path path ∷ []
one_label [] n e z = absurd (omega (arith, e, z))
one_label (l ∷ []) n e z = refl
one_label (l ∷ k ∷ path) n e z = absurd (omega (arith, e, z))

module _ (schema : Schema) where
  -- the labels of a path in a category are under its end, and other paths have none
  under_ends : (n d : ℕ) (ps : List (List ℕ)) → 2 ≤ d → map (λ (p : List ℕ). length p) ps ≡ levels_from schema d n → paths_fit schema d ps ≡ true → (i : ℕ) → i < n → d + i < time_dim schema → get_or (firsts ps) i 0 < value_count schema.categories (d + i - 2)
  under_ends zero d ps two e fit i l m = absurd (omega (arith, l))
  under_ends (suc n) d [] two e fit i l m = absurd cc
  under_ends (suc n) d (p ∷ ps) two e fit zero l m =
      let h : length p ≡ deepest schema d = cc in
      let f = and_parts (list_all (label_fits schema d) p) (paths_fit schema (suc d) ps) fit in
      let o = one_label p (deepest schema d) h (deepest_category schema d two (omega (arith, m))) in
      let t : list_all (label_fits schema d) (first_of_path p ∷ []) ≡ true = ap (list_all (label_fits schema d)) (sym o) ∙ f.0 in
      let a = and_parts (label_fits schema d (first_of_path p)) true t in
      let b = ltb-true (first_of_path p) (label_end schema d) a.0 in
      let c = category_end schema d two in
      let g : value_count schema.categories (d - 2) ≡ value_count schema.categories (d + 0 - 2) = ap (value_count schema.categories) (omega arith) in
      omega (arith, b, c, g)
  under_ends (suc n) d (p ∷ ps) two e fit (suc i) l m =
      let f = and_parts (list_all (label_fits schema d) p) (paths_fit schema (suc d) ps) fit in
      let r = under_ends n (suc d) ps (omega (arith, two)) (let h : map (λ (p : List ℕ). length p) ps ≡ levels_from schema (suc d) n = cc in h) f.1 i (omega (arith, l)) (omega (arith, m)) in
      let g : value_count schema.categories (suc d + i - 2) ≡ value_count schema.categories (d + suc i - 2) = ap (value_count schema.categories) (omega arith) in
      omega (arith, r, g)

  past_ends : (n d : ℕ) (ps : List (List ℕ)) → map (λ (p : List ℕ). length p) ps ≡ levels_from schema d n → (i : ℕ) → time_dim schema ≤ d + i → get_or (firsts ps) i 0 ≡ 0
  past_ends n d [] e i l = refl
  past_ends zero d (p ∷ ps) e i l = absurd cc
  past_ends (suc n) d (p ∷ ps) e zero l =
      let h : length p ≡ deepest schema d = cc in
      ap first_of_path (no_labels p (deepest schema d) h (in_time schema d (omega (arith, l))))
  past_ends (suc n) d (p ∷ ps) e (suc i) l = past_ends n (suc d) ps (let h : map (λ (p : List ℕ). length p) ps ≡ levels_from schema (suc d) n = cc in h) i (omega (arith, l))

  -- the paths of a spot past space are those of its values
  value_paths : (s : Spot) (n d : ℕ) (ps : List (List ℕ)) → 2 ≤ d → map (λ (p : List ℕ). length p) ps ≡ levels_from schema d n → ((i : ℕ) → d + i < time_dim schema → get_or s.values (d + i - 2) 0 ≡ get_or (firsts ps) i 0) → paths_from schema s d n ≡ ps
  value_paths s zero d [] two e v = refl
  value_paths s zero d (p ∷ ps) two e v = absurd cc
  value_paths s (suc n) d [] two e v = absurd cc
  value_paths s (suc n) d (p ∷ ps) two e v =
      let rest : paths_from schema s (d + 1) n ≡ ps = ap (λ (k : ℕ). paths_from schema s k n) (let x : d + 1 ≡ suc d = omega arith in x) ∙ value_paths s n (suc d) ps (omega (arith, two)) (let h : map (λ (p : List ℕ). length p) ps ≡ levels_from schema (suc d) n = cc in h) (λ i l. ap (λ (k : ℕ). get_or s.values k 0) (let x : suc d + i - 2 ≡ d + suc i - 2 = omega arith in x) ∙ v (suc i) (omega (arith, l))) in
      ap₂ (λ (x : List ℕ) (xs : List (List ℕ)). x ∷ xs) (own (cases_lt d (time_dim schema))) rest
    where
      here : length p ≡ deepest schema d
      here = cc

      own : (d < time_dim schema) ⊎ (time_dim schema ≤ d) → path_of schema s d ≡ p
      own (inl x) =
          let one = deepest_category schema d two x in
          let o = one_label p (deepest schema d) here one in
          let w : get_or s.values (d - 2) 0 ≡ first_of_path p = ap (λ (k : ℕ). get_or s.values k 0) (let y : d - 2 ≡ d + 0 - 2 = omega arith in y) ∙ v 0 (omega (arith, x)) in
          ap (labels_from schema s d 1) one ∙ (ap (λ (l : ℕ). l ∷ []) (value_label schema s d two ∙ w) ∙ sym o)
      own (inr x) =
          let none = in_time schema d x in
          ap (labels_from schema s d 1) none ∙ sym (no_labels p (deepest schema d) here none)

-- a spot of the schema with given paths
pub record HasSpotOf (schema : Schema) (q : SpotPath) : Type 0 where
  pub spot : Spot
  pub is : spot_path schema spot ≡ q
  pub fit : fits schema spot ≡ true
  pub four : length spot.values ≡ 4

-- the spot with the quadrants of a path, and the first labels of others
abbrev spot_from : ℕ → List ℕ → List (List ℕ) → Spot
spot_from bin space ps = record { x = bits_of of_x space; y = bits_of of_y space; values = filled 4 (firsts ps); bin = bin }

module _ (schema : Schema) (few : length schema.categories ≤ 4) where
  from_paths : (bin n : ℕ) (space : List ℕ) (ps : List (List ℕ)) → suc n ≡ time_dim schema → length space ≡ deepest schema 1 → map (λ (p : List ℕ). length p) ps ≡ levels_from schema 2 n → list_all (label_fits schema 1) space ≡ true → paths_fit schema 2 ps ≡ true → HasSpotOf schema (record { paths = space ∷ ps; bin = bin })
  from_paths bin n space ps is deep rest quads fit = record { spot = spot_from bin space ps; is = same; fit = ap₂ ◌&&◌ (ap₂ ◌&&◌ (lt-ltb (bits_of of_x space) (2 ^ schema.depth) x_lt) (lt-ltb (bits_of of_y space) (2 ^ schema.depth) y_lt)) values; four = length-filled 4 (firsts ps) }
    where
      x_lt : bits_of of_x space < 2 ^ schema.depth
      x_lt = let l = bits_lt of_x x_two space quads in let e : 2 ^ length space ≡ 2 ^ schema.depth = ap (λ (k : ℕ). 2 ^ k) deep in omega (arith, l, e)

      y_lt : bits_of of_y space < 2 ^ schema.depth
      y_lt = let l = bits_lt of_y y_two space quads in let e : 2 ^ length space ≡ 2 ^ schema.depth = ap (λ (k : ℕ). 2 ^ k) deep in omega (arith, l, e)

      at : (i : ℕ) → 2 + i < time_dim schema → get_or (filled 4 (firsts ps)) (2 + i - 2) 0 ≡ get_or (firsts ps) i 0
      at i l = ap (λ (k : ℕ). get_or (filled 4 (firsts ps)) k 0) (let y : 2 + i - 2 ≡ i = omega arith in y) ∙ filled_at 4 (firsts ps) i (omega (arith, l, few))

      same : spot_path schema (spot_from bin space ps) ≡ record { paths = space ∷ ps; bin = bin }
      same = ap (λ (xs : List (List ℕ)). record { paths = xs; bin = bin }) (ap (paths_from schema (spot_from bin space ps) 1) (sym is) ∙ ap₂ (λ (x : List ℕ) (xs : List (List ℕ)). x ∷ xs)
          (ap (labels_from schema (spot_from bin space ps) 1 1) (sym deep) ∙ space_labels schema (spot_from bin space ps) space 1 0 0 (omega arith) (let d = deep in omega (arith, d)) quads (omega arith) (omega arith))
          (value_paths schema (spot_from bin space ps) n 2 ps (omega arith) rest at))

      values : values_fit schema.categories (filled 4 (firsts ps)) ≡ true
      values = all_values schema.categories (filled 4 (firsts ps)) under past
        where
          under : (i : ℕ) → i < length schema.categories → get_or (filled 4 (firsts ps)) i 0 < value_count schema.categories i
          under i l =
              let u = under_ends schema n 2 ps (omega arith) rest fit i (omega (arith, l, is)) (omega (arith, l)) in
              let f = filled_at 4 (firsts ps) i (omega (arith, l, few)) in
              let g : value_count schema.categories (2 + i - 2) ≡ value_count schema.categories i = ap (value_count schema.categories) (omega arith) in
              omega (arith, u, f, g)

          past : (i : ℕ) → length schema.categories ≤ i → get_or (filled 4 (firsts ps)) i 0 ≡ 0
          past i l = go (cases_lt i 4)
            where
              go : (i < 4) ⊎ (4 ≤ i) → get_or (filled 4 (firsts ps)) i 0 ≡ 0
              go (inl x) = filled_at 4 (firsts ps) i x ∙ past_ends schema n 2 ps rest i (omega (arith, l))
              go (inr x) = get_or-eq_default (filled 4 (firsts ps)) 0 (let f = length-filled 4 (firsts ps) in omega (arith, f, x))

  -- paths with as many labels as the schema has levels, all of them the schema's, are those of a spot
  pub spot_with : (q : SpotPath) → label_counts q ≡ schema_levels schema → paths_fit schema 1 q.paths ≡ true → HasSpotOf schema q
  spot_with q counts fit = go (time_dim schema) refl q.paths counts fit
    where
      go : (n : ℕ) → time_dim schema ≡ n → (paths : List (List ℕ)) → map (λ (p : List ℕ). length p) paths ≡ levels_from schema 1 (time_dim schema) → paths_fit schema 1 paths ≡ true → HasSpotOf schema (record { paths = paths; bin = q.bin })
      go zero e paths c f = absurd (omega (arith, e))
      go (suc n) e [] c f = let z : [] ≡ levels_from schema 1 (suc n) = c ∙ ap (levels_from schema 1) e in absurd cc
      go (suc n) e (space ∷ ps) c f =
          let z : map (λ (p : List ℕ). length p) (space ∷ ps) ≡ levels_from schema 1 (suc n) = c ∙ ap (levels_from schema 1) e in
          let x : length space ≡ deepest schema 1 = cc in
          let y : map (λ (p : List ℕ). length p) ps ≡ levels_from schema 2 n = cc in
          let t = and_parts (list_all (label_fits schema 1) space) (paths_fit schema 2 ps) f in
          from_paths q.bin n space ps (sym e) x y t.0 t.1
