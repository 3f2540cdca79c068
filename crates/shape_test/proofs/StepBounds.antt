-- Addresses within a schema's levels have few steps.
use Rattle.std.proofs.Common.{◌≡◌, ℕ, zero, suc, ◌+◌, ◌*◌, ◌-◌, ◌<◌, ◌≤◌, ◌&&◌, Bool, true, false, eqb, eqb-true, eq-eqb, ne_eqb, List, [], ◌∷◌, length, Some, refl, sym, ap, ap₂, ◌∙◌, arith}
use Rattle.std.proofs.lemmas.Bool.{and_parts}
use Rattle.cube_view.proofs.SchemaBounds.{deepest_category}
use Rattle.cube_view.specs.Places.{deepest, time_dim}
use Rattle.cube_view.specs.Walks.{down, across, Walk}
use Rattle.cube_view.specs.declared.schema.Schema.{Schema}
use Rattle.node_arena.specs.Shape.{home_of}
use Rattle.shape_test.specs.Levels.{Levels, level_down, level_across, left, no_levels}
use Rattle.shape_test.specs.Wholes.{is_deepest, is_whole}
use Rattle.shape_test.proofs.Local.{level_begun}
use Rattle.shape_test.specs.Labels.{levels_from, schema_levels}
use Rattle.shape_test.specs.Owners.{most_steps, TellsShort}
use Rattle.shape_test.specs.Places.{levels_at}
use Rattle.shape_test.specs.declared.place.Place.{Place}
use Rattle.shape_test.proofs.CategoryWays.{in_time}

-- the steps across to dimensions and down all their levels
abbrev steps_over : List ℕ → ℕ
steps_over [] = 0
steps_over (n ∷ later) = suc (n + steps_over later)

-- one level less is left after a step down
level_taken : (n : ℕ) (later : List ℕ) (c : Levels) → level_down n later ≡ Some c → (n ≡ suc c.rest) × (steps_over later ≡ steps_over c.later)
level_taken zero later c e = absurd cc
level_taken (suc n) later c e =
    let same : record { rest = n; later = later } ≡ c = cc in
    (ap (λ (z : Levels). suc z.rest) same, ap (λ (z : Levels). steps_over z.later) same)

-- a step across and the levels of the dimension are what was to come
dimension_begun : (later : List ℕ) (c : Levels) → level_across later ≡ Some c → steps_over later ≡ suc (c.rest + steps_over c.later)
dimension_begun [] c e = absurd cc
dimension_begun (n ∷ later) c e =
    let same : record { rest = n; later = later } ≡ c = cc in
    ap (λ (z : Levels). suc (z.rest + steps_over z.later)) same

-- an address and what it has left are no more steps than that
left_steps : (levels : List ℕ) (a : Walk) (c : Levels) → left levels a ≡ Some c → length a + c.rest + steps_over c.later < steps_over levels
left_steps levels [] c e = let d = dimension_begun levels c e in omega (arith, d)
left_steps levels (down l ∷ a) c e =
    let b = level_begun (left levels a) (down l) c e in
    let t = level_taken b.0.rest b.0.later c b.2 in
    let r = left_steps levels a b.0 b.1 in
    omega (arith, r, t.0, t.1)
left_steps levels (across ∷ a) c e =
    let b = level_begun (left levels a) across c e in
    let d = dimension_begun b.0.later c b.2 in
    let r = left_steps levels a b.0 b.1 in
    omega (arith, r, d)

none_left : (n : ℕ) → eqb n 0 ≡ false → 0 < n
none_left zero e = absurd cc
none_left (suc n) e = omega arith

-- a whole address and what it has left are all steps
whole_steps : (levels : List ℕ) (a : Walk) (c : Levels) → left levels a ≡ Some c → is_whole levels a ≡ true → length a + c.rest + steps_over c.later + 1 ≡ steps_over levels
whole_steps levels [] c e w = let d = dimension_begun levels c e in omega (arith, d)
whole_steps levels (down l ∷ a) c e w =
    let b = level_begun (left levels a) (down l) c e in
    let t = level_taken b.0.rest b.0.later c b.2 in
    let r = whole_steps levels a b.0 b.1 w in
    omega (arith, r, t.0, t.1)
whole_steps levels (across ∷ a) c e w =
    let b = level_begun (left levels a) across c e in
    let s = and_parts (is_whole levels a) (is_deepest (left levels a)) w in
    let z = eqb-true b.0.rest 0 (sym (ap is_deepest b.1) ∙ s.1) in
    let d = dimension_begun b.0.later c b.2 in
    let r = whole_steps levels a b.0 b.1 s.0 in
    omega (arith, r, z, d)

-- those of any other address are fewer
part_steps : (levels : List ℕ) (a : Walk) (c : Levels) → left levels a ≡ Some c → is_whole levels a ≡ false → length a + c.rest + steps_over c.later + 1 < steps_over levels
part_steps levels [] c e w = absurd cc
part_steps levels (down l ∷ a) c e w =
    let b = level_begun (left levels a) (down l) c e in
    let t = level_taken b.0.rest b.0.later c b.2 in
    let r = part_steps levels a b.0 b.1 w in
    omega (arith, r, t.0, t.1)
part_steps levels (across ∷ a) c e w =
    let b = level_begun (left levels a) across c e in
    let d = dimension_begun b.0.later c b.2 in
    let r = few b.0 b.1 (is_whole levels a) refl (λ x. part_steps levels a b.0 b.1 x) in
    omega (arith, r, d)
  where
    few : (b : Levels) → left levels a ≡ Some b → (t : Bool) → is_whole levels a ≡ t → (is_whole levels a ≡ false → length a + b.rest + steps_over b.later + 1 < steps_over levels) → length a + steps_over b.later + 1 < steps_over levels
    few b x false y rest = let r = rest y in omega (arith, r)
    few b x true y rest =
        let u : is_deepest (left levels a) ≡ false = sym (ap (λ (t : Bool). t && is_deepest (left levels a)) y) ∙ w in
        let z = none_left b.rest (sym (ap is_deepest x) ∙ u) in
        let r = whole_steps levels a b x y in
        omega (arith, r, z)

-- over n categories and to time
category_steps : (schema : Schema) (n d : ℕ) → 2 ≤ d → d + n ≡ time_dim schema → steps_over (levels_from schema d (suc n)) ≡ 2 * n + 1
category_steps schema zero d two is = let t = in_time schema d (omega (arith, is)) in omega (arith, t)
category_steps schema (suc n) d two is =
    let c = deepest_category schema d two (omega (arith, is)) in
    let r = category_steps schema n (suc d) (omega (arith, two)) (omega (arith, is)) in
    omega (arith, c, r)

schema_steps : (schema : Schema) → steps_over (schema_levels schema) ≡ suc (most_steps schema)
schema_steps schema =
    let n : time_dim schema ≡ suc (suc (length schema.categories)) = omega arith in
    let c = category_steps schema (length schema.categories) 2 (omega arith) (omega arith) in
    ap (λ (k : ℕ). steps_over (levels_from schema 1 k)) n ∙ omega (arith, c)

pub tells_short : TellsShort
tells_short schema slots homes L = record {
  owned = L.local.has_homes.owned;
  short = λ i l.
      let w = L.local.within i l in
      let s = left_steps (schema_levels schema) (home_of homes i) w.levels_left w.is in
      let e = schema_steps schema in
      omega (arith, s, e);
}

-- at time, nothing being left, an address is whole where it has the most steps
pub whole_told : (schema : Schema) (a : Walk) (n most : ℕ) → left (schema_levels schema) a ≡ Some no_levels → n ≡ length a → most ≡ most_steps schema → eqb n most ≡ is_whole (schema_levels schema) a
whole_told schema a n most at is full = go (is_whole (schema_levels schema) a) refl
  where
    go : (t : Bool) → is_whole (schema_levels schema) a ≡ t → eqb n most ≡ t
    go true e = let w = whole_steps (schema_levels schema) a no_levels at e in let s = schema_steps schema in eq-eqb n most (omega (arith, w, s, is, full))
    go false e = let w = part_steps (schema_levels schema) a no_levels at e in let s = schema_steps schema in ne_eqb n most (λ z. omega (arith, w, s, is, full, z))

-- at time nothing is left
pub time_levels : (schema : Schema) (p : Place) → p.dim ≡ time_dim schema → levels_at schema p ≡ no_levels
time_levels schema p e =
    let t = in_time schema p.dim (omega (arith, e)) in
    let rest : deepest schema p.dim - p.level ≡ 0 = omega (arith, t) in
    let none : time_dim schema - p.dim ≡ 0 = omega (arith, e) in
    ap₂ levels_of rest (ap (levels_from schema (p.dim + 1)) none)
  where
    levels_of : ℕ → List ℕ → Levels
    levels_of n later = record { rest = n; later = later }
