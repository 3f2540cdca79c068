-- Ways through categories.
use Rattle.std.proofs.Common.{◌≡◌, ◌⊎◌, inl, inr, ℕ, zero, suc, ◌+◌, ◌-◌, ◌<◌, ◌≤◌, List, [], ◌∷◌, refl, sym, ap, ap₂, ◌∙◌, subst, arith}
use Rattle.std.proofs.lemmas.Bool.{cases_lt}
use Rattle.cube_view.proofs.SchemaBounds.{deepest_category}
use Rattle.cube_view.specs.Places.{deepest, time_dim}
use Rattle.cube_view.specs.Walks.{down, across}
use Rattle.cube_view.specs.declared.schema.Schema.{Schema}
use Rattle.shape_test.specs.Ways.{Way}
use Rattle.shape_test.specs.Agreeing.{value_levels, IsOver}
use Rattle.shape_test.specs.Labels.{levels_from}
use Rattle.shape_test.specs.Places.{levels_at, IsSchemaPlace}
use Rattle.shape_test.specs.declared.place.Place.{Place}

-- without a category a way ends at once
pub over_none : (way : Way) → IsOver (value_levels 0) way → way ≡ []
over_none [] f = refl
over_none (down l ∷ way) f = let x = f.1 in absurd (omega (arith, x))
over_none (across ∷ way) f = let x = f.3 in absurd cc

-- otherwise it begins with a value, and goes on across
pub record BeginsOver (n : ℕ) (way : Way) : Type 0 where
  pub label : ℕ
  pub rest : Way
  pub is : way ≡ down label ∷ across ∷ rest
  pub over : IsOver (value_levels n) rest

some_levels : (n : ℕ) → value_levels n ≡ [] → ⊥
some_levels zero e = absurd cc
some_levels (suc n) e = absurd cc

pub over_one : (n : ℕ) (way : Way) → IsOver (value_levels (suc n)) way → BeginsOver n way
over_one n [] f = let x = f.0 in absurd (omega (arith, x))
over_one n (across ∷ way) f = let x = f.2 in absurd (omega (arith, x))
over_one n (down l ∷ []) f = absurd (some_levels n f.2.1)
over_one n (down l ∷ down k ∷ way) f = let x = f.1 in let y = f.2.1 in absurd (omega (arith, x, y))
over_one n (down l ∷ across ∷ way) f = record {
  label = l;
  rest = way;
  is = refl;
  over = subst (λ (z : List ℕ). IsOver z way) (sym f.2.3) f.2.4;
}

-- and with a value it goes through one more
pub over_more : (n l : ℕ) (way : Way) → IsOver (value_levels n) way → IsOver (value_levels (suc n)) (down l ∷ across ∷ way)
over_more zero l way f = (0, refl, (0, [], refl, refl, f))
over_more (suc n) l way f = (0, refl, (1, value_levels n, refl, refl, f))

-- the levels of time
pub in_time : (schema : Schema) (d : ℕ) → time_dim schema ≤ d → deepest schema d ≡ 0
in_time schema d le = grind arith

-- the levels of categories and time
pub category_levels : (schema : Schema) (n d : ℕ) → 2 ≤ d → d + n ≡ time_dim schema → levels_from schema d (suc n) ≡ value_levels n
category_levels schema zero d two is = ap (λ (m : ℕ). m ∷ []) (in_time schema d (omega (arith, is)))
category_levels schema (suc n) d two is = ap₂ (λ (m : ℕ) (ms : List ℕ). m ∷ ms) (deepest_category schema d two (omega (arith, is))) (category_levels schema n (suc d) (omega (arith, two)) (omega (arith, is)))

-- the levels behind a place in space or a category
pub later_levels : (schema : Schema) (p : Place) (n : ℕ) → 1 ≤ p.dim → p.dim + 1 + n ≡ time_dim schema → (levels_at schema p).later ≡ value_levels n
later_levels schema p n some is =
    let more : time_dim schema - p.dim ≡ suc n = omega (arith, is) in
    ap (levels_from schema (p.dim + 1)) more ∙ category_levels schema n (p.dim + 1) (omega (arith, some)) is

-- a place above its dimension's deepest level stands before time
pub before_end : (schema : Schema) (p : Place) → p.level < deepest schema p.dim → IsSchemaPlace schema p → p.dim < time_dim schema
before_end schema p less P = go (cases_lt p.dim (time_dim schema))
  where
    go : (p.dim < time_dim schema) ⊎ (time_dim schema ≤ p.dim) → p.dim < time_dim schema
    go (inl x) = x
    go (inr x) = let z = in_time schema p.dim x in absurd (omega (arith, z, less))
