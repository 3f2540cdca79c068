-- Where addresses stand among the dimensions of a schema.
use Rattle.std.proofs.Common.{◌≡◌, ℕ, zero, suc, ◌+◌, ◌-◌, ◌<◌, ◌≤◌, Bool, true, false, cond, ◌&&◌, eqb, ltb-true, nat_lt, List, [], ◌∷◌, length, get_or, Option, Some, None, MatchOption, refl, sym, ap, ap₂, ◌∙◌, subst, arith}
use Rattle.std.proofs.lemmas.Bool.{and_parts, lt-ltb}
use Rattle.cube_view.specs.Places.{deepest, time_dim}
use Rattle.cube_view.specs.Walks.{Step, down, across, Walk, dimension}
use Rattle.cube_view.specs.declared.category.Category.{Category}
use Rattle.cube_view.specs.declared.schema.Schema.{Schema}
use Rattle.shape_test.specs.Levels.{Levels, level_down, level_across, then_level, left}
use Rattle.shape_test.proofs.Local.{level_begun}
use Rattle.shape_test.specs.Homes.{step_of, walk_of}
use Rattle.shape_test.specs.declared.home.Move.{Move}
use Rattle.shape_test.specs.Labels.{levels_from, schema_levels, value_count, label_end, label_fits, labels_fit}
use Rattle.shape_test.specs.Places.{next_place, then_place, place_at, levels_at, IsPlaceOf, IsOutside}
use Rattle.shape_test.specs.declared.place.Place.{Place}

-- the values of a category that is there
count_in : (cs : List Category) (k : ℕ) (d : Category) → k < length cs → value_count cs k ≡ length (get_or cs k d).values
count_in [] k d l = absurd (omega (arith, l))
count_in (c ∷ cs) zero d l = refl
count_in (c ∷ cs) (suc k) d l = count_in cs k d (omega (arith, l))

count_out : (cs : List Category) (k : ℕ) → length cs ≤ k → value_count cs k ≡ 0
count_out [] k l = refl
count_out (c ∷ cs) zero l = absurd (omega (arith, l))
count_out (c ∷ cs) (suc k) l = count_out cs k (omega (arith, l))

end_from : (schema : Schema) (dim : ℕ) → eqb dim 1 ≡ false → label_end schema dim ≡ value_count schema.categories (dim - 2)
end_from schema dim e = ap (λ (b : Bool). cond b 4 (value_count schema.categories (dim - 2))) e

pub end_in : (schema : Schema) (dim k : ℕ) (x : Category) → eqb dim 1 ≡ false → k ≡ dim - 2 → k < length schema.categories → x ≡ get_or schema.categories k x → length x.values ≡ label_end schema dim
end_in schema dim k x e f l g = ap (λ (c : Category). length c.values) g ∙ (sym (count_in schema.categories k x l) ∙ (ap (value_count schema.categories) f ∙ sym (end_from schema dim e)))

pub end_out : (schema : Schema) (dim k : ℕ) → eqb dim 1 ≡ false → k ≡ dim - 2 → length schema.categories ≤ k → label_end schema dim ≡ 0
end_out schema dim k e f l = end_from schema dim e ∙ (ap (value_count schema.categories) (sym f) ∙ count_out schema.categories k l)

-- no label is below 0, and a place past the end is not below it
pub lt_none : (k n l end : ℕ) → n ≤ k → end ≡ 0 → nat_lt k n ≡ nat_lt l end
lt_none k n l end le e = grind arith

-- the levels of the first of some dimensions
levels_cut : (schema : Schema) (dim n : ℕ) → 1 ≤ n → levels_from schema dim n ≡ deepest schema dim ∷ levels_from schema (dim + 1) (n - 1)
levels_cut schema dim zero l = absurd (omega (arith, l))
levels_cut schema dim (suc n) l =
    let a : suc dim ≡ dim + 1 = omega arith in
    let b : n ≡ suc n - 1 = omega arith in
    ap₂ (λ (x y : ℕ). deepest schema dim ∷ levels_from schema x y) a b

pub place_told : (schema : Schema) (a : Walk) → MatchOption (place_at schema a) (IsOutside schema a) (IsPlaceOf schema a)
place_told schema [] = record {
  placed = record { dim = (omega arith, omega arith); level = omega arith };
  dim = refl;
  levels = ap level_across (levels_cut schema 1 (time_dim schema) (omega arith)) ∙ ap (λ (n : ℕ). Some (record { rest = n; later = levels_from schema (1 + 1) (time_dim schema - 1) })) (omega arith);
  labels = refl;
}
place_told schema (e ∷ a) = go (place_at schema a) (place_told schema a)
  where
    go : (o : Option Place) → MatchOption o (IsOutside schema a) (IsPlaceOf schema a) → MatchOption (then_place schema o e) (IsOutside schema (e ∷ a)) (IsPlaceOf schema (e ∷ a))
    go None out = λ H fit. out (let b = level_begun (left (schema_levels schema) a) e H.levels_left H.is in record { levels_left = b.0; is = b.1 }) (used e fit)
      where
        used : (e : Step) → labels_fit schema (e ∷ a) ≡ true → labels_fit schema a ≡ true
        used (down l) f = (and_parts (label_fits schema (dimension a) l) (labels_fit schema a) f).1
        used across f = f
    go (Some p) P = steps e
      where
        steps : (e : Step) → MatchOption (next_place schema p e) (IsOutside schema (e ∷ a)) (IsPlaceOf schema (e ∷ a))
        steps (down l) = pick (nat_lt p.level (deepest schema p.dim) && label_fits schema p.dim l) refl
          where
            pick : (b : Bool) → (nat_lt p.level (deepest schema p.dim) && label_fits schema p.dim l) ≡ b → MatchOption (cond b (Some (record { dim = p.dim; level = p.level + 1 })) None) (IsOutside schema (down l ∷ a)) (IsPlaceOf schema (down l ∷ a))
            pick true x =
                let s = and_parts (nat_lt p.level (deepest schema p.dim)) (label_fits schema p.dim l) x in
                let less : p.level < deepest schema p.dim = ltb-true p.level (deepest schema p.dim) s.0 in
                record {
                  placed = record { dim = P.placed.dim; level = omega (arith, less) };
                  dim = P.dim;
                  levels = ap (λ (o : Option Levels). then_level o (down l)) P.levels ∙ ap (λ (n : ℕ). level_down n (levels_at schema p).later) (let y : deepest schema p.dim - p.level ≡ suc (deepest schema p.dim - (p.level + 1)) = omega (arith, less) in y);
                  labels = ap₂ ◌&&◌ (ap (λ (n : ℕ). label_fits schema n l) P.dim ∙ s.1) P.labels;
                }
            pick false x = λ H fit.
                let b = level_begun (left (schema_levels schema) a) (down l) H.levels_left H.is in
                let same : Some b.0 ≡ Some (levels_at schema p) = sym b.1 ∙ P.levels in
                let is : b.0 ≡ levels_at schema p = cc in
                let some : 0 < deepest schema p.dim - p.level = some_left b.0.rest b.0.later H.levels_left b.2 (ap (λ (c : Levels). c.rest) is) in
                let f = and_parts (label_fits schema (dimension a) l) (labels_fit schema a) fit in
                let y = sym x ∙ ap₂ ◌&&◌ (lt-ltb p.level (deepest schema p.dim) (omega (arith, some))) (ap (λ (n : ℕ). label_fits schema n l) (sym P.dim) ∙ f.0) in
                absurd cc
              where
                some_left : (n : ℕ) (later : List ℕ) (c : Levels) → level_down n later ≡ Some c → n ≡ deepest schema p.dim - p.level → 0 < deepest schema p.dim - p.level
                some_left zero later c z w = absurd cc
                some_left (suc n) later c z w = omega (arith, w)
        steps across = pick (nat_lt p.dim (time_dim schema)) refl
          where
            pick : (b : Bool) → nat_lt p.dim (time_dim schema) ≡ b → MatchOption (cond b (Some (record { dim = p.dim + 1; level = 0 })) None) (IsOutside schema (across ∷ a)) (IsPlaceOf schema (across ∷ a))
            pick true x =
                let less : p.dim < time_dim schema = ltb-true p.dim (time_dim schema) x in
                let d = P.dim in
                let y : time_dim schema - p.dim - 1 ≡ time_dim schema - (p.dim + 1) = omega arith in
                record {
                  placed = record { dim = (omega arith, omega (arith, less)); level = omega arith };
                  dim = omega (arith, d);
                  levels = ap (λ (o : Option Levels). then_level o across) P.levels ∙ (ap level_across (levels_cut schema (p.dim + 1) (time_dim schema - p.dim) (omega (arith, less))) ∙ ap₂ (λ (n m : ℕ). Some (record { rest = n; later = levels_from schema (p.dim + 1 + 1) m })) (omega arith) y);
                  labels = P.labels;
                }
            pick false x = λ H fit.
                let b = level_begun (left (schema_levels schema) a) across H.levels_left H.is in
                let same : Some b.0 ≡ Some (levels_at schema p) = sym b.1 ∙ P.levels in
                let is : b.0 ≡ levels_at schema p = cc in
                let none : time_dim schema - p.dim ≡ 0 = omega (arith, not_less x) in
                let later : b.0.later ≡ [] = ap (λ (c : Levels). c.later) is ∙ ap (levels_from schema (p.dim + 1)) none in
                let z : None ≡ Some H.levels_left = sym (ap level_across later) ∙ b.2 in
                absurd cc
              where
                not_less : nat_lt p.dim (time_dim schema) ≡ false → time_dim schema ≤ p.dim
                not_less e = grind arith

-- what is told of the place after a step
pub told_after : (schema : Schema) (home owner : List Move) (e : Move) (o r : Option Place) → home ≡ e ∷ owner → o ≡ place_at schema (walk_of owner) → r ≡ then_place schema o (step_of e) → MatchOption r (IsOutside schema (walk_of home)) (IsPlaceOf schema (walk_of home))
told_after schema home owner e o r begins owned next =
    let is : r ≡ place_at schema (walk_of home) = next ∙ (ap (λ (o : Option Place). then_place schema o (step_of e)) owned ∙ sym (ap (λ (m : List Move). place_at schema (walk_of m)) begins)) in
    subst (λ (o : Option Place). MatchOption o (IsOutside schema (walk_of home)) (IsPlaceOf schema (walk_of home))) (sym is) (place_told schema (walk_of home))
