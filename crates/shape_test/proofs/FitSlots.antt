-- Slots with a size fit a schema exactly where the homes that owners lead to tell it.
use Rattle.std.proofs.Common.{◌≡◌, ℕ, Bool, false, ◌↔◌, List, Some, None, sym, ◌∙◌, subst, arith}
use Rattle.std.specs.Prelude.{IsTrue}
use Rattle.cube_view.specs.Walks.{Walk}
use Rattle.cube_view.specs.declared.schema.Schema.{Schema}
use Rattle.node_arena.specs.Shape.{HasProperLinks}
use Rattle.node_arena.specs.Slots.{Slot}
use Rattle.node_arena.specs.Stats.{AllRising}
use Rattle.shape_test.specs.Laws.{AllTablesCounted}
use Rattle.shape_test.specs.Fits.{Fits, IsSchemaLocal, IsSizeOf, slots_bag}
use Rattle.shape_test.specs.Owners.{HasNoHomesIn}
use Rattle.shape_test.proofs.SchemaConditions.{cube_is_local, local_is_cube}
use Rattle.shape_test.specs.Places.{HasOutside}
use Rattle.shape_test.proofs.OneHome.{one_home}
use Rattle.shape_test.proofs.SlotsOfLocal.{all_stand}
use Rattle.shape_test.proofs.StepBounds.{tells_short}

module _ (schema : Schema) (slots : List Slot) (counted : AllTablesCounted slots) (rising : AllRising slots) where
  -- slots that fit are local by their homes
  fit_local : (size : ℕ) (F : Fits schema slots size) → IsSchemaLocal schema slots F.homes
  fit_local size F = cube_is_local schema slots F.homes (slots_bag schema slots F.homes) rising F.cube

  -- without homes of so few steps they fit with no size
  pub unfit : (size : ℕ) → HasNoHomesIn schema slots → Fits schema slots size → ⊥
  unfit size none F = none F.homes (tells_short schema slots F.homes (fit_local size F))

  -- slots that fit are local by any homes, and have the size
  fit_back : (homes : List Walk) (size : ℕ) → HasProperLinks slots homes → Fits schema slots size → IsSchemaLocal schema slots homes × IsSizeOf schema (slots_bag schema slots homes) size
  fit_back homes size P F =
      let same = one_home slots F.homes homes F.cube.cube.shape.has_homes.owned P in
      (subst (IsSchemaLocal schema slots) same (fit_local size F), subst (λ (hs : List Walk). IsSizeOf schema (slots_bag schema slots hs) size) same F.sized)

  -- slots whose homes do not meet the conditions fit with no size
  pub unfit_at : (homes : List Walk) (size : ℕ) (r : Bool) → HasProperLinks slots homes → IsTrue r ↔ IsSchemaLocal schema slots homes → r ≡ false → Fits schema slots size → ⊥
  unfit_at homes size r P t f F = let y = t.1 (fit_back homes size P F).0 in absurd cc

  -- nor do those of which a home has no place
  pub unplaced : (homes : List Walk) (size : ℕ) → HasProperLinks slots homes → HasOutside schema homes → Fits schema slots size → ⊥
  unplaced homes size P O F =
      let S = all_stand schema slots homes counted (fit_back homes size P F).0 O.slot (let s = P.size in let w = O.within in omega (arith, s, w)) in
      let z : None ≡ Some S.place = sym O.none ∙ S.at in
      absurd cc

  -- and those whose homes meet them fit with each size of their bag
  pub fit_at : (homes : List Walk) (size : ℕ) (r : Bool) → HasProperLinks slots homes → IsSchemaLocal schema slots homes → IsTrue r ↔ IsSizeOf schema (slots_bag schema slots homes) size → IsTrue r ↔ Fits schema slots size
  fit_at homes size r P L t = (
    λ y. record { homes = homes; cube = local_is_cube schema slots homes counted L; sized = t.0 y },
    λ F. t.1 (fit_back homes size P F).1,
  )
