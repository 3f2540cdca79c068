-- Slots that are placed and merge meet the conditions of a cube.
use Rattle.std.proofs.Common.{◌≡◌, ◌↔◌, ◌⊎◌, inl, inr, ℕ, zero, suc, ◌+◌, ◌-◌, ◌<◌, ◌≤◌, true, false, eqb, ne_eqb, List, [], ◌∷◌, length, Option, Some, None, MatchOption, refl, sym, ap, ap₂, ◌∙◌, subst, arith}
use Rattle.std.proofs.lemmas.Bool.{cases_lt}
use Rattle.cube_view.specs.Places.{deepest, time_dim}
use Rattle.cube_view.specs.Walks.{Step, down, across, Walk, dimension}
use Rattle.cube_view.specs.declared.schema.Schema.{Schema}
use Rattle.node_arena.specs.declared.link.Link.{Link}
use Rattle.node_arena.specs.Shape.{home_of, HasProperLinks, HasHomes, HasTables, SharesOnlyContent, SharesContent, IsLinked}
use Rattle.node_arena.specs.Slots.{shared, target, Slot, IsNode, IsTable, slot_of, link_of}
use Rattle.node_arena.specs.Stats.{AllRising}
use Rattle.node_arena.proofs.Links.{linked-lt}
use Rattle.node_arena.proofs.Walks.{link_coarser, target-lt}
use Rattle.shape_test.specs.Levels.{Levels, level_step, then_level, left, no_levels}
use Rattle.shape_test.specs.Local.{AllHaveLevels, AllHaveCounts, AllContentsMerge}
use Rattle.shape_test.specs.Ways.{Way, count_below, IsFinest, Merges}
use Rattle.shape_test.proofs.Core.{step_first}
use Rattle.shape_test.proofs.Local.{finer_left, after_root}
use Rattle.shape_test.proofs.OnlyChild.{table_link}
use Rattle.shape_test.proofs.ShapeConditions.{merges_past}
use Rattle.shape_test.specs.Agreeing.{IsOver, MergesFrom}
use Rattle.shape_test.specs.Filled.{HasRow, HasChild, IsFilledNode}
use Rattle.shape_test.specs.Fits.{IsSchemaLocal}
use Rattle.shape_test.specs.Labels.{levels_from, schema_levels}
use Rattle.shape_test.specs.Places.{place_at, levels_at, IsPlaceOf, IsOutside}
use Rattle.shape_test.specs.Standing.{SuitsPlace, AllStand, MergesAt, AllMerge}
use Rattle.shape_test.specs.declared.place.Place.{Place}
use Rattle.shape_test.proofs.AddressPlaces.{place_told}

-- what is told of a place that an address has
pub told_at : (schema : Schema) (a : Walk) (p : Place) → place_at schema a ≡ Some p → IsPlaceOf schema a p
told_at schema a p e = subst (λ (o : Option Place). MatchOption o (IsOutside schema a) (IsPlaceOf schema a)) e (place_told schema a)

-- at time nothing is left
pub left_in_time : (schema : Schema) (p : Place) → p.dim ≡ time_dim schema → p.level ≤ deepest schema p.dim → levels_at schema p ≡ no_levels
left_in_time schema p time within =
    let none : deepest schema p.dim - p.level ≡ 0 = grind arith in
    let end : time_dim schema - p.dim ≡ 0 = omega (arith, time) in
    ap₂ (λ (n m : ℕ). record { rest = n; later = levels_from schema (p.dim + 1) m }) none end

-- where no dimension is left it is time
pub time_left : (schema : Schema) (p : Place) → p.dim ≤ time_dim schema → (levels_at schema p).later ≡ [] → p.dim ≡ time_dim schema
time_left schema p le e = go (time_dim schema - p.dim) refl e
  where
    go : (n : ℕ) → time_dim schema - p.dim ≡ n → levels_from schema (p.dim + 1) n ≡ [] → p.dim ≡ time_dim schema
    go zero x y = omega (arith, x, le)
    go (suc n) x y = absurd cc

-- and where one is, it is not
pub before_time : (schema : Schema) (p : Place) (m : ℕ) (later : List ℕ) → (levels_at schema p).later ≡ m ∷ later → p.dim ≡ time_dim schema → ⊥
before_time schema p m later e time =
    let end : time_dim schema - p.dim ≡ 0 = omega (arith, time) in
    let z : [] ≡ m ∷ later = sym (ap (levels_from schema (p.dim + 1)) end) ∙ e in
    absurd cc

no_both : (s : Slot) → IsNode s → IsTable s → ⊥
no_both s n t = let x : false ≡ true = sym n ∙ t in absurd cc

module _ (schema : Schema) (slots : List Slot) (homes : List Walk) (P : HasProperLinks slots homes) (R : AllRising slots) (all : AllStand schema slots homes) where
  told : (i : ℕ) (l : i < length slots) → IsPlaceOf schema (home_of homes i) (all i l).place
  told i l = told_at schema (home_of homes i) (all i l).place (all i l).at

  has_homes : HasHomes slots homes
  has_homes = record {
    owned = P;
    finer = λ i j e o. let f = (all i (linked-lt slots i e (shared j) o)).links e (shared j) o in (let w = f.within in let s = P.size in omega (arith, w, s), f.coarser);
  }

  has_tables : HasTables (time_dim schema) slots homes
  has_tables = record { tables = λ i l. go i l (all i l).suits }
    where
      go : (i : ℕ) (l : i < length slots) → SuitsPlace schema slots i (all i l).place → IsTable (slot_of slots i) ↔ (dimension (home_of homes i) ≡ time_dim schema)
      go i l (inl t) = (λ _. (told i l).dim ∙ t.time, λ _. t.table)
      go i l (inr n) = (λ t. absurd (no_both (slot_of slots i) n.node t), λ d. absurd (n.before (sym (told i l).dim ∙ d)))

  within : AllHaveLevels (schema_levels schema) slots homes
  within i l = record { levels_left = levels_at schema (all i l).place; is = (told i l).levels }

  at_time : (i : ℕ) → i < length slots → IsTable (slot_of slots i) → left (schema_levels schema) (home_of homes i) ≡ Some no_levels
  at_time i l t = go (all i l).suits
    where
      go : SuitsPlace schema slots i (all i l).place → left (schema_levels schema) (home_of homes i) ≡ Some no_levels
      go (inl s) = (told i l).levels ∙ ap Some (left_in_time schema (all i l).place s.time (told i l).placed.level)
      go (inr s) = absurd (no_both (slot_of slots i) s.node t)

  -- what is left at a slot is what its place has
  is_left : (i : ℕ) (l : i < length slots) (c : Levels) → left (schema_levels schema) (home_of homes i) ≡ Some c → levels_at schema (all i l).place ≡ c
  is_left i l c e = let x : Some (levels_at schema (all i l).place) ≡ Some c = sym (told i l).levels ∙ e in cc

  -- a node but the root has a child above its deepest level ..
  has_child : (i n : ℕ) (later : List ℕ) → 0 < i → i < length slots → left (schema_levels schema) (home_of homes i) ≡ Some (record { rest = suc n; later = later }) → HasChild slots i
  has_child i n later some l at = go (all i l).suits
    where
      rest : deepest schema (all i l).place.dim - (all i l).place.level ≡ suc n
      rest = ap (λ (c : Levels). c.rest) (is_left i l (record { rest = suc n; later = later }) at)

      go : SuitsPlace schema slots i (all i l).place → HasChild slots i
      go (inl s) =
          let z = ap (λ (c : Levels). c.rest) (left_in_time schema (all i l).place s.time (told i l).placed.level) in
          let r = rest in
          absurd (omega (arith, z, r))
      go (inr s) = pick s.filled
        where
          pick : IsFilledNode slots i (eqb (all i l).place.level (deepest schema (all i l).place.dim)) → HasChild slots i
          pick (inl b) = let z = b.0 in absurd (omega (arith, z, some))
          pick (inr b) = b.1 (ne_eqb (all i l).place.level (deepest schema (all i l).place.dim) (λ e. let r = rest in omega (arith, r, e)))

  -- .. a content before time ..
  has_content : (i n m : ℕ) (later : List ℕ) → 0 < i → i < length slots → left (schema_levels schema) (home_of homes i) ≡ Some (record { rest = n; later = m ∷ later }) → IsLinked slots i across
  has_content i n m later some l at = go (all i l).suits
    where
      more : (levels_at schema (all i l).place).later ≡ m ∷ later
      more = ap (λ (c : Levels). c.later) (is_left i l (record { rest = n; later = m ∷ later }) at)

      go : SuitsPlace schema slots i (all i l).place → IsLinked slots i across
      go (inl s) = absurd (before_time schema (all i l).place m later more s.time)
      go (inr s) = pick s.filled
        where
          pick : IsFilledNode slots i (eqb (all i l).place.level (deepest schema (all i l).place.dim)) → IsLinked slots i across
          pick (inl b) = let z = b.0 in absurd (omega (arith, z, some))
          pick (inr b) = b.0

  -- .. and at time it is a table, which has a row
  has_row : (i : ℕ) → i < length slots → left (schema_levels schema) (home_of homes i) ≡ Some no_levels → HasRow slots i
  has_row i l at = go (all i l).suits
    where
      go : SuitsPlace schema slots i (all i l).place → HasRow slots i
      go (inl s) = s.row
      go (inr s) = absurd (s.before (time_left schema (all i l).place (told i l).placed.dim.1 (ap (λ (c : Levels). c.later) (is_left i l no_levels at))))

  -- what a target has left
  target_left : (i : ℕ) (e : Step) (b c : Levels) (k : Link) → left (schema_levels schema) (home_of homes i) ≡ Some b → level_step e b ≡ Some c → link_of slots i e ≡ Some k → left (schema_levels schema) (home_of homes (target k)) ≡ Some c
  target_left i e b c k at s o =
      let d = within (target k) (target-lt slots homes has_homes i e k o) in
      let r = finer_left (schema_levels schema) (link_coarser slots homes has_homes i e k o) d.levels_left d.is in
      d.is ∙ (ap Some (sym (r.same refl)) ∙ (sym r.is ∙ (ap (λ (o : Option Levels). then_level o e) at ∙ s)))

  -- down and across to a row
  descend : (later : List ℕ) (n j : ℕ) → 0 < j → j < length slots → left (schema_levels schema) (home_of homes j) ≡ Some (record { rest = n; later = later }) → (way : Way) × (bin : ℕ) × IsFinest n later way × (0 < count_below slots j way bin)
  descend [] zero j some l at = let r = has_row j l at in ([], r.bin, (refl, refl), r.some)
  descend (m ∷ later) zero j some l at =
      let k = has_content j 0 m later some l at in
      let t = target_left j across (record { rest = 0; later = m ∷ later }) (record { rest = m; later = later }) k.link at refl k.is in
      let r = descend later m (target k.link) (after_root slots homes has_homes j across k.link k.is) (target-lt slots homes has_homes j across k.link k.is) t in
      let s = step_first slots j across k.link r.0 r.1 k.is in
      (across ∷ r.0, r.1, (m, later, refl, refl, r.2), omega (arith, s, r.3))
  descend later (suc n) j some l at =
      let h = has_child j n later some l at in
      let k = h.linked in
      let t = target_left j (down h.label) (record { rest = suc n; later = later }) (record { rest = n; later = later }) k.link at refl k.is in
      let r = descend later n (target k.link) (after_root slots homes has_homes j (down h.label) k.link k.is) (target-lt slots homes has_homes j (down h.label) k.link k.is) t in
      let s = step_first slots j (down h.label) k.link r.0 r.1 k.is in
      (down h.label ∷ r.0, r.1, (n, refl, r.2), omega (arith, s, r.3))

  filled : AllHaveCounts (schema_levels schema) slots homes
  filled j some l =
      let c = within j l in
      let r = descend c.levels_left.later c.levels_left.rest j some l c.is in
      record {
        way = r.0;
        bin = r.1;
        finest = λ d e. let x : Some c.levels_left ≡ Some d = sym c.is ∙ e in let y : c.levels_left ≡ d = cc in subst (λ (z : Levels). IsFinest z.rest z.later r.0) y r.2;
        some = r.3;
      }

  shares : SharesOnlyContent slots
  shares i label c H = go (all i (linked-lt slots i (down label) c H.is)).suits
    where
      go : SuitsPlace schema slots i (all i (linked-lt slots i (down label) c H.is)).place → SharesContent slots i c
      go (inl s) = let z : None ≡ Some c = sym (table_link (slot_of slots i) (down label) s.table) ∙ H.is in absurd cc
      go (inr s) = s.shares label c H

  module _ (sums : AllMerge schema slots homes) where
    merges : AllContentsMerge (schema_levels schema) slots homes
    merges i n m later at way f bin = go (cases_lt i (length slots))
      where
        go : (i < length slots) ⊎ (length slots ≤ i) → Merges slots i way bin
        go (inl l) =
            let c = is_left i l (record { rest = suc n; later = m ∷ later }) at in
            let rest = ap (λ (c : Levels). c.rest) c in
            let M : MergesFrom schema slots i (all i l).place = subst (MergesAt schema slots i) (all i l).at (sums i l) in
            M (omega (arith, rest)) way (subst (λ (z : List ℕ). IsOver z way) (sym (ap (λ (c : Levels). c.later) c)) f) bin
        go (inr l) = merges_past slots i way bin l

    pub gathered : IsSchemaLocal schema slots homes
    gathered = record {
      local = record {
        has_homes = has_homes;
        has_tables = has_tables;
        within = within;
        at_time = at_time;
        filled = filled;
        shares = shares;
        rising = R;
        merges = merges;
      };
      labels = λ i l. (told i l).labels;
    }
