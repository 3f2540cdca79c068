-- An insertion, from adding the point at the root.
use Rattle.std.proofs.Common.{◌≡◌, ℕ, ◌<◌, List, [], ◌∷◌, map, length, get_or, Some, is_some, true, Contains, refl, sym, ap, ◌∙◌, subst, arith, ◌⊎◌, inl, inr}
use Rattle.std.proofs.Math.Logic.{∥∥₁_map}
use Rattle.std.proofs.lemmas.List.{length-map}
use Rattle.cube_view.specs.Walks.{Walk, SpotPath, Cursor, after_across, cursor, Under, dimension}
use Rattle.cube_view.proofs.FinerWalks.{Contains-cases}
use Rattle.node_arena.specs.Amounts.{Weighted, spots_in}
use Rattle.node_arena.specs.Slots.{Slot}
use Rattle.node_arena.specs.Shape.{home_of, AreAlike}
use Rattle.proper_path.specs.Making.{IsSpotOf, AllOfShape}
use Rattle.proper_path.specs.Rooted.{state}
use Rattle.point_insert.specs.Known.{IsEnterable, CanEnter}
use Rattle.point_insert.specs.Visited.{VisitsAll}
use Rattle.point_insert.proofs.TrailVisits.{enters_root}
use Rattle.cube_store.specs.Inserting.{IsInsertable, CanInsert, Inserts}
use Rattle.cube_store.proofs.RootShape.{at_start, shape_after}

at_top : (paths : List (List ℕ)) → 0 < length paths → (c : Cursor) → after_across paths ≡ Some c → c.rest ≡ get_or paths 0 []
at_top [] l c e = absurd (omega arith)
at_top (x ∷ paths) l c e = let f : record { rest = x; later = paths } ≡ c = cc in ap (λ (z : Cursor). z.rest) (sym f)

lies_top : (dims : ℕ) (p : SpotPath) → IsSpotOf dims p → Under p []
lies_top dims p P = go p.paths P.size
  where
    go : (paths : List (List ℕ)) → length paths ≡ dims → is_some (after_across paths) ≡ true
    go [] e = let s = P.some in absurd (omega (arith, e, s))
    go (x ∷ paths) e = refl

enterable : (dims : ℕ) (p : Weighted) (slots : List Slot) (homes : List Walk) (h : List Weighted) → IsInsertable dims p slots homes h → IsEnterable dims p slots [] 1 0 homes h
enterable dims p slots homes h K = record {
  rooted = record {
    has_homes = K.shape.has_homes;
    has_tables = K.shape.has_tables;
    spot = K.spot;
    in_range = K.shape.has_homes.some;
    lies = subst (Under p.spot) (sym root) (lies_top dims p.spot K.spot);
    in_dim = ap dimension root;
    rest = λ c e. at_top p.spot.paths (let s = K.spot.size in let n = K.spot.some in omega (arith, s, n)) c (sym (ap (cursor p.spot) root) ∙ e);
  };
  between = at_start dims h p (state slots homes []) K.shape K.alike refl;
  shape = K.alike;
  content = λ l. absurd (omega (arith, l));
  light = K.light;
}
  where
    root : home_of homes 0 ≡ []
    root = K.shape.has_homes.root

pub can_enter_root : (dims : ℕ) (p : Weighted) (slots : List Slot) (updated : List ℕ) (root : ℕ) → updated ≡ [] → root ≡ 0 → ∥ CanInsert dims p slots ∥₁ → ∥ CanEnter dims p slots updated 1 root ∥₁
can_enter_root dims p slots updated root none top R = ∥∥₁_map R (λ C. record {
  homes = C.homes;
  points = C.points;
  known = subst (λ u. IsEnterable dims p slots u 1 root C.homes C.points) (sym none) (subst (λ r. IsEnterable dims p slots [] 1 r C.homes C.points) (sym top) (enterable dims p slots C.homes C.points C.known));
})

all_alike : (dims : ℕ) (p : Weighted) (h : List Weighted) → AllOfShape (spots_in h) p.spot → IsSpotOf dims p.spot → AreAlike dims (spots_in (p ∷ h))
all_alike dims p h A P = record {
  lengths = map (λ path. length path) p.spot.paths;
  all = length-map p.spot.paths (λ path. length path) ∙ P.size;
  same = λ q c. go q (Contains-cases (spots_in h) p.spot q c);
}
  where
    go : (q : SpotPath) → (p.spot ≡ q) ⊎ Contains (spots_in h) q → map (λ path. length path) q.paths ≡ map (λ path. length path) p.spot.paths
    go q (inl e) = ap (λ (z : SpotPath). map (λ path. length path) z.paths) (sym e)
    go q (inr c) = A q c

pub inserts : (dims : ℕ) (p : Weighted) (old new : List Slot) (before after : List ℕ) (root : ℕ) → before ≡ [] → root ≡ 0 → VisitsAll dims p old new before after 1 root → Inserts dims p old new
inserts dims p old new before after root none top V homes h K =
    let V0 : VisitsAll dims p old new [] after 1 0 = subst (λ u. VisitsAll dims p old new u after 1 0) none (subst (λ r. VisitsAll dims p old new before after 1 r) top V) in
    let e = enters_root dims p old new [] after 1 0 refl V0 homes h (enterable dims p old homes h K) in
    record { homes = e.homes'; shape = shape_after dims h p (state old homes []) (state new e.homes' after) K.shape.has_homes.root e.entered (all_alike dims p h K.alike K.spot) }
