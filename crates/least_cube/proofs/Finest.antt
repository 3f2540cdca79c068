-- The finest address that has all spots of an address: there is one at most, and to it a link of a least cube leads.
use Rattle.std.proofs.Common.{◌≡◌, ◌≢◌, ℕ, zero, suc, ◌<◌, ◌≤◌, max, ◌⊎◌, inl, inr, List, [], ◌∷◌, Some, Contains, length, refl, sym, ap, ◌∙◌, subst, arith}
use Rattle.node_arena.specs.declared.link.Link.{Link}
use Rattle.cube_view.specs.Walks.{Step, Walk, SpotPath, Under, HasSpot, IsCoarser}
use Rattle.cube_view.proofs.FinerWalks.{coarser_under}
use Rattle.node_arena.specs.Amounts.{Weighted, spots_in}
use Rattle.node_arena.specs.Slots.{proper, target, Slot, link_of}
use Rattle.node_arena.specs.Shape.{home_of, HasShape}
use Rattle.node_arena.proofs.Walks.{link_coarser, target-lt}
use Rattle.least_cube.specs.Least.{HasFiner, IsLeast, IsFinestOf, TellsOneFinest, TellsTargets}
use Rattle.least_cube.proofs.Levels.{level-coarser, finer_cases, none_above}
use Rattle.least_cube.proofs.Joins.{tighten, join_of}

-- a finest address is each finer one that has all spots of the first
finest_is : (h : List SpotPath) (a b d : Walk) → IsFinestOf h a b → IsCoarser b d → ((q : SpotPath) → Contains h q → Under q a → Under q d) → b ≡ d
finest_is h a b d F finer all = go (finer_cases finer)
  where
    go : (b ≡ d) ⊎ (b ≢ d) → b ≡ d
    go (inl e) = e
    go (inr n) = absurd (F.none (record { to = d; finer = finer; differs = n; all = λ q c u. all q c (coarser_under F.finer q u) }))

pub tells_one_finest : TellsOneFinest
tells_one_finest h a b c spot F G =
    let J = join_of F.finer G.finer spot.spot (F.all spot.spot spot.is_in spot.lies) (G.all spot.spot spot.is_in spot.lies) in
    let x = level-coarser F.finer in
    let y = level-coarser G.finer in
    let f = J.far in
    let all = λ (q : SpotPath) (k : Contains h q) (u : Under q a). J.both q (F.all q k u) (G.all q k u) in
    finest_is h a b J.to F (tighten J.first (omega arith)) all ∙ sym (finest_is h a c J.to G (tighten J.second (omega arith)) all)

-- no finer address has all spots of a home below the top
home_is_finest : (dims : ℕ) (slots : List Slot) (homes : List Walk) (h : List Weighted) → HasShape dims slots homes h → IsLeast slots homes (spots_in h) → (j : ℕ) → 0 < j → j < length slots → HasFiner (spots_in h) (home_of homes j) → ⊥
home_is_finest dims slots homes h S L j above below finer =
    let o = S.shaped.has_homes.owner j above below in
    L o.by j o.step o.owns (subst (HasFiner (spots_in h)) (S.shaped.has_homes.at_home o.by j o.step o.owns).1 finer)

pub tells_targets : TellsTargets
tells_targets dims slots homes h S L i e l is = record {
  finer = coarser;
  all = S.shaped.holds.agrees i e l is;
  none = go (target l) refl;
}
  where
    coarser : IsCoarser (e ∷ home_of homes i) (home_of homes (target l))
    coarser = link_coarser slots homes S.shaped.has_homes i e l is

    go : (j : ℕ) → target l ≡ j → HasFiner (spots_in h) (home_of homes (target l)) → ⊥
    go zero at =
        let top : home_of homes (target l) ≡ [] = ap (λ (k : ℕ). home_of homes k) at ∙ S.shaped.has_homes.root in
        let none = none_above coarser (ap (λ (w : Walk). length w) top) in
        absurd (omega arith)
    go (suc j) at = home_is_finest dims slots homes h S L (target l) (omega arith) (target-lt slots homes S.shaped.has_homes i e l is)
