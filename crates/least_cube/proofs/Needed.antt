-- In every shape a link is proper where no finer address has all the spots under its own.
use Rattle.std.proofs.Common.{◌≡◌, ◌≢◌, ℕ, zero, suc, ◌<◌, true, false, true≢false, Option, None, ◌⊎◌, inl, inr, List, [], ◌∷◌, Some, length, refl, sym, ap, ◌∙◌, subst, arith, Contains}
use Rattle.node_arena.specs.declared.link.Link.{Link}
use Rattle.cube_view.specs.Walks.{Step, Walk, SpotPath, Under}
use Rattle.node_arena.specs.Amounts.{Weighted, spots_in}
use Rattle.node_arena.specs.Slots.{proper, shared, target, Slot, link_of}
use Rattle.node_arena.specs.Stats.{is_proper}
use Rattle.node_arena.specs.Shape.{home_of, HasHomes, HasShape}
use Rattle.node_arena.proofs.Links.{link_cases, linked-lt}
use Rattle.least_cube.specs.Least.{HasFiner, TellsNeeded}

-- a shared link does not lead to the slot whose home is the link's address, since a proper link leads there
not_at_home : (slots : List Slot) (homes : List Walk) → HasHomes slots homes → (i j : ℕ) (e : Step) → link_of slots i e ≡ Some (shared j) → e ∷ home_of homes i ≢ home_of homes j
not_at_home slots homes H i zero e is same = let x : e ∷ home_of homes i ≡ [] = same ∙ H.root in absurd cc
not_at_home slots homes H i (suc j) e is same =
    let o = H.owner (suc j) (omega arith) (H.finer i (suc j) e is).0 in
    let r = H.at_home o.by (suc j) o.step o.owns in
    let s : e ∷ home_of homes i ≡ o.step ∷ home_of homes o.by = same ∙ r.1 in
    let step : e ≡ o.step = cc in
    let home : home_of homes i ≡ home_of homes o.by = cc in
    let at = H.distinct i o.by (linked-lt slots i e (shared (suc j)) is) (linked-lt slots o.by o.step (proper (suc j)) o.owns) home in
    let both : Some (shared (suc j)) ≡ Some (proper (suc j)) = sym is ∙ (ap (λ (k : ℕ). link_of slots k e) at ∙ (ap (λ (d : Step). link_of slots o.by d) step ∙ o.owns)) in
    absurd (true≢false (sym (ap (λ (o : Option Link). elim o [ None ↦ true | Some l ↦ is_proper l ]) both)))

pub tells_needed : TellsNeeded
tells_needed dims slots homes h S i e l is none = go (link_cases l)
  where
    go : (l ≡ proper (target l)) ⊎ (l ≡ shared (target l)) → is_proper l ≡ true
    go (inl p) = ap is_proper p
    go (inr s) =
        let at = is ∙ ap Some s in
        absurd (none (record {
          to = home_of homes (target l);
          finer = (S.shaped.has_homes.finer i (target l) e at).1;
          differs = not_at_home slots homes S.shaped.has_homes i (target l) e at;
          all = S.shaped.holds.agrees i e l is;
        }))
