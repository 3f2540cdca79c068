-- A link may be put off where all points below it, old and new, go down one label of an open dimension.
use Rattle.std.proofs.Common.{◌≡◌, ℕ, suc, ◌+◌, ◌<◌, ◌≤◌, ◌⊎◌, inl, inr, List, ◌∷◌, ◌++◌, Option, Some, None, Contains, length, get_or, sym, ◌∙◌, subst, eq-eqb}
use Rattle.std.proofs.lemmas.List.Elements.{All-contains}
use Rattle.cube_view.specs.Paths.{spot_path}
use Rattle.cube_view.specs.Places.{time_dim, deepest}
use Rattle.cube_view.specs.Points.{Point, spot_of}
use Rattle.cube_view.specs.Walks.{down, across, Walk, SpotPath, Under, HasSpot, dimension}
use Rattle.cube_view.specs.declared.schema.Schema.{Schema}
use Rattle.node_arena.specs.Amounts.{Weighted, spots_in}
use Rattle.node_arena.specs.Shape.{home_of}
use Rattle.node_arena.specs.Slots.{proper, Slot}
use Rattle.proper_path.specs.Order.{IsAbove}
use Rattle.proper_path.specs.Paths.{level_of, paths_of}
use Rattle.proper_path.proofs.Above.{under_above}
use Rattle.proper_path.proofs.Homes.{IsFree}
use Rattle.proper_path.proofs.SpotRemainders.{under-down}
use Rattle.proper_path.proofs.Order.{above-step}
use Rattle.group_insert.specs.FinerWalk.{LeadsFiner, no_link, same_end}
use Rattle.group_insert.specs.Halfway.{IsHalfway}
use Rattle.group_insert.specs.Labels.{label_at, TellsOneLabel}
use Rattle.group_insert.specs.Later.{PutOff, IsPutOff}
use Rattle.group_insert.specs.Parts.{part_of}
use Rattle.group_insert.specs.Ways.{value_gone, way_from, IsOpenIn, IsWayTo}
use Rattle.group_insert.proofs.FinerWalk.{base_above, turns_before}
use Rattle.group_insert.proofs.GroupParts.{in_part, spot_is_of}
use Rattle.group_insert.proofs.NewSlots.{shared_free}
use Rattle.node_arena.proofs.AddressAmounts.{spots_in-append_cases}
use Rattle.group_insert.proofs.Ways.{way_leads}

-- all points of an address's part have one label at the address b, so they go down it from there
turns_with : (z : Schema) (group : List Point) (b x : Walk) (t : ℕ) → level_of b < deepest z (dimension b) → IsAbove b x → TellsOneLabel z (dimension b) (level_of b + 1) (part_of z group x) (Some t) → (q : SpotPath) → Contains (spots_in (paths_of z group)) q → Under q x → Under q (down t ∷ b)
turns_with z group b x t lt f T q c u =
    let r = spot_is_of z group q c in
    let v : Under (spot_path z (spot_of r.0)) x = subst (λ y. Under y x) (sym r.2) u in
    let l = All-contains (λ p. label_at z (dimension b) (level_of b + 1) p ≡ t) (part_of z group x) r.0 T (in_part z group x r.0 r.1 v) in
    subst (λ y. Under y (down t ∷ b)) r.2 (under-down z (spot_of r.0) b t (under_above f (spot_path z (spot_of r.0)) v) lt ∙ eq-eqb (label_at z (dimension b) (level_of b + 1) r.0) t l)

leads_free : (slots : List Slot) (k : PutOff) → LeadsFiner slots k → IsFree slots k.node (down k.label)
leads_free slots k (no_link is) j x = let m : None ≡ Some (proper j) = sym is ∙ x in absurd cc
leads_free slots k (same_end s is at) j x = shared_free slots k.node s (down k.label) is j x

-- the entry for the label l of node i, whose walk turns off by t at the root of dimension f
abbrev pub entry : List (Option ℕ) → List ℕ → ℕ → ℕ → ℕ → ℕ → ℕ → PutOff
entry values roots i l f n t = record { node = i; label = l; base = get_or roots f 0; turn = t; way = way_from values f n }

pub may_put_off : (z : Schema) (group : List Point) (slots : List Slot) (homes : List Walk) (h : List Weighted) (done open' : Walk → Type 0) (put : List PutOff) (values : List (Option ℕ)) (roots : List ℕ) (level dim i l f n t : ℕ) → IsHalfway (time_dim z) slots homes h (paths_of z group) done open' put → i < length slots → value_gone values dim ≡ None → IsWayTo slots homes values roots level dim i → 1 ≤ f → f + suc n ≡ dim → IsOpenIn values f → level_of (home_of homes (get_or roots f 0)) < deepest z (dimension (home_of homes (get_or roots f 0))) → HasSpot (spots_in (paths_of z group)) (down l ∷ home_of homes i) → TellsOneLabel z (dimension (home_of homes (get_or roots f 0))) (level_of (home_of homes (get_or roots f 0)) + 1) (part_of z group (down l ∷ home_of homes i)) (Some t) → LeadsFiner slots (entry values roots i l f n t) → IsPutOff slots homes h (paths_of z group) (entry values roots i l f n t)
may_put_off z group slots homes h done open' put values roots level dim i l f n t M lt was W some e o lv w T L = record {
  in_range = (lt, (W f (suc n) some e o).in_range);
  leads = leads;
  free = leads_free slots (entry values roots i l f n t) L;
  wanted = w;
  turns = λ q c u. turns q u (spots_in-append_cases (paths_of z group) h q c);
}
  where
    leads : home_of homes i ≡ way_from values f n ++ across ∷ home_of homes (get_or roots f 0)
    leads = way_leads slots homes values roots level dim i f n was W some e o

    turns : (q : SpotPath) → Under q (down l ∷ home_of homes i) → Contains (spots_in (paths_of z group)) q ⊎ Contains (spots_in h) q → Under q (down t ∷ home_of homes (get_or roots f 0))
    turns q u (inl c) = turns_with z group (home_of homes (get_or roots f 0)) (down l ∷ home_of homes i) t lv (above-step (base_above homes (entry values roots i l f n t) leads)) T q c u
    turns q u (inr c) = turns_before slots homes (spots_in h) (spots_in (paths_of z group ++ h)) (entry values roots i l f n t) M.has_homes M.holds lt (W f (suc n) some e o).in_range leads L q c u
