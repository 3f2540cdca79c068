-- The way of a visit one step on: to the content of a node, or to the child of a label.
use Rattle.std.proofs.Common.{◌≡◌, ℕ, ◌+◌, ◌-◌, ◌<◌, ◌≤◌, Bool, true, false, cond, eqb, ◌⊎◌, inl, inr, List, ◌∷◌, Option, Some, None, length, get_or, set, sym, ap, ◌∙◌, subst, subst₂, arith, eqb-true, eq-eqb, true≢false}
use Rattle.std.proofs.lemmas.List.{get_or-set_same, get_or-set_other, length-set, length-map, map-set}
use Rattle.cube_view.specs.Places.{time_dim, deepest}
use Rattle.cube_view.specs.Points.{Point}
use Rattle.cube_view.specs.Walks.{down, across, Walk, HasSpot, dimension}
use Rattle.cube_view.specs.declared.schema.Schema.{Schema}
use Rattle.node_arena.specs.Amounts.{Weighted, spots_in}
use Rattle.node_arena.specs.Shape.{home_of}
use Rattle.node_arena.specs.Slots.{Slot, walk_end}
use Rattle.node_arena.specs.declared.link.SlotId.{SlotId}
use Rattle.point_insert.specs.Visited.{place_of}
use Rattle.proper_path.specs.Paths.{level_of, paths_of}
use Rattle.proper_path.specs.Rooted.{places_of}
use Rattle.group_insert.specs.Entry.{root_at, root_level, way_below, way_on, HasRoots, TellsShared, HasEntry}
use Rattle.group_insert.specs.FinerWalk.{finer_steps, entry_of, LeadsFiner, no_link, same_end}
use Rattle.group_insert.specs.Halfway.{IsHalfway}
use Rattle.group_insert.specs.Labels.{TellsOneLabel}
use Rattle.group_insert.specs.Later.{PutOff, IsPutOff}
use Rattle.group_insert.specs.Parts.{part_of}
use Rattle.group_insert.specs.Visiting.{IsOnWay}
use Rattle.group_insert.specs.Ways.{value_gone, IsOpenIn, IsRootOn}
use Rattle.group_insert.specs.declared.put_off.PutOffLink.{PutOffLink}
use Rattle.group_insert.specs.declared.way.Way.{Way}
use Rattle.group_insert.proofs.Turns.{entry, may_put_off}
use Rattle.group_insert.proofs.Ways.{way_kept, way_in_space, way_across, way_down}

-- the place of the root that was set, and those of the others
root_set : (roots : List SlotId) (n : ℕ) (s : SlotId) → n < length roots → get_or (places_of (set roots n s)) n 0 ≡ s.0
root_set roots n s lt =
    ap (λ z. get_or z n 0) (map-set (λ (id : SlotId). id.0) roots n s)
    ∙ get_or-set_same (places_of roots) n s.0 0 (let e = length-map roots (λ (id : SlotId). id.0) in omega (arith, lt, e))

root_other : (roots : List SlotId) (n k : ℕ) (s : SlotId) → (k ≡ n → ⊥) → get_or (places_of (set roots n s)) k 0 ≡ get_or (places_of roots) k 0
root_other roots n k s d = ap (λ z. get_or z k 0) (map-set (λ (id : SlotId). id.0) roots n s) ∙ get_or-set_other (places_of roots) n k s.0 0 d

-- as slots are added, the way to a slot stays
pub on_way_kept : (old new : List Slot) (homes homes' : List Walk) (way : Way) (dim level i : ℕ) → i < length old → length old ≤ length new → ((j : ℕ) → j < length old → home_of homes' j ≡ home_of homes j) → IsOnWay old homes way dim level i → IsOnWay new homes' way dim level i
on_way_kept old new homes homes' way dim level i lt le same W = record {
  leads = way_kept old new homes homes' way.values (places_of way.roots) way.level dim i lt le same W.leads;
  fresh = W.fresh;
  sized = W.sized;
}

-- on to the content
pub on_way_across : (slots : List Slot) (homes : List Walk) (way : Way) (dim level i : ℕ) (s : SlotId) → 1 ≤ dim → dim + 1 < 6 → dimension (home_of homes i) ≡ dim → s.0 < length slots → home_of homes s.0 ≡ across ∷ home_of homes i → IsOnWay slots homes way dim level i → IsOnWay slots homes (way_on way dim s) (dim + 1) 0 s.0
on_way_across slots homes way dim level i s some six d lt at W = record {
  leads = way_across slots homes way.values (set way.values (dim + 1) None) (places_of way.roots) (places_of (set way.roots (dim + 1) s)) way.level dim i s.0 some d lt at none
      (λ k le. get_or-set_other way.values (dim + 1) k None None (λ e. omega (arith, le, e)))
      (root_set way.roots (dim + 1) s (let e = W.sized.1 in omega (arith, six, e)))
      (λ k le. root_other way.roots (dim + 1) k s (λ e. omega (arith, le, e)))
      W.leads;
  fresh = λ a b. none;
  sized = (length-set way.values (dim + 1) None ∙ W.sized.0, length-set way.roots (dim + 1) s ∙ W.sized.1);
}
  where
    none : value_gone (set way.values (dim + 1) None) (dim + 1) ≡ None
    none = get_or-set_same way.values (dim + 1) None None (let e = W.sized.0 in omega (arith, six, e))

-- down a label
pub on_way_down : (slots : List Slot) (homes : List Walk) (way : Way) (dim level i l : ℕ) (s : SlotId) → 1 ≤ dim → dim < 6 → (2 ≤ dim → level ≡ 0) → dimension (home_of homes i) ≡ dim → level_of (home_of homes i) ≡ level → s.0 < length slots → home_of homes s.0 ≡ down l ∷ home_of homes i → IsOnWay slots homes way dim level i → IsOnWay slots homes (way_below way dim (level + 1) l s) dim (level + 1) s.0
on_way_down slots homes way dim level i l s some six first d lv lt at W = go (eqb dim 1) (λ e. eqb-true dim 1 e) (λ e n. true≢false (sym (eq-eqb dim 1 n) ∙ e))
  where
    in_space : dim ≡ 1 → IsOnWay slots homes (record { values = way.values; roots = set way.roots 1 s; level = level + 1 }) dim (level + 1) s.0
    in_space e = record {
      leads = subst (λ n. (f k : ℕ) → 1 ≤ f → f + k ≡ n → IsOpenIn way.values f → IsRootOn slots homes way.values (level + 1) f k (get_or (places_of (set way.roots 1 s)) f 0) s.0) (sym e)
          (way_in_space slots homes way.values (places_of (set way.roots 1 s)) (level + 1) s.0 lt (ap dimension at ∙ (d ∙ e)) (ap level_of at ∙ (let x = lv in omega (arith, x))) (root_set way.roots 1 s (let x = W.sized.1 in omega (arith, x))));
      fresh = λ a b. absurd (omega (arith, b));
      sized = (W.sized.0, length-set way.roots 1 s ∙ W.sized.1);
    }

    in_category : (dim ≡ 1 → ⊥) → IsOnWay slots homes (record { values = set way.values dim (Some l); roots = way.roots; level = way.level }) dim (level + 1) s.0
    in_category n = record {
      leads = way_down slots homes way.values (set way.values dim (Some l)) (places_of way.roots) way.level dim i s.0 l two at (W.fresh two (first two))
          (get_or-set_same way.values dim (Some l) None (let x = W.sized.0 in omega (arith, six, x)))
          (λ k less. get_or-set_other way.values dim k (Some l) None (λ e. omega (arith, less, e)))
          W.leads;
      fresh = λ a b. absurd (omega (arith, b));
      sized = (length-set way.values dim (Some l) ∙ W.sized.0, W.sized.1);
    }
      where
        above : (m : ℕ) → 1 ≤ m → (m ≡ 1 → ⊥) → 2 ≤ m
        above m a b = grind arith

        two : 2 ≤ dim
        two = above dim some n

    go : (b : Bool) → (b ≡ true → dim ≡ 1) → (b ≡ false → dim ≡ 1 → ⊥) → IsOnWay slots homes (cond b (record { values = way.values; roots = set way.roots 1 s; level = level + 1 }) (record { values = set way.values dim (Some l); roots = way.roots; level = way.level })) dim (level + 1) s.0
    go true y n = in_space (y cc)
    go false y n = in_category (n cc)

-- the roots of open dimensions are slots
pub has_roots : (slots : List Slot) (homes : List Walk) (way : Way) (dim level i : ℕ) → IsOnWay slots homes way dim level i → HasRoots slots way dim
has_roots slots homes way dim level i W from some less o = (W.leads from (dim - from) some (omega (arith, less)) o).in_range

-- so the entry that was found may be put off
module _ (z : Schema) (group : List Point) (slots : List Slot) (homes : List Walk) (h : List Weighted) (way : Way) (dim level i l : ℕ) (part : List Point) (before after : List PutOffLink) (W : IsOnWay slots homes way dim level i) (E : HasEntry z slots part way i l dim before after) where
  abbrev from : ℕ
  from = E.turn.from

  abbrev root : ℕ
  root = root_at way from

  R : IsRootOn slots homes way.values way.level from (dim - from) root i
  R = W.leads from (dim - from) E.turn.some (let e = E.turn.early in omega (arith, e)) E.turn.turn.is_open

  root_is_at : level_of (home_of homes root) ≡ root_level way from
  root_is_at = go (eqb from 1) (λ e. eqb-true from 1 e) (λ e n. true≢false (sym (eq-eqb from 1 n) ∙ e))
    where
      go : (b : Bool) → (b ≡ true → from ≡ 1) → (b ≡ false → from ≡ 1 → ⊥) → level_of (home_of homes root) ≡ cond b way.level 0
      go true y n = R.at_level.0 (y cc)
      go false y n = R.at_level.1 (n cc)

  leads : (o : Option SlotId) → TellsShared slots i l o → (o ≡ None) ⊎ (walk_end slots root (finer_steps (entry_of E.entry)) ≡ place_of o) → LeadsFiner slots (entry way.values (places_of way.roots) i l from (dim - from - 1) E.entry.turn)
  leads None t x = no_link t
  leads (Some to) t (inl x) = absurd cc
  leads (Some to) t (inr x) = same_end to.0 t (subst (λ k. walk_end slots root (finer_steps k) ≡ Some to.0) E.turn.turn.is x)

  -- the entry in the words of walks
  abbrev pub entry_is : PutOff
  entry_is = entry way.values (places_of way.roots) i l from (dim - from - 1) E.entry.turn

  pub entry_may : (done open' : Walk → Type 0) (put : List PutOff) → IsHalfway (time_dim z) slots homes h (paths_of z group) done open' put → i < length slots → (2 ≤ dim → level ≡ 0) → HasSpot (spots_in (paths_of z group)) (down l ∷ home_of homes i) → part ≡ part_of z group (down l ∷ home_of homes i) → IsPutOff slots homes h (paths_of z group) entry_is
  entry_may done open' put M lt first w p =
      let some = E.turn.some in
      let early = E.turn.early in
      let two : 2 ≤ dim = omega (arith, some, early) in
      may_put_off z group slots homes h done open' put way.values (places_of way.roots) way.level dim i l from (dim - from - 1) E.entry.turn M lt (W.fresh two (first two)) W.leads some (omega (arith, early)) E.turn.turn.is_open
      (subst₂ (λ a b. a < deepest z b) (sym root_is_at) (sym R.in_dim) E.turn.turn.less)
      w
      (subst (λ x. TellsOneLabel z (dimension (home_of homes root)) (level_of (home_of homes root) + 1) x (Some E.entry.turn)) p (subst₂ (λ a b. TellsOneLabel z b (a + 1) part (Some E.entry.turn)) (sym root_is_at) (sym R.in_dim) E.turn.turn.one))
      (leads E.old E.held E.turn.turn.leads)
