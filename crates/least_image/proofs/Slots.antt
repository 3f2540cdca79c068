-- Each slot of a least cube is a slot of any least cube of the same bag, its links led as the slots are.
use Rattle.std.proofs.Common.{◌≡◌, ◌≢◌, ℕ, zero, suc, ◌+◌, ◌<◌, ◌≤◌, Bool, true, false, cond, ltb, ◌⊎◌, inl, inr, ◌↔◌, List, [], ◌∷◌, ◌++◌, map, length, Option, Some, None, All, Contains, slice_index_or, refl, sym, ap, ap₂, ◌∙◌, subst, subst₂, arith, true≢false}
use Rattle.std.proofs.lemmas.Bool.{cases_lt, lt-ltb, le-ltb}
use Rattle.std.proofs.lemmas.List.{get_or_past, map-append}
use Rattle.std.proofs.lemmas.List.Elements.{All-get_or}
use Rattle.cube_view.specs.Walks.{Step, down, across, Walk, SpotPath, HasSpot}
use Rattle.time_table.specs.Counts.{BinCounts, AllCounted}
use Rattle.time_table.proofs.CountLaws.{same_counts}
use Rattle.node_arena.specs.declared.link.Link.{Link}
use Rattle.node_arena.specs.declared.link.LinkKind.{LinkKind}
use Rattle.node_arena.specs.declared.link.LinkKind.TheVariants.{Proper, Shared}
use Rattle.node_arena.specs.Amounts.{Weighted, spots_in, amount_under}
use Rattle.node_arena.specs.Slots.{id_of, proper, target, Children, IsRising, Slot, node, table, empty_node, is_table, children_of, counts_of, slot_of, link, link_of, count}
use Rattle.node_arena.specs.Stats.{is_proper_kind, is_proper}
use Rattle.node_arena.specs.Shape.{home_of, HasShape}
use Rattle.node_arena.proofs.Links.{link_cases, linked-lt}
use Rattle.node_arena.proofs.Walks.{target-lt}
use Rattle.least_cube.specs.Least.{HasFiner, IsFinestOf, HaveSameSpots}
use Rattle.cube_view.proofs.FinerWalks.{iff_same}
use Rattle.least_cube.proofs.Fewest.{led_place, led_place-past, led_place-below, led_place-home, led_place-apart, led_place-table}
use Rattle.least_cube.proofs.Finest.{tells_one_finest, tells_targets}
use Rattle.least_cube.proofs.Needed.{tells_needed}
use Rattle.cube_image.specs.Order.{owned_by, owned_children, owned_content, moved}
use Rattle.cube_image.specs.Rest.{byte_children}
use Rattle.cube_image.proofs.Rests.{rises}
use Rattle.least_image.specs.OneImage.{AreOneBag, IsLeastCube}
use Rattle.least_image.proofs.Children.{children_same}
use Rattle.least_image.proofs.Moves.{led_link, led_option, led_child, owned-led_content, owned-led_children, moved-led_content, moved-led_children}

kind_same : (k l : LinkKind) → is_proper_kind k ≡ is_proper_kind l → k ≡ l
kind_same Proper Proper e = refl
kind_same Proper Shared e = absurd (true≢false e)
kind_same Shared Proper e = absurd (true≢false (sym e))
kind_same Shared Shared e = refl

finer_same : (h h' : List Weighted) → HaveSameSpots h h' → (a : Walk) → HasFiner (spots_in h') a → HasFiner (spots_in h) a
finer_same h h' same a F = record { to = F.to; finer = F.finer; differs = F.differs; all = λ q c u. F.all q ((same q).0 c) u }

spots_back : (h h' : List Weighted) → HaveSameSpots h h' → HaveSameSpots h' h
spots_back h h' same q = ((same q).1, (same q).0)

spot_same : (h h' : List Weighted) → HaveSameSpots h h' → (a : Walk) → HasSpot (spots_in h) a → HasSpot (spots_in h') a
spot_same h h' same a S = record { spot = S.spot; is_in = (same S.spot).0 S.is_in; lies = S.lies }

finest_same : (h h' : List Weighted) → HaveSameSpots h h' → (a b : Walk) → IsFinestOf (spots_in h') a b → IsFinestOf (spots_in h) a b
finest_same h h' same a b F = record {
  finer = F.finer;
  all = λ q c u. F.all q ((same q).0 c) u;
  none = λ f. F.none (finer_same h' h (spots_back h h' same) b f);
}

module _ (dims : ℕ) (slots slots' : List Slot) (homes homes' : List Walk) (h h' : List Weighted) (C : IsLeastCube dims slots homes h) (D : IsLeastCube dims slots' homes' h') (B : AreOneBag h h') where
  -- where a slot is led
  abbrev pub led : ℕ → ℕ
  led i = led_place slots homes slots' i

  at_home : (i : ℕ) (l : i < length slots) → (led i < length slots') × (home_of homes' (led i) ≡ home_of homes i)
  at_home i l = (led_place-below dims slots slots' homes homes' h h' C.shape C.least D.shape B.spots i l, led_place-home dims slots slots' homes homes' h h' C.shape C.least D.shape B.spots i l)

  pub led-top : led 0 ≡ 0
  led-top =
      let some = C.shape.shaped.has_homes.some in
      let home : home_of homes' (led 0) ≡ home_of homes' 0 = (at_home 0 some).1 ∙ (C.shape.shaped.has_homes.root ∙ sym D.shape.shaped.has_homes.root) in
      D.shape.shaped.has_homes.distinct (led 0) 0 ((at_home 0 some).0) D.shape.shaped.has_homes.some home

  -- a link and the one at the same address of the other cube
  module _ (i : ℕ) (l : i < length slots) (e : Step) where
    at_same : e ∷ home_of homes' (led i) ≡ e ∷ home_of homes i
    at_same = ap (λ (a : Walk). e ∷ a) ((at_home i l).1)

    there : (k : Link) → link_of slots i e ≡ Some k → link_of slots' (led i) e ≡ None → ⊥
    there k is none =
        let spot = spot_same h h' B.spots (e ∷ home_of homes i) (C.shape.shaped.holds.wanted i e k is) in
        let n = D.shape.shaped.holds.needed (led i) e ((at_home i l).0) (subst (HasSpot (spots_in h')) (sym at_same) spot) in
        let x : None ≡ Some n.link = sym none ∙ n.is in
        absurd cc

    here : (k : Link) → link_of slots' (led i) e ≡ Some k → link_of slots i e ≡ None → ⊥
    here k is none =
        let spot = spot_same h' h (spots_back h h' B.spots) (e ∷ home_of homes' (led i)) (D.shape.shaped.holds.wanted (led i) e k is) in
        let n = C.shape.shaped.holds.needed i e l (subst (HasSpot (spots_in h)) at_same spot) in
        let x : None ≡ Some n.link = sym none ∙ n.is in
        absurd cc

    module _ (k k' : Link) (is : link_of slots i e ≡ Some k) (is' : link_of slots' (led i) e ≡ Some k') where
      inside : target k < length slots
      inside = target-lt slots homes C.shape.shaped.has_homes i e k is

      homes_same : home_of homes (target k) ≡ home_of homes' (target k')
      homes_same =
          tells_one_finest (spots_in h) (e ∷ home_of homes i) (home_of homes (target k)) (home_of homes' (target k')) (C.shape.shaped.holds.wanted i e k is)
          (tells_targets dims slots homes h C.shape C.least i e k is)
          (finest_same h h' B.spots (e ∷ home_of homes i) (home_of homes' (target k')) (subst (λ (a : Walk). IsFinestOf (spots_in h') a (home_of homes' (target k'))) at_same (tells_targets dims slots' homes' h' D.shape D.least (led i) e k' is')))

      targets_same : target k' ≡ led (target k)
      targets_same =
          D.shape.shaped.has_homes.distinct (target k') (led (target k)) (target-lt slots' homes' D.shape.shaped.has_homes (led i) e k' is') ((at_home (target k) inside).0) (sym homes_same ∙ sym ((at_home (target k) inside).1))

      kinds_same : is_proper k' ≡ is_proper k
      kinds_same = iff_same (is_proper k') (is_proper k) forth back
        where
          forth : is_proper k' ≡ true → is_proper k ≡ true
          forth p = tells_needed dims slots homes h C.shape i e k is (λ f. D.least (led i) (target k') e (is' ∙ ap Some (elim (link_cases k') [ inl same ↦ same | inr other ↦ absurd (true≢false (sym p ∙ ap is_proper other)) ])) (subst (HasFiner (spots_in h')) (sym at_same) (finer_same h' h (spots_back h h' B.spots) (e ∷ home_of homes i) f)))

          back : is_proper k ≡ true → is_proper k' ≡ true
          back p = tells_needed dims slots' homes' h' D.shape (led i) e k' is' (λ f. C.least i (target k) e (is ∙ ap Some (elim (link_cases k) [ inl same ↦ same | inr other ↦ absurd (true≢false (sym p ∙ ap is_proper other)) ])) (subst (HasFiner (spots_in h)) at_same (finer_same h h' B.spots (e ∷ home_of homes' (led i)) f)))

      link_same : k' ≡ led_link led k
      link_same = ap₂ (λ (t : ℕ) (d : LinkKind). record { to = id_of t; kind = d }) targets_same (kind_same k'.kind k.kind kinds_same)

  links_same : (i : ℕ) → i < length slots → (e : Step) → link_of slots' (led i) e ≡ led_option led (link_of slots i e)
  links_same i l e = go (link_of slots i e) refl (link_of slots' (led i) e) refl
    where
      go : (o : Option Link) → link_of slots i e ≡ o → (o' : Option Link) → link_of slots' (led i) e ≡ o' → link_of slots' (led i) e ≡ led_option led (link_of slots i e)
      go None is None is' = is' ∙ sym (ap (led_option led) is)
      go None is (Some k) is' = absurd (here i l e k is' is)
      go (Some k) is None is' = absurd (there i l e k is is')
      go (Some k) is (Some k') is' = is' ∙ (ap Some (link_same i l e k k' is is') ∙ sym (ap (led_option led) is))

  -- a slot with the links and counts of another one, led
  pub record IsLed (s s' : Slot) : Type 0 where
    pub owns : owned_by s' ≡ map led (owned_by s)
    pub moves : (places : List ℕ) → moved (map led places) s' ≡ moved places s

  led_node : (children children' : Children) (content content' : Option Link) → children' ≡ map (led_child led) children → content' ≡ led_option led content → IsLed (node children content) (node children' content')
  led_node children children' content content' x y =
      subst (λ (s : Slot). IsLed (node children content) s) (ap₂ (λ (c : Children) (o : Option Link). node c o) (sym x) (sym y)) (record {
        owns = ap₂ ◌++◌ (owned-led_children led children) (owned-led_content led content) ∙ sym (map-append led (owned_children (byte_children children)) (owned_content content));
        moves = λ places. ap₂ (λ (c : Children) (o : Option Link). node c o) (moved-led_children led (led_place-apart dims slots slots' homes homes' h h' C.shape C.least D.shape B.spots) places children) (moved-led_content led (led_place-apart dims slots slots' homes homes' h h' C.shape C.least D.shape B.spots) places content);
      })

  led_table : (counts counts' : BinCounts) → counts' ≡ counts → IsLed (table counts) (table counts')
  led_table counts counts' x = record { owns = refl; moves = λ places. ap (λ (c : BinCounts). table c) x }

  counts_led : (i : ℕ) (l : i < length slots) → is_table (slot_of slots i) ≡ true → counts_of (slot_of slots' (led i)) ≡ counts_of (slot_of slots i)
  counts_led i l t =
      same_counts (counts_of (slot_of slots' (led i))) (counts_of (slot_of slots i))
      (All-get_or (λ (s : Slot). AllCounted (counts_of s)) slots' (led i) empty_node ((at_home i l).0) D.counted)
      (All-get_or (λ (s : Slot). AllCounted (counts_of s)) slots i empty_node l C.counted)
      (λ bin. D.shape.shaped.counted.counts (led i) bin ((at_home i l).0) (sym (led_place-table dims slots slots' homes homes' h h' C.shape C.least D.shape B.spots i l) ∙ t) ∙ (ap (λ (a : Walk). amount_under h' a bin) ((at_home i l).1) ∙ (sym (B.weigh (home_of homes i) bin) ∙ sym (C.shape.shaped.counted.counts i bin l t))))

  led_slot_in : (i : ℕ) → i < length slots → IsLed (slot_of slots i) (slot_of slots' (led i))
  led_slot_in i l = go (slot_of slots i) refl (slot_of slots' (led i)) refl
    where
      rising : IsRising (children_of (slot_of slots i))
      rising = All-get_or (λ (s : Slot). IsRising (children_of s)) slots i empty_node l C.rising

      rising' : IsRising (children_of (slot_of slots' (led i)))
      rising' = All-get_or (λ (s : Slot). IsRising (children_of s)) slots' (led i) empty_node ((at_home i l).0) D.rising

      links : (s s' : Slot) → slot_of slots i ≡ s → slot_of slots' (led i) ≡ s' → (e : Step) → link s' e ≡ led_option led (link s e)
      links s s' is is' e = sym (ap (λ (x : Slot). link x e) is') ∙ (links_same i l e ∙ ap (λ (x : Slot). led_option led (link x e)) is)

      goal : (s s' : Slot) → slot_of slots i ≡ s → slot_of slots' (led i) ≡ s' → IsLed s s' → IsLed (slot_of slots i) (slot_of slots' (led i))
      goal s s' is is' L = subst₂ IsLed (sym is) (sym is') L

      kinds : (s s' : Slot) → slot_of slots i ≡ s → slot_of slots' (led i) ≡ s' → is_table s ≡ is_table s'
      kinds s s' is is' = sym (ap is_table is) ∙ (led_place-table dims slots slots' homes homes' h h' C.shape C.least D.shape B.spots i l ∙ ap is_table is')

      go : (s : Slot) → slot_of slots i ≡ s → (s' : Slot) → slot_of slots' (led i) ≡ s' → IsLed (slot_of slots i) (slot_of slots' (led i))
      go (node c o) is (node c' o') is' =
          goal (node c o) (node c' o') is is'
          (led_node c c' o o' (children_same led 0 0 c' c (rises c' (subst (λ (x : Slot). IsRising (children_of x)) is' rising')) (rises c (subst (λ (x : Slot). IsRising (children_of x)) is rising)) (λ m. links (node c o) (node c' o') is is' (down m))) (links (node c o) (node c' o') is is' across))
      go (table c) is (table c') is' =
          goal (table c) (table c') is is' (led_table c c' (sym (ap counts_of is') ∙ (counts_led i l (ap is_table is) ∙ ap counts_of is)))
      go (node c o) is (table c') is' = absurd (true≢false (sym (kinds (node c o) (table c') is is')))
      go (table c) is (node c' o') is' = absurd (true≢false (kinds (table c) (node c' o') is is'))

  past : (i : ℕ) → length slots ≤ i → led i ≡ i + length slots'
  past i m = led_place-past slots homes slots' i m

  pub led_slot : (i : ℕ) → IsLed (slot_of slots i) (slot_of slots' (led i))
  led_slot i = go (cases_lt i (length slots))
    where
      go : (i < length slots) ⊎ (length slots ≤ i) → IsLed (slot_of slots i) (slot_of slots' (led i))
      go (inl l) = led_slot_in i l
      go (inr m) =
          let p = past i m in
          subst₂ IsLed (sym (get_or_past slots i empty_node m)) (sym (get_or_past slots' (led i) empty_node (omega arith))) (record { owns = refl; moves = λ places. refl })
