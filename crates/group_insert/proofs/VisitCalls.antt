-- The visits of a part, from what the calls leave.
use Rattle.std.proofs.Common.{true≢false, ◌≡◌, ℕ, ◌+◌, ◌-◌, ◌*◌, ◌<◌, ◌≤◌, ◌^◌, Bool, true, false, inl, inr, List, [], ◌∷◌, ◌++◌, Option, Some, None, All, Contains, IsTrue, length, drop, refl, sym, ap, ◌∙◌, subst, subst₂, arith, length-append}
use Rattle.std.specs.Prelude.{slice_range}
use Rattle.std.proofs.lemmas.List.Elements.{All-take, All-drop}
use Rattle.std.proofs.Math.Bool.{Bool-set}
use Rattle.std.proofs.Math.Logic.{∥∥₁_elim, ∥∥₁_map}
use Rattle.std.specs.Coded.{le_prop}
use Rattle.cube_view.specs.Places.{time_dim, deepest}
use Rattle.cube_view.specs.Points.{Point}
use Rattle.cube_view.specs.Validity.{sound}
use Rattle.cube_view.specs.Walks.{Step, down, across, Walk, SpotPath, Under, HasSpot, dimension}
use Rattle.cube_view.specs.declared.schema.Schema.{Schema}
use Rattle.node_arena.specs.Amounts.{Weighted, spots_in}
use Rattle.node_arena.specs.Shape.{home_of, HasOneChild}
use Rattle.node_arena.specs.Slots.{proper, shared, target, Slot, link_of, slot_of, counts_of, is_table}
use Rattle.time_table.specs.Counts.{total_count}
use Rattle.point_insert.specs.Visited.{IsFilled}
use Rattle.proper_path.specs.Changes.{IsRelinked, IsAdded}
use Rattle.proper_path.specs.Stepped.{IsStepped, LeadsInside}
use Rattle.proper_path.proofs.Calls.{relink_content}
use Rattle.group_insert.specs.Added.{amount_in, part_weight}
use Rattle.group_insert.specs.Halfway.{LeadsRight}
use Rattle.group_insert.specs.Labels.{IsLeastFrom, points_at, label_at, TellsOneLabel, TellsOnlyLabel}
use Rattle.group_insert.specs.Parts.{part_of}
use Rattle.group_insert.specs.Entry.{way_below, way_on, HasRoots, HasEntry, IsNotPutOff, narrow, owned, no_turn, TellsPut}
use Rattle.group_insert.specs.FinerWalk.{entry_of, LeadInside}
use Rattle.group_insert.specs.Later.{PutOff}
use Rattle.group_insert.specs.LeastSoFar.{BegunBefore, IsLeastSoFar, NeedsOwn}
use Rattle.least_cube.specs.Least.{HasFiner}
use Rattle.group_insert.proofs.LeastLabel.{label_needed}
use Rattle.group_insert.specs.Settling.{entries, CanSettle, SettlesTo}
use Rattle.group_insert.specs.Turns.{EndedBefore, IsOpenAbove}
use Rattle.group_insert.specs.Visiting.{FitsWide, IsOnWay, IsVisitableAt, CanVisitAt, VisitsAt, CanPassAt, PassesAt, PassesContentAt, PassesLabelsAt, CanShare, SharesOnly, HasPartAt}
use Rattle.group_insert.specs.declared.put_off.PutOffLink.{PutOffLink}
use Rattle.group_insert.specs.declared.way.Way.{Way}
use Rattle.node_arena.specs.declared.link.SlotId.{SlotId}
use Rattle.node_arena.proofs.Walks.{target-lt}
use Rattle.proper_path.proofs.Steps.{keeps-trans}
use Rattle.std.proofs.lemmas.List.{map-append}
use Rattle.group_insert.specs.Visits.{HasOwn, HasTwoLabels, HasOneLabel, IsAmong}
use Rattle.group_insert.proofs.Among.{among_one, among_next, among_put, among_ends}
use Rattle.group_insert.proofs.LastChild.{child, alone, child_content, among_shares}
use Rattle.group_insert.proofs.VisitSteps.{IsMadeBy, stepped_makes, filled_makes, part_node, part_spot, content_visitable, content_passed, some_kept, category_depth, first_level, label_goes, none_before, label_part, way_by_then, child_visitable}
use Rattle.group_insert.proofs.Routes.{on_way_kept, has_roots, entry_is, entry_may}
use Rattle.group_insert.proofs.PartPoints.{none_from, none_at_leaf, two_in_part, one_and_other, one_alone, table_has_room, table_part}
use Rattle.proper_path.specs.Paths.{level_of, paths_of}

-- a visit of a node of one label is not wide
fits_narrow : (l : ℕ) → FitsWide false (Some l)
fits_narrow l = record { no_only = λ e. absurd (true≢false (sym e)); is_wide = λ e. absurd cc }

module _ (z : Schema) (way : Way) (dim level i : ℕ) (part : List Point) (some : 1 ≤ dim) (early : dim < time_dim z) where
  -- the node at its deepest level ends with its content
  pub leaf_part : (old new : List Slot) (put after : List PutOff) → level ≡ deepest z dim → PassesContentAt z old new way put after dim level i part → VisitsAt z old new way put after dim level i part
  leaf_part old new put after deep C group homes h K =
      let none = none_at_leaf z group (home_of homes i) (K.at_level ∙ (deep ∙ ap (deepest z) (sym K.in_dim))) in
      among_ends (time_dim z) h (paths_of z group) old new homes put after i 0 K.points K.in_range (part_node z group old way put dim level i part homes h early K) (part_spot z group old way put dim level i part homes h K) (inr (λ n q c u. none n q c u)) (C group homes h K) (λ n q l c u. none n q c u) K.halfway

  module _ (less : level < deepest z dim) where
    less_at : (group : List Point) (old : List Slot) (put : List PutOff) (homes : List Walk) (h : List Weighted) → IsVisitableAt z group old way put dim level i part homes h → level_of (home_of homes i) < deepest z (dimension (home_of homes i))
    less_at group old put homes h K = subst₂ (λ x y. y < deepest z x) (sym K.in_dim) (sym K.at_level) less

    one_at : (group : List Point) (old : List Slot) (put : List PutOff) (homes : List Walk) (h : List Weighted) (o : Option ℕ) → IsVisitableAt z group old way put dim level i part homes h → TellsOneLabel z dim (level + 1) part o → TellsOneLabel z (dimension (home_of homes i)) (level_of (home_of homes i) + 1) (part_of z group (home_of homes i)) o
    one_at group old put homes h o K T = subst (λ x. TellsOneLabel z (dimension (home_of homes i)) (level_of (home_of homes i) + 1) x o) K.part_is (subst₂ (λ x y. TellsOneLabel z x (y + 1) part o) (sym K.in_dim) (sym K.at_level) T)

    none_left : (group : List Point) (old : List Slot) (put : List PutOff) (homes : List Walk) (h : List Weighted) (from : ℕ) → IsVisitableAt z group old way put dim level i part homes h → All (λ p. label_at z dim (level + 1) p < from) part → (n : ℕ) (q : SpotPath) → from ≤ n → Contains (spots_in (paths_of z group)) q → Under q (down n ∷ home_of homes i) → ⊥
    none_left group old put homes h from K A = none_from z group (home_of homes i) from (less_at group old put homes h K)
        (subst (λ x. All (λ p. label_at z (dimension (home_of homes i)) (level_of (home_of homes i) + 1) p < from) x) K.part_is (subst₂ (λ x y. All (λ p. label_at z x (y + 1) p < from) part) (sym K.in_dim) (sym K.at_level) A))

    two_labels : (group : List Point) (old : List Slot) (put : List PutOff) (homes : List Walk) (h : List Weighted) → IsVisitableAt z group old way put dim level i part homes h → TellsOnlyLabel z dim (level + 1) part old i None → HasTwoLabels old homes (paths_of z group) i
    two_labels group old put homes h K (inl T) = two_in_part z group old homes i (less_at group old put homes h K) (one_at group old put homes h None K T)
    two_labels group old put homes h K (inr (l, m, T, k, n)) = one_and_other z group old homes i l m (less_at group old put homes h K) (subst (λ x. 0 < length x) K.part_is K.some) (one_at group old put homes h (Some l) K T) k n

    -- a node that does not have one label: its content, then its labels
    pub wide_part : (old mid new : List Slot) (put by_then after : List PutOff) → TellsOnlyLabel z dim (level + 1) part old i None → PassesContentAt z old mid way put by_then dim level i part → PassesLabelsAt z mid new way by_then after dim level i part true → VisitsAt z old new way put after dim level i part
    wide_part old mid new put by_then after T C L group homes h K =
        among_ends (time_dim z) h (paths_of z group) old new homes put after i L.0 K.points K.in_range (part_node z group old way put dim level i part homes h early K) (part_spot z group old way put dim level i part homes h K) (inl (two_labels group old put homes h K T))
        (L.1 old put group homes h None K (record { no_only = λ e. refl; is_wide = λ e. refl }) (C group homes h K)) (none_left group old put homes h L.0 K L.2) K.halfway

    has_one : (group : List Point) (old : List Slot) (put : List PutOff) (homes : List Walk) (h : List Weighted) (l : ℕ) → IsVisitableAt z group old way put dim level i part homes h → TellsOnlyLabel z dim (level + 1) part old i (Some l) → HasOneLabel old homes (paths_of z group) i l
    has_one group old put homes h l K T = one_alone z group old homes i l (less_at group old put homes h K) (one_at group old put homes h (Some l) K T.0) T.1

    begins : (group : List Point) (old : List Slot) (put : List PutOff) (homes : List Walk) (h : List Weighted) (l : ℕ) → IsVisitableAt z group old way put dim level i part homes h → TellsOnlyLabel z dim (level + 1) part old i (Some l) → IsAmong (time_dim z) h (paths_of z group) old homes i (Some l) 0 old put put
    begins group old put homes h l K T = among_one (time_dim z) h (paths_of z group) old homes put i l K.points K.in_range (part_spot z group old way put dim level i part homes h K) (has_one group old put homes h l K T) K.halfway

    -- a node of one label: its label, and then it shares its child's content
    pub narrow_part : (old mid new : List Slot) (put after : List PutOff) (l : ℕ) → TellsOnlyLabel z dim (level + 1) part old i (Some l) → PassesLabelsAt z old mid way put after dim level i part false → SharesOnly mid new i → VisitsAt z old new way put after dim level i part
    narrow_part old mid new put after l T L S group homes h K = among_shares (time_dim z) h (paths_of z group) old mid homes put after i l L.0 K.points K.in_range nd w one A none new c.link c.is relinked K.halfway
      where
        nd : is_table (slot_of old i) ≡ false
        nd = part_node z group old way put dim level i part homes h early K

        w : HasSpot (spots_in (paths_of z group)) (home_of homes i)
        w = part_spot z group old way put dim level i part homes h K

        one : HasOneLabel old homes (paths_of z group) i l
        one = has_one group old put homes h l K T

        A : IsAmong (time_dim z) h (paths_of z group) old homes i (Some l) L.0 mid put after
        A = L.1 old put group homes h (Some l) K (fits_narrow l) (begins group old put homes h l K T)

        none : (n : ℕ) (q : SpotPath) → L.0 ≤ n → Contains (spots_in (paths_of z group)) q → Under q (down n ∷ home_of homes i) → ⊥
        none = none_left group old put homes h L.0 K L.2

        j : HasOwn mid i (down l)
        j = child (time_dim z) h (paths_of z group) old mid homes put after i l L.0 K.points K.in_range nd w one A none

        c : LeadsRight mid A.homes' j.0 across w.spot
        c = child_content (time_dim z) h (paths_of z group) old mid homes put after i l L.0 K.points K.in_range nd w one A none

        O : HasOneChild mid i l (proper j.0)
        O = record { is = j.1; only = alone (time_dim z) h (paths_of z group) old mid homes put after i l L.0 K.points K.in_range nd w one A none }

        relinked : IsRelinked mid new i across (shared (target c.link))
        relinked = subst (λ x. IsRelinked mid x i across (shared (target c.link))) (sym (S l (proper j.0) O c.link c.is)) (relink_content mid i (target c.link) (let a = A.keeps.size in let b = K.in_range in omega (arith, a, b)) (A.keeps.kinds i K.in_range ∙ nd))

    pub can_share : (old mid : List Slot) (put after : List PutOff) (l : ℕ) → TellsOnlyLabel z dim (level + 1) part old i (Some l) → PassesLabelsAt z old mid way put after dim level i part false → ∥ CanVisitAt z old way put dim level i part ∥₁ → ∥ CanShare mid i ∥₁
    can_share old mid put after l T L R = ∥∥₁_map R (λ C. record {
      schema = z;
      way = way;
      before = put;
      put = after;
      dim = dim;
      level = level;
      early = early;
      part = part;
      old = old;
      group = C.group;
      homes = C.homes;
      counted = C.counted;
      label = l;
      from = L.0;
      known = C.known;
      has_one = has_one C.group old put C.homes C.counted l C.known T;
      among = L.1 old put C.group C.homes C.counted (Some l) C.known (fits_narrow l) (begins C.group old put C.homes C.counted l C.known T);
      none = none_left C.group old put C.homes C.counted L.0 C.known L.2;
    })

    pub one_can_pass : (old : List Slot) (put : List PutOff) (l : ℕ) → TellsOnlyLabel z dim (level + 1) part old i (Some l) → ∥ CanVisitAt z old way put dim level i part ∥₁ → ∥ CanPassAt z old way put dim level i part false 0 ∥₁
    one_can_pass old put l T R = ∥∥₁_map R (λ C. record {
      old = old;
      before = put;
      group = C.group;
      homes = C.homes;
      counted = C.counted;
      only = Some l;
      known = C.known;
      may = fits_narrow l;
      among = begins C.group old put C.homes C.counted l C.known T;
    })

    made : (group : List Point) (old mid next : List Slot) (before put : List PutOff) (homes : List Walk) (h : List Weighted) (only : Option ℕ) (from l j : ℕ) → IsVisitableAt z group old way before dim level i part homes h → (A : IsAmong (time_dim z) h (paths_of z group) old homes i only from mid before put) → IsStepped mid i (down l) j next → IsMadeBy (time_dim z) mid next A.homes' i (down l) j
    made group old mid next before put homes h only from l j K A S = stepped_makes (time_dim z) mid next A.homes' i l j (λ d. let a = ap dimension (A.keeps.homes i K.in_range) in let b = K.in_dim in omega (arith, d, a, b, early)) S

    -- a child that was made can be visited ..
    pub can_visit_child : (mid next : List Slot) (put : List PutOff) (wide : Bool) (from l : ℕ) (s : SlotId) → IsLeastFrom z dim (level + 1) from l part → IsStepped mid i (down l) s.0 next → ∥ CanPassAt z mid way put dim level i part wide from ∥₁ → ∥ CanVisitAt z next (way_below way dim (level + 1) l s) put dim (level + 1) s.0 (points_at z dim (level + 1) l part) ∥₁
    can_visit_child mid next put wide from l s N S R = ∥∥₁_map R (λ C.
        let m = made C.group C.old mid next C.before put C.homes C.counted C.only from l s.0 C.known C.among S in
        record { group = C.group; homes = m.homes'; counted = C.counted; known = child_visitable z C.group C.old mid way C.before put dim level i from l part C.homes C.counted C.only less C.known C.among N next s some m })

    -- .. which is needed where its link was not put off ..
    child_needed : (mid : List Slot) (put : List PutOff) (wide : Bool) (from l : ℕ) (part' : List Point) (old : List Slot) (before : List PutOff) (group : List Point) (homes : List Walk) (h : List Weighted) (only : Option ℕ) → IsLeastFrom z dim (level + 1) from l part → part' ≡ points_at z dim (level + 1) l part → IsNotPutOff z mid part' way i l dim wide → IsVisitableAt z group old way before dim level i part homes h → FitsWide wide only → (A : IsAmong (time_dim z) h (paths_of z group) old homes i only from mid before put) → NeedsOwn homes h (paths_of z group) i only → IsLeastSoFar mid A.homes' h (paths_of z group) (BegunBefore (down l ∷ home_of homes i)) → ((k : ℕ) → link_of mid i (down l) ≡ Some (proper k) → ⊥) → HasFiner (spots_in (paths_of z group ++ h)) (down l ∷ home_of homes i) → ⊥
    child_needed mid put wide from l part' old before group homes h only N e why K may A D B none F = go why
      where
        at : home_of A.homes' i ≡ home_of homes i
        at = A.keeps.homes i K.in_range

        w : HasSpot (spots_in (paths_of z group)) (down l ∷ home_of homes i)
        w = label_goes z group old mid way before put dim level i from l part homes h only less K A N

        W : IsOnWay mid A.homes' way dim level i
        W = way_by_then z group old mid way before put dim level i from l part homes h only less K A N early

        part_is : part' ≡ part_of z group (down l ∷ home_of A.homes' i)
        part_is = e ∙ (label_part z group old mid way before put dim level i from l part homes h only less K A N ∙ ap (λ x. part_of z group (down l ∷ x)) (sym at))

        at_narrow : wide ≡ false → (o : Option ℕ) → only ≡ o → ⊥
        at_narrow x None y = true≢false (sym (may.is_wide y) ∙ x)
        at_narrow x (Some m) y = D.child m l y w F

        go : IsNotPutOff z mid part' way i l dim wide → ⊥
        go (narrow x) = at_narrow x only refl
        go (owned to is) = none to is
        go (no_turn o held T) = label_needed z group mid A.homes' h way dim level i l part' A.halfway.has_homes A.halfway.holds (let a = A.keeps.size in let b = K.in_range in omega (arith, a, b)) (ap dimension at ∙ K.in_dim) (λ two. W.fresh two (first_level z dim level less two)) W
            (subst (λ x. HasSpot (spots_in (paths_of z group)) (down l ∷ x)) (sym at) w) part_is (subst (λ x. IsLeastSoFar mid A.homes' h (paths_of z group) (BegunBefore (down l ∷ x))) (sym at) B) o held T (subst (λ x. HasFiner (spots_in (paths_of z group ++ h)) (down l ∷ x)) (sym at) F)

    -- .. and then the next label's turn comes
    pub passes_label : (mid next new : List Slot) (put after : List PutOff) (wide : Bool) (from l : ℕ) (s : SlotId) (part' : List Point) → IsLeastFrom z dim (level + 1) from l part → part' ≡ points_at z dim (level + 1) l part → IsNotPutOff z mid part' way i l dim wide → IsStepped mid i (down l) s.0 next → VisitsAt z next new (way_below way dim (level + 1) l s) put after dim (level + 1) s.0 (points_at z dim (level + 1) l part) → PassesAt z mid new way put after dim level i part wide from (l + 1)
    passes_label mid next new put after wide from l s part' N e why S V old before group homes h only K may A =
        let m = made group old mid next before put homes h only from l s.0 K A S in
        among_next (time_dim z) h (paths_of z group) old mid next new homes m.homes' before put after i s.0 l only from K.in_range A N.reaches (none_before z group old mid way before put dim level i from l part homes h only less K A N) (label_goes z group old mid way before put dim level i from l part homes h only less K A N) m.makes (child_needed mid put wide from l part' old before group homes h only N e why K may A)
        (V group m.homes' h (child_visitable z group old mid way before put dim level i from l part homes h only less K A N next s some m))

    -- what putting a link off wants
    pub label_part_some : (part' : List Point) (from l : ℕ) → IsLeastFrom z dim (level + 1) from l part → part' ≡ points_at z dim (level + 1) l part → 0 < length part'
    label_part_some part' from l N e = subst (λ x. 0 < length x) (sym e) (some_kept z dim (level + 1) l part N.there)

    pub pass_roots : (mid : List Slot) (put : List PutOff) (wide : Bool) (from : ℕ) → ∥ CanPassAt z mid way put dim level i part wide from ∥₁ → HasRoots mid way dim
    pass_roots mid put wide from R f one lt o = ∥∥₁_elim R le_prop (λ C. has_roots mid C.among.homes' way dim level i
        (on_way_kept C.old mid C.homes C.among.homes' way dim level i C.known.in_range C.among.keeps.size C.among.keeps.homes (C.known.on_way early)) f one lt o)

    pub pass_leads : (mid : List Slot) (put : List PutOff) (wide : Bool) (from : ℕ) → ∥ CanPassAt z mid way put dim level i part wide from ∥₁ → LeadInside mid
    pass_leads mid put wide from R j e l is = ∥∥₁_elim R le_prop (λ C. target-lt mid C.among.homes' C.among.halfway.has_homes j e l is)

    -- a label whose link was put off is passed
    pub passes_put : (mid : List Slot) (before after : List PutOffLink) (from l : ℕ) (part' : List Point) (wide : Bool) → wide ≡ true → IsLeastFrom z dim (level + 1) from l part → part' ≡ points_at z dim (level + 1) l part → HasEntry z mid part' way i l dim before after → PassesAt z mid mid way (entries before) (entries after) dim level i part wide from (l + 1)
    passes_put mid before after from l part' wide is_wide N e E old at_first group homes h only K may A = subst (λ o. IsAmong (time_dim z) h (paths_of z group) old homes i o (l + 1) mid at_first (entries after)) (sym (may.no_only is_wide))
        (go (subst (λ o. IsAmong (time_dim z) h (paths_of z group) old homes i o from mid at_first (entries before)) (may.no_only is_wide) A))
      where
        go : IsAmong (time_dim z) h (paths_of z group) old homes i None from mid at_first (entries before) → IsAmong (time_dim z) h (paths_of z group) old homes i None (l + 1) mid at_first (entries after)
        go B =
            let at = B.keeps.homes i K.in_range in
            let w = label_goes z group old mid way at_first (entries before) dim level i from l part homes h None less K B N in
            let p = label_part z group old mid way at_first (entries before) dim level i from l part homes h None less K B N in
            let none = none_before z group old mid way at_first (entries before) dim level i from l part homes h None less K B N in
            let lt : i < length mid = let a = B.keeps.size in let b = K.in_range in omega (arith, a, b) in
            let on_way = way_by_then z group old mid way at_first (entries before) dim level i from l part homes h None less K B N early in
            let k = entry_is z group mid B.homes' h way dim level i l part' before after on_way E in
            let k_may = entry_may z group mid B.homes' h way dim level i l part' before after on_way E
            (EndedBefore (paths_of z group) (down from ∷ home_of homes i)) (IsOpenAbove (down from ∷ home_of homes i)) (entries before) B.halfway lt (first_level z dim level less)
            (subst (λ x. HasSpot (spots_in (paths_of z group)) (down l ∷ x)) (sym at) w) (e ∙ (p ∙ ap (λ x. part_of z group (down l ∷ x)) (sym at))) in
            let put = among_put (time_dim z) h (paths_of z group) old mid homes at_first (entries before) k from K.in_range B N.reaches none k_may in
            subst (λ x. IsAmong (time_dim z) h (paths_of z group) old homes i None (l + 1) mid at_first x) (sym (ap entries E.is ∙ (map-append (λ q. entry_of q) before (E.entry ∷ []) ∙ ap (λ x. entries before ++ x ∷ []) E.turn.turn.is))) put

  -- no entry is lost
  pub put_grows : (old new : List Slot) (put after : List PutOff) → VisitsAt z old new way put after dim level i part → ∥ CanVisitAt z old way put dim level i part ∥₁ → length put ≤ length after
  put_grows old new put after V R = ∥∥₁_elim R le_prop (λ C. let p = (V C.group C.homes C.counted C.known).puts in let e = ap length p.is in let f = length-append put p.more in omega (arith, e, f))

  -- the content that was made can be visited
  pub can_visit_content : (old mid : List Slot) (put : List PutOff) (s : SlotId) → IsFilled (time_dim z) (dim + 1) [] old i mid (Some s.0) → ∥ CanVisitAt z old way put dim level i part ∥₁ → ∥ CanVisitAt z mid (way_on way dim s) put (dim + 1) 0 s.0 part ∥₁
  can_visit_content old mid put s F R = ∥∥₁_map R (λ C.
      let m = filled_makes (time_dim z) dim old mid C.homes i s.0 C.known.in_dim F in
      record { group = C.group; homes = m.homes'; counted = C.counted; known = content_visitable z C.group old mid way put dim level i s part C.homes C.counted some early C.known m })

  pub content_can_pass : (old new : List Slot) (put after : List PutOff) → PassesContentAt z old new way put after dim level i part → ∥ CanVisitAt z old way put dim level i part ∥₁ → ∥ CanPassAt z new way after dim level i part true 0 ∥₁
  content_can_pass old new put after C R = ∥∥₁_map R (λ D. record { old = old; before = put; group = D.group; homes = D.homes; counted = D.counted; only = None; known = D.known; may = record { no_only = λ e. refl; is_wide = λ e. refl }; among = C D.group D.homes D.counted D.known })

  -- what the calls at a node want
  pub visit_in_range : (old : List Slot) (put : List PutOff) → ∥ CanVisitAt z old way put dim level i part ∥₁ → i < length old
  visit_in_range old put R = ∥∥₁_elim R le_prop (λ C. C.known.in_range)

  pub visit_is_node : (old : List Slot) (put : List PutOff) → ∥ CanVisitAt z old way put dim level i part ∥₁ → is_table (slot_of old i) ≡ false
  visit_is_node old put R = ∥∥₁_elim R (Bool-set _ _) (λ C. part_node z C.group old way put dim level i part C.homes C.counted early C.known)

  pub visit_inside : (old : List Slot) (put : List PutOff) (e : Step) → ∥ CanVisitAt z old way put dim level i part ∥₁ → LeadsInside old i e
  visit_inside old put e R t is = ∥∥₁_elim R le_prop (λ C. (C.known.halfway.has_homes.finer i t e is).0)

  pub visit_some : (old : List Slot) (put : List PutOff) → ∥ CanVisitAt z old way put dim level i part ∥₁ → 0 < length part
  visit_some old put R = ∥∥₁_elim R le_prop (λ C. C.known.some)

  pub pass_in_range : (slots : List Slot) (put : List PutOff) (wide : Bool) (from : ℕ) → ∥ CanPassAt z slots way put dim level i part wide from ∥₁ → i < length slots
  pass_in_range slots put wide from R = ∥∥₁_elim R le_prop (λ C. let a = C.among.keeps.size in let b = C.known.in_range in omega (arith, a, b))

  pub pass_is_node : (slots : List Slot) (put : List PutOff) (wide : Bool) (from : ℕ) → ∥ CanPassAt z slots way put dim level i part wide from ∥₁ → is_table (slot_of slots i) ≡ false
  pass_is_node slots put wide from R = ∥∥₁_elim R (Bool-set _ _) (λ C. C.among.keeps.kinds i C.known.in_range ∙ part_node z C.group C.old way C.before dim level i part C.homes C.counted early C.known)

  pub pass_inside : (slots : List Slot) (put : List PutOff) (wide : Bool) (from : ℕ) (e : Step) → ∥ CanPassAt z slots way put dim level i part wide from ∥₁ → LeadsInside slots i e
  pass_inside slots put wide from e R t is = ∥∥₁_elim R le_prop (λ C. (C.among.halfway.has_homes.finer i t e is).0)

  -- the loop over the labels
  pub passes_none : (slots : List Slot) (put : List PutOff) (wide : Bool) (from : ℕ) → PassesAt z slots slots way put put dim level i part wide from from
  passes_none slots put wide from old before group homes h only K may A = A

  pub passes_more : (a b c : List Slot) (k l m : List PutOff) (wide : Bool) (from to next : ℕ) → PassesAt z a b way k l dim level i part wide from to → PassesAt z b c way l m dim level i part wide to next → PassesAt z a c way k m dim level i part wide from next
  passes_more a b c k l m wide from to next P Q old before group homes h only K may A = Q old before group homes h only K may (P old before group homes h only K may A)

  pub can_pass_on : (a b : List Slot) (k l : List PutOff) (wide : Bool) (from to : ℕ) → PassesAt z a b way k l dim level i part wide from to → ∥ CanPassAt z a way k dim level i part wide from ∥₁ → ∥ CanPassAt z b way l dim level i part wide to ∥₁
  can_pass_on a b k l wide from to P R = ∥∥₁_map R (λ C. record {
    old = C.old;
    before = C.before;
    group = C.group;
    homes = C.homes;
    counted = C.counted;
    only = C.only;
    known = C.known;
    may = C.may;
    among = P C.old C.before C.group C.homes C.counted C.only C.known C.may C.among;
  })

  -- a node of space settles what was put off below it
  pub can_settle : (old new : List Slot) (put after : List PutOff) (kept : ℕ) → dim ≡ 1 → length put ≡ kept → VisitsAt z old new way put after dim level i part → ∥ CanVisitAt z old way put dim level i part ∥₁ → ∥ CanSettle new after kept ∥₁
  can_settle old new put after kept d size V R = ∥∥₁_map R (λ C.
      let v = V C.group C.homes C.counted C.known in
      record {
        dims = time_dim z;
        homes = v.homes';
        counted = C.counted;
        group = paths_of z C.group;
        address = home_of C.homes i;
        before = put;
        size = size;
        known = record { halfway = v.halfway; space = C.known.in_dim ∙ d; puts = v.puts; points = C.known.points };
      })

  pub visit_settled : (old mid new : List Slot) (put by_then after : List PutOff) (kept : ℕ) → dim ≡ 1 → length put ≡ kept → VisitsAt z old mid way put by_then dim level i part → SettlesTo kept mid new by_then after → VisitsAt z old new way put after dim level i part
  visit_settled old mid new put by_then after kept d size V S group homes h K =
      let v = V group homes h K in
      let s = S (time_dim z) v.homes' h (paths_of z group) (home_of homes i) put size (record { halfway = v.halfway; space = K.in_dim ∙ d; puts = v.puts; points = K.points }) in
      record { homes' = v.homes'; halfway = s.0.halfway; keeps = keeps-trans v.keeps s.1; puts = s.0.puts; least = λ L. s.2 (v.least L) }

-- what was told of a label's link
pub told_put : (z : Schema) (slots : List Slot) (part : List Point) (way : Way) (node label dim : ℕ) (wide : Bool) (before after : List PutOffLink) (put : Bool) → put ≡ true → TellsPut z slots part way node label dim wide before after put → (wide ≡ true) × HasEntry z slots part way node label dim before after
told_put z slots part way node label dim wide before after true e T = T
told_put z slots part way node label dim wide before after false e T = absurd (true≢false (sym e))

pub told_kept : (z : Schema) (slots : List Slot) (part : List Point) (way : Way) (node label dim : ℕ) (wide : Bool) (before after : List PutOffLink) (put : Bool) → put ≡ false → TellsPut z slots part way node label dim wide before after put → after ≡ before
told_kept z slots part way node label dim wide before after true e T = absurd (true≢false e)
told_kept z slots part way node label dim wide before after false e T = T.0

pub told_why : (z : Schema) (slots : List Slot) (part : List Point) (way : Way) (node label dim : ℕ) (wide : Bool) (before after : List PutOffLink) (put : Bool) → put ≡ false → TellsPut z slots part way node label dim wide before after put → IsNotPutOff z slots part way node label dim wide
told_why z slots part way node label dim wide before after true e T = absurd (true≢false e)
told_why z slots part way node label dim wide before after false e T = T.1

-- how many levels are left, by which the recursion ends
abbrev pub rank : Schema → ℕ → ℕ → ℕ
rank z dim level = (time_dim z - dim) * 256 + (deepest z dim - level)

pub rank_down : (z : Schema) (dim level : ℕ) → level < deepest z dim → rank z dim (level + 1) < rank z dim level
rank_down z dim level less = omega (arith, less)

pub rank_across : (z : Schema) (dim level : ℕ) → 1 ≤ dim → dim < time_dim z → rank z (dim + 1) 0 < rank z dim level
rank_across z dim level some less = let d = category_depth z (dim + 1) (λ e. omega (arith, e, some)) in omega (arith, d, less)

-- the points of a part are sound
pub part_sound : (z : Schema) (pile : List Point) (at end : ℕ) → HasPartAt z pile at end → All (λ p. IsTrue (sound z p)) (slice_range pile at end)
part_sound z pile at end H = All-take (λ p. IsTrue (sound z p)) (end - at) (drop at pile) (All-drop (λ p. IsTrue (sound z p)) at pile H.all_sound)

-- a table that can be visited has room for the part
pub table_there : (z : Schema) (slots : List Slot) (way : Way) (put : List PutOff) (dim level i : ℕ) (part : List Point) → dim ≡ time_dim z → ∥ CanVisitAt z slots way put dim level i part ∥₁ → (i < length slots) × (is_table (slot_of slots i) ≡ true) × (total_count (counts_of (slot_of slots i)) + part_weight part ≤ 2 ^ 63)
table_there z slots way put dim level i part e R = (
  ∥∥₁_elim R le_prop (λ C. C.known.in_range),
  ∥∥₁_elim R (Bool-set _ _) (λ C. kind C),
  ∥∥₁_elim R le_prop (λ C. table_has_room z C.group slots way put dim level i part C.homes C.counted (kind C) C.known),
)
  where
    kind : (C : CanVisitAt z slots way put dim level i part) → is_table (slot_of slots i) ≡ true
    kind C = (C.known.halfway.has_tables.tables i C.known.in_range).1 (C.known.in_dim ∙ e)

pub content_counted : (z : Schema) (old mid new : List Slot) (way : Way) (put : List PutOff) (dim level i : ℕ) (s : SlotId) (part : List Point) → 1 ≤ dim → dim < time_dim z → IsFilled (time_dim z) (dim + 1) [] old i mid (Some s.0) → IsAdded mid new s.0 (λ bin. amount_in part bin) → PassesContentAt z old new way put put dim level i part
content_counted z old mid new way put dim level i s part some early F A group homes h K = content_passed z old mid new way put put dim level i s part some early F (table_part z mid new (way_on way dim s) put (dim + 1) 0 s.0 part A) group homes h K
