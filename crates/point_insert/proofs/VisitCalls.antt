-- A visit, from what its calls leave.
use Rattle.std.proofs.Common.{◌≡◌, ℕ, suc, ◌+◌, ◌<◌, List, [], ◌∷◌, ◌++◌, length, get_or, Some, None, refl, sym, ap, ◌∙◌, subst, arith, false, true≢false}
use Rattle.std.proofs.Math.Bool.{Bool-set}
use Rattle.std.proofs.Math.Logic.{∥∥₁_elim, ∥∥₁_map}
use Rattle.std.specs.Coded.{le_prop}
use Rattle.cube_view.specs.Walks.{down, across, Walk, cursor, Under, dimension}
use Rattle.proper_path.specs.Order.{itself, further}
use Rattle.node_arena.specs.declared.link.Link.{Link}
use Rattle.node_arena.specs.Slots.{proper, shared, target, Slot, link_of, slot_of, is_table}
use Rattle.node_arena.specs.Shape.{home_of}
use Rattle.proper_path.specs.Midway.{IsBetween, DoneBefore, Joins}
use Rattle.node_arena.specs.Calls.{set_content}
use Rattle.proper_path.specs.Changes.{IsRelinked}
use Rattle.proper_path.specs.Making.{Makes, has, copies, adds}
use Rattle.point_insert.specs.Ending.{Ends}
use Rattle.node_arena.proofs.Walks.{target-lt, link_coarser}
use Rattle.cube_view.proofs.FinerWalks.{dimension-finer}
use Rattle.proper_path.proofs.TrailSteps.{node_before}
use Rattle.proper_path.proofs.Calls.{relink_content}
use Rattle.point_insert.proofs.Cases.{next_label}
use Rattle.proper_path.proofs.Dims.{goes_across, content_rest}
use Rattle.proper_path.proofs.Order.{closed_before, not_done}
use Rattle.proper_path.proofs.Steps.{IsMade, makes_kept, not_above_before}
use Rattle.point_insert.proofs.Whole.{IsVisitable, visit_shares, visit_updates, visit_skips, lies_across, all_of_shape}
use Rattle.proper_path.specs.Rooted.{state}
use Rattle.point_insert.specs.Known.{IsEnterable, CanEnter}
use Rattle.point_insert.specs.Visited.{IsVisitableIn, CanVisit, HasEntered, HasVisited, Enters, Visits, TellsOnlyChild, IsFilled}
use Rattle.point_insert.specs.Visited as visited
use Rattle.node_arena.specs.Amounts.{Weighted}

visitable : (dims : ℕ) (p : Weighted) (slots : List Slot) (updated : List ℕ) (dim at : ℕ) (homes : List Walk) (h : List Weighted) → (K : IsVisitableIn dims p slots updated dim at homes h) → IsVisitable dims h p K.shape K.spot (state slots homes updated) at
visitable dims p slots updated dim at homes h K = record { between = K.between; in_range = K.in_range; is_node = K.is_node; lies = K.lies; path = K.path }

ended : (slots : List Slot) (homes : List Walk) (before after : List ℕ) (i : ℕ) → Joins homes i before after → Ends (state slots homes before) i (state slots homes after)
ended slots homes before after i J = record { slots = refl; homes = refl; joins = J }

-- case 1
pub visited_shared : (dims : ℕ) (p : Weighted) (old new : List Slot) (updated : List ℕ) (dim at : ℕ) (k : Link) → TellsOnlyChild old at (Some k) → ((w : Link) → link_of old (target k) across ≡ Some w → new ≡ set_content old at (Some (shared (target w)))) → Visits dims p old new updated updated dim at
visited_shared dims p old new updated dim at k O N homes h K = record {
  homes' = homes;
  entered = λ joined J. visit_shares dims h p K.shape K.spot (state old homes updated) (state new homes updated) (state new homes joined) at O.0 k w.0 V O.1 w.1 relink refl refl (ended new homes updated joined at J);
}
  where
    V : IsVisitable dims h p K.shape K.spot (state old homes updated) at
    V = visitable dims p old updated dim at homes h K

    w0 : Under p.spot (down O.0 ∷ home_of homes at)
    w0 =
        let r = K.between.midway.holds.wanted at (down O.0) k O.1.is in
        let m = next_label p.spot r.spot (sym (all_of_shape dims h p K.shape K.spot r.spot r.is_in)) (home_of homes at) O.0 K.lies r.lies in
        let c = K.path.child m.0 m.1 in
        subst (λ z. Under p.spot (down z ∷ home_of homes at)) (O.1.only m.0 (proper c.0) c.1) m.1

    c : (j : ℕ) × (link_of old at (down O.0) ≡ Some (proper j))
    c = K.path.child O.0 w0

    k_is : k ≡ proper c.0
    k_is = let x = O.1.is in let y = c.1 in cc

    r : (c.0 < length old) × (home_of homes c.0 ≡ down O.0 ∷ home_of homes at)
    r = K.between.midway.has_homes.at_home at c.0 (down O.0) c.1

    nt : dimension (home_of homes c.0) ≡ dims → ⊥
    nt d = true≢false (sym ((K.between.midway.has_tables.tables at K.in_range).1 (sym (ap dimension r.1) ∙ d)) ∙ K.is_node)

    w : (l : Link) × (link_of old (target k) across ≡ Some l) × Under p.spot (home_of homes (target l))
    w = subst (λ z. (l : Link) × (link_of old (target z) across ≡ Some l) × Under p.spot (home_of homes (target l))) (sym k_is)
        (K.between.midway.visited.links c.0 across r.0
        (subst (λ z. DoneBefore p (across ∷ home_of homes at) z) (sym r.1) (w0, record { parting = home_of homes at; label = O.0; goes_down = itself; goes_across = itself }))
        (goes_across dims p.spot K.spot (home_of homes c.0) (subst (Under p.spot) (sym r.1) w0) nt))

    relink : IsRelinked old new at across (shared (target w.0))
    relink = subst (λ z. IsRelinked old z at across (shared (target w.0))) (sym (N w.0 w.1)) (relink_content old at (target w.0) K.in_range K.is_node)

-- what share_content needs
pub child_in : (dims : ℕ) (p : Weighted) (slots : List Slot) (updated : List ℕ) (dim at : ℕ) (k : Link) → ∥ CanVisit dims p slots updated dim at ∥₁ → TellsOnlyChild slots at (Some k) → target k < length slots
child_in dims p slots updated dim at k R O = ∥∥₁_elim R le_prop (λ C. target-lt slots C.homes C.known.between.midway.has_homes at (down O.0) k O.1.is)

-- case 5
pub visited_skips : (dims next : ℕ) (p : Weighted) (old new : List Slot) (updated : List ℕ) (dim at : ℕ) → TellsOnlyChild old at None → IsFilled dims next updated old at new None → Visits dims p old new updated updated dim at
visited_skips dims next p old new updated dim at n (visited.skips t is c same) homes h K = record {
  homes' = homes;
  entered = λ joined J. visit_skips dims h p K.shape K.spot (state old homes updated) (state new homes joined) at t (visitable dims p old updated dim at homes h K) n is c (record { slots = same; homes = refl; joins = J });
}

-- cases 2, 3 and 4: the content is made
record IsContentMade (dims : ℕ) (p : Weighted) (h : List Weighted) (old mid : List Slot) (updated : List ℕ) (at j : ℕ) (homes : List Walk) : Type 0 where
  homes' : List Walk
  made : IsMade dims h p (DoneBefore p (across ∷ home_of homes at)) (state old homes updated) at across j (state mid homes' updated)

content_made : (dims : ℕ) (p : Weighted) (old mid : List Slot) (updated : List ℕ) (dim at j : ℕ) (homes : List Walk) (h : List Weighted) → (K : IsVisitableIn dims p old updated dim at homes h) → TellsOnlyChild old at None → IsFilled dims (dim + 1) updated old at mid (Some j) → IsContentMade dims p h old mid updated at j homes
content_made dims p old mid updated dim at j homes h K n F = go F
  where
    V : IsVisitable dims h p K.shape K.spot (state old homes updated) at
    V = visitable dims p old updated dim at homes h K

    make : (homes' : List Walk) → Makes dims (state old homes updated) at across j (state mid homes' updated) → IsContentMade dims p h old mid updated at j homes
    make homes' mk = record {
      homes' = homes';
      made = makes_kept dims h p (DoneBefore p (across ∷ home_of homes at)) (state old homes updated) (state mid homes' updated) at j across K.between (closed_before p (across ∷ home_of homes at)) K.in_range K.is_node (lies_across dims h p K.shape K.spot (state old homes updated) at V)
          (λ x. not_above_before (further itself) x.1) (λ x. not_done p (across ∷ home_of homes at) (across ∷ home_of homes at) itself x) (λ y l u. let r = K.path.child l u in n l (proper r.0) r.1) mk;
    }

    go : IsFilled dims (dim + 1) updated old at mid (Some j) → IsContentMade dims p h old mid updated at j homes
    go (visited.had is same) = make homes (has is (ap (λ z. state z homes updated) same))
    go (visited.copies t is m ji G) = make (homes ++ (across ∷ home_of homes at) ∷ []) (copies t is (λ x c. m c) (record { is = ji; grown = G; homes = refl; updated = refl }))
    go (visited.adds s is nl nc kind ji G) = make (homes ++ (across ∷ home_of homes at) ∷ []) (adds s is nl nc
        (λ x. let e = kind.0 x in let f = K.in_dim in omega arith, λ x. kind.1 (let f = K.in_dim in omega arith)) (record { is = ji; grown = G; homes = refl; updated = refl }))

content_enterable : (dims : ℕ) (p : Weighted) (old mid : List Slot) (updated : List ℕ) (dim at j : ℕ) (homes : List Walk) (h : List Weighted) → (K : IsVisitableIn dims p old updated dim at homes h) → (M : IsContentMade dims p h old mid updated at j homes) → IsEnterable dims p mid updated (dim + 1) j M.homes' h
content_enterable dims p old mid updated dim at j homes h K M = record {
  rooted = record {
    has_homes = m.between.midway.has_homes;
    has_tables = m.between.midway.has_tables;
    spot = K.spot;
    in_range = m.in_range;
    lies = subst (Under p.spot) (sym m.at_home) (lies_across dims h p K.shape K.spot (state old homes updated) at (visitable dims p old updated dim at homes h K));
    in_dim = let e : dimension (home_of M.homes' j) ≡ suc (dimension (home_of homes at)) = ap dimension m.at_home in let f = K.in_dim in omega arith;
    rest = λ c e. content_rest p.spot (home_of homes at) c (sym (ap (cursor p.spot) m.at_home) ∙ e) ∙ ap (λ z. get_or p.spot.paths z []) (let f = K.in_dim in omega arith);
  };
  between = subst (λ z. IsBetween dims mid M.homes' h p (DoneBefore p z) updated) (sym m.at_home) m.between;
  shape = K.shape;
  content = λ l. record { of = home_of homes at; is = m.at_home };
  light = K.light;
}
  where
    m : IsMade dims h p (DoneBefore p (across ∷ home_of homes at)) (state old homes updated) at across j (state mid M.homes' updated)
    m = M.made

pub can_enter : (dims : ℕ) (p : Weighted) (old mid : List Slot) (updated : List ℕ) (dim at j : ℕ) → ∥ CanVisit dims p old updated dim at ∥₁ → TellsOnlyChild old at None → IsFilled dims (dim + 1) updated old at mid (Some j) → ∥ CanEnter dims p mid updated (dim + 1) j ∥₁
can_enter dims p old mid updated dim at j R n F = ∥∥₁_map R (λ C.
    let M = content_made dims p old mid updated dim at j C.homes C.points C.known n F in
    record { homes = M.homes'; points = C.points; known = content_enterable dims p old mid updated dim at j C.homes C.points C.known M })

pub visited_updates : (dims : ℕ) (p : Weighted) (old mid new : List Slot) (before after : List ℕ) (dim at j : ℕ) → TellsOnlyChild old at None → IsFilled dims (dim + 1) before old at mid (Some j) → Enters dims p mid new before after (dim + 1) j → Visits dims p old new before after dim at
visited_updates dims p old mid new before after dim at j n F E homes h K =
    let M = content_made dims p old mid before dim at j homes h K n F in
    let e = E M.homes' h (content_enterable dims p old mid before dim at j homes h K M) in
    record {
      homes' = e.homes';
      entered = λ joined J. visit_updates dims h p K.shape K.spot (state old homes before) (state mid M.homes' before) (state new e.homes' after) (state new e.homes' joined) at j (visitable dims p old before dim at homes h K) n M.made e.entered (ended new e.homes' after joined at J);
    }

-- what own_content needs
pub content_in : (dims : ℕ) (p : Weighted) (slots : List Slot) (updated : List ℕ) (dim at : ℕ) → ∥ CanVisit dims p slots updated dim at ∥₁ → (t : ℕ) → link_of slots at across ≡ Some (shared t) → t < length slots
content_in dims p slots updated dim at R t is = ∥∥₁_elim R le_prop (λ C. (C.known.between.midway.has_homes.finer at t across is).0)

-- an only child is a node
pub child_node : (dims : ℕ) (p : Weighted) (slots : List Slot) (updated : List ℕ) (dim at : ℕ) (k : Link) → dim < dims → ∥ CanVisit dims p slots updated dim at ∥₁ → TellsOnlyChild slots at (Some k) → is_table (slot_of slots (target k)) ≡ false
child_node dims p slots updated dim at k less R O = ∥∥₁_elim R (Bool-set _ _) (λ C.
    let M = C.known.between.midway in
    let co = link_coarser slots C.homes M.has_homes at (down O.0) k O.1.is in
    node_before dims slots C.homes (target k) M.has_tables (target-lt slots C.homes M.has_homes at (down O.0) k O.1.is) (λ d. let e = dimension-finer co in let f = C.known.in_dim in omega (arith, d, e, f, less)))

-- what is visited is a node of the arena
pub visit_node : (dims : ℕ) (p : Weighted) (slots : List Slot) (updated : List ℕ) (dim at : ℕ) → ∥ CanVisit dims p slots updated dim at ∥₁ → (at < length slots) × (is_table (slot_of slots at) ≡ false)
visit_node dims p slots updated dim at R = (∥∥₁_elim R le_prop (λ C. C.known.in_range), ∥∥₁_elim R (Bool-set _ _) (λ C. C.known.is_node))
