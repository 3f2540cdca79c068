-- The five cases of a visit, the start and the end.
use Rattle.std.proofs.Common.{◌≡◌, ℕ, ◌+◌, ◌<◌, Bool, true, false, cond, ◌&&◌, eqb, ◌⊎◌, inl, inr, List, [], ◌∷◌, Option, Some, None, Contains, length, map, refl, sym, ap, ◌∙◌, subst, arith, subst₂, is_some, true≢false, eq-eqb}
use Rattle.std.proofs.lemmas.List.Sums.{sum_by-cons}
use Rattle.cube_view.specs.Walks.{Step, down, across, Walk, SpotPath, Cursor, after_down, after_across, then_step, cursor, under, Under, Finer, by_down, by_across, longer, IsCoarser, HasSpot}
use Rattle.proper_path.specs.Order.{shape_of}
use Rattle.node_arena.specs.declared.link.Link.{Link}
use Rattle.node_arena.specs.Slots.{proper, target, Slot, link_of, slot_of, count, is_table}
use Rattle.node_arena.specs.Shape.{home_of, HasHomes, HoldsSpots, IsLinked, HasOneChild, IsShaped}
use Rattle.proper_path.specs.Making.{AllOfShape}
use Rattle.proper_path.specs.Midway.{LeadsOn, IsGrowing, IsMidway}
use Rattle.cube_view.proofs.FinerWalks.{coarser_under, under_before, Contains-cons, Contains-cases, begun, under-some, loosen, finer_cursor, finer-trans}
use Rattle.node_arena.proofs.Links.{linked-lt}
use Rattle.proper_path.proofs.Homes.{IsFree}
use Rattle.node_arena.proofs.Walks.{link_coarser, target-lt}
use Rattle.proper_path.proofs.Shares.{MayLead, MayShare}
use Rattle.point_insert.specs.Visited.{HasPathChild}
use Rattle.point_insert.proofs.Visits.{IsReady}
use Rattle.node_arena.specs.Amounts.{Weighted, spots_in, amount_under}

-- spots of one shape have as much left at an address
pub record HaveLeft (c d : Cursor) : Type 0 where
  pub rest : length c.rest ≡ length d.rest
  pub later : map length c.later ≡ map length d.later

left_across : (cs ds : List (List ℕ)) (c d : Cursor) → map length cs ≡ map length ds → after_across cs ≡ Some c → after_across ds ≡ Some d → HaveLeft c d
left_across [] ds c d e x y = absurd cc
left_across (a ∷ cs) [] c d e x y = absurd cc
left_across (a ∷ cs) (b ∷ ds) c d e x y =
    let xc : record { rest = a; later = cs } ≡ c = cc in
    let yd : record { rest = b; later = ds } ≡ d = cc in
    subst₂ HaveLeft xc yd (record { rest = cc; later = cc })

left_down : (l : ℕ) (r s : List ℕ) (cs ds : List (List ℕ)) (c d : Cursor) → length r ≡ length s → map length cs ≡ map length ds → after_down l r cs ≡ Some c → after_down l s ds ≡ Some d → HaveLeft c d
left_down l [] s cs ds c d e f x y = absurd cc
left_down l (a ∷ r) [] cs ds c d e f x y = absurd cc
left_down l (a ∷ r) (b ∷ s) cs ds c d e f x y = go (eqb l a) (eqb l b) x y
  where
    go : (t v : Bool) → cond t (Some (record { rest = r; later = cs })) None ≡ Some c → cond v (Some (record { rest = s; later = ds })) None ≡ Some d → HaveLeft c d
    go true true x y =
        let xc : record { rest = r; later = cs } ≡ c = cc in
        let yd : record { rest = s; later = ds } ≡ d = cc in
        subst₂ HaveLeft xc yd (record { rest = cc; later = f })
    go true false x y = absurd cc
    go false v x y = absurd cc

pub same_left : (q p : SpotPath) → shape_of q ≡ shape_of p → (a : Walk) (c d : Cursor) → cursor q a ≡ Some c → cursor p a ≡ Some d → HaveLeft c d
same_left q p e [] c d x y = left_across q.paths p.paths c d e x y
same_left q p e (down l ∷ a) c d x y =
    let r = begun (cursor q a) (down l) c x in let s = begun (cursor p a) (down l) d y in
    let k = same_left q p e a r.0 s.0 r.1 s.1 in
    left_down l r.0.rest s.0.rest r.0.later s.0.later c d k.rest k.later r.2 s.2
same_left q p e (across ∷ a) c d x y =
    let r = begun (cursor q a) across c x in let s = begun (cursor p a) across d y in
    let k = same_left q p e a r.0 s.0 r.1 s.1 in
    left_across r.0.later s.0.later c d k.later r.2 s.2

-- where one spot goes down from an address, another of its shape does too
pub next_label : (q p : SpotPath) → shape_of q ≡ shape_of p → (a : Walk) (l : ℕ) → Under q a → Under p (down l ∷ a) → (m : ℕ) × Under q (down m ∷ a)
next_label q p e a l u v = go c.0.rest refl
  where
    c : (c : Cursor) × (cursor q a ≡ Some c)
    c = under-some q a u

    d : (d : Cursor) × (cursor p (down l ∷ a) ≡ Some d)
    d = under-some p (down l ∷ a) v

    b : (b : Cursor) × (cursor p a ≡ Some b) × (after_down l b.rest b.later ≡ Some d.0)
    b = begun (cursor p a) (down l) d.0 d.1

    k : HaveLeft c.0 b.0
    k = same_left q p e a c.0 b.0 c.1 b.1

    go : (r : List ℕ) → c.0.rest ≡ r → (m : ℕ) × Under q (down m ∷ a)
    go [] w = absurd (none b.0.rest b.2 (sym k.rest ∙ ap length w))
      where
        none : (s : List ℕ) → after_down l s b.0.later ≡ Some d.0 → length s ≡ 0 → ⊥
        none [] x y = absurd cc
        none (n ∷ s) x y = absurd cc
    go (m ∷ r) w = (m, ap (λ (o : Option Cursor). is_some (then_step o (down m))) c.1 ∙ (ap (λ (x : List ℕ). is_some (after_down m x c.0.later)) w ∙ ap (λ (x : Bool). is_some {T = Cursor} (cond x (Some (record { rest = r; later = c.0.later })) None)) (eq-eqb m m refl)))

pub within_down : {a b : Walk} {l : ℕ} → Finer false (down l ∷ a) b → Finer true a b
within_down (by_down f) = longer (loosen f)

-- what goes across from an address goes across from each that lies within it
pub across_within : (q : SpotPath) {a b : Walk} → Finer true a b → Under q b → Under q (across ∷ a) → Under q (across ∷ b)
across_within q {a} {b} f u v =
    let c = under-some q b u in let r = finer_cursor f q c.0 c.1 in
    ap (λ (o : Option Cursor). is_some (then_step o across)) c.1
    ∙ (ap (λ (x : List (List ℕ)). is_some (after_across x)) (sym r.same_later) ∙ (ap (λ (o : Option Cursor). is_some (then_step o across)) (sym r.is) ∙ v))

-- a child stands at a label of the node
abbrev pub HasAnyChild : List Slot → ℕ → Type 0
HasAnyChild slots i = (m : ℕ) × IsLinked slots i (down m)

-- a spot goes across from the node, so an old child stands where it goes down, as another of its shape does
pub old_child : (slots : List Slot) (homes : List Walk) (sure all : List SpotPath) → HoldsSpots slots homes sure all → (p : SpotPath) → AllOfShape sure p → (i label : ℕ) → i < length slots → HasSpot sure (across ∷ home_of homes i) → Under p (down label ∷ home_of homes i) → HasAnyChild slots i
old_child slots homes sure all S p shape i label lt w u =
    let m = next_label w.spot p (shape w.spot w.is_in) (home_of homes i) label (under_before w.spot across (home_of homes i) w.lies) u in
    (m.0, S.needed i (down m.0) lt (record { spot = w.spot; is_in = w.is_in; lies = m.1 }))

path_ready : (slots : List Slot) (homes : List Walk) (p : Weighted) → HasHomes slots homes → (i : ℕ) → HasPathChild slots homes p i → (l : ℕ) → LeadsOn slots homes p i (down l)
path_ready slots homes p H i P l u =
    let r = P.child l u in (proper r.0, r.1, subst (λ z. Under p.spot z) (sym (H.at_home i r.0 (down l) r.1).1) u)

-- a node is ready once its child on p's path and its content are
pub ready : (slots : List Slot) (homes : List Walk) (p : Weighted) → HasHomes slots homes → (i : ℕ) → HasPathChild slots homes p i → (l : Link) → link_of slots i across ≡ Some l → (Under p.spot (across ∷ home_of homes i) → Under p.spot (home_of homes (target l))) → IsReady slots homes p i
ready slots homes p H i P l is holds (down m) u = path_ready slots homes p H i P m u
ready slots homes p H i P l is holds across u = (l, is, holds u)

-- the content of an only child, which all points go down to, may be shared
pub one_child_leads : (slots : List Slot) (homes : List Walk) (sure all : List SpotPath) → HasHomes slots homes → HoldsSpots slots homes sure all → (p : SpotPath) → AllOfShape sure p → (i label : ℕ) (k w : Link) → HasOneChild slots i label k → Under p (down label ∷ home_of homes i) → link_of slots (target k) across ≡ Some w → IsFree slots i across → MayLead slots homes sure all i (target w) across
one_child_leads slots homes sure all H S p shape i label k w O u is free = record {
  free = free;
  in_range = target-lt slots homes H (target k) across w is;
  coarser = finer-trans to_child (link_coarser slots homes H (target k) across w is);
  wanted = let r = S.wanted (target k) across w is in record { spot = r.spot; is_in = r.is_in; lies = coarser_under to_child r.spot r.lies };
  agrees = agrees;
}
  where
    to_node : Finer true (home_of homes i) (home_of homes (target k))
    to_node = within_down (link_coarser slots homes H i (down label) k O.is)

    to_child : IsCoarser (across ∷ home_of homes i) (across ∷ home_of homes (target k))
    to_child = by_across to_node

    lt : i < length slots
    lt = linked-lt slots i (down label) k O.is

    agrees : (q : SpotPath) → Contains sure q → Under q (across ∷ home_of homes i) → Under q (home_of homes (target w))
    agrees q c v =
        let m = next_label q p (shape q c) (home_of homes i) label (under_before q across (home_of homes i) v) u in
        let r = S.needed i (down m.0) lt (record { spot = q; is_in = c; lies = m.1 }) in
        let e : m.0 ≡ label = O.only m.0 r.link r.is in
        let down_q : Under q (down label ∷ home_of homes i) = subst (λ z. Under q (down z ∷ home_of homes i)) e m.1 in
        let at_child : Under q (home_of homes (target k)) = S.agrees i (down label) k O.is q c down_q in
        S.agrees (target k) across w is q c (across_within q to_node at_child v)

-- case 1: the node has one child, which was visited, and takes its content
pub one_child_shares : (dims : ℕ) (slots : List Slot) (homes : List Walk) (h : List Weighted) (p : Weighted) (done : Walk → Type 0) (updated : List ℕ) → IsMidway dims slots homes h p done updated → AllOfShape (spots_in h) p.spot → (i label : ℕ) (k w : Link) → HasOneChild slots i label k → Under p.spot (down label ∷ home_of homes i) → link_of slots (target k) across ≡ Some w → IsFree slots i across → (done (home_of homes i) → ⊥) → MayShare slots homes h p done i (target w) across
one_child_shares dims slots homes h p done updated M shape i label k w O u is free fresh = record {
  leads = one_child_leads slots homes (spots_in h) (spots_in (p ∷ h)) M.has_homes M.holds p.spot shape i label k w O u is free;
  open_node = fresh;
}

-- so p, which goes to the child, goes on to the content's home
pub one_child_ready : (dims : ℕ) (slots : List Slot) (homes : List Walk) (h : List Weighted) (p : Weighted) (done : Walk → Type 0) (updated : List ℕ) → IsMidway dims slots homes h p done updated → (i label : ℕ) (k w : Link) → link_of slots i (down label) ≡ Some k → Under p.spot (home_of homes (target k)) → done (home_of homes (target k)) → link_of slots (target k) across ≡ Some w → Under p.spot (across ∷ home_of homes i) → Under p.spot (home_of homes (target w))
one_child_ready dims slots homes h p done updated M i label k w is u d content v =
    let r = M.visited.links (target k) across (target-lt slots homes M.has_homes i (down label) k is) d (across_within p.spot (within_down (link_coarser slots homes M.has_homes i (down label) k is)) u v) in
    let e : r.0 ≡ w = cc in
    subst (λ z. Under p.spot (home_of homes (target z))) e r.2

-- case 5: the content was updated, so its home holds p
pub updated_holds : (dims : ℕ) (slots : List Slot) (homes : List Walk) (h : List Weighted) (p : Weighted) (done : Walk → Type 0) (updated : List ℕ) → IsMidway dims slots homes h p done updated → (t : ℕ) → Contains updated t → Under p.spot (home_of homes t)
updated_holds dims slots homes h p done updated M t c = M.visited.holds (home_of homes t) (M.updates.listed t c).1

-- no slot is in an empty list
pub none_in : (t : ℕ) → Contains [] t → ⊥
none_in t c = omega (arith, c.1)

-- the start: nothing is visited
pub growing_starts : (dims : ℕ) (slots : List Slot) (homes : List Walk) (h : List Weighted) (p : Weighted) (done : Walk → Type 0) → ((a : Walk) → done a → ⊥) → IsShaped dims slots homes h → IsGrowing dims slots homes h p done
growing_starts dims slots homes h p done none S = record {
  has_homes = S.has_homes;
  has_tables = S.has_tables;
  holds = record {
    needed = S.holds.needed;
    wanted = λ i e l is. let r = S.holds.wanted i e l is in record { spot = r.spot; is_in = Contains-cons (spots_in h) p.spot r.spot r.is_in; lies = r.lies };
    agrees = S.holds.agrees;
  };
  visited = record { holds = λ a d. absurd (none a d); links = λ i e l d u. absurd (none (home_of homes i) d) };
  counted = record { still = λ i bin l t d. S.counted.counts i bin l t; now = λ i bin l t d. absurd (none (home_of homes i) d) };
}

pub starts : (dims : ℕ) (slots : List Slot) (homes : List Walk) (h : List Weighted) (p : Weighted) (done : Walk → Type 0) → ((a : Walk) → done a → ⊥) → IsShaped dims slots homes h → IsMidway dims slots homes h p done []
starts dims slots homes h p done none S = record {
  growing = growing_starts dims slots homes h p done none S;
  updates = record { listed = λ i c. absurd (none_in i c); lists = λ i l d k. absurd (none (home_of homes i) d) };
}

-- what doesn't lie under an address adds nothing there
-- what one adds under an address in a bin
abbrev adds_under : Walk → ℕ → Weighted → ℕ
adds_under a bin q = cond (under q.spot a && eqb q.spot.bin bin) q.amount 0

amount_under-less : (h : List Weighted) (p : Weighted) (a : Walk) (bin : ℕ) → under p.spot a ≡ false → amount_under (p ∷ h) a bin ≡ amount_under h a bin
amount_under-less h p a bin u =
    sum_by-cons (adds_under a bin) p h
    ∙ (ap (λ (b : Bool). cond (b && eqb p.spot.bin bin) p.amount 0 + amount_under h a bin) u ∙ omega arith)

-- the end: all homes that hold p are visited
pub shape_ends : (dims : ℕ) (slots : List Slot) (homes : List Walk) (h : List Weighted) (p : Weighted) (done : Walk → Type 0) → IsGrowing dims slots homes h p done → ((i : ℕ) → i < length slots → Under p.spot (home_of homes i) → done (home_of homes i)) → IsShaped dims slots homes (p ∷ h)
shape_ends dims slots homes h p done M all = record {
  has_homes = M.has_homes;
  has_tables = M.has_tables;
  holds = record { needed = needed; wanted = M.holds.wanted; agrees = agrees };
  counted = record { counts = counts };
}
  where
    links : (i : ℕ) (e : Step) → i < length slots → Under p.spot (e ∷ home_of homes i) → (l : Link) × (link_of slots i e ≡ Some l) × Under p.spot (home_of homes (target l))
    links i e l u = M.visited.links i e l (all i l (under_before p.spot e (home_of homes i) u)) u

    needed : (i : ℕ) (e : Step) → i < length slots → HasSpot (spots_in (p ∷ h)) (e ∷ home_of homes i) → IsLinked slots i e
    needed i e l w = go (Contains-cases (spots_in h) p.spot w.spot w.is_in)
      where
        go : (p.spot ≡ w.spot) ⊎ Contains (spots_in h) w.spot → IsLinked slots i e
        go (inl x) = let r = links i e l (subst (λ z. Under z (e ∷ home_of homes i)) (sym x) w.lies) in record { link = r.0; is = r.1 }
        go (inr c) = M.holds.needed i e l (record { spot = w.spot; is_in = c; lies = w.lies })

    agrees : (i : ℕ) (e : Step) (l : Link) → link_of slots i e ≡ Some l → (q : SpotPath) → Contains (spots_in (p ∷ h)) q → Under q (e ∷ home_of homes i) → Under q (home_of homes (target l))
    agrees i e l is q c u = go (Contains-cases (spots_in h) p.spot q c)
      where
        go : (p.spot ≡ q) ⊎ Contains (spots_in h) q → Under q (home_of homes (target l))
        go (inl x) =
            let r = links i e (linked-lt slots i e l is) (subst (λ z. Under z (e ∷ home_of homes i)) (sym x) u) in
            let k : r.0 ≡ l = cc in
            subst₂ (λ y z. Under y (home_of homes (target z))) x k r.2
        go (inr d) = M.holds.agrees i e l is q d u

    counts : (i bin : ℕ) → i < length slots → is_table (slot_of slots i) ≡ true → count (slot_of slots i) bin ≡ amount_under (p ∷ h) (home_of homes i) bin
    counts i bin l t = go (under p.spot (home_of homes i)) refl
      where
        go : (b : Bool) → under p.spot (home_of homes i) ≡ b → count (slot_of slots i) bin ≡ amount_under (p ∷ h) (home_of homes i) bin
        go true e = M.counted.now i bin l t (all i l e)
        go false e = M.counted.still i bin l t (λ d. true≢false (sym (M.visited.holds (home_of homes i) d) ∙ e)) ∙ sym (amount_under-less h p (home_of homes i) bin e)
