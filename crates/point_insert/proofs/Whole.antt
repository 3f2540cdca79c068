-- A visit keeps the insertion invariant, whichever case it is.
use Rattle.std.proofs.Common.{◌≡◌, ℕ, suc, ◌<◌, false, ◌⊎◌, inl, inr, List, ◌∷◌, Some, Contains, length, sym, ap, ◌∙◌, subst, arith, subst₂, true≢false}
use Rattle.cube_view.specs.Walks.{Step, down, across, Walk, SpotPath, Under, dimension, HasSpot}
use Rattle.proper_path.specs.Order.{IsAbove, itself, further, IsBefore, shape_of}
use Rattle.node_arena.specs.declared.link.Link.{Link}
use Rattle.node_arena.specs.Slots.{proper, shared, target, Slot, link_of, slot_of, is_table}
use Rattle.node_arena.specs.Shape.{home_of, HasHomes, HasOneChild, SharesContent, SharesWithChild}
use Rattle.proper_path.specs.Midway.{IsMidway, IsNext, Joins, SharesBetween, HasTwoChildren, DoneBefore, DoneAfter, IsBetween}
use Rattle.proper_path.specs.Changes.{IsRelinked, IsCounted}
use Rattle.proper_path.specs.Making.{State, home, IsSpotOf, AllOfShape, Keeps}
use Rattle.proper_path.specs.Trails.{IsTrailLink}
use Rattle.point_insert.specs.Ending.{Ends, HasNotOneChild}
use Rattle.point_insert.specs.Visited.{HasPathChild, IsEntered}
use Rattle.cube_view.proofs.FinerWalks.{under_before, Contains-cases}
use Rattle.node_arena.proofs.Labels.{same_down}
use Rattle.proper_path.proofs.Above.{under_above}
use Rattle.proper_path.proofs.Links.{table_link}
use Rattle.proper_path.proofs.Homes.{IsFree}
use Rattle.proper_path.proofs.Shares.{MayShare, shares_ends, shares_relinked}
use Rattle.point_insert.proofs.Visits.{visit_ends, table_ends, relinked, IsReady}
use Rattle.point_insert.proofs.Cases.{ready, one_child_shares, one_child_ready, updated_holds, next_label}
use Rattle.proper_path.proofs.Dims.{goes_across, stops_at_time}
use Rattle.proper_path.proofs.Order.{above_cases, above-step, above-length, before_across, across_before, closed_before, after_child, child_after, finest_across, across_finest, not_done}
use Rattle.proper_path.proofs.Steps.{Between, keeps-trans, keeps_less, none_below, not_above_before, between_same, IsMade}
use Rattle.proper_path.proofs.Links.{proper≢shared}
use Rattle.node_arena.specs.Amounts.{Weighted, spots_in}

-- what comes before a node, or stands below a child of it, comes before it or stands at or below it
before_or_below : (a b : Walk) → IsBefore b a ⊎ ((m : ℕ) × IsAbove (down m ∷ a) b) → IsBefore b a ⊎ IsAbove a b
before_or_below a b (inl r) = inl r
before_or_below a b (inr f) = inr (above-step f.1)

-- the visit of slot i ends, in the three ways in which it may
next_shared : (p : Weighted) (slots : List Slot) (homes : List Walk) (i : ℕ) → HasHomes slots homes → i < length slots → Under p.spot (home_of homes i) → IsFree slots i across → IsNext slots homes p (DoneBefore p (across ∷ home_of homes i)) (DoneAfter p (home_of homes i)) i
next_shared p slots homes i H lt u free = record {
  ended = record { kept = λ b d. (d.0, before_or_below (home_of homes i) b (before_across d.1)); here = (u, inr itself); only = λ j l d. only j l d.0 d.1 };
  holds = λ b d. d.0;
}
  where
    below : (j : ℕ) → j < length slots → Under p.spot (home_of homes j) → (home_of homes i ≡ home_of homes j) ⊎ ((e : Step) × IsAbove (e ∷ home_of homes i) (home_of homes j)) → DoneBefore p (across ∷ home_of homes i) (home_of homes j) ⊎ (j ≡ i)
    below j l v (inl e) = inr (H.distinct j i l lt (sym e))
    below j l v (inr (down m, g)) = inl (v, record { parting = home_of homes i; label = m; goes_down = g; goes_across = itself })
    below j l v (inr (across, g)) = absurd (none_below slots homes H i across lt free j l g)

    only : (j : ℕ) → j < length slots → Under p.spot (home_of homes j) → IsBefore (home_of homes j) (home_of homes i) ⊎ IsAbove (home_of homes i) (home_of homes j) → DoneBefore p (across ∷ home_of homes i) (home_of homes j) ⊎ (j ≡ i)
    only j l v (inl r) = inl (v, across_before r)
    only j l v (inr f) = below j l v (above_cases f)

pub next_updated : (p : Weighted) (slots : List Slot) (homes : List Walk) (i : ℕ) → HasHomes slots homes → i < length slots → Under p.spot (home_of homes i) → IsNext slots homes p (DoneAfter p (across ∷ home_of homes i)) (DoneAfter p (home_of homes i)) i
next_updated p slots homes i H lt u = record {
  ended = record { kept = λ b d. (d.0, kept b d.1); here = (u, inr itself); only = λ j l d. only j l d.0 d.1 };
  holds = λ b d. d.0;
}
  where
    kept : (b : Walk) → IsBefore b (across ∷ home_of homes i) ⊎ IsAbove (across ∷ home_of homes i) b → IsBefore b (home_of homes i) ⊎ IsAbove (home_of homes i) b
    kept b (inl r) = before_or_below (home_of homes i) b (before_across r)
    kept b (inr f) = inr (above-step f)

    below : (j : ℕ) → j < length slots → Under p.spot (home_of homes j) → (home_of homes i ≡ home_of homes j) ⊎ ((e : Step) × IsAbove (e ∷ home_of homes i) (home_of homes j)) → DoneAfter p (across ∷ home_of homes i) (home_of homes j) ⊎ (j ≡ i)
    below j l v (inl e) = inr (H.distinct j i l lt (sym e))
    below j l v (inr (down m, g)) = inl (v, inl (record { parting = home_of homes i; label = m; goes_down = g; goes_across = itself }))
    below j l v (inr (across, g)) = inl (v, inr g)

    only : (j : ℕ) → j < length slots → Under p.spot (home_of homes j) → IsBefore (home_of homes j) (home_of homes i) ⊎ IsAbove (home_of homes i) (home_of homes j) → DoneAfter p (across ∷ home_of homes i) (home_of homes j) ⊎ (j ≡ i)
    only j l v (inl r) = inl (v, inl (across_before r))
    only j l v (inr f) = below j l v (above_cases f)

pub next_table : (p : Weighted) (slots : List Slot) (homes : List Walk) (i : ℕ) → HasHomes slots homes → i < length slots → Under p.spot (home_of homes i) → ((e : Step) → Under p.spot (e ∷ home_of homes i) → ⊥) → IsNext slots homes p (DoneBefore p (home_of homes i)) (DoneAfter p (home_of homes i)) i
next_table p slots homes i H lt u last = record {
  ended = record { kept = λ b d. (d.0, inl d.1); here = (u, inr itself); only = λ j l d. only j l d.0 d.1 };
  holds = λ b d. d.0;
}
  where
    below : (j : ℕ) → j < length slots → Under p.spot (home_of homes j) → (home_of homes i ≡ home_of homes j) ⊎ ((e : Step) × IsAbove (e ∷ home_of homes i) (home_of homes j)) → DoneBefore p (home_of homes i) (home_of homes j) ⊎ (j ≡ i)
    below j l v (inl e) = inr (H.distinct j i l lt (sym e))
    below j l v (inr r) = absurd (last r.0 (under_above r.1 p.spot v))

    only : (j : ℕ) → j < length slots → Under p.spot (home_of homes j) → IsBefore (home_of homes j) (home_of homes i) ⊎ IsAbove (home_of homes i) (home_of homes j) → DoneBefore p (home_of homes i) (home_of homes j) ⊎ (j ≡ i)
    only j l v (inl r) = inl (v, r)
    only j l v (inr f) = below j l v (above_cases f)

-- the last step of a visit
node_ends : (dims : ℕ) (h : List Weighted) (p : Weighted) (done next : Walk → Type 0) (b d : State) (i : ℕ) → Between dims h p done b → i < length b.slots → is_table (slot_of b.slots i) ≡ false → IsReady b.slots b.homes p i → SharesWithChild b.slots i → IsNext b.slots b.homes p done next i → Ends b i d → Between dims h p next d
node_ends dims h p done next b d i B lt node R own N E =
    subst₂ (λ x y. IsBetween dims x y h p next d.updated) (sym E.slots) (sym E.homes) (record {
      midway = visit_ends dims b.slots b.homes h p done next b.updated d.updated i B.midway lt node R N E.joins;
      shares = shares_ends b.slots b.homes p done next i N own B.shares;
    })

ends_keeps : (b d : State) (i : ℕ) (x : Walk) → Ends b i d → Keeps b d x
ends_keeps b d i x E = record {
  size = omega (arith, ap length E.slots);
  homes = λ j l. ap (λ z. home_of z j) E.homes;
  links = λ j f l n. ap (λ z. link_of z j f) E.slots;
  kinds = λ j l. ap (λ z. is_table (slot_of z j)) E.slots;
}

-- `done` at another spelling of the same address
between_at : (dims : ℕ) (h : List Weighted) (p : Weighted) (F : Weighted → Walk → Walk → Type 0) (x y : Walk) (a : State) → x ≡ y → Between dims h p (F p x) a → Between dims h p (F p y) a
between_at dims h p F x y a e B = subst (λ z. Between dims h p (F p z) a) e B

module _ (dims : ℕ) (h : List Weighted) (p : Weighted) (shape : AllOfShape (spots_in h) p.spot) (spot : IsSpotOf dims p.spot) where
  -- what a visit needs besides the invariant: the node, and its child on p's path
  pub record IsVisitable (a : State) (i : ℕ) : Type 0 where
    pub between : Between dims h p (DoneBefore p (across ∷ home a i)) a
    pub in_range : i < length a.slots
    pub is_node : is_table (slot_of a.slots i) ≡ false
    pub lies : Under p.spot (home a i)
    pub path : HasPathChild a.slots a.homes p i

  pub not_time : (a : State) (i : ℕ) → (v : IsVisitable a i) → dimension (home a i) ≡ dims → ⊥
  not_time a i v d = true≢false (sym ((v.between.midway.has_tables.tables i v.in_range).1 d) ∙ v.is_node)

  pub lies_across : (a : State) (i : ℕ) → IsVisitable a i → Under p.spot (across ∷ home a i)
  lies_across a i v = goes_across dims p.spot spot (home a i) v.lies (not_time a i v)

  pub not_one : (slots : List Slot) (i label : ℕ) (l : Link) → HasOneChild slots i label l → HasTwoChildren slots i → ⊥
  not_one slots i label l O t = t.differ (O.only t.one t.first t.is_first ∙ sym (O.only t.other t.second t.is_second))

  pub all_of_shape : (q : SpotPath) → Contains (spots_in (p ∷ h)) q → shape_of q ≡ shape_of p.spot
  all_of_shape q c = go (Contains-cases (spots_in h) p.spot q c)
    where
      go : (p.spot ≡ q) ⊎ Contains (spots_in h) q → shape_of q ≡ shape_of p.spot
      go (inl e) = ap shape_of (sym e)
      go (inr d) = shape q d

  -- case 1
  pub visit_shares : (a b d : State) (i label : ℕ) (k w : Link) → IsVisitable a i → HasOneChild a.slots i label k → link_of a.slots (target k) across ≡ Some w → IsRelinked a.slots b.slots i across (shared (target w)) → b.homes ≡ a.homes → b.updated ≡ a.updated → Ends b i d → IsEntered dims h p a i d
  visit_shares a b d i label k w v O is R hs us E = record {
    between = node_ends dims h p done (DoneAfter p H) b' d i B' (omega (arith, v.in_range, R.size)) (R.old_kind i ∙ v.is_node) is_ready own (next_shared p b.slots a.homes i M'.has_homes (omega (arith, v.in_range, R.size)) v.lies (λ x y. free' x y)) E';
    keeps = keeps-trans (record { size = omega (arith, R.size); homes = λ j l. ap (λ z. home_of z j) hs; links = λ j f l n. R.old_link j f (λ x y. n (subst (λ z. IsAbove H (home a z)) (sym x) itself)); kinds = λ j l. R.old_kind j }) (ends_keeps b d i H E);
  }
    where
      H : Walk
      H = home a i

      done : Walk → Type 0
      done = DoneBefore p (across ∷ home a i)

      M : IsMidway dims a.slots a.homes h p (DoneBefore p (across ∷ home a i)) a.updated
      M = v.between.midway

      w0 : HasSpot (spots_in (p ∷ h)) (down label ∷ home a i)
      w0 = M.holds.wanted i (down label) k O.is

      m : (m : ℕ) × Under p.spot (down m ∷ home a i)
      m = next_label p.spot w0.spot (sym (all_of_shape w0.spot w0.is_in)) (home a i) label v.lies w0.lies

      m_is : m.0 ≡ label
      m_is = let c = v.path.child m.0 m.1 in O.only m.0 (proper c.0) c.1

      u : Under p.spot (down label ∷ home a i)
      u = subst (λ z. Under p.spot (down z ∷ home a i)) m_is m.1

      c : (j : ℕ) × (link_of a.slots i (down label) ≡ Some (proper j))
      c = v.path.child label u

      k_is : k ≡ proper c.0
      k_is = let x = O.is in let y = c.1 in cc

      child_home : home_of a.homes (target k) ≡ down label ∷ home a i
      child_home = ap (λ z. home_of a.homes (target z)) k_is ∙ (M.has_homes.at_home i c.0 (down label) c.1).1

      child_done : DoneBefore p (across ∷ home a i) (home_of a.homes (target k))
      child_done = subst (λ z. DoneBefore p (across ∷ home a i) z) (sym child_home) (u, record { parting = home a i; label = label; goes_down = itself; goes_across = itself })

      free : IsFree a.slots i across
      free to x = not_one a.slots i label k O (v.between.shares.many i to label x u)

      fresh : DoneBefore p (across ∷ home a i) (home a i) → ⊥
      fresh d = not_above_before (further itself) d.1

      may : MayShare a.slots a.homes h p (DoneBefore p (across ∷ home a i)) i (target w) across
      may = one_child_shares dims a.slots a.homes h p (DoneBefore p (across ∷ home a i)) a.updated M shape i label k w O u is free fresh

      M' : IsMidway dims b.slots a.homes h p (DoneBefore p (across ∷ home a i)) a.updated
      M' = relinked dims a.slots b.slots a.homes h p (DoneBefore p (across ∷ home a i)) a.updated i (target w) across M R may

      b' : State
      b' = record { slots = b.slots; homes = a.homes; updated = a.updated }

      B' : Between dims h p (DoneBefore p (across ∷ home a i)) b'
      B' = record { midway = M'; shares = shares_relinked a.slots b.slots a.homes h i (target w) p (DoneBefore p (across ∷ home a i)) R M.has_homes (closed_before p (across ∷ home a i)) v.lies may v.between.shares }

      E' : Ends b' i d
      E' = record { slots = E.slots; homes = E.homes ∙ hs; joins = subst₂ (λ x y. Joins x i y d.updated) hs us E.joins }

      free' : IsFree b.slots i across
      free' x y = proper≢shared x (target w) (let m : Some (proper x) ≡ Some (shared (target w)) = sym y ∙ R.set_link in cc)

      below : (n : ℕ) → link_of b.slots i (down n) ≡ link_of a.slots i (down n)
      below n = R.old_link i (down n) (λ x y. let z : ⊥ = cc in z)

      path' : HasPathChild b.slots a.homes p i
      path' = record { child = λ l x. let r = v.path.child l x in (r.0, below l ∙ r.1) }

      is_ready : IsReady b.slots a.homes p i
      is_ready = ready b.slots a.homes p M'.has_homes i path' (shared (target w)) R.set_link (λ x. one_child_ready dims a.slots a.homes h p (DoneBefore p (across ∷ home a i)) a.updated M i label k w O.is child_done.0 child_done is x)

      apart : target k ≡ i → ⊥
      apart x = let e : length (home_of a.homes (target k)) ≡ length (home a i) = ap (λ z. length (home_of a.homes z)) x in let f : length (home_of a.homes (target k)) ≡ suc (length (home a i)) = ap length child_home in omega arith

      own : SharesWithChild b.slots i
      own n l Q =
          let n_is : n ≡ label = O.only n l (sym (below n) ∙ Q.is) in
          let at : link_of a.slots i (down label) ≡ Some l = subst (λ z. link_of a.slots i (down z) ≡ Some l) n_is (sym (below n) ∙ Q.is) in
          let l_is : k ≡ l = let x = O.is in cc in
          subst (λ z. SharesContent b.slots i z) l_is (record { content = w; of_child = R.old_link (target k) across (λ x y. apart x) ∙ is; of_node = R.set_link })

  -- cases 2, 3 and 4, after the content was entered
  pub visit_updates : (a b c d : State) (i j : ℕ) → IsVisitable a i → HasNotOneChild a i → IsMade dims h p (DoneBefore p (across ∷ home a i)) a i across j b → IsEntered dims h p b j c → Ends c i d → IsEntered dims h p a i d
  visit_updates a b c d i j v n m en E = record {
    between = between_at dims h p DoneAfter (home c i) (home a i) d home_c (node_ends dims h p (DoneAfter p (across ∷ home c i)) (DoneAfter p (home c i)) c d i B lt_c (en.keeps.kinds i lt_b ∙ (m.keeps.kinds i v.in_range ∙ v.is_node)) is_ready own (next_updated p c.slots c.homes i B.midway.has_homes lt_c (subst (Under p.spot) (sym home_c) v.lies)) E);
    keeps = keeps-trans m.keeps (keeps-trans (keeps_less (subst (λ z. IsAbove (home a i) z) (sym m.at_home) (further itself)) en.keeps) (ends_keeps c d i (home a i) E));
  }
    where
      lt_b : i < length b.slots
      lt_b = omega (arith, v.in_range, m.keeps.size)

      lt_c : i < length c.slots
      lt_c = omega (arith, v.in_range, m.keeps.size, en.keeps.size)

      home_b : home b i ≡ home a i
      home_b = m.keeps.homes i v.in_range

      home_c : home c i ≡ home a i
      home_c = en.keeps.homes i lt_b ∙ home_b

      B : Between dims h p (DoneAfter p (across ∷ home c i)) c
      B = between_at dims h p DoneAfter (home b j) (across ∷ home c i) c (m.at_home ∙ ap (λ z. across ∷ z) (sym home_c)) en.between

      outside : IsAbove (home b j) (home b i) → ⊥
      outside f = let e : length (home b j) ≡ suc (length (home a i)) = ap length m.at_home in let g : length (home b i) ≡ length (home a i) = ap length home_b in let s = above-length f in omega arith

      same : (f : Step) → link_of c.slots i f ≡ link_of b.slots i f
      same f = en.keeps.links i f lt_b outside

      below : (l : ℕ) → link_of c.slots i (down l) ≡ link_of a.slots i (down l)
      below l = same (down l) ∙ m.others (down l) (λ x. let z : ⊥ = cc in z)

      content : link_of c.slots i across ≡ Some (proper j)
      content = same across ∙ m.link

      path_c : HasPathChild c.slots c.homes p i
      path_c = record { child = λ l x. let r = v.path.child l (subst (λ z. Under p.spot (down l ∷ z)) home_c x) in (r.0, below l ∙ r.1) }

      is_ready : IsReady c.slots c.homes p i
      is_ready = ready c.slots c.homes p B.midway.has_homes i path_c (proper j) content (λ x. subst (Under p.spot) (sym (B.midway.has_homes.at_home i j across content).1) x)

      own : SharesWithChild c.slots i
      own label l O =
          let t = n label l (sym (below label) ∙ O.is) in
          absurd (t.differ (O.only t.one t.first (below t.one ∙ t.is_first) ∙ sym (O.only t.other t.second (below t.other ∙ t.is_second))))

  -- case 5
  pub visit_skips : (a d : State) (i t : ℕ) → IsVisitable a i → HasNotOneChild a i → link_of a.slots i across ≡ Some (shared t) → Contains a.updated t → Ends a i d → IsEntered dims h p a i d
  visit_skips a d i t v n is c E = record {
    between = node_ends dims h p (DoneBefore p (across ∷ home a i)) (DoneAfter p (home a i)) a d i v.between v.in_range v.is_node is_ready own (next_shared p a.slots a.homes i v.between.midway.has_homes v.in_range v.lies (λ x y. proper≢shared x t (let m : Some (proper x) ≡ Some (shared t) = sym y ∙ is in cc))) E;
    keeps = ends_keeps a d i (home a i) E;
  }
    where
      is_ready : IsReady a.slots a.homes p i
      is_ready = ready a.slots a.homes p v.between.midway.has_homes i v.path (shared t) is (λ x. updated_holds dims a.slots a.homes h p (DoneBefore p (across ∷ home a i)) a.updated v.between.midway t c)

      own : SharesWithChild a.slots i
      own label l O = absurd (not_one a.slots i label l O (n label l O.is))

  -- a table
  pub table_entered : (a b d : State) (i : ℕ) → Between dims h p (DoneBefore p (home a i)) a → Under p.spot (home a i) → IsCounted a.slots b.slots i p.spot.bin p.amount → b.homes ≡ a.homes → b.updated ≡ a.updated → Ends b i d → IsEntered dims h p a i d
  table_entered a b d i B u C hs us E = record {
    between = subst₂ (λ x y. IsBetween dims x y h p (DoneAfter p (home a i)) d.updated) (sym E.slots) (sym (E.homes ∙ hs)) (record { midway = mid; shares = sh });
    keeps = keeps-trans (record { size = omega (arith, C.size); homes = λ j l. ap (λ z. home_of z j) hs; links = λ j f l n. C.links j f; kinds = λ j l. C.old_kind j }) (ends_keeps b d i (home a i) E);
  }
    where
      last : (e : Step) → Under p.spot (e ∷ home a i) → ⊥
      last e x = stops_at_time dims p.spot spot (home a i) ((B.midway.has_tables.tables i C.place).0 C.kind) e x

      N : IsNext a.slots a.homes p (DoneBefore p (home a i)) (DoneAfter p (home a i)) i
      N = next_table p a.slots a.homes i B.midway.has_homes C.place u last

      mid : IsMidway dims b.slots a.homes h p (DoneAfter p (home a i)) d.updated
      mid = table_ends dims a.slots b.slots a.homes h p (DoneBefore p (home a i)) (DoneAfter p (home a i)) a.updated d.updated i B.midway C u (λ x. not_done p (home a i) (home a i) itself x) last N (subst₂ (λ x y. Joins x i y d.updated) hs us E.joins)

      own : SharesWithChild a.slots i
      own label l O = let x = O.is in let y = table_link (slot_of a.slots i) (down label) C.kind in absurd cc

      S : SharesBetween a.slots a.homes p (DoneAfter p (home a i))
      S = shares_ends a.slots a.homes p (DoneBefore p (home a i)) (DoneAfter p (home a i)) i N own B.shares

      sh : SharesBetween b.slots a.homes p (DoneAfter p (home a i))
      sh = record {
        shares = λ j label l x O. let s = S.shares j label l x (record { is = sym (C.links j (down label)) ∙ O.is; only = λ k m y. O.only k m (C.links j (down k) ∙ y) }) in record { content = s.content; of_child = C.links (target l) across ∙ s.of_child; of_node = C.links j across ∙ s.of_node };
        many = λ j to label x y. let t = S.many j to label (sym (C.links j across) ∙ x) y in record { one = t.one; other = t.other; differ = t.differ; first = t.first; second = t.second; is_first = C.links j (down t.one) ∙ t.is_first; is_second = C.links j (down t.other) ∙ t.is_second };
      }

  -- after the child on p's path was entered, the node can be visited
  pub visitable : (a b c : State) (i j l : ℕ) → i < length a.slots → is_table (slot_of a.slots i) ≡ false → Under p.spot (down l ∷ home a i) → IsMade dims h p (DoneBefore p (home a i)) a i (down l) j b → IsEntered dims h p b j c → IsVisitable c i
  visitable a b c i j l lt nd u m en = record {
    between = between_same dims h p (DoneAfter p (home b j)) (DoneBefore p (across ∷ home c i)) c to back en.between;
    in_range = omega (arith, lt, m.keeps.size, en.keeps.size);
    is_node = en.keeps.kinds i lt_b ∙ (m.keeps.kinds i lt ∙ nd);
    lies = subst (Under p.spot) (sym home_c) (under_before p.spot (down l) (home a i) u);
    path = record { child = child };
  }
    where
      lt_b : i < length b.slots
      lt_b = omega (arith, lt, m.keeps.size)

      home_c : home c i ≡ home a i
      home_c = en.keeps.homes i lt_b ∙ m.keeps.homes i lt

      child_home : home b j ≡ down l ∷ home c i
      child_home = m.at_home ∙ ap (λ z. down l ∷ z) (sym home_c)

      u_c : Under p.spot (down l ∷ home c i)
      u_c = subst (λ z. Under p.spot (down l ∷ z)) (sym home_c) u

      to : (x : Walk) → DoneAfter p (home b j) x → DoneBefore p (across ∷ home c i) x
      to x d = after_child p (home c i) x l (subst (λ z. DoneAfter p z x) child_home d)

      back : (x : Walk) → DoneBefore p (across ∷ home c i) x → DoneAfter p (home b j) x
      back x d = subst (λ z. DoneAfter p z x) (sym child_home) (child_after p (home c i) x l u_c d)

      outside : IsAbove (home b j) (home b i) → ⊥
      outside f = let e : length (home b j) ≡ suc (length (home a i)) = ap length m.at_home in let g : length (home b i) ≡ length (home a i) = ap length (m.keeps.homes i lt) in let s = above-length f in omega arith

      child : (n : ℕ) → Under p.spot (down n ∷ home c i) → (k : ℕ) × (link_of c.slots i (down n) ≡ Some (proper k))
      child n x =
          let e : n ≡ l = same_down p.spot n l (home c i) x u_c in
          (j, ap (λ z. link_of c.slots i (down z)) e ∙ (en.keeps.links i (down l) lt_b outside ∙ m.link))

  -- where p goes no further down, the node can be visited at once
  pub visitable_finest : (a : State) (i : ℕ) → i < length a.slots → is_table (slot_of a.slots i) ≡ false → Under p.spot (home a i) → ((l : ℕ) → Under p.spot (down l ∷ home a i) → ⊥) → Between dims h p (DoneBefore p (home a i)) a → IsVisitable a i
  visitable_finest a i lt nd u none B = record {
    between = between_same dims h p (DoneBefore p (home a i)) (DoneBefore p (across ∷ home a i)) a (λ x d. across_finest p (home a i) x d) (λ x d. finest_across p (home a i) x none d) B;
    in_range = lt;
    is_node = nd;
    lies = u;
    path = record { child = λ l x. absurd (none l x) };
  }

-- once the child is visited, its node on the trail can be
pub trail_visitable : (dims : ℕ) (h : List Weighted) (p : Weighted) (shape : AllOfShape (spots_in h) p.spot) (spot : IsSpotOf dims p.spot) (c : State) (x y : ℕ) → IsTrailLink c p x y → x < length c.slots → is_table (slot_of c.slots x) ≡ false → Between dims h p (DoneAfter p (home c y)) c → IsVisitable dims h p shape spot c x
trail_visitable dims h p shape spot c x y t lt nd B = record {
  between = between_same dims h p (DoneAfter p (home c y)) (DoneBefore p (across ∷ home c x)) c to back B;
  in_range = lt;
  is_node = nd;
  lies = under_before p.spot (down t.label) (home c x) t.lies;
  path = record { child = child };
}
  where
    child_home : home c y ≡ down t.label ∷ home c x
    child_home = (B.midway.has_homes.at_home x y (down t.label) t.is).1

    to : (z : Walk) → DoneAfter p (home c y) z → DoneBefore p (across ∷ home c x) z
    to z d = after_child p (home c x) z t.label (subst (λ w. DoneAfter p w z) child_home d)

    back : (z : Walk) → DoneBefore p (across ∷ home c x) z → DoneAfter p (home c y) z
    back z d = subst (λ w. DoneAfter p w z) (sym child_home) (child_after p (home c x) z t.label t.lies d)

    child : (n : ℕ) → Under p.spot (down n ∷ home c x) → (k : ℕ) × (link_of c.slots x (down n) ≡ Some (proper k))
    child n u = let e : n ≡ t.label = same_down p.spot n t.label (home c x) u t.lies in (y, ap (λ z. link_of c.slots x (down z)) e ∙ t.is)
