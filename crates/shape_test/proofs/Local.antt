-- The conditions on slots give the shape.
use Rattle.std.proofs.Common.{◌≡◌, ℕ, zero, suc, ◌<◌, Bool, true, false, cond, ◌&&◌, eqb, List, [], ◌∷◌, length, map, Option, Some, None, is_some, Contains, refl, sym, ap, ◌∙◌, subst, arith, eq-eqb, true≢false}
use Rattle.cube_view.specs.Walks.{Step, down, across, Walk, SpotPath, Cursor, after_down, after_across, then_step, cursor, under, Under, HasSpot, Finer, top, by_down, by_across, longer}
use Rattle.cube_view.proofs.FinerWalks.{begun, Contains-cons, Contains-head, under-some}
use Rattle.node_arena.specs.declared.link.Link.{Link}
use Rattle.node_arena.specs.Amounts.{Weighted, spots_in, amount_under}
use Rattle.node_arena.specs.Slots.{proper, target, Slot, link_of}
use Rattle.node_arena.specs.Shape.{home_of, IsLinked, IsShaped, HasHomes}
use Rattle.node_arena.proofs.Links.{linked-lt}
use Rattle.node_arena.proofs.Walks.{link_coarser, target-lt}
use Rattle.shape_test.specs.Levels.{Levels, level_down, level_across, level_step, then_level, left, label_counts}
use Rattle.shape_test.specs.Local.{IsLocal}
use Rattle.shape_test.specs.Ways.{Way, along, count_below, IsFinest}
use Rattle.shape_test.proofs.Apart.{all_apart}
use Rattle.shape_test.proofs.Core.{Tells, IsMerged, HasAmounts, step_first, begins, across_tells, agrees, counted, amount-cons, one_under, under_along}

-- levels of a spot
abbrev pub levels_of : Cursor → Levels
levels_of c = record { rest = length c.rest; later = map length c.later }

down_levels : (l : ℕ) (rest : List ℕ) (later : List (List ℕ)) (c : Cursor) → after_down l rest later ≡ Some c → level_down (length rest) (map length later) ≡ Some (levels_of c)
down_levels l [] later c h = absurd cc
down_levels l (x ∷ rest) later c h = go (eqb l x) h
  where
    go : (b : Bool) → cond b (Some (record { rest = rest; later = later })) None ≡ Some c → level_down (suc (length rest)) (map length later) ≡ Some (levels_of c)
    go true k = let e : record { rest = rest; later = later } ≡ c = cc in ap (λ (z : Cursor). Some (levels_of z)) e
    go false k = absurd cc

across_levels : (later : List (List ℕ)) (c : Cursor) → after_across later ≡ Some c → level_across (map length later) ≡ Some (levels_of c)
across_levels [] c h = absurd cc
across_levels (x ∷ later) c h = let e : record { rest = x; later = later } ≡ c = cc in ap (λ (z : Cursor). Some (levels_of z)) e

pub left_spot : (q : SpotPath) (a : Walk) (c : Cursor) → cursor q a ≡ Some c → left (label_counts q) a ≡ Some (levels_of c)
left_spot q [] c h = across_levels q.paths c h
left_spot q (down l ∷ a) c h =
    let b = begun (cursor q a) (down l) c h in
    ap (λ (o : Option Levels). then_level o (down l)) (left_spot q a b.0 b.1) ∙ down_levels l b.0.rest b.0.later c b.2
left_spot q (across ∷ a) c h =
    let b = begun (cursor q a) across c h in
    ap (λ (o : Option Levels). then_level o across) (left_spot q a b.0 b.1) ∙ across_levels b.0.later c b.2

-- a spot goes on by a finest way of its own
pub own_way : (q : SpotPath) (later : List (List ℕ)) (rest : List ℕ) (a : Walk) → cursor q a ≡ Some (record { rest = rest; later = later }) → (way : Way) × IsFinest (length rest) (map length later) way × Under q (along a way)
own_way q [] [] a h = ([], (refl, refl), ap is_some h)
own_way q (path ∷ later) [] a h =
    let r = own_way q later path (across ∷ a) (ap (λ (o : Option Cursor). then_step o across) h) in
    (across ∷ r.0, (length path, map length later, refl, refl, r.1), r.2)
own_way q later (l ∷ rest) a h =
    let r = own_way q later rest (down l ∷ a) (ap (λ (o : Option Cursor). then_step o (down l)) h ∙ ap (λ (b : Bool). cond {A = Option Cursor} b (Some (record { rest = rest; later = later })) None) (eq-eqb l l refl)) in
    (down l ∷ r.0, (length rest, refl, r.1), r.2)

-- levels begin somewhere
pub level_begun : (o : Option Levels) (e : Step) (c : Levels) → then_level o e ≡ Some c → (b : Levels) × (o ≡ Some b) × (level_step e b ≡ Some c)
level_begun None e c h = absurd cc
level_begun (Some b) e c h = (b, refl, h)

level_later : (l : ℕ) (b c : Levels) → level_step (down l) b ≡ Some c → b.later ≡ c.later
level_later l b c h = go b.rest h
  where
    go : (n : ℕ) → level_down n b.later ≡ Some c → b.later ≡ c.later
    go zero k = absurd cc
    go (suc n) k = let e : record { rest = n; later = b.later } ≡ c = cc in ap (λ (z : Levels). z.later) e

pub record Below (levels : List ℕ) (loose : Bool) (a : Walk) (c : Levels) : Type 0 where
  pub here : Levels
  pub is : left levels a ≡ Some here
  pub same_later : here.later ≡ c.later
  pub same : loose ≡ false → here ≡ c

pub finer_left : {loose : Bool} {a b : Walk} (levels : List ℕ) → Finer loose a b → (c : Levels) → left levels b ≡ Some c → Below levels loose a c
finer_left levels top c h = record { here = c; is = h; same_later = refl; same = λ _. refl }
finer_left levels (by_down {l = l} {b = b} f) c h =
    let s = level_begun (left levels b) (down l) c h in
    let r = finer_left levels f s.0 s.1 in
    record { here = c; is = ap (λ (o : Option Levels). then_level o (down l)) (r.is ∙ ap Some (r.same refl)) ∙ s.2; same_later = refl; same = λ _. refl }
finer_left levels (by_across {b = b} f) c h =
    let s = level_begun (left levels b) across c h in
    let r = finer_left levels f s.0 s.1 in
    record { here = c; is = ap (λ (o : Option Levels). then_level o across) r.is ∙ (ap level_across r.same_later ∙ s.2); same_later = refl; same = λ _. refl }
finer_left levels (longer {l = l} {b = b} f) c h =
    let s = level_begun (left levels b) (down l) c h in
    let r = finer_left levels f s.0 s.1 in
    record { here = r.here; is = r.is; same_later = r.same_later ∙ level_later l s.0 c s.2; same = λ e. absurd (true≢false e) }

-- nothing else is coarser than the root
pub finer_root : {loose : Bool} {a b : Walk} → Finer loose a b → b ≡ [] → a ≡ []
finer_root top e = refl
finer_root (by_down f) e = absurd cc
finer_root (by_across f) e = absurd cc
finer_root (longer f) e = absurd cc

-- no link leads to the root
pub after_root : (slots : List Slot) (homes : List Walk) → HasHomes slots homes → (i : ℕ) (e : Step) (k : Link) → link_of slots i e ≡ Some k → 0 < target k
after_root slots homes H i e k o = go (target k) refl
  where
    go : (t : ℕ) → target k ≡ t → 0 < target k
    go zero z = let x : e ∷ home_of homes i ≡ [] = finer_root (link_coarser slots homes H i e k o) (ap (home_of homes) z ∙ H.root) in absurd cc
    go (suc t) z = omega (arith, z)

-- where some are counted there is a spot
present : (h : List Weighted) (a : Walk) (bin : ℕ) → 0 < amount_under h a bin → HasSpot (spots_in h) a
present [] a bin some = absurd (omega (arith, some))
present (x ∷ h) a bin some = go (under x.spot a) refl (λ s. present h a bin s)
  where
    go : (b : Bool) → under x.spot a ≡ b → (0 < amount_under h a bin → HasSpot (spots_in h) a) → HasSpot (spots_in (x ∷ h)) a
    go true e rest = record { spot = x.spot; is_in = Contains-head (spots_in h) x.spot; lies = e }
    go false e rest =
        let s = amount-cons x h a bin in
        let z : one_under x a bin ≡ 0 = ap (λ (b : Bool). cond {A = ℕ} (b && eqb x.spot.bin bin) x.amount 0) e in
        let r = rest (omega (arith, s, z, some)) in
        record { spot = r.spot; is_in = Contains-cons (spots_in h) x.spot r.spot r.is_in; lies = r.lies }

module _ (dims : ℕ) (levels : List ℕ) (slots : List Slot) (homes : List Walk) (h : List Weighted) (L : IsLocal dims levels slots homes) (heavy : HasAmounts h) (spots : (q : SpotPath) → Contains (spots_in h) q → label_counts q ≡ levels) (root : (c : Levels) → left levels [] ≡ Some c → Tells slots h 0 [] c.rest c.later) where
  At : Walk → ℕ → List ℕ → Type 0
  At a n later = left levels a ≡ Some (record { rest = n; later = later })

  LeftOf : ℕ → ℕ → List ℕ → Type 0
  LeftOf i n later = left levels (home_of homes i) ≡ Some (record { rest = n; later = later })

  ways : (a : Walk) (n : ℕ) (later : List ℕ) → left levels a ≡ Some (record { rest = n; later = later }) → (q : SpotPath) → Contains (spots_in h) q → Under q a → (way : Way) × IsFinest n later way × Under q (along a way)
  ways a n later at q c u =
      let s = under-some q a u in
      let w = own_way q s.0.later s.0.rest a s.1 in
      let e : Some (record { rest = n; later = later }) ≡ Some (levels_of s.0) = sym at ∙ (ap (λ (z : List ℕ). left z a) (sym (spots q c)) ∙ left_spot q a s.0 s.1) in
      let f : record { rest = n; later = later } ≡ levels_of s.0 = cc in
      (w.0, subst (λ (z : Levels). IsFinest z.rest z.later w.0) (sym f) w.1, w.2)

  merged : IsMerged slots (λ i n later. left levels (home_of homes i) ≡ Some (record { rest = n; later = later }))
  merged = record {
    goes_down = λ i n l later k left_i e.
        let under_i : left levels (down l ∷ home_of homes i) ≡ Some (record { rest = n; later = later }) = ap (λ (o : Option Levels). then_level o (down l)) left_i in
        let c = L.within (target k) (target-lt slots homes L.has_homes i (down l) k e) in
        let r = finer_left levels (link_coarser slots homes L.has_homes i (down l) k e) c.levels_left c.is in
        c.is ∙ (ap Some (sym (r.same refl)) ∙ (sym r.is ∙ under_i));
    apart = all_apart slots L.rising;
    merges = L.merges;
  }

  -- a step from a slot at its home
  step_counts : (i : ℕ) (a : Walk) (e : Step) (b c : Levels) → home_of homes i ≡ a → left levels a ≡ Some b → Tells slots h i a b.rest b.later → level_step e b ≡ Some c → (way : Way) → IsFinest c.rest c.later way → (bin : ℕ) → count_below slots i (e ∷ way) bin ≡ amount_under h (along (e ∷ a) way) bin
  step_counts i a (down l) b c is at T s way f bin = go b.rest refl s
    where
      go : (n : ℕ) → b.rest ≡ n → level_down n b.later ≡ Some c → count_below slots i (down l ∷ way) bin ≡ amount_under h (along (down l ∷ a) way) bin
      go zero r k = absurd cc
      go (suc n) r k =
          let x : record { rest = n; later = b.later } ≡ c = cc in
          T (down l ∷ way) (n, r, subst (λ (z : Levels). IsFinest z.rest z.later way) (sym x) f) bin
  step_counts i a across b c is at T s way f bin = go b.later refl s
    where
      go : (later : List ℕ) → b.later ≡ later → level_across later ≡ Some c → count_below slots i (across ∷ way) bin ≡ amount_under h (along (across ∷ a) way) bin
      go [] r k = absurd cc
      go (m ∷ later) r k =
          let x : record { rest = m; later = later } ≡ c = cc in
          let y : left levels a ≡ Some (record { rest = b.rest; later = m ∷ later }) = at ∙ ap (λ (z : List ℕ). Some (record { rest = b.rest; later = z })) r in
          across_tells slots h (λ i n later. left levels (home_of homes i) ≡ Some (record { rest = n; later = later })) (λ a n later. left levels a ≡ Some (record { rest = n; later = later })) heavy merged ways (λ a n l later at. ap (λ (o : Option Levels). then_level o (down l)) at) b.rest i a m later (ap (left levels) is ∙ y) y (subst (λ (z : List ℕ). Tells slots h i a b.rest z) r T) way (subst (λ (z : Levels). IsFinest z.rest z.later way) (sym x) f) bin

  step_tells : (i : ℕ) (a : Walk) (e : Step) (b c : Levels) (k : Link) → home_of homes i ≡ a → left levels a ≡ Some b → Tells slots h i a b.rest b.later → level_step e b ≡ Some c → link_of slots i e ≡ Some k → Tells slots h (target k) (e ∷ a) c.rest c.later
  step_tells i a e b c k is at T s o way f bin = sym (step_first slots i e k way bin o) ∙ step_counts i a e b c is at T s way f bin

  -- each slot tells at its home
  home_tells : (a : Walk) (j : ℕ) → j < length slots → home_of homes j ≡ a → (c : Levels) → left levels a ≡ Some c → Tells slots h j a c.rest c.later
  home_tells [] j l is c at =
      let z : 0 ≡ j = L.has_homes.distinct 0 j L.has_homes.some l (L.has_homes.root ∙ sym is) in
      subst (λ i. Tells slots h i [] c.rest c.later) z (root c at)
  home_tells (e ∷ a) zero l is c at = let x : [] ≡ e ∷ a = sym L.has_homes.root ∙ is in absurd cc
  home_tells (e ∷ a) (suc k) l is c at =
      let o = L.has_homes.owner (suc k) (omega arith) l in
      let r = L.has_homes.at_home o.by (suc k) o.step o.owns in
      let s : o.step ∷ home_of homes o.by ≡ e ∷ a = sym r.1 ∙ is in
      let x : home_of homes o.by ≡ a = cc in
      let y : o.step ≡ e = cc in
      let b = level_begun (left levels a) e c at in
      step_tells o.by a e b.0 c (proper (suc k)) x b.1 (home_tells a o.by (linked-lt slots o.by o.step (proper (suc k)) o.owns) x b.0 b.1) b.2 (subst (λ z. link_of slots o.by z ≡ Some (proper (suc k))) y o.owns)

  tells : (i : ℕ) → i < length slots → (c : Levels) → left levels (home_of homes i) ≡ Some c → Tells slots h i (home_of homes i) c.rest c.later
  tells i l c at = home_tells (home_of homes i) i l refl c at

  needed : (i : ℕ) (e : Step) → i < length slots → HasSpot (spots_in h) (e ∷ home_of homes i) → IsLinked slots i e
  needed i e l S =
      let s = under-some S.spot (e ∷ home_of homes i) S.lies in
      let at : left levels (e ∷ home_of homes i) ≡ Some (levels_of s.0) = ap (λ (z : List ℕ). left z (e ∷ home_of homes i)) (sym (spots S.spot S.is_in)) ∙ left_spot S.spot (e ∷ home_of homes i) s.0 s.1 in
      let b = level_begun (left levels (home_of homes i)) e (levels_of s.0) at in
      let w = own_way S.spot s.0.later s.0.rest (e ∷ home_of homes i) s.1 in
      let n = counted S.spot (along (e ∷ home_of homes i) w.0) h heavy S.is_in w.2 in
      let t = step_counts i (home_of homes i) e b.0 (levels_of s.0) refl b.1 (tells i l b.0 b.1) b.2 w.0 w.1 S.spot.bin in
      let k = begins slots i e w.0 S.spot.bin (omega (arith, n, t)) in
      record { link = k.0; is = k.1 }

  -- what a link's address has left, and what its target tells there
  at_link : (i : ℕ) (e : Step) (k : Link) → link_of slots i e ≡ Some k → (c : Levels) × (left levels (home_of homes (target k)) ≡ Some c) × (left levels (e ∷ home_of homes i) ≡ Some c) × Tells slots h (target k) (e ∷ home_of homes i) c.rest c.later
  at_link i e k o =
      let c = L.within (target k) (target-lt slots homes L.has_homes i e k o) in
      let r = finer_left levels (link_coarser slots homes L.has_homes i e k o) c.levels_left c.is in
      let at : left levels (e ∷ home_of homes i) ≡ Some c.levels_left = r.is ∙ ap Some (r.same refl) in
      let b = level_begun (left levels (home_of homes i)) e c.levels_left at in
      (c.levels_left, c.is, at, step_tells i (home_of homes i) e b.0 c.levels_left k refl b.1 (tells i (linked-lt slots i e k o) b.0 b.1) b.2 o)

  wanted : (i : ℕ) (e : Step) (k : Link) → link_of slots i e ≡ Some k → HasSpot (spots_in h) (e ∷ home_of homes i)
  wanted i e k o =
      let c = at_link i e k o in
      let f = L.filled (target k) (after_root slots homes L.has_homes i e k o) (target-lt slots homes L.has_homes i e k o) in
      let t = c.3 f.way (f.finest c.0 c.1) f.bin in
      let s = f.some in
      let p = present h (along (e ∷ home_of homes i) f.way) f.bin (omega (arith, t, s)) in
      record { spot = p.spot; is_in = p.is_in; lies = under_along p.spot (e ∷ home_of homes i) f.way p.lies }

  agreed : (i : ℕ) (e : Step) (k : Link) → link_of slots i e ≡ Some k → (q : SpotPath) → Contains (spots_in h) q → Under q (e ∷ home_of homes i) → Under q (home_of homes (target k))
  agreed i e k o q c u =
      let a = at_link i e k o in
      let lt = target-lt slots homes L.has_homes i e k o in
      agrees slots h (λ a n later. left levels a ≡ Some (record { rest = n; later = later })) heavy ways (target k) (e ∷ home_of homes i) (home_of homes (target k)) a.0.rest a.0.later a.2 (link_coarser slots homes L.has_homes i e k o) a.3 (tells (target k) lt a.0 a.1) q c u

  pub local_shaped : IsShaped dims slots homes h
  local_shaped = record {
    has_homes = L.has_homes;
    holds = record { needed = needed; wanted = wanted; agrees = agreed };
    counted = record { counts = λ i bin l t. tells i l (record { rest = 0; later = [] }) (L.at_time i l t) [] (refl, refl) bin };
    has_tables = L.has_tables;
  }
