-- Slots in the order of their image have the shape that they had.
use Rattle.std.proofs.Common.{◌≡◌, ℕ, zero, suc, ◌<◌, ◌≤◌, Bool, true, false, cond, ◌⊎◌, inl, inr, eqb, List, [], ◌∷◌, length, get_or, map, Option, Some, None, refl, sym, ap, ◌∙◌, subst, arith}
use Rattle.std.proofs.Math.Seq.{take-length}
use Rattle.std.proofs.lemmas.List.{length-map, get_or-map}
use Rattle.std.specs.List.{flat_map}
use Rattle.cube_view.specs.Walks.{Step, down, across, Walk, Under, dimension, HasSpot, IsCoarser}
use Rattle.node_arena.specs.declared.link.Link.{Link}
use Rattle.node_arena.specs.declared.link.LinkKind.TheVariants.{Proper, Shared}
use Rattle.node_arena.specs.Amounts.{Weighted, spots_in, amount_under}
use Rattle.node_arena.specs.Shape.{home_of, IsOwned, HasProperLinks, HasTables, HasHomes, HoldsSpots, CountsSpots, SharesOnlyContent, HasShape}
use Rattle.node_arena.specs.Slots.{proper, shared, target, Children, Slot, node, table, empty_node, is_table, count, child, link, slot_of, link_of}
use Rattle.node_arena.specs.Stats.{AllRising}
use Rattle.node_arena.proofs.Links.{link_cases, linked-lt}
use Rattle.node_arena.proofs.Walks.{target-lt}
use Rattle.cube_image.specs.Order.{IsOrder, order_number, moved, moved_link, moved_child, moved_content, in_order}
use Rattle.cube_image.proofs.OwnedHits.{hits, hits-at, StandOnce}
use Rattle.cube_image.proofs.OrderFronts.{IsFront, owned_at, stand_once}
use Rattle.image_cube.proofs.ItemPlaces.{number-found, found-again, has-all}

child-moved : (places : List ℕ) (cs : Children) (l : ℕ) → child (map (moved_child places) cs) l ≡ moved_content places (child cs l)
child-moved places [] l = refl
child-moved places (c ∷ cs) l = go (eqb c.0 l) (child-moved places cs l)
  where
    go : (b : Bool) → child (map (moved_child places) cs) l ≡ moved_content places (child cs l) → cond b (Some (moved_link places c.1)) (child (map (moved_child places) cs) l) ≡ moved_content places (cond b (Some c.1) (child cs l))
    go true r = refl
    go false r = r

-- a moved slot has its links where their targets are moved to
link-moved : (places : List ℕ) (s : Slot) (e : Step) → link (moved places s) e ≡ moved_content places (link s e)
link-moved places (node cs content) (down l) = child-moved places cs l
link-moved places (node cs content) across = refl
link-moved places (table counts) e = refl

pub table-moved : (places : List ℕ) (s : Slot) → is_table (moved places s) ≡ is_table s
table-moved places (node cs content) = refl
table-moved places (table counts) = refl

count-moved : (places : List ℕ) (s : Slot) (bin : ℕ) → count (moved places s) bin ≡ count s bin
count-moved places (node cs content) bin = refl
count-moved places (table counts) bin = refl

module _ (slots : List Slot) (homes : List Walk) (H : HasHomes slots homes) (R : AllRising slots) (places : List ℕ) (O : IsOrder slots places) (size : length places ≡ length slots) where
  abbrev again : List Slot
  again = in_order slots places

  abbrev old : ℕ → ℕ
  old k = get_or places k 0

  abbrev new : ℕ → ℕ
  new i = order_number places i

  abbrev pub moved_homes : List Walk
  moved_homes = map (home_of homes) places

  front : IsFront slots places (length places)
  front = record { within = omega arith; is = O ∙ ap (λ (ps : List ℕ). 0 ∷ flat_map (owned_at slots) ps) (sym (take-length places)) }

  pub places-once : StandOnce (length slots) places
  places-once = stand_once slots homes H R places (length places) front

  pub each-one : (j : ℕ) → j < length slots → hits j places ≡ 1
  each-one j lt = let o = places-once.once j in let a = has-all places (length slots) size places-once j lt in omega (arith, o, a)

  found : (i : ℕ) → i < length slots → (new i < length places) × (old (new i) ≡ i)
  found i lt = number-found i places (has-all places (length slots) size places-once i lt)

  pub again-size : length again ≡ length slots
  again-size = length-map places (λ (i : ℕ). moved places (slot_of slots i)) ∙ size

  pub in-places : (k : ℕ) → k < length again → k < length places
  in-places k lt = let a = again-size in omega (arith, lt, a, size)

  pub old-lt : (k : ℕ) → k < length places → old k < length slots
  old-lt k lt = places-once.below (old k) (hits-at places k 0 lt)

  back : (k : ℕ) → k < length places → new (old k) ≡ k
  back k lt = found-again places places-once.once k lt

  slot-at : (k : ℕ) → k < length places → slot_of again k ≡ moved places (slot_of slots (old k))
  slot-at k lt = get_or-map (λ (i : ℕ). moved places (slot_of slots i)) places k 0 empty_node lt

  home-at : (k : ℕ) → k < length places → home_of moved_homes k ≡ home_of homes (old k)
  home-at k lt = get_or-map (home_of homes) places k 0 [] lt

  home-new : (i : ℕ) → i < length slots → home_of moved_homes (new i) ≡ home_of homes i
  home-new i lt = let f = found i lt in home-at (new i) f.0 ∙ ap (home_of homes) f.1

  link-at : (k : ℕ) (e : Step) → k < length places → link_of again k e ≡ moved_content places (link_of slots (old k) e)
  link-at k e lt = ap (λ (s : Slot). link s e) (slot-at k lt) ∙ link-moved places (slot_of slots (old k)) e

  -- a link of a moved slot was one of the slot
  record WasLink (k : ℕ) (e : Step) (l : Link) : Type 0 where
    place : k < length places
    link_was : Link
    is : link_of slots (old k) e ≡ Some link_was
    went : moved_link places link_was ≡ l

  was : (k : ℕ) (e : Step) (l : Link) → link_of again k e ≡ Some l → WasLink k e l
  was k e l is = go (link_of slots (old k) e) refl (sym (link-at k e lt) ∙ is)
    where
      lt : k < length places
      lt = let a = linked-lt again k e l is in let s = again-size in omega (arith, a, s, size)

      go : (o : Option Link) → link_of slots (old k) e ≡ o → moved_content places o ≡ Some l → WasLink k e l
      go None x y = absurd cc
      go (Some m) x y = record { place = lt; link_was = m; is = x; went = cc }

  becomes : (i : ℕ) (e : Step) (l : Link) → i < length slots → link_of slots i e ≡ Some l → link_of again (new i) e ≡ Some (moved_link places l)
  becomes i e l lt is =
      let f = found i lt in
      link-at (new i) e f.0 ∙ ap (moved_content places) (ap (λ (j : ℕ). link_of slots j e) f.1 ∙ is)

  becomes-at : (k : ℕ) (e : Step) (l : Link) → k < length places → link_of slots (old k) e ≡ Some l → link_of again k e ≡ Some (moved_link places l)
  becomes-at k e l lt is = link-at k e lt ∙ ap (moved_content places) is

  was-proper : (k j : ℕ) (e : Step) → link_of again k e ≡ Some (proper j) → (t : ℕ) × (link_of slots (old k) e ≡ Some (proper t)) × (new t ≡ j)
  was-proper k j e is = go (link_cases W.link_was)
    where
      W : WasLink k e (proper j)
      W = was k e (proper j) is

      go : (W.link_was ≡ proper (target W.link_was)) ⊎ (W.link_was ≡ shared (target W.link_was)) → (t : ℕ) × (link_of slots (old k) e ≡ Some (proper t)) × (new t ≡ j)
      go (inl p) = (target W.link_was, W.is ∙ ap Some p, ap target W.went)
      go (inr s) = let x : Shared ≡ Proper = sym (ap (λ (l : Link). l.kind) s) ∙ ap (λ (l : Link). l.kind) W.went in absurd cc

  was-shared : (k j : ℕ) (e : Step) → link_of again k e ≡ Some (shared j) → (t : ℕ) × (link_of slots (old k) e ≡ Some (shared t)) × (new t ≡ j)
  was-shared k j e is = go (link_cases W.link_was)
    where
      W : WasLink k e (shared j)
      W = was k e (shared j) is

      go : (W.link_was ≡ proper (target W.link_was)) ⊎ (W.link_was ≡ shared (target W.link_was)) → (t : ℕ) × (link_of slots (old k) e ≡ Some (shared t)) × (new t ≡ j)
      go (inr s) = (target W.link_was, W.is ∙ ap Some s, ap target W.went)
      go (inl p) = let x : Proper ≡ Shared = sym (ap (λ (l : Link). l.kind) p) ∙ ap (λ (l : Link). l.kind) W.went in absurd cc

  root-first : old 0 ≡ 0
  root-first = ap (λ (ps : List ℕ). get_or ps 0 0) O

  some-place : 0 < length places
  some-place = let s = H.some in omega (arith, s, size)

  proper-again : HasProperLinks again moved_homes
  proper-again = record {
    size = length-map places (home_of homes) ∙ (size ∙ sym again-size);
    some = let s = H.some in let a = again-size in omega (arith, s, a);
    root = home-at 0 some-place ∙ (ap (home_of homes) root-first ∙ H.root);
    distinct = λ i j a b e. apart i j (in-places i a) (in-places j b) e;
    owner = λ j some lt. owned j some (in-places j lt);
    at_home = λ i j e is. at-home i j e is;
  }
    where
      apart : (i j : ℕ) → i < length places → j < length places → home_of moved_homes i ≡ home_of moved_homes j → i ≡ j
      apart i j a b e =
          let same = H.distinct (old i) (old j) (old-lt i a) (old-lt j b) (sym (home-at i a) ∙ (e ∙ home-at j b)) in
          sym (back i a) ∙ (ap new same ∙ back j b)

      owned : (j : ℕ) → 0 < j → j < length places → IsOwned again j
      owned j some lt =
          let w = H.owner (old j) (not-root j some lt) (old-lt j lt) in
          record {
            by = new w.by;
            step = w.step;
            owns = becomes w.by w.step (proper (old j)) (linked-lt slots w.by w.step (proper (old j)) w.owns) w.owns ∙ ap (λ (n : ℕ). Some (proper n)) (back j lt);
          }
        where
          not-root : (j : ℕ) → 0 < j → j < length places → 0 < old j
          not-root j some lt = go (old j) refl
            where
              go : (n : ℕ) → old j ≡ n → 0 < old j
              go (suc n) e = omega (arith, e)
              go zero e =
                  let z : j ≡ 0 = sym (back j lt) ∙ (ap new (e ∙ sym root-first) ∙ back 0 some-place) in
                  absurd (omega (arith, z, some))

      at-home : (i j : ℕ) (e : Step) → link_of again i e ≡ Some (proper j) → (j < length again) × (home_of moved_homes j ≡ e ∷ home_of moved_homes i)
      at-home i j e is =
          let lt = (was i e (proper j) is).place in
          let w = was-proper i j e is in
          let h = H.at_home (old i) w.0 e w.1 in
          let f = found w.0 h.0 in
          let low = f.0 in
          let a = again-size in
          let same = w.2 in
          (omega (arith, low, a, size, same), ap (home_of moved_homes) (sym w.2) ∙ (home-new w.0 h.0 ∙ (h.1 ∙ ap (λ (b : Walk). e ∷ b) (sym (home-at i lt)))))

  homes-again : HasHomes again moved_homes
  homes-again = record {
    owned = proper-again;
    finer = λ i j e is.
        let lt = (was i e (shared j) is).place in
        let w = was-shared i j e is in
        let h = H.finer (old i) w.0 e w.1 in
        let f = found w.0 h.0 in
        let low = f.0 in
        let a = again-size in
        let same = w.2 in (
          omega (arith, low, a, size, same),
          subst (λ (b : Walk). IsCoarser (e ∷ b) (home_of moved_homes j)) (sym (home-at i lt))
              (subst (IsCoarser (e ∷ home_of homes (old i))) (sym (ap (home_of moved_homes) (sym w.2) ∙ home-new w.0 h.0)) h.1),
        );
  }

  target-new : (k : ℕ) (e : Step) (l : Link) → (W : WasLink k e l) → home_of moved_homes (target l) ≡ home_of homes (target W.link_was)
  target-new k e l W =
      ap (home_of moved_homes) (sym (ap target W.went)) ∙ home-new (target W.link_was) (target-lt slots homes H (old k) e W.link_was W.is)

  module _ (dims : ℕ) (h : List Weighted) (S : HasShape dims slots homes h) where
    is-table-at : (k : ℕ) → k < length places → is_table (slot_of again k) ≡ is_table (slot_of slots (old k))
    is-table-at k lt = ap is_table (slot-at k lt) ∙ table-moved places (slot_of slots (old k))

    tables-again : HasTables dims again moved_homes
    tables-again = record {
      tables = λ i lt.
          let k = in-places i lt in
          let t = S.has_tables.tables (old i) (old-lt i k) in (
            λ is. ap dimension (home-at i k) ∙ t.0 (sym (is-table-at i k) ∙ is),
            λ d. is-table-at i k ∙ t.1 (sym (ap dimension (home-at i k)) ∙ d),
          );
    }

    holds-again : HoldsSpots again moved_homes (spots_in h) (spots_in h)
    holds-again = record {
      needed = λ i e lt w.
          let k = in-places i lt in
          let n = S.holds.needed (old i) e (old-lt i k) (subst (λ (b : Walk). HasSpot (spots_in h) (e ∷ b)) (home-at i k) w) in
          record { link = moved_link places n.link; is = becomes-at i e n.link k n.is };
      wanted = λ i e l is.
          let W = was i e l is in
          subst (λ (b : Walk). HasSpot (spots_in h) (e ∷ b)) (sym (home-at i W.place)) (S.holds.wanted (old i) e W.link_was W.is);
      agrees = λ i e l is q c u.
          let W = was i e l is in
          subst (Under q) (sym (target-new i e l W)) (S.holds.agrees (old i) e W.link_was W.is q c (subst (λ (b : Walk). Under q (e ∷ b)) (home-at i W.place) u));
    }

    counts-again : CountsSpots again moved_homes h
    counts-again = record {
      counts = λ i bin lt t.
          let k = in-places i lt in
          ap (λ (s : Slot). count s bin) (slot-at i k)
          ∙ (count-moved places (slot_of slots (old i)) bin
          ∙ (S.counted.counts (old i) bin (old-lt i k) (sym (is-table-at i k) ∙ t)
          ∙ ap (λ (b : Walk). amount_under h b bin) (sym (home-at i k))));
    }

    shares-again : SharesOnlyContent again
    shares-again i label l one =
        let W = was i (down label) l one.is in
        let C = S.shares (old i) label W.link_was (record { is = W.is; only = λ m k x. one.only m (moved_link places k) (becomes-at i (down m) k W.place x) }) in
        let lt = target-lt slots homes H (old i) (down label) W.link_was W.is in
        record {
          content = moved_link places C.content;
          of_child = ap (λ (t : ℕ). link_of again t across) (sym (ap target W.went)) ∙ becomes (target W.link_was) across C.content lt C.of_child;
          of_node = becomes-at i across (shared (target C.content)) W.place C.of_node;
        }

    pub shape-again : HasShape dims again moved_homes h
    shape-again = record {
      shaped = record { has_homes = homes-again; has_tables = tables-again; holds = holds-again; counted = counts-again };
      shares = shares-again;
      alike = S.alike;
    }
