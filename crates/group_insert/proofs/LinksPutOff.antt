-- The links that are put off, as the arena changes.
use Rattle.std.proofs.Common.{◌≡◌, ℕ, ◌<◌, ◌⊎◌, inl, inr, List, [], ◌∷◌, ◌++◌, Some, length, sym, ap, ◌∙◌, subst, subst₂, arith, get_or}
use Rattle.cube_view.specs.Walks.{Step, down, across, Walk, Under, HasSpot}
use Rattle.node_arena.specs.Amounts.{Weighted, spots_in}
use Rattle.node_arena.specs.Shape.{home_of, HasHomes}
use Rattle.node_arena.specs.Slots.{proper, shared, Slot, link_of}
use Rattle.proper_path.specs.Changes.{IsGrown, IsRelinked}
use Rattle.proper_path.specs.Order.{IsBefore}
use Rattle.proper_path.proofs.Homes.{grown_homes, KeepsHomes, keeps_homes}
use Rattle.proper_path.proofs.Links.{same_place, proper≢shared}
use Rattle.group_insert.specs.Halfway.{PutsOff}
use Rattle.group_insert.specs.Later.{PutOff, link_address, IsPutOff}
use Rattle.group_insert.proofs.SharedContent.{two_grown, two_relinked}

-- where no link is put off
pub none_put : (slots : List Slot) (homes : List Walk) (h g : List Weighted) (done : Walk → Type 0) → PutsOff slots homes h g done []
none_put slots homes h g done = record {
  put_off = λ k d lt. absurd (omega (arith, lt));
  ended = λ k d lt. absurd (omega (arith, lt));
  wide = λ k d lt. absurd (omega (arith, lt));
  in_order = λ i j d l lt. absurd (omega (arith, lt));
}

pub puts_grown : (old new : List Slot) (homes : List Walk) (h g : List Weighted) (done : Walk → Type 0) (put : List PutOff) (i : ℕ) (e : Step) → (s : Slot) → IsGrown old new i e s → HasHomes old homes → (done (e ∷ home_of homes i) → ⊥) → PutsOff old homes h g done put → PutsOff new (grown_homes homes i e) h g done put
puts_grown old new homes h g done put i e s G H fresh P = record {
  put_off = λ n d lt. put_off (get_or put n d) (P.put_off n d lt) (P.ended n d lt);
  ended = λ n d lt. subst done (sym (address (get_or put n d) (P.put_off n d lt))) (P.ended n d lt);
  wide = λ n d lt x. two_grown old new i e s G put (get_or put n d).node (P.put_off n d lt).in_range.0 (P.wide n d lt (subst done (K.was (get_or put n d).node (P.put_off n d lt).in_range.0) x));
  in_order = in_order;
}
  where
    K : KeepsHomes old homes i e
    K = keeps_homes old homes i e H

    address : (k : PutOff) → IsPutOff old homes h g k → link_address (grown_homes homes i e) k ≡ link_address homes k
    address k o = ap (λ z. down k.label ∷ z) (K.was k.node o.in_range.0)

    put_off : (k : PutOff) → IsPutOff old homes h g k → done (link_address homes k) → IsPutOff new (grown_homes homes i e) h g k
    put_off k o d = record {
      in_range = (omega (arith, G.size, o.in_range.0), omega (arith, G.size, o.in_range.1));
      leads = K.was k.node o.in_range.0 ∙ (o.leads ∙ ap (λ z. k.way ++ across ∷ z) (sym (K.was k.base o.in_range.1)));
      free = λ j x. free j x (same_place k.node i (down k.label) e);
      wanted = subst (λ z. HasSpot (spots_in g) z) (sym (address k o)) o.wanted;
      turns = λ q c u. subst (λ z. Under q (down k.turn ∷ z)) (sym (K.was k.base o.in_range.1)) (o.turns q c (subst (Under q) (address k o) u));
    }
      where
        free : (j : ℕ) → link_of new k.node (down k.label) ≡ Some (proper j) → ((k.node ≡ i) × (down k.label ≡ e)) ⊎ (k.node ≡ i → down k.label ≡ e → ⊥) → ⊥
        free j x (inl y) = fresh (subst₂ (λ a b. done (a ∷ home_of homes b)) y.1 y.0 d)
        free j x (inr n) = o.free j (sym (G.old_link k.node (down k.label) o.in_range.0 n) ∙ x)

    in_order : (m n : ℕ) (d : PutOff) → m < n → n < length put → IsBefore (link_address (grown_homes homes i e) (get_or put m d)) (link_address (grown_homes homes i e) (get_or put n d)) → ⊥
    in_order m n d l lt r =
        let x = address (get_or put m d) (P.put_off m d (omega (arith, l, lt))) in
        let y = address (get_or put n d) (P.put_off n d lt) in
        P.in_order m n d l lt (subst₂ IsBefore x y r)

-- a link that is put off stays so, where it becomes no proper one
pub still_put_off : (old new : List Slot) (homes : List Walk) (h g : List Weighted) → length new ≡ length old → (k : PutOff) → ((j : ℕ) → link_of new k.node (down k.label) ≡ Some (proper j) → link_of old k.node (down k.label) ≡ Some (proper j)) → IsPutOff old homes h g k → IsPutOff new homes h g k
still_put_off old new homes h g size k back o = record {
  in_range = (omega (arith, size, o.in_range.0), omega (arith, size, o.in_range.1));
  leads = o.leads;
  free = λ j x. o.free j (back j x);
  wanted = o.wanted;
  turns = o.turns;
}

pub puts_relinked : (old new : List Slot) (homes : List Walk) (h g : List Weighted) (done : Walk → Type 0) (put : List PutOff) (i u : ℕ) (e : Step) → IsRelinked old new i e (shared u) → PutsOff old homes h g done put → PutsOff new homes h g done put
puts_relinked old new homes h g done put i u e R P = record {
  put_off = λ n d lt. still_put_off old new homes h g R.size (get_or put n d) (λ j x. back (get_or put n d) j x (same_place (get_or put n d).node i (down (get_or put n d).label) e)) (P.put_off n d lt);
  ended = P.ended;
  wide = λ n d lt x. two_relinked old new i u e R put (get_or put n d).node (P.wide n d lt x);
  in_order = P.in_order;
}
  where
    back : (k : PutOff) (j : ℕ) → link_of new k.node (down k.label) ≡ Some (proper j) → ((k.node ≡ i) × (down k.label ≡ e)) ⊎ (k.node ≡ i → down k.label ≡ e → ⊥) → link_of old k.node (down k.label) ≡ Some (proper j)
    back k j x (inl y) = let z : link_of new k.node (down k.label) ≡ Some (shared u) = subst₂ (λ a b. link_of new a b ≡ Some (shared u)) (sym y.0) (sym y.1) R.set_link in absurd (proper≢shared j u (let m : Some (proper j) ≡ Some (shared u) = sym x ∙ z in cc))
    back k j x (inr n) = sym (R.old_link k.node (down k.label) n) ∙ x
