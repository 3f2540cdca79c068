-- The list of the links that are put off, as an entry is put behind it or taken from its end.
use Rattle.std.proofs.Common.{◌≡◌, ℕ, ◌<◌, ◌≤◌, ◌⊎◌, inl, inr, List, [], ◌∷◌, ◌++◌, All, Contains, length, get_or, refl, sym, ap, ◌∙◌, subst, subst₂, arith}
use Rattle.std.proofs.lemmas.Bool.{cases_lt}
use Rattle.std.proofs.lemmas.List.{get_or_append_left, get_or_push, length_push}
use Rattle.std.proofs.lemmas.List.Elements.{All-push}
use Rattle.std.proofs.lemmas.List.Quantifiers.{all_pairs_push}
use Rattle.cube_view.specs.Walks.{Step, down, Walk, SpotPath, Under, HasSpot}
use Rattle.cube_view.proofs.FinerWalks.{under_before}
use Rattle.node_arena.specs.Amounts.{Weighted, spots_in}
use Rattle.node_arena.specs.Shape.{home_of, IsLinked}
use Rattle.node_arena.specs.Slots.{Slot}
use Rattle.proper_path.specs.Order.{IsAbove, itself, IsBefore}
use Rattle.proper_path.proofs.Steps.{none_below}
use Rattle.group_insert.specs.Halfway.{LeadsRight, WillHaveTwo, PutsOff, IsHalfway, IsHalfwayBefore, IsHalfwayAfter}
use Rattle.group_insert.specs.Later.{PutOff, link_address, IsPutOff, IsPut}
use Rattle.group_insert.specs.Turns.{IsEarlier, EndedBefore, EndedAfter, IsOpenAbove}
use Rattle.group_insert.proofs.Earlier.{earlier_not_before}
use Rattle.group_insert.proofs.SameState.{IsSameTurn, halfway_same}
use Rattle.group_insert.proofs.SharedContent.{turn_after}

put_still : (put : List PutOff) (k : PutOff) (i : ℕ) (e : Step) → IsPut put i e → IsPut (put ++ k ∷ []) i e
put_still put k i e (n, p, lt, at, same) = (n, p, omega (arith, lt, length_push put k), get_or_append_left put (k ∷ []) p n lt ∙ at, same)

two_still : (slots : List Slot) (put : List PutOff) (k : PutOff) (i : ℕ) → WillHaveTwo slots put i → WillHaveTwo slots (put ++ k ∷ []) i
two_still slots put k i t = record { one = t.one; other = t.other; differ = t.differ; at_one = more t.one t.at_one; at_other = more t.other t.at_other }
  where
    more : (m : ℕ) → IsLinked slots i (down m) ⊎ IsPut put i (down m) → IsLinked slots i (down m) ⊎ IsPut (put ++ k ∷ []) i (down m)
    more m (inl x) = inl x
    more m (inr x) = inr (put_still put k i (down m) x)

-- another list says the same of links and of nodes that will have two children
halfway_listed : (dims : ℕ) (slots : List Slot) (homes : List Walk) (h g : List Weighted) (done open' : Walk → Type 0) (put put' : List PutOff) → ((i : ℕ) (e : Step) (q : SpotPath) → Contains (spots_in g) q → Under q (e ∷ home_of homes i) → IsPut put i e → LeadsRight slots homes i e q ⊎ IsPut put' i e) → ((i : ℕ) → WillHaveTwo slots put i → WillHaveTwo slots put' i) → PutsOff slots homes h g done put' → IsHalfway dims slots homes h g done open' put → IsHalfway dims slots homes h g done open' put'
halfway_listed dims slots homes h g done open' put put' right two later M = record {
  has_homes = M.has_homes;
  has_tables = M.has_tables;
  holds = M.holds;
  untouched = M.untouched;
  visited = record { holds = M.visited.holds; links = λ i e l d q c u. links i e q c u (M.visited.links i e l d q c u) };
  counted = M.counted;
  shares = record {
    shares = λ i label l o O. more i (M.shares.shares i label l o O);
    own_child = λ i label l d O. more i (M.shares.own_child i label l d O);
  };
  later = later;
}
  where
    links : (i : ℕ) (e : Step) (q : SpotPath) → Contains (spots_in g) q → Under q (e ∷ home_of homes i) → LeadsRight slots homes i e q ⊎ IsPut put i e → LeadsRight slots homes i e q ⊎ IsPut put' i e
    links i e q c u (inl x) = inl x
    links i e q c u (inr x) = right i e q c u x

    more : {A : Type 0} (i : ℕ) → A ⊎ WillHaveTwo slots put i → A ⊎ WillHaveTwo slots put' i
    more i (inl x) = inl x
    more i (inr x) = inr (two i x)

-- what the entry that is put behind the others has to be
pub record MayJoin (slots : List Slot) (homes : List Walk) (h g : List Weighted) (done : Walk → Type 0) (put : List PutOff) (k : PutOff) : Type 0 where
  pub may : IsPutOff slots homes h g k
  pub ended : done (link_address homes k)
  -- its node is not done, and no link that was put off before comes before it in the order of single visits
  pub not_done : done (home_of homes k.node) → ⊥
  pub after : All (λ j. IsBefore (link_address homes j) (link_address homes k) → ⊥) put

pub halfway_put : (dims : ℕ) (slots : List Slot) (homes : List Walk) (h g : List Weighted) (done open' : Walk → Type 0) (put : List PutOff) (k : PutOff) → MayJoin slots homes h g done put k → IsHalfway dims slots homes h g done open' put → IsHalfway dims slots homes h g done open' (put ++ k ∷ [])
halfway_put dims slots homes h g done open' put k J M =
    halfway_listed dims slots homes h g done open' put (put ++ k ∷ []) (λ i e q c u x. inr (put_still put k i e x)) (two_still slots put k) (record {
      put_off = All-push (IsPutOff slots homes h g) put k M.later.put_off J.may;
      ended = All-push (λ j. done (link_address homes j)) put k M.later.ended J.ended;
      wide = All-push (λ j. done (home_of homes j.node) → WillHaveTwo slots (put ++ k ∷ []) j.node) put k (λ n x lt d. two_still slots put k (get_or put n x).node (M.later.wide n x lt d)) (λ d. absurd (J.not_done d));
      in_order = all_pairs_push (λ i j. IsBefore (link_address homes i) (link_address homes j) → ⊥) put k M.later.in_order J.after;
    }) M

-- the last entry's link is there by now
put_less : (rest : List PutOff) (k : PutOff) (i : ℕ) (e : Step) → IsPut (rest ++ k ∷ []) i e → IsPut rest i e ⊎ ((k.node ≡ i) × (down k.label ≡ e))
put_less rest k i e (n, p, lt, at, same) = go (cases_lt n (length rest))
  where
    go : (n < length rest) ⊎ (length rest ≤ n) → IsPut rest i e ⊎ ((k.node ≡ i) × (down k.label ≡ e))
    go (inl y) = inl (n, p, y, sym (get_or_append_left rest (k ∷ []) p n y) ∙ at, same)
    go (inr y) =
        let z : n ≡ length rest = omega (arith, lt, y, length_push rest k) in
        let x : k ≡ p = sym (get_or_push rest k p (length rest) refl) ∙ (ap (λ v. get_or (rest ++ k ∷ []) v p) (sym z) ∙ at) in
        inr (subst (λ v. (v.node ≡ i) × (down v.label ≡ e)) (sym x) same)

pub two_less : (slots : List Slot) (rest : List PutOff) (k : PutOff) (i : ℕ) → IsLinked slots k.node (down k.label) → WillHaveTwo slots (rest ++ k ∷ []) i → WillHaveTwo slots rest i
two_less slots rest k i L t = record { one = t.one; other = t.other; differ = t.differ; at_one = more t.one t.at_one; at_other = more t.other t.at_other }
  where
    less : (m : ℕ) → IsPut rest i (down m) ⊎ ((k.node ≡ i) × (down k.label ≡ down m)) → IsLinked slots i (down m) ⊎ IsPut rest i (down m)
    less m (inl x) = inr x
    less m (inr x) = inl (subst₂ (λ a b. IsLinked slots a b) x.0 x.1 L)

    more : (m : ℕ) → IsLinked slots i (down m) ⊎ IsPut (rest ++ k ∷ []) i (down m) → IsLinked slots i (down m) ⊎ IsPut rest i (down m)
    more m (inl x) = inl x
    more m (inr x) = less m (put_less rest k i (down m) x)

-- what holds of each entry holds of the last and of those before it
pub last_of : (P : PutOff → Type 0) (rest : List PutOff) (k : PutOff) → All P (rest ++ k ∷ []) → P k
last_of P rest k A = subst P (get_or_push rest k k (length rest) refl) (A (length rest) k (omega (arith, length_push rest k)))

first_of_all : (P : PutOff → Type 0) (rest : List PutOff) (k : PutOff) → All P (rest ++ k ∷ []) → All P rest
first_of_all P rest k A n d lt = subst P (get_or_append_left rest (k ∷ []) d n lt) (A n d (omega (arith, lt, length_push rest k)))

-- the link of the last entry is right, so the entry may go
pub halfway_less : (dims : ℕ) (slots : List Slot) (homes : List Walk) (h g : List Weighted) (done open' : Walk → Type 0) (rest : List PutOff) (k : PutOff) → IsLinked slots k.node (down k.label) → ((q : SpotPath) → Contains (spots_in g) q → Under q (link_address homes k) → LeadsRight slots homes k.node (down k.label) q) → IsHalfway dims slots homes h g done open' (rest ++ k ∷ []) → IsHalfway dims slots homes h g done open' rest
halfway_less dims slots homes h g done open' rest k L R M =
    halfway_listed dims slots homes h g done open' (rest ++ k ∷ []) rest (λ i e q c u x. right i e q c u (put_less rest k i e x)) (λ i. two_less slots rest k i L) (record {
      put_off = first_of_all (IsPutOff slots homes h g) rest k M.later.put_off;
      ended = first_of_all (λ j. done (link_address homes j)) rest k M.later.ended;
      wide = first_of_all (λ j. done (home_of homes j.node) → WillHaveTwo slots rest j.node) rest k (λ n x lt d. two_less slots rest k (get_or (rest ++ k ∷ []) n x).node L (M.later.wide n x lt d));
      in_order = in_order;
    }) M
  where
    right : (i : ℕ) (e : Step) (q : SpotPath) → Contains (spots_in g) q → Under q (e ∷ home_of homes i) → IsPut rest i e ⊎ ((k.node ≡ i) × (down k.label ≡ e)) → LeadsRight slots homes i e q ⊎ IsPut rest i e
    right i e q c u (inl x) = inr x
    right i e q c u (inr x) = inl (subst₂ (λ a b. LeadsRight slots homes a b q) x.0 x.1 (R q c (subst₂ (λ a b. Under q (b ∷ home_of homes a)) (sym x.0) (sym x.1) u)))

    in_order : (i j : ℕ) (d : PutOff) → i < j → j < length rest → IsBefore (link_address homes (get_or rest i d)) (link_address homes (get_or rest j d)) → ⊥
    in_order i j d l lt r =
        let x = get_or_append_left rest (k ∷ []) d i (omega (arith, l, lt)) in
        let y = get_or_append_left rest (k ∷ []) d j lt in
        M.later.in_order i j d l (omega (arith, lt, length_push rest k)) (subst₂ (λ a b. IsBefore (link_address homes a) (link_address homes b)) (sym x) (sym y) r)

-- at its turn a link that may be is put off: nothing has its home at or below it, and no entry comes before it
pub halfway_put_off : (dims : ℕ) (slots : List Slot) (homes : List Walk) (h g : List Weighted) (put : List PutOff) (k : PutOff) → IsPutOff slots homes h g k → IsHalfwayBefore dims slots homes h g put (link_address homes k) → IsHalfwayAfter dims slots homes h g (put ++ k ∷ []) (link_address homes k)
halfway_put_off dims slots homes h g put k may M =
    halfway_put dims slots homes h g (EndedAfter g (link_address homes k)) (IsOpenAbove (link_address homes k)) put k joins
    (halfway_same dims slots homes h g (EndedBefore g (link_address homes k)) (IsOpenAbove (link_address homes k)) (EndedAfter g (link_address homes k)) (IsOpenAbove (link_address homes k)) put turn M)
  where
    below : (j : ℕ) → j < length slots → IsEarlier (home_of homes j) (link_address homes k) ⊎ IsAbove (link_address homes k) (home_of homes j) → IsEarlier (home_of homes j) (link_address homes k)
    below j lt (inl r) = r
    below j lt (inr f) = absurd (none_below slots homes M.has_homes k.node (down k.label) may.in_range.0 may.free j lt f)

    turn : IsSameTurn slots homes g (EndedBefore g (link_address homes k)) (IsOpenAbove (link_address homes k)) (EndedAfter g (link_address homes k)) (IsOpenAbove (link_address homes k))
    turn = record { to = λ b d. (d.0, inl d.1); back = λ j lt d. (d.0, below j lt d.1); holds = λ b d. d.0; wider = λ b o. o }

    at_node : HasSpot (spots_in g) (home_of homes k.node)
    at_node = let w = may.wanted in record { spot = w.spot; is_in = w.is_in; lies = under_before w.spot (down k.label) (home_of homes k.node) w.lies }

    joins : MayJoin slots homes h g (EndedAfter g (link_address homes k)) put k
    joins = record {
      may = may;
      ended = (may.wanted, inr itself);
      not_done = (turn_after g (down k.label) (home_of homes k.node) at_node).not_done;
      after = λ n d lt r. earlier_not_before (M.later.ended n d lt).1 r;
    }
