-- The invariant before the first visit of a group, and after the last.
use Rattle.std.proofs.Common.{◌≡◌, ℕ, ◌+◌, ◌<◌, Bool, true, false, ◌⊎◌, inl, inr, List, [], ◌∷◌, ◌++◌, Some, Contains, length, map, refl, sym, ap, ◌∙◌, subst, arith, true≢false}
use Rattle.std.proofs.lemmas.List.{map-append, length-map}
use Rattle.std.proofs.lemmas.List.Elements.{Contains-append_right}
use Rattle.std.proofs.lemmas.List.Sums.{sum_by-append}
use Rattle.cube_view.specs.Walks.{Step, Walk, SpotPath, under, Under, HasSpot}
use Rattle.cube_view.proofs.FinerWalks.{under_before, Contains-head, Contains-cons, Contains-cases}
use Rattle.node_arena.specs.Amounts.{Weighted, spots_in, amount_under}
use Rattle.node_arena.specs.Shape.{home_of, IsLinked, SharesContent, SharesOnlyContent, IsShaped, AreAlike, HasShape}
use Rattle.node_arena.specs.Slots.{target, Slot, link_of, slot_of, is_table, count}
use Rattle.node_arena.specs.declared.link.Link.{Link}
use Rattle.node_arena.proofs.AddressAmounts.{amount-none, spots_in-append_cases}
use Rattle.node_arena.proofs.Links.{linked-lt}
use Rattle.proper_path.specs.Order.{IsAbove, itself, further}
use Rattle.proper_path.specs.Making.{IsSpotOf, AllOfShape}
use Rattle.proper_path.proofs.Order.{above-length}
use Rattle.group_insert.specs.Halfway.{LeadsRight, WillHaveTwo, IsHalfwayBefore, IsHalfwayAfter}
use Rattle.group_insert.specs.InsertingAll.{IsInsertableAll, HasInsertedAll}
use Rattle.group_insert.specs.Later.{IsPut}
use Rattle.group_insert.specs.LeastSoFar.{BegunAt, BegunAfter, IsLeastSoFar}
use Rattle.least_cube.specs.Least.{IsLeast}
use Rattle.group_insert.specs.Turns.{IsEarlier, crosses, lesser, EndedBefore, EndedAfter, IsOpenAbove}
use Rattle.group_insert.proofs.LinksPutOff.{none_put}
use Rattle.group_insert.proofs.SharedContent.{one_not_two}

-- nothing comes before the top, and nothing stands above it
not_above_top : {e : Step} {a b : Walk} → IsAbove (e ∷ a) b → b ≡ [] → ⊥
not_above_top f x = let l = above-length f in let s = ap length x in omega (arith, l, s)

none_earlier : (b : Walk) → IsEarlier b [] → ⊥
none_earlier b (crosses r) = not_above_top r.goes_down refl
none_earlier b (lesser p k l lt x y) = not_above_top y refl

above_top : {b : Walk} → IsAbove b [] → b ≡ []
above_top {b = []} f = refl
above_top {b = e ∷ b} f = absurd (not_above_top f refl)

none_open : (b : Walk) → IsOpenAbove [] b → ⊥
none_open b o = o.1 (above_top o.0)

pub below_top : (b : Walk) → IsAbove [] b
below_top [] = itself
below_top (e ∷ b) = further (below_top b)

-- a spot of what was before is one of all
pub old_spot : (g h : List Weighted) (q : SpotPath) → Contains (spots_in h) q → Contains (spots_in (g ++ h)) q
old_spot g h q c = subst (λ z. Contains z q) (sym (map-append (λ (x : Weighted). x.spot) g h)) (Contains-append_right (spots_in g) (spots_in h) q c)

old_lies : (g h : List Weighted) (a : Walk) → HasSpot (spots_in h) a → HasSpot (spots_in (g ++ h)) a
old_lies g h a w = record { spot = w.spot; is_in = old_spot g h w.spot w.is_in; lies = w.lies }

-- the invariant before the visit of the root
pub halfway_starts : (dims : ℕ) (slots : List Slot) (homes : List Walk) (h g : List Weighted) → HasShape dims slots homes h → IsHalfwayBefore dims slots homes h g [] []
halfway_starts dims slots homes h g S = record {
  has_homes = S.has_homes;
  has_tables = S.has_tables;
  holds = record { needed = S.holds.needed; wanted = λ i e l is. old_lies g h (e ∷ home_of homes i) (S.holds.wanted i e l is); agrees = S.holds.agrees };
  untouched = λ i e l d o is. S.holds.wanted i e l is;
  visited = record { holds = λ a d. d.0; links = λ i e l d. absurd (none_earlier (home_of homes i) d.1) };
  counted = record { still = λ i bin l t d. S.counted.counts i bin l t; now = λ i bin l t d. absurd (none_earlier (home_of homes i) d.1) };
  shares = record { shares = λ i label l o O. inl (S.shares i label l O); own_child = λ i label l d O. absurd (none_earlier (home_of homes i) d.1) };
  later = none_put slots homes h g (EndedBefore g []);
}

-- some spot of a list lies under an address, or none does
pub cases_spot : (qs : List SpotPath) (a : Walk) → HasSpot qs a ⊎ (HasSpot qs a → ⊥)
cases_spot [] a = inr (λ w. let l = w.is_in.1 in omega (arith, l))
cases_spot (q ∷ qs) a = go (under q a) refl (cases_spot qs a)
  where
    go : (b : Bool) → under q a ≡ b → HasSpot qs a ⊎ (HasSpot qs a → ⊥) → HasSpot (q ∷ qs) a ⊎ (HasSpot (q ∷ qs) a → ⊥)
    go true e r = inl (record { spot = q; is_in = Contains-head qs q; lies = e })
    go false e (inl w) = inl (record { spot = w.spot; is_in = Contains-cons qs q w.spot w.is_in; lies = w.lies })
    go false e (inr n) = inr (λ w. other w (Contains-cases qs q w.spot w.is_in))
      where
        other : (w : HasSpot (q ∷ qs) a) → (q ≡ w.spot) ⊎ Contains qs w.spot → ⊥
        other w (inl x) = let l : under q a ≡ true = subst (λ z. under z a ≡ true) (sym x) w.lies in true≢false (sym l ∙ e)
        other w (inr c) = n (record { spot = w.spot; is_in = c; lies = w.lies })

-- what is counted under an address: the group's amounts and the older ones
pub amount_under-both : (g h : List Weighted) (a : Walk) (bin : ℕ) → amount_under (g ++ h) a bin ≡ amount_under g a bin + amount_under h a bin
amount_under-both g h a bin = sum_by-append _ g h

-- the invariant after the visit of the root is the shape with the group
pub shaped_with : (dims : ℕ) (slots : List Slot) (homes : List Walk) (h g : List Weighted) → IsHalfwayAfter dims slots homes h g [] [] → IsShaped dims slots homes (g ++ h)
shaped_with dims slots homes h g M = record {
  has_homes = M.has_homes;
  has_tables = M.has_tables;
  holds = record { needed = needed; wanted = M.holds.wanted; agrees = agrees };
  counted = record { counts = λ i bin l t. counts i bin l t (cases_spot (spots_in g) (home_of homes i)) };
}
  where
    done : (i : ℕ) → HasSpot (spots_in g) (home_of homes i) → EndedAfter g [] (home_of homes i)
    done i w = (w, inr (below_top (home_of homes i)))

    links : (i : ℕ) (e : Step) → i < length slots → (q : SpotPath) → Contains (spots_in g) q → Under q (e ∷ home_of homes i) → LeadsRight slots homes i e q
    links i e l q c u = go (M.visited.links i e l (done i (record { spot = q; is_in = c; lies = under_before q e (home_of homes i) u })) q c u)
      where
        go : LeadsRight slots homes i e q ⊎ IsPut [] i e → LeadsRight slots homes i e q
        go (inl r) = r
        go (inr p) = let n = p.2 in absurd (omega (arith, n))

    needed : (i : ℕ) (e : Step) → i < length slots → HasSpot (spots_in (g ++ h)) (e ∷ home_of homes i) → IsLinked slots i e
    needed i e l w = go (spots_in-append_cases g h w.spot w.is_in)
      where
        go : Contains (spots_in g) w.spot ⊎ Contains (spots_in h) w.spot → IsLinked slots i e
        go (inl c) = let r = links i e l w.spot c w.lies in record { link = r.link; is = r.is }
        go (inr c) = M.holds.needed i e l (record { spot = w.spot; is_in = c; lies = w.lies })

    agrees : (i : ℕ) (e : Step) (l : Link) → link_of slots i e ≡ Some l → (q : SpotPath) → Contains (spots_in (g ++ h)) q → Under q (e ∷ home_of homes i) → Under q (home_of homes (target l))
    agrees i e l is q c u = go (spots_in-append_cases g h q c)
      where
        go : Contains (spots_in g) q ⊎ Contains (spots_in h) q → Under q (home_of homes (target l))
        go (inl d) =
            let r = links i e (linked-lt slots i e l is) q d u in
            let m : Some r.link ≡ Some l = sym r.is ∙ is in
            let k : r.link ≡ l = cc in
            subst (λ z. Under q (home_of homes (target z))) k r.lies
        go (inr d) = M.holds.agrees i e l is q d u

    counts : (i bin : ℕ) → i < length slots → is_table (slot_of slots i) ≡ true → HasSpot (spots_in g) (home_of homes i) ⊎ (HasSpot (spots_in g) (home_of homes i) → ⊥) → count (slot_of slots i) bin ≡ amount_under (g ++ h) (home_of homes i) bin
    counts i bin l t (inl w) = M.counted.now i bin l t (done i w)
    counts i bin l t (inr n) =
        let s = M.counted.still i bin l t (λ d. n d.0) in
        let b = amount_under-both g h (home_of homes i) bin in
        let z = amount-none g (home_of homes i) bin n in
        omega (arith, s, b, z)

pub shares_with : (dims : ℕ) (slots : List Slot) (homes : List Walk) (h g : List Weighted) → IsHalfwayAfter dims slots homes h g [] [] → SharesOnlyContent slots
shares_with dims slots homes h g M i label l O = go (M.shares.shares i label l (λ o. none_open (home_of homes i) o) O)
  where
    go : SharesContent slots i l ⊎ WillHaveTwo slots [] i → SharesContent slots i l
    go (inl c) = c
    go (inr t) = absurd (one_not_two slots [] i label l O (λ m p. let n = p.2 in omega (arith, n)) t)

-- all paths are as long as those of a point of the group
alike_all : (dims : ℕ) (g h : List Weighted) → 0 < length g → ((w : Weighted) → Contains g w → AllOfShape (spots_in (g ++ h)) w.spot) → ((w : Weighted) → Contains g w → IsSpotOf dims w.spot) → AreAlike dims (spots_in (g ++ h))
alike_all dims [] h some A P = absurd (omega (arith, some))
alike_all dims (w ∷ g) h some A P = record {
  lengths = map (λ path. length path) w.spot.paths;
  all = length-map w.spot.paths (λ path. length path) ∙ (P w (Contains-head g w)).size;
  same = A w (Contains-head g w);
}

-- a least cube is so before the visit of the root
least_starts : (dims : ℕ) (slots : List Slot) (homes : List Walk) (h g : List Weighted) → HasShape dims slots homes h → IsLeast slots homes (spots_in h) → IsLeastSoFar slots homes h g (BegunAt [])
least_starts dims slots homes h g S L = record {
  least = λ i j e is F. L i j e is (record { to = F.to; finer = F.finer; differs = F.differs; all = λ q c. F.all q (old_spot g h q c) });
  needed = λ i j e is n. L i j e is;
  wanted = λ i e l is n. S.holds.wanted i e l is;
}

pub shape_with : (dims : ℕ) (old new : List Slot) (homes homes' : List Walk) (h g : List Weighted) → 0 < length g → IsInsertableAll dims g old homes h → IsHalfwayAfter dims new homes' h g [] [] → (IsLeastSoFar old homes h g (BegunAt []) → IsLeastSoFar new homes' h g (BegunAfter [])) → HasInsertedAll dims g old homes h new
shape_with dims old new homes homes' h g some K M stays = record {
  homes' = homes';
  shape = record {
    shaped = shaped_with dims new homes' h g M;
    shares = shares_with dims new homes' h g M;
    alike = alike_all dims g h some K.alike K.spots;
  };
  least = λ L. (stays (least_starts dims old homes h g K.shape L)).least;
}
