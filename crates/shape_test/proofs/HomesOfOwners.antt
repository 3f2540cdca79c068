-- Homes from owners: where owners lead back from each slot to the root, the steps are the homes.
use Rattle.std.proofs.Common.{◌≡◌, ◌↔◌, ◌⊎◌, inl, inr, ℕ, zero, suc, ◌+◌, ◌<◌, ◌≤◌, List, [], ◌∷◌, ◌++◌, length, get_or, Bool, true, false, Option, Some, None, MatchOption, Result, Ok, Err, IfOk, length-append, refl, sym, ap, ap₂, ◌∙◌, subst, arith}
use Rattle.std.proofs.Math.ListN.{get_or-eq_default}
use Rattle.std.proofs.lemmas.Bool.{cases_lt}
use Rattle.std.proofs.lemmas.List.{get_or_append_left, get_or_push, length-map}
use Rattle.texts.specs.declared.no_memory.NoMemory.{NoMemory}
use Rattle.cube_view.specs.Walks.{Step, Walk}
use Rattle.cube_view.specs.declared.schema.Schema.{Schema}
use Rattle.node_arena.specs.Shape.{home_of, IsOwned, HasProperLinks}
use Rattle.node_arena.specs.Slots.{proper, target, Slot, link_of}
use Rattle.node_arena.proofs.Links.{linked-lt}
use Rattle.shape_test.specs.Homes.{step_of, walk_of, walks_of}
use Rattle.shape_test.specs.declared.home.Move.{Move}
use Rattle.shape_test.specs.Owners.{Owners, owner_of, owner_at, IsOwner, HasOwners, IsHomeOf, AddsHome, LeadsBack, OwnersWithin, HasLost, LeadHome, AreShortHomes, AreHomesIn, HasNoHomesIn, most_steps}
use Rattle.shape_test.specs.declared.owner.Owner.{Owner}

-- one step further back
pub back_more : (owners : Owners) (j : ℕ) (moves : List Move) (i k : ℕ) (m : Move) → LeadsBack owners j moves i → owner_at owners i ≡ Some (owner_of k m) → LeadsBack owners j (moves ++ m ∷ []) k
back_more owners j [] i k m b o = (k, ap (owner_at owners) b ∙ o, refl)
back_more owners j (n ∷ moves) i k m b o = (b.0, b.1, back_more owners b.0 moves i k m b.2 o)

-- homes with one more
pub homes_more : (owners : Owners) (most j : ℕ) (old new : List (List Move)) → length old ≡ j → ((i : ℕ) → i < j → IsHomeOf owners most i (get_or old i [])) → AddsHome owners most j old new
    → (length new ≡ j + 1) × ((i : ℕ) → i < j + 1 → IsHomeOf owners most i (get_or new i []))
homes_more owners most j old new size each A = (let n = ap length A.added in let m = length-append old (A.home ∷ []) in omega (arith, n, m, size), λ i l. go i l (cases_lt i j))
  where
    read : (i : ℕ) → get_or new i [] ≡ get_or (old ++ A.home ∷ []) i []
    read i = ap (λ (homes : List (List Move)). get_or homes i []) A.added

    go : (i : ℕ) → i < j + 1 → (i < j) ⊎ (j ≤ i) → IsHomeOf owners most i (get_or new i [])
    go i l (inl x) = subst (IsHomeOf owners most i) (sym (read i ∙ get_or_append_left old (A.home ∷ []) [] i (omega (arith, x, size)))) (each i x)
    go i l (inr x) =
        let e : j ≡ i = omega (arith, l, x) in
        subst (IsHomeOf owners most i) (sym (read i ∙ get_or_push old A.home [] i (size ∙ e))) (subst (λ (k : ℕ). IsHomeOf owners most k A.home) e A.leads)

-- a slot with an owner is one of the slots
pub owner_in : (owners : Owners) (j : ℕ) (o : Owner) → owner_at owners j ≡ Some o → j < length owners
owner_in owners j o e = go (cases_lt j (length owners))
  where
    go : (j < length owners) ⊎ (length owners ≤ j) → j < length owners
    go (inl x) = x
    go (inr x) = let n : None ≡ Some o = sym (get_or-eq_default owners None x) ∙ e in absurd cc

pub home_at : (homes : List (List Move)) (j : ℕ) → home_of (walks_of homes) j ≡ walk_of (get_or homes j [])
home_at [] j = refl
home_at (h ∷ homes) zero = refl
home_at (h ∷ homes) (suc j) = home_at homes j

module _ (slots : List Slot) (owners : Owners) (A : HasOwners slots owners) where
  pub owners_within : OwnersWithin owners
  owners_within j o e =
      let t = A.told j o e in
      let l = linked-lt slots o.by.0 (step_of o.step) (proper j) t.0 in
      let s = A.size in
      omega (arith, l, s)

  -- nobody owns the root
  root_free : (o : Owner) → owner_at owners 0 ≡ Some o → ⊥
  root_free o e =
      let t = A.told 0 o e in
      let a = A.all o.by.0 0 (step_of o.step) tt t.0 in
      let x = a.0 in
      omega (arith, x)

  -- the steps back from a slot to the root are the only ones
  one_back : (j : ℕ) (moves others : List Move) → LeadsBack owners j moves 0 → LeadsBack owners j others 0 → moves ≡ others
  one_back j [] [] b c = refl
  one_back j [] (n ∷ others) b c = absurd (root_free _ (ap (owner_at owners) (sym b) ∙ c.1))
  one_back j (m ∷ moves) [] b c = absurd (root_free _ (ap (owner_at owners) (sym c) ∙ b.1))
  one_back j (m ∷ moves) (n ∷ others) b c =
      let e : Some (owner_of b.0 m) ≡ Some (owner_of c.0 n) = sym b.1 ∙ c.1 in
      let f : owner_of b.0 m ≡ owner_of c.0 n = cc in
      let x : b.0 ≡ c.0 = ap (λ (o : Owner). o.by.0) f in
      let y : m ≡ n = ap (λ (o : Owner). o.step) f in
      ap₂ (λ (z : Move) (zs : List Move). z ∷ zs) y (one_back b.0 moves others b.2 (subst (λ (k : ℕ). LeadsBack owners k others 0) (sym x) c.2))

  -- slots with one address are one
  one_slot : (i j : ℕ) (moves others : List Move) → LeadsBack owners i moves 0 → LeadsBack owners j others 0 → walk_of moves ≡ walk_of others → i ≡ j
  one_slot i j [] [] b c e = b ∙ sym c
  one_slot i j [] (n ∷ others) b c e = absurd cc
  one_slot i j (m ∷ moves) [] b c e = absurd cc
  one_slot i j (m ∷ moves) (n ∷ others) b c e =
      let x : step_of m ≡ step_of n = cc in
      let y : walk_of moves ≡ walk_of others = cc in
      let k : b.0 ≡ c.0 = one_slot b.0 c.0 moves others b.2 c.2 y in
      let s = A.told i (owner_of b.0 m) b.1 in
      let t = A.told j (owner_of c.0 n) c.1 in
      let z : Some (proper i) ≡ Some (proper j) = sym s.0 ∙ (ap₂ (link_of slots) k x ∙ t.0) in
      let w : proper i ≡ proper j = cc in
      ap target w

  module _ (most : ℕ) (homes : List (List Move)) (L : LeadHome owners most homes) (some : 0 < length slots) where
    size : length homes ≡ length slots
    size = L.size ∙ A.size

    back : (j : ℕ) → j < length slots → LeadsBack owners j (get_or homes j []) 0
    back j l = let h = L.each j (let s = A.size in omega (arith, s, l)) in h.back

    -- behind the first step back stands the owner's home
    first_back : (j : ℕ) (moves : List Move) → 0 < j → LeadsBack owners j moves 0 → (i : ℕ) × (m : Move) × (rest : List Move) × (moves ≡ m ∷ rest) × (owner_at owners j ≡ Some (owner_of i m)) × LeadsBack owners i rest 0
    first_back j [] s b = absurd (omega (arith, s, b))
    first_back j (m ∷ moves) s b = (b.0, m, moves, refl, b.1, b.2)

    at_home : (i j : ℕ) (e : Step) → link_of slots i e ≡ Some (proper j) → (j < length slots) × (home_of (walks_of homes) j ≡ e ∷ home_of (walks_of homes) i)
    at_home i j e x =
        let a = A.all i j e tt x in
        let o : IsOwner owners i e j = a.1 in
        let n = owner_in owners j (owner_of i o.step) o.noted in
        let l : j < length slots = omega (arith, n, A.size) in
        let f = first_back j (get_or homes j []) a.0 (back j l) in
        let z : Some (owner_of f.0 f.1) ≡ Some (owner_of i o.step) = sym f.4 ∙ o.noted in
        let w : owner_of f.0 f.1 ≡ owner_of i o.step = cc in
        let k : f.0 ≡ i = ap (λ (q : Owner). q.by.0) w in
        let m : f.1 ≡ o.step = ap (λ (q : Owner). q.step) w in
        let rest : f.2 ≡ get_or homes i [] = one_back i f.2 (get_or homes i []) (subst (λ (h : ℕ). LeadsBack owners h f.2 0) k f.5) (back i (linked-lt slots i e (proper j) x)) in
        (l, home_at homes j ∙ (ap walk_of f.3 ∙ (ap₂ (λ (s : Step) (ss : Walk). s ∷ ss) (ap step_of m ∙ o.is) (ap walk_of rest ∙ sym (home_at homes i)))))

    proper_links : HasProperLinks slots (walks_of homes)
    proper_links = record {
      size = length-map homes walk_of ∙ size;
      some = some;
      root = home_at homes 0 ∙ ap walk_of (one_back 0 (get_or homes 0 []) [] (back 0 some) refl);
      distinct = λ i j l k e. one_slot i j (get_or homes i []) (get_or homes j []) (back i l) (back j k) (sym (home_at homes i) ∙ (e ∙ home_at homes j));
      owner = λ j s l. let f = first_back j (get_or homes j []) s (back j l) in record { by = f.0; step = step_of f.1; owns = (A.told j (owner_of f.0 f.1) f.4).0 };
      at_home = at_home;
    }

    pub short_homes : AreShortHomes most slots (walks_of homes)
    short_homes = record {
      owned = proper_links;
      short = λ i l. let h = L.each i (let s = A.size in omega (arith, s, l)) in let s = h.short in let e = ap length (home_at homes i) in let f = length-map (get_or homes i []) step_of in omega (arith, s, e, f);
    }

  -- where a slot is lost there are no homes so short
  module _ (homes : List Walk) (H : HasProperLinks slots homes) where
    home_back : (j : ℕ) (moves : List Move) (i : ℕ) → LeadsBack owners j moves i → home_of homes j ≡ walk_of moves ++ home_of homes i
    home_back j [] i b = ap (home_of homes) b
    home_back j (m ∷ moves) i b =
        let t = A.told j (owner_of b.0 m) b.1 in
        (H.at_home b.0 j (step_of m) t.0).1 ∙ ap (λ (a : Walk). step_of m ∷ a) (home_back b.0 moves i b.2)

    back_in : (j : ℕ) (moves : List Move) (i : ℕ) → j < length slots → LeadsBack owners j moves i → i < length slots
    back_in j [] i l b = omega (arith, l, b)
    back_in j (m ∷ moves) i l b =
        let t = A.told j (owner_of b.0 m) b.1 in
        back_in b.0 moves i (linked-lt slots b.0 (step_of m) (proper j) t.0) b.2

    not_lost : (most : ℕ) → ((i : ℕ) → i < length slots → length (home_of homes i) ≤ most) → HasLost owners most → ⊥
    not_lost most short X = go X.is.lost
      where
        in_slots : X.slot < length slots
        in_slots = let w = X.within in let s = A.size in omega (arith, w, s)

        o : IsOwned slots X.is.last
        o = H.owner X.is.last X.is.other (back_in X.slot X.is.moves X.is.last in_slots X.is.back)

        go : (owner_at owners X.is.last ≡ None) ⊎ (most ≤ length X.is.moves) → ⊥
        go (inl x) =
            let w : IsOwner owners o.by o.step X.is.last = (A.all o.by X.is.last o.step tt o.owns).1 in
            let z : None ≡ Some (owner_of o.by w.step) = sym x ∙ w.noted in
            absurd cc
        go (inr x) =
            let s = short X.slot in_slots in
            let h = ap length (home_back X.slot X.is.moves X.is.last X.is.back) in
            let a = length-append (walk_of X.is.moves) (home_of homes X.is.last) in
            let f = length-map X.is.moves step_of in
            let e = ap length (H.at_home o.by X.is.last o.step o.owns).1 in
            omega (arith, s, h, a, f, e, x)

  pub lost_homes : (most : ℕ) → HasLost owners most → (homes : List Walk) → AreShortHomes most slots homes → ⊥
  lost_homes most X homes S = not_lost homes S.owned most S.short X

pub some_slots : (slots : List Slot) (r : Bool) → (r ≡ true) ↔ (slots ≡ []) → r ≡ false → 0 < length slots
some_slots [] r t f = let z = t.1 refl in absurd cc
some_slots (s ∷ slots) r t f = omega arith

-- what the homes that owners lead to tell
pub homes_told : (schema : Schema) (slots : List Slot) (owners : Owners) (most : ℕ) (r : Result (Option (List (List Move))) NoMemory) → HasOwners slots owners → most ≡ most_steps schema → 0 < length slots → IfOk r (λ o. MatchOption o (HasLost owners most) (LeadHome owners most)) → IfOk r (λ o. MatchOption o (HasNoHomesIn schema slots) (AreHomesIn schema slots))
homes_told schema slots owners most (Err e) A is some h = h
homes_told schema slots owners most (Ok None) A is some h = λ homes S. lost_homes slots owners A (most_steps schema) (subst (HasLost owners) is h) homes S
homes_told schema slots owners most (Ok (Some homes)) A is some h = short_homes slots owners A (most_steps schema) homes (subst (λ (n : ℕ). LeadHome owners n homes) is h) some
