-- Where labels are bytes, the order of an image has each slot once.
use Rattle.std.proofs.Common.{◌≡◌, ℕ, zero, suc, ◌+◌, ◌<◌, ◌≤◌, Bool, cond, ◌⊎◌, inl, inr, eqb, eq-eqb, ne_eqb, List, [], ◌∷◌, ◌++◌, length, Option, Some, refl, sym, ap, ◌∙◌, subst, arith}
use Rattle.std.proofs.lemmas.Bool.{cases_eq, cases_lt}
use Rattle.std.proofs.lemmas.List.{length-map}
use Rattle.std.proofs.Math.Seq.{take-length}
use Rattle.std.specs.List.{flat_map}
use Rattle.cube_view.specs.Walks.{Step, down, across, Walk}
use Rattle.node_arena.specs.declared.link.Link.{Link}
use Rattle.node_arena.specs.Shape.{home_of, HasHomes}
use Rattle.node_arena.specs.Slots.{proper, Children, Slot, node, table, slot_of, child, link}
use Rattle.node_arena.specs.Stats.{AllRising}
use Rattle.cube_image.specs.Conditions.{HasSomeHomes, HasByteLabels}
use Rattle.cube_image.specs.Order.{proper_target, owned_children, owned_content, owned_by, IsOrder, moved, in_order}
use Rattle.cube_image.specs.Rest.{byte_children, below_number}
use Rattle.node_arena.proofs.Links.{linked-lt}
use Rattle.cube_image.proofs.OwnedHits.{hits, hits-append, few_once}
use Rattle.cube_image.proofs.OrderFronts.{IsFront, owned_at, stand_once}
use Rattle.cube_image.proofs.Rests.{taken, dropped}

-- a child whose label is less is kept
child-kept : (m : ℕ) (children : Children) (l : ℕ) (k : Link) → l < m → child children l ≡ Some k → child (below_number m children) l ≡ Some k
child-kept m [] l k lt is = is
child-kept m (x ∷ children) l k lt is = go (cases_lt x.0 m) (cases_eq x.0 l) (λ r. child-kept m children l k lt r)
  where
    go : (x.0 < m) ⊎ (m ≤ x.0) → (x.0 ≡ l) ⊎ (x.0 ≡ l → ⊥) → (child children l ≡ Some k → child (below_number m children) l ≡ Some k) → child (below_number m (x ∷ children)) l ≡ Some k
    go (inl less) (inl e) rest =
        ap (λ (cs : Children). child cs l) (taken m x children less)
        ∙ (ap (λ (t : Bool). cond t (Some x.1) (child (below_number m children) l)) (eq-eqb x.0 l e)
        ∙ (sym (ap (λ (t : Bool). cond t (Some x.1) (child children l)) (eq-eqb x.0 l e)) ∙ is))
    go (inl less) (inr n) rest =
        ap (λ (cs : Children). child cs l) (taken m x children less)
        ∙ (ap (λ (t : Bool). cond t (Some x.1) (child (below_number m children) l)) (ne_eqb x.0 l n)
        ∙ rest (sym (ap (λ (t : Bool). cond t (Some x.1) (child children l)) (ne_eqb x.0 l n)) ∙ is))
    go (inr more) (inl e) rest = absurd (omega arith)
    go (inr more) (inr n) rest =
        ap (λ (cs : Children). child cs l) (dropped m x children more)
        ∙ rest (sym (ap (λ (t : Bool). cond t (Some x.1) (child children l)) (ne_eqb x.0 l n)) ∙ is)

target-hit : (j : ℕ) → hits j (proper_target (proper j)) ≡ 1
target-hit j = ap (λ (b : Bool). cond {A = ℕ} b 1 0 + 0) (eq-eqb j j refl)

child-hits : (j : ℕ) (children : Children) (l : ℕ) → child children l ≡ Some (proper j) → 0 < hits j (owned_children children)
child-hits j [] l is = absurd cc
child-hits j (x ∷ children) l is = go (cases_eq x.0 l) (λ r. child-hits j children l r)
  where
    sum : hits j (owned_children (x ∷ children)) ≡ hits j (proper_target x.1) + hits j (owned_children children)
    sum = hits-append j (proper_target x.1) (owned_children children)

    go : (x.0 ≡ l) ⊎ (x.0 ≡ l → ⊥) → (child children l ≡ Some (proper j) → 0 < hits j (owned_children children)) → 0 < hits j (owned_children (x ∷ children))
    go (inl e) rest =
        let same : Some x.1 ≡ Some (proper j) = sym (ap (λ (t : Bool). cond t (Some x.1) (child children l)) (eq-eqb x.0 l e)) ∙ is in
        let link : x.1 ≡ proper j = cc in
        let one : hits j (proper_target x.1) ≡ 1 = ap (λ (k : Link). hits j (proper_target k)) link ∙ target-hit j in
        let all = sum in
        omega arith
    go (inr n) rest =
        let r = rest (sym (ap (λ (t : Bool). cond t (Some x.1) (child children l)) (ne_eqb x.0 l n)) ∙ is) in
        let all = sum in
        omega arith

-- a slot owns what its proper links lead to
link-hits : (j : ℕ) (s : Slot) (e : Step) → ((l : ℕ) (k : Link) → link s (down l) ≡ Some k → l < 256) → link s e ≡ Some (proper j) → 0 < hits j (owned_by s)
link-hits j (table counts) e small is = absurd cc
link-hits j (node children content) across small is =
    let sum = hits-append j (owned_children (byte_children children)) (owned_content content) in
    let one : hits j (owned_content content) ≡ 1 = ap (λ (o : Option Link). hits j (owned_content o)) is ∙ target-hit j in
    omega arith
link-hits j (node children content) (down l) small is =
    let sum = hits-append j (owned_children (byte_children children)) (owned_content content) in
    let some = child-hits j (byte_children children) l (child-kept 256 children l (proper j) (small l (proper j) is) is) in
    omega arith

-- what one of some slots owns, they own
hits-flat_map-least : (f : ℕ → List ℕ) (j b : ℕ) (xs : List ℕ) → 0 < hits b xs → hits j (f b) ≤ hits j (flat_map f xs)
hits-flat_map-least f j b [] some = absurd (omega arith)
hits-flat_map-least f j b (x ∷ xs) some = go (cases_eq x b) (λ r. hits-flat_map-least f j b xs r)
  where
    go : (x ≡ b) ⊎ (x ≡ b → ⊥) → (0 < hits b xs → hits j (f b) ≤ hits j (flat_map f xs)) → hits j (f b) ≤ hits j (f x ++ flat_map f xs)
    go (inl e) rest =
        let sum = hits-append j (f x) (flat_map f xs) in
        let same : hits j (f x) ≡ hits j (f b) = ap (λ (z : ℕ). hits j (f z)) e in
        omega arith
    go (inr n) rest =
        let sum = hits-append j (f x) (flat_map f xs) in
        let h : cond {A = ℕ} (eqb x b) 1 0 ≡ 0 = ap (λ (t : Bool). cond {A = ℕ} t 1 0) (ne_eqb x b n) in
        let r = rest (omega arith) in
        omega arith

-- a list without one of its items
pub record IsWithout (n : ℕ) (xs : List ℕ) : Type 0 where
  pub rest : List ℕ
  pub size : length xs ≡ suc (length rest)
  pub others : (j : ℕ) → (j ≡ n → ⊥) → hits j rest ≡ hits j xs

without : (n : ℕ) (xs : List ℕ) → 0 < hits n xs → IsWithout n xs
without n [] some = absurd (omega arith)
without n (x ∷ xs) some = go (cases_eq x n) (λ r. without n xs r)
  where
    go : (x ≡ n) ⊎ (x ≡ n → ⊥) → (0 < hits n xs → IsWithout n xs) → IsWithout n (x ∷ xs)
    go (inl e) r = record {
      rest = xs;
      size = refl;
      others = λ j other. let h : cond {A = ℕ} (eqb x j) 1 0 ≡ 0 = ap (λ (t : Bool). cond {A = ℕ} t 1 0) (ne_eqb x j (λ s. other (sym s ∙ e))) in omega arith;
    }
    go (inr n') r =
        let h : cond {A = ℕ} (eqb x n) 1 0 ≡ 0 = ap (λ (t : Bool). cond {A = ℕ} t 1 0) (ne_eqb x n n') in
        let W = r (omega arith) in
        record { rest = x ∷ W.rest; size = ap suc W.size; others = λ j other. ap (λ (k : ℕ). cond {A = ℕ} (eqb x j) 1 0 + k) (W.others j other) }

-- a list that has all numbers less than n has n items
many : (n : ℕ) (xs : List ℕ) → ((j : ℕ) → j < n → 0 < hits j xs) → n ≤ length xs
many zero xs all = omega arith
many (suc n) xs all =
    let W = without n xs (all n (omega arith)) in
    let size = W.size in
    let r = many n W.rest (λ j lt. subst (λ (k : ℕ). 0 < k) (sym (W.others j (λ e. omega arith))) (all j (omega arith))) in
    omega arith

module _ (slots : List Slot) (homes : List Walk) (H : HasHomes slots homes) (R : AllRising slots) (B : HasByteLabels slots) (places : List ℕ) (O : IsOrder slots places) where
  -- by the length of the home
  each_placed : (m j : ℕ) → length (home_of homes j) < m → j < length slots → 0 < hits j places
  each_placed zero j short lt = absurd (omega arith)
  each_placed (suc m) j short lt = go (cases_eq j 0) (λ b l w. each_placed m b l w)
    where
      parts : hits j places ≡ cond {A = ℕ} (eqb 0 j) 1 0 + hits j (flat_map (owned_at slots) places)
      parts = ap (hits j) O

      go : (j ≡ 0) ⊎ (j ≡ 0 → ⊥) → ((b : ℕ) → length (home_of homes b) < m → b < length slots → 0 < hits b places) → 0 < hits j places
      go (inl e) rest =
          let h : cond {A = ℕ} (eqb 0 j) 1 0 ≡ 1 = ap (λ (t : Bool). cond {A = ℕ} t 1 0) (eq-eqb 0 j (sym e)) in
          let p = parts in
          omega arith
      go (inr n) rest =
          let o = H.owner j (omega arith) lt in
          let home : suc (length (home_of homes o.by)) ≡ length (home_of homes j) = ap length (sym (H.at_home o.by j o.step o.owns).1) in
          let b = rest o.by (omega arith) (linked-lt slots o.by o.step (proper j) o.owns) in
          let owns = link-hits j (slot_of slots o.by) o.step (λ l k is. B o.by l k is) o.owns in
          let least = hits-flat_map-least (owned_at slots) j o.by places b in
          let p = parts in
          omega arith

  placed-all : length places ≡ length slots
  placed-all =
      let front : IsFront slots places (length places) = record { within = omega arith; is = O ∙ ap (λ (ps : List ℕ). 0 ∷ flat_map (owned_at slots) ps) (sym (take-length places)) } in
      let few = few_once places (length slots) (stand_once slots homes H R places (length places) front) in
      let enough = many (length slots) places (λ j lt. each_placed (suc (length (home_of homes j))) j (omega arith) lt) in
      omega arith

-- the image has each slot
pub all_in_order : (slots : List Slot) → HasSomeHomes slots → AllRising slots → HasByteLabels slots → (places : List ℕ) → IsOrder slots places → length (in_order slots places) ≡ length slots
all_in_order slots h R B places O = length-map places (λ (i : ℕ). moved places (slot_of slots i)) ∙ placed-all slots h.homes h.has_homes R B places O
