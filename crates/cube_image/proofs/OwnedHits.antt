-- How often a number stands in the list of the slots that a slot owns.
use Rattle.std.proofs.Common.{◌≡◌, ℕ, zero, suc, ◌+◌, ◌<◌, ◌≤◌, Bool, true, false, cond, ◌||◌, ◌⊎◌, inl, inr, eqb, List, [], ◌∷◌, ◌++◌, length, get_or, take, Option, Some, None, refl, sym, ap, ◌∙◌, arith, eq-eqb, ne_eqb, true≢false}
use Rattle.std.proofs.lemmas.Bool.{cases_eq}
use Rattle.std.proofs.lemmas.Map.Steps.{length-le_from_distinct_below}
use Rattle.std.specs.List.{flat_map, list_any, IsDistinct, AllByRecursion}
use Rattle.node_arena.specs.declared.link.Link.{Link}
use Rattle.node_arena.specs.declared.link.LinkKind.{LinkKind}
use Rattle.node_arena.specs.declared.link.LinkKind.TheVariants.{Proper, Shared}
use Rattle.cube_view.specs.Walks.{Step, down, across}
use Rattle.node_arena.specs.Slots.{proper, target, Children, Slot, node, table, IsRising, children_of, child, link}
use Rattle.node_arena.specs.Stats.{is_proper, is_proper_kind}
use Rattle.cube_image.specs.Order.{proper_target, owned_children, owned_content, owned_by}
use Rattle.cube_image.specs.Rest.{byte_children}
use Rattle.cube_image.proofs.Rests.{Rises, rises, below-rises, child-low, child-below}

-- how often a number stands in a list
abbrev pub hits : ℕ → List ℕ → ℕ
hits j [] = 0
hits j (x ∷ xs) = cond (eqb x j) 1 0 + hits j xs

pub hits-append : (j : ℕ) (xs ys : List ℕ) → hits j (xs ++ ys) ≡ hits j xs + hits j ys
hits-append j [] ys = omega arith
hits-append j (x ∷ xs) ys = let r = hits-append j xs ys in omega arith

pub hits-take : (j n : ℕ) (xs : List ℕ) → hits j (take n xs) ≤ hits j xs
hits-take j zero xs = omega arith
hits-take j (suc n) [] = omega arith
hits-take j (suc n) (x ∷ xs) = let r = hits-take j n xs in omega arith

-- what stands in a list stands in it
pub hits-at : (xs : List ℕ) (k d : ℕ) → k < length xs → 0 < hits (get_or xs k d) xs
hits-at [] k d lt = absurd (omega arith)
hits-at (x ∷ xs) zero d lt = let e : cond {A = ℕ} (eqb x x) 1 0 ≡ 1 = ap (λ (b : Bool). cond {A = ℕ} b 1 0) (eq-eqb x x refl) in omega arith
hits-at (x ∷ xs) (suc k) d lt = let r = hits-at xs k d (omega arith) in omega arith

module _ {X : Type 0} (f : X → List ℕ) where
  -- a number that no part has
  pub hits-flat_map-none : (j : ℕ) (xs : List X) → ((x : X) → hits j (f x) ≡ 0) → hits j (flat_map f xs) ≡ 0
  hits-flat_map-none j [] none = refl
  hits-flat_map-none j (x ∷ xs) none = let a = none x in let r = hits-flat_map-none j xs none in hits-append j (f x) (flat_map f xs) ∙ omega arith

-- a number that one part has, at most once
pub hits-flat_map-one : (f : ℕ → List ℕ) (j b : ℕ) (xs : List ℕ) → ((i : ℕ) → (i ≡ b → ⊥) → hits j (f i) ≡ 0) → hits j (f b) ≤ 1 → hits j (flat_map f xs) ≤ hits b xs
hits-flat_map-one f j b [] other once = omega arith
hits-flat_map-one f j b (x ∷ xs) other once = go (cases_eq x b) (hits-flat_map-one f j b xs other once)
  where
    go : (x ≡ b) ⊎ (x ≡ b → ⊥) → hits j (flat_map f xs) ≤ hits b xs → hits j (f x ++ flat_map f xs) ≤ cond {A = ℕ} (eqb x b) 1 0 + hits b xs
    go (inl e) r =
        let h : cond {A = ℕ} (eqb x b) 1 0 ≡ 1 = ap (λ (t : Bool). cond {A = ℕ} t 1 0) (eq-eqb x b e) in
        let s : hits j (f x) ≡ hits j (f b) = ap (λ (z : ℕ). hits j (f z)) e in
        let a = hits-append j (f x) (flat_map f xs) in omega arith
    go (inr n) r =
        let h : cond {A = ℕ} (eqb x b) 1 0 ≡ 0 = ap (λ (t : Bool). cond {A = ℕ} t 1 0) (ne_eqb x b n) in
        let s = other x n in
        let a = hits-append j (f x) (flat_map f xs) in omega arith

-- a link is proper to j, or j isn't its proper target
proper_is : (l : Link) → is_proper l ≡ true → l ≡ proper (target l)
proper_is l e = go l.kind refl e
  where
    go : (k : LinkKind) → l.kind ≡ k → is_proper_kind k ≡ true → l ≡ proper (target l)
    go Proper s t = ap (λ (z : LinkKind). record { to = l.to; kind = z }) s
    go Shared s t = absurd (true≢false (sym t))

pub target_hits : (j : ℕ) (l : Link) → (hits j (proper_target l) ≡ 0) ⊎ ((hits j (proper_target l) ≡ 1) × (l ≡ proper j))
target_hits j l = go (is_proper l) refl
  where
    go : (b : Bool) → is_proper l ≡ b → (hits j (cond b (target l ∷ []) []) ≡ 0) ⊎ ((hits j (cond b (target l ∷ []) []) ≡ 1) × (l ≡ proper j))
    go false e = inl refl
    go true e = at (cases_eq (target l) j)
      where
        at : (target l ≡ j) ⊎ (target l ≡ j → ⊥) → (hits j (target l ∷ []) ≡ 0) ⊎ ((hits j (target l ∷ []) ≡ 1) × (l ≡ proper j))
        at (inl s) = inr (ap (λ (t : Bool). cond {A = ℕ} t 1 0 + 0) (eq-eqb (target l) j s), proper_is l e ∙ ap proper s)
        at (inr n) = inl (ap (λ (t : Bool). cond {A = ℕ} t 1 0 + 0) (ne_eqb (target l) j n))

-- a number stands once in the list, with the label whose child it is, or not at all
children_hits : (j b : ℕ) (children : Children) → Rises b children → ((l m : ℕ) → child children l ≡ Some (proper j) → child children m ≡ Some (proper j) → l ≡ m) → (hits j (owned_children children) ≡ 0) ⊎ ((hits j (owned_children children) ≡ 1) × ((l : ℕ) × (child children l ≡ Some (proper j))))
children_hits j b [] R same = inl refl
children_hits j b (x ∷ children) R same = go (target_hits j x.1) (children_hits j (x.0 + 1) children R.1 (λ l m p q. same l m (further l p) (further m q)))
  where
    further : (l : ℕ) → child children l ≡ Some (proper j) → child (x ∷ children) l ≡ Some (proper j)
    further l p =
        let low = child-low (x.0 + 1) children l (proper j) R.1 p in
        ap (λ (t : Bool). cond t (Some x.1) (child children l)) (ne_eqb x.0 l (λ e. omega arith)) ∙ p

    first : x.1 ≡ proper j → child (x ∷ children) x.0 ≡ Some (proper j)
    first is = ap (λ (t : Bool). cond t (Some x.1) (child children x.0)) (eq-eqb x.0 x.0 refl) ∙ ap Some is

    sum : hits j (owned_children (x ∷ children)) ≡ hits j (proper_target x.1) + hits j (owned_children children)
    sum = hits-append j (proper_target x.1) (owned_children children)

    go : (hits j (proper_target x.1) ≡ 0) ⊎ ((hits j (proper_target x.1) ≡ 1) × (x.1 ≡ proper j)) → (hits j (owned_children children) ≡ 0) ⊎ ((hits j (owned_children children) ≡ 1) × ((l : ℕ) × (child children l ≡ Some (proper j)))) → (hits j (owned_children (x ∷ children)) ≡ 0) ⊎ ((hits j (owned_children (x ∷ children)) ≡ 1) × ((l : ℕ) × (child (x ∷ children) l ≡ Some (proper j))))
    go (inl a) (inl r) = inl (sum ∙ omega (arith, a, r))
    go (inl a) (inr r) = inr (sum ∙ omega (arith, a, r.0), (r.1.0, further r.1.0 r.1.1))
    go (inr a) (inl r) = inr (sum ∙ omega (arith, a.0, r), (x.0, first a.1))
    go (inr a) (inr r) =
        let e = same x.0 r.1.0 (first a.1) (further r.1.0 r.1.1) in
        let low = child-low (x.0 + 1) children r.1.0 (proper j) R.1 r.1.1 in
        absurd (omega arith)

content_hits : (j : ℕ) (content : Option Link) → (hits j (owned_content content) ≡ 0) ⊎ ((hits j (owned_content content) ≡ 1) × (content ≡ Some (proper j)))
content_hits j None = inl refl
content_hits j (Some l) = go (target_hits j l)
  where
    go : (hits j (proper_target l) ≡ 0) ⊎ ((hits j (proper_target l) ≡ 1) × (l ≡ proper j)) → (hits j (proper_target l) ≡ 0) ⊎ ((hits j (proper_target l) ≡ 1) × (Some l ≡ Some (proper j)))
    go (inl a) = inl a
    go (inr a) = inr (a.0, ap Some a.1)

-- the number of a slot stands once among those that a slot owns, with the step that leads to it, or not at all
pub slot_hits : (j : ℕ) (s : Slot) → IsRising (children_of s) → ((e f : Step) → link s e ≡ Some (proper j) → link s f ≡ Some (proper j) → e ≡ f) → (hits j (owned_by s) ≡ 0) ⊎ ((hits j (owned_by s) ≡ 1) × ((e : Step) × (link s e ≡ Some (proper j))))
slot_hits j (table counts) R same = inl refl
slot_hits j (node children content) R same =
    go (children_hits j 0 (byte_children children) (below-rises 0 256 children (rises children R)) (λ l m p q. label l m (same (down l) (down m) (all l p) (all m q)))) (content_hits j content)
  where
    all : (l : ℕ) → child (byte_children children) l ≡ Some (proper j) → child children l ≡ Some (proper j)
    all l p = child-below 256 0 children l (proper j) (rises children R) p

    label : (l m : ℕ) → down l ≡ down m → l ≡ m
    label l m e = cc

    apart : (l : ℕ) → down l ≡ across → ⊥
    apart l e = cc

    sum : hits j (owned_by (node children content)) ≡ hits j (owned_children (byte_children children)) + hits j (owned_content content)
    sum = hits-append j (owned_children (byte_children children)) (owned_content content)

    go : (hits j (owned_children (byte_children children)) ≡ 0) ⊎ ((hits j (owned_children (byte_children children)) ≡ 1) × ((l : ℕ) × (child (byte_children children) l ≡ Some (proper j)))) → (hits j (owned_content content) ≡ 0) ⊎ ((hits j (owned_content content) ≡ 1) × (content ≡ Some (proper j))) → (hits j (owned_by (node children content)) ≡ 0) ⊎ ((hits j (owned_by (node children content)) ≡ 1) × ((e : Step) × (link (node children content) e ≡ Some (proper j))))
    go (inl a) (inl c) = inl (sum ∙ omega (arith, a, c))
    go (inl a) (inr c) = inr (sum ∙ omega (arith, a, c.0), (across, c.1))
    go (inr a) (inl c) = inr (sum ∙ omega (arith, a.0, c), (down a.1.0, all a.1.0 a.1.1))
    go (inr a) (inr c) = absurd (apart a.1.0 (same (down a.1.0) across (all a.1.0 a.1.1) c.1))

-- the numbers of a list stand there once each, and all are less than n
pub record StandOnce (n : ℕ) (xs : List ℕ) : Type 0 where
  pub once : (j : ℕ) → hits j xs ≤ 1
  pub below : (j : ℕ) → 0 < hits j xs → j < n

-- numbers that stand once each, all less than n, are at most n
none_of : (x : ℕ) (xs : List ℕ) → hits x xs ≡ 0 → AllByRecursion (λ y. eqb x y ≡ false) xs
none_of x [] absent = tt
none_of x (y ∷ xs) absent =
    (ne_eqb x y (λ e. let h : cond {A = ℕ} (eqb y x) 1 0 ≡ 1 = ap (λ (b : Bool). cond {A = ℕ} b 1 0) (eq-eqb y x (sym e)) in omega arith), none_of x xs (omega arith))

distinct : (xs : List ℕ) → ((j : ℕ) → hits j xs ≤ 1) → IsDistinct eqb xs
unfolding IsDistinct
distinct [] once = tt
distinct (x ∷ xs) once =
    let h : cond {A = ℕ} (eqb x x) 1 0 ≡ 1 = ap (λ (b : Bool). cond {A = ℕ} b 1 0) (eq-eqb x x refl) in
    let o = once x in
    (none_of x xs (omega arith), distinct xs (λ j. let p = once j in omega arith))

any_hits : (q : ℕ) (xs : List ℕ) → list_any (eqb q) xs ≡ true → 0 < hits q xs
any_hits q [] is = absurd cc
any_hits q (x ∷ xs) is = go (cases_eq x q) (λ r. any_hits q xs r)
  where
    go : (x ≡ q) ⊎ (x ≡ q → ⊥) → (list_any (eqb q) xs ≡ true → 0 < hits q xs) → 0 < cond {A = ℕ} (eqb x q) 1 0 + hits q xs
    go (inl e) rest = let h : cond {A = ℕ} (eqb x q) 1 0 ≡ 1 = ap (λ (b : Bool). cond {A = ℕ} b 1 0) (eq-eqb x q e) in omega arith
    go (inr n) rest =
        let other : eqb q x ≡ false = ne_eqb q x (λ e. n (sym e)) in
        let r = rest (sym (ap (λ (b : Bool). b || list_any (eqb q) xs) other) ∙ is) in omega arith

pub few_once : (xs : List ℕ) (n : ℕ) → StandOnce n xs → length xs ≤ n
few_once xs n S = length-le_from_distinct_below xs n (distinct xs S.once) (λ q is. S.below q (any_hits q xs is))
