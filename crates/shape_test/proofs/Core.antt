-- From the root to the content: what a slot counts along finest ways is what stands under its address.
use Rattle.std.proofs.Common.{◌≡◌, ℕ, zero, suc, ◌+◌, ◌<◌, ◌≤◌, Bool, true, false, cond, ◌&&◌, eqb, List, [], ◌∷◌, Option, Some, None, is_some, Contains, All, sum_by, refl, sym, ap, ◌∙◌, subst, arith, ap₂, eqb-true, eq-eqb, true≢false, ◌⊎◌, inl, inr}
use Rattle.std.proofs.lemmas.List.Elements.{All-head, All-tail}
use Rattle.std.proofs.lemmas.List.Sums.{sum_by-cons}
use Rattle.cube_view.specs.Walks.{Step, down, across, Walk, SpotPath, Cursor, after_across, then_step, cursor, under, Under, IsCoarser}
use Rattle.cube_view.proofs.FinerWalks.{begun, later_kept, under-some, finer-step, coarser_under, under_before, Contains-cons, Contains-head, Contains-cases}
use Rattle.node_arena.specs.declared.link.Link.{Link}
use Rattle.node_arena.specs.Amounts.{Weighted, spots_in, amount_under}
use Rattle.node_arena.specs.Reach.{count_reached}
use Rattle.node_arena.specs.Slots.{target, Children, Slot, child, link_of, slot_of, reached, children_of}
use Rattle.node_arena.proofs.Labels.{same_down, link_down}
use Rattle.shape_test.specs.Ways.{Way, found, along, count_below, IsFinest, Merges}

-- no label stands twice
abbrev pub IsApart : Children → Type 0
IsApart [] = Unit {0}
IsApart (k ∷ kids) = (child kids k.0 ≡ None) × IsApart kids

-- along finest ways slot i, reached at an address, counts the amounts of h
abbrev pub Tells : List Slot → List Weighted → ℕ → Walk → ℕ → List ℕ → Type 0
Tells slots h i a n later = (way : Way) → IsFinest n later way → (bin : ℕ) → count_below slots i way bin ≡ amount_under h (along a way) bin

-- what the slots have: how many levels each has left, and that children have one less; their labels are apart; and
-- contents merge
pub record IsMerged (slots : List Slot) (Left : ℕ → ℕ → List ℕ → Type 0) : Type 0 where
  pub goes_down : (i n l : ℕ) (later : List ℕ) (k : Link) → Left i (suc n) later → link_of slots i (down l) ≡ Some k → Left (target k) n later
  pub apart : (i : ℕ) → IsApart (children_of (slot_of slots i))
  pub merges : (i n m : ℕ) (later : List ℕ) → Left i (suc n) (m ∷ later) → (way : Way) → IsFinest m later way → (bin : ℕ) → Merges slots i way bin

-- a spot of the list goes on from each address with so many levels left by a finest way of its own
abbrev pub HasWays : List Weighted → (Walk → ℕ → List ℕ → Type 0) → Type 0
HasWays h At = (a : Walk) (n : ℕ) (later : List ℕ) → At a n later → (q : SpotPath) → Contains (spots_in h) q → Under q a → (way : Way) × IsFinest n later way × Under q (along a way)

-- each amount is one
abbrev pub HasAmounts : List Weighted → Type 0
HasAmounts h = All (λ (w : Weighted). 0 < w.amount) h

-- a way that no slot begins finds nothing
pub found-none : (slots : List Slot) (way : Way) (bin : ℕ) → count_reached slots (found slots None way) bin ≡ 0
found-none slots [] bin = refl
found-none slots (e ∷ way) bin = found-none slots way bin

-- the first step of a way
pub step_first : (slots : List Slot) (i : ℕ) (e : Step) (k : Link) (way : Way) (bin : ℕ) → link_of slots i e ≡ Some k → count_below slots i (e ∷ way) bin ≡ count_below slots (target k) way bin
step_first slots i e k way bin h = ap (λ (o : Option Link). count_reached slots (found slots (reached o) way) bin) h

pub no_step : (slots : List Slot) (i : ℕ) (e : Step) (way : Way) (bin : ℕ) → link_of slots i e ≡ None → count_below slots i (e ∷ way) bin ≡ 0
no_step slots i e way bin h = ap (λ (o : Option Link). count_reached slots (found slots (reached o) way) bin) h ∙ found-none slots way bin

-- addresses along one way
pub along_same : (q : SpotPath) (a b : Walk) (way : Way) → cursor q a ≡ cursor q b → cursor q (along a way) ≡ cursor q (along b way)
along_same q a b [] h = h
along_same q a b (e ∷ way) h = along_same q (e ∷ a) (e ∷ b) way (ap (λ (o : Option Cursor). then_step o e) h)

pub along_none : (q : SpotPath) (a : Walk) (way : Way) → cursor q a ≡ None → under q (along a way) ≡ false
along_none q a [] h = ap is_some h
along_none q a (e ∷ way) h = along_none q (e ∷ a) way (ap (λ (o : Option Cursor). then_step o e) h)

pub under_along : (q : SpotPath) (a : Walk) (way : Way) → Under q (along a way) → Under q a
under_along q a [] h = h
under_along q a (e ∷ way) h = under_before q e a (under_along q (e ∷ a) way h)

pub finer_along : (a b : Walk) (way : Way) → IsCoarser a b → IsCoarser (along a way) (along b way)
finer_along a b [] f = f
finer_along a b (e ∷ way) f = finer_along (e ∷ a) (e ∷ b) way (finer-step f e)

-- not under an address
pub not_under : (q : SpotPath) (a : Walk) → (Under q a → ⊥) → cursor q a ≡ None
not_under q a n = go (cursor q a) n
  where
    go : (o : Option Cursor) → (is_some o ≡ true → ⊥) → o ≡ None
    go None n = refl
    go (Some c) n = absurd (n refl)

-- a step down keeps what lies across
pub down_across : (q : SpotPath) (l : ℕ) (a : Walk) → Under q (down l ∷ a) → cursor q (across ∷ down l ∷ a) ≡ cursor q (across ∷ a)
down_across q l a u =
    let s = under-some q (down l ∷ a) u in
    let b = begun (cursor q a) (down l) s.0 s.1 in
    let k : b.0.later ≡ s.0.later = later_kept l b.0.rest b.0.later s.0 b.2 in
    ap (λ (o : Option Cursor). then_step o across) s.1 ∙ (ap after_across (sym k) ∙ sym (ap (λ (o : Option Cursor). then_step o across) b.1))

-- sums
pub sum_two : {X : Type 0} (f g : X → ℕ) (xs : List X) → sum_by (λ x. f x + g x) xs ≡ sum_by f xs + sum_by g xs
sum_two f g [] = refl
sum_two f g (x ∷ xs) =
    let a = sum_by-cons (λ x. f x + g x) x xs in let b = sum_by-cons f x xs in let c = sum_by-cons g x xs in
    let r = sum_two f g xs in omega (arith, a, b, c, r)

-- the child at another label gives nothing to the sum
other_kid : (f : ℕ → ℕ) (l : ℕ) (k : ℕ × Link) (kids : List (ℕ × Link)) → eqb k.0 l ≡ false → ((m : ℕ) → (m ≡ l → ⊥) → f m ≡ 0) → sum_by (λ (k : ℕ × Link). f k.0) (k ∷ kids) ≡ sum_by (λ (k : ℕ × Link). f k.0) kids
other_kid f l k kids e z =
    let a = sum_by-cons (λ (k : ℕ × Link). f k.0) k kids in
    let s : f k.0 ≡ 0 = z k.0 (λ w. true≢false (sym (eq-eqb k.0 l w) ∙ e)) in
    omega (arith, a, s)

-- where the labels are apart, one child alone gives to the sum
pub no_kid : (f : ℕ → ℕ) (l : ℕ) (kids : List (ℕ × Link)) → child kids l ≡ None → ((m : ℕ) → (m ≡ l → ⊥) → f m ≡ 0) → sum_by (λ (k : ℕ × Link). f k.0) kids ≡ 0
no_kid f l [] h z = refl
no_kid f l (k ∷ kids) h z = go (eqb k.0 l) refl h (λ x. no_kid f l kids x z)
  where
    go : (b : Bool) → eqb k.0 l ≡ b → cond b (Some k.1) (child kids l) ≡ None → (child kids l ≡ None → sum_by (λ (k : ℕ × Link). f k.0) kids ≡ 0) → sum_by (λ (k : ℕ × Link). f k.0) (k ∷ kids) ≡ 0
    go true e x rest = absurd cc
    go false e x rest = other_kid f l k kids e z ∙ rest x

pub one_kid : (f : ℕ → ℕ) (l : ℕ) (t : Link) (kids : List (ℕ × Link)) → IsApart kids → child kids l ≡ Some t → ((m : ℕ) → (m ≡ l → ⊥) → f m ≡ 0) → sum_by (λ (k : ℕ × Link). f k.0) kids ≡ f l
one_kid f l t [] A h z = absurd cc
one_kid f l t (k ∷ kids) A h z = go (eqb k.0 l) refl h (λ x. one_kid f l t kids A.1 x z)
  where
    go : (b : Bool) → eqb k.0 l ≡ b → cond b (Some k.1) (child kids l) ≡ Some t → (child kids l ≡ Some t → sum_by (λ (k : ℕ × Link). f k.0) kids ≡ f l) → sum_by (λ (k : ℕ × Link). f k.0) (k ∷ kids) ≡ f l
    go true e x rest =
        let same : k.0 ≡ l = eqb-true k.0 l e in
        let a = sum_by-cons (λ (k : ℕ × Link). f k.0) k kids in
        let r = no_kid f l kids (subst (λ m. child kids m ≡ None) same A.0) z in
        let s : f k.0 ≡ f l = ap f same in
        omega (arith, a, r, s)
    go false e x rest = other_kid f l k kids e z ∙ rest x

-- the spots under a, across, are shared by the children
abbrev pub one_under : Weighted → Walk → ℕ → ℕ
one_under w a bin = cond {A = ℕ} (under w.spot a && eqb w.spot.bin bin) w.amount 0

pub amount-cons : (w : Weighted) (h : List Weighted) (a : Walk) (bin : ℕ) → amount_under (w ∷ h) a bin ≡ one_under w a bin + amount_under h a bin
amount-cons w h a bin = sum_by-cons (λ x. one_under x a bin) w h

-- a spot under the address goes down to a child
abbrev pub GoesDown : List (ℕ × Link) → Walk → SpotPath → Type 0
GoesDown kids a q = Under q a → (l : ℕ) × (t : Link) × (child kids l ≡ Some t) × Under q (down l ∷ a)

all_zero : (f : ℕ → ℕ) (kids : List (ℕ × Link)) → ((m : ℕ) → f m ≡ 0) → sum_by (λ (k : ℕ × Link). f k.0) kids ≡ 0
all_zero f [] z = refl
all_zero f (k ∷ kids) z = let a = sum_by-cons (λ (k : ℕ × Link). f k.0) k kids in let r = all_zero f kids z in let s = z k.0 in omega (arith, a, r, s)

one_splits : (kids : List (ℕ × Link)) (a : Walk) (way : Way) (bin : ℕ) (w : Weighted) → IsApart kids → GoesDown kids a w.spot → sum_by (λ (k : ℕ × Link). one_under w (along (across ∷ down k.0 ∷ a) way) bin) kids ≡ one_under w (along (across ∷ a) way) bin
one_splits kids a way bin w A goes = go (under w.spot a) refl
  where
    f : ℕ → ℕ
    f m = one_under w (along (across ∷ down m ∷ a) way) bin

    nothing : (b : Walk) → cursor w.spot b ≡ None → one_under w (along (across ∷ b) way) bin ≡ 0
    nothing b e = ap (λ (u : Bool). cond {A = ℕ} (u && eqb w.spot.bin bin) w.amount 0) (along_none w.spot (across ∷ b) way (ap (λ (o : Option Cursor). then_step o across) e))

    go : (b : Bool) → under w.spot a ≡ b → sum_by (λ (k : ℕ × Link). f k.0) kids ≡ one_under w (along (across ∷ a) way) bin
    go true u =
        let d = goes u in
        one_kid f d.0 d.1 kids A d.2 (λ m ne. nothing (down m ∷ a) (not_under w.spot (down m ∷ a) (λ v. ne (same_down w.spot m d.0 a v d.3))))
        ∙ ap (λ (o : Option Cursor). cond {A = ℕ} (is_some o && eqb w.spot.bin bin) w.amount 0) (along_same w.spot (across ∷ down d.0 ∷ a) (across ∷ a) way (down_across w.spot d.0 a d.3))
    go false u =
        let n : cursor w.spot a ≡ None = not_under w.spot a (λ v. true≢false (sym v ∙ u)) in
        all_zero f kids (λ m. nothing (down m ∷ a) (ap (λ (o : Option Cursor). then_step o (down m)) n)) ∙ sym (nothing a n)

pub splits : (kids : List (ℕ × Link)) (a : Walk) (way : Way) (bin : ℕ) (h : List Weighted) → IsApart kids → ((q : SpotPath) → Contains (spots_in h) q → GoesDown kids a q) → sum_by (λ (k : ℕ × Link). amount_under h (along (across ∷ down k.0 ∷ a) way) bin) kids ≡ amount_under h (along (across ∷ a) way) bin
splits kids a way bin [] A goes = all_zero (λ m. amount_under [] (along (across ∷ down m ∷ a) way) bin) kids (λ m. refl)
splits kids a way bin (w ∷ h) A goes =
    (λ i. sum_by (λ (k : ℕ × Link). amount-cons w h (along (across ∷ down k.0 ∷ a) way) bin i) kids)
    ∙ (sum_two (λ (k : ℕ × Link). one_under w (along (across ∷ down k.0 ∷ a) way) bin) (λ (k : ℕ × Link). amount_under h (along (across ∷ down k.0 ∷ a) way) bin) kids
    ∙ (ap₂ ◌+◌ (one_splits kids a way bin w A (goes w.spot (Contains-head (spots_in h) w.spot))) (splits kids a way bin h A (λ x c. goes x (Contains-cons (spots_in h) w.spot x c)))
    ∙ sym (amount-cons w h (along (across ∷ a) way) bin)))

-- an amount is counted where it lies
own_amount : (w : Weighted) (a : Walk) → Under w.spot a → one_under w a w.spot.bin ≡ w.amount
own_amount w a u = ap₂ (λ (x y : Bool). cond {A = ℕ} (x && y) w.amount 0) u (eq-eqb w.spot.bin w.spot.bin refl)

pub counted : (q : SpotPath) (a : Walk) (h : List Weighted) → HasAmounts h → Contains (spots_in h) q → Under q a → 0 < amount_under h a q.bin
counted q a [] A c u = absurd (omega (arith, c.1))
counted q a (x ∷ h) A c u = go (Contains-cases (spots_in h) x.spot q c) (λ d. counted q a h (All-tail (λ (w : Weighted). 0 < w.amount) x h A) d u)
  where
    go : (x.spot ≡ q) ⊎ Contains (spots_in h) q → (Contains (spots_in h) q → 0 < amount_under h a q.bin) → 0 < amount_under (x ∷ h) a q.bin
    go (inl e) rest =
        let s = amount-cons x h a x.spot.bin in
        let p = own_amount x a (subst (λ z. Under z a) (sym e) u) in
        let some : 0 < x.amount = All-head (λ (w : Weighted). 0 < w.amount) x h A in
        let r : 0 < amount_under (x ∷ h) a x.spot.bin = omega (arith, s, p, some) in
        subst (λ (z : SpotPath). 0 < amount_under (x ∷ h) a z.bin) e r
    go (inr d) rest = let s = amount-cons x h a q.bin in let r = rest d in omega (arith, s, r)

pub absent : (h : List Weighted) (a : Walk) (bin : ℕ) → ((q : SpotPath) → Contains (spots_in h) q → Under q a → ⊥) → amount_under h a bin ≡ 0
absent [] a bin n = refl
absent (x ∷ h) a bin n =
    let s = amount-cons x h a bin in
    let r = absent h a bin (λ q c. n q (Contains-cons (spots_in h) x.spot q c)) in
    let o = zero_one (under x.spot a) refl in
    omega (arith, s, r, o)
  where
    zero_one : (u : Bool) → under x.spot a ≡ u → one_under x a bin ≡ 0
    zero_one true e = absurd (n x.spot (Contains-head (spots_in h) x.spot) e)
    zero_one false e = ap (λ (z : Bool). cond {A = ℕ} (z && eqb x.spot.bin bin) x.amount 0) e

-- what slot i tells, its children tell ..
pub down_tells : (slots : List Slot) (h : List Weighted) (i : ℕ) (a : Walk) (n : ℕ) (later : List ℕ) (l : ℕ) (k : Link) → link_of slots i (down l) ≡ Some k → Tells slots h i a (suc n) later → Tells slots h (target k) (down l ∷ a) n later
down_tells slots h i a n later l k e T way f bin = sym (step_first slots i (down l) k way bin e) ∙ T (down l ∷ way) (n, refl, f) bin

-- a way with a count begins with a link
pub begins : (slots : List Slot) (i : ℕ) (e : Step) (way : Way) (bin : ℕ) → 0 < count_below slots i (e ∷ way) bin → (k : Link) × (link_of slots i e ≡ Some k)
begins slots i e way bin some = go (link_of slots i e) refl
  where
    go : (o : Option Link) → link_of slots i e ≡ o → (k : Link) × (link_of slots i e ≡ Some k)
    go None x = let z = no_step slots i e way bin x in absurd (omega (arith, some, z))
    go (Some k) x = (k, x)

module _ (slots : List Slot) (h : List Weighted) (Left : ℕ → ℕ → List ℕ → Type 0) (At : Walk → ℕ → List ℕ → Type 0) (heavy : HasAmounts h) (M : IsMerged slots Left) (W : HasWays h At) (at_down : (a : Walk) (n l : ℕ) (later : List ℕ) → At a (suc n) later → At (down l ∷ a) n later) where
  -- a spot under a node's address goes down to one of its children
  goes : (i : ℕ) (a : Walk) (n : ℕ) (later : List ℕ) → At a (suc n) later → Tells slots h i a (suc n) later → (q : SpotPath) → Contains (spots_in h) q → GoesDown (children_of (slot_of slots i)) a q
  goes i a n later at T q c u =
      let w = W a (suc n) later at q c u in go w.0 w.1 w.2
    where
      go : (way : Way) → IsFinest (suc n) later way → Under q (along a way) → (l : ℕ) × (t : Link) × (child (children_of (slot_of slots i)) l ≡ Some t) × Under q (down l ∷ a)
      go [] f v = let x = f.0 in absurd cc
      go (across ∷ way) f v = let x = f.2 in absurd cc
      go (down l ∷ way) f v =
          let some = counted q (along a (down l ∷ way)) h heavy c v in
          let t = T (down l ∷ way) f q.bin in
          let k = begins slots i (down l) way q.bin (omega (arith, some, t)) in
          (l, k.0, sym (link_down (slot_of slots i) l) ∙ k.1, under_along q (down l ∷ a) way v)

  -- .. and so does its content
  pub across_tells : (n i : ℕ) (a : Walk) (m : ℕ) (later : List ℕ) → Left i n (m ∷ later) → At a n (m ∷ later) → Tells slots h i a n (m ∷ later) → (way : Way) → IsFinest m later way → (bin : ℕ) → count_below slots i (across ∷ way) bin ≡ amount_under h (along (across ∷ a) way) bin
  across_tells zero i a m later left at T way f bin = T (across ∷ way) (m, later, refl, refl, f) bin
  across_tells (suc n) i a m later left at T way f bin =
      M.merges i n m later left way f bin
      ∙ (each (children_of (slot_of slots i)) (λ l k e. step_first slots i (down l) k (across ∷ way) bin e ∙ across_tells n (target k) (down l ∷ a) m later (M.goes_down i n l (m ∷ later) k left e) (at_down a n l (m ∷ later) at) (down_tells slots h i a n (m ∷ later) l k e T) way f bin)
      ∙ splits (children_of (slot_of slots i)) a way bin h (M.apart i) (goes i a n (m ∷ later) at T))
    where
      none : (l : ℕ) → link_of slots i (down l) ≡ None → amount_under h (along (across ∷ down l ∷ a) way) bin ≡ 0
      none l e = absent h (along (across ∷ down l ∷ a) way) bin (λ q c u. missing q c (under_before q across (down l ∷ a) (under_along q (across ∷ down l ∷ a) way u)))
        where
          missing : (q : SpotPath) → Contains (spots_in h) q → Under q (down l ∷ a) → ⊥
          missing q c u =
              let d = goes i a n (m ∷ later) at T q c (under_before q (down l) a u) in
              let s : d.0 ≡ l = same_down q d.0 l a d.3 u in
              let k : link_of slots i (down l) ≡ Some d.1 = subst (λ x. link_of slots i (down x) ≡ Some d.1) s (link_down (slot_of slots i) d.0 ∙ d.2) in
              let z : None ≡ Some d.1 = sym e ∙ k in absurd cc

      each : (kids : List (ℕ × Link)) → ((l : ℕ) (k : Link) → link_of slots i (down l) ≡ Some k → count_below slots i (down l ∷ across ∷ way) bin ≡ amount_under h (along (across ∷ down l ∷ a) way) bin) → sum_by (λ (k : ℕ × Link). count_below slots i (down k.0 ∷ across ∷ way) bin) kids ≡ sum_by (λ (k : ℕ × Link). amount_under h (along (across ∷ down k.0 ∷ a) way) bin) kids
      each kids same = λ s. sum_by (λ (k : ℕ × Link). pick k.0 (link_of slots i (down k.0)) refl s) kids
        where
          pick : (l : ℕ) (o : Option Link) → link_of slots i (down l) ≡ o → count_below slots i (down l ∷ across ∷ way) bin ≡ amount_under h (along (across ∷ down l ∷ a) way) bin
          pick l (Some k) e = same l k e
          pick l None e = no_step slots i (down l) (across ∷ way) bin e ∙ sym (none l e)

-- less lies under the finer address
one_less : (x : Weighted) (a b : Walk) (bin : ℕ) → ((q : SpotPath) → Under q b → Under q a) → one_under x b bin ≤ one_under x a bin
one_less x a b bin le = go (under x.spot b) refl
  where
    go : (u : Bool) → under x.spot b ≡ u → one_under x b bin ≤ one_under x a bin
    go false e = let w : one_under x b bin ≡ 0 = ap (λ (z : Bool). cond {A = ℕ} (z && eqb x.spot.bin bin) x.amount 0) e in omega (arith, w)
    go true e =
        let v : one_under x a bin ≡ one_under x b bin = ap (λ (z : Bool). cond {A = ℕ} (z && eqb x.spot.bin bin) x.amount 0) (le x.spot e ∙ sym e) in
        omega (arith, v)

more : (h : List Weighted) (a b : Walk) (bin : ℕ) → ((q : SpotPath) → Under q b → Under q a) → amount_under h b bin ≤ amount_under h a bin
more [] a b bin le = omega arith
more (x ∷ h) a b bin le =
    let s = amount-cons x h a bin in let t = amount-cons x h b bin in let r = more h a b bin le in
    let o = one_less x a b bin le in omega (arith, s, t, r, o)

fewer : (h : List Weighted) (a b : Walk) (q : SpotPath) → HasAmounts h → ((x : SpotPath) → Under x b → Under x a) → Contains (spots_in h) q → Under q a → under q b ≡ false → amount_under h b q.bin < amount_under h a q.bin
fewer [] a b q A le c u n = absurd (omega (arith, c.1))
fewer (x ∷ h) a b q A le c u n = go (Contains-cases (spots_in h) x.spot q c) (λ d. fewer h a b q (All-tail (λ (w : Weighted). 0 < w.amount) x h A) le d u n)
  where
    go : (x.spot ≡ q) ⊎ Contains (spots_in h) q → (Contains (spots_in h) q → amount_under h b q.bin < amount_under h a q.bin) → amount_under (x ∷ h) b q.bin < amount_under (x ∷ h) a q.bin
    go (inl e) rest =
        let s = amount-cons x h a x.spot.bin in let t = amount-cons x h b x.spot.bin in let r = more h a b x.spot.bin le in
        let o = own_amount x a (subst (λ z. Under z a) (sym e) u) in
        let z : one_under x b x.spot.bin ≡ 0 = ap (λ (v : Bool). cond {A = ℕ} (v && eqb x.spot.bin x.spot.bin) x.amount 0) (ap (λ (y : SpotPath). under y b) e ∙ n) in
        let some : 0 < x.amount = All-head (λ (w : Weighted). 0 < w.amount) x h A in
        let less : amount_under (x ∷ h) b x.spot.bin < amount_under (x ∷ h) a x.spot.bin = omega (arith, s, t, r, o, z, some) in
        subst (λ (y : SpotPath). amount_under (x ∷ h) b y.bin < amount_under (x ∷ h) a y.bin) e less
    go (inr d) rest =
        let s = amount-cons x h a q.bin in let t = amount-cons x h b q.bin in let r = rest d in
        let o = one_less x a b q.bin le in
        omega (arith, s, t, r, o)

-- a slot that tells at an address and at a finer one: what lies under the first lies under the second
pub agrees : (slots : List Slot) (h : List Weighted) (At : Walk → ℕ → List ℕ → Type 0) → HasAmounts h → HasWays h At → (j : ℕ) (a b : Walk) (n : ℕ) (later : List ℕ) → At a n later → IsCoarser a b → Tells slots h j a n later → Tells slots h j b n later → (q : SpotPath) → Contains (spots_in h) q → Under q a → Under q b
agrees slots h At heavy W j a b n later at f Ta Tb q c u =
    let w = W a n later at q c u in go w.0 w.1 w.2
  where
    go : (way : Way) → IsFinest n later way → Under q (along a way) → Under q b
    go way g v = pick (under q (along b way)) refl
      where
        pick : (x : Bool) → under q (along b way) ≡ x → Under q b
        pick true e = under_along q b way e
        pick false e =
            let s : amount_under h (along a way) q.bin ≡ amount_under h (along b way) q.bin = sym (Ta way g q.bin) ∙ Tb way g q.bin in
            let l = fewer h (along a way) (along b way) q heavy (λ x y. coarser_under (finer_along a b way f) x y) c v e in
            absurd (omega (arith, s, l))
