-- In a shape one proper link leads to each slot but the root.
use Rattle.std.proofs.Common.{◌≡◌, ℕ, zero, suc, ◌+◌, ◌<◌, ◌≤◌, Bool, true, false, cond, not, ◌&&◌, eqb, ◌⊎◌, inl, inr, List, [], ◌∷◌, Option, Some, None, sum_by, length, get_or, refl, sym, ap, ◌∙◌, subst, arith, ap₂, eqb-true, eq-eqb, ne_eqb, true≢false}
use Rattle.std.proofs.lemmas.List.Sums.{sum_by-cons}
use Rattle.std.proofs.lemmas.Bool.{cases_eq, cases_lt}
use Rattle.node_arena.specs.declared.link.Link.{Link}
use Rattle.cube_view.specs.Walks.{Step, down, across, Walk}
use Rattle.node_arena.specs.Slots.{proper, shared, target, Children, IsRising, Slot, node, table, empty_node, is_table, children_of, child, link, slot_of, link_of}
use Rattle.node_arena.specs.Shape.{home_of, HasHomes}
use Rattle.node_arena.specs.Stats.{is_proper, children_that, content_that, links_that, node_count, table_count, proper_count, AllRising, TellsLinks}
use Rattle.node_arena.proofs.Links.{link_cases, linked-lt}
use Rattle.node_arena.proofs.Walks.{target-lt}

-- the sum of f over the numbers below n
abbrev sum_to : (ℕ → ℕ) → ℕ → ℕ
sum_to f zero = 0
sum_to f (suc n) = sum_to f n + f n

sum_to-add : (f g : ℕ → ℕ) (n : ℕ) → sum_to (λ j. f j + g j) n ≡ sum_to f n + sum_to g n
sum_to-add f g zero = refl
sum_to-add f g (suc n) = omega (arith, sum_to-add f g n)

sum_to-same : (f g : ℕ → ℕ) (n : ℕ) → ((j : ℕ) → j < n → f j ≡ g j) → sum_to f n ≡ sum_to g n
sum_to-same f g zero same = refl
sum_to-same f g (suc n) same = ap₂ ◌+◌ (sum_to-same f g n (λ j l. same j (omega arith))) (same n (omega arith))

sum_to-none : (n : ℕ) → sum_to (λ j. 0) n ≡ 0
sum_to-none zero = refl
sum_to-none (suc n) = omega (arith, sum_to-none n)

sum_to-ones : (f : ℕ → ℕ) (n : ℕ) → f 0 ≡ 0 → ((j : ℕ) → 0 < j → j < suc n → f j ≡ 1) → sum_to f (suc n) ≡ n
sum_to-ones f zero none one = omega (arith, none)
sum_to-ones f (suc n) none one = let r = sum_to-ones f n none (λ j p l. one j p (omega arith)) in let o = one (suc n) (omega arith) (omega arith) in omega arith

-- a number below n is one of them
missed : (t n : ℕ) → n ≤ t → sum_to (λ j. cond (eqb t j) 1 0) n ≡ 0
missed t zero l = refl
missed t (suc n) l =
    let r = missed t n (omega arith) in
    let e : cond {A = ℕ} (eqb t n) 1 0 ≡ 0 = ap (λ (b : Bool). cond {A = ℕ} b 1 0) (ne_eqb t n (λ z. omega arith)) in
    omega arith

met : (t n : ℕ) → t < n → sum_to (λ j. cond (eqb t j) 1 0) n ≡ 1
met t zero l = absurd (omega arith)
met t (suc n) l = go (cases_eq t n) (λ k. met t n k)
  where
    go : (t ≡ n) ⊎ (t ≡ n → ⊥) → (t < n → sum_to (λ j. cond (eqb t j) 1 0) n ≡ 1) → sum_to (λ j. cond (eqb t j) 1 0) (suc n) ≡ 1
    go (inl e) f =
        let r = missed t n (omega arith) in
        let h : cond {A = ℕ} (eqb t n) 1 0 ≡ 1 = ap (λ (b : Bool). cond {A = ℕ} b 1 0) (eq-eqb t n e) in
        omega arith
    go (inr d) f =
        let r = f (omega arith) in
        let h : cond {A = ℕ} (eqb t n) 1 0 ≡ 0 = ap (λ (b : Bool). cond {A = ℕ} b 1 0) (ne_eqb t n d) in
        omega arith

-- a proper link to j
abbrev is_to : ℕ → Link → Bool
is_to j l = is_proper l && eqb (target l) j

to_is : (j : ℕ) (l : Link) → is_to j l ≡ true → l ≡ proper j
to_is j l h = go (link_cases l)
  where
    go : (l ≡ proper (target l)) ⊎ (l ≡ shared (target l)) → l ≡ proper j
    go (inl p) =
        let t : eqb (target l) j ≡ true = sym (ap (λ (k : Link). is_proper k && eqb (target l) j) p) ∙ h in
        p ∙ ap proper (eqb-true (target l) j t)
    go (inr s) = absurd (true≢false (sym h ∙ ap (λ (k : Link). is_proper k && eqb (target l) j) s))

is_to-proper : (j : ℕ) (l : Link) → l ≡ proper j → is_to j l ≡ true
is_to-proper j l e = ap (is_to j) e ∙ eq-eqb j j refl

-- a link is proper to one of the numbers below n, if it is proper
single : (l : Link) (n : ℕ) → (is_proper l ≡ true → target l < n) → cond (is_proper l) 1 0 ≡ sum_to (λ j. cond (is_to j l) 1 0) n
single l n within = go (is_proper l) within
  where
    go : (b : Bool) → (b ≡ true → target l < n) → cond b 1 0 ≡ sum_to (λ j. cond (b && eqb (target l) j) 1 0) n
    go true w = sym (met (target l) n (w refl))
    go false w = sym (sum_to-none n)

-- sums over a list, item by item
split_sum : {A : Type 0} (f : A → ℕ) (g : ℕ → A → ℕ) (n : ℕ) (xs : List A) → ((i : ℕ) (d : A) → i < length xs → f (get_or xs i d) ≡ sum_to (λ j. g j (get_or xs i d)) n) → sum_by f xs ≡ sum_to (λ j. sum_by (g j) xs) n
split_sum f g n [] each = sym (sum_to-none n)
split_sum f g n (x ∷ xs) each =
    sum_by-cons f x xs
    ∙ (ap₂ ◌+◌ (each 0 x (omega arith)) (split_sum f g n xs (λ i d l. each (suc i) d (omega arith)))
    ∙ (sym (sum_to-add (λ j. g j x) (λ j. sum_by (g j) xs) n)
    ∙ sum_to-same (λ j. g j x + sum_by (g j) xs) (λ j. sum_by (g j) (x ∷ xs)) n (λ j l. sym (sum_by-cons (g j) x xs))))

sum_none : {A : Type 0} (f : A → ℕ) (xs : List A) → ((i : ℕ) (d : A) → i < length xs → f (get_or xs i d) ≡ 0) → sum_by f xs ≡ 0
sum_none f [] each = refl
sum_none f (x ∷ xs) each =
    let a = each 0 x (omega arith) in
    let r = sum_none f xs (λ i d l. each (suc i) d (omega arith)) in
    sum_by-cons f x xs ∙ omega arith

sum_one : {A : Type 0} (f : A → ℕ) (xs : List A) (m : ℕ) → m < length xs → ((d : A) → f (get_or xs m d) ≡ 1) → ((i : ℕ) (d : A) → i < length xs → (i ≡ m → ⊥) → f (get_or xs i d) ≡ 0) → sum_by f xs ≡ 1
sum_one f [] m l one none = absurd (omega arith)
sum_one f (x ∷ xs) zero l one none =
    let a = one x in
    let r = sum_none f xs (λ i d w. none (suc i) d (omega arith) (λ e. omega arith)) in
    sum_by-cons f x xs ∙ omega arith
sum_one f (x ∷ xs) (suc m) l one none =
    let a = none 0 x (omega arith) (λ e. omega arith) in
    let r = sum_one f xs m (omega arith) one (λ i d w n. none (suc i) d (omega arith) (λ e. n (omega arith))) in
    sum_by-cons f x xs ∙ omega arith

-- each child is the child of its label
found_each : (children : Children) → IsRising children → (i : ℕ) (d : ℕ × Link) → i < length children → child children (get_or children i d).0 ≡ Some (get_or children i d).1
found_each [] R i d l = absurd (omega arith)
found_each (x ∷ children) R zero d l = ap (λ (b : Bool). cond b (Some x.1) (child children x.0)) (eq-eqb x.0 x.0 refl)
found_each (x ∷ children) R (suc i) d l =
    let less = R 0 (suc i) d (omega arith) l in
    ap (λ (b : Bool). cond b (Some x.1) (child children (get_or children i d).0)) (ne_eqb x.0 (get_or children i d).0 (λ e. omega arith))
    ∙ found_each children (λ a b c u v. R (suc a) (suc b) c (omega arith) (omega arith)) i d (omega arith)

-- and a label's child stands somewhere
child_stands : (children : Children) (l : ℕ) (k : Link) → child children l ≡ Some k → (i : ℕ) × (i < length children) × ((d : ℕ × Link) → get_or children i d ≡ (l, k))
child_stands [] l k e = absurd cc
child_stands (x ∷ children) l k e = go (eqb x.0 l) refl e (λ r. child_stands children l k r)
  where
    go : (b : Bool) → eqb x.0 l ≡ b → cond b (Some x.1) (child children l) ≡ Some k → (child children l ≡ Some k → (i : ℕ) × (i < length children) × ((d : ℕ × Link) → get_or children i d ≡ (l, k))) → (i : ℕ) × (i < length (x ∷ children)) × ((d : ℕ × Link) → get_or (x ∷ children) i d ≡ (l, k))
    go true h r f = let s : x.1 ≡ k = cc in (0, omega arith, λ d. ap₂ (λ (a : ℕ) (b : Link). (a, b)) (eqb-true x.0 l h) s)
    go false h r f = let w = f r in (suc w.0, let v = w.1 in omega arith, w.2)

same_label : (children : Children) → IsRising children → (i m : ℕ) (d : ℕ × Link) → i < length children → m < length children → (get_or children i d).0 ≡ (get_or children m d).0 → i ≡ m
same_label children R i m d a b e = go (cases_lt i m) (cases_lt m i)
  where
    go : (i < m) ⊎ (m ≤ i) → (m < i) ⊎ (i ≤ m) → i ≡ m
    go (inl x) y = let r = R i m d x b in absurd (omega arith)
    go (inr x) (inl y) = let r = R m i d y a in absurd (omega arith)
    go (inr x) (inr y) = omega arith

-- a slot's links, by where they lead
slot_split : (s : Slot) (n : ℕ) → IsRising (children_of s) → ((e : Step) (l : Link) → link s e ≡ Some l → target l < n) → links_that is_proper s ≡ sum_to (λ j. links_that (is_to j) s) n
slot_split (table counts) n R within = sym (sum_to-none n)
slot_split (node children content) n R within =
    ap₂ ◌+◌ (split_sum (λ (k : ℕ × Link). cond (is_proper k.1) 1 0) (λ j (k : ℕ × Link). cond (is_to j k.1) 1 0) n children (λ i d l. single (get_or children i d).1 n (λ p. within (down (get_or children i d).0) (get_or children i d).1 (found_each children R i d l)))) (contents content (λ l e. within across l e))
    ∙ sym (sum_to-add (λ j. children_that (is_to j) children) (λ j. content_that (is_to j) content) n)
  where
    contents : (c : Option Link) → ((l : Link) → c ≡ Some l → target l < n) → content_that is_proper c ≡ sum_to (λ j. content_that (is_to j) c) n
    contents None w = sym (sum_to-none n)
    contents (Some l) w = single l n (λ p. w l refl)

-- a link that does not lead properly to j does not count
not_to : (j : ℕ) (l : Link) → (l ≡ proper j → ⊥) → cond {A = ℕ} (is_to j l) 1 0 ≡ 0
not_to j l n = go (is_to j l) refl
  where
    go : (b : Bool) → is_to j l ≡ b → cond {A = ℕ} b 1 0 ≡ 0
    go true h = absurd (n (to_is j l h))
    go false h = refl

-- nor does a content that is not such a link
content_none : (j : ℕ) (c : Option Link) → (c ≡ Some (proper j) → ⊥) → content_that (is_to j) c ≡ 0
content_none j None n = refl
content_none j (Some l) n = not_to j l (λ e. n (ap Some e))

-- no link of the slot leads properly to j
slot_none : (j : ℕ) (s : Slot) → IsRising (children_of s) → ((e : Step) → link s e ≡ Some (proper j) → ⊥) → links_that (is_to j) s ≡ 0
slot_none j (table counts) R none = refl
slot_none j (node children content) R none =
    ap₂ ◌+◌ (sum_none (λ (k : ℕ × Link). cond (is_to j k.1) 1 0) children (λ i d l. not_to j (get_or children i d).1 (λ e. none (down (get_or children i d).0) (found_each children R i d l ∙ ap Some e)))) (content_none j content (λ e. none across e))

-- one link of the slot leads properly to j
slot_one : (j : ℕ) (s : Slot) (e : Step) → IsRising (children_of s) → link s e ≡ Some (proper j) → ((f : Step) → link s f ≡ Some (proper j) → f ≡ e) → links_that (is_to j) s ≡ 1
slot_one j (table counts) e R is only = absurd cc
slot_one j (node children content) across R is only =
    ap₂ ◌+◌ (sum_none (λ (k : ℕ × Link). cond (is_to j k.1) 1 0) children (λ i d l. not_to j (get_or children i d).1 (λ e. let z = only (down (get_or children i d).0) (found_each children R i d l ∙ ap Some e) in let w : ⊥ = cc in w)))
    (ap (content_that (is_to j)) is ∙ ap (λ (b : Bool). cond {A = ℕ} b 1 0) (is_to-proper j (proper j) refl))
slot_one j (node children content) (down l) R is only =
    ap₂ ◌+◌ (sum_one (λ (k : ℕ × Link). cond (is_to j k.1) 1 0) children at.0 at.1 (λ d. ap (λ (k : ℕ × Link). cond (is_to j k.1) 1 0) (at.2 d) ∙ ap (λ (b : Bool). cond {A = ℕ} b 1 0) (is_to-proper j (proper j) refl)) (λ i d w n. not_to j (get_or children i d).1 (λ e. n (other i d w e)))) (content_none j content (λ e. let z = only across e in let w : ⊥ = cc in w))
  where
    at : (i : ℕ) × (i < length children) × ((d : ℕ × Link) → get_or children i d ≡ (l, proper j))
    at = child_stands children l (proper j) is

    other : (i : ℕ) (d : ℕ × Link) → i < length children → (get_or children i d).1 ≡ proper j → i ≡ at.0
    other i d w e =
        let z = only (down (get_or children i d).0) (found_each children R i d w ∙ ap Some e) in
        let y : (get_or children i d).0 ≡ l = cc in
        same_label children R i at.0 d w at.1 (y ∙ sym (ap (λ (k : ℕ × Link). k.0) (at.2 d)))

-- a slot has one proper link at most
one_owner : (slots : List Slot) (homes : List Walk) → HasHomes slots homes → (i k j : ℕ) (e f : Step) → link_of slots i e ≡ Some (proper j) → link_of slots k f ≡ Some (proper j) → (i ≡ k) × (e ≡ f)
one_owner slots homes H i k j e f a b =
    let s : e ∷ home_of homes i ≡ f ∷ home_of homes k = sym (H.at_home i j e a).1 ∙ (H.at_home k j f b).1 in
    let h : home_of homes i ≡ home_of homes k = cc in
    let g : e ≡ f = cc in
    (H.distinct i k (linked-lt slots i e (proper j) a) (linked-lt slots k f (proper j) b) h, g)

-- an item within the list is the same at each default
same_slot : (slots : List Slot) (i : ℕ) (d : Slot) → i < length slots → get_or slots i d ≡ slot_of slots i
same_slot [] i d l = absurd (omega arith)
same_slot (s ∷ slots) zero d l = refl
same_slot (s ∷ slots) (suc i) d l = same_slot slots i d (omega arith)

module _ (slots : List Slot) (homes : List Walk) (H : HasHomes slots homes) (R : AllRising slots) where
  -- how many proper links lead to j
  to_slot : ℕ → ℕ
  to_slot j = sum_by (links_that (is_to j)) slots

  rising_at : (i : ℕ) → i < length slots → IsRising (children_of (slot_of slots i))
  rising_at i l = R i empty_node l

  at_any : (f : Slot → ℕ) (n i : ℕ) (d : Slot) → i < length slots → f (slot_of slots i) ≡ n → f (get_or slots i d) ≡ n
  at_any f n i d l e = ap f (same_slot slots i d l) ∙ e

  none_to_root : sum_by (links_that (is_to 0)) slots ≡ 0
  none_to_root = sum_none (links_that (is_to 0)) slots (λ i d l. at_any (links_that (is_to 0)) 0 i d l (slot_none 0 (slot_of slots i) (rising_at i l) (λ e h. let z : [] ≡ e ∷ home_of homes i = sym H.root ∙ (H.at_home i 0 e h).1 in let w : ⊥ = cc in w)))

  one_to_other : (j : ℕ) → 0 < j → j < length slots → sum_by (links_that (is_to j)) slots ≡ 1
  one_to_other j p l =
      let o = H.owner j p l in
      let within = linked-lt slots o.by o.step (proper j) o.owns in
      sum_one (links_that (is_to j)) slots o.by within
      (λ d. at_any (links_that (is_to j)) 1 o.by d within (slot_one j (slot_of slots o.by) o.step (rising_at o.by within) o.owns (λ f h. (one_owner slots homes H o.by o.by j f o.step h o.owns).1)))
      (λ i d w n. at_any (links_that (is_to j)) 0 i d w (slot_none j (slot_of slots i) (rising_at i w) (λ e h. n (one_owner slots homes H i o.by j e o.step h o.owns).0)))

  all_targets : proper_count slots ≡ sum_to (λ j. sum_by (links_that (is_to j)) slots) (length slots)
  all_targets = split_sum (links_that is_proper) (λ j. links_that (is_to j)) (length slots) slots (λ i d l. subst (λ (s : Slot). links_that is_proper s ≡ sum_to (λ j. links_that (is_to j) s) (length slots)) (sym (same_slot slots i d l)) (slot_split (slot_of slots i) (length slots) (rising_at i l) (λ e k h. target-lt slots homes H i e k h)))

  pub proper_total : proper_count slots + 1 ≡ length slots
  proper_total = go (length slots) refl
    where
      go : (n : ℕ) → length slots ≡ n → proper_count slots + 1 ≡ length slots
      go zero e = let s = H.some in absurd (omega arith)
      go (suc n) e =
          let a : proper_count slots ≡ sum_to (λ j. sum_by (links_that (is_to j)) slots) (suc n) = all_targets ∙ ap (sum_to (λ j. sum_by (links_that (is_to j)) slots)) e in
          let b = sum_to-ones (λ j. sum_by (links_that (is_to j)) slots) n none_to_root (λ j p l. one_to_other j p (omega arith)) in
          omega arith

pub slot_total : (slots : List Slot) → node_count slots + table_count slots ≡ length slots
slot_total [] = refl
slot_total (s ∷ slots) =
    let a = sum_by-cons (λ (x : Slot). cond (not (is_table x)) 1 0) s slots in
    let b = sum_by-cons (λ (x : Slot). cond (is_table x) 1 0) s slots in
    go (is_table s) (node_count (s ∷ slots)) (table_count (s ∷ slots)) a b (slot_total slots)
  where
    go : (t : Bool) (n m : ℕ) → n ≡ cond (not t) 1 0 + node_count slots → m ≡ cond t 1 0 + table_count slots → node_count slots + table_count slots ≡ length slots → n + m ≡ suc (length slots)
    go true n m a b r = omega arith
    go false n m a b r = omega arith

pub tells_links : TellsLinks
tells_links dims slots homes h S R = slot_total slots ∙ sym (proper_total slots homes S.has_homes R)
