-- What edits at the place of a label make of the children of a node.
use Rattle.std.proofs.Common.{◌≡◌, ℕ, zero, suc, ◌+◌, ◌-◌, ◌<◌, ◌≤◌, Bool, true, false, cond, eqb, ltb, [], ◌∷◌, Option, Some, None, length, get_or, set, take, drop, All, refl, sym, ap, ◌∙◌, subst, arith, ap₂, slice_get, insert, remove, eq-eqb, ne_eqb, ◌⊎◌, inl, inr, IsSome, OnOk, OnErr, Result, Ok, Err, true≢false}
use Rattle.std.proofs.lemmas.Bool.{cases_eq, cases_lt, cond-true, cond-false, eqb-false, lt-ltb, le-ltb}
use Rattle.std.proofs.lemmas.Option.{slice_get-get_or, get_or_from_slice_get}
use Rattle.std.proofs.lemmas.List.{length-set, get_or-set_same, get_or-set_other}
use Rattle.std.proofs.lemmas.List.Elements.{All-head, All-tail}
use Rattle.std.proofs.lemmas.List.Quantifiers.{all_pairs_remove}
use Rattle.std.proofs.lemmas.Result.{on_ok_weaker}
use Rattle.std.proofs.lemmas.List.Edits.{length-insert, get_or-insert_below, get_or-insert_at, get_or-insert_above}
use Rattle.node_arena.specs.declared.link.Link.{Link}
use Rattle.node_arena.specs.Slots.{Children, IsRising, child, child_label}
use Rattle.node_arena.specs.Calls.{with_child, with_link, without_child, child_from}
use Rattle.node_arena.proofs.Labels.{rising-tail}
use Rattle.probe_core.specs.Places.{IsPlace}

-- the labels before the place are less than l, and the others are not
pub record LiesAt (l : ℕ) (children : Children) (index : ℕ) : Type 0 where
  pub within : index ≤ length children
  pub lesser : (k : ℕ) (d : ℕ × Link) → k < index → (get_or children k d).0 < l
  pub others : (k : ℕ) (d : ℕ × Link) → index ≤ k → k < length children → l ≤ (get_or children k d).0

lesser_at : (l : ℕ) (children : Children) (index k : ℕ) (d : ℕ × Link) → All (λ (c : ℕ × Link). c.0 < l) (take index children) → index ≤ length children → k < index → (get_or children k d).0 < l
lesser_at l [] index k d all within less = absurd (omega arith)
lesser_at l (x ∷ children) zero k d all within less = absurd (omega arith)
lesser_at l (x ∷ children) (suc index) zero d all within less = All-head (λ (c : ℕ × Link). c.0 < l) x (take index children) all
lesser_at l (x ∷ children) (suc index) (suc k) d all within less = lesser_at l children index k d (All-tail (λ (c : ℕ × Link). c.0 < l) x (take index children) all) (omega arith) (omega arith)

others_at : (l : ℕ) (children : Children) (index k : ℕ) (d : ℕ × Link) → All (λ (c : ℕ × Link). l ≤ c.0) (drop index children) → index ≤ k → k < length children → l ≤ (get_or children k d).0
others_at l [] index k d all from within = absurd (omega arith)
others_at l (x ∷ children) zero zero d all from within = All-head (λ (c : ℕ × Link). l ≤ c.0) x children all
others_at l (x ∷ children) zero (suc k) d all from within = others_at l children zero k d (All-tail (λ (c : ℕ × Link). l ≤ c.0) x children all) (omega arith) (omega arith)
others_at l (x ∷ children) (suc index) zero d all from within = absurd (omega arith)
others_at l (x ∷ children) (suc index) (suc k) d all from within = others_at l children index k d all (omega arith) (omega arith)

-- a place, said of each child
pub lies_at : (l : ℕ) (children : Children) (index : ℕ) → IsPlace child_label l children index → LiesAt l children index
lies_at l children index P = record {
  within = P.within;
  lesser = λ k d less. lesser_at l children index k d P.lesser P.within less;
  others = λ k d from less. others_at l children index k d P.others from less;
}

place_after : (l : ℕ) (x : ℕ × Link) (children : Children) (index : ℕ) → LiesAt l (x ∷ children) (suc index) → LiesAt l children index
place_after l x children index P = record {
  within = omega (arith, P.within);
  lesser = λ k d less. P.lesser (suc k) d (omega arith);
  others = λ k d from less. P.others (suc k) d (omega arith) (omega arith);
}

-- the first child from the label on stands at its place
pub child_from-place : (l : ℕ) (children : Children) (index : ℕ) → LiesAt l children index → child_from children l ≡ slice_get children index
child_from-place l [] index P = refl
child_from-place l (x ∷ children) zero P = cond-false (ltb x.0 l) (child_from children l) (Some x) (le-ltb x.0 l (P.others 0 x (omega arith) (omega arith)))
child_from-place l (x ∷ children) (suc index) P =
    cond-true (ltb x.0 l) (child_from children l) (Some x) (lt-ltb x.0 l (P.lesser 0 x (omega arith)))
    ∙ child_from-place l children index (place_after l x children index P)

passed : (l : ℕ) (x : ℕ × Link) (children : Children) (index : ℕ) → LiesAt l (x ∷ children) (suc index) → eqb x.0 l ≡ false
passed l x children index P = let less = P.lesser 0 x (omega arith) in ne_eqb x.0 l (λ e. omega arith)

-- a child at the place with that label is the label's child
pub child-found : (l : ℕ) (children : Children) (index : ℕ) (k : Link) → LiesAt l children index → slice_get children index ≡ Some (l, k) → child children l ≡ Some k
child-found l [] index k P e = absurd cc
child-found l (x ∷ children) zero k P e =
    let is : x ≡ (l, k) = cc in
    cond-true (eqb x.0 l) (Some x.1) (child children l) (eq-eqb x.0 l (ap (λ (z : ℕ × Link). z.0) is)) ∙ ap (λ (z : ℕ × Link). Some z.1) is
child-found l (x ∷ children) (suc index) k P e =
    cond-false (eqb x.0 l) (Some x.1) (child children l) (passed l x children index P)
    ∙ child-found l children index k (place_after l x children index P) e

-- labels that are all greater are not the label
child-greater : (l : ℕ) (children : Children) → ((k : ℕ) (d : ℕ × Link) → k < length children → l < (get_or children k d).0) → child children l ≡ None
child-greater l [] above = refl
child-greater l (x ∷ children) above =
    let more = above 0 x (omega arith) in
    cond-false (eqb x.0 l) (Some x.1) (child children l) (ne_eqb x.0 l (λ e. omega arith))
    ∙ child-greater l children (λ k d less. above (suc k) d (omega arith))

-- there is no child of the label where its place is the end, or another label stands there
pub child-past : (l : ℕ) (children : Children) (index : ℕ) → LiesAt l children index → slice_get children index ≡ None → child children l ≡ None
child-past l [] index P e = refl
child-past l (x ∷ children) zero P e = absurd cc
child-past l (x ∷ children) (suc index) P e =
    cond-false (eqb x.0 l) (Some x.1) (child children l) (passed l x children index P)
    ∙ child-past l children index (place_after l x children index P) e

pub child-missed : (l : ℕ) (children : Children) (index : ℕ) (y : ℕ × Link) → IsRising children → LiesAt l children index → slice_get children index ≡ Some y → (y.0 ≡ l → ⊥) → child children l ≡ None
child-missed l [] index y R P e n = refl
child-missed l (x ∷ children) zero y R P e n =
    let is : x ≡ y = cc in
    let at = P.others 0 x (omega arith) (omega arith) in
    let n' : x.0 ≡ l → ⊥ = λ z. n (ap (λ (v : ℕ × Link). v.0) (sym is) ∙ z) in
    let more : l < x.0 = omega arith in
    cond-false (eqb x.0 l) (Some x.1) (child children l) (ne_eqb x.0 l n')
    ∙ child-greater l children (λ k d less. let r = R 0 (suc k) d (omega arith) (omega arith) in omega arith)
child-missed l (x ∷ children) (suc index) y R P e n =
    cond-false (eqb x.0 l) (Some x.1) (child children l) (passed l x children index P)
    ∙ child-missed l children index y (rising-tail x children R) (place_after l x children index P) e n

-- a child that is there stands at its place
pub child_placed : (l : ℕ) (children : Children) (index : ℕ) (k : Link) → IsRising children → LiesAt l children index → child children l ≡ Some k → slice_get children index ≡ Some (l, k)
child_placed l children index k R P e = go (slice_get children index) refl
  where
    go : (o : Option (ℕ × Link)) → slice_get children index ≡ o → slice_get children index ≡ Some (l, k)
    go None h = let r = child-past l children index P h in absurd cc
    go (Some y) h = same (cases_eq y.0 l)
      where
        same : (y.0 ≡ l) ⊎ (y.0 ≡ l → ⊥) → slice_get children index ≡ Some (l, k)
        same (inl s) =
            let found = child-found l children index y.1 P (h ∙ ap (λ (z : ℕ). Some (z, y.1)) s) in
            let t : y.1 ≡ k = cc in
            h ∙ (ap (λ (z : ℕ). Some (z, y.1)) s ∙ ap (λ (z : Link). Some (l, z)) t)
        same (inr n) = let r = child-missed l children index y R P h n in absurd cc

-- the place of a child that is there is within the children
pub place_within : (children : Children) (index : ℕ) (y : ℕ × Link) → slice_get children index ≡ Some y → index < length children
place_within [] index y e = absurd cc
place_within (x ∷ children) zero y e = omega arith
place_within (x ∷ children) (suc index) y e = let r = place_within children index y e in omega arith

-- a new child is inserted at its place
pub with_child-place : (l : ℕ) (children : Children) (index : ℕ) (k : Link) → LiesAt l children index → child children l ≡ None → with_child children l k ≡ insert children index (l, k)
with_child-place l [] zero k P e = refl
with_child-place l [] (suc index) k P e = let w = P.within in absurd (omega arith)
with_child-place l (x ∷ children) zero k P e = go (eqb x.0 l) refl e
  where
    go : (b : Bool) → eqb x.0 l ≡ b → cond b (Some x.1) (child children l) ≡ None → with_child (x ∷ children) l k ≡ (l, k) ∷ x ∷ children
    go true h r = absurd cc
    go false h r =
        let at = P.others 0 x (omega arith) (omega arith) in
        let n = eqb-false x.0 l h in
        cond-true (ltb l x.0) ((l, k) ∷ x ∷ children) (x ∷ with_child children l k) (lt-ltb l x.0 (omega arith))
with_child-place l (x ∷ children) (suc index) k P e =
    let less = P.lesser 0 x (omega arith) in
    cond-false (ltb l x.0) ((l, k) ∷ x ∷ children) (x ∷ with_child children l k) (le-ltb l x.0 (omega arith))
    ∙ ap (λ z. x ∷ z) (with_child-place l children index k (place_after l x children index P) (sym (cond-false (eqb x.0 l) (Some x.1) (child children l) (passed l x children index P)) ∙ e))

-- another link is written at the place
pub with_link-place : (l : ℕ) (children : Children) (index : ℕ) (k old : Link) → LiesAt l children index → slice_get children index ≡ Some (l, old) → with_link children l k ≡ set children index (l, k)
with_link-place l [] index k old P e = absurd cc
with_link-place l (x ∷ children) zero k old P e =
    let is : x ≡ (l, old) = cc in
    cond-true (eqb x.0 l) ((l, k) ∷ children) (x ∷ with_link children l k) (eq-eqb x.0 l (ap (λ (z : ℕ × Link). z.0) is))
with_link-place l (x ∷ children) (suc index) k old P e =
    cond-false (eqb x.0 l) ((l, k) ∷ children) (x ∷ with_link children l k) (passed l x children index P)
    ∙ ap (λ z. x ∷ z) (with_link-place l children index k old (place_after l x children index P) e)

-- and a child is removed there
pub without_child-place : (l : ℕ) (children : Children) (index : ℕ) (old : Link) → LiesAt l children index → slice_get children index ≡ Some (l, old) → without_child children l ≡ remove children index
without_child-place l [] index old P e = absurd cc
without_child-place l (x ∷ children) zero old P e =
    let is : x ≡ (l, old) = cc in
    cond-true (eqb x.0 l) children (x ∷ without_child children l) (eq-eqb x.0 l (ap (λ (z : ℕ × Link). z.0) is))
without_child-place l (x ∷ children) (suc index) old P e =
    cond-false (eqb x.0 l) children (x ∷ without_child children l) (passed l x children index P)
    ∙ ap (λ z. x ∷ z) (without_child-place l children index old (place_after l x children index P) e)

-- where the label has no child, the labels from its place on are greater
above_place : (l : ℕ) (children : Children) (index : ℕ) → IsRising children → LiesAt l children index → child children l ≡ None → (k : ℕ) (d : ℕ × Link) → index ≤ k → k < length children → l < (get_or children k d).0
above_place l children index R P none k d from less = go (cases_eq k index)
  where
    at_least : l ≤ (get_or children index d).0
    at_least = P.others index d (omega arith) (omega arith)

    differs : (get_or children index d).0 ≡ l → ⊥
    differs e =
        let is = slice_get-get_or children index d (omega arith) in
        let found = child-found l children index (get_or children index d).1 P (is ∙ ap (λ (z : ℕ). Some (z, (get_or children index d).1)) e) in
        absurd cc

    go : (k ≡ index) ⊎ (k ≡ index → ⊥) → l < (get_or children k d).0
    go (inl e) = subst (λ z. l < (get_or children z d).0) (sym e) (let a = at_least in let n = differs in omega arith)
    go (inr n) = let r = R index k d (omega arith) less in let a = at_least in omega arith

-- a child of a new label keeps the order
pub rising_put : (l : ℕ) (children : Children) (index : ℕ) (k : Link) → IsRising children → LiesAt l children index → child children l ≡ None → IsRising (insert children index (l, k))
rising_put l children index k R P none i j d less within = go (cases_lt i index) (cases_eq i index) (cases_lt j index) (cases_eq j index)
  where
    new : Children
    new = insert children index (l, k)

    size : length (insert children index (l, k)) ≡ length children + 1
    size = length-insert children index (l, k) P.within

    -- a place after the new child
    after : (m : ℕ) → index < m → get_or (insert children index (l, k)) m d ≡ get_or children (m - 1) d
    after m more =
        let e : m ≡ m - 1 + 1 = omega arith in
        ap (λ z. get_or (insert children index (l, k)) z d) e ∙ get_or-insert_above children index (l, k) d (m - 1) (omega arith) P.within

    label : (m n : ℕ × Link) → m ≡ n → m.0 ≡ n.0
    label m n e = ap (λ (z : ℕ × Link). z.0) e

    go : (i < index) ⊎ (index ≤ i) → (i ≡ index) ⊎ (i ≡ index → ⊥) → (j < index) ⊎ (index ≤ j) → (j ≡ index) ⊎ (j ≡ index → ⊥) → (get_or (insert children index (l, k)) i d).0 < (get_or (insert children index (l, k)) j d).0
    go (inl a) x (inl b) y =
        let ei = label _ _ (get_or-insert_below children index (l, k) d i a P.within) in
        let ej = label _ _ (get_or-insert_below children index (l, k) d j b P.within) in
        let r = R i j d less (let w = P.within in omega arith) in omega arith
    go (inl a) x (inr b) (inl y) =
        let ei = label _ _ (get_or-insert_below children index (l, k) d i a P.within) in
        let ej = label _ _ (ap (λ z. get_or (insert children index (l, k)) z d) y ∙ get_or-insert_at children index (l, k) d P.within) in
        let r = P.lesser i d a in omega arith
    go (inl a) x (inr b) (inr y) =
        let ei = label _ _ (get_or-insert_below children index (l, k) d i a P.within) in
        let ej = label _ _ (after j (omega arith)) in
        let s = size in
        let r = R i (j - 1) d (omega arith) (omega arith) in omega arith
    go (inr a) (inl x) (inl b) y = absurd (omega arith)
    go (inr a) (inl x) (inr b) (inl y) = absurd (omega arith)
    go (inr a) (inl x) (inr b) (inr y) =
        let ei = label _ _ (ap (λ z. get_or (insert children index (l, k)) z d) x ∙ get_or-insert_at children index (l, k) d P.within) in
        let ej = label _ _ (after j (omega arith)) in
        let s = size in
        let r = above_place l children index R P none (j - 1) d (omega arith) (omega arith) in omega arith
    go (inr a) (inr x) (inl b) y = absurd (omega arith)
    go (inr a) (inr x) (inr b) (inl y) = absurd (omega arith)
    go (inr a) (inr x) (inr b) (inr y) =
        let ei = label _ _ (after i (omega arith)) in
        let ej = label _ _ (after j (omega arith)) in
        let s = size in
        let r = R (i - 1) (j - 1) d (omega arith) (omega arith) in omega arith

-- another link at a child's place keeps the order
pub rising_set : (l : ℕ) (children : Children) (index : ℕ) (k old : Link) → IsRising children → slice_get children index ≡ Some (l, old) → IsRising (set children index (l, k))
rising_set l children index k old R is i j d less within =
    let s = length-set children index (l, k) in
    let r = R i j d less (omega arith) in
    let a = same i in
    let b = same j in
    omega arith
  where
    same : (m : ℕ) → (get_or (set children index (l, k)) m d).0 ≡ (get_or children m d).0
    same m = go (cases_eq m index)
      where
        go : (m ≡ index) ⊎ (m ≡ index → ⊥) → (get_or (set children index (l, k)) m d).0 ≡ (get_or children m d).0
        go (inl e) =
            let here : (get_or (set children index (l, k)) index d).0 ≡ l = ap (λ (z : ℕ × Link). z.0) (get_or-set_same children index (l, k) d (place_within children index (l, old) is)) in
            let was : (get_or children index d).0 ≡ l = ap (λ (z : ℕ × Link). z.0) (get_or_from_slice_get children index (l, old) d is) in
            subst (λ z. (get_or (set children index (l, k)) z d).0 ≡ (get_or children z d).0) (sym e) (here ∙ sym was)
        go (inr n) = ap (λ (z : ℕ × Link). z.0) (get_or-set_other children index m (l, k) d n)

-- a label's child with its place
pub record IsFound (l : ℕ) (children : Children) (index : ℕ) : Type 0 where
  pub link : Link
  pub is : child children l ≡ Some link
  pub placed : slice_get children index ≡ Some (l, link)
  pub within : index < length children

pub found_child : (l : ℕ) (children : Children) (index : ℕ) → IsRising children → LiesAt l children index → IsSome (child children l) → IsFound l children index
found_child l children index R P some = go (child children l) refl some
  where
    go : (o : Option Link) → child children l ≡ o → IsSome o → IsFound l children index
    go None e s = absurd (true≢false (sym s))
    go (Some k) e s =
        let at = child_placed l children index k R P e in
        record { link = k; is = e; placed = at; within = place_within children index (l, k) at }

-- what is read at the place is the child
pub child-read : (l : ℕ) (children : Children) (index : ℕ) (x : ℕ × Link) → IsFound l children index → x ≡ get_or children index x → child children l ≡ Some x.1
child-read l children index x F e =
    let same : x ≡ (l, F.link) = e ∙ get_or_from_slice_get children index (l, F.link) x F.placed in
    F.is ∙ ap (λ (z : ℕ × Link). Some z.1) (sym same)

-- the children after each edit, where it is made on `items`, which the children are
pub put_is : (l : ℕ) (children items new : Children) (index : ℕ) (k : Link) (x : ℕ × Link) {E : Type 0} (r : Result (Unit {0}) E) → x ≡ (l, k) → items ≡ children → LiesAt l children index → child children l ≡ None → OnOk r (new ≡ insert items index x) → OnOk r (new ≡ with_child children l k)
put_is l children items new index k x r is same P none ok =
    on_ok_weaker r (λ (e : new ≡ insert items index x). e ∙ (ap₂ (λ (z : Children) (y : ℕ × Link). insert z index y) same is ∙ sym (with_child-place l children index k P none))) ok

pub put_rises : (l : ℕ) (children items new : Children) (index : ℕ) (k : Link) (x : ℕ × Link) {E : Type 0} (r : Result (Unit {0}) E) → x ≡ (l, k) → items ≡ children → IsRising children → LiesAt l children index → child children l ≡ None → OnOk r (new ≡ insert items index x) → OnErr r (new ≡ items) → IsRising new
put_rises l children items new index k x (Ok u) is same R P none ok err = subst IsRising (sym (ok ∙ ap₂ (λ (z : Children) (y : ℕ × Link). insert z index y) same is)) (rising_put l children index k R P none)
put_rises l children items new index k x (Err u) is same R P none ok err = subst IsRising (sym (err ∙ same)) R

pub removed_is : (l : ℕ) (children items new : Children) (index : ℕ) → items ≡ children → LiesAt l children index → IsFound l children index → new ≡ remove items index → new ≡ without_child children l
removed_is l children items new index same P F e = e ∙ (ap (λ (z : Children). remove z index) same ∙ sym (without_child-place l children index F.link P F.placed))

pub removed_rises : (l : ℕ) (children items new : Children) (index : ℕ) → items ≡ children → IsRising children → IsFound l children index → new ≡ remove items index → IsRising new
removed_rises l children items new index same R F e = subst IsRising (sym (e ∙ ap (λ (z : Children). remove z index) same)) (all_pairs_remove (λ (a b : ℕ × Link). a.0 < b.0) children index F.within R)

pub replaced_is : (l : ℕ) (children items new : Children) (index : ℕ) (k : Link) (x : ℕ × Link) → x ≡ (l, k) → items ≡ children → LiesAt l children index → IsFound l children index → new ≡ set items index x → new ≡ with_link children l k
replaced_is l children items new index k x is same P F e = e ∙ (ap₂ (λ (z : Children) (y : ℕ × Link). set z index y) same is ∙ sym (with_link-place l children index k F.link P F.placed))

pub replaced_rises : (l : ℕ) (children items new : Children) (index : ℕ) (k : Link) (x : ℕ × Link) → x ≡ (l, k) → items ≡ children → IsRising children → IsFound l children index → new ≡ set items index x → IsRising new
replaced_rises l children items new index k x is same R F e = subst IsRising (sym (e ∙ ap₂ (λ (z : Children) (y : ℕ × Link). set z index y) same is)) (rising_set l children index k F.link R F.placed)
