-- What the arena's calls change of its links and rows.
use Rattle.std.proofs.Common.{◌≡◌, ℕ, ◌+◌, ◌<◌, ◌≤◌, Bool, true, false, cond, eqb, ltb, ◌⊎◌, inl, inr, List, [], ◌∷◌, ◌++◌, Option, Some, None, set, length, refl, sym, ap, ◌∙◌, subst, arith, ap₂, true≢false, eqb-true, eq-eqb, ne_eqb}
use Rattle.std.proofs.lemmas.List.{length_push, length-set, get_or_past}
use Rattle.std.proofs.lemmas.Bool.{cases_eq, cases_lt, cond-true, cond-false}
use Rattle.cube_view.specs.Walks.{Step, down, across}
use Rattle.node_arena.specs.declared.link.Link.{Link}
use Rattle.node_arena.specs.Slots.{proper, shared, Slot, node, table, empty_node, child, link, count, is_table, slot_of, link_of}
use Rattle.proper_path.specs.Changes.{IsGrown, Came, of_new, of_set, of_old, of_none, IsRelinked, IsCounted}
use Rattle.node_arena.specs.Calls.{with_child, with_link, put, relink, with_content, with_many, put_child, set_child, set_content, table_add_many}
use Rattle.arena_undo.proofs.Backward.{slot-set}
use Rattle.proper_path.proofs.Links.{same_place, slot-set_other, set_keeps, slot-push_old, slot-push_new, empty_link}
use Rattle.time_table.specs.Counts.{BinCounts, count_of, add_many}
use Rattle.time_table.proofs.AddLaws.{count_of-add_many}

-- one look at a step: the link was set there, and is as it was elsewhere
pub record IsSetAt (old new : Slot) (e : Step) (l : Link) : Type 0 where
  pub here : link new e ≡ Some l
  pub elsewhere : (f : Step) → (f ≡ e → ⊥) → link new f ≡ link old f
  pub counts : (bin : ℕ) → count new bin ≡ count old bin
  pub kind : is_table new ≡ is_table old

not_first : (x : ℕ × Link) (kids : List (ℕ × Link)) (l : ℕ) → child (x ∷ kids) l ≡ None → (eqb x.0 l ≡ false) × (child kids l ≡ None)
not_first x kids l h = go (eqb x.0 l) refl h
  where
    go : (b : Bool) → eqb x.0 l ≡ b → cond b (Some x.1) (child kids l) ≡ None → (eqb x.0 l ≡ false) × (child kids l ≡ None)
    go true e r = absurd cc
    go false e r = (e, r)

child-put_here : (kids : List (ℕ × Link)) (l : ℕ) (k : Link) → child kids l ≡ None → child (with_child kids l k) l ≡ Some k
child-put_here [] l k h = cond-true (eqb l l) (Some k) None (eq-eqb l l refl)
child-put_here (x ∷ kids) l k h = go (ltb l x.0) (child-put_here kids l k (not_first x kids l h).1)
  where
    go : (b : Bool) → child (with_child kids l k) l ≡ Some k → child (cond b ((l, k) ∷ x ∷ kids) (x ∷ with_child kids l k)) l ≡ Some k
    go true r = cond-true (eqb l l) (Some k) (child (x ∷ kids) l) (eq-eqb l l refl)
    go false r = cond-false (eqb x.0 l) (Some x.1) (child (with_child kids l k) l) (not_first x kids l h).0 ∙ r

child-put_other : (kids : List (ℕ × Link)) (l m : ℕ) (k : Link) → (m ≡ l → ⊥) → child (with_child kids l k) m ≡ child kids m
child-put_other [] l m k n = cond-false (eqb l m) (Some k) None (ne_eqb l m (λ e. n (sym e)))
child-put_other (x ∷ kids) l m k n = go (ltb l x.0) (child-put_other kids l m k n)
  where
    go : (b : Bool) → child (with_child kids l k) m ≡ child kids m → child (cond b ((l, k) ∷ x ∷ kids) (x ∷ with_child kids l k)) m ≡ child (x ∷ kids) m
    go true r = cond-false (eqb l m) (Some k) (child (x ∷ kids) m) (ne_eqb l m (λ e. n (sym e)))
    go false r = ap (λ (o : Option Link). cond (eqb x.0 m) (Some x.1) o) r

child-set_here : (kids : List (ℕ × Link)) (l : ℕ) (k old : Link) → child kids l ≡ Some old → child (with_link kids l k) l ≡ Some k
child-set_here [] l k old h = absurd cc
child-set_here (x ∷ kids) l k old h = go (eqb x.0 l) refl h (λ r. child-set_here kids l k old r)
  where
    go : (b : Bool) → eqb x.0 l ≡ b → cond b (Some x.1) (child kids l) ≡ Some old → (child kids l ≡ Some old → child (with_link kids l k) l ≡ Some k) → child (cond b ((l, k) ∷ kids) (x ∷ with_link kids l k)) l ≡ Some k
    go true e r f = cond-true (eqb l l) (Some k) (child kids l) (eq-eqb l l refl)
    go false e r f = cond-false (eqb x.0 l) (Some x.1) (child (with_link kids l k) l) e ∙ f r

child-set_other : (kids : List (ℕ × Link)) (l m : ℕ) (k : Link) → (m ≡ l → ⊥) → child (with_link kids l k) m ≡ child kids m
child-set_other [] l m k n = refl
child-set_other (x ∷ kids) l m k n = go (eqb x.0 l) refl (child-set_other kids l m k n)
  where
    go : (b : Bool) → eqb x.0 l ≡ b → child (with_link kids l k) m ≡ child kids m → child (cond b ((l, k) ∷ kids) (x ∷ with_link kids l k)) m ≡ child (x ∷ kids) m
    go true e r =
        cond-false (eqb l m) (Some k) (child kids m) (ne_eqb l m (λ y. n (sym y)))
        ∙ sym (cond-false (eqb x.0 m) (Some x.1) (child kids m) (ne_eqb x.0 m (λ y. n (sym y ∙ eqb-true x.0 l e))))
    go false e r = ap (λ (o : Option Link). cond (eqb x.0 m) (Some x.1) o) r

differs : (l m : ℕ) → (down m ≡ down l → ⊥) → m ≡ l → ⊥
differs l m n e = n (ap down e)

pub put_sets : (s : Slot) (l : ℕ) (k : Link) → is_table s ≡ false → link s (down l) ≡ None → IsSetAt s (put s l k) (down l) k
put_sets (node kids content) l k t h = record { here = child-put_here kids l k h; elsewhere = elsewhere; counts = λ bin. refl; kind = refl }
  where
    elsewhere : (f : Step) → (f ≡ down l → ⊥) → link (node (with_child kids l k) content) f ≡ link (node kids content) f
    elsewhere (down m) n = child-put_other kids l m k (differs l m n)
    elsewhere across n = refl
put_sets (table rows) l k t h = absurd (true≢false t)

pub set_sets : (s : Slot) (l : ℕ) (k old : Link) → link s (down l) ≡ Some old → IsSetAt s (relink s l k) (down l) k
set_sets (node kids content) l k old h = record { here = child-set_here kids l k old h; elsewhere = elsewhere; counts = λ bin. refl; kind = refl }
  where
    elsewhere : (f : Step) → (f ≡ down l → ⊥) → link (node (with_link kids l k) content) f ≡ link (node kids content) f
    elsewhere (down m) n = child-set_other kids l m k (differs l m n)
    elsewhere across n = refl
set_sets (table rows) l k old h = absurd cc

pub content_sets : (s : Slot) (k : Link) → is_table s ≡ false → IsSetAt s (with_content s (Some k)) across k
content_sets (node kids content) k t = record { here = refl; elsewhere = elsewhere; counts = λ bin. refl; kind = refl }
  where
    elsewhere : (f : Step) → (f ≡ across → ⊥) → link (node kids (Some k)) f ≡ link (node kids content) f
    elsewhere (down m) n = refl
    elsewhere across n = absurd (n refl)
content_sets (table rows) k t = absurd (true≢false t)

slot_past : (slots : List Slot) (i : ℕ) → length slots ≤ i → slot_of slots i ≡ empty_node
slot_past slots i l = get_or_past slots i empty_node l

-- a slot was added, and then the link to it set at an old slot
pub grows : (slots : List Slot) (i : ℕ) (e : Step) (s new : Slot) → i < length slots → IsSetAt (slot_of slots i) new e (proper (length slots)) → IsGrown slots (set (slots ++ s ∷ []) i new) i e s
grows slots i e s new lt S = record {
  size = omega (arith, length-set (slots ++ s ∷ []) i new, length_push slots s);
  place = lt;
  set_link = ap (λ z. link z e) at_i ∙ S.here;
  new_link = λ f. ap (λ z. link z f) at_new;
  old_link = λ j f l n. old_link j f l n (cases_eq j i);
  came = came;
  new_count = λ bin. ap (λ z. count z bin) at_new;
  old_count = λ j bin l. old_count j bin l (cases_eq j i);
  new_kind = ap is_table at_new;
  old_kind = λ j l. old_kind j l (cases_eq j i);
}
  where
    pushed : List Slot
    pushed = slots ++ s ∷ []

    next : List Slot
    next = set pushed i new

    fits : i < length (slots ++ s ∷ [])
    fits = omega (arith, length_push slots s)

    at_i : slot_of (set (slots ++ s ∷ []) i new) i ≡ new
    at_i = slot-set (slots ++ s ∷ []) i new fits

    at_new : slot_of (set (slots ++ s ∷ []) i new) (length slots) ≡ s
    at_new = slot-set_other (slots ++ s ∷ []) i (length slots) new (λ x. omega arith) ∙ slot-push_new slots s

    at_old : (j : ℕ) → j < length slots → (j ≡ i → ⊥) → slot_of (set (slots ++ s ∷ []) i new) j ≡ slot_of slots j
    at_old j l n = slot-set_other (slots ++ s ∷ []) i j new n ∙ slot-push_old slots s j l

    old_link : (j : ℕ) (f : Step) → j < length slots → (j ≡ i → f ≡ e → ⊥) → (j ≡ i) ⊎ (j ≡ i → ⊥) → link_of next j f ≡ link_of slots j f
    old_link j f l n (inl x) = ap (λ z. link_of next z f) x ∙ (ap (λ z. link z f) at_i ∙ (S.elsewhere f (n x) ∙ ap (λ z. link_of slots z f) (sym x)))
    old_link j f l n (inr m) = ap (λ z. link z f) (at_old j l m)

    old_count : (j bin : ℕ) → j < length slots → (j ≡ i) ⊎ (j ≡ i → ⊥) → count (slot_of next j) bin ≡ count (slot_of slots j) bin
    old_count j bin l (inl x) = ap (λ z. count (slot_of next z) bin) x ∙ (ap (λ z. count z bin) at_i ∙ (S.counts bin ∙ ap (λ z. count (slot_of slots z) bin) (sym x)))
    old_count j bin l (inr m) = ap (λ z. count z bin) (at_old j l m)

    old_kind : (j : ℕ) → j < length slots → (j ≡ i) ⊎ (j ≡ i → ⊥) → is_table (slot_of next j) ≡ is_table (slot_of slots j)
    old_kind j l (inl x) = ap (λ z. is_table (slot_of next z)) x ∙ (ap is_table at_i ∙ (S.kind ∙ ap (λ z. is_table (slot_of slots z)) (sym x)))
    old_kind j l (inr m) = ap is_table (at_old j l m)

    came : (j : ℕ) (f : Step) → Came slots i e s (Some (proper (length slots))) j f (link_of next j f)
    came j f = place (cases_lt j (length slots))
      where
        last : (j ≡ length slots) ⊎ (j ≡ length slots → ⊥) → length slots ≤ j → Came slots i e s (Some (proper (length slots))) j f (link_of next j f)
        last (inl x) l = of_new x (ap (λ z. link_of next z f) x ∙ ap (λ z. link z f) at_new)
        last (inr m) l = of_none (ap (λ z. link z f) (slot_past next j (omega (arith, length-set (slots ++ s ∷ []) i new, length_push slots s))) ∙ empty_link f)

        here : ((j ≡ i) × (f ≡ e)) ⊎ (j ≡ i → f ≡ e → ⊥) → j < length slots → Came slots i e s (Some (proper (length slots))) j f (link_of next j f)
        here (inl x) l = of_set x.0 x.1 (ap₂ (link_of next) x.0 x.1 ∙ (ap (λ z. link z e) at_i ∙ S.here))
        here (inr n) l = of_old l n (old_link j f l n (cases_eq j i))

        place : (j < length slots) ⊎ (length slots ≤ j) → Came slots i e s (Some (proper (length slots))) j f (link_of next j f)
        place (inl l) = here (same_place j i f e) l
        place (inr l) = last (cases_eq j (length slots)) l

-- a link was set at an old slot
pub relinks : (slots : List Slot) (i : ℕ) (e : Step) (new : Slot) (l : Link) → i < length slots → IsSetAt (slot_of slots i) new e l → IsRelinked slots (set slots i new) i e l
relinks slots i e new l lt S = record {
  size = length-set slots i new;
  place = lt;
  set_link = ap (λ z. link z e) at_i ∙ S.here;
  old_link = λ j f n. old_link j f n (cases_eq j i);
  old_count = λ j bin. set_keeps (λ z. count z bin) slots i new lt (S.counts bin) j;
  old_kind = set_keeps is_table slots i new lt S.kind;
}
  where
    next : List Slot
    next = set slots i new

    at_i : slot_of (set slots i new) i ≡ new
    at_i = slot-set slots i new lt

    old_link : (j : ℕ) (f : Step) → (j ≡ i → f ≡ e → ⊥) → (j ≡ i) ⊎ (j ≡ i → ⊥) → link_of next j f ≡ link_of slots j f
    old_link j f n (inl x) = ap (λ z. link_of next z f) x ∙ (ap (λ z. link z f) at_i ∙ (S.elsewhere f (n x) ∙ ap (λ z. link_of slots z f) (sym x)))
    old_link j f n (inr m) = ap (λ z. link z f) (slot-set_other slots i j new m)

row-added : (m : BinCounts) (bin n b : ℕ) → count_of (add_many m bin n) b ≡ count_of m b + cond (eqb bin b) n 0
row-added m bin n b = count_of-add_many m bin n b ∙ go (cases_eq b bin)
  where
    go : (b ≡ bin) ⊎ (b ≡ bin → ⊥) → cond (eqb b bin) (count_of m bin + n) (count_of m b) ≡ count_of m b + cond (eqb bin b) n 0
    go (inl e) = rw (eq-eqb b bin e, eq-eqb bin b (sym e)) (ap (λ z. count_of m z + n) (sym e))
    go (inr d) = rw (ne_eqb b bin d, ne_eqb bin b (λ e. d (sym e))) (omega arith)

added_link : (s : Slot) (bin n : ℕ) (f : Step) → link (with_many s bin n) f ≡ link s f
added_link (node kids content) bin n (down l) = refl
added_link (node kids content) bin n across = refl
added_link (table rows) bin n f = refl

added_kind : (s : Slot) (bin n : ℕ) → is_table (with_many s bin n) ≡ is_table s
added_kind (node kids content) bin n = refl
added_kind (table rows) bin n = refl

added_count : (s : Slot) (bin n b : ℕ) → is_table s ≡ true → count (with_many s bin n) b ≡ count s b + cond (eqb bin b) n 0
added_count (node kids content) bin n b t = absurd (true≢false (sym t))
added_count (table rows) bin n b t = row-added rows bin n b

pub counts_more : (slots : List Slot) (i bin n : ℕ) → i < length slots → is_table (slot_of slots i) ≡ true → IsCounted slots (table_add_many slots i bin n) i bin n
counts_more slots i bin n lt t = record {
  size = length-set slots i new;
  place = lt;
  kind = t;
  links = λ j f. set_keeps (λ z. link z f) slots i new lt (added_link (slot_of slots i) bin n f) j;
  here = λ b. ap (λ z. count z b) at_i ∙ added_count (slot_of slots i) bin n b t;
  old_count = λ j b d. ap (λ z. count z b) (slot-set_other slots i j new d);
  old_kind = set_keeps is_table slots i new lt (added_kind (slot_of slots i) bin n);
}
  where
    new : Slot
    new = with_many (slot_of slots i) bin n

    next : List Slot
    next = set slots i (with_many (slot_of slots i) bin n)

    at_i : slot_of next i ≡ new
    at_i = slot-set slots i new lt

-- the pairs of calls of a trail and of a visit
pub grow_put : (slots : List Slot) (i l : ℕ) (s : Slot) → i < length slots → is_table (slot_of slots i) ≡ false → link_of slots i (down l) ≡ None → IsGrown slots (put_child (slots ++ s ∷ []) i l (proper (length slots))) i (down l) s
grow_put slots i l s lt t h =
    subst (λ z. IsGrown slots (set (slots ++ s ∷ []) i (put z l (proper (length slots)))) i (down l) s) (sym (slot-push_old slots s i lt))
    (grows slots i (down l) s (put (slot_of slots i) l (proper (length slots))) lt (put_sets (slot_of slots i) l (proper (length slots)) t h))

pub grow_set : (slots : List Slot) (i l : ℕ) (s : Slot) (old : Link) → i < length slots → link_of slots i (down l) ≡ Some old → IsGrown slots (set_child (slots ++ s ∷ []) i l (proper (length slots))) i (down l) s
grow_set slots i l s old lt h =
    subst (λ z. IsGrown slots (set (slots ++ s ∷ []) i (relink z l (proper (length slots)))) i (down l) s) (sym (slot-push_old slots s i lt))
    (grows slots i (down l) s (relink (slot_of slots i) l (proper (length slots))) lt (set_sets (slot_of slots i) l (proper (length slots)) old h))

pub grow_content : (slots : List Slot) (i : ℕ) (s : Slot) → i < length slots → is_table (slot_of slots i) ≡ false → IsGrown slots (set_content (slots ++ s ∷ []) i (Some (proper (length slots)))) i across s
grow_content slots i s lt t =
    subst (λ z. IsGrown slots (set (slots ++ s ∷ []) i (with_content z (Some (proper (length slots))))) i across s) (sym (slot-push_old slots s i lt))
    (grows slots i across s (with_content (slot_of slots i) (Some (proper (length slots)))) lt (content_sets (slot_of slots i) (proper (length slots)) t))

pub relink_content : (slots : List Slot) (i u : ℕ) → i < length slots → is_table (slot_of slots i) ≡ false → IsRelinked slots (set_content slots i (Some (shared u))) i across (shared u)
relink_content slots i u lt t = relinks slots i across (with_content (slot_of slots i) (Some (shared u))) (shared u) lt (content_sets (slot_of slots i) (shared u) t)
