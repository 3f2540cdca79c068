-- Each change is there to be taken back, and the slots are then as before it.
use Rattle.std.proofs.Common.{◌≡◌, ℕ, ◌+◌, ◌<◌, ◌≤◌, Bool, true, false, cond, eqb, ltb, List, [], ◌∷◌, Option, Some, None, set, length, refl, sym, ap, ◌∙◌, subst, arith, ap₂, eqb-true, eq-eqb, true≢false, IsSome, is_some}
use Rattle.std.proofs.lemmas.List.{length-set, set-set, set-get_or, get_or-set_same}
use Rattle.time_table.specs.Counts.{AllCounted, count_of, add_many}
use Rattle.time_table.proofs.AddLaws.{count_of-add_many}
use Rattle.time_table.proofs.CountLaws.{take_many-add_many}
use Rattle.node_arena.specs.declared.link.SlotId.{SlotId}
use Rattle.node_arena.specs.declared.link.Link.{Link}
use Rattle.cube_view.specs.Walks.{down, across}
use Rattle.node_arena.specs.Slots.{Children, Slot, node, table, empty_node, is_table, IsNode, IsTable, count, counts_of, child, link, link_of, slot_of}
use Rattle.node_arena.specs.Calls.{with_child, with_link, without_child, put, relink, unlink, with_content, with_many, without_many, put_child, set_child, set_content, table_add_many}
use Rattle.arena_undo.specs.declared.change.Change.TheVariants.{Put, Relinked, Filled, Counted}
use Rattle.arena_undo.specs.Undone.{take_back, CanTake, IsNodeAt}

pub slot-set : (slots : List Slot) (i : ℕ) (s : Slot) → i < length slots → slot_of (set slots i s) i ≡ s
slot-set slots i s less = get_or-set_same slots i s empty_node less

-- a change of one slot
set_back : (slots : List Slot) (i : ℕ) (new : Slot) (back : Slot → Slot) → i < length slots → back new ≡ slot_of slots i → set (set slots i new) i (back (slot_of (set slots i new) i)) ≡ slots
set_back slots i new back less e =
    ap (λ z. set (set slots i new) i (back z)) (slot-set slots i new less)
    ∙ (set-set slots i new (back new) ∙ (ap (λ z. set slots i z) e ∙ set-get_or slots i empty_node))

without-with : (children : Children) (l : ℕ) (k : Link) → child children l ≡ None → without_child (with_child children l k) l ≡ children
without-with [] l k h = ap (λ (b : Bool). cond b [] ((l, k) ∷ [])) (eq-eqb l l refl)
without-with (x ∷ children) l k h = go (eqb x.0 l) refl h (ltb l x.0) (λ r. without-with children l k r)
  where
    go : (t : Bool) → eqb x.0 l ≡ t → cond t (Some x.1) (child children l) ≡ None → (b : Bool) → (child children l ≡ None → without_child (with_child children l k) l ≡ children) → without_child (cond b ((l, k) ∷ x ∷ children) (x ∷ with_child children l k)) l ≡ x ∷ children
    go true e r b f = absurd cc
    go false e r true f = ap (λ (z : Bool). cond z (x ∷ children) ((l, k) ∷ without_child (x ∷ children) l)) (eq-eqb l l refl)
    go false e r false f = ap (λ (z : Bool). cond z (with_child children l k) (x ∷ without_child (with_child children l k) l)) e ∙ ap (λ z. x ∷ z) (f r)

with_link-with_link : (children : Children) (l : ℕ) (k old : Link) → child children l ≡ Some old → with_link (with_link children l k) l old ≡ children
with_link-with_link [] l k old h = absurd cc
with_link-with_link (x ∷ children) l k old h = go (eqb x.0 l) refl h (λ r. with_link-with_link children l k old r)
  where
    go : (t : Bool) → eqb x.0 l ≡ t → cond t (Some x.1) (child children l) ≡ Some old → (child children l ≡ Some old → with_link (with_link children l k) l old ≡ children) → with_link (cond t ((l, k) ∷ children) (x ∷ with_link children l k)) l old ≡ x ∷ children
    go true e r f =
        let o : x.1 ≡ old = cc in
        ap (λ (z : Bool). cond z ((l, old) ∷ children) ((l, k) ∷ with_link children l old)) (eq-eqb l l refl) ∙ ap₂ (λ (y : ℕ) (z : Link). (y, z) ∷ children) (sym (eqb-true x.0 l e)) (sym o)
    go false e r f = ap (λ (z : Bool). cond z ((l, old) ∷ with_link children l k) (x ∷ with_link (with_link children l k) l old)) e ∙ ap (λ z. x ∷ z) (f r)

child-with_child : (children : Children) (l : ℕ) (k : Link) → child children l ≡ None → child (with_child children l k) l ≡ Some k
child-with_child [] l k h = ap (λ (b : Bool). cond b (Some k) None) (eq-eqb l l refl)
child-with_child (x ∷ children) l k h = go (eqb x.0 l) refl h (ltb l x.0) (λ r. child-with_child children l k r)
  where
    go : (t : Bool) → eqb x.0 l ≡ t → cond t (Some x.1) (child children l) ≡ None → (b : Bool) → (child children l ≡ None → child (with_child children l k) l ≡ Some k) → child (cond b ((l, k) ∷ x ∷ children) (x ∷ with_child children l k)) l ≡ Some k
    go true e r b f = absurd cc
    go false e r true f = ap (λ (z : Bool). cond z (Some k) (child (x ∷ children) l)) (eq-eqb l l refl)
    go false e r false f = ap (λ (z : Bool). cond z (Some x.1) (child (with_child children l k) l)) e ∙ f r

child-with_link : (children : Children) (l : ℕ) (k old : Link) → child children l ≡ Some old → child (with_link children l k) l ≡ Some k
child-with_link [] l k old h = absurd cc
child-with_link (x ∷ children) l k old h = go (eqb x.0 l) refl h (λ r. child-with_link children l k old r)
  where
    go : (t : Bool) → eqb x.0 l ≡ t → cond t (Some x.1) (child children l) ≡ Some old → (child children l ≡ Some old → child (with_link children l k) l ≡ Some k) → child (cond t ((l, k) ∷ children) (x ∷ with_link children l k)) l ≡ Some k
    go true e r f = ap (λ (z : Bool). cond z (Some k) (child children l)) (eq-eqb l l refl)
    go false e r f = ap (λ (z : Bool). cond z (Some x.1) (child (with_link children l k) l)) e ∙ f r

put_slot : (s : Slot) (l : ℕ) (k : Link) → link s (down l) ≡ None → unlink (put s l k) l ≡ s
put_slot (node children content) l k h = ap (λ z. node z content) (without-with children l k h)
put_slot (table counts) l k h = refl

relink_slot : (s : Slot) (l : ℕ) (k old : Link) → link s (down l) ≡ Some old → relink (relink s l k) l old ≡ s
relink_slot (node children content) l k old h = ap (λ z. node z content) (with_link-with_link children l k old h)
relink_slot (table counts) l k old h = refl

content_slot : (s : Slot) (c : Option Link) → with_content (with_content s c) (link s across) ≡ s
content_slot (node children content) c = refl
content_slot (table counts) c = refl

-- a slot that was changed is still of its kind
node_after : (slots : List Slot) (i : ℕ) (new : Slot) → i < length slots → IsNode new → IsNodeAt (set slots i new) i
node_after slots i new less is = (omega (arith, length-set slots i new), ap is_table (slot-set slots i new less) ∙ is)

some_there : (o : Option Link) (k : Link) → o ≡ Some k → IsSome o
some_there o k e = ap is_some e

is_put : (s : Slot) (l : ℕ) (k : Link) → IsNode s → link s (down l) ≡ None → IsNode (put s l k) × (link (put s l k) (down l) ≡ Some k)
is_put (node children content) l k is h = (refl, child-with_child children l k h)
is_put (table counts) l k is h = absurd (true≢false is)

is_relinked : (s : Slot) (l : ℕ) (k old : Link) → IsNode s → link s (down l) ≡ Some old → IsNode (relink s l k) × (link (relink s l k) (down l) ≡ Some k)
is_relinked (node children content) l k old is h = (refl, child-with_link children l k old h)
is_relinked (table counts) l k old is h = absurd (true≢false is)

is_filled : (s : Slot) (c : Option Link) → IsNode s → IsNode (with_content s c)
is_filled (node children content) c is = refl
is_filled (table counts) c is = absurd (true≢false is)

pub put_back : (slots : List Slot) (id : SlotId) (l : ℕ) (k : Link) → id.0 < length slots → link_of slots id.0 (down l) ≡ None → take_back (Put id l) (put_child slots id.0 l k) ≡ slots
put_back slots id l k less h = set_back slots id.0 (put (slot_of slots id.0) l k) (λ z. unlink z l) less (put_slot (slot_of slots id.0) l k h)

pub put_there : (slots : List Slot) (id : SlotId) (l : ℕ) (k : Link) → id.0 < length slots → IsNode (slot_of slots id.0) → link_of slots id.0 (down l) ≡ None → CanTake (Put id l) (put_child slots id.0 l k)
put_there slots id l k less is h =
    let r = is_put (slot_of slots id.0) l k is h in
    (node_after slots id.0 (put (slot_of slots id.0) l k) less r.0, some_there (link_of (put_child slots id.0 l k) id.0 (down l)) k (ap (λ z. link z (down l)) (slot-set slots id.0 (put (slot_of slots id.0) l k) less) ∙ r.1))

pub relinked_back : (slots : List Slot) (id : SlotId) (l : ℕ) (k old : Link) → id.0 < length slots → link_of slots id.0 (down l) ≡ Some old → take_back (Relinked id l old) (set_child slots id.0 l k) ≡ slots
relinked_back slots id l k old less h = set_back slots id.0 (relink (slot_of slots id.0) l k) (λ z. relink z l old) less (relink_slot (slot_of slots id.0) l k old h)

pub relinked_there : (slots : List Slot) (id : SlotId) (l : ℕ) (k old : Link) → id.0 < length slots → IsNode (slot_of slots id.0) → link_of slots id.0 (down l) ≡ Some old → CanTake (Relinked id l old) (set_child slots id.0 l k)
relinked_there slots id l k old less is h =
    let r = is_relinked (slot_of slots id.0) l k old is h in
    (node_after slots id.0 (relink (slot_of slots id.0) l k) less r.0, some_there (link_of (set_child slots id.0 l k) id.0 (down l)) k (ap (λ z. link z (down l)) (slot-set slots id.0 (relink (slot_of slots id.0) l k) less) ∙ r.1))

pub filled_back : (slots : List Slot) (id : SlotId) (c old : Option Link) → id.0 < length slots → old ≡ link_of slots id.0 across → take_back (Filled id old) (set_content slots id.0 c) ≡ slots
filled_back slots id c old less e =
    ap (λ z. take_back (Filled id z) (set_content slots id.0 c)) e
    ∙ set_back slots id.0 (with_content (slot_of slots id.0) c) (λ z. with_content z (link_of slots id.0 across)) less (content_slot (slot_of slots id.0) c)

pub filled_there : (slots : List Slot) (id : SlotId) (c old : Option Link) → id.0 < length slots → IsNode (slot_of slots id.0) → CanTake (Filled id old) (set_content slots id.0 c)
filled_there slots id c old less is = node_after slots id.0 (with_content (slot_of slots id.0) c) less (is_filled (slot_of slots id.0) c is)

counted_slot : (s : Slot) (bin n : ℕ) → AllCounted (counts_of s) → without_many (with_many s bin n) bin n ≡ s
counted_slot (node children content) bin n all = refl
counted_slot (table counts) bin n all = ap table (take_many-add_many counts bin n all)

pub is_counted : (s : Slot) (bin n : ℕ) → IsTable s → IsTable (with_many s bin n) × (n ≤ count (with_many s bin n) bin)
is_counted (node children content) bin n is = absurd (true≢false (sym is))
is_counted (table counts) bin n is =
    let there : count_of (add_many counts bin n) bin ≡ count_of counts bin + n = count_of-add_many counts bin n bin ∙ ap (λ (b : Bool). cond b (count_of counts bin + n) (count_of counts bin)) (eq-eqb bin bin refl) in
    (refl, omega arith)

pub counted_back : (slots : List Slot) (id : SlotId) (bin n : ℕ) → id.0 < length slots → AllCounted (counts_of (slot_of slots id.0)) → take_back (Counted id bin n) (table_add_many slots id.0 bin n) ≡ slots
counted_back slots id bin n less all = set_back slots id.0 (with_many (slot_of slots id.0) bin n) (λ z. without_many z bin n) less (counted_slot (slot_of slots id.0) bin n all)

pub counted_there : (slots : List Slot) (id : SlotId) (bin n : ℕ) → id.0 < length slots → IsTable (slot_of slots id.0) → 0 < n → CanTake (Counted id bin n) (table_add_many slots id.0 bin n)
counted_there slots id bin n less is some =
    let r = is_counted (slot_of slots id.0) bin n is in
    let e = slot-set slots id.0 (with_many (slot_of slots id.0) bin n) less in (
      omega (arith, length-set slots id.0 (with_many (slot_of slots id.0) bin n)),
      ap is_table e ∙ r.0,
      some,
      subst (λ (z : Slot). n ≤ count z bin) (sym e) r.1,
    )

content_same : (s : Slot) → with_content s (link s across) ≡ s
content_same (node children content) = refl
content_same (table counts) = refl

-- the content that stands there is set again
pub content_stays : (slots : List Slot) (i : ℕ) (c : Option Link) → c ≡ link_of slots i across → set_content slots i c ≡ slots
content_stays slots i c e = ap (λ z. set slots i z) (ap (with_content (slot_of slots i)) e ∙ content_same (slot_of slots i)) ∙ set-get_or slots i empty_node
