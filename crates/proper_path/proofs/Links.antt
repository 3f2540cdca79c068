-- What the links and rows of an arena are after one change.
use Rattle.std.proofs.Common.{◌≡◌, ℕ, ◌<◌, Bool, true, false, cond, eqb, ◌⊎◌, inl, inr, List, [], ◌∷◌, ◌++◌, map, Option, Some, None, set, length, refl, sym, ap, ◌∙◌, true≢false, get_or-set_other}
use Rattle.std.proofs.lemmas.List.{get_or_append_left, get_or_push}
use Rattle.std.proofs.lemmas.Bool.{cases_eq}
use Rattle.cube_view.specs.Walks.{Step, down, across}
use Rattle.node_arena.specs.declared.link.Link.{Link}
use Rattle.node_arena.specs.Slots.{proper, shared, target, Slot, node, table, empty_node, child, link, count, is_table, slot_of, link_of}
use Rattle.node_arena.specs.Stats.{is_proper}
use Rattle.node_arena.specs.Calls.{share, copied}
use Rattle.node_arena.proofs.Links.{link_cases}
use Rattle.arena_undo.proofs.Backward.{slot-set}

-- steps are equal or not
pub cases_step : (e f : Step) → (e ≡ f) ⊎ (e ≡ f → ⊥)
cases_step (down l) (down m) = go (cases_eq l m)
  where
    go : (l ≡ m) ⊎ (l ≡ m → ⊥) → (down l ≡ down m) ⊎ (down l ≡ down m → ⊥)
    go (inl e) = inl (ap down e)
    go (inr n) = inr (λ e. n (ap (λ (s : Step). elim s [ down k ↦ k | across ↦ 0 ]) e))
cases_step (down l) across = inr (λ e. cc)
cases_step across (down m) = inr (λ e. cc)
cases_step across across = inl refl

-- another slot is set
pub slot-set_other : (slots : List Slot) (i j : ℕ) (s : Slot) → (j ≡ i → ⊥) → slot_of (set slots i s) j ≡ slot_of slots j
slot-set_other slots i j s n = get_or-set_other slots i j s empty_node n

-- another slot is set in the place of one: what is the same of both is the same everywhere
pub set_keeps : {A : Type 0} (f : Slot → A) (slots : List Slot) (i : ℕ) (s : Slot) → i < length slots → f s ≡ f (slot_of slots i) → (j : ℕ) → f (slot_of (set slots i s) j) ≡ f (slot_of slots j)
set_keeps f slots i s lt same j = go (cases_eq j i)
  where
    go : (j ≡ i) ⊎ (j ≡ i → ⊥) → f (slot_of (set slots i s) j) ≡ f (slot_of slots j)
    go (inl x) = ap (λ z. f (slot_of (set slots i s) z)) x ∙ (ap f (slot-set slots i s lt) ∙ (same ∙ ap (λ z. f (slot_of slots z)) (sym x)))
    go (inr n) = ap f (slot-set_other slots i j s n)

-- a slot is added
pub slot-push_old : (slots : List Slot) (s : Slot) (j : ℕ) → j < length slots → slot_of (slots ++ s ∷ []) j ≡ slot_of slots j
slot-push_old slots s j l = get_or_append_left slots (s ∷ []) empty_node j l

pub slot-push_new : (slots : List Slot) (s : Slot) → slot_of (slots ++ s ∷ []) (length slots) ≡ s
slot-push_new slots s = get_or_push slots s empty_node (length slots) refl

-- the links of a shallow copy
pub child-map : (kids : List (ℕ × Link)) (l : ℕ) → child (map (λ k. (k.0, shared (target k.1))) kids) l ≡ share (child kids l)
child-map [] l = refl
child-map (k ∷ kids) l = go (eqb k.0 l) (child-map kids l)
  where
    go : (b : Bool) → child (map (λ k. (k.0, shared (target k.1))) kids) l ≡ share (child kids l) → cond b (Some (shared (target k.1))) (child (map (λ k. (k.0, shared (target k.1))) kids) l) ≡ share (cond b (Some k.1) (child kids l))
    go true r = refl
    go false r = r

pub link-copied : (s : Slot) (e : Step) → link (copied s) e ≡ share (link s e)
link-copied (node kids content) (down l) = child-map kids l
link-copied (node kids content) across = refl
link-copied (table rows) e = refl

pub count-copied : (s : Slot) (bin : ℕ) → count (copied s) bin ≡ count s bin
count-copied (node kids content) bin = refl
count-copied (table rows) bin = refl

pub is_table-copied : (s : Slot) → is_table (copied s) ≡ is_table s
is_table-copied (node kids content) = refl
is_table-copied (table rows) = refl

pub share-some : (o : Option Link) (l : Link) → share o ≡ Some l → (k : Link) × (o ≡ Some k) × (l ≡ shared (target k))
share-some None l h = absurd cc
share-some (Some k) l h = (k, refl, cc)

pub same_place : (j i : ℕ) (f e : Step) → ((j ≡ i) × (f ≡ e)) ⊎ (j ≡ i → f ≡ e → ⊥)
same_place j i f e = go (cases_eq j i) (cases_step f e)
  where
    go : (j ≡ i) ⊎ (j ≡ i → ⊥) → (f ≡ e) ⊎ (f ≡ e → ⊥) → ((j ≡ i) × (f ≡ e)) ⊎ (j ≡ i → f ≡ e → ⊥)
    go (inl a) (inl b) = inl (a, b)
    go (inl a) (inr m) = inr (λ _ b. m b)
    go (inr n) b = inr (λ a _. n a)

pub table_link : (s : Slot) (e : Step) → is_table s ≡ true → link s e ≡ None
table_link (node kids content) e h = absurd (true≢false (sym h))
table_link (table rows) e h = refl

-- an empty node has no link
pub empty_link : (f : Step) → link empty_node f ≡ None
empty_link (down l) = refl
empty_link across = refl

-- no link is both proper and shared
pub proper≢shared : (j k : ℕ) → proper j ≡ shared k → ⊥
proper≢shared j k e = true≢false (ap is_proper e)

-- a link that is not proper is shared
pub shared_is : (l : Link) → is_proper l ≡ false → l ≡ shared (target l)
shared_is l n = go (link_cases l)
  where
    go : (l ≡ proper (target l)) ⊎ (l ≡ shared (target l)) → l ≡ shared (target l)
    go (inl e) = absurd (true≢false (sym (ap is_proper e) ∙ n))
    go (inr e) = e

-- and stands so where it is read
pub shared_there : (slots : List Slot) (i : ℕ) (e : Step) (l : Link) (o : Option Link) → o ≡ Some l → o ≡ link_of slots i e → is_proper l ≡ false → Some (shared (target l)) ≡ link_of slots i e
shared_there slots i e l o is at n = ap Some (sym (shared_is l n)) ∙ (sym is ∙ at)

-- a link that is proper stands so where it is read
pub proper_there : (slots : List Slot) (i : ℕ) (e : Step) (l : Link) (o : Option Link) → o ≡ Some l → o ≡ link_of slots i e → is_proper l ≡ true → Some (proper (target l)) ≡ link_of slots i e
proper_there slots i e l o is at n = ap Some (sym (go (link_cases l))) ∙ (sym is ∙ at)
  where
    go : (l ≡ proper (target l)) ⊎ (l ≡ shared (target l)) → l ≡ proper (target l)
    go (inl x) = x
    go (inr x) = absurd (true≢false (sym n ∙ ap is_proper x))
