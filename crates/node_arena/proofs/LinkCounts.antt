-- Counting the links of a node.
use Rattle.std.proofs.Common.{◌≡◌, ◌<◌, ◌≤◌, ℕ, suc, ◌+◌, ◌^◌, ◌⊎◌, inl, inr, Bool, true, false, not, cond, List, [], ◌∷◌, take, length, refl, ap, ap₂, ◌∙◌, subst, arith}
use Rattle.std.proofs.lemmas.Bool.{cases_lt}
use Rattle.std.proofs.lemmas.List.{take_all, get_or_default}
use Rattle.std.proofs.lemmas.List.Sums.{sum_by-cons, sum_by_more}
use Rattle.cube_view.specs.declared.stat.Stat.{Stat}
use Rattle.node_arena.specs.declared.link.Link.{Link}
use Rattle.node_arena.specs.Slots.{Children, IsRising, Slot, empty_node, is_table, slot_of, children_of}
use Rattle.node_arena.specs.Stats.{children_that, links_that, is_proper, is_shared, node_count, table_count, proper_count, shared_count, capped, stat_of, with_slot, AllRising, TellsStat}
use Rattle.node_arena.proofs.LinkTotals.{slot_total, tells_links}

-- the proper links of the first i children are counted
pub record IsCounting (children : Children) (i count : ℕ) : Type 0 where
  pub so_far : count ≡ children_that is_proper (take i children)
  pub within : count ≤ i

-- a link is proper or shared
pub proper-shared : (children : Children) → children_that is_proper children + children_that is_shared children ≡ length children
proper-shared [] = refl
proper-shared (x ∷ children) =
    let a = sum_by-cons (λ (k : ℕ × Link). cond {A = ℕ} (is_proper k.1) 1 0) x children in
    let b = sum_by-cons (λ (k : ℕ × Link). cond {A = ℕ} (is_shared k.1) 1 0) x children in
    go (is_proper x.1) (children_that is_proper (x ∷ children)) (children_that is_shared (x ∷ children)) a b (proper-shared children)
  where
    go : (t : Bool) (n m : ℕ) → n ≡ cond t 1 0 + children_that is_proper children → m ≡ cond (not t) 1 0 + children_that is_shared children → children_that is_proper children + children_that is_shared children ≡ length children → n + m ≡ suc (length children)
    go true n m a b r = omega arith
    go false n m a b r = omega arith

-- the labels rise of each node before a place
abbrev pub IsRisingTo : List Slot → ℕ → Type 0
IsRisingTo slots i = (k : ℕ) → k < i → IsRising (children_of (slot_of slots k))

pub rising_more : (slots : List Slot) (i : ℕ) → IsRisingTo slots i → IsRising (children_of (slot_of slots i)) → IsRisingTo slots (i + 1)
rising_more slots i before here k l = order (cases_lt k i)
  where
    order : (k < i) ⊎ (i ≤ k) → IsRising (children_of (slot_of slots k))
    order (inl a) = before k a
    order (inr b) = let e : i ≡ k = omega arith in subst (λ z. IsRising (children_of (slot_of slots z))) e here

pub rising_ends : (slots : List Slot) (i : ℕ) → IsRisingTo slots i → length slots ≤ i → AllRising slots
rising_ends slots i before past k d l = subst (λ (z : Slot). IsRising (children_of z)) (get_or_default slots k empty_node d l) (before k (omega arith))

-- the slots before a place are counted
pub record IsTotalled (slots : List Slot) (i : ℕ) (stat : Stat) : Type 0 where
  pub is : stat ≡ stat_of (take i slots)
  pub in_order : IsRisingTo slots i

pub total_starts : (slots : List Slot) → IsTotalled slots 0 (record { nodes = 0; tables = 0; proper = 0; shared = 0 })
total_starts slots = record { is = refl; in_order = λ k l. absurd (omega arith) }

capped-add : (a b total : ℕ) → total ≡ a + b → capped (capped a + b) ≡ capped total
capped-add a b total e = omega arith

pub total_more : (slots : List Slot) (i : ℕ) (so_far next : Stat) (s : Slot) → i < length slots → IsTotalled slots i so_far → s ≡ slot_of slots i → next ≡ with_slot so_far s → IsRising (children_of s) → IsTotalled slots (i + 1) next
total_more slots i so_far next s less T at is R = record {
  is = is ∙ (ap₂ with_slot T.is at ∙ more);
  in_order = rising_more slots i T.in_order (subst (λ (z : Slot). IsRising (children_of z)) at R);
}
  where
    nodes : node_count (take (i + 1) slots) ≡ node_count (take i slots) + cond {A = ℕ} (not (is_table (slot_of slots i))) 1 0
    nodes = sum_by_more (λ (x : Slot). cond {A = ℕ} (not (is_table x)) 1 0) slots i empty_node less

    flipped : (b : Bool) → cond {A = ℕ} (not b) 1 0 ≡ cond b 0 1
    flipped true = refl
    flipped false = refl

    more : with_slot (stat_of (take i slots)) (slot_of slots i) ≡ stat_of (take (i + 1) slots)
    more =
        let a : capped (capped (node_count (take i slots)) + cond {A = ℕ} (is_table (slot_of slots i)) 0 1) ≡ capped (node_count (take (i + 1) slots)) = capped-add (node_count (take i slots)) _ _ (nodes ∙ ap (λ z. node_count (take i slots) + z) (flipped (is_table (slot_of slots i)))) in
        let b : capped (capped (table_count (take i slots)) + cond {A = ℕ} (is_table (slot_of slots i)) 1 0) ≡ capped (table_count (take (i + 1) slots)) = capped-add (table_count (take i slots)) _ _ (sum_by_more (λ (x : Slot). cond {A = ℕ} (is_table x) 1 0) slots i empty_node less) in
        let c : capped (capped (proper_count (take i slots)) + links_that is_proper (slot_of slots i)) ≡ capped (proper_count (take (i + 1) slots)) = capped-add (proper_count (take i slots)) _ _ (sum_by_more (links_that is_proper) slots i empty_node less) in
        let d : capped (capped (shared_count (take i slots)) + links_that is_shared (slot_of slots i)) ≡ capped (shared_count (take (i + 1) slots)) = capped-add (shared_count (take i slots)) _ _ (sum_by_more (links_that is_shared) slots i empty_node less) in
        λ k. record { nodes = a k; tables = b k; proper = c k; shared = d k }

pub total_ends : (slots : List Slot) (i : ℕ) (so_far : Stat) → IsTotalled slots i so_far → length slots ≤ i → (so_far ≡ stat_of slots) × AllRising slots
total_ends slots i so_far T past =
    (T.is ∙ ap stat_of (take_all i slots past), rising_ends slots i T.in_order past)

-- and fewer than 2 ^ 64 slots are counted exactly
pub total_tells : (slots : List Slot) (so_far : Stat) → so_far ≡ stat_of slots → AllRising slots → length slots < 2 ^ 64 → TellsStat slots so_far
total_tells slots so_far is R few dims homes h S =
    let links = tells_links dims slots homes h S R in
    let all = slot_total slots in
    let a : so_far.nodes ≡ capped (node_count slots) = ap (λ (z : Stat). z.nodes) is in
    let b : so_far.tables ≡ capped (table_count slots) = ap (λ (z : Stat). z.tables) is in
    let c : so_far.proper ≡ capped (proper_count slots) = ap (λ (z : Stat). z.proper) is in
    omega arith
