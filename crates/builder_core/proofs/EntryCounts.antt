-- How many entries of each feeder, and of all feeders, are among some items.
use Rattle.std.proofs.Common.{◌≡◌, ◌≢◌, ℕ, ◌+◌, ◌^◌, ◌≤◌, ◌<◌, ⊎_elim, eqb, cond, true, false, List, [], ◌∷◌, ◌++◌, length, length-append, append_assoc, append-nil, sym, refl, ap, ◌∙◌, subst, arith}
use Rattle.std.specs.List.{sum_by, range_with_len}
use Rattle.std.proofs.lemmas.Bool.{cases_eq}
use Rattle.std.proofs.lemmas.List.Sums.{sum_by-cons, sum_by-le}
use Rattle.std.proofs.lemmas.List.FromFn.{length-range_with_len}
use Rattle.cube_view.specs.Bag.{most_points}
use Rattle.world_core.specs.Interleaving.{entries_of}
use Rattle.world_core.specs.declared.entry.Entry.{Entry}
use Rattle.world_core.proofs.FeederSums.{sum_by_feeders}
use Rattle.feed_queue.specs.declared.item.Item.{Item}
use Rattle.feed_queue.specs.declared.item.Item.TheVariants.{One, End}
use Rattle.feed_queue.specs.Items.{items_of, entries_in, count_entries}
use Rattle.feed_queue.proofs.ItemOrder.{items_append, entries_append, entries_items, entries_all, own_item, other_item}
use Rattle.builder_core.specs.Numbering.{AreNumbered, AreOf, EntriesAreFew}

count_entries-push : (f : ℕ) (items : List Item) (i : Item) → count_entries f (items ++ i ∷ []) ≡ count_entries f items + length (entries_in (items_of f (i ∷ [])))
count_entries-push f items i =
    ap (λ l. length (entries_in l)) (items_append f items (i ∷ [])) ∙ (ap length (entries_append (items_of f items) (items_of f (i ∷ []))) ∙ length-append (entries_in (items_of f items)) (entries_in (items_of f (i ∷ []))))

-- with one entry more that has the next number
pub numbers-entry : (items : List Item) (e : Entry) → ((f : ℕ) → count_entries f items ≤ 2 ^ 32) → e.number < 2 ^ 32 → e.number ≡ count_entries e.feeder items → (f : ℕ) → count_entries f (items ++ One e ∷ []) ≤ 2 ^ 32
numbers-entry items e few small next f =
    let push = count_entries-push f items (One e) in
    ⊎_elim
    (λ (own : e.feeder ≡ f).
    let one : length (entries_in (items_of f (One e ∷ []))) ≡ 1 = ap (λ l. length (entries_in l)) (own_item f (One e) own) in
    let here : e.number ≡ count_entries f items = subst (λ k. e.number ≡ count_entries k items) own next in
    omega (arith, push, one, here, small))
    (λ (other : e.feeder ≢ f).
    let none : length (entries_in (items_of f (One e ∷ []))) ≡ 0 = ap (λ l. length (entries_in l)) (other_item f (One e) other) in
    omega (arith, push, none, few f))
    (cases_eq e.feeder f)

-- with an End more
pub numbers-end : (items : List Item) (g m : ℕ) → ((f : ℕ) → count_entries f items ≤ 2 ^ 32) → (f : ℕ) → count_entries f (items ++ End g m ∷ []) ≤ 2 ^ 32
numbers-end items g m few f =
    let push = count_entries-push f items (End g m) in
    let none : length (entries_in (items_of f (End g m ∷ []))) ≡ 0 = elim (eqb g f) as (λ b. length (entries_in (cond b (End g m ∷ []) [])) ≡ 0) [ true ↦ refl | false ↦ refl ] in
    omega (arith, push, none, few f)

-- each entry counts as one
length-entries : (entries : List Entry) → length entries ≡ sum_by (λ (e : Entry). 1) entries
length-entries [] = refl
length-entries (e ∷ entries) = let rest = length-entries entries in let a = sum_by-cons (λ (x : Entry). 1) e entries in omega (arith, rest, a)

-- all entries together
pub entries_few : (n : ℕ) (items : List Item) → n ≤ 8 → AreOf n items → ((f : ℕ) → count_entries f items ≤ 2 ^ 32) → length (entries_in items) ≤ most_points
entries_few n items eight from few =
    let all = sum_by_feeders (λ (x : Entry). 1) n (entries_in items) (entries_all (λ f. (1 ≤ f) × (f ≤ n)) items from) in
    let each : (f : ℕ) → sum_by (λ (x : Entry). 1) (entries_of f (entries_in items)) ≤ 2 ^ 32 = λ f.
    let same : sum_by (λ (x : Entry). 1) (entries_of f (entries_in items)) ≡ count_entries f items = sym (length-entries (entries_of f (entries_in items))) ∙ ap length (entries_items f items) in
    omega (arith, same, few f) in
    let bound = sum_by-le (λ f. sum_by (λ (x : Entry). 1) (entries_of f (entries_in items))) (2 ^ 32) (range_with_len 1 n) (λ k d less. each _) in
    let count = length-range_with_len 1 n in
    let one = length-entries (entries_in items) in
    omega (arith, all, bound, count, one, eight)

-- the numbers of some front bound those of all
from_front : (done rest items : List Item) → items ≡ done ++ rest → AreNumbered items → ((f : ℕ) → count_entries f done ≤ 2 ^ 32) → (f : ℕ) → count_entries f items ≤ 2 ^ 32
from_front done [] items is numbered few f = subst (λ l. count_entries f l ≤ 2 ^ 32) (sym (is ∙ append-nil done)) (few f)
from_front done (One e ∷ rest) items is numbered few f =
    let own = numbered done e rest is in
    from_front (done ++ One e ∷ []) rest items (is ∙ sym (append_assoc done (One e ∷ []) rest)) numbered (numbers-entry done e few own.0 own.1) f
from_front done (End g m ∷ rest) items is numbered few f =
    from_front (done ++ End g m ∷ []) rest items (is ∙ sym (append_assoc done (End g m ∷ []) rest)) numbered (numbers-end done g m few) f

pub entries_are_few : EntriesAreFew
entries_are_few n items eight from numbered = entries_few n items eight from (from_front [] items items refl numbered (λ f. omega arith))
