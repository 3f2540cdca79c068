-- What the slots of an image are like: they can be read one by one, their tables count records, and the image is
-- theirs.
use Rattle.std.proofs.Common.{◌≡◌, ℕ, zero, suc, ◌+◌, ◌<◌, ◌≤◌, ◌⊎◌, true, false, eqb, List, [], ◌∷◌, length, get_or, map, Option, Some, IfSome, sym, subst, ◌∙◌, arith, inl, inr}
use Rattle.std.specs.FinMap.{empty, entries, values, len-entries, len-empty}
use Rattle.std.specs.Ordering.{nat_cmp}
use Rattle.std.specs.List.{AllByRecursion}
use Rattle.std.proofs.lemmas.List.{length-map}
use Rattle.std.proofs.lemmas.List.Elements.{All-from_recursion}
use Rattle.time_table.specs.Counts.{AllCounted}
use Rattle.cube_view.specs.Walks.{Step, down, across}
use Rattle.node_arena.specs.declared.link.Link.{Link}
use Rattle.node_arena.specs.Slots.{target, Children, IsRising, Slot, node, table, empty_node, slot_of, children_of, counts_of, child, link}
use Rattle.cube_image.specs.Conditions.{IsReadable}
use Rattle.cube_image.specs.Cubes.{TellsOwnImage}
use Rattle.cube_image.specs.Image.{IsImageOf}
use Rattle.time_table.specs.Rows.{AreRows}
use Rattle.image_parse.specs.Images.{AreChildren, IsContent, IsImageSlot}
use Rattle.image_parse.specs.Laws.{TellsOrderly}
use Rattle.image_parse.proofs.Fields.{chosen}

-- ---- children

children_from : (n from : ℕ) (cs : Children) → AreChildren n from cs → (i : ℕ) (d : ℕ × Link) → i < length cs → from ≤ (get_or cs i d).0
children_from n from [] fit i d lt = absurd (omega arith)
children_from n from (c ∷ cs) fit zero d lt = fit.0
children_from n from (c ∷ cs) fit (suc i) d lt =
    let r = children_from n (c.0 + 1) cs fit.3 i d (omega arith) in
    let low : from ≤ c.0 = fit.0 in
    omega arith

pub children_rise : (n from : ℕ) (cs : Children) → AreChildren n from cs → IsRising cs
children_rise n from [] fit i j d lt lj = absurd (omega arith)
children_rise n from (c ∷ cs) fit i zero d lt lj = absurd (omega arith)
children_rise n from (c ∷ cs) fit zero (suc j) d lt lj = let r = children_from n (c.0 + 1) cs fit.3 j d (omega arith) in omega arith
children_rise n from (c ∷ cs) fit (suc i) (suc j) d lt lj = children_rise n (c.0 + 1) cs fit.3 i j d (omega arith) (omega arith)

child_within : (n from : ℕ) (cs : Children) → AreChildren n from cs → (label : ℕ) (l : Link) → child cs label ≡ Some l → target l < n
child_within n from [] fit label l e = absurd cc
child_within n from (c ∷ cs) fit label l e = go (chosen (eqb c.0 label) (Some c.1) (child cs label) (Some l) e) (child_within n (c.0 + 1) cs fit.3 label l)
  where
    go : ((eqb c.0 label ≡ true) × (Some c.1 ≡ Some l)) ⊎ ((eqb c.0 label ≡ false) × (child cs label ≡ Some l)) → (child cs label ≡ Some l → target l < n) → target l < n
    go (inl p) rest = let same : c.1 ≡ l = cc p.1 in subst (λ (k : Link). target k < n) same fit.2
    go (inr p) rest = rest p.1

-- ---- slots

slot_rises : (n : ℕ) (s : Slot) → IsImageSlot n s → IsRising (children_of s)
slot_rises n (node cs content) fit = children_rise n 0 cs fit.0
slot_rises n (table counts) fit = λ i j d lt lj. absurd (omega arith)

link_within : (n : ℕ) (s : Slot) → IsImageSlot n s → (e : Step) (l : Link) → link s e ≡ Some l → target l < n
link_within n (node cs content) fit (down label) l e = child_within n 0 cs fit.0 label l e
link_within n (node cs content) fit across l e = let F : IfSome (Some l) (λ k. target k < n) = subst (λ (o : Option Link). IsContent n o) e fit.1 in F
link_within n (table counts) fit e l is = absurd cc

rows_counted : (from : ℕ) (es : List (ℕ × ℕ)) → AreRows from es → AllByRecursion (λ (n : ℕ). 0 < n) (map (λ (e : ℕ × ℕ). e.1) es)
rows_counted from [] fit = tt
rows_counted from (e ∷ es) fit = (fit.2, rows_counted (e.0 + 1) es fit.4)

nothing_counted : AllCounted (counts_of empty_node)
nothing_counted =
    let none : length (values (empty {K = ℕ} {X = ℕ} {R = nat_cmp})) ≡ 0 = length-map (entries (empty {K = ℕ} {X = ℕ} {R = nat_cmp})) (λ (e : ℕ × ℕ). e.1) ∙ (sym (len-entries (empty {K = ℕ} {X = ℕ} {R = nat_cmp})) ∙ len-empty nat_cmp ℕ) in
    λ k d lt. absurd (omega (arith, lt, none))

slot_counted : (n : ℕ) (s : Slot) → IsImageSlot n s → AllCounted (counts_of s)
slot_counted n (node cs content) fit = nothing_counted
slot_counted n (table counts) fit = All-from_recursion (λ (k : ℕ). 0 < k) (values counts) (rows_counted 0 (entries counts) fit)

-- ---- all slots

fit_at : (n : ℕ) (slots : List Slot) → AllByRecursion (IsImageSlot n) slots → (i : ℕ) → IsImageSlot n (slot_of slots i)
fit_at n [] fit i = (tt, tt)
fit_at n (s ∷ slots) fit zero = fit.0
fit_at n (s ∷ slots) fit (suc i) = fit_at n slots fit.1 i

all_slots : (n : ℕ) (P : Slot → Type 0) → ((s : Slot) → IsImageSlot n s → P s) → (slots : List Slot) → AllByRecursion (IsImageSlot n) slots → AllByRecursion P slots
all_slots n P each [] fit = tt
all_slots n P each (s ∷ slots) fit = (each s fit.0, all_slots n P each slots fit.1)

-- the slots of an image are orderly
pub orderly : TellsOwnImage → TellsOrderly
orderly own bytes size slots I =
    let n = length slots in
    let R : IsReadable slots = record {
      rising = All-from_recursion (λ (s : Slot). IsRising (children_of s)) slots (all_slots n (λ (s : Slot). IsRising (children_of s)) (slot_rises n) slots I.fit);
      targets = λ i e l is. link_within n (slot_of slots i) (fit_at n slots I.fit i) e l is;
    } in
    record {
      readable = R;
      counted = All-from_recursion (λ (s : Slot). AllCounted (counts_of s)) slots (all_slots n (λ (s : Slot). AllCounted (counts_of s)) (slot_counted n) slots I.fit);
      image = subst (IsImageOf slots size) (sym I.text) (own slots R I.numbered size);
    }
