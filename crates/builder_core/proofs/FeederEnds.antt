-- How many feeders' Ends are among some items.
use Rattle.std.proofs.Common.{◌≡◌, ◌≢◌, ℕ, zero, suc, ◌+◌, ◌≤◌, ◌<◌, ⊎_elim, eqb, eq-eqb, ne_eqb, Bool, true, false, true≢false, ◌&&◌, ◌||◌, cond, List, [], ◌∷◌, ◌++◌, sym, refl, ap, ◌∙◌, subst, arith}
use Rattle.std.proofs.lemmas.Bool.Decides.{eqb_tells}
use Rattle.std.proofs.Math.Bool.{or-false, or-true}
use Rattle.std.proofs.lemmas.Bool.{and_parts, false_from_ne_true}
use Rattle.world_core.specs.declared.entry.Entry.{Entry}
use Rattle.feed_queue.specs.declared.item.Item.{Item}
use Rattle.feed_queue.specs.declared.item.Item.TheVariants.{One, End}
use Rattle.feed_queue.specs.Items.{has_end}
use Rattle.feed_queue.proofs.ItemOrder.{has_end_entry, has_end_end}
use Rattle.builder_core.specs.Endings.{all_ended, count_ended, EachEnded}

bit_same : (a b : Bool) (x y : ℕ) → a ≡ b → x ≡ y → cond a 1 0 + x ≡ cond b 1 0 + y
bit_same a b x y e f = ap (λ c. cond c 1 0 + x) e ∙ ap (λ z. cond b 1 0 + z) f

bit_more : (a b : Bool) (x y : ℕ) → a ≡ true → b ≡ false → x ≡ y → cond a 1 0 + x ≡ suc (cond b 1 0 + y)
bit_more a b x y e f same = ap (λ c. cond c 1 0 + x) e ∙ (let g : 1 + x ≡ suc (0 + y) = omega arith in g) ∙ ap (λ c. suc (cond c 1 0 + y)) (sym f)

pub count_ended-none : (n : ℕ) → count_ended n [] ≡ 0
count_ended-none zero = refl
count_ended-none (suc n) = let none = count_ended-none n in omega arith

-- an entry ends no feeder
pub count_ended-entry : (n : ℕ) (items : List Item) (e : Entry) → count_ended n (items ++ One e ∷ []) ≡ count_ended n items
count_ended-entry zero items e = refl
count_ended-entry (suc n) items e = bit_same _ _ _ _ (has_end_entry (suc n) items e) (count_ended-entry n items e)

-- an End is its own feeder's alone
has_end-other : (f g m : ℕ) (items : List Item) → g ≢ f → has_end f (items ++ End g m ∷ []) ≡ has_end f items
has_end-other f g m items other = has_end_end f items g m ∙ (ap (λ b. has_end f items || b) (ne_eqb g f other) ∙ or-false (has_end f items))

has_end-own : (f g m : ℕ) (items : List Item) → g ≡ f → has_end f (items ++ End g m ∷ []) ≡ true
has_end-own f g m items own = has_end_end f items g m ∙ (ap (λ b. has_end f items || b) (eq-eqb g f own) ∙ or-true (has_end f items))

count_ended-later : (n g m : ℕ) (items : List Item) → n < g → count_ended n (items ++ End g m ∷ []) ≡ count_ended n items
count_ended-later zero g m items less = refl
count_ended-later (suc n) g m items less = bit_same _ _ _ _ (has_end-other (suc n) g m items (λ (e : g ≡ suc n). omega arith)) (count_ended-later n g m items (omega arith))

-- the End of a feeder that had not ended is one more
pub count_ended-end : (n g m : ℕ) (items : List Item) → 1 ≤ g → g ≤ n → has_end g items ≡ false → count_ended n (items ++ End g m ∷ []) ≡ suc (count_ended n items)
count_ended-end zero g m items low high new = absurd (omega arith)
count_ended-end (suc n) g m items low high new = ⊎_elim
    (λ (t : (eqb g (suc n) ≡ true) × (g ≡ suc n)).
    bit_more _ _ _ _ (has_end-own (suc n) g m items t.1) (subst (λ k. has_end k items ≡ false) t.1 new) (count_ended-later n g m items (let e : g ≡ suc n = t.1 in omega arith)))
    (λ (t : (eqb g (suc n) ≡ false) × (g ≢ suc n)).
    let other : g ≢ suc n = t.1 in
    let rest = count_ended-end n g m items low (omega arith) new in
    ap (λ c. cond c 1 0 + count_ended n (items ++ End g m ∷ [])) (has_end-other (suc n) g m items other) ∙ (ap (λ z. cond (has_end (suc n) items) 1 0 + z) rest ∙ omega arith))
    (eqb_tells g (suc n))

most : (b : Bool) (c n : ℕ) → c ≤ n → cond b 1 0 + c ≤ suc n
most true c n le = omega arith
most false c n le = omega arith

pub count_ended-most : (n : ℕ) (items : List Item) → count_ended n items ≤ n
count_ended-most zero items = omega arith
count_ended-most (suc n) items = most (has_end (suc n) items) (count_ended n items) n (count_ended-most n items)

whole : (b a : Bool) (c n : ℕ) → c ≤ n → (c ≡ n → a ≡ true) → cond b 1 0 + c ≡ suc n → (b && a) ≡ true
whole true a c n le rest e = rest (omega arith)
whole false a c n le rest e = absurd (omega arith)

-- where so many have ended, all have
pub all_ended-whole : (n : ℕ) (items : List Item) → count_ended n items ≡ n → all_ended n items ≡ true
all_ended-whole zero items e = refl
all_ended-whole (suc n) items e = whole (has_end (suc n) items) (all_ended n items) (count_ended n items) n (count_ended-most n items) (all_ended-whole n items) e

part : (b a : Bool) (c n : ℕ) → (c < n → a ≡ false) → cond b 1 0 + c < suc n → (b && a) ≡ false
part true a c n rest e = rest (omega arith)
part false a c n rest e = refl

-- and where fewer have, not all have
pub all_ended-part : (n : ℕ) (items : List Item) → count_ended n items < n → all_ended n items ≡ false
all_ended-part zero items e = absurd (omega arith)
all_ended-part (suc n) items e = part (has_end (suc n) items) (all_ended n items) (count_ended n items) n (all_ended-part n items) e

-- the test tells of each feeder
pub each_ended : (n : ℕ) (items : List Item) → all_ended n items ≡ true → EachEnded n items
each_ended zero items all f low high = absurd (omega arith)
each_ended (suc n) items all f low high =
    let parts = and_parts (has_end (suc n) items) (all_ended n items) all in
    ⊎_elim
    (λ (t : (eqb f (suc n) ≡ true) × (f ≡ suc n)). ap (λ k. has_end k items) t.1 ∙ parts.0)
    (λ (t : (eqb f (suc n) ≡ false) × (f ≢ suc n)). let other : f ≢ suc n = t.1 in each_ended n items parts.1 f low (omega arith))
    (eqb_tells f (suc n))

pub each_tested : (n : ℕ) (items : List Item) → EachEnded n items → all_ended n items ≡ true
each_tested zero items each = refl
each_tested (suc n) items each =
    ap (λ b. b && all_ended n items) (each (suc n) (omega arith) (omega arith)) ∙ each_tested n items (λ f low high. each f low (omega arith))

-- a feeder that has not ended keeps the test from holding
pub all_ended-open : (n f : ℕ) (items : List Item) → 1 ≤ f → f ≤ n → has_end f items ≡ false → all_ended n items ≡ false
all_ended-open n f items low high open_ = false_from_ne_true (all_ended n items) (λ (all : all_ended n items ≡ true). true≢false (sym (each_ended n items all f low high) ∙ open_))
