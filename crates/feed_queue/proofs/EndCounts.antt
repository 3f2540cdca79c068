-- Where as many Ends were drawn as there are feeders, each feeder's End was drawn.
use Rattle.std.proofs.Common.{◌≡◌, ◌≢◌, ℕ, zero, suc, ◌+◌, ◌≤◌, ⊎_elim, eqb, eq-eqb, ne_eqb, Bool, true, false, cond, List, [], ◌∷◌, ◌++◌, All, sym, refl, ap, ◌∙◌, subst, arith}
use Rattle.std.proofs.lemmas.List.Elements.{All-tail}
use Rattle.std.proofs.lemmas.Bool.Decides.{eqb_tells}
use Rattle.world_core.specs.declared.entry.Entry.{Entry}
use Rattle.feed_queue.specs.declared.item.Item.{Item}
use Rattle.feed_queue.specs.declared.item.Item.TheVariants.{One, End}
use Rattle.feed_queue.specs.Ends.{DrawState, having_drawn, EndsByCount}
use Rattle.feed_queue.specs.Items.{feeder_of, items_of, ends_in, has_end, count_ends, IsInOrder}

abbrev bit : Bool → ℕ
bit true = 1
bit false = 0

-- of one feeder, at most one End
one_end : (n : ℕ) (is : List Item) → IsInOrder n is → count_ends is ≡ bit (ends_in is)
one_end n [] o = refl
one_end n (One e ∷ is) o = one_end (n + 1) is o.1
one_end n (End g m ∷ is) o = let e : count_ends is ≡ 0 = ap count_ends o.1 in let f : suc (count_ends is) ≡ 1 = omega arith in f

-- f of each number from 1 to n, added up
abbrev total : (ℕ → ℕ) → ℕ → ℕ
total f zero = 0
total f (suc n) = total f n + f (suc n)

total_same : (f g : ℕ → ℕ) (n : ℕ) → ((k : ℕ) → f k ≡ g k) → total f n ≡ total g n
total_same f g zero h = refl
total_same f g (suc n) h = let a = total_same f g n h in let b = h (suc n) in omega arith

total_zero : (n : ℕ) → total (λ k. 0) n ≡ 0
total_zero zero = refl
total_zero (suc n) = let a = total_zero n in omega arith

-- one number's own part more
total_more : (f g : ℕ → ℕ) (at n : ℕ) → 1 ≤ at → at ≤ n → f at ≡ suc (g at) → ((k : ℕ) → k ≢ at → f k ≡ g k) → total f n ≡ suc (total g n)
total_more f g at zero low high here else = absurd (omega arith)
total_more f g at (suc n) low high here else = ⊎_elim
    (λ (t : (eqb (suc n) at ≡ true) × (suc n ≡ at)).
    let h : f (suc n) ≡ suc (g (suc n)) = subst (λ (k : ℕ). f k ≡ suc (g k)) (sym t.1) here in
    let r : total f n ≡ total g n = below f g at n (λ (k : ℕ) (less : k ≤ n). else k (λ (s : k ≡ at). let q : suc n ≡ at = t.1 in omega arith)) in
    omega arith)
    (λ (t : (eqb (suc n) at ≡ false) × (suc n ≢ at)).
    let ne : suc n ≢ at = t.1 in
    let r = total_more f g at n low (omega arith) here else in
    let s = else (suc n) t.1 in
    omega arith)
    (eqb_tells (suc n) at)
  where
    below : (f g : ℕ → ℕ) (at n : ℕ) → ((k : ℕ) → k ≤ n → f k ≡ g k) → total f n ≡ total g n
    below f g at zero h = refl
    below f g at (suc n) h = let a = below f g at n (λ k less. h k (omega arith)) in let b = h (suc n) (omega arith) in omega arith

-- each End is of one feeder
shared_out : (is : List Item) (n : ℕ) → All (λ (i : Item). (1 ≤ feeder_of i) × (feeder_of i ≤ n)) is → total (λ f. count_ends (items_of f is)) n ≡ count_ends is
shared_out [] n from = total_zero n
shared_out (One e ∷ is) n from =
    total_same (λ f. count_ends (items_of f (One e ∷ is))) (λ f. count_ends (items_of f is)) n (λ f. passed e f (items_of f is) (eqb e.feeder f)) ∙ shared_out is n (All-tail (λ (i : Item). (1 ≤ feeder_of i) × (feeder_of i ≤ n)) (One e) is from)
  where
    passed : (e : Entry) (f : ℕ) (l : List Item) (b : Bool) → count_ends (cond b (One e ∷ l) l) ≡ count_ends l
    passed e f l true = refl
    passed e f l false = refl
shared_out (End g m ∷ is) n from =
    let mine = from 0 (End g m) (omega arith) in
    total_more (λ f. count_ends (items_of f (End g m ∷ is))) (λ f. count_ends (items_of f is)) g n mine.0 mine.1
    (ap (λ b. count_ends (cond b (End g m ∷ items_of g is) (items_of g is))) (eq-eqb g g refl))
    (λ k ne. ap (λ b. count_ends (cond b (End g m ∷ items_of k is) (items_of k is))) (ne_eqb g k (λ (s : g ≡ k). ne (sym s))))
    ∙ ap suc (shared_out is n (All-tail (λ (i : Item). (1 ≤ feeder_of i) × (feeder_of i ≤ n)) (End g m) is from))

total_most : (b : ℕ → Bool) (n : ℕ) → total (λ k. bit (b k)) n ≤ n
total_most b zero = omega arith
total_most b (suc n) = let a = total_most b n in let c = at_most (b (suc n)) in omega arith
  where
    at_most : (x : Bool) → bit x ≤ 1
    at_most true = omega arith
    at_most false = omega arith

all_true : (b : ℕ → Bool) (n f : ℕ) → total (λ k. bit (b k)) n ≡ n → 1 ≤ f → f ≤ n → b f ≡ true
all_true b zero f all low high = absurd (omega arith)
all_true b (suc n) f all low high =
    let most = total_most b n in
    let last : b (suc n) ≡ true = is_true (b (suc n)) (total (λ k. bit (b k)) n) n all most in
    let rest : total (λ k. bit (b k)) n ≡ n = (let e : bit (b (suc n)) ≡ 1 = ap bit last in omega arith) in
    ⊎_elim (λ (t : (eqb f (suc n) ≡ true) × (f ≡ suc n)). ap b t.1 ∙ last)
    (λ (t : (eqb f (suc n) ≡ false) × (f ≢ suc n)). let ne : f ≢ suc n = t.1 in all_true b n f rest low (omega arith)) (eqb_tells f (suc n))
  where
    is_true : (x : Bool) (s n : ℕ) → s + bit x ≡ suc n → s ≤ n → x ≡ true
    is_true true s n e most = refl
    is_true false s n e most = absurd (omega arith)

pub all_ended : (is : List Item) (n f : ℕ) → All (λ (i : Item). (1 ≤ feeder_of i) × (feeder_of i ≤ n)) is → ((g : ℕ) → IsInOrder 0 (items_of g is)) → count_ends is ≡ n → 1 ≤ f → f ≤ n → has_end f is ≡ true
all_ended is n f from ordered count low high =
    all_true (λ g. has_end g is) n f
    (sym (total_same (λ g. count_ends (items_of g is)) (λ g. bit (has_end g is)) n (λ g. one_end 0 (items_of g is) (ordered g))) ∙ shared_out is n from ∙ count) low high

pub ends_by_count : EndsByCount
ends_by_count end is count f low high = all_ended end.drawn end.feeders f is.from is.ordered count low high

count_ends-append : (a b : List Item) → count_ends (a ++ b) ≡ count_ends a + count_ends b
count_ends-append [] b = omega arith
count_ends-append (One e ∷ a) b = count_ends-append a b
count_ends-append (End f n ∷ a) b = let e = count_ends-append a b in omega arith

-- an entry that is drawn leaves the number of Ends
pub count_ends-entry : (before after : DrawState) (i : Item) (e : Entry) → after ≡ having_drawn before i → i ≡ One e → count_ends after.drawn ≡ count_ends before.drawn
count_ends-entry before after i e drawn is =
    let more = count_ends-append before.drawn (One e ∷ []) in
    ap (λ (x : DrawState). count_ends x.drawn) drawn ∙ ap (λ x. count_ends (before.drawn ++ x ∷ [])) is ∙ omega arith

-- and an End adds one
pub count_ends-end : (before after : DrawState) (i : Item) (f n : ℕ) → after ≡ having_drawn before i → i ≡ End f n → count_ends after.drawn ≡ count_ends before.drawn + 1
count_ends-end before after i f n drawn is =
    let more = count_ends-append before.drawn (End f n ∷ []) in
    ap (λ (x : DrawState). count_ends x.drawn) drawn ∙ ap (λ x. count_ends (before.drawn ++ x ∷ [])) is ∙ omega arith
