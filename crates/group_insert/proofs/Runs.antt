-- A run of a part's points: how it is gathered, and how a table takes it.
use Rattle.std.proofs.Common.{◌≡◌, ℕ, ◌+◌, ◌<◌, ◌≤◌, ◌^◌, true, false, cond, eqb, inl, inr, List, [], ◌∷◌, ◌++◌, All, AllPairs, length, take, set, get_or, refl, sym, ap, ◌∙◌, subst, arith}
use Rattle.std.proofs.lemmas.Bool.{cases_eq}
use Rattle.std.proofs.lemmas.List.{take_all, take_more_set, set-get_or}
use Rattle.std.proofs.lemmas.List.Elements.{All-nil, All-cons, All-append, All-weaker, All-get_or}
use Rattle.std.proofs.lemmas.List.Quantifiers.{all_pairs_push}
use Rattle.std.proofs.lemmas.List.Sums.{sum_by-append, sum_by-cons, sum_by_more, sum_by-take-le}
use Rattle.std.specs.List.{sum_by}
use Rattle.cube_view.specs.Points.{Point, spot_of, weight_of_point}
use Rattle.time_table.specs.Counts.{IsBinRun, amount_at, run_total, total_count}
use Rattle.time_table.proofs.Runs.{total_count-add_run}
use Rattle.node_arena.specs.Slots.{Slot, node, table, empty_node, slot_of, counts_of, is_table}
use Rattle.node_arena.specs.Calls.{with_run, table_add_many, table_add_run}
use Rattle.arena_undo.proofs.RunTrail.{run_none, table_add_run-cons}
use Rattle.proper_path.proofs.SpotRemainders.{turned}
use Rattle.arena_undo.proofs.Backward.{slot-set}
use Rattle.proper_path.specs.Changes.{IsAdded}
use Rattle.group_insert.specs.Added.{IsOneBin, IsRunOf, amount_in, part_weight}
use Rattle.group_insert.proofs.TableAmounts.{added_none, added_more}

-- how much one point has in a bin
abbrev gives : ℕ → Point → ℕ
gives b p = cond (eqb (spot_of p).bin b) (weight_of_point p) 0

-- the first point of a bin ..
pub one_bin_start : (part : List Point) (from : ℕ) (d : Point) → from < length part → 0 < weight_of_point (get_or part from d) → IsOneBin part from (from + 1) (spot_of (get_or part from d)).bin (weight_of_point (get_or part from d))
one_bin_start part from d less some = record {
  further = omega arith;
  within = omega arith;
  some = some;
  amounts = λ b. sym (sum_by_more (gives b) part from d less);
  total = sym (sum_by_more (λ (p : Point). weight_of_point p) part from d less);
}

-- .. and one more
pub one_bin_more : (part : List Point) (from i bin n : ℕ) (d : Point) → i < length part → (spot_of (get_or part i d)).bin ≡ bin → IsOneBin part from i bin n → IsOneBin part from (i + 1) bin (n + weight_of_point (get_or part i d))
one_bin_more part from i bin n d less same B = record {
  further = let f = B.further in omega (arith, f);
  within = omega arith;
  some = let s = B.some in omega (arith, s);
  amounts = λ b.
      let before = B.amounts b in
      let next = sum_by_more (gives b) part i d less in
      let here : cond (eqb (spot_of (get_or part i d)).bin b) (weight_of_point (get_or part i d)) 0 ≡ cond (eqb bin b) (weight_of_point (get_or part i d)) 0 = ap (λ k. cond (eqb k b) (weight_of_point (get_or part i d)) 0) same in
      let both = elim (eqb bin b) as (λ c. cond c (n + weight_of_point (get_or part i d)) 0 ≡ cond c n 0 + cond c (weight_of_point (get_or part i d)) 0) [ true ↦ refl | false ↦ refl ] in
      omega (arith, before, next, here, both);
  total =
      let before = B.total in
      let next = sum_by_more (λ (p : Point). weight_of_point p) part i d less in
      omega (arith, before, next);
}

pub one_bin_fits : (part : List Point) (from i bin n : ℕ) (d : Point) → i < length part → part_weight part ≤ 2 ^ 63 → IsOneBin part from i bin n → n + weight_of_point (get_or part i d) ≤ 2 ^ 63
one_bin_fits part from i bin n d less light B =
    let before = B.total in
    let next = sum_by_more (λ (p : Point). weight_of_point p) part i d less in
    let all = sum_by-take-le (λ (p : Point). weight_of_point p) part (i + 1) in
    omega (arith, before, next, all, light)

-- the first len amounts of a list are those of the points from one place to another, and the next bin is `least` or
-- later
pub record IsGathering (part : List Point) (from place least len : ℕ) (run : List (ℕ × ℕ)) : Type 0 where
  pub within : place ≤ length part
  pub none : len ≡ 0 → (place ≡ from) × (least ≡ 0)
  pub further : 0 < len → from < place
  pub rising : IsBinRun (take len run)
  pub below : All (λ (a : ℕ × ℕ). a.0 < least) (take len run)
  pub amounts : (b : ℕ) → amount_in (take from part) b + amount_at b (take len run) ≡ amount_in (take place part) b
  pub total : part_weight (take from part) + run_total (take len run) ≡ part_weight (take place part)

pub gather_start : (part : List Point) (from : ℕ) (run : List (ℕ × ℕ)) → from < length part → IsGathering part from from 0 0 run
gather_start part from run less = record {
  within = omega arith;
  none = λ e. (refl, refl);
  further = λ more. absurd (omega arith);
  rising = record { some = All-nil (λ (a : ℕ × ℕ). 0 < a.1); rises = λ i j d lt within. absurd (omega arith) };
  below = All-nil (λ (a : ℕ × ℕ). a.0 < 0);
  amounts = λ b. omega arith;
  total = omega arith;
}

pub gather_more : (part : List Point) (from place least next len end bin n : ℕ) (run : List (ℕ × ℕ)) → len < length run → least ≤ bin → IsGathering part from place least len run → IsOneBin part place end bin n → next ≡ bin + 1 → IsGathering part from end next (len + 1) (set run len (bin, n))
gather_more part from place least next len end bin n run less high G B after = record {
  within = B.within;
  none = λ e. absurd (omega arith);
  further = λ more. reached;
  rising = record {
    some = subst (All (λ (a : ℕ × ℕ). 0 < a.1)) (sym pushed) (All-append (λ (a : ℕ × ℕ). 0 < a.1) (take len run) ((bin, n) ∷ []) G.rising.some (All-cons (λ (a : ℕ × ℕ). 0 < a.1) (bin, n) [] B.some (All-nil (λ (a : ℕ × ℕ). 0 < a.1))));
    rises = subst (AllPairs (λ (a b : ℕ × ℕ). a.0 < b.0)) (sym pushed) (all_pairs_push (λ (a b : ℕ × ℕ). a.0 < b.0) (take len run) (bin, n) G.rising.rises (λ k d lt. let low = All-get_or (λ (a : ℕ × ℕ). a.0 < least) (take len run) k d lt G.below in omega (arith, low, high)));
  };
  below = subst (All (λ (a : ℕ × ℕ). a.0 < next)) (sym pushed) (All-append (λ (a : ℕ × ℕ). a.0 < next) (take len run) ((bin, n) ∷ [])
      (All-weaker (λ (a : ℕ × ℕ). a.0 < least) (λ (a : ℕ × ℕ). a.0 < next) (λ (a : ℕ × ℕ) (low : a.0 < least). omega (arith, low, high)) (take len run) G.below)
      (All-cons (λ (a : ℕ × ℕ). a.0 < next) (bin, n) [] (omega arith) (All-nil (λ (a : ℕ × ℕ). a.0 < next))));
  amounts = λ b.
      let f = λ (a : ℕ × ℕ). cond (eqb b a.0) a.1 0 in
      let e : amount_at b (take (len + 1) (set run len (bin, n))) ≡ amount_at b (take len run) + cond (eqb b bin) n 0 = ap (amount_at b) pushed ∙ sum_by-append f (take len run) ((bin, n) ∷ []) ∙ ap (λ k. amount_at b (take len run) + k) (one f) in
      let t : cond (eqb bin b) n 0 ≡ cond (eqb b bin) n 0 = ap (λ c. cond c n 0) (turned bin b) in
      let x = G.amounts b in
      let y = B.amounts b in
      omega (arith, e, t, x, y);
  total =
      let f = λ (a : ℕ × ℕ). a.1 in
      let e : run_total (take (len + 1) (set run len (bin, n))) ≡ run_total (take len run) + n = ap run_total pushed ∙ sum_by-append f (take len run) ((bin, n) ∷ []) ∙ ap (λ k. run_total (take len run) + k) (one f) in
      let x = G.total in
      let y = B.total in
      omega (arith, e, x, y);
}
  where
    pushed : take (len + 1) (set run len (bin, n)) ≡ take len run ++ (bin, n) ∷ []
    pushed = take_more_set run len (bin, n) less

    one : (f : ℕ × ℕ → ℕ) → sum_by f ((bin, n) ∷ []) ≡ f (bin, n)
    one f = omega (arith, sum_by-cons f (bin, n) [])

    reached : from < end
    reached = elim (cases_eq len 0) [
      | inl none ↦ let p = (G.none none).0 in let f = B.further in omega (arith, p, f)
      | inr some ↦ let p = G.further (omega (arith, some)) in let f = B.further in omega (arith, p, f)
    ]

pub gather_end : (part : List Point) (from place least len : ℕ) (run : List (ℕ × ℕ)) → 0 < len → IsGathering part from place least len run → IsRunOf part from place (take len run)
gather_end part from place least len run some G = record { further = G.further some; within = G.within; rising = G.rising; amounts = G.amounts; total = G.total }

-- a table takes a run
run_added : (run : List (ℕ × ℕ)) (old mid : List Slot) (i : ℕ) (more next : ℕ → ℕ) → IsAdded old mid i more → ((b : ℕ) → next b ≡ more b + amount_at b run) → IsAdded old (table_add_run mid i run) i next
run_added [] old mid i more next A sums =
    subst (λ z. IsAdded old z i next) (sym (ap (set mid i) (run_none (slot_of mid i)) ∙ set-get_or mid i empty_node)) (record {
      size = A.size;
      place = A.place;
      kind = A.kind;
      links = A.links;
      here = λ b. let x = A.here b in let y = sums b in omega (arith, x, y);
      old_count = A.old_count;
      old_kind = A.old_kind;
    })
run_added (a ∷ run) old mid i more next A sums =
    let with_one = λ (b : ℕ). more b + cond (eqb a.0 b) a.1 0 in
    subst (λ z. IsAdded old z i next) (sym (table_add_run-cons mid i a run (let p = A.place in let s = A.size in omega (arith, p, s))))
    (run_added run old (table_add_many mid i a.0 a.1) i with_one next (added_more old mid (table_add_many mid i a.0 a.1) i a.0 a.1 more with_one A refl (λ b. refl)) (λ b.
    let x = sums b in
    let y = sum_by-cons (λ (c : ℕ × ℕ). cond (eqb b c.0) c.1 0) a run in
    let t : cond (eqb a.0 b) a.1 0 ≡ cond (eqb b a.0) a.1 0 = ap (λ c. cond c a.1 0) (turned a.0 b) in
    omega (arith, x, y, t)))

total_with_run : (s : Slot) (run : List (ℕ × ℕ)) → is_table s ≡ true → total_count (counts_of (with_run s run)) ≡ total_count (counts_of s) + run_total run
total_with_run (table counts) run t = total_count-add_run counts run
total_with_run (node children content) run t = absurd cc

-- one run more of a part that is gone through
pub run_steps : (old mid new : List Slot) (i from to : ℕ) (part : List Point) (run : List (ℕ × ℕ)) → IsAdded old mid i (λ bin. amount_in (take from part) bin) → IsRunOf part from to run → new ≡ table_add_run mid i run → IsAdded old new i (λ bin. amount_in (take to part) bin)
run_steps old mid new i from to part run A R e =
    subst (λ z. IsAdded old z i (λ bin. amount_in (take to part) bin)) (sym e) (run_added run old mid i (λ bin. amount_in (take from part) bin) (λ bin. amount_in (take to part) bin) A (λ b. sym (R.amounts b)))

pub run_totals : (old mid new : List Slot) (i total from to : ℕ) (part : List Point) (run : List (ℕ × ℕ)) → IsAdded old mid i (λ bin. amount_in (take from part) bin) → IsRunOf part from to run → total_count (counts_of (slot_of mid i)) ≡ total + part_weight (take from part) → new ≡ table_add_run mid i run → total_count (counts_of (slot_of new i)) ≡ total + part_weight (take to part)
run_totals old mid new i total from to part run A R is e =
    let t = total_with_run (slot_of mid i) run (A.old_kind i ∙ A.kind) in
    let s = ap (λ z. total_count (counts_of (slot_of z i))) e ∙ ap (λ s. total_count (counts_of s)) (slot-set mid i (with_run (slot_of mid i) run) (let p = A.place in let z = A.size in omega (arith, p, z))) in
    let r = R.total in
    omega (arith, t, s, r, is)

pub run_fits : (now total from to : ℕ) (part : List Point) (run : List (ℕ × ℕ)) → IsRunOf part from to run → now ≡ total + part_weight (take from part) → total + part_weight part ≤ 2 ^ 63 → now + run_total run ≤ 2 ^ 63
run_fits now total from to part run R is fits =
    let r = R.total in
    let all = sum_by-take-le (λ (p : Point). weight_of_point p) part to in
    omega (arith, r, all, is, fits)

-- the whole part
pub all_counted : (old new : List Slot) (i from : ℕ) (part : List Point) → length part ≤ from → IsAdded old new i (λ bin. amount_in (take from part) bin) → IsAdded old new i (λ bin. amount_in part bin)
all_counted old new i from part end A = subst (λ points. IsAdded old new i (λ bin. amount_in points bin)) (take_all from part end) A

pub one_counted : (old new : List Slot) (i : ℕ) (part : List Point) (d : Point) → length part ≡ 1 → i < length old → is_table (slot_of old i) ≡ true → new ≡ table_add_many old i (spot_of (get_or part 0 d)).bin (weight_of_point (get_or part 0 d)) → IsAdded old new i (λ bin. amount_in part bin)
one_counted old new i part d one less kind e =
    added_more old old new i (spot_of (get_or part 0 d)).bin (weight_of_point (get_or part 0 d)) (λ b. amount_in [] b) (λ b. amount_in part b) (added_none old i less kind) e
    (λ b. ap (λ points. amount_in points b) (sym (take_all 1 part (omega arith))) ∙ sum_by_more (gives b) part 0 d (omega arith))
