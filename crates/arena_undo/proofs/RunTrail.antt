-- A trail of changes that grows by those of a run.
use Rattle.std.proofs.Common.{◌≡◌, ℕ, ◌+◌, ◌<◌, ◌≤◌, Bool, true, false, ltb, List, [], ◌∷◌, ◌++◌, All, set, take, length, refl, sym, ap, ◌∙◌, subst, arith, append_assoc}
use Rattle.std.proofs.lemmas.Bool.{ltb-true, ltb-false}
use Rattle.std.proofs.lemmas.List.{length-take-le, length-append, length-map, length-set, set-set, set-get_or, append-nil}
use Rattle.std.proofs.lemmas.List.Elements.{All-head, All-tail}
use Rattle.time_table.specs.Counts.{AllCounted}
use Rattle.time_table.proofs.AddLaws.{AllCounted-add_many}
use Rattle.node_arena.specs.declared.link.SlotId.{SlotId}
use Rattle.node_arena.specs.Slots.{Slot, node, table, empty_node, IsTable, is_table, counts_of, slot_of}
use Rattle.node_arena.specs.Calls.{with_many, with_run, table_add_many, table_add_run}
use Rattle.arena_undo.specs.declared.change.Change.{Change}
use Rattle.arena_undo.specs.declared.change.Change.TheVariants.{Counted}
use Rattle.arena_undo.specs.Undone.{counted_each, take_back, undone, CanUndo, with_notes}
use Rattle.arena_undo.specs.Trail.{IsChangeTrail}
use Rattle.arena_undo.specs.Worked.{Worked, changed_by}
use Rattle.arena_undo.proofs.Backward.{slot-set, is_counted, counted_back, counted_there}
use Rattle.arena_undo.proofs.Trails.{undone-push, can_push, worked, slot-old, old_at, new_at, noted_made, IsNoted}

-- a time table of the arena whose counts are all above 0
pub record IsCountedTable (slots : List Slot) (i : ℕ) : Type 0 where
  pub within : i < length slots
  pub kind : IsTable (slot_of slots i)
  pub counted : AllCounted (counts_of (slot_of slots i))

counted_with : (s : Slot) (bin n : ℕ) → 0 < n → AllCounted (counts_of s) → AllCounted (counts_of (with_many s bin n))
counted_with (node children content) bin n some all = all
counted_with (table counts) bin n some all = AllCounted-add_many counts bin n some all

still_table : (slots : List Slot) (i bin n : ℕ) → 0 < n → IsCountedTable slots i → IsCountedTable (table_add_many slots i bin n) i
still_table slots i bin n some T =
    let e = slot-set slots i (with_many (slot_of slots i) bin n) T.within in
    record {
      within = let l = T.within in omega (arith, l, length-set slots i (with_many (slot_of slots i) bin n));
      kind = ap is_table e ∙ (is_counted (slot_of slots i) bin n T.kind).0;
      counted = subst (λ (s : Slot). AllCounted (counts_of s)) (sym e) (counted_with (slot_of slots i) bin n some T.counted);
    }

pub run_none : (s : Slot) → with_run s [] ≡ s
run_none (node children content) = refl
run_none (table counts) = refl

run_more : (s : Slot) (a : ℕ × ℕ) (run : List (ℕ × ℕ)) → with_run s (a ∷ run) ≡ with_run (with_many s a.0 a.1) run
run_more (node children content) a run = refl
run_more (table counts) a run = refl

-- one amount, and then the others
pub table_add_run-cons : (slots : List Slot) (i : ℕ) (a : ℕ × ℕ) (run : List (ℕ × ℕ)) → i < length slots → table_add_run slots i (a ∷ run) ≡ table_add_run (table_add_many slots i a.0 a.1) i run
table_add_run-cons slots i a run less =
    let new : Slot = with_many (slot_of slots i) a.0 a.1 in
    ap (set slots i) (run_more (slot_of slots i) a run)
    ∙ sym (set-set slots i new (with_run new run))
    ∙ ap (λ (s : Slot). set (set slots i new) i (with_run s run)) (sym (slot-set slots i new less))

-- what the trail is once the run is noted
pub record IsRunNoted (slots next : List Slot) (changes noted : List Change) : Type 0 where
  pub undoable : CanUndo noted next
  pub start : undone noted next ≡ undone changes slots

run_noted : (run : List (ℕ × ℕ)) (slots : List Slot) (id : SlotId) (changes : List Change) → All (λ (a : ℕ × ℕ). 0 < a.1) run → IsCountedTable slots id.0 → CanUndo changes slots → IsRunNoted slots (table_add_run slots id.0 run) changes (changes ++ counted_each id run)
run_noted [] slots id changes some T can =
    let same : table_add_run slots id.0 [] ≡ slots = ap (set slots id.0) (run_none (slot_of slots id.0)) ∙ set-get_or slots id.0 empty_node in
    subst (λ z. IsRunNoted slots z changes (changes ++ [])) (sym same) (subst (λ z. IsRunNoted slots slots changes z) (sym (append-nil changes)) (record { undoable = can; start = refl }))
run_noted (a ∷ run) slots id changes some T can =
    let here : 0 < a.1 = All-head (λ (a : ℕ × ℕ). 0 < a.1) a run some in
    let c : Change = Counted id a.0 a.1 in
    let mid : List Slot = table_add_many slots id.0 a.0 a.1 in
    let back : take_back c mid ≡ slots = counted_back slots id a.0 a.1 T.within T.counted in
    let pushed : CanUndo (changes ++ c ∷ []) mid = can_push changes c mid (counted_there slots id a.0 a.1 T.within T.kind here) (subst (CanUndo changes) (sym back) can) in
    let rest = run_noted run mid id (changes ++ c ∷ []) (All-tail (λ (a : ℕ × ℕ). 0 < a.1) a run some) (still_table slots id.0 a.0 a.1 here T) pushed in
    let whole : IsRunNoted slots (table_add_run mid id.0 run) changes ((changes ++ c ∷ []) ++ counted_each id run) = record {
      undoable = rest.undoable;
      start = rest.start ∙ undone-push changes c mid ∙ ap (undone changes) back;
    } in
    subst (λ z. IsRunNoted slots z changes (changes ++ c ∷ counted_each id run)) (sym (table_add_run-cons slots id.0 a run T.within))
    (subst (λ z. IsRunNoted slots (table_add_run mid id.0 run) changes z) (append_assoc changes (c ∷ []) (counted_each id run)) whole)

-- a run that was counted, and noted where the table stood at the beginning
pub run_made : (slots next : List Slot) (changes noted : List Change) (id : SlotId) (run : List (ℕ × ℕ)) (wanted : Bool) (first made made' room capacity more : ℕ) (w : Worked) → IsChangeTrail slots changes first made room capacity → worked slots (undone changes (take first slots)) made room ≡ w → w.made + length run ≤ w.room → made' ≡ made + length run → wanted ≡ ltb id.0 first → noted ≡ with_notes wanted (counted_each id run) changes → capacity ≤ more → next ≡ table_add_run slots id.0 run → All (λ (a : ℕ × ℕ). 0 < a.1) run → IsCountedTable w.slots id.0 → IsChangeTrail next noted first made' room more × (worked next (undone noted (take first next)) made' room ≡ changed_by (length run) w (table_add_run w.slots id.0 run))
run_made slots next changes noted id run wanted first made made' room capacity more w T v left counted old is grown called some K =
    noted_made slots next (table_add_run w.slots id.0 run) changes noted (length run) first made made' room capacity more w T v left counted grown (called ∙ ap (λ (z : List Slot). table_add_run z id.0 run) same)
    (subst (λ (z : List Slot). IsNoted slots z changes noted first (length run)) (sym called)
    (subst (λ (z : List Change). IsNoted slots (table_add_run slots id.0 run) changes z first (length run)) (sym is) (each wanted old)))
  where
    same : slots ≡ w.slots
    same = ap (λ (z : Worked). z.slots) v

    table_here : IsCountedTable slots id.0
    table_here = subst (λ (z : List Slot). IsCountedTable z id.0) (sym same) K

    g : Slot → Slot
    g s = with_run s run

    still : first ≤ length (table_add_run slots id.0 run)
    still = omega (arith, T.beginning, length-set slots id.0 (g (slot_of slots id.0)))

    size : length (changes ++ counted_each id run) ≡ length changes + length run
    size = length-append changes (counted_each id run) ∙ ap (λ k. length changes + k) (length-map run (λ (a : ℕ × ℕ). Counted id a.0 a.1))

    each : (b : Bool) → b ≡ ltb id.0 first → IsNoted slots (table_add_run slots id.0 run) changes (with_notes b (counted_each id run) changes) first (length run)
    each true e =
        let less : id.0 < first = ltb-true id.0 first (sym e) in
        let kept = slot-old first id.0 slots less in
        let there : IsCountedTable (take first slots) id.0 = record {
          within = omega (arith, less, length-take-le first slots T.beginning);
          kind = ap is_table kept ∙ table_here.kind;
          counted = subst (λ (s : Slot). AllCounted (counts_of s)) (sym kept) table_here.counted;
        } in
        let noted = run_noted run (take first slots) id changes some there T.undoable in
        let moved = old_at first id.0 g slots less in
        record {
          beginning = still;
          fewer = omega (arith, size);
          undoable = subst (CanUndo (changes ++ counted_each id run)) (sym moved) noted.undoable;
          start = ap (undone (changes ++ counted_each id run)) moved ∙ noted.start;
        }
    each false e =
        let stays = new_at first id.0 g slots (ltb-false id.0 first (sym e)) in
        record { beginning = still; fewer = omega arith; undoable = subst (CanUndo changes) (sym stays) T.undoable; start = ap (undone changes) stays }
