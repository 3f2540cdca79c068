-- Each step of a lane is an event of the machine on its part.
use Rattle.std.proofs.Common.{◌≡◌, ℕ, ◌≤◌, ◌<◌, true, List, [], ◌∷◌, ◌++◌, length, map, take, drop, refl, sym, ap, ◌∙◌, append_assoc, arith}
use Rattle.std.proofs.lemmas.Bool.Decides.{nat_tests}
use Rattle.std.proofs.lemmas.List.{append-nil}
use Rattle.cube_view.specs.Points.{Point}
use Rattle.world_core.specs.Interleaving.{entry, numbered, entries_of, list_of}
use Rattle.world_core.specs.Machine.{pushed, next_entry, has_rest}
use Rattle.world_core.specs.declared.entry.Entry.{Entry}
use Rattle.world_core.specs.declared.world.World.{World}
use Rattle.world_core.proofs.Entries.{length-numbered}
use Rattle.feed_queue.specs.Items.{entries_in}
use Rattle.feed_queue.specs.MachineSteps.{queued_entries, IsWorldOf, SendIsPush, DrawIsPop, SentEndIsNone, DrawnEndIsNone, SplitIsNone, JoinIsNone}
use Rattle.feed_queue.specs.declared.item.Item.{Item}
use Rattle.feed_queue.specs.declared.item.Item.TheVariants.{One, End}
use Rattle.feed_queue.specs.declared.item.Slot.{Slot}
use Rattle.feed_queue.specs.declared.item.Slot.TheVariants.{Opens, Carries}
use Rattle.feed_queue.specs.declared.line.Feeding.{Feeding}
use Rattle.feed_queue.specs.declared.line.View.TheVariants.{Fresh, Opening, Draws, Feeds, Spent}
use Rattle.feed_queue.proofs.ItemOrder.{entries_append}
use Rattle.feed_queue.proofs.LaneViews.{numbered_off}

queued_append : (a b : List Slot) → queued_entries (a ++ b) ≡ queued_entries a ++ queued_entries b
queued_append [] b = refl
queued_append (Opens schema ∷ a) b = queued_append a b
queued_append (Carries (One e) ∷ a) b = ap (λ l. e ∷ l) (queued_append a b)
queued_append (Carries (End f n) ∷ a) b = queued_append a b

queued_items : (items : List Item) → queued_entries (map Carries items) ≡ entries_in items
queued_items [] = refl
queued_items (One e ∷ items) = ap (λ l. e ∷ l) (queued_items items)
queued_items (End f n ∷ items) = queued_items items

-- there are no more entries than the queue holds
queued_few : (slots : List Slot) → length (queued_entries slots) ≤ length slots
queued_few [] = omega arith
queued_few (Opens schema ∷ slots) = let h = queued_few slots in omega arith
queued_few (Carries (One e) ∷ slots) = let h = queued_few slots in omega arith
queued_few (Carries (End f n) ∷ slots) = let h = queued_few slots in omega arith

-- an entry is the one of its parts
own_entry : (e : Entry) (f n : ℕ) → e.feeder ≡ f → e.number ≡ n → entry f n e.point ≡ e
own_entry e f n feeder number = λ i. record { feeder = sym feeder i; number = sym number i; point = e.point }

-- what was pushed in the world is what was drawn and what is queued
all_pushed : (drawn queue : List Item) (slots : List Slot) (w : World) → IsWorldOf drawn slots w → slots ≡ map Carries queue → pushed w ≡ entries_in drawn ++ entries_in queue
all_pushed drawn queue slots w is held =
    ap (λ l. l ++ w.queue) is.left
    ∙ ap (λ l. entries_in drawn ++ l) (is.queue ∙ ap queued_entries held ∙ queued_items queue)

-- the next entry of a feeder that has pushed so many, and has this point next
next_is : (w : World) (f n : ℕ) (p : Point) (points : List Point) → length (entries_of f (pushed w)) ≡ n → list_of w.rest f ≡ p ∷ points → next_entry w f ≡ entry f n p ∷ []
next_is w f n p points count rest = (λ i. numbered f (count i) (take 1 (rest i)))

rest_left : (w : World) (f : ℕ) (p : Point) (points : List Point) → 1 ≤ f → f ≤ length w.rest → list_of w.rest f ≡ p ∷ points → has_rest w f ≡ true
rest_left w f p points low high rest =
    let some_left : 0 < length (list_of w.rest f) = let l = ap length rest in omega (arith, l) in
    grind (arith, nat_tests, low, high, some_left)

pub send_is_push : SendIsPush
send_is_push slots views lane pass v e at may w points is known rest schema room small =
    let here = lane.known pass (Feeds v) at in
    let range = numbered_off lane.seat lane.now lane.drawing.schema lane.drawing.made v.feeder pass lane.later here.0 in
    let f = v.feeder in
    let all = all_pushed lane.drawing.drawn lane.queue slots w is lane.held in
    let own : entries_of f (pushed w) ≡ numbered f 0 v.points = ap (entries_of f) all ∙ lane.fact.each f range.0 range.1 ∙ ap (λ (x : Feeding). numbered f 0 x.points) (sym here.1) in
    let count : length (entries_of f (pushed w)) ≡ e.number = ap length own ∙ length-numbered f 0 v.points ∙ sym may.2 in
    let next : next_entry w f ≡ e ∷ [] = next_is w f e.number e.point points count rest ∙ ap (λ x. x ∷ []) (own_entry e f e.number may.1 refl) in
    let fits : length w.queue < room = let q = ap length is.queue in let few = queued_few slots in omega (arith, q, few, small) in
    let left = rest_left w f e.point points range.0 known rest in
    record {
      possible = rw left (grind (arith, nat_tests, fits));
      after = record {
        queue = (λ i. is.queue i ++ next i) ∙ sym (queued_append slots (Carries (One e) ∷ []));
        left = is.left;
      };
    }

pub draw_is_pop : DrawIsPop
draw_is_pop drawn e slots w is schema room = record {
  possible = let q = ap length is.queue in grind (arith, nat_tests, q);
  after = record {
    queue = ap (drop 1) is.queue;
    left = sym (append_assoc w.journal w.pending (take 1 w.queue)) ∙ (λ i. is.left i ++ take 1 (is.queue i)) ∙ sym (entries_append drawn (One e ∷ []));
  };
}

pub sent_end_is_none : SentEndIsNone
sent_end_is_none drawn slots f n w is = record {
  queue = is.queue ∙ sym (append-nil (queued_entries slots)) ∙ sym (queued_append slots (Carries (End f n) ∷ []));
  left = is.left;
}

pub drawn_end_is_none : DrawnEndIsNone
drawn_end_is_none drawn slots f n w is = record {
  queue = is.queue;
  left = is.left ∙ sym (append-nil (entries_in drawn)) ∙ sym (entries_append drawn (End f n ∷ []));
}

pub split_is_none : SplitIsNone
split_is_none Fresh slots w is = (is, refl)
split_is_none (Opening schema) slots w is = (is, refl)
split_is_none (Draws d) slots w is = (is, refl)
split_is_none (Feeds v) slots w is = (is, refl)
split_is_none Spent slots w is = (is, refl)

pub join_is_none : JoinIsNone
join_is_none Fresh u slots w is = is
join_is_none (Opening schema) u slots w is = is
join_is_none (Draws d) Fresh slots w is = is
join_is_none (Draws d) (Opening schema) slots w is = is
join_is_none (Draws d) (Draws e) slots w is = is
join_is_none (Draws d) (Feeds v) slots w is = is
join_is_none (Draws d) Spent slots w is = is
join_is_none (Feeds v) u slots w is = is
join_is_none Spent u slots w is = is
