-- Entries of feeders, where one is sent or drawn.
use Rattle.std.proofs.Common.{◌≡◌, ◌≢◌, ℕ, ◌+◌, ◌≤◌, List, [], ◌∷◌, ◌++◌, length, sym, ap, ◌∙◌, arith, append_assoc}
use Rattle.std.proofs.lemmas.List.{append-nil}
use Rattle.cube_view.specs.Points.{Point}
use Rattle.feed_queue.specs.Items.{entries_in}
use Rattle.feed_queue.specs.declared.item.Item.{Item}
use Rattle.feed_queue.specs.declared.item.Item.TheVariants.{One, End}
use Rattle.feed_queue.proofs.ItemOrder.{entries_append}
use Rattle.world_core.specs.Interleaving.{numbered, entries_of}
use Rattle.world_core.specs.declared.entry.Entry.{Entry}
use Rattle.world_core.proofs.Entries.{entries_of-append, numbered-append, entries_of-numbered, entries_of-numbered_other}

-- an entry is the one of its parts
pub own_entry : (e : Entry) (f n : ℕ) → e.feeder ≡ f → e.number ≡ n → e ∷ [] ≡ numbered f n (e.point ∷ [])
own_entry e f n feeder number = λ i. record { feeder = feeder i; number = number i; point = e.point } ∷ []

-- the entries of a feeder that sends one more
pub lane_own : (f n : ℕ) (es : List Entry) (points : List Point) (p : Point) → n ≡ length points → entries_of f es ≡ numbered f 0 points → entries_of f (es ++ numbered f n (p ∷ [])) ≡ numbered f 0 (points ++ p ∷ [])
lane_own f n es points p count is =
    let at : n ≡ 0 + length points = omega (arith, count) in
    entries_of-append f es (numbered f n (p ∷ []))
    ∙ (λ i. is i ++ entries_of-numbered f n (p ∷ []) i)
    ∙ ap (λ k. numbered f 0 points ++ numbered f k (p ∷ [])) at
    ∙ sym (numbered-append f 0 points (p ∷ []))

-- and those of every other feeder
pub lane_other : (f g n : ℕ) (es : List Entry) (points : List Point) → f ≢ g → entries_of g (es ++ numbered f n points) ≡ entries_of g es
lane_other f g n es points apart = entries_of-append g es (numbered f n points) ∙ ap (λ l. entries_of g es ++ l) (entries_of-numbered_other g f n points apart) ∙ append-nil (entries_of g es)

-- where the first item of the queue is drawn, the entries drawn and then queued are as they were
pub drawn_moves : (drawn queue rest : List Item) (i : Item) → queue ≡ i ∷ rest → entries_in (drawn ++ i ∷ []) ++ entries_in rest ≡ entries_in drawn ++ entries_in queue
drawn_moves drawn queue rest i front =
    ap (λ l. l ++ entries_in rest) (entries_append drawn (i ∷ []))
    ∙ append_assoc (entries_in drawn) (entries_in (i ∷ [])) (entries_in rest)
    ∙ ap (λ l. entries_in drawn ++ l) (sym (entries_append (i ∷ []) rest) ∙ ap entries_in (sym front))

-- where an item comes to the queue's back, its entries come last
pub sent_comes_last : (drawn : List Entry) (queue : List Item) (i : Item) → drawn ++ entries_in (queue ++ i ∷ []) ≡ (drawn ++ entries_in queue) ++ entries_in (i ∷ [])
sent_comes_last drawn queue i = ap (λ l. drawn ++ l) (entries_append queue (i ∷ [])) ∙ sym (append_assoc drawn (entries_in queue) (entries_in (i ∷ [])))

-- there are no more entries than items
pub entries_few : (items : List Item) → length (entries_in items) ≤ length items
entries_few [] = omega arith
entries_few (One e ∷ items) = let few = entries_few items in omega (arith, few)
entries_few (End f n ∷ items) = let few = entries_few items in omega (arith, few)
