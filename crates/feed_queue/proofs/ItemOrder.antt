-- Items of one feeder, in order.
use Rattle.std.proofs.Common.{◌≡◌, ℕ, suc, ◌+◌, eqb, Bool, true, false, true≢false, cond, ◌||◌, List, [], ◌∷◌, ◌++◌, All, length, sym, refl, ap, ◌∙◌, ◌≢◌, subst, eq-eqb, ne_eqb, arith}
use Rattle.std.proofs.lemmas.List.{append-nil}
use Rattle.std.proofs.lemmas.List.Elements.{filter-append, All-cons, All-tail}
use Rattle.world_core.specs.declared.entry.Entry.{Entry}
use Rattle.cube_view.specs.Points.{Point}
use Rattle.world_core.specs.Interleaving.{entry, entries_of, numbered}
use Rattle.feed_queue.specs.declared.item.Item.{Item}
use Rattle.feed_queue.specs.declared.item.Item.TheVariants.{One, End}
use Rattle.feed_queue.specs.Items.{feeder_of, items_of, entries_in, ends_in, has_end, count_entries, stream_from, ComesNext, IsInOrder}

pub items_append : (f : ℕ) (a b : List Item) → items_of f (a ++ b) ≡ items_of f a ++ items_of f b
items_append f a b = filter-append (λ (i : Item). eqb (feeder_of i) f) a b

pub entries_append : (a b : List Item) → entries_in (a ++ b) ≡ entries_in a ++ entries_in b
entries_append [] b = refl
entries_append (One e ∷ a) b = ap (λ l. e ∷ l) (entries_append a b)
entries_append (End f n ∷ a) b = entries_append a b

-- the feeder's entries are the entries of its items
pub entries_items : (f : ℕ) (is : List Item) → entries_of f (entries_in is) ≡ entries_in (items_of f is)
entries_items f [] = refl
entries_items f (One e ∷ is) = let ih = entries_items f is in
    elim (eqb e.feeder f) as (λ b. cond b (e ∷ entries_of f (entries_in is)) (entries_of f (entries_in is)) ≡ entries_in (cond b (One e ∷ items_of f is) (items_of f is))) [ true ↦ ap (λ l. e ∷ l) ih | false ↦ ih ]
entries_items f (End g n ∷ is) = let ih = entries_items f is in
    elim (eqb g f) as (λ b. entries_of f (entries_in is) ≡ entries_in (cond b (End g n ∷ items_of f is) (items_of f is))) [ true ↦ ih | false ↦ ih ]

pub entries_stream : (f n : ℕ) (ps : List Point) (b : Bool) → entries_in (stream_from f n ps b) ≡ numbered f n ps
entries_stream f n [] true = refl
entries_stream f n [] false = refl
entries_stream f n (p ∷ ps) b = ap (λ l. entry f n p ∷ l) (entries_stream f (n + 1) ps b)

pub entries_all : (P : ℕ → Type 0) (is : List Item) → All (λ (i : Item). P (feeder_of i)) is → All (λ (e : Entry). P e.feeder) (entries_in is)
entries_all P [] h = λ k d less. absurd (omega arith)
entries_all P (One e ∷ is) h = All-cons (λ (e : Entry). P e.feeder) e (entries_in is) (h 0 (One e) (omega arith)) (entries_all P is (All-tail (λ (i : Item). P (feeder_of i)) (One e) is h))
entries_all P (End g n ∷ is) h = entries_all P is (All-tail (λ (i : Item). P (feeder_of i)) (End g n) is h)

-- one point more
pub stream_more : (f n : ℕ) (ps : List Point) (p : Point) → stream_from f n (ps ++ p ∷ []) false ≡ stream_from f n ps false ++ One (entry f (n + length ps) p) ∷ []
stream_more f n [] p = let e : n ≡ n + 0 = omega arith in ap (λ k. One (entry f k p) ∷ []) e
stream_more f n (q ∷ ps) p = let e : n + 1 + length ps ≡ n + suc (length ps) = omega arith in
    ap (λ l. One (entry f n q) ∷ l) (stream_more f (n + 1) ps p ∙ ap (λ k. stream_from f (n + 1) ps false ++ One (entry f k p) ∷ []) e)

-- and the End
pub stream_end : (f n : ℕ) (ps : List Point) → stream_from f n ps true ≡ stream_from f n ps false ++ End f (n + length ps) ∷ []
stream_end f n [] = let e : n ≡ n + 0 = omega arith in ap (λ k. End f k ∷ []) e
stream_end f n (q ∷ ps) = let e : n + 1 + length ps ≡ n + suc (length ps) = omega arith in
    ap (λ l. One (entry f n q) ∷ l) (stream_end f (n + 1) ps ∙ ap (λ k. stream_from f (n + 1) ps false ++ End f k ∷ []) e)

ordered_stream : (f n : ℕ) (ps : List Point) (b : Bool) → IsInOrder n (stream_from f n ps b)
ordered_stream f n [] true = (refl, refl)
ordered_stream f n [] false = tt
ordered_stream f n (p ∷ ps) b = (refl, ordered_stream f (n + 1) ps b)

cons_not_nil : (a : List Item) (i : Item) (b : List Item) → a ++ i ∷ b ≡ [] → ⊥
cons_not_nil [] i b e = cc
cons_not_nil (x ∷ a) i b e = cc

-- i comes after a, whose items and i are of one feeder
abbrev NextFrom : ℕ → List Item → Item → Type 0
NextFrom n a (One e) = (e.number ≡ n + length (entries_in a)) × (ends_in a ≡ false)
NextFrom n a (End g m) = (m ≡ n + length (entries_in a)) × (ends_in a ≡ false)

next_later : (n : ℕ) (e : Entry) (a : List Item) (i : Item) → NextFrom (n + 1) a i → NextFrom n (One e ∷ a) i
next_later n e a (One x) h = (omega (arith, h.0), h.1)
next_later n e a (End g m) h = (omega (arith, h.0), h.1)

next_ordered : (n : ℕ) (a : List Item) (i : Item) (b : List Item) → IsInOrder n (a ++ i ∷ b) → NextFrom n a i
next_ordered n [] (One e) b o = (omega (arith, o.0), refl)
next_ordered n [] (End g m) b o = (omega (arith, o.0), refl)
next_ordered n (One e ∷ a) i b o = next_later n e a i (next_ordered (n + 1) a i b o.1)
next_ordered n (End g m ∷ a) i b o = absurd (cons_not_nil a i b o.1)

ended_last : (n : ℕ) (a b : List Item) → IsInOrder n (a ++ b) → ends_in a ≡ true → b ≡ []
ended_last n [] b o e = absurd (true≢false (sym e))
ended_last n (One x ∷ a) b o e = ended_last (n + 1) a b o.1 e
ended_last n (End g m ∷ []) b o e = o.1
ended_last n (End g m ∷ x ∷ a) b o e = absurd (cons_not_nil [] x (a ++ b) o.1)

-- the items of an item alone
pub own_item : (f : ℕ) (i : Item) → feeder_of i ≡ f → items_of f (i ∷ []) ≡ i ∷ []
own_item f i e = ap (λ b. cond b (i ∷ []) []) (eq-eqb (feeder_of i) f e)

pub other_item : (f : ℕ) (i : Item) → feeder_of i ≢ f → items_of f (i ∷ []) ≡ []
other_item f i ne = ap (λ b. cond b (i ∷ []) []) (ne_eqb (feeder_of i) f ne)

told : (drawn : List Item) (i : Item) (f : ℕ) → feeder_of i ≡ f → NextFrom 0 (items_of f drawn) i → ComesNext drawn i
told drawn (One e) f mine h = subst (λ (g : ℕ). (e.number ≡ count_entries g drawn) × (has_end g drawn ≡ false)) (sym mine) (omega (arith, h.0), h.1)
told drawn (End g m) f mine h = subst (λ (k : ℕ). (m ≡ count_entries k drawn) × (has_end k drawn ≡ false)) (sym mine) (omega (arith, h.0), h.1)

-- what comes next in a stream
pub next_in : (drawn rest : List Item) (i : Item) (f : ℕ) (ps : List Point) (b : Bool) → feeder_of i ≡ f → items_of f (drawn ++ i ∷ rest) ≡ stream_from f 0 ps b → ComesNext drawn i
next_in drawn rest i f ps b mine e =
    let split : items_of f (drawn ++ i ∷ rest) ≡ items_of f drawn ++ i ∷ items_of f rest =
    items_append f drawn (i ∷ rest) ∙ ap (λ t. items_of f drawn ++ cond t (i ∷ items_of f rest) (items_of f rest)) (eq-eqb (feeder_of i) f mine) in
    let o : IsInOrder 0 (items_of f drawn ++ i ∷ items_of f rest) = subst (IsInOrder 0) (sym e ∙ split) (ordered_stream f 0 ps b) in
    told drawn i f mine (next_ordered 0 (items_of f drawn) i (items_of f rest) o)

-- once its End was drawn, all that a feeder has sent was drawn
pub all_drawn : (drawn rest : List Item) (f : ℕ) (ps : List Point) (b : Bool) → items_of f (drawn ++ rest) ≡ stream_from f 0 ps b → has_end f drawn ≡ true → items_of f drawn ≡ stream_from f 0 ps b
all_drawn drawn rest f ps b e ended =
    let o : IsInOrder 0 (items_of f drawn ++ items_of f rest) = subst (IsInOrder 0) (sym e ∙ items_append f drawn rest) (ordered_stream f 0 ps b) in
    let none : items_of f rest ≡ [] = ended_last 0 (items_of f drawn) (items_of f rest) o ended in
    sym (append-nil (items_of f drawn)) ∙ ap (λ l. items_of f drawn ++ l) (sym none) ∙ sym (items_append f drawn rest) ∙ e

ordered_prefix : (n : ℕ) (a b : List Item) → IsInOrder n (a ++ b) → IsInOrder n a
ordered_prefix n [] b o = tt
ordered_prefix n (One e ∷ a) b o = (o.0, ordered_prefix (n + 1) a b o.1)
ordered_prefix n (End g m ∷ []) b o = (o.0, refl)
ordered_prefix n (End g m ∷ x ∷ a) b o = absurd (cons_not_nil [] x (a ++ b) o.1)

-- what was drawn of a feeder is in order
pub drawn_ordered : (drawn rest : List Item) (f g : ℕ) (ps : List Point) (b : Bool) → items_of f (drawn ++ rest) ≡ stream_from g 0 ps b → IsInOrder 0 (items_of f drawn)
drawn_ordered drawn rest f g ps b e = ordered_prefix 0 (items_of f drawn) (items_of f rest) (subst (IsInOrder 0) (sym e ∙ items_append f drawn rest) (ordered_stream g 0 ps b))

ends_append : (a b : List Item) → ends_in (a ++ b) ≡ (ends_in a || ends_in b)
ends_append [] b = refl
ends_append (One e ∷ a) b = ends_append a b
ends_append (End f n ∷ a) b = refl

-- an entry ends no feeder
pub has_end_entry : (f : ℕ) (is : List Item) (e : Entry) → has_end f (is ++ One e ∷ []) ≡ has_end f is
has_end_entry f is e = ap ends_in (items_append f is (One e ∷ [])) ∙ ends_append (items_of f is) (items_of f (One e ∷ [])) ∙ no_end (ends_in (items_of f is)) (eqb e.feeder f)
  where
    no_end : (a b : Bool) → (a || ends_in (cond b (One e ∷ []) [])) ≡ a
    no_end true true = refl
    no_end true false = refl
    no_end false true = refl
    no_end false false = refl

-- and an End its own
pub has_end_end : (f : ℕ) (is : List Item) (g n : ℕ) → has_end f (is ++ End g n ∷ []) ≡ (has_end f is || eqb g f)
has_end_end f is g n = ap ends_in (items_append f is (End g n ∷ [])) ∙ ends_append (items_of f is) (items_of f (End g n ∷ [])) ∙ an_end (ends_in (items_of f is)) (eqb g f)
  where
    an_end : (a b : Bool) → (a || ends_in (cond b (End g n ∷ []) [])) ≡ (a || b)
    an_end true true = refl
    an_end true false = refl
    an_end false true = refl
    an_end false false = refl
