-- The blocks of a list as they lie in memory: the item at a place, and the blocks through a push and a pop.
use Rattle.std.proofs.Common.{◌≡◌, ◌≢◌, ℕ, ◌+◌, ◌*◌, ◌/◌, ◌%◌, ◌^◌, ◌<◌, ◌≤◌, List, [], ◌∷◌, ◌++◌, length, get_or, set, take, refl, ap, ◌∙◌, sym, arith, length-append, append-nil, length-set}
use Rattle.std.proofs.Math.ListN.{get_or-map}
use Rattle.std.proofs.Math.Seq.{map-set_same, get_or-append_seam}
use Rattle.std.proofs.lemmas.List.{get_or-map as get_or-map_at, length-map, map-append, map-set, set-set, set-get_or, get_or-set_same, get_or_append_left, take_at, take-set-le, take-map, nil_from_length}
use Rattle.std.proofs.lemmas.List.Concat.{flat_map-append}
use Rattle.std.specs.Borrow.{RattleType}
use denote.RawPtr.{Ptr, null_ptr}
use Rattle.block_list.specs.declared.raw.RawBlock.{RawBlock}
use Rattle.block_list.specs.Blocks.{joined, held, AreBlocks}
use Rattle.block_list.specs.RawLends.{with_item}
use Rattle.block_list.specs.Addresses.{starts, item_address, SameAddresses}
use Rattle.block_list.proofs.Places.{split, small, place_at, room_at, last_place, length-joined, joined-push_last, joined-push, AreFull-push, AreFull-set_last, AreFull-take}

module _ {T : Type 0} where
  -- one item less in the last block
  less : (bs : List (List T)) (q : ℕ) (e ys : List T) (x : T) → length bs ≡ q + 1 → get_or bs q e ≡ ys ++ x ∷ [] → joined bs ≡ joined (set bs q ys) ++ x ∷ []
  less bs q e ys x last is =
      let within : q < length bs = omega arith in
      let again : set (set bs q ys) q (get_or (set bs q ys) q e ++ x ∷ []) ≡ bs =
      ap (λ zs. set (set bs q ys) q (zs ++ x ∷ [])) (get_or-set_same bs q ys e within) ∙ set-set bs q ys (ys ++ x ∷ []) ∙ ap (λ zs. set bs q zs) (sym is) ∙ set-get_or bs q e in
      ap joined (sym again) ∙ joined-push_last (set bs q ys) q e x (length-set bs q ys ∙ last)

module _ {T A : Type 0} where
  abbrev items_of : RawBlock T A → List T
  items_of b = b.items

  held-get : (bs : List (RawBlock T A)) (q : ℕ) (e : RawBlock T A) → get_or (held bs) q e.items ≡ (get_or bs q e).items
  held-get bs q e = get_or-map items_of bs q e

  held-set : (bs : List (RawBlock T A)) (q : ℕ) (b : RawBlock T A) → held (set bs q b) ≡ set (held bs) q b.items
  held-set bs q b = map-set items_of bs q b

  pub held-length : (bs : List (RawBlock T A)) → length (held bs) ≡ length bs
  held-length bs = length-map bs items_of

  -- the block and the place in it of the item at i
  pub record IsLaidAt (bs : List (RawBlock T A)) (v : List T) (i : ℕ) : Type 0 where
    pub block : i / 64 < length bs
    pub inside : (e : RawBlock T A) → (i % 64 < length (get_or bs (i / 64) e).items) × (i % 64 < 64)
    pub start : (e : RawBlock T A) → get_or (starts bs) (i / 64) null_ptr ≡ (get_or bs (i / 64) e).ptr
    pub item : (e : RawBlock T A) (d : T) → get_or v i d ≡ get_or (get_or bs (i / 64) e).items (i % 64) d
    pub kept : (e : RawBlock T A) (w : T) → AreBlocks (held (set bs (i / 64) (with_item (get_or bs (i / 64) e) (i % 64) w)))
    pub written : (e : RawBlock T A) (w : T) → joined (held (set bs (i / 64) (with_item (get_or bs (i / 64) e) (i % 64) w))) ≡ set v i w

  pub laid_at : (bs : List (RawBlock T A)) (v : List T) (i : ℕ) → joined (held bs) ≡ v → AreBlocks (held bs) → i < length v → IsLaidAt bs v i
  laid_at bs v i view blocks within =
      let p = place_at (held bs) v i view blocks.0 within in let few = blocks.1 in
      let written : (e : RawBlock T A) (w : T) → held (set bs (i / 64) (with_item (get_or bs (i / 64) e) (i % 64) w)) ≡ set (held bs) (i / 64) (set (get_or (held bs) (i / 64) e.items) (i % 64) w) =
      λ e w. held-set bs (i / 64) (with_item (get_or bs (i / 64) e) (i % 64) w) ∙ ap (λ xs. set (held bs) (i / 64) (set xs (i % 64) w)) (sym (held-get bs (i / 64) e)) in
      record {
        block = rw (← (held-length bs)) p.block;
        inside = λ e. (rw (← (held-get bs (i / 64) e)) (p.inside e.items), small i);
        start = λ e. get_or-map_at (λ (c : RawBlock T A). c.ptr) bs (i / 64) e null_ptr (rw (← (held-length bs)) p.block);
        item = λ e d. p.item e.items d ∙ ap (λ xs. get_or xs (i % 64) d) (held-get bs (i / 64) e);
        kept = λ e w. rw (written e w) (p.kept e.items w, omega (arith, length-set (held bs) (i / 64) (set (get_or (held bs) (i / 64) e.items) (i % 64) w)));
        written = λ e w. rw (written e w) (p.written e.items w);
      }

  -- the last block, where it has room for the item at n
  pub record HasRoomAt (bs : List (RawBlock T A)) (n : ℕ) (x : T) : Type 0 where
    pub block : n / 64 < length bs
    pub count : (e : RawBlock T A) → (n % 64 ≡ length (get_or bs (n / 64) e).items) × (n % 64 < 64)
    pub kept : (e b : RawBlock T A) → b.items ≡ (get_or bs (n / 64) e).items ++ x ∷ [] → AreBlocks (held (set bs (n / 64) b))
    pub pushed : (e b : RawBlock T A) → b.items ≡ (get_or bs (n / 64) e).items ++ x ∷ [] → joined (held (set bs (n / 64) b)) ≡ joined (held bs) ++ x ∷ []

  pub has_room : (bs : List (RawBlock T A)) (n : ℕ) (x : T) → AreBlocks (held bs) → n ≡ length (joined (held bs)) → (n % 64 ≡ 0 → ⊥) → HasRoomAt bs n x
  has_room bs n x blocks count part =
      let p = room_at (held bs) (joined (held bs)) x refl blocks.0 (rw (← count) part) in
      let written : (e b : RawBlock T A) → b.items ≡ (get_or bs (n / 64) e).items ++ x ∷ [] → held (set bs (n / 64) b) ≡ set (held bs) (n / 64) (get_or (held bs) (n / 64) e.items ++ x ∷ []) =
      λ e b is. held-set bs (n / 64) b ∙ ap (λ xs. set (held bs) (n / 64) xs) (is ∙ ap (λ ys. ys ++ x ∷ []) (sym (held-get bs (n / 64) e))) in
      let few = blocks.1 in
      record {
        block = rw (← (held-length bs), count) p.block;
        count = λ e. (rw (← (held-get bs (n / 64) e), count) (p.count e.items), small n);
        kept = λ e b is. (rw (written e b is, count) (p.kept e.items), rw (written e b is) (omega (arith, length-set (held bs) (n / 64) (get_or (held bs) (n / 64) e.items ++ x ∷ []))));
        pushed = λ e b is. rw (written e b is, count) (p.pushed e.items);
      }

  -- a new block, where all are full
  pub new_block : (bs : List (RawBlock T A)) (b : RawBlock T A) (n : ℕ) (x : T) → b.items ≡ x ∷ [] → AreBlocks (held bs) → n ≡ length (joined (held bs)) → n % 64 ≡ 0 → length bs ≢ 2 ^ 57
      → AreBlocks (held (bs ++ b ∷ [])) × (joined (held (bs ++ b ∷ [])) ≡ joined (held bs) ++ x ∷ [])
  new_block bs b n x is blocks count whole more =
      let few = blocks.1 in let long = held-length bs in
      let more_held : held (bs ++ b ∷ []) ≡ held bs ++ (x ∷ []) ∷ [] = map-append items_of bs (b ∷ []) ∙ ap (λ xs. held bs ++ xs ∷ []) is in
      rw more_held (
        (AreFull-push (held bs) (n / 64) x (omega arith) blocks.0, omega (arith, length-append (held bs) ((x ∷ []) ∷ []))),
        joined-push (held bs) x,
      )

  -- the last block, which has the item at n
  pub record IsLastAt (bs : List (RawBlock T A)) (n : ℕ) : Type 0 where
    pub last : length bs ≡ n / 64 + 1
    pub count : (e : RawBlock T A) → (n % 64 + 1 ≡ length (get_or bs (n / 64) e).items) × (n % 64 < 64)
    pub popped : (e b : RawBlock T A) (x : T) → (get_or bs (n / 64) e).items ≡ b.items ++ x ∷ [] → joined (held bs) ≡ joined (held (set bs (n / 64) b)) ++ x ∷ []
    pub kept : (e b : RawBlock T A) (x : T) → (get_or bs (n / 64) e).items ≡ b.items ++ x ∷ [] → (n % 64 ≡ 0 → ⊥) → AreBlocks (held (set bs (n / 64) b))

  pub last_at : (bs : List (RawBlock T A)) (n : ℕ) → AreBlocks (held bs) → n + 1 ≡ length (joined (held bs)) → IsLastAt bs n
  last_at bs n blocks count =
      let r = small n in let parts = split n in let long = held-length bs in let few = blocks.1 in
      let last : length (held bs) ≡ n / 64 + 1 = last_place (held bs) (n / 64) (n % 64 + 1) (omega arith) (omega arith) (omega arith) blocks.0 in
      let size : (e : RawBlock T A) → n % 64 + 1 ≡ length (get_or bs (n / 64) e).items = λ e. (let l = length-joined (held bs) (n / 64) e.items last blocks.0 in let same = ap length (held-get bs (n / 64) e) in omega arith) in
      record {
        last = omega arith;
        count = λ e. (size e, r);
        popped = λ e b x is. rw (held-set bs (n / 64) b) (less (held bs) (n / 64) e.items b.items x last (held-get bs (n / 64) e ∙ is));
        kept = λ e b x is part. rw (held-set bs (n / 64) b) (let s = size e ∙ ap length is ∙ length-append b.items (x ∷ []) in
            (AreFull-set_last (held bs) (n / 64) b.items last (omega arith) (omega arith) blocks.0, omega (arith, length-set (held bs) (n / 64) b.items)));
      }

  -- the last block had that item alone, and is gone
  pub record IsEmptied (bs ys : List (RawBlock T A)) (b : RawBlock T A) (x : T) : Type 0 where
    pub empty : b.items ≡ []
    pub blocks : AreBlocks (held ys)
    pub popped : joined (held bs) ≡ joined (held ys) ++ x ∷ []

  pub emptied : (bs ys : List (RawBlock T A)) (n : ℕ) (e b' b : RawBlock T A) (x : T) → IsLastAt bs n → AreBlocks (held bs) → n % 64 ≡ 0
      → (get_or bs (n / 64) e).items ≡ b'.items ++ x ∷ [] → set bs (n / 64) b' ≡ ys ++ b ∷ [] → IsEmptied bs ys b x
  emptied bs ys n e b' b x at blocks whole is parts =
      let q = n / 64 in let last = at.last in let few = blocks.1 in let long = held-length bs in
      let size = (at.count e).0 ∙ ap length is ∙ length-append b'.items (x ∷ []) in
      let none : b'.items ≡ [] = nil_from_length b'.items (omega arith) in
      let front : length ys ≡ q = omega (arith, ap length parts, length-set bs q b', length-append ys (b ∷ [])) in
      let same : b ≡ b' = sym (get_or-append_seam ys b [] e) ∙ ap (λ k. get_or (ys ++ b ∷ []) k e) front ∙ ap (λ zs. get_or zs q e) (sym parts) ∙ get_or-set_same bs q b' e (omega arith) in
      let left : ys ≡ take q bs = sym (take_at ys (b ∷ []) q front) ∙ ap (λ zs. take q zs) (sym parts) ∙ take-set-le q bs q b' (omega arith) in
      let front_held : held (take q bs) ≡ take q (held bs) = sym (take-map items_of q bs) in
      let empty : b.items ≡ [] = ap items_of same ∙ none in
      let joins : joined (held (set bs q b')) ≡ joined (held ys) =
      ap (λ zs. joined (held zs)) parts ∙ ap joined (map-append items_of ys (b ∷ []) ∙ ap (λ xs. held ys ++ xs ∷ []) empty) ∙ flat_map-append (λ zs. zs) (held ys) ([] ∷ []) ∙ append-nil (joined (held ys)) in
      record {
        empty = empty;
        blocks = (rw (left, front_held) (AreFull-take (held bs) q blocks.0), omega (arith, held-length ys));
        popped = at.popped e b' x is ∙ ap (λ zs. zs ++ x ∷ []) joins;
      }

  -- items stay where a block is written in place, ..
  pub set_stays : (R : RattleType) (bs : List (RawBlock T A)) (q n : ℕ) (b e : RawBlock T A) → b.ptr ≡ (get_or bs q e).ptr → SameAddresses R n bs (set bs q b)
  set_stays R bs q n b e at i lt = ap (λ (ps : List Ptr). item_address R (get_or ps (i / 64) null_ptr) (i % 64)) (map-set_same (λ (c : RawBlock T A). c.ptr) bs q b e at)

  -- .. and where one comes after them
  pub more_stays : (R : RattleType) (bs : List (RawBlock T A)) (b : RawBlock T A) (n : ℕ) → n ≤ length bs * 64 → SameAddresses R n bs (bs ++ b ∷ [])
  more_stays R bs b n within i lt =
      let inside : i / 64 < length (starts bs) = omega (arith, length-map bs (λ (c : RawBlock T A). c.ptr)) in
      ap (λ (p : Ptr). item_address R p (i % 64)) (ap (λ (ps : List Ptr). get_or ps (i / 64) null_ptr) (map-append (λ (c : RawBlock T A). c.ptr) bs (b ∷ [])) ∙ get_or_append_left (starts bs) (b.ptr ∷ []) null_ptr (i / 64) inside)

  -- .. and where the last block is gone
  pub front_stays : (R : RattleType) (bs ys : List (RawBlock T A)) (n : ℕ) (e b' b : RawBlock T A) → IsLastAt bs n → n % 64 ≡ 0 → b'.ptr ≡ (get_or bs (n / 64) e).ptr → set bs (n / 64) b' ≡ ys ++ b ∷ [] → SameAddresses R n bs ys
  front_stays R bs ys n e b' b last whole at parts i lt =
      let start : RawBlock T A → Ptr = λ c. c.ptr in
      let inside : i / 64 < length (starts ys) = omega (arith, last.last, ap length parts, length-set bs (n / 64) b', length-append ys (b ∷ []), length-map ys start) in
      let same : starts ys ++ b.ptr ∷ [] ≡ starts bs = sym (map-append start ys (b ∷ [])) ∙ ap (λ cs. starts cs) (sym parts) ∙ map-set_same start bs (n / 64) b' e at in
      ap (λ (p : Ptr). item_address R p (i % 64)) (sym (get_or_append_left (starts ys) (b.ptr ∷ []) null_ptr (i / 64) inside) ∙ ap (λ (ps : List Ptr). get_or ps (i / 64) null_ptr) same)
