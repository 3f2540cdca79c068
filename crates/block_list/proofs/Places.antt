-- Where the items of a list lie in its blocks: the item at q * 64 + r is the one at r of the block at q.
use Rattle.std.proofs.Common.{◌≡◌, ℕ, zero, suc, ◌+◌, ◌-◌, ◌*◌, ◌/◌, ◌%◌, ◌<◌, ◌≤◌, List, [], ◌∷◌, ◌++◌, length, get_or, set, take, refl, ap, ◌∙◌, sym, arith, length-append, append_assoc, append-nil, length-set}
use Rattle.std.proofs.lemmas.List.{get_or_append_left, get_or-append_right, set-append_left, set-append_right}
use Rattle.std.proofs.lemmas.List.Concat.{flat_map-append}
use Rattle.block_list.specs.Blocks.{joined, AreFull}

pub split : (i : ℕ) → i ≡ (i / 64) * 64 + i % 64
split i = omega arith

pub small : (i : ℕ) → i % 64 < 64
small i = omega arith

module _ {T : Type 0} where
  -- there is a block for each place ..
  pub block_within : (bs : List (List T)) (q r i : ℕ) → i ≡ q * 64 + r → AreFull bs → i < length (joined bs) → q < length bs
  block_within [] q r i is full within = omega arith
  block_within (b ∷ []) q r i is full within = omega (arith, length-append b [])
  block_within (b ∷ c ∷ bs) zero r i is full within = omega arith
  block_within (b ∷ c ∷ bs) (suc q) r i is full within =
      let rest = block_within (c ∷ bs) q r (i - 64) (omega arith) full.1 (omega (arith, length-append b (joined (c ∷ bs)))) in omega arith

  -- .. and the place is within it
  pub place_within : (bs : List (List T)) (q r i : ℕ) (e : List T) → i ≡ q * 64 + r → r < 64 → AreFull bs → i < length (joined bs) → r < length (get_or bs q e)
  place_within [] q r i e is small full within = omega arith
  place_within (b ∷ []) zero r i e is small full within = omega (arith, length-append b [])
  place_within (b ∷ []) (suc q) r i e is small full within = omega (arith, length-append b [])
  place_within (b ∷ c ∷ bs) zero r i e is small full within = omega arith
  place_within (b ∷ c ∷ bs) (suc q) r i e is small full within =
      place_within (c ∷ bs) q r (i - 64) e (omega arith) small full.1 (omega (arith, length-append b (joined (c ∷ bs))))

  pub get_or-joined : (bs : List (List T)) (q r i : ℕ) (e : List T) (d : T) → i ≡ q * 64 + r → r < 64 → AreFull bs → i < length (joined bs) → get_or (joined bs) i d ≡ get_or (get_or bs q e) r d
  get_or-joined [] q r i e d is small full within = grind arith
  get_or-joined (b ∷ []) zero r i e d is small full within = grind (arith, get_or_append_left b [] d i, length-append b [])
  get_or-joined (b ∷ []) (suc q) r i e d is small full within = grind (arith, length-append b [])
  get_or-joined (b ∷ c ∷ bs) zero r i e d is small full within = grind (arith, get_or_append_left b (joined (c ∷ bs)) d i)
  get_or-joined (b ∷ c ∷ bs) (suc q) r i e d is small full within =
      get_or-append_right b (joined (c ∷ bs)) 64 i d full.0 (omega arith)
      ∙ get_or-joined (c ∷ bs) q r (i - 64) e d (omega arith) small full.1 (omega (arith, length-append b (joined (c ∷ bs))))

  -- a block with as many items may stand for another
  pub AreFull-set : (bs : List (List T)) (q : ℕ) (b' e : List T) → length b' ≡ length (get_or bs q e) → AreFull bs → AreFull (set bs q b')
  AreFull-set [] q b' e same full = full
  AreFull-set (b ∷ []) zero b' e same full = (omega arith, omega arith)
  AreFull-set (b ∷ []) (suc q) b' e same full = full
  AreFull-set (b ∷ c ∷ bs) zero b' e same full = (omega arith, full.1)
  AreFull-set (b ∷ c ∷ bs) (suc zero) b' e same full = (full.0, AreFull-set (c ∷ bs) zero b' e same full.1)
  AreFull-set (b ∷ c ∷ bs) (suc (suc q)) b' e same full = (full.0, AreFull-set (c ∷ bs) (suc q) b' e same full.1)

  pub joined-set : (bs : List (List T)) (q r i : ℕ) (e : List T) (w : T) → i ≡ q * 64 + r → r < 64 → AreFull bs → i < length (joined bs) → joined (set bs q (set (get_or bs q e) r w)) ≡ set (joined bs) i w
  joined-set [] q r i e w is small full within = grind arith
  joined-set (b ∷ []) zero r i e w is small full within = grind (arith, set-append_left b [] i w, length-append b [])
  joined-set (b ∷ []) (suc q) r i e w is small full within = grind (arith, length-append b [])
  joined-set (b ∷ c ∷ bs) zero r i e w is small full within = grind (arith, set-append_left b (joined (c ∷ bs)) i w)
  joined-set (b ∷ c ∷ bs) (suc q) r i e w is small full within =
      ap (λ rest. b ++ rest) (joined-set (c ∷ bs) q r (i - 64) e w (omega arith) small full.1 (omega (arith, length-append b (joined (c ∷ bs)))))
      ∙ sym (set-append_right b (joined (c ∷ bs)) 64 i w full.0 (omega arith))

  -- how many items there are, by the last block
  pub length-joined : (bs : List (List T)) (n : ℕ) (e : List T) → length bs ≡ n + 1 → AreFull bs → length (joined bs) ≡ n * 64 + length (get_or bs n e)
  length-joined [] n e is full = omega arith
  length-joined (b ∷ []) zero e is full = omega (arith, length-append b [])
  length-joined (b ∷ []) (suc n) e is full = omega arith
  length-joined (b ∷ c ∷ bs) zero e is full = omega arith
  length-joined (b ∷ c ∷ bs) (suc n) e is full =
      omega (arith, length-append b (joined (c ∷ bs)), length-joined (c ∷ bs) n e (omega arith) full.1)

  some_items : (b : List T) (bs : List (List T)) → AreFull (b ∷ bs) → 0 < length (joined (b ∷ bs))
  some_items b [] full = omega (arith, length-append b [])
  some_items b (c ∷ bs) full = omega (arith, length-append b (joined (c ∷ bs)))

  -- no items are in no blocks
  pub none_left : (bs : List (List T)) → AreFull bs → joined bs ≡ [] → length bs ≡ 0
  none_left [] full none = refl
  none_left (b ∷ bs) full none = absurd (let some = some_items b bs full in let l = ap length none in omega arith)

  -- which block is the last
  pub last_place : (bs : List (List T)) (q r : ℕ) → length (joined bs) ≡ q * 64 + r → 0 < r → r ≤ 64 → AreFull bs → length bs ≡ q + 1
  last_place [] q r is some small full = omega arith
  last_place (b ∷ []) q r is some small full = omega (arith, length-append b [])
  last_place (b ∷ c ∷ bs) zero r is some small full = omega (arith, length-append b (joined (c ∷ bs)), some_items c bs full.1)
  last_place (b ∷ c ∷ bs) (suc q) r is some small full =
      omega (arith, last_place (c ∷ bs) q r (omega (arith, length-append b (joined (c ∷ bs)))) some small full.1)

  -- another last block
  pub AreFull-set_last : (bs : List (List T)) (q : ℕ) (b' : List T) → length bs ≡ q + 1 → 0 < length b' → length b' ≤ 64 → AreFull bs → AreFull (set bs q b')
  AreFull-set_last [] q b' is some small full = full
  AreFull-set_last (b ∷ []) zero b' is some small full = (some, small)
  AreFull-set_last (b ∷ []) (suc q) b' is some small full = full
  AreFull-set_last (b ∷ c ∷ bs) zero b' is some small full = grind arith
  AreFull-set_last (b ∷ c ∷ bs) (suc zero) b' is some small full = (full.0, AreFull-set_last (c ∷ bs) zero b' (omega arith) some small full.1)
  AreFull-set_last (b ∷ c ∷ bs) (suc (suc q)) b' is some small full = (full.0, AreFull-set_last (c ∷ bs) (suc q) b' (omega arith) some small full.1)

  pub joined-push_last : (bs : List (List T)) (q : ℕ) (e : List T) (x : T) → length bs ≡ q + 1 → joined (set bs q (get_or bs q e ++ x ∷ [])) ≡ joined bs ++ x ∷ []
  joined-push_last [] q e x is = grind arith
  joined-push_last (b ∷ []) zero e x is = grind (arith, append-nil, append_assoc)
  joined-push_last (b ∷ []) (suc q) e x is = grind arith
  joined-push_last (b ∷ c ∷ bs) zero e x is = grind arith
  joined-push_last (b ∷ c ∷ bs) (suc q) e x is =
      ap (λ rest. b ++ rest) (joined-push_last (c ∷ bs) q e x (omega arith)) ∙ sym (append_assoc b (joined (c ∷ bs)) (x ∷ []))

  -- a block more, where all are full
  pub AreFull-push : (bs : List (List T)) (q : ℕ) (x : T) → length (joined bs) ≡ q * 64 → AreFull bs → AreFull (bs ++ (x ∷ []) ∷ [])
  AreFull-push [] q x is full = (omega arith, omega arith)
  AreFull-push (b ∷ []) q x is full = (omega (arith, length-append b []), (omega arith, omega arith))
  AreFull-push (b ∷ c ∷ bs) q x is full =
      (full.0, AreFull-push (c ∷ bs) (q - 1) x (omega (arith, length-append b (joined (c ∷ bs)))) full.1)

  pub joined-push : (bs : List (List T)) (x : T) → joined (bs ++ (x ∷ []) ∷ []) ≡ joined bs ++ x ∷ []
  joined-push bs x = flat_map-append (λ b. b) bs ((x ∷ []) ∷ [])

  -- the first blocks hold the first items
  pub AreFull-take : (bs : List (List T)) (q : ℕ) → AreFull bs → AreFull (take q bs)
  AreFull-take [] zero full = full
  AreFull-take [] (suc q) full = full
  AreFull-take (b ∷ []) zero full = tt
  AreFull-take (b ∷ []) (suc zero) full = full
  AreFull-take (b ∷ []) (suc (suc q)) full = full
  AreFull-take (b ∷ c ∷ bs) zero full = tt
  AreFull-take (b ∷ c ∷ bs) (suc zero) full = (omega arith, omega arith)
  AreFull-take (b ∷ c ∷ bs) (suc (suc q)) full = (full.0, AreFull-take (c ∷ bs) (suc q) full.1)

  -- the block and the place in it of the item at i
  pub record IsHeldAt (bs : List (List T)) (v : List T) (i : ℕ) : Type 0 where
    pub block : i / 64 < length bs
    pub inside : (e : List T) → i % 64 < length (get_or bs (i / 64) e)
    pub item : (e : List T) (d : T) → get_or v i d ≡ get_or (get_or bs (i / 64) e) (i % 64) d
    pub kept : (e : List T) (w : T) → AreFull (set bs (i / 64) (set (get_or bs (i / 64) e) (i % 64) w))
    pub written : (e : List T) (w : T) → joined (set bs (i / 64) (set (get_or bs (i / 64) e) (i % 64) w)) ≡ set v i w

  pub place_at : (bs : List (List T)) (v : List T) (i : ℕ) → joined bs ≡ v → AreFull bs → i < length v → IsHeldAt bs v i
  place_at bs v i view full within =
      let in_bs : i < length (joined bs) = rw view within in
      record {
        block = block_within bs (i / 64) (i % 64) i (split i) full in_bs;
        inside = λ e. place_within bs (i / 64) (i % 64) i e (split i) (small i) full in_bs;
        item = λ e d. rw (← view) (get_or-joined bs (i / 64) (i % 64) i e d (split i) (small i) full in_bs);
        kept = λ e w. AreFull-set bs (i / 64) _ e (length-set (get_or bs (i / 64) e) (i % 64) w) full;
        written = λ e w. rw (← view) (joined-set bs (i / 64) (i % 64) i e w (split i) (small i) full in_bs);
      }

  -- room in the last block, where the items do not fill all of them
  pub record HasRoom (bs : List (List T)) (v : List T) (x : T) : Type 0 where
    pub block : length v / 64 < length bs
    pub short : (e : List T) → length (get_or bs (length v / 64) e) < 64
    pub count : (e : List T) → length v % 64 ≡ length (get_or bs (length v / 64) e)
    pub kept : (e : List T) → AreFull (set bs (length v / 64) (get_or bs (length v / 64) e ++ x ∷ []))
    pub pushed : (e : List T) → joined (set bs (length v / 64) (get_or bs (length v / 64) e ++ x ∷ [])) ≡ v ++ x ∷ []

  pub room_at : (bs : List (List T)) (v : List T) (x : T) → joined bs ≡ v → AreFull bs → (length v % 64 ≡ 0 → ⊥) → HasRoom bs v x
  room_at bs v x view full part =
      let n = length v in
      let same : length (joined bs) ≡ (n / 64) * 64 + n % 64 = ap length view ∙ split n in
      let some : 0 < n % 64 = omega arith in
      let last : length bs ≡ n / 64 + 1 = last_place bs (n / 64) (n % 64) same some (let s = small n in omega arith) full in
      let held : (e : List T) → length (get_or bs (n / 64) e) ≡ n % 64 = λ e. (let l = length-joined bs (n / 64) e last full in omega arith) in
      record {
        block = omega arith;
        short = λ e. (let h = held e in let s = small n in omega arith);
        count = λ e. sym (held e);
        kept = λ e. (let h = held e in let s = small n in AreFull-set_last bs (n / 64) _ last (omega (arith, length-append (get_or bs (n / 64) e) (x ∷ []))) (omega (arith, length-append (get_or bs (n / 64) e) (x ∷ []))) full);
        pushed = λ e. joined-push_last bs (n / 64) e x last ∙ ap (λ xs. xs ++ x ∷ []) view;
      }

  -- how many items the blocks hold at most
  pub length_within : (bs : List (List T)) → AreFull bs → length (joined bs) ≤ length bs * 64
  length_within [] full = omega arith
  length_within (b ∷ []) full = omega (arith, length-append b [])
  length_within (b ∷ c ∷ bs) full = omega (arith, length-append b (joined (c ∷ bs)), length_within (c ∷ bs) full.1)
