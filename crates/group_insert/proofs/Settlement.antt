-- The links that were put off below a node of space are settled one after the other, the last one first.
use Rattle.std.proofs.Common.{◌≡◌, ℕ, ◌+◌, ◌-◌, ◌<◌, Bool, true, false, inr, List, [], ◌∷◌, ◌++◌, Some, is_some, length, get_or, take, refl, sym, ap, ◌∙◌, subst, arith, length-append}
use Rattle.std.specs.Prelude.{IsSome}
use Rattle.std.proofs.lemmas.List.{get_or_push, get_or-append-add, length_push, length-map, map-append, take-append-le, take_all}
use Rattle.std.proofs.lemmas.List.Elements.{All-take}
use Rattle.std.proofs.Math.Seq.{take-append-add}
use Rattle.std.proofs.Math.Bool.{Bool-set}
use Rattle.std.proofs.Math.Logic.{∥∥₁_elim, ∥∥₁_map}
use Rattle.std.specs.Coded.{le_prop}
use Rattle.cube_view.specs.Walks.{down, Walk}
use Rattle.node_arena.specs.Shape.{home_of}
use Rattle.node_arena.specs.Slots.{shared, Slot, slot_of, is_table, walk_end}
use Rattle.node_arena.proofs.Walks.{target-lt}
use Rattle.proper_path.specs.Changes.{IsRelinked}
use Rattle.proper_path.specs.Order.{IsAbove, further}
use Rattle.proper_path.specs.Rooted.{state}
use Rattle.proper_path.proofs.Dims.{stops_at_time}
use Rattle.proper_path.proofs.Steps.{keeps-refl, keeps-trans}
use Rattle.group_insert.specs.FinerWalk.{entry_of, finer_steps, LeadInside, IsSet}
use Rattle.group_insert.specs.Later.{PutOff, IsPutOff}
use Rattle.group_insert.specs.LeastSoFar.{BegunAfter}
use Rattle.group_insert.specs.Settling.{entries, CanSettle, SettlesTo}
use Rattle.group_insert.specs.Visits.{PutsBelow}
use Rattle.group_insert.specs.declared.put_off.PutOffLink.{PutOffLink}
use Rattle.group_insert.proofs.Entries.{last_of}
use Rattle.group_insert.proofs.LeastKept.{least_relinked}
use Rattle.group_insert.proofs.LastLink.{last_settles, last_is_set}

-- the last entry is one of those that were put behind
module _ (homes : List Walk) (x : Walk) (before rest : List PutOff) (k : PutOff) (P : PutsBelow homes x before (rest ++ k ∷ [])) (some : length before < length (rest ++ k ∷ [])) where
  at : length before + (length rest - length before) ≡ length rest
  at = omega (arith, some, length_push rest k)

  short : length rest - length before < length P.more
  short = let e = ap length P.is in omega (arith, e, some, length_push rest k, length-append before P.more)

  last_is : get_or P.more (length rest - length before) k ≡ k
  last_is = sym (get_or-append-add before P.more (length rest - length before) k) ∙ (ap (λ z. get_or z (length before + (length rest - length before)) k) (sym P.is) ∙ (ap (λ m. get_or (rest ++ k ∷ []) m k) at ∙ get_or_push rest k k (length rest) refl))

  pub last_below : IsAbove x (home_of homes k.node)
  last_below = subst (λ z. IsAbove x (home_of homes z.node)) last_is (P.below (length rest - length before) k short)

  cut : rest ≡ before ++ take (length rest - length before) P.more
  cut = sym (take_all (length rest) rest (omega arith)) ∙ (sym (take-append-le (length rest) rest (k ∷ []) (omega arith)) ∙ (ap (λ z. take (length rest) z) P.is ∙ (ap (λ m. take m (before ++ P.more)) (sym at) ∙ take-append-add before P.more (length rest - length before))))

  pub puts_before : PutsBelow homes x before rest
  puts_before = record { more = take (length rest - length before) P.more; is = cut; below = All-take (λ j. IsAbove x (home_of homes j.node)) (length rest - length before) P.more P.below }

module _ (slots : List Slot) (rest : List PutOff) (k : PutOff) (kept : ℕ) (some : kept < length (rest ++ k ∷ [])) where
  below_of : (C : CanSettle slots (rest ++ k ∷ []) kept) → IsAbove C.address (home_of C.homes k.node)
  below_of C = last_below C.homes C.address C.before rest k C.known.puts (omega (arith, some, C.size))

  may_of : (C : CanSettle slots (rest ++ k ∷ []) kept) → IsPutOff slots C.homes C.counted C.group k
  may_of C = last_of (IsPutOff slots C.homes C.counted C.group) rest k C.known.halfway.later.put_off

  -- what the call that settles it wants
  settle_in_range : ∥ CanSettle slots (rest ++ k ∷ []) kept ∥₁ → k.node < length slots
  settle_in_range R = ∥∥₁_elim R le_prop (λ C. (may_of C).in_range.0)

  settle_base : ∥ CanSettle slots (rest ++ k ∷ []) kept ∥₁ → k.base < length slots
  settle_base R = ∥∥₁_elim R le_prop (λ C. (may_of C).in_range.1)

  settle_inside : ∥ CanSettle slots (rest ++ k ∷ []) kept ∥₁ → LeadInside slots
  settle_inside R i e l is = ∥∥₁_elim R le_prop (λ C. target-lt slots C.homes C.known.halfway.has_homes i e l is)

  settle_is_node : ∥ CanSettle slots (rest ++ k ∷ []) kept ∥₁ → is_table (slot_of slots k.node) ≡ false
  settle_is_node R = ∥∥₁_elim R (Bool-set _ _) (λ C. go C (is_table (slot_of slots k.node)) refl)
    where
      go : (C : CanSettle slots (rest ++ k ∷ []) kept) → (b : Bool) → is_table (slot_of slots k.node) ≡ b → b ≡ false
      go C true e =
          let o = may_of C in
          let q = o.wanted in
          absurd (stops_at_time C.dims q.spot (C.known.points.spots q.spot q.is_in) (home_of C.homes k.node) ((C.known.halfway.has_tables.tables k.node o.in_range.0).0 e) (down k.label) q.lies)
      go C false e = refl

  settle_ends : ∥ CanSettle slots (rest ++ k ∷ []) kept ∥₁ → IsSome (walk_end slots k.base (finer_steps k))
  settle_ends R = ∥∥₁_elim R (Bool-set _ _) (λ C. ap is_some (last_settles C.dims slots C.homes C.counted C.group rest k C.address C.known.halfway C.known.space (below_of C)).is)

-- all of that together
pub record WantsOf (slots : List Slot) (k : PutOff) : Type 0 where
  pub in_range : k.node < length slots
  pub is_node : is_table (slot_of slots k.node) ≡ false
  pub base : k.base < length slots
  pub inside : LeadInside slots
  pub ends : IsSome (walk_end slots k.base (finer_steps k))

-- and what it leaves
pub settles_last : (kept : ℕ) (old new : List Slot) (rest : List PutOff) (k : PutOff) → kept < length (rest ++ k ∷ []) → IsSet old new k → SettlesTo kept old new (rest ++ k ∷ []) rest
settles_last kept old new rest k some S dims homes h g x before size K = (
  record {
    halfway = last_is_set dims old homes h g rest k x K.halfway K.space below new (subst (λ z. IsRelinked old new k.node (down k.label) (shared z)) same S.relinked);
    space = K.space;
    puts = puts_before homes x before rest k K.puts (omega (arith, some, size));
    points = K.points;
  },
  record {
    size = omega (arith, S.relinked.size);
    homes = λ j y. refl;
    links = λ j f y n. S.relinked.old_link j f (λ a b. n (subst (λ z. IsAbove x (home_of homes z)) (sym a) below));
    kinds = λ j y. S.relinked.old_kind j;
  },
  λ L. least_relinked old new homes h g (BegunAfter x) k.node S.to (down k.label) S.relinked (inr (further below)) L,
)
  where
    below : IsAbove x (home_of homes k.node)
    below = last_below homes x before rest k K.puts (omega (arith, some, size))

    same : S.to ≡ (last_settles dims old homes h g rest k x K.halfway K.space below).slot
    same =
        let m : Some S.to ≡ Some (last_settles dims old homes h g rest k x K.halfway K.space below).slot = sym S.ends ∙ (last_settles dims old homes h g rest k x K.halfway K.space below).is in
        cc

pub settles_none : (kept : ℕ) (slots : List Slot) (put : List PutOff) → SettlesTo kept slots slots put put
settles_none kept slots put dims homes h g x before size K = (K, keeps-refl (state slots homes []) x, λ L. L)

pub settles_more : (kept : ℕ) (a b c : List Slot) (put mid left : List PutOff) → SettlesTo kept a b put mid → SettlesTo kept b c mid left → SettlesTo kept a c put left
settles_more kept a b c put mid left P Q dims homes h g x before size K =
    let p = P dims homes h g x before size K in
    let q = Q dims homes h g x before size p.0 in
    (q.0, keeps-trans p.1 q.1, λ L. q.2 (p.2 L))

pub can_settle_on : (kept : ℕ) (a b : List Slot) (put left : List PutOff) → SettlesTo kept a b put left → ∥ CanSettle a put kept ∥₁ → ∥ CanSettle b left kept ∥₁
can_settle_on kept a b put left P R = ∥∥₁_map R (λ C. record {
  dims = C.dims;
  homes = C.homes;
  counted = C.counted;
  group = C.group;
  address = C.address;
  before = C.before;
  size = C.size;
  known = (P C.dims C.homes C.counted C.group C.address C.before C.size C.known).0;
})

-- the same of a list from whose end an entry was taken
module _ (kept : ℕ) (start slots : List Slot) (put : List PutOff) (items rest : List PutOffLink) (p : PutOffLink) (is : items ≡ rest ++ p ∷ []) (some : kept < length items) (S : SettlesTo kept start slots put (entries items)) where
  split : entries items ≡ entries rest ++ entry_of p ∷ []
  split = ap entries is ∙ map-append (λ q. entry_of q) rest (p ∷ [])

  entry_left : kept < length (entries rest ++ entry_of p ∷ [])
  entry_left = let e = ap length is in omega (arith, some, e, length_push rest p, length_push (entries rest) (entry_of p), length-map rest (λ q. entry_of q))

  can_settle_last : ∥ CanSettle start put kept ∥₁ → ∥ CanSettle slots (entries rest ++ entry_of p ∷ []) kept ∥₁
  can_settle_last R = subst (λ z. ∥ CanSettle slots z kept ∥₁) split (can_settle_on kept start slots put (entries items) S R)

  pub settle_wants : ∥ CanSettle start put kept ∥₁ → WantsOf slots (entry_of p)
  settle_wants R = record {
    in_range = settle_in_range slots (entries rest) (entry_of p) kept entry_left (can_settle_last R);
    is_node = settle_is_node slots (entries rest) (entry_of p) kept entry_left (can_settle_last R);
    base = settle_base slots (entries rest) (entry_of p) kept entry_left (can_settle_last R);
    inside = settle_inside slots (entries rest) (entry_of p) kept entry_left (can_settle_last R);
    ends = settle_ends slots (entries rest) (entry_of p) kept entry_left (can_settle_last R);
  }

  pub settles_rest : (new : List Slot) → IsSet slots new (entry_of p) → SettlesTo kept start new put (entries rest)
  settles_rest new T = settles_more kept start slots new put (entries rest ++ entry_of p ∷ []) (entries rest) (subst (λ z. SettlesTo kept start slots put z) split S) (settles_last kept slots new (entries rest) (entry_of p) entry_left T)
