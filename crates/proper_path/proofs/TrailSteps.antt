-- A trail over the program's steps.
use Rattle.std.proofs.Common.{◌≡◌, ℕ, zero, suc, ◌+◌, ◌-◌, ◌<◌, Bool, true, false, cond, List, [], ◌∷◌, ◌++◌, length, get_or, drop, Option, Some, None, refl, sym, ap, ◌∙◌, subst, arith, true≢false, eq-eqb}
use Rattle.std.proofs.Math.Bool.{Bool-set}
use Rattle.std.proofs.Math.Logic.{∥∥₁_elim}
use Rattle.std.specs.Coded.{le_prop}
use Rattle.std.proofs.lemmas.List.{get_or_push, length_push, drop_more}
use Rattle.cube_view.specs.Walks.{Step, down, Walk, SpotPath, Cursor, after_down, then_step, cursor, Under, dimension}
use Rattle.node_arena.specs.Slots.{Slot, empty_node, slot_of, is_table}
use Rattle.node_arena.specs.Shape.{home_of, HasTables}
use Rattle.cube_view.proofs.FinerWalks.{under-some}
use Rattle.proper_path.specs.Order.{IsAbove, itself, further}
use Rattle.proper_path.specs.Midway.{IsBetween, DoneBefore}
use Rattle.proper_path.specs.Making.{State, AllOfShape, Makes, has, copies, adds}
use Rattle.proper_path.specs.Stepped.{IsStepped, LeadsInside}
use Rattle.proper_path.specs.Stepped as stepped
use Rattle.proper_path.specs.Rooted.{state, path_at, HasRoot, HasTrail, MakesTrail, MadeTrail}
use Rattle.proper_path.proofs.Above.{some-under}
use Rattle.proper_path.proofs.Grow.{node_empty}
use Rattle.proper_path.proofs.Order.{closed_before, not_done}
use Rattle.proper_path.proofs.Steps.{keeps-refl, keeps-trans, keeps_less, IsPlaced, makes_placed, IsMade, makes_kept, to_child}
use Rattle.proper_path.proofs.Stacks.{trail_starts, trail_steps}
use Rattle.node_arena.specs.Amounts.{Weighted, spots_in}

-- a node stands at each slot of a dimension before time
pub node_before : (dims : ℕ) (slots : List Slot) (homes : List Walk) (i : ℕ) → HasTables dims slots homes → i < length slots → (dimension (home_of homes i) ≡ dims → ⊥) → is_table (slot_of slots i) ≡ false
node_before dims slots homes i T lt n = go (is_table (slot_of slots i)) refl
  where
    go : (b : Bool) → is_table (slot_of slots i) ≡ b → b ≡ false
    go true e = absurd (n ((T.tables i lt).0 e))
    go false e = refl

-- the trail has the root alone
pub makes_start : (dims : ℕ) (p : Weighted) (slots : List Slot) (dim root : ℕ) → (dim ≡ dims → ⊥) → MakesTrail dims p slots slots dim root root 0 (path_at p.spot dim) (root ∷ [])
makes_start dims p slots dim root n homes K = record {
  homes' = homes;
  has_homes = K.has_homes;
  has_tables = K.has_tables;
  keeps = keeps-refl (state slots homes []) (home_of homes root);
  trail = trail_starts (state slots homes []) p root K.in_range (node_before dims slots homes root K.has_tables K.in_range (λ d. n (sym K.in_dim ∙ d)));
  some = omega arith;
  size = refl;
  last = λ k e. last k e;
  lies = K.lies;
  above = itself;
  same_dim = refl;
  rest = λ c e. K.rest c e;
  between = λ h updated shape B. B;
}
  where
    last : (k : ℕ) → suc k ≡ 1 → get_or (root ∷ []) k 0 ≡ root
    last zero e = refl
    last (suc k) e = absurd (omega arith)

-- a step of the program is one of the specification
record IsRealized (dims : ℕ) (old new : List Slot) (homes : List Walk) (i : ℕ) (e : Step) (j : ℕ) : Type 0 where
  homes' : List Walk
  makes : (updated : List ℕ) → Makes dims (state old homes updated) i e j (state new homes' updated)

realized : (dims : ℕ) (old new : List Slot) (homes : List Walk) (i l j : ℕ) → (dimension (home_of homes i) ≡ dims → ⊥) → IsStepped old i (down l) j new → IsRealized dims old new homes i (down l) j
realized dims old new homes i l j n (stepped.had is same) = record { homes' = homes; makes = λ updated. has is (ap (λ z. state z homes updated) same) }
realized dims old new homes i l j n (stepped.copies t is ji G) = record {
  homes' = homes ++ (down l ∷ home_of homes i) ∷ [];
  makes = λ updated. copies t is (λ x c. let w : ⊥ = cc in w) (record { is = ji; grown = G; homes = refl; updated = refl });
}
realized dims old new homes i l j n (stepped.adds is ji G) = record {
  homes' = homes ++ (down l ∷ home_of homes i) ∷ [];
  makes = λ updated. adds empty_node is node_empty.no_link node_empty.no_count (λ x. absurd (true≢false (sym x)), λ d. absurd (n d)) (record { is = ji; grown = G; homes = refl; updated = refl });
}

own_label : (p : SpotPath) (a : Walk) (c : Cursor) (l : ℕ) (r : List ℕ) → cursor p a ≡ Some c → c.rest ≡ l ∷ r → cursor p (down l ∷ a) ≡ Some (record { rest = r; later = c.later })
own_label p a c l r e f =
    ap (λ (o : Option Cursor). then_step o (down l)) e
    ∙ (ap (λ z. after_down l z c.later) f
    ∙ ap (λ (b : Bool). cond {A = Option Cursor} b (Some (record { rest = r; later = c.later })) None) (eq-eqb l l refl))

pub makes_more : (dims : ℕ) (p : Weighted) (old mid new : List Slot) (dim root at n label to : ℕ) (path stack : List ℕ) → MakesTrail dims p old mid dim root at n path stack → n < length path → label ≡ get_or path n 0 → IsStepped mid at (down label) to new → MakesTrail dims p old new dim root to (n + 1) path (stack ++ to ∷ [])
makes_more dims p old mid new dim root at n label to path stack M lt e S homes K = record {
  homes' = r.homes';
  has_homes = m.has_homes;
  has_tables = m.has_tables;
  keeps = keeps-trans T.keeps (keeps_less T.above m.keeps);
  trail = trail_steps dims p a b root at label to stack T.trail T.some (length stack - 1) (omega (arith, T.some)) (T.last (length stack - 1) (omega (arith, T.some))) lies m to_node;
  some = omega (arith, length_push stack to);
  size = omega (arith, length_push stack to, T.size);
  last = λ k x. get_or_push stack to 0 k (omega (arith, length_push stack to));
  lies = subst (Under p.spot) (sym m.at_home) lies;
  above = subst (λ z. IsAbove (home_of homes root) z) (sym m.at_home) (further T.above);
  same_dim = ap dimension m.at_home ∙ T.same_dim;
  rest = λ c x. let y : Some c ≡ Some (record { rest = drop (n + 1) path; later = c0.0.later }) = sym x ∙ (ap (cursor p.spot) m.at_home ∙ next) in ap (λ (o : Option Cursor). elim o [ None ↦ [] | Some d ↦ d.rest ]) y;
  between = between;
}
  where
    T : HasTrail dims p old homes mid root at n path stack
    T = M homes K

    a : State
    a = state mid T.homes' []

    in_range : at < length mid
    in_range = subst (λ z. z < length mid) (T.last (length stack - 1) (omega (arith, T.some))) (T.trail.inside (length stack - 1) (omega (arith, T.some)))

    is_node : is_table (slot_of mid at) ≡ false
    is_node = ap (λ z. is_table (slot_of mid z)) (sym (T.last (length stack - 1) (omega (arith, T.some)))) ∙ T.trail.nodes (length stack - 1) (omega (arith, T.some))

    not_time : dimension (home_of T.homes' at) ≡ dims → ⊥
    not_time d = true≢false (sym ((T.has_tables.tables at in_range).1 d) ∙ is_node)

    r : IsRealized dims mid new T.homes' at (down label) to
    r = realized dims mid new T.homes' at label to not_time S

    b : State
    b = state new r.homes' []

    c0 : (c : Cursor) × (cursor p.spot (home_of T.homes' at) ≡ Some c)
    c0 = under-some p.spot (home_of T.homes' at) T.lies

    next : cursor p.spot (down label ∷ home_of T.homes' at) ≡ Some (record { rest = drop (n + 1) path; later = c0.0.later })
    next = own_label p.spot (home_of T.homes' at) c0.0 label (drop (n + 1) path) c0.1 (T.rest c0.0 c0.1 ∙ (drop_more path n 0 lt ∙ ap (λ z. z ∷ drop (n + 1) path) (sym e)))

    lies : Under p.spot (down label ∷ home_of T.homes' at)
    lies = some-under p.spot (down label ∷ home_of T.homes' at) (record { rest = drop (n + 1) path; later = c0.0.later }) next

    m : IsPlaced dims (state mid T.homes' []) at (down label) to (state new r.homes' [])
    m = makes_placed dims (state mid T.homes' []) (state new r.homes' []) at to (down label) T.has_homes T.has_tables (r.makes [])

    to_node : is_table (slot_of new to) ≡ false
    to_node = node_before dims new r.homes' to m.has_tables m.in_range (λ d. not_time (ap dimension (sym m.at_home) ∙ d))

    between : (h : List Weighted) (updated : List ℕ) → AllOfShape (spots_in h) p.spot → IsBetween dims old homes h p (DoneBefore p (home_of homes root)) updated → IsBetween dims new r.homes' h p (DoneBefore p (home_of r.homes' to)) updated
    between h updated shape B = to_child dims h p (state mid T.homes' updated) (state new r.homes' updated) at to label made
      where
        made : IsMade dims h p (DoneBefore p (home_of T.homes' at)) (state mid T.homes' updated) at (down label) to (state new r.homes' updated)
        made = makes_kept dims h p (DoneBefore p (home_of T.homes' at)) (state mid T.homes' updated) (state new r.homes' updated) at to (down label) (T.between h updated shape B) (closed_before p (home_of T.homes' at)) in_range is_node lies
            (λ x. not_done p (home_of T.homes' at) (home_of T.homes' at) itself x) (λ x. not_done p (home_of T.homes' at) (down label ∷ home_of T.homes' at) (further itself) x) (λ x. let z : ⊥ = cc in absurd z) (r.makes updated)

-- what the step's conditions want
pub record CanStep (slots : List Slot) (at : ℕ) (e : Step) : Type 0 where
  pub in_range : at < length slots
  pub is_node : is_table (slot_of slots at) ≡ false
  pub inside : LeadsInside slots at e

pub can_step : (dims : ℕ) (p : Weighted) (old mid : List Slot) (dim root at n : ℕ) (path stack : List ℕ) (e : Step) → ∥ HasRoot dims p old dim root ∥₁ → MakesTrail dims p old mid dim root at n path stack → CanStep mid at e
can_step dims p old mid dim root at n path stack e R M = record {
  in_range = ∥∥₁_elim R le_prop (λ C. subst (λ z. z < length mid) (last C) (at_last C));
  is_node = ∥∥₁_elim R (Bool-set _ _) (λ C. ap (λ z. is_table (slot_of mid z)) (sym (last C)) ∙ node_last C);
  inside = λ t x. ∥∥₁_elim R le_prop (λ C. ((T C).has_homes.finer at t e x).0);
}
  where
    T : (C : HasRoot dims p old dim root) → HasTrail dims p old C.homes mid root at n path stack
    T C = M C.homes C.known

    at_last : (C : HasRoot dims p old dim root) → get_or stack (length stack - 1) 0 < length mid
    at_last C = let t = T C in t.trail.inside (length stack - 1) (omega (arith, t.some))

    node_last : (C : HasRoot dims p old dim root) → is_table (slot_of mid (get_or stack (length stack - 1) 0)) ≡ false
    node_last C = let t = T C in t.trail.nodes (length stack - 1) (omega (arith, t.some))

    last : (C : HasRoot dims p old dim root) → get_or stack (length stack - 1) 0 ≡ at
    last C = let t = T C in t.last (length stack - 1) (omega (arith, t.some))

pub made_trail : (dims : ℕ) (p : Weighted) (old new : List Slot) (dim root at n : ℕ) (path stack : List ℕ) → MakesTrail dims p old new dim root at n path stack → path ≡ path_at p.spot dim → n ≡ length path → MadeTrail dims p old new dim root stack
made_trail dims p old new dim root at n path stack M e f homes K =
    (at, subst (λ z. HasTrail dims p old homes new root at (length z) z stack) e (subst (λ z. HasTrail dims p old homes new root at z path stack) f (M homes K)))
