-- The visits of a trail, one after another, and the entering of a slot.
use Rattle.std.proofs.Common.{◌≡◌, ℕ, zero, suc, ◌+◌, ◌-◌, ◌<◌, ◌≤◌, true, List, [], ◌∷◌, ◌++◌, length, get_or, Option, is_some, refl, sym, ap, ◌∙◌, subst, subst₂, arith, true≢false}
use Rattle.std.proofs.Math.Bool.{Bool-set}
use Rattle.std.proofs.Math.Logic.{∥∥₁_elim, ∥∥₁_map}
use Rattle.std.specs.Coded.{le_prop}
use Rattle.std.proofs.lemmas.List.Elements.{Contains-append_left, Contains-push, Contains-push_cases}
use Rattle.std.proofs.lemmas.List.{get_or_append_left, get_or_push, length_push, drop_all}
use Rattle.cube_view.specs.Walks.{down, across, Walk, Cursor, after_down, then_step, Under, dimension}
use Rattle.proper_path.specs.Order.{IsAbove, itself, further}
use Rattle.node_arena.specs.Slots.{Slot, slot_of, is_table}
use Rattle.node_arena.specs.Shape.{home_of, HasHomes}
use Rattle.proper_path.specs.Midway.{IsContentHome, IsBetween, DoneAfter, Joins, IsJoined, joined, stays}
use Rattle.node_arena.specs.Calls.{table_add_many}
use Rattle.proper_path.specs.Changes.{IsCounted}
use Rattle.proper_path.specs.Making.{State, home, Keeps}
use Rattle.proper_path.specs.Trails.{IsOnTrail, IsTrailLink}
use Rattle.cube_view.proofs.FinerWalks.{under-some}
use Rattle.proper_path.proofs.Calls.{counts_more}
use Rattle.proper_path.proofs.Dims.{dimension-before}
use Rattle.proper_path.proofs.Order.{above-length}
use Rattle.proper_path.proofs.Steps.{keeps-trans, keeps_less}
use Rattle.point_insert.proofs.Whole.{IsVisitable, table_entered, visitable_finest, trail_visitable}
use Rattle.proper_path.proofs.Stacks.{trail_kept}
use Rattle.proper_path.specs.Rooted.{state, path_at, HasRoot, HasTrail, MadeTrail}
use Rattle.point_insert.specs.Known.{IsEnterable, CanEnter}
use Rattle.point_insert.specs.Visited.{IsEntered, IsVisitableIn, CanVisit, HasVisited, Enters, Visits, IsLeft, none_left, some_left, Leaves, VisitsAll}
use Rattle.node_arena.specs.Amounts.{Weighted}

-- a trail says nothing of the updated set
keeps_with : (old new : List Slot) (homes homes' : List Walk) (updated after : List ℕ) (x : Walk) → Keeps (state old homes []) (state new homes' []) x → Keeps (state old homes updated) (state new homes' after) x
keeps_with old new homes homes' updated after x k = record { size = k.size; homes = k.homes; links = k.links; kinds = k.kinds }

trail_with : (slots : List Slot) (homes : List Walk) (updated : List ℕ) (p : Weighted) (root : ℕ) (stack : List ℕ) → IsOnTrail (state slots homes []) p root stack → IsOnTrail (state slots homes updated) p root stack
trail_with slots homes updated p root stack T = record {
  first = T.first;
  inside = T.inside;
  nodes = T.nodes;
  deep = T.deep;
  links = λ n l. let t = T.links n l in record { label = t.label; lies = t.lies; is = t.is };
}

-- the trail was made, so its last node can be visited
left_of_trail : (dims : ℕ) (p : Weighted) (old new : List Slot) (updated : List ℕ) (dim root at n : ℕ) (path stack : List ℕ) (homes : List Walk) (h : List Weighted) → IsEnterable dims p old updated dim root homes h → HasTrail dims p old homes new root at n path stack → length path ≤ n → IsLeft dims h p (state old homes updated) dim root new updated stack
left_of_trail dims p old new updated dim root at n path stack homes h K T le = some_left T.homes' at (keeps_with old new homes T.homes' updated updated (home_of homes root) T.keeps) (trail_with new T.homes' updated p root stack T.trail) T.some T.last (record {
  between = V.between;
  in_range = V.in_range;
  is_node = V.is_node;
  lies = V.lies;
  path = V.path;
  shape = K.shape;
  spot = K.spot;
  in_dim = in_dim;
  light = K.light;
})
  where
    last : get_or stack (length stack - 1) 0 ≡ at
    last = T.last (length stack - 1) (omega (arith, T.some))

    none : (l : ℕ) → Under p.spot (down l ∷ home_of T.homes' at) → ⊥
    none l u =
        let c = under-some p.spot (home_of T.homes' at) T.lies in
        let e : c.0.rest ≡ [] = T.rest c.0 c.1 ∙ drop_all n path le in
        absurd (true≢false (sym (sym (ap (λ (o : Option Cursor). is_some (then_step o (down l))) c.1 ∙ ap (λ z. is_some (after_down l z c.0.later)) e) ∙ u)))

    V : IsVisitable dims h p K.shape K.spot (state new T.homes' updated) at
    V = visitable_finest dims h p K.shape K.spot (state new T.homes' updated) at (subst (λ z. z < length new) last (T.trail.inside (length stack - 1) (omega (arith, T.some)))) (ap (λ z. is_table (slot_of new z)) (sym last) ∙ T.trail.nodes (length stack - 1) (omega (arith, T.some))) T.lies none (T.between h updated K.shape K.between)

    in_dim : dimension (home_of T.homes' at) ≡ dim
    in_dim = T.same_dim ∙ K.in_dim

pub leaves_trail : (dims : ℕ) (p : Weighted) (old new : List Slot) (updated : List ℕ) (dim root : ℕ) (stack : List ℕ) → MadeTrail dims p old new dim root stack → Leaves dims p old new updated updated dim root stack
leaves_trail dims p old new updated dim root stack M homes h K =
    let r = M homes K.rooted in
    left_of_trail dims p old new updated dim root r.0 (length (path_at p.spot dim)) (path_at p.spot dim) stack homes h K r.1 (omega arith)

-- the last node of the rest
pub can_visit : (dims : ℕ) (p : Weighted) (old new : List Slot) (before after : List ℕ) (dim root at : ℕ) (stack : List ℕ) → CanEnter dims p old before dim root → Leaves dims p old new before after dim root (stack ++ at ∷ []) → CanVisit dims p new after dim at
can_visit dims p old new before after dim root at stack C L = go (L C.homes C.points C.known)
  where
    go : IsLeft dims C.points p (state old C.homes before) dim root new after (stack ++ at ∷ []) → CanVisit dims p new after dim at
    go (none_left e v) = let x = length_push stack at in let y = ap length e in absurd (omega arith)
    go (some_left homes' k keeps trail some last known) =
        let e : k ≡ at = sym (last (length stack) (omega (arith, length_push stack at))) ∙ get_or_push stack at 0 (length stack) refl in
        record { homes = homes'; points = C.points; known = subst (λ z. IsVisitableIn dims p new after dim z homes' C.points) e known }

-- a set that ends with the slot is one that the slot joined
pub joined_push : (updated : List ℕ) (i : ℕ) → IsJoined updated i (updated ++ i ∷ [])
joined_push updated i = record { kept = λ j c. Contains-append_left updated (i ∷ []) j c; here = Contains-push updated i; only = λ j c. Contains-push_cases updated i j c }

not_content : (a : Walk) (l : ℕ) (x : Walk) → a ≡ down l ∷ x → IsContentHome a → ⊥
not_content a l x e k = let y : down l ∷ x ≡ across ∷ k.of = sym e ∙ k.is in cc

-- a node below another of its dimension doesn't join the updated set
pub entered_inner : (dims : ℕ) (h : List Weighted) (p : Weighted) (old : State) (at : ℕ) (new : List Slot) (updated : List ℕ) (l : ℕ) (x : Walk) → at < length old.slots → home old at ≡ down l ∷ x → (v : HasVisited dims h p old at new updated) → IsEntered dims h p old at (state new v.homes' updated)
entered_inner dims h p old at new updated l x lt e v = go (home_of v.homes' at) refl
  where
    go : (a : Walk) → home_of v.homes' at ≡ a → IsEntered dims h p old at (state new v.homes' updated)
    go [] f = v.entered updated (stays (λ k. let y : [] ≡ across ∷ k.of = sym f ∙ k.is in cc))
    go (down m ∷ y) f = v.entered updated (stays (not_content (home_of v.homes' at) m y f))
    go (across ∷ y) f =
        let r = v.entered (updated ++ at ∷ []) (joined (record { of = y; is = f }) (joined_push updated at)) in
        let z : across ∷ y ≡ down l ∷ x = sym f ∙ (r.keeps.homes at lt ∙ e) in absurd cc

-- a trail without its last node
trail_front : (a : State) (p : Weighted) (root at : ℕ) (stack : List ℕ) → 0 < length stack → IsOnTrail a p root (stack ++ at ∷ []) → IsOnTrail a p root stack
trail_front a p root at stack some T = record {
  first = sym (old 0 some) ∙ T.first;
  inside = λ n l. subst (λ z. z < length a.slots) (old n l) (T.inside n (more n l));
  nodes = λ n l. ap (λ z. is_table (slot_of a.slots z)) (sym (old n l)) ∙ T.nodes n (more n l);
  deep = λ n l. ap (λ z. length (home a z)) (sym (old n l)) ∙ T.deep n (more n l);
  links = λ n l. subst₂ (λ x y. IsTrailLink a p x y) (old n (omega arith)) (old (suc n) l) (T.links n (more (suc n) l));
}
  where
    old : (n : ℕ) → n < length stack → get_or (stack ++ at ∷ []) n 0 ≡ get_or stack n 0
    old n l = get_or_append_left stack (at ∷ []) 0 n l

    more : (n : ℕ) → n < length stack → n < length (stack ++ at ∷ [])
    more n l = omega (arith, length_push stack at)

-- the root stands above each node of its trail
trail_above : (a : State) (p : Weighted) (root : ℕ) (stack : List ℕ) → HasHomes a.slots a.homes → IsOnTrail a p root stack → (n : ℕ) → n < length stack → IsAbove (home a root) (home a (get_or stack n 0))
trail_above a p root stack H T zero l = subst (λ z. IsAbove (home a root) (home a z)) (sym T.first) itself
trail_above a p root stack H T (suc n) l =
    let t = T.links n l in
    subst (λ z. IsAbove (home a root) z) (sym (H.at_home (get_or stack n 0) (get_or stack (suc n) 0) (down t.label) t.is).1) (further (trail_above a p root stack H T n (omega arith)))

-- one visit more
pub leaves_more : (dims : ℕ) (p : Weighted) (old mid new : List Slot) (before after last : List ℕ) (dim root at : ℕ) (stack : List ℕ) → Leaves dims p old mid before after dim root (stack ++ at ∷ []) → Visits dims p mid new after last dim at → Leaves dims p old new before last dim root stack
leaves_more dims p old mid new before after last dim root at stack L V homes h K = go (L homes h K)
  where
    O : State
    O = state old homes before

    at_end : get_or (stack ++ at ∷ []) (length stack) 0 ≡ at
    at_end = get_or_push stack at 0 (length stack) refl

    size : length (stack ++ at ∷ []) ≡ length stack + 1
    size = length_push stack at

    done : (homes' : List Walk) → Keeps (state old homes before) (state mid homes' after) (home_of homes root) → IsOnTrail (state mid homes' after) p root (stack ++ at ∷ []) → IsVisitableIn dims p mid after dim at homes' h → stack ≡ [] → IsLeft dims h p (state old homes before) dim root new last stack
    done homes' keeps T W e = none_left e (record { homes' = v.homes'; entered = entered })
      where
        v : HasVisited dims h p (state mid homes' after) at new last
        v = V homes' h W

        is_root : at ≡ root
        is_root = sym (ap (λ z. get_or (z ++ at ∷ []) 0 0) e) ∙ T.first

        same_home : home_of homes' root ≡ home_of homes root
        same_home = keeps.homes root K.in_range

        entered : (j : List ℕ) → Joins v.homes' root last j → IsEntered dims h p (state old homes before) root (state new v.homes' j)
        entered j J =
            let r = subst (λ z. IsEntered dims h p (state mid homes' after) z (state new v.homes' j)) is_root (v.entered j (subst (λ z. Joins v.homes' z last j) (sym is_root) J)) in
            record {
              between = subst (λ z. IsBetween dims new v.homes' h p (DoneAfter p z) j) same_home r.between;
              keeps = keeps-trans keeps (subst (λ z. Keeps (state mid homes' after) (state new v.homes' j) z) same_home r.keeps);
            }

    next : (homes' : List Walk) → Keeps (state old homes before) (state mid homes' after) (home_of homes root) → IsOnTrail (state mid homes' after) p root (stack ++ at ∷ []) → IsVisitableIn dims p mid after dim at homes' h → 0 < length stack → IsLeft dims h p (state old homes before) dim root new last stack
    next homes' keeps T W some = some_left v.homes' y (keeps-trans keeps (keeps_less above e.keeps)) T' some (λ n x. ap (λ z. get_or stack z 0) (omega arith)) (record {
      between = R.between;
      in_range = R.in_range;
      is_node = R.is_node;
      lies = R.lies;
      path = R.path;
      shape = K.shape;
      spot = K.spot;
      in_dim = ap dimension y_home ∙ (sym (ap dimension at_home) ∙ W.in_dim);
      light = K.light;
    })
      where
        v : HasVisited dims h p (state mid homes' after) at new last
        v = V homes' h W

        k : ℕ
        k = length stack - 1

        y : ℕ
        y = get_or stack (length stack - 1) 0

        in_stack : length stack - 1 < length stack
        in_stack = omega arith

        t0 : IsTrailLink (state mid homes' after) p (get_or (stack ++ at ∷ []) (length stack - 1) 0) (get_or (stack ++ at ∷ []) (suc (length stack - 1)) 0)
        t0 = T.links (length stack - 1) (omega (arith, size))

        t : IsTrailLink (state mid homes' after) p (get_or stack (length stack - 1) 0) at
        t = subst₂ (λ a b. IsTrailLink (state mid homes' after) p a b) (get_or_append_left stack (at ∷ []) 0 (length stack - 1) in_stack) (ap (λ z. get_or (stack ++ at ∷ []) z 0) (omega arith) ∙ at_end) t0

        at_home : home_of homes' at ≡ down t.label ∷ home_of homes' (get_or stack (length stack - 1) 0)
        at_home = (W.between.midway.has_homes.at_home (get_or stack (length stack - 1) 0) at (down t.label) t.is).1

        e : IsEntered dims h p (state mid homes' after) at (state new v.homes' last)
        e = entered_inner dims h p (state mid homes' after) at new last t.label (home_of homes' (get_or stack (length stack - 1) 0)) W.in_range at_home v

        root_mid : home_of homes' root ≡ home_of homes root
        root_mid = keeps.homes root K.in_range

        above : IsAbove (home_of homes root) (home_of homes' at)
        above = subst₂ (λ a b. IsAbove a (home_of homes' b)) root_mid at_end (trail_above (state mid homes' after) p root (stack ++ at ∷ []) W.between.midway.has_homes T (length stack) (omega (arith, size)))

        F : IsOnTrail (state mid homes' after) p root stack
        F = trail_front (state mid homes' after) p root at stack some T

        deep : length (home_of homes' at) ≡ length (home_of homes' root) + length stack
        deep = ap (λ z. length (home_of homes' z)) (sym at_end) ∙ T.deep (length stack) (omega (arith, size))

        T' : IsOnTrail (state new v.homes' last) p root stack
        T' = trail_kept (state mid homes' after) (state new v.homes' last) p root stack (home_of homes' at) e.keeps some F (omega (arith, deep))

        y_in : get_or stack (length stack - 1) 0 < length mid
        y_in = F.inside (length stack - 1) in_stack

        y_home : home_of v.homes' (get_or stack (length stack - 1) 0) ≡ home_of homes' (get_or stack (length stack - 1) 0)
        y_home = e.keeps.homes (get_or stack (length stack - 1) 0) y_in

        outside : IsAbove (home_of homes' at) (home_of homes' (get_or stack (length stack - 1) 0)) → ⊥
        outside f = let s = above-length f in let d = F.deep (length stack - 1) in_stack in omega (arith, deep)

        t' : IsTrailLink (state new v.homes' last) p (get_or stack (length stack - 1) 0) at
        t' = record { label = t.label; lies = subst (λ z. Under p.spot (down t.label ∷ z)) (sym y_home) t.lies; is = e.keeps.links (get_or stack (length stack - 1) 0) (down t.label) y_in outside ∙ t.is }

        R : IsVisitable dims h p K.shape K.spot (state new v.homes' last) (get_or stack (length stack - 1) 0)
        R = trail_visitable dims h p K.shape K.spot (state new v.homes' last) (get_or stack (length stack - 1) 0) at t' (omega (arith, y_in, e.keeps.size)) (T'.nodes (length stack - 1) in_stack)
            (subst (λ z. IsBetween dims new v.homes' h p (DoneAfter p z) last) (sym (e.keeps.homes at W.in_range)) e.between)

    go : IsLeft dims h p (state old homes before) dim root mid after (stack ++ at ∷ []) → IsLeft dims h p (state old homes before) dim root new last stack
    go (none_left e w) = let x = ap length e in absurd (omega (arith, size))
    go (some_left homes' j keeps trail some lst known) = pick stack refl
      where
        j_is : j ≡ at
        j_is = sym (lst (length stack) (omega (arith, size))) ∙ at_end

        W : IsVisitableIn dims p mid after dim at homes' h
        W = subst (λ z. IsVisitableIn dims p mid after dim z homes' h) j_is known

        pick : (s : List ℕ) → stack ≡ s → IsLeft dims h p (state old homes before) dim root new last stack
        pick [] f = done homes' keeps trail W f
        pick (z ∷ s) f = next homes' keeps trail W (let g = ap length f in omega arith)

-- all of the trail was visited
pub visits_all : (dims : ℕ) (p : Weighted) (old new : List Slot) (before after : List ℕ) (dim root : ℕ) (stack : List ℕ) → stack ≡ [] → Leaves dims p old new before after dim root stack → VisitsAll dims p old new before after dim root
visits_all dims p old new before after dim root stack e L homes h K = go (L homes h K)
  where
    go : IsLeft dims h p (state old homes before) dim root new after stack → HasVisited dims h p (state old homes before) root new after
    go (none_left f v) = v
    go (some_left homes' at keeps trail some last known) = let x = ap length e in absurd (omega arith)

-- the table of a point's whole walk counts it
pub table_visits : (dims : ℕ) (p : Weighted) (old new : List Slot) (updated : List ℕ) (dim root : ℕ) → (dim ≡ dims) → new ≡ table_add_many old root p.spot.bin p.amount → VisitsAll dims p old new updated updated dim root
table_visits dims p old new updated dim root e n homes h K = record {
  homes' = homes;
  entered = λ j J. table_entered dims h p K.shape K.spot (state old homes updated) (state new homes updated) (state new homes j) root K.between K.lies
      (subst (λ z. IsCounted old z root p.spot.bin p.amount) (sym n) (counts_more old root p.spot.bin p.amount K.in_range ((K.between.midway.has_tables.tables root K.in_range).1 (K.in_dim ∙ e)))) refl refl (record { slots = refl; homes = refl; joins = J });
}

pub is_table_there : (dims : ℕ) (p : Weighted) (slots : List Slot) (updated : List ℕ) (dim root : ℕ) → ∥ CanEnter dims p slots updated dim root ∥₁ → dim ≡ dims → (root < length slots) × (is_table (slot_of slots root) ≡ true)
is_table_there dims p slots updated dim root R e =
    (∥∥₁_elim R le_prop (λ C. C.known.in_range), ∥∥₁_elim R (Bool-set _ _) (λ C. (C.known.between.midway.has_tables.tables root C.known.in_range).1 (C.known.in_dim ∙ e)))

home_kept : (dims : ℕ) (h : List Weighted) (p : Weighted) (old : State) (root : ℕ) (new : List Slot) (updated : List ℕ) → root < length old.slots → (v : HasVisited dims h p old root new updated) → home_of v.homes' root ≡ home old root
home_kept dims h p old root new updated lt v = go (home_of v.homes' root) refl
  where
    go : (a : Walk) → home_of v.homes' root ≡ a → home_of v.homes' root ≡ home old root
    go [] f = (v.entered updated (stays (λ k. let y : [] ≡ across ∷ k.of = sym f ∙ k.is in cc))).keeps.homes root lt
    go (down m ∷ y) f = (v.entered updated (stays (not_content (home_of v.homes' root) m y f))).keeps.homes root lt
    go (across ∷ y) f = (v.entered (updated ++ root ∷ []) (joined (record { of = y; is = f }) (joined_push updated root))).keeps.homes root lt

-- a content joins the updated set
pub enters_content : (dims : ℕ) (p : Weighted) (old new : List Slot) (before after last : List ℕ) (dim root : ℕ) → 1 < dim → IsJoined after root last → VisitsAll dims p old new before after dim root → Enters dims p old new before last dim root
enters_content dims p old new before after last dim root l J V homes h K =
    let v = V homes h K in
    let k = K.content l in
    record { homes' = v.homes'; entered = v.entered last (joined (record { of = k.of; is = home_kept dims h p (state old homes before) root new after K.in_range v ∙ k.is }) J) }

-- the cube's root does not
pub enters_root : (dims : ℕ) (p : Weighted) (old new : List Slot) (before after : List ℕ) (dim root : ℕ) → dim ≡ 1 → VisitsAll dims p old new before after dim root → Enters dims p old new before after dim root
enters_root dims p old new before after dim root z V homes h K =
    let v = V homes h K in
    record { homes' = v.homes'; entered = v.entered after (stays (λ k. let d : suc (dimension k.of) ≡ dim = sym (ap dimension (sym (home_kept dims h p (state old homes before) root new after K.in_range v) ∙ k.is)) ∙ K.in_dim in let e = dimension-before k.of in let w : ⊥ = omega arith in w)) }

-- the root of what can be entered
pub root_of : (dims : ℕ) (p : Weighted) (slots : List Slot) (updated : List ℕ) (dim root : ℕ) → ∥ CanEnter dims p slots updated dim root ∥₁ → ∥ HasRoot dims p slots dim root ∥₁
root_of dims p slots updated dim root R = ∥∥₁_map R (λ C. record { homes = C.homes; known = C.known.rooted })

-- the two lemmas of a loop that pops the stack
pub can_visit_last : (dims : ℕ) (p : Weighted) (old new : List Slot) (before after : List ℕ) (dim root at : ℕ) (stack rest : List ℕ) → ∥ CanEnter dims p old before dim root ∥₁ → Leaves dims p old new before after dim root stack → stack ≡ rest ++ at ∷ [] → ∥ CanVisit dims p new after dim at ∥₁
can_visit_last dims p old new before after dim root at stack rest R L e =
    ∥∥₁_map R (λ C. can_visit dims p old new before after dim root at rest C (subst (λ z. Leaves dims p old new before after dim root z) e L))

pub leaves_pop : (dims : ℕ) (p : Weighted) (old mid new : List Slot) (before after last : List ℕ) (dim root at : ℕ) (stack rest : List ℕ) → Leaves dims p old mid before after dim root stack → stack ≡ rest ++ at ∷ [] → Visits dims p mid new after last dim at → Leaves dims p old new before last dim root rest
leaves_pop dims p old mid new before after last dim root at stack rest L e V = leaves_more dims p old mid new before after last dim root at rest (subst (λ z. Leaves dims p old mid before after dim root z) e L) V

-- a whole trail has a node for each level and the root
pub trail_size : (dims : ℕ) (p : Weighted) (old new : List Slot) (updated : List ℕ) (dim root : ℕ) (stack : List ℕ) → ∥ CanEnter dims p old updated dim root ∥₁ → MadeTrail dims p old new dim root stack → length stack ≡ length (path_at p.spot dim) + 1
trail_size dims p old new updated dim root stack R M =
    let low : length stack ≤ length (path_at p.spot dim) + 1 = ∥∥₁_elim R le_prop (λ C. let e = size C in omega (arith, e)) in
    let high : length (path_at p.spot dim) + 1 ≤ length stack = ∥∥₁_elim R le_prop (λ C. let e = size C in omega (arith, e)) in
    omega (arith, low, high)
  where
    size : CanEnter dims p old updated dim root → length stack ≡ length (path_at p.spot dim) + 1
    size C = (M C.homes C.known.rooted).1.size
