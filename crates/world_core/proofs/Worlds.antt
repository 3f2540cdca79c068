-- What every world of the machine keeps.
use Rattle.std.proofs.Common.{◌≡◌, ℕ, ◌+◌, ◌-◌, ◌<◌, ◌≤◌, true, false, ◌&&◌, leb, ltb, if◌then◌else◌, List, [], ◌∷◌, ◌++◌, All, length, length-append, get_or, take, drop, set, Some, refl, sym, subst, ap, ◌∙◌, arith, ⊎_elim, append_assoc}
use Rattle.std.specs.Prelude.{slice_get}
use Rattle.std.proofs.Math.Seq.{take-append_seam, get_or-append_seam}
use Rattle.std.proofs.lemmas.Bool.{cases_lt, and_parts, leb-true}
use Rattle.std.proofs.lemmas.List.{append-nil, take-append-drop, length-replicate, length-set, get_or_past}
use Rattle.std.proofs.lemmas.List.Elements.{All-nil, All-push, All-set, All-replicate, All-weaker, All-map, All-get_or}
use Rattle.std.proofs.lemmas.Option.{slice_get-get_or}
use Rattle.cube_view.specs.Points.{Point}
use Rattle.cube_view.specs.declared.schema.Schema.{Schema}
use Rattle.query_syntax.specs.Tables.{table}
use Rattle.query_syntax.specs.declared.query.Query.{Query}
use Rattle.world_core.specs.Interleaving.{numbered, entries_of, entry_points, list_of}
use Rattle.world_core.specs.Machine.{first_world, pushed, next_entry, shot_of, is_possible, happens, after_push, after_pop, after_publish, after_tell, after_look, after_skip, after_event, after_events, world_of}
use Rattle.world_core.specs.PairFact.{IsPrefix}
use Rattle.world_core.specs.WorldLaws.{EveryWorldKeepsOrder, EveryLookIsFresh}
use Rattle.world_core.specs.Worlds.{pushed_of, KeepsOrder, IsFreshLook}
use Rattle.world_core.specs.declared.entry.Entry.{Entry}
use Rattle.world_core.specs.declared.event.Event.{Event}
use Rattle.world_core.specs.declared.event.Event.TheVariants.{Push, Pop, Publish, Tell, Look}
use Rattle.world_core.specs.declared.world.Shot.{Shot}
use Rattle.world_core.specs.declared.world.World.{World}
use Rattle.world_core.proofs.Entries.{length-entry_points}
use Rattle.world_core.proofs.FeedOrder.{IsPushedFrom, IsPushedFrom-start, IsPushedFrom-push}
use Rattle.world_core.proofs.Prefixes.{IsPrefix-itself, IsPrefix-length, IsPrefix-take, IsPrefix-then}

-- Events

module _ (schema : Schema) (room : ℕ) where
  -- what an event keeps, whether it is possible or not
  pub event_keeps : (P : World → Type 0) (n : ℕ) (w : World) (e : Event) → (is_possible schema room w e ≡ true → P (happens schema w e)) → P (after_skip w n) → P (after_event schema room n w e)
  event_keeps P n w e possible noted =
      elim (is_possible schema room w e) as (λ b. is_possible schema room w e ≡ b → P (if b then happens schema w e else after_skip w n)) [
        | true ↦ λ is. possible is
        | false ↦ λ is. noted
      ] refl

  -- what each event keeps, all keep
  pub events_keep : (P : World → Type 0) → ((n : ℕ) (w : World) (e : Event) → P w → P (after_event schema room n w e)) → (n : ℕ) (w : World) (events : List Event) → P w → P (after_events schema room n w events)
  events_keep P keep n w [] p = p
  events_keep P keep n w (e ∷ events) p = events_keep P keep (n + 1) (after_event schema room n w e) events (keep n w e p)

  pub after_events-append : (n : ℕ) (w : World) (a b : List Event) → after_events schema room n w (a ++ b) ≡ after_events schema room (n + length a) (after_events schema room n w a) b
  after_events-append n w [] b = let e : n ≡ n + 0 = omega arith in ap (λ k. after_events schema room k w b) e
  after_events-append n w (x ∷ a) b =
      let e : n + 1 + length a ≡ n + length (x ∷ a) = omega arith in
      let v = after_event schema room n w x in
      after_events-append (n + 1) v a b ∙ ap (λ k. after_events schema room k (after_events schema room (n + 1) v a) b) e

  -- the journal and the shots only grow
  event_grows : (v : World) (n : ℕ) (w : World) (e : Event) → IsPrefix v.journal w.journal × IsPrefix v.shots w.shots → let u = after_event schema room n w e in IsPrefix v.journal u.journal × IsPrefix v.shots u.shots
  event_grows v n w e h = event_keeps (λ u. IsPrefix v.journal u.journal × IsPrefix v.shots u.shots) n w e (by_event e) h
    where
      by_event : (e : Event) → is_possible schema room w e ≡ true → let u = happens schema w e in IsPrefix v.journal u.journal × IsPrefix v.shots u.shots
      by_event (Push f) is = h
      by_event Pop is = h
      by_event Publish is = (IsPrefix-then v.journal w.journal (w.journal ++ w.pending) h.0 (w.pending, refl), h.1)
      by_event (Tell s) is = h
      by_event (Look s q) is = (h.0, IsPrefix-then v.shots w.shots (w.shots ++ shot_of schema s q w.journal ∷ []) h.1 (shot_of schema s q w.journal ∷ [], refl))

  pub events_grow : (n : ℕ) (w : World) (events : List Event) → let u = after_events schema room n w events in IsPrefix w.journal u.journal × IsPrefix w.shots u.shots
  events_grow n w events = events_keep (λ u. IsPrefix w.journal u.journal × IsPrefix w.shots u.shots) (event_grows w) n w events (IsPrefix-itself w.journal, IsPrefix-itself w.shots)

-- no number is more than the list has items
abbrev pub AllUpTo : {A : Type 0} → List A → List ℕ → Type 0
AllUpTo xs ns = All (λ n. n ≤ length xs) ns

AllUpTo-more : {A : Type 0} (xs ys : List A) (ns : List ℕ) → AllUpTo xs ns → AllUpTo (xs ++ ys) ns
AllUpTo-more xs ys ns all = All-weaker (λ n. n ≤ length xs) (λ n. n ≤ length (xs ++ ys)) (λ n le. let l = length-append xs ys in omega (arith, l, le)) ns all

-- what every world keeps
pub record Kept (feeds : List (List Point)) (sessions : ℕ) (w : World) : Type 0 where
  pub order : IsPushedFrom feeds (pushed w) w.rest
  pub sizes : (length w.seen ≡ sessions) × (length w.told ≡ sessions)
  pub seen : AllUpTo w.journal w.seen
  pub told : AllUpTo w.journal w.told
  pub shown : All (λ (shot : Shot). shot.table.seen ≤ length w.journal) w.shots

module _ (feeds : List (List Point)) (sessions : ℕ) where
  Kept-start : Kept feeds sessions (first_world feeds sessions)
  Kept-start = record {
    order = IsPushedFrom-start feeds;
    sizes = (length-replicate sessions 0, length-replicate sessions 0);
    seen = All-replicate (λ n. n ≤ 0) sessions 0 (omega arith);
    told = All-replicate (λ n. n ≤ 0) sessions 0 (omega arith);
    shown = All-nil (λ (shot : Shot). shot.table.seen ≤ 0);
  }

  module _ (w : World) (kept : Kept feeds sessions w) where
    Kept-push : (f : ℕ) → 1 ≤ f → f ≤ length w.rest → Kept feeds sessions (after_push w f)
    Kept-push f low high =
        let next : list_of w.rest f ≡ take 1 (list_of w.rest f) ++ drop 1 (list_of w.rest f) = sym (take-append-drop 1 (list_of w.rest f)) in
        let rest = set w.rest (f - 1) (drop 1 (list_of w.rest f)) in
        let order = IsPushedFrom-push feeds (pushed w) w.rest f (take 1 (list_of w.rest f)) (drop 1 (list_of w.rest f)) low high kept.order next in
        record {
          order = subst (λ (es : List Entry). IsPushedFrom feeds es rest) (append_assoc (w.journal ++ w.pending) w.queue (next_entry w f)) order;
          sizes = kept.sizes;
          seen = kept.seen;
          told = kept.told;
          shown = kept.shown;
        }

    Kept-pop : Kept feeds sessions (after_pop w)
    Kept-pop =
        let front = take 1 w.queue in
        let same : pushed w ≡ w.journal ++ (w.pending ++ front) ++ drop 1 w.queue =
        ap (λ l. w.journal ++ w.pending ++ l) (sym (take-append-drop 1 w.queue))
        ∙ (sym (append_assoc (w.journal ++ w.pending) front (drop 1 w.queue)) ∙ ap (λ l. l ++ drop 1 w.queue) (append_assoc w.journal w.pending front)) in
        record {
          order = subst (λ (es : List Entry). IsPushedFrom feeds es w.rest) same kept.order;
          sizes = kept.sizes;
          seen = kept.seen;
          told = kept.told;
          shown = kept.shown;
        }

    Kept-publish : Kept feeds sessions (after_publish w)
    Kept-publish =
        let same : pushed w ≡ w.journal ++ w.pending ++ [] ++ w.queue = ap (λ l. l ++ w.queue) (sym (append-nil (w.journal ++ w.pending))) in
        record {
          order = subst (λ (es : List Entry). IsPushedFrom feeds es w.rest) same kept.order;
          sizes = kept.sizes;
          seen = AllUpTo-more w.journal w.pending w.seen kept.seen;
          told = AllUpTo-more w.journal w.pending w.told kept.told;
          shown = All-weaker (λ (shot : Shot). shot.table.seen ≤ length w.journal) (λ (shot : Shot). shot.table.seen ≤ length (w.journal ++ w.pending)) (λ shot le. let l = length-append w.journal w.pending in omega (arith, l, le)) w.shots kept.shown;
        }

    Kept-tell : (s : ℕ) → Kept feeds sessions (after_tell w s)
    Kept-tell s = record {
      order = kept.order;
      sizes = (kept.sizes.0, length-set w.told s (length w.journal) ∙ kept.sizes.1);
      seen = kept.seen;
      told = All-set (λ n. n ≤ length w.journal) w.told s (length w.journal) (omega arith) kept.told;
      shown = kept.shown;
    }

    Kept-look : (schema : Schema) (s : ℕ) (q : Query) → Kept feeds sessions (after_look schema w s q)
    unfolding table
    Kept-look schema s q = record {
      order = kept.order;
      sizes = (length-set w.seen s (length w.journal) ∙ kept.sizes.0, kept.sizes.1);
      seen = All-set (λ n. n ≤ length w.journal) w.seen s (length w.journal) (omega arith) kept.seen;
      told = kept.told;
      shown = All-push (λ (shot : Shot). shot.table.seen ≤ length w.journal) w.shots (shot_of schema s q w.journal) kept.shown (let l = length-entry_points w.journal in omega (arith, l));
    }

  Kept-happens : (schema : Schema) (room : ℕ) (w : World) (e : Event) → Kept feeds sessions w → is_possible schema room w e ≡ true → Kept feeds sessions (happens schema w e)
  Kept-happens schema room w (Push f) kept is =
      let rest = and_parts (leb 1 f && leb f (length w.rest)) (ltb 0 (length (list_of w.rest f))) (and_parts _ (ltb (length w.queue) room) is).0 in
      let range = and_parts (leb 1 f) (leb f (length w.rest)) rest.0 in
      Kept-push w kept f (leb-true 1 f range.0) (leb-true f (length w.rest) range.1)
  Kept-happens schema room w Pop kept is = Kept-pop w kept
  Kept-happens schema room w Publish kept is = Kept-publish w kept
  Kept-happens schema room w (Tell s) kept is = Kept-tell w kept s
  Kept-happens schema room w (Look s q) kept is = Kept-look w kept schema s q

  Kept-event : (schema : Schema) (room n : ℕ) (w : World) (e : Event) → Kept feeds sessions w → Kept feeds sessions (after_event schema room n w e)
  Kept-event schema room n w e kept = event_keeps schema room (Kept feeds sessions) n w e (Kept-happens schema room w e kept) (record { order = kept.order; sizes = kept.sizes; seen = kept.seen; told = kept.told; shown = kept.shown })

  pub Kept-world : (schema : Schema) (room : ℕ) (events : List Event) → Kept feeds sessions (world_of schema feeds room sessions events)
  Kept-world schema room events = events_keep schema room (Kept feeds sessions) (Kept-event schema room) 0 (first_world feeds sessions) events Kept-start

-- The order of the feeds

take-front : {A : Type 0} (xs front more : List A) → xs ≡ front ++ more → take (length xs - length more) xs ≡ front
take-front xs front more e =
    let l = length-append front more in
    let m = ap length e in
    let n : length xs - length more ≡ length front = omega (arith, l, m) in
    ap (λ k. take k xs) n ∙ (ap (take (length front)) e ∙ take-append_seam front more)

module _ (feeds : List (List Point)) (sessions : ℕ) (w : World) (kept : Kept feeds sessions w) where
  pushed_points : (f : ℕ) → 1 ≤ f → f ≤ length feeds → pushed_of feeds w f ≡ entry_points (entries_of f (pushed w))
  pushed_points f low high = take-front (list_of feeds f) (entry_points (entries_of f (pushed w))) (list_of w.rest f) (kept.order.split f low high)

  pub keeps_order : KeepsOrder feeds sessions w
  keeps_order = record {
    lane = record {
      known = kept.order.known;
      each = λ f low high. kept.order.each f low high ∙ ap (numbered f 0) (sym (pushed_points f low high));
    };
    rest = λ f low high. kept.order.split f low high ∙ ap (λ l. l ++ list_of w.rest f) (sym (pushed_points f low high));
    sizes = (kept.order.count, kept.sizes.0, kept.sizes.1);
    seen = kept.seen;
    told = kept.told;
    pair = All-map (λ other. IsPrefix other w.journal) (λ n. take n w.journal) (w.seen ++ w.told) (λ i d lt. (drop (get_or (w.seen ++ w.told) i d) w.journal, sym (take-append-drop (get_or (w.seen ++ w.told) i d) w.journal)));
  }

-- every world keeps the order of its feeds
pub every_world_keeps_order : EveryWorldKeepsOrder
every_world_keeps_order schema feeds room sessions events = keeps_order feeds sessions (world_of schema feeds room sessions events) (Kept-world feeds sessions schema room events)

-- Looks

get_or-AllUpTo : {A : Type 0} (xs : List A) (ns : List ℕ) (i : ℕ) → AllUpTo xs ns → get_or ns i 0 ≤ length xs
get_or-AllUpTo xs ns i all = ⊎_elim
    (λ (lt : i < length ns). All-get_or (λ n. n ≤ length xs) ns i 0 lt all)
    (λ (le : length ns ≤ i). let e = get_or_past ns i 0 le in omega (arith, e))
    (cases_lt i (length ns))

slice_get-seam : {A : Type 0} (xs : List A) (y : A) (ys : List A) → slice_get (xs ++ y ∷ ys) (length xs) ≡ Some y
slice_get-seam xs y ys =
    let l = length-append xs (y ∷ ys) in
    slice_get-get_or (xs ++ y ∷ ys) (length xs) y (omega (arith, l)) ∙ ap Some (get_or-append_seam xs y ys y)

module _ (schema : Schema) (feeds : List (List Point)) (room sessions : ℕ) where
  abbrev world : List Event → World
  world events = world_of schema feeds room sessions events

  grown : (a b : List Event) → IsPrefix (world a).journal (world (a ++ b)).journal
  grown a b =
      let e = after_events-append schema room 0 (first_world feeds sessions) a b in
      subst (λ (u : World). IsPrefix (world a).journal u.journal) (sym e) (events_grow schema room (0 + length a) (world a) b).0

  module _ (before after : List Event) (s : ℕ) (q : Query) (possible : is_possible schema room (world before) (Look s q) ≡ true) where
    abbrev last : World
    last = world (before ++ Look s q ∷ after)

    abbrev looked : World
    looked = happens schema (world before) (Look s q)

    last_from : last ≡ after_events schema room (0 + length before + 1) looked after
    last_from =
        after_events-append schema room 0 (first_world feeds sessions) before (Look s q ∷ after)
        ∙ ap (λ b. after_events schema room (0 + length before + 1) (if b then looked else after_skip (world before) (0 + length before)) after) possible

    journal_grows : IsPrefix (world before).journal last.journal
    journal_grows = grown before (Look s q ∷ after)

    shots_grow : IsPrefix looked.shots last.shots
    shots_grow = subst (λ (u : World). IsPrefix looked.shots u.shots) (sym last_from) (events_grow schema room (0 + length before + 1) looked after).1

    shot_stays : slice_get last.shots (length (world before).shots) ≡ Some (shot_of schema s q (take (length (world before).journal) last.journal))
    shot_stays =
        let shots = (world before).shots in
        let shot = shot_of schema s q (world before).journal in
        ap (λ l. slice_get l (length shots)) (shots_grow.1 ∙ append_assoc shots (shot ∷ []) shots_grow.0)
        ∙ (slice_get-seam shots shot shots_grow.0 ∙ ap (λ l. Some (shot_of schema s q l)) (sym (IsPrefix-take (world before).journal last.journal journal_grows)))

    told_less : (earlier later : List Event) → before ≡ earlier ++ Tell s ∷ later → get_or (world (earlier ++ Tell s ∷ [])).told s 0 ≤ length (world before).journal
    told_less earlier later e =
        let then_world = world (earlier ++ Tell s ∷ []) in
        let up = get_or-AllUpTo then_world.journal then_world.told s (Kept-world feeds sessions schema room (earlier ++ Tell s ∷ [])).told in
        let split : before ≡ (earlier ++ Tell s ∷ []) ++ later = e ∙ sym (append_assoc earlier (Tell s ∷ []) later) in
        let more = IsPrefix-length then_world.journal (world before).journal (subst (λ (l : List Event). IsPrefix then_world.journal (world l).journal) (sym split) (grown (earlier ++ Tell s ∷ []) later)) in
        omega (arith, up, more)

    is_fresh : IsFreshLook schema world before last s q
    is_fresh = record {
      shot = shot_stays;
      within = IsPrefix-length (world before).journal last.journal journal_grows;
      seen = (Kept-world feeds sessions schema room before).shown;
      told = told_less;
    }

-- every look is fresh
pub every_look_is_fresh : EveryLookIsFresh
every_look_is_fresh schema feeds room sessions events before after s q e possible =
    subst (λ (l : List Event). IsFreshLook schema (world_of schema feeds room sessions) before (world_of schema feeds room sessions l) s q) (sym e) (is_fresh schema feeds room sessions before after s q possible)
