-- Where all is opened, the machine's first world stands there.
use Rattle.std.proofs.Common.{◌≡◌, ℕ, zero, suc, ◌+◌, ◌-◌, ◌≤◌, false, List, [], ◌∷◌, ◌++◌, All, length, map, get_or, replicate, refl, sym, ap, ◌∙◌, subst, arith}
use Rattle.std.proofs.lemmas.List.{map-append}
use Rattle.std.proofs.lemmas.List.Elements.{All-nil, All-tail, All-weaker}
use Rattle.atomic_table.specs.Seated.{TableId}
use Rattle.cube_view.specs.Points.{Point}
use Rattle.cube_view.specs.declared.schema.Schema.{Schema}
use Rattle.feed_queue.specs.Ends.{FeedState, DrawState, feed_state, new_feeds, sent_lists}
use Rattle.feed_queue.specs.Items.{entries_in}
use Rattle.feed_queue.proofs.InTurn.{length-new_feeds}
use Rattle.published_pair.specs.Rules.{Known}
use Rattle.published_pair.specs.declared.told.Told.{Told}
use Rattle.world_core.specs.Interleaving.{numbered, entries_of, entry_points, list_of}
use Rattle.world_core.specs.Machine.{first_world}
use Rattle.run_law.specs.RunLaws.{OpeningStands}
use Rattle.run_law.specs.Standing.{HasHeard, KeepsRun, StandsWith, sent_of}
use Rattle.run_law.specs.Views.{IsNewSession, IsOpened, RunView, SessionView, last_length, seen_by, told_to}
use Rattle.run_law.proofs.Feeders.{points_of}

-- lists of which each is empty, behind such lists
nothing_in : (xs ys : List (List Point)) → ((k : ℕ) → get_or xs k [] ≡ []) → ((k : ℕ) → get_or ys k [] ≡ []) → (k : ℕ) → get_or (xs ++ ys) k [] ≡ []
nothing_in [] ys none nor k = nor k
nothing_in (x ∷ xs) ys none nor zero = none 0
nothing_in (x ∷ xs) ys none nor (suc k) = nothing_in xs ys (λ j. none (suc j)) nor k

one_empty : (k : ℕ) → get_or {A = List Point} ([] ∷ []) k [] ≡ []
one_empty zero = refl
one_empty (suc k) = refl

-- the feeders of a new lane have sent nothing
new_sent : (lane : TableId) (schema : Schema) (n k : ℕ) → get_or (sent_lists (new_feeds lane schema n)) k [] ≡ []
new_sent lane schema zero k = refl
new_sent lane schema (suc n) k =
    ap (λ (lists : List (List Point)). get_or lists k []) (map-append points_of (new_feeds lane schema n) (feed_state lane schema (n + 1) [] false ∷ []))
    ∙ nothing_in (sent_lists (new_feeds lane schema n)) ([] ∷ []) (new_sent lane schema n) one_empty k

-- numbers that all are 0
zeros : {X : Type 0} (count : X → ℕ) (xs : List X) → All (λ x. count x ≡ 0) xs → map count xs ≡ replicate (length xs) 0
zeros count [] none = refl
zeros count (x ∷ xs) none = (λ i. none 0 x (omega arith) i ∷ zeros count xs (All-tail (λ x. count x ≡ 0) x xs none) i)

none_told : (session : SessionView) → session.told ≡ [] → told_to session ≡ 0
none_told session none = ap (last_length 0) none

-- a new session has heard nothing
new_heard : (list : Known) (session : SessionView) → list.points ≡ [] → IsNewSession list session → HasHeard list session
new_heard list session empty new =
    let zero_told = none_told session new.told in
    record {
      within = omega (arith, zero_told);
      put = subst (All (λ (n : ℕ). n ≤ told_to session)) (sym new.put) (All-nil (λ (n : ℕ). n ≤ told_to session));
      taken = subst (All (λ (t : Told). length t.front.points ≤ told_to session)) (sym new.taken) (All-nil (λ (t : Told). length t.front.points ≤ told_to session));
      learned = let l = ap (λ (l : Known). length l.points) new.learned ∙ ap length empty in omega (arith, l);
    }

new_seen : (list : Known) (session : SessionView) → list.points ≡ [] → IsNewSession list session → seen_by session ≡ 0
new_seen list session empty new = ap (λ (l : Known). length l.points) new.shown ∙ ap length empty

module _ (schema : Schema) (feeders sessions : ℕ) (run : RunView) (opened : IsOpened schema feeders sessions run) where
  abbrev list : Known
  list = run.builder.published

  sent_none : (f : ℕ) → sent_of run f ≡ []
  sent_none f = ap (λ (feeds : List FeedState). list_of (sent_lists feeds) f) opened.feeds ∙ new_sent run.draws.lane schema feeders (f - 1)

  drawn_none : entries_in run.draws.drawn ≡ []
  drawn_none = ap (λ (draws : DrawState). entries_in draws.drawn) opened.draws

  queue_none : entries_in run.queue ≡ []
  queue_none = ap entries_in opened.queue

  counts : (count : SessionView → ℕ) → ((session : SessionView) → IsNewSession list session → count session ≡ 0) → replicate sessions 0 ≡ map count run.sessions
  counts count none = ap (λ n. replicate n 0) (sym opened.each.0) ∙ sym (zeros count run.sessions (All-weaker (IsNewSession list) (λ session. count session ≡ 0) none run.sessions opened.each.1))

  opening_keeps : KeepsRun run
  opening_keeps = record {
    lane = λ f low high. (λ i. entries_of f (drawn_none i ++ queue_none i)) ∙ sym (ap (numbered f 0) (sent_none f));
    published = opened.published ∙ sym (ap entry_points opened.journal);
    heard = All-weaker (IsNewSession list) (HasHeard list) (λ session new. new_heard list session opened.published new) run.sessions opened.each.1;
  }

  stands_first : (lists : List (List Point)) → length lists ≡ feeders → StandsWith lists run (first_world lists sessions)
  stands_first lists size = record {
    count = size ∙ sym (ap length opened.feeds ∙ length-new_feeds run.draws.lane schema feeders);
    rest = λ f low high. ap (λ (points : List Point). points ++ list_of lists f) (sym (sent_none f));
    queue = sym queue_none;
    drawn = sym drawn_none;
    journal = sym opened.journal;
    seen = counts seen_by (λ session new. new_seen list session opened.published new);
    told = counts told_to (λ session new. none_told session new.told);
    shots = sym opened.shots;
    skipped = refl;
    keeps = opening_keeps;
  }

pub opening_stands : OpeningStands
opening_stands schema feeders sessions run lists opened size = stands_first schema feeders sessions run opened lists size
