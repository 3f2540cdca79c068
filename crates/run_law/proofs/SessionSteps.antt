-- Each step of a session is its event, or none.
use Rattle.std.proofs.Common.{◌≡◌, ℕ, ◌<◌, true, false, ◌&&◌, leb, ltb, if◌then◌else◌, List, [], ◌∷◌, ◌++◌, length, map, set, Some, refl, sym, ap, ◌∙◌, subst, arith}
use Rattle.std.specs.Prelude.{slice_get}
use Rattle.std.proofs.Math.Seq.{map-set_same}
use Rattle.std.proofs.lemmas.Bool.Decides.{nat_tests}
use Rattle.std.proofs.lemmas.List.{length-map, map-set}
use Rattle.std.proofs.lemmas.Option.{get_or_from_slice_get, same_Some, slice_get_within}
use Rattle.cube_view.specs.Points.{Point}
use Rattle.cube_view.specs.declared.category.Category.{Category}
use Rattle.cube_view.specs.declared.schema.Schema.{Schema}
use Rattle.published_pair.specs.Pair.{names}
use Rattle.published_pair.specs.Rules.{Known}
use Rattle.published_pair.specs.declared.names.Names.{Names}
use Rattle.query_syntax.specs.Queries.{is_valid_query, are_choices, is_span, all_bins, filters_fit_verb}
use Rattle.query_syntax.specs.Tables.{is_drill, table}
use Rattle.query_syntax.specs.declared.query.Choice.TheVariants as choice
use Rattle.query_syntax.specs.declared.query.Query.{Query}
use Rattle.world_core.specs.Interleaving.{entry_points}
use Rattle.world_core.specs.Machine.{is_possible, after_events}
use Rattle.world_core.specs.declared.event.Event.TheVariants as event
use Rattle.world_core.specs.declared.world.Shot.{Shot}
use Rattle.world_core.specs.declared.world.World.{World}
use Rattle.run_law.specs.Moves.{TellsSession, PutsMail, Asks, Learns, Looks, LearnsEnd, with_session, having_looked, count_all, looked}
use Rattle.run_law.specs.Standing.{HasHeard, StandsWith}
use Rattle.run_law.specs.Views.{RunView, SessionView, seen_by, told_to}
use Rattle.run_law.proofs.HeardLists.{last_length-push, heard_told, heard_learned, heard_shown, heard_put, heard_asked, taken_last_few, heard_at, heard_set}
use Rattle.world_core.proofs.Entries.{length-entry_points}
use Rattle.run_law.proofs.StepLaws.{occurs}

-- every schema takes the query of all

all_choices : (categories : List Category) → are_choices categories (choice.All ∷ choice.All ∷ choice.All ∷ choice.All ∷ []) ≡ true
all_choices [] = refl
all_choices (a ∷ []) = refl
all_choices (a ∷ b ∷ []) = refl
all_choices (a ∷ b ∷ c ∷ []) = refl
all_choices (a ∷ b ∷ c ∷ d ∷ categories) = refl

count_all_valid : (schema : Schema) → is_valid_query schema count_all ≡ true
unfolding is_valid_query
count_all_valid schema =
    let top : leb 0 schema.depth ≡ true = grind (arith, nat_tests) in
    let choices = all_choices schema.categories in
    (λ i. top i && true && true && true && true && choices i && is_span all_bins && filters_fit_verb count_all)

-- so the machine's look for a line's query is possible where the session is known
looked_valid : (schema : Schema) (q : Query) → is_valid_query schema q ≡ true → (is_valid_query schema (looked q) ≡ true) × (is_drill (looked q).verb ≡ true)
looked_valid schema q valid =
    elim (is_drill q.verb) as (λ b. is_drill q.verb ≡ b → (is_valid_query schema (if b then q else count_all) ≡ true) × (is_drill (if b then q else count_all).verb ≡ true)) [
      | true ↦ λ drill. (valid, drill)
      | false ↦ λ drill. (count_all_valid schema, refl)
    ] refl

module _ (lists : List (List Point)) (a : RunView) (w : World) (stands : StandsWith lists a w) (s : ℕ) (session : SessionView) (at : slice_get a.sessions s ≡ Some session) where
  within_told : s < length w.told
  within_told =
      let l = ap length stands.told ∙ length-map a.sessions told_to in
      let h = slice_get_within a.sessions s session at in
      omega (arith, l, h)

  within_seen : s < length w.seen
  within_seen =
      let l = ap length stands.seen ∙ length-map a.sessions seen_by in
      let h = slice_get_within a.sessions s session at in
      omega (arith, l, h)

  pub old : HasHeard a.builder.published session
  old = heard_at a.builder.published a.sessions s session at stands.keeps.heard

  -- a session that counts as before in its place
  same_in_place : (count : SessionView → ℕ) (now : SessionView) → count now ≡ count session → map count (set a.sessions s now) ≡ map count a.sessions
  same_in_place count now same = map-set_same count a.sessions s now session (same ∙ ap count (sym (get_or_from_slice_get a.sessions s session session at)))

  -- only it changes, and what looks gave, on its part and the machine's
  session_stands : (now : SessionView) (shots : List Shot) {seen told : List ℕ} {given : List Shot} → HasHeard a.builder.published now
      → seen ≡ map seen_by (set a.sessions s now) → told ≡ map told_to (set a.sessions s now) → given ≡ shots
      → StandsWith lists (record (with_session a s now) { shots = shots }) (record w { seen = seen; told = told; shots = given })
  session_stands now shots heard seen told given = record {
    count = stands.count;
    rest = stands.rest;
    queue = stands.queue;
    drawn = stands.drawn;
    journal = stands.journal;
    seen = seen;
    told = told;
    shots = given;
    skipped = stands.skipped;
    keeps = record {
      lane = stands.keeps.lane;
      published = stands.keeps.published;
      heard = heard_set a.builder.published a.sessions s now heard stands.keeps.heard;
    };
  }

  -- where it has seen and was told of as much
  pub stays : (now : SessionView) → HasHeard a.builder.published now → seen_by now ≡ seen_by session → told_to now ≡ told_to session → StandsWith lists (with_session a s now) w
  stays now heard seen told = session_stands now a.shots heard (stands.seen ∙ sym (same_in_place seen_by now seen)) (stands.told ∙ sym (same_in_place told_to now told)) stands.shots

  journal_size : length a.builder.published.points ≡ length w.journal
  journal_size = ap length stands.keeps.published ∙ length-entry_points a.builder.journal ∙ ap length (sym stands.journal)

  -- where it is told of all that is published
  pub told_all : (now : SessionView) → HasHeard a.builder.published now → seen_by now ≡ seen_by session → told_to now ≡ length a.builder.published.points
      → (schema : Schema) (room n : ℕ) → StandsWith lists (with_session a s now) (after_events schema room n w (event.Tell s ∷ []))
  told_all now heard seen all schema room n =
      let known = within_told in
      let possible : is_possible schema room w (event.Tell s) ≡ true = grind (arith, nat_tests, known) in
      let size : length w.journal ≡ told_to now = sym (all ∙ journal_size) in
      subst (StandsWith lists (with_session a s now)) (sym (occurs schema room n w (event.Tell s) possible))
      (session_stands now a.shots heard (stands.seen ∙ sym (same_in_place seen_by now seen)) ((λ i. set (stands.told i) s (size i)) ∙ sym (map-set told_to a.sessions s now)) stands.shots)

  -- where it looks
  pub looks : (schema : Schema) (room n : ℕ) (q : Query) (shown : Known) → is_valid_query schema q ≡ true → shown.points ≡ a.builder.published.points
      → StandsWith lists (having_looked schema a s session (looked q) shown) (after_events schema room n w (event.Look s (looked q) ∷ []))
  looks schema room n q shown valid is =
      let now = record session { shown = shown } in
      let parts = looked_valid schema q valid in
      let known = within_seen in
      let there : ltb s (length w.seen) ≡ true = grind (arith, nat_tests, known) in
      let possible : is_possible schema room w (event.Look s (looked q)) ≡ true = (λ i. there i && parts.0 i && parts.1 i) in
      let points : entry_points w.journal ≡ shown.points = ap entry_points stands.journal ∙ sym (is ∙ stands.keeps.published) in
      let size : length w.journal ≡ length shown.points = sym (ap length is ∙ journal_size) in
      subst
      (StandsWith lists (having_looked schema a s session (looked q) shown))
      (sym (occurs schema room n w (event.Look s (looked q)) possible))
      (session_stands now (having_looked schema a s session (looked q) shown).shots
      (heard_shown a.builder.published session old shown)
      ((λ i. set (stands.seen i) s (size i)) ∙ sym (map-set seen_by a.sessions s now))
      (stands.told ∙ sym (same_in_place told_to now refl))
      (λ i. stands.shots i ++ record { session = s; table = table schema (looked q) (points i) } ∷ []))

module _ (lists : List (List Point)) (a b : RunView) (w : World) (stands : StandsWith lists a w) (s : ℕ) where
  pub tells : TellsSession s a b → (schema : Schema) (room n : ℕ) → StandsWith lists b (after_events schema room n w (event.Tell s ∷ []))
  tells step schema room n =
      let was = old lists a w stands s step.session step.at in
      let size : length step.told.front.points ≡ length a.builder.published.points = ap (λ (list : Known). length list.points) step.list in
      subst (λ (x : RunView). StandsWith lists x (after_events schema room n w (event.Tell s ∷ []))) (sym step.after)
      (told_all lists a w stands s step.session step.at (record step.session { told = step.session.told ++ step.told.front ∷ [] })
      (heard_told a.builder.published step.session was step.told.front size) refl (last_length-push 0 step.session.told step.told.front ∙ size) schema room n)

  pub learns_end : LearnsEnd s a b → (schema : Schema) (room n : ℕ) → StandsWith lists b (after_events schema room n w (event.Tell s ∷ []))
  learns_end step schema room n =
      let was = old lists a w stands s step.session step.at in
      let size : length step.last.points ≡ length a.builder.published.points = ap (λ (list : Known). length list.points) step.list in
      let told = record step.session { told = step.session.told ++ step.last ∷ [] } in
      let last = last_length-push 0 step.session.told step.last in
      subst (λ (x : RunView). StandsWith lists x (after_events schema room n w (event.Tell s ∷ []))) (sym step.after)
      (told_all lists a w stands s step.session step.at (record told { learned = step.last })
      (heard_learned a.builder.published told (heard_told a.builder.published step.session was step.last size) step.last (omega (arith, last))) refl (last ∙ size) schema room n)

  pub puts : PutsMail s a b → StandsWith lists b w
  puts step =
      let was = old lists a w stands s step.session step.at in
      subst (λ (x : RunView). StandsWith lists x w) (sym step.after)
      (stays lists a w stands s step.session step.at _ (heard_put a.builder.published step.session was step.earlier step.told.front step.last) refl refl)

  pub asks : Asks s a b → StandsWith lists b w
  asks step =
      let was = old lists a w stands s step.session step.at in
      subst (λ (x : RunView). StandsWith lists x w) (sym step.after)
      (stays lists a w stands s step.session step.at _ (heard_asked a.builder.published step.session was step.told step.of) refl refl)

  pub learns : Learns s a b → StandsWith lists b w
  learns step =
      let was = old lists a w stands s step.session step.at in
      let few = taken_last_few a.builder.published step.session was step.earlier step.told (length step.learned.points) step.last step.longer.greatest in
      subst (λ (x : RunView). StandsWith lists x w) (sym step.after)
      (stays lists a w stands s step.session step.at _ (heard_learned a.builder.published step.session was step.learned few) refl refl)

  pub looks_on : (schema : Schema) (q : Query) → Looks schema s q a b → (room n : ℕ) → StandsWith lists b (after_events schema room n w (event.Look s (looked q) ∷ []))
  looks_on schema q step room n =
      let shown : step.shown.points ≡ a.builder.published.points =
      ap (λ (n : Names). n.seen) (same_Some (names step.shown.book schema step.shown.points) (names a.builder.published.book schema a.builder.published.points) step.sees.after) in
      subst (λ (x : RunView). StandsWith lists x (after_events schema room n w (event.Look s (looked q) ∷ []))) (sym step.after)
      (looks lists a w stands s step.session step.at schema room n q step.shown step.valid shown)
