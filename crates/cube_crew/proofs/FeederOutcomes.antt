-- What the feeders of a run leave.
use Rattle.std.proofs.Common.{◌≡◌, ℕ, zero, suc, ◌+◌, true, false, List, [], ◌∷◌, ◌++◌, All, length, map, Option, refl, sym, ap, ◌∙◌, arith}
use Rattle.std.specs.List.{AllZip}
use mathlib.Core.List.{map-map}
use Rattle.std.proofs.lemmas.List.Elements.{All-cons, All-head, All-nil, All-push, All-tail}
use Rattle.atomic_table.specs.Seated.{TableId}
use Rattle.crew_feeder.specs.Leaving.{HasFed}
use Rattle.crew_feeder.specs.Taking.{IsReady, new_work}
use Rattle.feed_reader.specs.declared.job.FeedJob.{FeedJob}
use Rattle.crew_feeder.specs.declared.work.FeedWork.{FeedWork}
use Rattle.cube_crew.specs.Crewed.{FeedsLeave, LeavesFeed, feed_rows}
use Rattle.cube_crew.specs.Works.{end_of, fed_of, works_of}
use Rattle.cube_view.specs.declared.schema.Schema.{Schema}
use Rattle.feed_queue.specs.Ends.{AreInTurn, FeedState, feed_state, new_feeds, sent_lists}
use Rattle.feed_reader.specs.Feeds.{points_in}
use Rattle.outer_io.specs.Progress.{IsGoing}
use Rattle.cube_crew.proofs.Zips.{AllZip-carried, AllZip-map, AllZip-right}

-- An end of that lane and schema which has sent nothing
pub record IsNewEnd (lane : TableId) (schema : Schema) (end : FeedState) : Type 0 where
  pub of_lane : end.lane ≡ lane
  pub of_schema : end.schema ≡ schema
  pub unsent : end.points ≡ []
  pub unended : end.ended ≡ false

pub new_ends : (lane : TableId) (schema : Schema) (n : ℕ) → All (IsNewEnd lane schema) (new_feeds lane schema n)
new_ends lane schema zero = All-nil (IsNewEnd lane schema)
new_ends lane schema (suc n) = All-push (IsNewEnd lane schema) (new_feeds lane schema n) (feed_state lane schema (n + 1) [] false) (new_ends lane schema n) (record { of_lane = refl; of_schema = refl; unsent = refl; unended = refl })

module _ {I : Type 0} where
  -- the works of new ends may be run
  pub works_ready : (lane : TableId) (schema : Schema) (jobs : List (FeedJob I)) (ends : List FeedState)
      → All (λ (job : FeedJob I). job.header.schema ≡ schema) jobs → All (λ (job : FeedJob I). IsGoing job.cutter) jobs → All (IsNewEnd lane schema) ends
      → All (IsReady schema) (works_of jobs ends)
  works_ready lane schema [] ends headers going new = All-nil (IsReady schema)
  works_ready lane schema (job ∷ jobs) [] headers going new = All-nil (IsReady schema)
  works_ready lane schema (job ∷ jobs) (end ∷ ends) headers going new =
      let one = All-head (IsNewEnd lane schema) end ends new in
      All-cons (IsReady schema) (new_work job end) (works_of jobs ends)
      (record {
        going = All-head (λ (job : FeedJob I). IsGoing job.cutter) job jobs going;
        header = All-head (λ (job : FeedJob I). job.header.schema ≡ schema) job jobs headers;
        lane = one.of_schema;
        unsent = (one.unsent, one.unended);
        unrun = (refl, refl, refl, refl);
      })
      (works_ready lane schema jobs ends (All-tail (λ (job : FeedJob I). job.header.schema ≡ schema) job jobs headers) (All-tail (λ (job : FeedJob I). IsGoing job.cutter) job jobs going) (All-tail (IsNewEnd lane schema) end ends new))

  -- the works of new ends are of their lane
  pub works_lanes : (lane : TableId) (schema : Schema) (jobs : List (FeedJob I)) (ends : List FeedState) → All (IsNewEnd lane schema) ends → All (λ (work : FeedWork I). work.end.lane ≡ lane) (works_of jobs ends)
  works_lanes lane schema [] ends new = All-nil (λ (work : FeedWork I). work.end.lane ≡ lane)
  works_lanes lane schema (job ∷ jobs) [] new = All-nil (λ (work : FeedWork I). work.end.lane ≡ lane)
  works_lanes lane schema (job ∷ jobs) (end ∷ ends) new =
      All-cons (λ (work : FeedWork I). work.end.lane ≡ lane) (new_work job end) (works_of jobs ends) (All-head (IsNewEnd lane schema) end ends new).of_lane (works_lanes lane schema jobs ends (All-tail (IsNewEnd lane schema) end ends new))

  -- the ends of works are those that they were made with
  pub works_ends : (jobs : List (FeedJob I)) (ends : List FeedState) → length ends ≡ length jobs → map end_of (works_of jobs ends) ≡ ends
  works_ends [] [] n = refl
  works_ends [] (end ∷ ends) n = absurd (omega (arith, n))
  works_ends (job ∷ jobs) [] n = absurd (omega (arith, n))
  works_ends (job ∷ jobs) (end ∷ ends) n = ap (λ l. end ∷ l) (works_ends jobs ends (omega (arith, n)))

module _ {I : Type 0} (left : I → Option (List ℕ)) (faults : I → ℕ) where
  feed_leaves : (lane : TableId) (schema : Schema) (job : FeedJob I) (end : FeedState) (work : FeedWork I) → IsNewEnd lane schema end → HasFed left faults true (new_work job end) work → LeavesFeed left faults job work.end.points (fed_of work)
  feed_leaves lane schema job end work new fed =
      record {
        lines = fed.lines;
        cutter = work.cutter;
        given = fed.given;
        source = refl;
        accepted = (fed.taken.sent ∙ ap (λ l. l ++ points_in (feed_rows job fed.lines)) new.unsent, refl);
        counts = (omega (arith, fed.taken.blank), omega (arith, fed.taken.refused));
        first = fed.taken.first;
      }

  pub feeds_leave : (lane : TableId) (schema : Schema) (jobs : List (FeedJob I)) (ends : List FeedState) (works : List (FeedWork I))
      → length ends ≡ length jobs → All (IsNewEnd lane schema) ends → AllZip (HasFed left faults true) (works_of jobs ends) works
      → FeedsLeave left faults jobs (sent_lists (map end_of works)) (map fed_of works)
  feeds_leave lane schema [] [] [] n new z = tt
  feeds_leave lane schema [] [] (work ∷ works) n new z = absurd z
  feeds_leave lane schema [] (end ∷ ends) works n new z = absurd (omega (arith, n))
  feeds_leave lane schema (job ∷ jobs) [] works n new z = absurd (omega (arith, n))
  feeds_leave lane schema (job ∷ jobs) (end ∷ ends) [] n new z = absurd z
  feeds_leave lane schema (job ∷ jobs) (end ∷ ends) (work ∷ works) n new z =
      (feed_leaves lane schema job end work (All-head (IsNewEnd lane schema) end ends new) z.0, feeds_leave lane schema jobs ends works (omega (arith, n)) (All-tail (IsNewEnd lane schema) end ends new) z.1)

  -- the ends that are left are of the same lane and in turn
  pub fed_lanes : (lane : TableId) (befores works : List (FeedWork I)) → All (λ (work : FeedWork I). work.end.lane ≡ lane) befores → AllZip (HasFed left faults true) befores works → All (λ (work : FeedWork I). work.end.lane ≡ lane) works
  fed_lanes lane befores works all z =
      AllZip-carried (HasFed left faults true) (λ (work : FeedWork I). work.end.lane ≡ lane) (λ (work : FeedWork I). work.end.lane ≡ lane) befores works (λ before work was fed. fed.taken.end.0 ∙ was) all z

  pub fed_ended : (befores works : List (FeedWork I)) → AllZip (HasFed left faults true) befores works → All (λ (work : FeedWork I). work.end.ended ≡ true) works
  fed_ended befores works z = AllZip-right (HasFed left faults true) (λ (work : FeedWork I). work.end.ended ≡ true) befores works (λ before work fed. fed.has_ended) z

  abbrev feeder_of_end : FeedState → ℕ
  feeder_of_end end = end.feeder

  pub fed_in_turn : (befores works : List (FeedWork I)) (ends : List FeedState) (n : ℕ) → map end_of befores ≡ ends → AreInTurn ends n → AllZip (HasFed left faults true) befores works → AreInTurn (map end_of works) n
  fed_in_turn befores works ends n are turn z =
      let number : FeedWork I → ℕ = λ (work : FeedWork I). work.end.feeder in
      let now : map number works ≡ map number befores = AllZip-map (HasFed left faults true) number number befores works (λ before work fed. fed.taken.end.2) z in
      map-map feeder_of_end end_of works ∙ now ∙ sym (map-map feeder_of_end end_of befores) ∙ ap (map feeder_of_end) are ∙ turn

-- works with one more job and end
pub works_of-push : {I : Type 0} (jobs : List (FeedJob I)) (ends : List FeedState) (job : FeedJob I) (end : FeedState) → length ends ≡ length jobs → works_of (jobs ++ job ∷ []) (ends ++ end ∷ []) ≡ works_of jobs ends ++ new_work job end ∷ []
works_of-push [] [] job end n = refl
works_of-push [] (e ∷ ends) job end n = absurd (omega (arith, n))
works_of-push (j ∷ jobs) [] job end n = absurd (omega (arith, n))
works_of-push (j ∷ jobs) (e ∷ ends) job end n = ap (λ l. new_work j e ∷ l) (works_of-push jobs ends job end (omega (arith, n)))
