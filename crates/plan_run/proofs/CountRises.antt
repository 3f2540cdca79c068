-- Which counts rose where closing a run ended in a read fault or a write fault.
use Rattle.std.proofs.Common.{◌≡◌, ◌≢◌, ◌⊎◌, inl, inr, ◌≤◌, ℕ, Bool, true, false, List, [], ◌∷◌, ◌++◌, All, map, Result, Err, refl, sym, subst, ◌∙◌}
use Rattle.std.specs.Prelude.{IsErrOf}
use Rattle.crew_feeder.specs.declared.done.FeedDone.{FeedDone}
use Rattle.live_session.specs.declared.done.SessionDone.{SessionDone}
use Rattle.cube_crew.specs.declared.jobs.Crewed.{Crewed}
use Rattle.cube_schema.specs.declared.plan.Plan.{Plan}
use Rattle.outer_io.specs.Faults.{Rose}
use Rattle.outer_io.specs.declared.fault.IoFault.TheVariants as io
use Rattle.run_files.proofs.FaultRises.{counts_failed, counts_grow, rose_from_before, rose_later, rose_once}
use Rattle.run_files.specs.GivingBack.{TakesSources}
use Rattle.run_files.specs.Outside.{PlaceSeen, SinkSeen, SourceSeen}
use Rattle.run_files.specs.Stops.{write_end}
use Rattle.run_files.specs.declared.stop.Stop.{Stop}
use Rattle.run_files.specs.declared.stop.Stop.TheVariants.{NoMemory, PlanRefused, ReadFault, WriteFault}
use Rattle.plan_run.specs.Closing.{threads_end}
use Rattle.plan_run.specs.ThreadEnds.{feed_end, feeds_end, session_end, sessions_end, starved_end}
use Rattle.plan_run.proofs.EndFaults.{AnyOf, all_err, any_in, any_left, any_mapped, any_right, any_unmapped, any_with, feed_not_plan, feed_not_write, feed_read_end, session_not_plan, session_read_end, session_write_end, some_faulty, write_failed, write_not_plan, write_not_read}
use Rattle.plan_run.proofs.Causes.{FeedCause, RunCause, SessionCause, feed_count, session_count, sink_of}

pub starved_of : (starved : Bool) (e : Stop) → e ≢ NoMemory → starved_end starved ≢ Err e
starved_of true e other is = other (sym (cc is))
starved_of false e other is = cc is

module _ {P I O T : Type 0} {p : PlaceSeen P} {i : SourceSeen I} {s : SinkSeen O} {t : SinkSeen T} {plan : Plan} {crewed : Crewed I O} {unwritten : O} {place place' : P} {out out' : T} {result : Result (Unit {0}) Stop} (run : RunCause p i s t plan crewed unwritten place place' out out' result) where
  open run use {fresh, feeds, asks, finals, closes}

  abbrev MetFault : ℕ → Type 0
  MetFault n = Rose 0 n

  -- which of the five ends it is
  five_ends : (e : Stop) → result ≡ Err e → AnyOf (λ end. end ≡ Err e) (threads_end crewed ∷ write_end closes.wrote ∷ closes.given ∷ write_end closes.kept ∷ closes.said ∷ [])
  five_ends e is = all_err (threads_end crewed ∷ write_end closes.wrote ∷ closes.given ∷ write_end closes.kept ∷ closes.said ∷ []) e (sym closes.ends ∙ is)

  four_ends : (e : Stop) → threads_end crewed ≡ Err e → AnyOf (λ end. end ≡ Err e) (starved_end crewed.starved ∷ feeds_end crewed.feeds ∷ sessions_end crewed.asks ∷ sessions_end crewed.finals ∷ [])
  four_ends e is = all_err (starved_end crewed.starved ∷ feeds_end crewed.feeds ∷ sessions_end crewed.asks ∷ sessions_end crewed.finals ∷ []) e is

  -- ---- reading

  rose_by : (before after : P) (counts : List ℕ) → TakesSources p before after counts → AnyOf MetFault counts → Rose (p.read_faults before) (p.read_faults after)
  rose_by before after counts takes any = rose_once _ _ _ (some_faulty counts any) takes.rose

  fed_read : feeds_end crewed.feeds ≡ Err ReadFault → AnyOf MetFault (map (feed_count i) crewed.feeds)
  fed_read is =
      any_mapped (feed_count i) MetFault crewed.feeds
      (any_with (λ (d : FeedDone I). feed_end d.counts.fault ≡ Err ReadFault) (FeedCause i.faults) (λ d. MetFault (feed_count i d)) crewed.feeds (λ d end cause. cause.read (feed_read_end d.counts.fault end))
      (any_unmapped (λ (d : FeedDone I). feed_end d.counts.fault) (λ end. end ≡ Err ReadFault) crewed.feeds (all_err (map (λ (d : FeedDone I). feed_end d.counts.fault) crewed.feeds) ReadFault is)) feeds)

  sessions_read : (sessions : List (SessionDone I O)) → All (SessionCause i.faults s.faults) sessions → sessions_end sessions ≡ Err ReadFault → AnyOf MetFault (map (session_count i) sessions)
  sessions_read sessions causes is =
      any_mapped (session_count i) MetFault sessions
      (any_with (λ (d : SessionDone I O). session_end d.fault ≡ Err ReadFault) (SessionCause i.faults s.faults) (λ d. MetFault (session_count i d)) sessions (λ d end cause. cause.read (session_read_end d.fault end))
      (any_unmapped (λ (d : SessionDone I O). session_end d.fault) (λ end. end ≡ Err ReadFault) sessions (all_err (map (λ (d : SessionDone I O). session_end d.fault) sessions) ReadFault is)) causes)

  -- what the place's count is from the last source on
  after_sources : p.read_faults place' ≡ p.read_faults closes.parts.read
  after_sources = closes.journal.read_faults ∙ closes.parts.sinks_back.read_faults

  pub closing_read : result ≡ Err ReadFault → Rose (p.read_faults place) (p.read_faults place')
  closing_read is = by (five_ends ReadFault is)
    where
      to_end : Rose (p.read_faults place) (p.read_faults closes.parts.read) → Rose (p.read_faults place) (p.read_faults place')
      to_end rose = subst (Rose (p.read_faults place)) (sym after_sources) rose

      threads : AnyOf (λ end. end ≡ Err ReadFault) (starved_end crewed.starved ∷ feeds_end crewed.feeds ∷ sessions_end crewed.asks ∷ sessions_end crewed.finals ∷ []) → Rose (p.read_faults place) (p.read_faults closes.parts.read)
      threads (inl starved) = absurd (starved_of crewed.starved ReadFault (λ e. cc e) starved)
      threads (inr (inl fed)) =
          rose_later _ _ _ (rose_later _ _ _ (rose_by _ _ _ closes.parts.feeds_back (fed_read fed)) closes.parts.asks_back.rose.0) closes.parts.finals_back.rose.0
      threads (inr (inr (inl asked))) =
          rose_later _ _ _ (rose_from_before _ _ _ closes.parts.feeds_back.rose.0 (rose_by _ _ _ closes.parts.asks_back (sessions_read crewed.asks asks asked))) closes.parts.finals_back.rose.0
      threads (inr (inr (inr (inl ended)))) =
          rose_from_before _ _ _ closes.parts.feeds_back.rose.0 (rose_from_before _ _ _ closes.parts.asks_back.rose.0 (rose_by _ _ _ closes.parts.finals_back (sessions_read crewed.finals finals ended)))
      threads (inr (inr (inr (inr none)))) = absurd none

      by : AnyOf (λ end. end ≡ Err ReadFault) (threads_end crewed ∷ write_end closes.wrote ∷ closes.given ∷ write_end closes.kept ∷ closes.said ∷ []) → Rose (p.read_faults place) (p.read_faults place')
      by (inl is) = to_end (threads (four_ends ReadFault is))
      by (inr (inl wrote)) = absurd (write_not_read closes.wrote wrote)
      by (inr (inr (inl given))) = absurd (closes.parts.sinks_back.only.1 given)
      by (inr (inr (inr (inl kept)))) = absurd (write_not_read closes.kept kept)
      by (inr (inr (inr (inr (inl said))))) = absurd (closes.report.ends.1 said)
      by (inr (inr (inr (inr (inr none))))) = absurd none

  -- ---- writing

  sessions_write : (sessions : List (SessionDone I O)) → All (SessionCause i.faults s.faults) sessions → sessions_end sessions ≡ Err WriteFault → AnyOf (λ sink. MetFault (s.faults sink)) (map sink_of sessions)
  sessions_write sessions causes is =
      any_mapped sink_of (λ sink. MetFault (s.faults sink)) sessions
      (any_with (λ (d : SessionDone I O). session_end d.fault ≡ Err WriteFault) (SessionCause i.faults s.faults) (λ d. MetFault (s.faults d.sink)) sessions (λ d end cause. cause.write (session_write_end d.fault end))
      (any_unmapped (λ (d : SessionDone I O). session_end d.fault) (λ end. end ≡ Err WriteFault) sessions (all_err (map (λ (d : SessionDone I O). session_end d.fault) sessions) WriteFault is)) causes)

  no_feed_writes : (ds : List (FeedDone I)) → ¬ AnyOf (λ (d : FeedDone I). feed_end d.counts.fault ≡ Err WriteFault) ds
  no_feed_writes [] any = any
  no_feed_writes (d ∷ ds) (inl is) = feed_not_write d.counts.fault is
  no_feed_writes (d ∷ ds) (inr any) = no_feed_writes ds any

  before_sinks : p.write_faults closes.parts.read ≡ p.write_faults place
  before_sinks = closes.parts.finals_back.write_faults ∙ closes.parts.asks_back.write_faults ∙ closes.parts.feeds_back.write_faults

  grows_last : p.write_faults closes.replied ≤ p.write_faults place'
  grows_last = counts_grow _ _ (s.faults closes.sink) closes.kept closes.journal.counts

  abbrev Written : Type 0
  Written = Rose (p.write_faults place) (p.write_faults place') ⊎ Rose (t.faults out) (t.faults out')

  by_sinks : Rose (p.write_faults closes.parts.read) (p.write_faults closes.replied) → Written
  by_sinks rose = inl (rose_later _ _ _ (subst (λ n. Rose n (p.write_faults closes.replied)) before_sinks rose) grows_last)

  by_journal : Rose (p.write_faults closes.replied) (p.write_faults place') → Written
  by_journal rose = inl (subst (λ n. Rose n (p.write_faults place')) before_sinks (rose_from_before _ _ _ closes.parts.sinks_back.grows rose))

  pub closing_write : result ≡ Err WriteFault → Written
  closing_write is = by (five_ends WriteFault is)
    where
      some_sink : AnyOf (λ sink. MetFault (s.faults sink)) (map sink_of crewed.asks ++ map sink_of crewed.finals) → Written
      some_sink any =
          let one = any_in (λ sink. MetFault (s.faults sink)) (map sink_of crewed.asks ++ map sink_of crewed.finals) any in
          by_sinks (closes.parts.sinks_back.met one.0 one.1 one.2)

      threads : AnyOf (λ end. end ≡ Err WriteFault) (starved_end crewed.starved ∷ feeds_end crewed.feeds ∷ sessions_end crewed.asks ∷ sessions_end crewed.finals ∷ []) → Written
      threads (inl starved) = absurd (starved_of crewed.starved WriteFault (λ e. cc e) starved)
      threads (inr (inl fed)) = absurd (no_feed_writes crewed.feeds (any_unmapped (λ (d : FeedDone I). feed_end d.counts.fault) (λ end. end ≡ Err WriteFault) crewed.feeds (all_err (map (λ (d : FeedDone I). feed_end d.counts.fault) crewed.feeds) WriteFault fed)))
      threads (inr (inr (inl asked))) = some_sink (any_left (λ sink. MetFault (s.faults sink)) (map sink_of crewed.asks) (map sink_of crewed.finals) (sessions_write crewed.asks asks asked))
      threads (inr (inr (inr (inl ended)))) = some_sink (any_right (λ sink. MetFault (s.faults sink)) (map sink_of crewed.asks) (map sink_of crewed.finals) (sessions_write crewed.finals finals ended))
      threads (inr (inr (inr (inr none)))) = absurd none

      by : AnyOf (λ end. end ≡ Err WriteFault) (threads_end crewed ∷ write_end closes.wrote ∷ closes.given ∷ write_end closes.kept ∷ closes.said ∷ []) → Written
      by (inl is) = threads (four_ends WriteFault is)
      by (inr (inl wrote)) =
          let rose = closes.written.cause.rose (subst (λ r. IsErrOf r io.Failed) (sym (write_failed closes.wrote wrote)) refl) in
          by_journal (closes.journal.counts.rose (subst (λ n. Rose n (s.faults closes.sink)) fresh rose))
      by (inr (inr (inl given))) = by_sinks (closes.parts.sinks_back.write given)
      by (inr (inr (inr (inl kept)))) = by_journal (counts_failed _ _ (s.faults closes.sink) closes.kept (write_failed closes.kept kept) closes.journal.counts)
      by (inr (inr (inr (inr (inl said))))) = inr (closes.report.fails said).faults
      by (inr (inr (inr (inr (inr none))))) = absurd none

  -- ---- no refused plan

  no_feed_plans : (ds : List (FeedDone I)) → ¬ AnyOf (λ (d : FeedDone I). feed_end d.counts.fault ≡ Err PlanRefused) ds
  no_feed_plans [] any = any
  no_feed_plans (d ∷ ds) (inl is) = feed_not_plan d.counts.fault is
  no_feed_plans (d ∷ ds) (inr any) = no_feed_plans ds any

  no_session_plans : (ds : List (SessionDone I O)) → ¬ AnyOf (λ (d : SessionDone I O). session_end d.fault ≡ Err PlanRefused) ds
  no_session_plans [] any = any
  no_session_plans (d ∷ ds) (inl is) = session_not_plan d.fault is
  no_session_plans (d ∷ ds) (inr any) = no_session_plans ds any

  pub closing_not_plan : result ≢ Err PlanRefused
  closing_not_plan is = by (five_ends PlanRefused is)
    where
      threads : ¬ AnyOf (λ end. end ≡ Err PlanRefused) (starved_end crewed.starved ∷ feeds_end crewed.feeds ∷ sessions_end crewed.asks ∷ sessions_end crewed.finals ∷ [])
      threads (inl starved) = starved_of crewed.starved PlanRefused (λ e. cc e) starved
      threads (inr (inl fed)) = no_feed_plans crewed.feeds (any_unmapped (λ (d : FeedDone I). feed_end d.counts.fault) (λ end. end ≡ Err PlanRefused) crewed.feeds (all_err (map (λ (d : FeedDone I). feed_end d.counts.fault) crewed.feeds) PlanRefused fed))
      threads (inr (inr (inl asked))) = no_session_plans crewed.asks (any_unmapped (λ (d : SessionDone I O). session_end d.fault) (λ end. end ≡ Err PlanRefused) crewed.asks (all_err (map (λ (d : SessionDone I O). session_end d.fault) crewed.asks) PlanRefused asked))
      threads (inr (inr (inr (inl ended)))) = no_session_plans crewed.finals (any_unmapped (λ (d : SessionDone I O). session_end d.fault) (λ end. end ≡ Err PlanRefused) crewed.finals (all_err (map (λ (d : SessionDone I O). session_end d.fault) crewed.finals) PlanRefused ended))
      threads (inr (inr (inr (inr none)))) = none

      by : ¬ AnyOf (λ end. end ≡ Err PlanRefused) (threads_end crewed ∷ write_end closes.wrote ∷ closes.given ∷ write_end closes.kept ∷ closes.said ∷ [])
      by (inl is) = threads (four_ends PlanRefused is)
      by (inr (inl wrote)) = write_not_plan closes.wrote wrote
      by (inr (inr (inl given))) = closes.parts.sinks_back.only.0 given
      by (inr (inr (inr (inl kept)))) = write_not_plan closes.kept kept
      by (inr (inr (inr (inr (inl said))))) = closes.report.ends.0 said
      by (inr (inr (inr (inr (inr none))))) = none
