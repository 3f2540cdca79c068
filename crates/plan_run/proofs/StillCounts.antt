-- Which counts stand still where closing a run ended by a cause that comes late in the order, or well.
use Rattle.std.proofs.Common.{◌≡◌, ◌≢◌, ◌≤◌, ℕ, List, [], ◌∷◌, ◌++◌, All, map, Option, Some, Result, Ok, Err, refl, subst, ◌∙◌, arith}
use Rattle.std.specs.Prelude.{IsErrOf, OnOk}
use Rattle.std.proofs.lemmas.List.Elements.{All-append, All-map}
use Rattle.crew_feeder.specs.declared.done.FeedDone.{FeedDone}
use Rattle.live_session.specs.declared.done.SessionDone.{SessionDone}
use Rattle.cube_crew.specs.declared.jobs.Crewed.{Crewed}
use Rattle.cube_schema.specs.declared.plan.Plan.{Plan}
use Rattle.outer_io.specs.declared.cutter.CutFault.{CutFault}
use Rattle.outer_io.specs.declared.cutter.CutFault.TheVariants as cut
use Rattle.outer_io.specs.declared.fault.IoFault.{IoFault}
use Rattle.outer_io.specs.declared.fault.IoFault.TheVariants as io
use Rattle.run_files.specs.Outside.{PlaceSeen, Puts, SinkSeen, SourceSeen}
use Rattle.run_files.specs.Stops.{write_end}
use Rattle.run_files.specs.declared.stop.Stop.{Stop}
use Rattle.run_files.specs.declared.stop.Stop.TheVariants.{NoMemory, PlanRefused, ReadFault, WriteFault, FeedRefused}
use Rattle.session_core.specs.declared.fault.SessionFault.{SessionFault}
use Rattle.session_core.specs.declared.fault.SessionFault.TheVariants as fault
use Rattle.plan_run.specs.Closing.{run_text, threads_end}
use Rattle.plan_run.specs.ThreadEnds.{feed_end, feeds_end, session_end, sessions_end, starved_end}
use Rattle.plan_run.proofs.Causes.{RunCause, SessionCause, feed_count, session_count, sink_of}
use Rattle.plan_run.proofs.WellEnds.{All-unmapped, End, written_well}
use Rattle.plan_run.proofs.EndRanks.{ComesFirst, rank_end, within}
use Rattle.plan_run.proofs.InputRefusals.{write_not_refused}

abbrev well : End
well = Ok tt

-- what ended a feed, or a session, that comes after a read fault in the order, or after a write fault
late_feed : (f : Option CutFault) → 3 ≤ rank_end (feed_end f) → f ≢ Some cut.Read
late_feed f late is =
    let bad : 3 ≤ 2 = subst (λ f. 3 ≤ rank_end (feed_end f)) is late in
    omega (arith, bad)

late_session : (f : Option SessionFault) → 3 ≤ rank_end (session_end f) → f ≢ Some fault.Read
late_session f late is =
    let bad : 3 ≤ 2 = subst (λ f. 3 ≤ rank_end (session_end f)) is late in
    omega (arith, bad)

last_session : (f : Option SessionFault) → 4 ≤ rank_end (session_end f) → f ≢ Some fault.Write
last_session f late is =
    let bad : 4 ≤ 3 = subst (λ f. 4 ≤ rank_end (session_end f)) is late in
    omega (arith, bad)

-- an end that comes after a write fault is well, where it is by no refused feed
last_well : (e : End) → e ≢ Err FeedRefused → 4 ≤ rank_end e → e ≡ Ok tt
last_well (Ok x) other late = refl
last_well (Err NoMemory) other late = absurd (omega (arith, late))
last_well (Err PlanRefused) other late = absurd (omega (arith, late))
last_well (Err ReadFault) other late = absurd (omega (arith, late))
last_well (Err WriteFault) other late = absurd (omega (arith, late))
last_well (Err FeedRefused) other late = absurd (other refl)

not_failed : (r : Result (Unit {0}) IoFault) → r ≡ Ok tt → ¬ IsErrOf r io.Failed
not_failed (Ok x) is bad = cc bad
not_failed (Err e) is bad = cc is

module _ {P I O T : Type 0} {p : PlaceSeen P} {i : SourceSeen I} {s : SinkSeen O} {t : SinkSeen T} {plan : Plan} {crewed : Crewed I O} {unwritten : O} {place place' : P} {out out' : T} {result : Result (Unit {0}) Stop} (run : RunCause p i s t plan crewed unwritten place place' out out' result) where
  open run use {fresh, feeds, asks, finals, closes}

  abbrev IsZero : ℕ → Type 0
  IsZero n = n ≡ 0

  abbrev five : List End
  five = threads_end crewed ∷ write_end closes.wrote ∷ closes.given ∷ write_end closes.kept ∷ closes.said ∷ []

  abbrev four : List End
  four = starved_end crewed.starved ∷ feeds_end crewed.feeds ∷ sessions_end crewed.asks ∷ sessions_end crewed.finals ∷ []

  -- what comes no later than the run's end comes no later than each of them
  five_ends : (n : ℕ) → n ≤ rank_end result → ComesFirst n five
  five_ends n first = within n five (subst (λ (e : End). n ≤ rank_end e) closes.ends first)

  four_ends : (n : ℕ) → n ≤ rank_end result → ComesFirst n four
  four_ends n first = within n four (five_ends n first 0 well (omega arith))

  session_ends : (n : ℕ) (sessions : List (SessionDone I O)) → n ≤ rank_end (sessions_end sessions) → All (λ (d : SessionDone I O). n ≤ rank_end (session_end d.fault)) sessions
  session_ends n sessions first =
      All-unmapped (λ (d : SessionDone I O). session_end d.fault) (λ (e : End). n ≤ rank_end e) sessions (within n (map (λ (d : SessionDone I O). session_end d.fault) sessions) first)

  -- ---- reading

  fed_quiet : 3 ≤ rank_end result → All IsZero (map (feed_count i) crewed.feeds)
  fed_quiet late =
      let ends = All-unmapped (λ (d : FeedDone I). feed_end d.counts.fault) (λ (e : End). 3 ≤ rank_end e) crewed.feeds (within 3 (map (λ (d : FeedDone I). feed_end d.counts.fault) crewed.feeds) (four_ends 3 late 1 well (omega arith))) in
      All-map IsZero (feed_count i) crewed.feeds (λ k d low. (feeds k d low).quiet (late_feed _ (ends k d low)))

  sources_quiet : (sessions : List (SessionDone I O)) → All (SessionCause i.faults s.faults) sessions → 3 ≤ rank_end (sessions_end sessions) → All IsZero (map (session_count i) sessions)
  sources_quiet sessions causes late =
      let ends = session_ends 3 sessions late in
      All-map IsZero (session_count i) sessions (λ k d low. (causes k d low).read_quiet (late_session _ (ends k d low)))

  pub read_still : 3 ≤ rank_end result → p.read_faults place' ≡ p.read_faults place
  read_still late =
      let back = closes.parts in
      closes.journal.read_faults ∙ back.sinks_back.read_faults ∙ back.finals_back.quiet (sources_quiet crewed.finals finals (four_ends 3 late 3 well (omega arith)))
      ∙ back.asks_back.quiet (sources_quiet crewed.asks asks (four_ends 3 late 2 well (omega arith))) ∙ back.feeds_back.quiet (fed_quiet late)

  -- ---- writing

  sinks_quiet : (sessions : List (SessionDone I O)) → All (SessionCause i.faults s.faults) sessions → 4 ≤ rank_end (sessions_end sessions) → All (λ sink. s.faults sink ≡ 0) (map sink_of sessions)
  sinks_quiet sessions causes late =
      let ends = session_ends 4 sessions late in
      All-map (λ sink. s.faults sink ≡ 0) sink_of sessions (λ k d low. (causes k d low).write_quiet (last_session _ (ends k d low)))

  pub write_still : 4 ≤ rank_end result → p.write_faults place' ≡ p.write_faults place
  write_still late =
      let back = closes.parts in
      let wrote : closes.wrote ≡ Ok tt = written_well closes.wrote (last_well (write_end closes.wrote) (write_not_refused closes.wrote) (five_ends 4 late 1 well (omega arith))) in
      let given : closes.given ≡ Ok tt = last_well closes.given back.sinks_back.only.2 (five_ends 4 late 2 well (omega arith)) in
      let kept : closes.kept ≡ Ok tt = written_well closes.kept (last_well (write_end closes.kept) (write_not_refused closes.kept) (five_ends 4 late 3 well (omega arith))) in
      let quiet = All-append (λ sink. s.faults sink ≡ 0) (map sink_of crewed.asks) (map sink_of crewed.finals) (sinks_quiet crewed.asks asks (four_ends 4 late 2 well (omega arith))) (sinks_quiet crewed.finals finals (four_ends 4 late 3 well (omega arith))) in
      let sinks = subst (λ r. OnOk r (All (λ sink. s.faults sink ≡ 0) (map sink_of crewed.asks ++ map sink_of crewed.finals) → p.write_faults closes.replied ≡ p.write_faults back.read)) given back.sinks_back.quiet in
      let journal : s.faults closes.sink ≡ 0 = closes.written.cause.quiet (not_failed closes.wrote wrote) ∙ fresh in
      (closes.journal.counts.cause journal).quiet (not_failed closes.kept kept) ∙ sinks quiet ∙ back.finals_back.write_faults ∙ back.asks_back.write_faults ∙ back.feeds_back.write_faults

  pub put_still : 4 ≤ rank_end result → t.faults out' ≡ t.faults out
  put_still late =
      let said : closes.said ≡ Ok tt = last_well closes.said closes.report.ends.2 (five_ends 4 late 4 well (omega arith)) in
      (subst (λ r. OnOk r (Puts t out out' (run_text plan crewed))) said closes.report.puts).faults
