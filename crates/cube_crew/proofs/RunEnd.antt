-- What the end of a run makes of its works.
use Rattle.std.proofs.Common.{◌≡◌, Bool, true, false, ◌||◌, List, All, map, sym, ap, ◌∙◌, subst}
use Rattle.std.specs.List.{AllZip}
use Rattle.std.proofs.lemmas.List.Elements.{All-weaker}
use Rattle.builder_core.specs.Builder.{BuilderState}
use Rattle.builder_core.specs.Work.{work_state}
use Rattle.crew_feeder.specs.declared.work.FeedWork.{FeedWork}
use Rattle.live_session.specs.Work.{WorkState, done_of}
use Rattle.live_session.specs.declared.done.SessionDone.{SessionDone}
use Rattle.cube_crew.specs.Ending.{EndsAsk, EndsFinal, EndsRun, IsRun, IsWithin}
use Rattle.cube_crew.specs.Starving.{FoundMemory, FoundRoom}
use Rattle.cube_crew.specs.Works.{end_of, fed_of}
use Rattle.cube_crew.specs.declared.jobs.Crewed.{Crewed}
use Rattle.cube_view.specs.Points.{Point}
use Rattle.cube_view.specs.declared.stat.Stat.{Stat}
use Rattle.feed_queue.specs.Ends.{AreInTurn, DrawState, sent_lists}
use Rattle.feed_queue.specs.Items.{entries_in}
use Rattle.live_session.specs.State.{SessionEnds}
use Rattle.mailbox.specs.Ends.{InEnd}
use Rattle.published_pair.specs.Rules.{Known}
use Rattle.world_core.specs.Interleaving.{IsInterleaving, entry_points, list_of}
use Rattle.world_core.specs.PairFact.{IsPrefix}
use Rattle.world_core.proofs.Prefixes.{IsPrefix-then}
use Rattle.world_core.specs.declared.entry.Entry.{Entry}
use Rattle.cube_crew.proofs.SessionOutcomes.{or_false}
use Rattle.cube_crew.proofs.Zips.{AllZip-weaker}

-- what is within a list is within each that it is a prefix of
pub all_within : {I O : Type 0} (list whole : List Point) (works : List (WorkState I O)) → IsPrefix list whole → All (IsWithin list) works → All (IsWithin whole) works
all_within list whole works front all =
    All-weaker (IsWithin list) (IsWithin whole) (λ work is. (IsPrefix-then work.shown.points list whole is.0 front, IsPrefix-then work.learned.points list whole is.1 front)) works all

module _ {I O : Type 0} (these : SessionEnds I O) (is_stat : Stat → Type 0) where
  -- what a final found where none lacked memory, it found where nothing did
  pub finals_starve : (whole : Known) (both one other : Bool) (works : List (WorkState I O)) (dones : List (SessionDone I O)) → both ≡ one || other
      → AllZip (EndsFinal these is_stat whole other) works dones → AllZip (EndsFinal these is_stat whole both) works dones
  finals_starve whole both one other works dones is z =
      AllZip-weaker (EndsFinal these is_stat whole other) (EndsFinal these is_stat whole both) works dones
      (λ work done end. record {
        taught = end.taught;
        after = end.after;
        learned = end.learned;
        ran = end.ran;
        gives = end.gives;
        found = λ enough. end.found (or_false one other (sym is ∙ enough)).1;
      })
      z

  pub ends_run : (works : List (FeedWork I)) (draws : DrawState) (builder : BuilderState) (mails : List InEnd) (asks finals : List (WorkState I O)) (c : Crewed I O)
      → IsRun works (work_state draws builder mails) asks finals
      → c.feeds ≡ map fed_of works → c.mails ≡ mails → c.drawn ≡ entries_in draws.drawn
      → (AreInTurn (map end_of works) draws.feeders → IsInterleaving draws.feeders (list_of (sent_lists (map end_of works))) c.drawn)
      → IsPrefix c.journal (entries_in builder.taken) → (builder.spent ≡ false → c.journal ≡ entries_in builder.taken)
      → (c.closed ≡ true → (whole : Known) × (whole.points ≡ entry_points c.journal) × AllZip (EndsAsk whole) asks c.asks × AllZip (EndsFinal these is_stat whole c.starved) finals c.finals)
      → (c.closed ≡ false → (c.asks ≡ map done_of asks) × (c.finals ≡ map done_of finals))
      → (c.closed ≡ false → All (IsWithin (entry_points (entries_in builder.taken))) asks)
      → (c.starved ≡ false → (c.closed ≡ true) × (builder.spent ≡ false))
      → (c.starved ≡ false → All FoundRoom works × All FoundMemory asks)
      → EndsRun these is_stat works (work_state draws builder mails) asks finals c
  ends_run works draws builder mails asks finals c run feeds same drawn turn prefix whole closed unclosed within found fed =
      let taken : entries_in builder.taken ≡ c.drawn = ap entries_in run.draws.taken ∙ sym drawn in
      record {
        feeds = feeds;
        drawn = (drawn, turn run.turn);
        journal = (subst (IsPrefix c.journal) taken prefix, λ enough. whole enough ∙ taken);
        mails = same;
        closed = closed;
        unclosed = unclosed;
        within = λ is. subst (λ (entries : List Entry). All (IsWithin (entry_points entries)) asks) taken (within is);
        found = found;
        fed = fed;
      }
