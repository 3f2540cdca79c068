-- How the sessions of a run end, place by place.
use Rattle.std.proofs.Common.{◌≡◌, Bool, false, List, [], ◌∷◌, All, map, Option, IfSome, IsSome, refl, sym, subst}
use Rattle.std.specs.List.{AllZip}
use Rattle.std.proofs.lemmas.List.Elements.{All-head, All-tail}
use Rattle.live_session.specs.Leaves.{LeavesSession}
use Rattle.live_session.specs.Work.{HadNoTurn, WorkState, done_of}
use Rattle.cube_crew.specs.Ending.{EndsAsk, EndsFinal}
use Rattle.cube_crew.specs.Starving.{FoundMemory}
use Rattle.cube_crew.specs.Works.{HasLearned}
use Rattle.cube_view.specs.declared.stat.Stat.{Stat}
use Rattle.live_session.specs.State.{SessionEnds}
use Rattle.published_pair.specs.Pair.{Fresh}
use Rattle.published_pair.specs.Rules.{Known}
use Rattle.world_core.specs.PairFact.{IsPrefix}
use Rattle.cube_crew.proofs.Zips.{AllZip-carried, AllZip-right}

module _ {I O : Type 0} where
  -- the work's viewer may close: what it was shown and told is a prefix of the ended list that it learned
  abbrev pub MayClose : WorkState I O → Type 0
  MayClose work = IfSome work.last (λ (l : Known). Fresh work.shown.points work.learned.points l.points)

  -- what is given back depends on these three alone
  done_of-same : (a b : WorkState I O) → a.session ≡ b.session → a.mail ≡ b.mail → a.end ≡ b.end → done_of a ≡ done_of b
  done_of-same a b session mail end = λ i. done_of (record { session = session i; schema = a.schema; shown = a.shown; learned = a.learned; last = a.last; mail = mail i; end = end i })

  ask_ends : (whole : Known) (before taught : WorkState I O) → HasLearned whole before taught → MayClose taught → EndsAsk whole before (done_of taught)
  ask_ends whole before taught learned closes =
      let fresh : Fresh taught.shown.points taught.learned.points whole.points = subst (λ (o : Option Known). IfSome o (λ (l : Known). Fresh taught.shown.points taught.learned.points l.points)) learned.learned.1 closes in
      record {
        gives = done_of-same taught before learned.same.0 learned.same.1 learned.same.2;
        shown = subst (λ (k : Known). IsPrefix k.points whole.points) learned.shown.0 fresh.0;
        told = learned.grown;
      }

  pub asks_end : (whole : Known) (befores taughts : List (WorkState I O)) → AllZip (HasLearned whole) befores taughts → All MayClose taughts → AllZip (EndsAsk whole) befores (map done_of taughts)
  asks_end whole [] [] z all = tt
  asks_end whole [] (t ∷ taughts) z all = absurd z
  asks_end whole (b ∷ befores) [] z all = absurd z
  asks_end whole (b ∷ befores) (t ∷ taughts) z all = (ask_ends whole b t z.0 (All-head MayClose t taughts all), asks_end whole befores taughts z.1 (All-tail MayClose t taughts all))

  pub learned_last : (whole : Known) (befores taughts : List (WorkState I O)) → AllZip (HasLearned whole) befores taughts → All (λ (w : WorkState I O). IsSome w.last) taughts
  learned_last whole befores taughts z = AllZip-right (HasLearned whole) (λ (w : WorkState I O). IsSome w.last) befores taughts (λ before taught learned. subst IsSome (sym learned.learned.1) refl) z

  pub learned_no_turn : (whole : Known) (befores taughts : List (WorkState I O)) → AllZip (HasLearned whole) befores taughts → All (λ (w : WorkState I O). HadNoTurn w.session) befores → All (λ (w : WorkState I O). HadNoTurn w.session) taughts
  learned_no_turn whole befores taughts z all =
      AllZip-carried (HasLearned whole) (λ (w : WorkState I O). HadNoTurn w.session) (λ (w : WorkState I O). HadNoTurn w.session) befores taughts (λ before taught none learned. subst HadNoTurn (sym learned.same.0) none) all z

module _ {I O : Type 0} (these : SessionEnds I O) (is_stat : Stat → Type 0) where
  pub ran_last : (taughts afters : List (WorkState I O)) → AllZip (LeavesSession these is_stat) taughts afters → All (λ (w : WorkState I O). IsSome w.last) taughts → All (λ (w : WorkState I O). IsSome w.last) afters
  ran_last taughts afters z all =
      AllZip-carried (LeavesSession these is_stat) (λ (w : WorkState I O). IsSome w.last) (λ (w : WorkState I O). IsSome w.last) taughts afters (λ taught after some ran. subst IsSome (sym ran.viewer.1) some) all z

  pub finals_end : (whole : Known) (starved : Bool) (befores taughts afters : List (WorkState I O)) → AllZip (HasLearned whole) befores taughts → AllZip (LeavesSession these is_stat) taughts afters → (starved ≡ false → All FoundMemory afters)
      → AllZip (EndsFinal these is_stat whole starved) befores (map done_of afters)
  finals_end whole starved [] [] [] z ran found = tt
  finals_end whole starved [] [] (a ∷ afters) z ran found = absurd ran
  finals_end whole starved [] (t ∷ taughts) afters z ran found = absurd z
  finals_end whole starved (b ∷ befores) [] afters z ran found = absurd z
  finals_end whole starved (b ∷ befores) (t ∷ taughts) [] z ran found = absurd ran
  finals_end whole starved (b ∷ befores) (t ∷ taughts) (a ∷ afters) z ran found = (
    record { taught = t; after = a; learned = z.0; ran = ran.0; gives = refl; found = λ enough. All-head FoundMemory a afters (found enough) },
    finals_end whole starved befores taughts afters z.1 ran.1 (λ enough. All-tail FoundMemory a afters (found enough)),
  )
