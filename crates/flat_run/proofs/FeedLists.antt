-- Feeds of which the first were read, and how the reading of all ends.
use Rattle.std.proofs.Common.{◌≡◌, ℕ, ◌+◌, ◌*◌, ◌≤◌, ◌<◌, List, [], ◌∷◌, ◌++◌, All, length, map, take, drop, get_or, set, Option, Result, Err, IsErrOf, refl, sym, ◌∙◌, ap, subst, arith}
use Rattle.std.specs.List.{AllZip, flat_map}
use Rattle.std.specs.Prelude.{IsTrue}
use Rattle.std.proofs.lemmas.List.{drop-set-lt, flat_map_more, get_or_default, length-set, take_all, take_more}
use Rattle.std.proofs.lemmas.List.Elements.{All-nil, All-set, All-weaker}
use Rattle.std.proofs.lemmas.List.Quantifiers.{any-set}
use Rattle.std.proofs.lemmas.Slice.Zip.{all_zipped_more}
use Rattle.cube_view.specs.Points.{Point}
use Rattle.cube_view.specs.Validity.{sound}
use Rattle.cube_view.specs.declared.schema.Schema.{Schema}
use Rattle.feed_reader.specs.Feeds.{points_in}
use Rattle.feed_reader.specs.declared.job.FeedJob.{FeedJob}
use Rattle.feed_reader.specs.declared.row.Row.{Row}
use Rattle.outer_io.specs.Faults.{HasCause, Rose}
use Rattle.outer_io.specs.Lines.{input_limit}
use Rattle.outer_io.specs.Progress.{IsTooLarge}
use Rattle.outer_io.specs.declared.cutter.CutFault.{CutFault}
use Rattle.outer_io.specs.declared.cutter.CutFault.TheVariants as fault
use Rattle.save_run.proofs.FeedLists.{drop_next, same_at}
use Rattle.save_run.specs.Taking.{AreQuiet, EndsBy, HasRows, IsUnread}
use Rattle.flat_run.specs.Reading.{AreSound, GivesAll, PushesFeed}

module _ {S : Type 0} (left : S → Option (List ℕ)) (faults : S → ℕ) (schema : Schema) (before : List (FeedJob S)) where
  -- the points of the first so many of the feeds were read
  pub record HasTaken (n : ℕ) (now : List (FeedJob S)) (points : List Point) : Type 0 where
    pub rows : List (List Row)
    pub read : AllZip (HasRows left faults) (take n before) rows
    pub points_are : points ≡ flat_map points_in rows
    pub are_sound : AreSound schema points
    pub few : length points ≤ n * input_limit
    pub quiet : AreQuiet left faults now
    pub rest : drop n now ≡ drop n before
    pub whole : length now ≡ length before

  -- before the first feed
  pub begins : (points : List Point) → points ≡ [] → All (IsUnread left faults schema) before → HasTaken 0 before points
  begins points none unread = record {
    rows = [];
    read = tt;
    points_are = none;
    are_sound = subst (AreSound schema) (sym none) (All-nil (λ p. IsTrue (sound schema p)));
    few = let n = ap (λ (l : List Point). length l) none in omega (arith, n);
    quiet = All-weaker (IsUnread left faults schema) (λ (feed : FeedJob S). faults feed.cutter.source ≡ 0) (λ feed is. is.quiet) before unread;
    rest = refl;
    whole = refl;
  }

  -- all feeds were read
  pub all_taken : (now : List (FeedJob S)) (n : ℕ) (points : List Point) → n ≡ length before → length before ≤ 8 → HasTaken n now points → GivesAll left faults schema before now points
  all_taken now n points all small on = record {
    rows = on.rows;
    read = subst (λ (feeds : List (FeedJob S)). AllZip (HasRows left faults) feeds on.rows) (take_all n before (omega (arith, all))) on.read;
    points_are = on.points_are;
    are_sound = on.are_sound;
    few = omega (arith, on.few, all, small);
    quiet = on.quiet;
  }

  module _ (n : ℕ) (now : List (FeedJob S)) (points : List Point) (on : HasTaken n now points) (d : FeedJob S) (lt : n < length before) where
    as_before : get_or now n d ≡ get_or before n d
    as_before = same_at n now before d on.rest

    -- of the next feed the header alone was read
    pub unread_there : All (IsUnread left faults schema) before → IsUnread left faults schema (get_or now n d)
    unread_there all = subst (IsUnread left faults schema) (sym as_before) (all n d lt)

    -- the feeds are quiet where it is
    pub quiet_there : (after : FeedJob S) → faults after.cutter.source ≡ 0 → AreQuiet left faults (set now n after)
    quiet_there after quiet = All-set (λ (feed : FeedJob S). faults feed.cutter.source ≡ 0) now n after quiet on.quiet

    -- a feed more is read
    pub one_more : (after : FeedJob S) (points' : List Point) → PushesFeed left faults schema (get_or now n d) points points' → faults after.cutter.source ≡ 0 → HasTaken (n + 1) (set now n after) points'
    one_more after points' taken quiet =
        let more : take (n + 1) before ≡ take n before ++ get_or now n d ∷ [] = take_more before n d lt ∙ ap (λ feed. take n before ++ feed ∷ []) (sym as_before) in
        record {
          rows = on.rows ++ taken.rows ∷ [];
          read = subst (λ (feeds : List (FeedJob S)). AllZip (HasRows left faults) feeds (on.rows ++ taken.rows ∷ [])) (sym more) (all_zipped_more (HasRows left faults) (take n before) on.rows (get_or now n d) taken.rows on.read taken.read);
          points_are = taken.points ∙ ap (λ (l : List Point). l ++ points_in taken.rows) on.points_are ∙ flat_map_more points_in [] on.rows taken.rows;
          are_sound = taken.are_sound;
          few = omega (arith, on.few, taken.few);
          rest = drop-set-lt (n + 1) now n after (omega arith) ∙ drop_next n now before on.rest;
          quiet = quiet_there after quiet;
          whole = length-set now n after ∙ on.whole;
        }

    module _ {T : Type 0} (after : FeedJob S) (r : Result T CutFault) (unread : All (IsUnread left faults schema) before) (cause : HasCause (faults (get_or now n d).cutter.source) (faults after.cutter.source) r fault.Read) where
      -- its source met no fault, unless a read of it failed
      pub stays_quiet : ¬ IsErrOf r fault.Read → faults after.cutter.source ≡ 0
      stays_quiet quiet = cause.quiet quiet ∙ (unread_there unread).quiet

      -- a fault that it meets ends the reading
      pub ends_reading : (IsErrOf r fault.TooMuch → IsTooLarge left (get_or now n d).cutter) → (f : CutFault) → r ≡ Err f → EndsBy left faults before (set now n after) f
      ends_reading large fault.NoMemory met = quiet_there after (stays_quiet (λ read. cc))
      ends_reading large fault.TooMuch met = ((n, get_or now n d, lt, get_or_default before n (get_or now n d) d lt ∙ sym as_before, large met), quiet_there after (stays_quiet (λ read. cc)))
      ends_reading large fault.Read met =
          let rose = subst (λ k. Rose k (faults after.cutter.source)) (unread_there unread).quiet (cause.rose met) in
          any-set (λ (feed : FeedJob S). Rose 0 (faults feed.cutter.source)) now n after (omega (arith, lt, on.whole)) rose
