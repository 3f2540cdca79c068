-- Feeds of which the first were read, and how the reading of all ends.
use Rattle.std.proofs.Common.{◌≡◌, ℕ, ◌+◌, ◌*◌, ◌≤◌, ◌<◌, List, [], ◌∷◌, ◌++◌, All, length, map, take, drop, get_or, set, Option, Result, Err, IsErrOf, refl, sym, ◌∙◌, ap, subst, arith, add-zero}
use Rattle.std.specs.List.{AllZip, flat_map}
use Rattle.std.proofs.lemmas.List.{drop-drop, drop-set-lt, flat_map_more, get_or-drop, get_or_default, length-set, map_push, take_all, take_more}
use Rattle.std.proofs.lemmas.List.Elements.{All-set, All-weaker}
use Rattle.std.proofs.lemmas.List.Quantifiers.{any-set}
use Rattle.std.proofs.lemmas.Slice.Zip.{all_zipped_more}
use Rattle.cube_store.specs.Holding.{CubeCounts, IsLeastCubeOf}
use Rattle.cube_store.specs.declared.cube.Cube.{Cube}
use Rattle.cube_view.specs.Points.{Point}
use Rattle.cube_view.specs.declared.schema.Schema.{Schema}
use Rattle.feed_reader.specs.Feeds.{points_in}
use Rattle.feed_reader.specs.declared.counts.FeedCounts.{FeedCounts}
use Rattle.feed_reader.specs.declared.job.FeedJob.{FeedJob}
use Rattle.feed_reader.specs.declared.row.Row.{Row}
use Rattle.outer_io.specs.Faults.{HasCause, Rose}
use Rattle.outer_io.specs.Lines.{input_limit}
use Rattle.outer_io.specs.Progress.{IsTooLarge}
use Rattle.outer_io.specs.declared.cutter.CutFault.{CutFault}
use Rattle.outer_io.specs.declared.cutter.CutFault.TheVariants as fault
use Rattle.save_run.specs.Counting.{JoinsFeed}
use Rattle.save_run.specs.Grouping.{GroupsCount, GroupsLeast, grouped_size}
use Rattle.save_run.specs.Taking.{AreQuiet, EndsBy, HasRows, IsUnread, TakesAll, counts_at_end}
use Rattle.save_run.specs.declared.grouped_cube.GroupedCube.{GroupedCube}
use Rattle.save_run.proofs.Groups.{counted_size}

-- lists that are the same from a place on are the same from the next on
pub drop_next : {X : Type 0} (n : ℕ) (xs ys : List X) → drop n xs ≡ drop n ys → drop (n + 1) xs ≡ drop (n + 1) ys
drop_next n xs ys e = sym (drop-drop 1 n xs) ∙ ap (λ l. drop 1 l) e ∙ drop-drop 1 n ys

-- and they are the same at it
pub same_at : {X : Type 0} (n : ℕ) (xs ys : List X) (d : X) → drop n xs ≡ drop n ys → get_or xs n d ≡ get_or ys n d
same_at n xs ys d e =
    let here : (l : List _) → get_or l n d ≡ get_or (drop n l) 0 d = λ l. ap (λ k. get_or l k d) (sym (add-zero n)) ∙ sym (get_or-drop n l 0 d) in
    here xs ∙ ap (λ l. get_or l 0 d) e ∙ sym (here ys)

module _ {S : Type 0} (left : S → Option (List ℕ)) (faults : S → ℕ) (schema : Schema) (before : List (FeedJob S)) where
  -- the first so many of the feeds were read into the cube
  pub record HasTaken (n : ℕ) (now : List (FeedJob S)) (grouped : GroupedCube) (counts : List FeedCounts) : Type 0 where
    pub rows : List (List Row)
    pub read : AllZip (HasRows left faults) (take n before) rows
    pub schema_is : grouped.cube.schema ≡ schema
    pub points : GroupsCount grouped (flat_map points_in rows)
    pub least : 1 < schema.batch → GroupsLeast grouped (flat_map points_in rows)
    pub counts_are : counts ≡ map counts_at_end rows
    pub quiet : AreQuiet left faults now
    pub rest : drop n now ≡ drop n before
    pub whole : length now ≡ length before
    pub few : grouped_size grouped ≤ n * input_limit

  -- feeds of which the header alone was read are quiet
  pub all_quiet : All (IsUnread left faults schema) before → AreQuiet left faults before
  all_quiet unread = All-weaker (IsUnread left faults schema) (λ (feed : FeedJob S). faults feed.cutter.source ≡ 0) (λ feed is. is.quiet) before unread

  -- before the first feed
  pub begins : (grouped : GroupedCube) (counts : List FeedCounts) → grouped.cube.schema ≡ schema → GroupsCount grouped [] → GroupsLeast grouped [] → counts ≡ [] → All (IsUnread left faults schema) before → HasTaken 0 before grouped counts
  begins grouped counts schema_is empty least none unread = record {
    rows = [];
    read = tt;
    schema_is = schema_is;
    points = empty;
    least = λ many. least;
    counts_are = none;
    quiet = All-weaker (IsUnread left faults schema) (λ (feed : FeedJob S). faults feed.cutter.source ≡ 0) (λ feed is. is.quiet) before unread;
    rest = refl;
    whole = refl;
    few = let none = counted_size grouped [] empty in omega (arith, none);
  }

  -- all feeds were read, and the points that were gathered last are inserted
  pub all_taken : (now : List (FeedJob S)) (n : ℕ) (grouped : GroupedCube) (counts : List FeedCounts) (cube : Cube) → n ≡ length before → HasTaken n now grouped counts → cube.schema ≡ grouped.cube.schema
      → ((h : List Point) → GroupsCount grouped h → CubeCounts cube h) → (1 < grouped.cube.schema.batch → (h : List Point) → GroupsLeast grouped h → IsLeastCubeOf cube h) → TakesAll left faults schema before now cube counts
  all_taken now n grouped counts cube all on same counted least = record {
    rows = on.rows;
    read = subst (λ (feeds : List (FeedJob S)). AllZip (HasRows left faults) feeds on.rows) (take_all n before (omega (arith, all))) on.read;
    schema_is = same ∙ on.schema_is;
    points = counted (flat_map points_in on.rows) on.points;
    least = λ many. least (subst (λ (z : Schema). 1 < z.batch) (sym on.schema_is) many) (flat_map points_in on.rows) (on.least many);
    counts_are = on.counts_are;
    quiet = on.quiet;
  }

  module _ (n : ℕ) (now : List (FeedJob S)) (grouped : GroupedCube) (counts : List FeedCounts) (on : HasTaken n now grouped counts) (d : FeedJob S) (lt : n < length before) where
    next_is : get_or now n d ≡ get_or before n d
    next_is = same_at n now before d on.rest

    -- of the next feed the header alone was read
    pub next_unread : All (IsUnread left faults schema) before → IsUnread left faults schema (get_or now n d)
    next_unread unread = subst (IsUnread left faults schema) (sym next_is) (unread n d lt)

    module _ (after : FeedJob S) where
      -- the feeds are quiet where it is
      pub quiet_on : faults after.cutter.source ≡ 0 → AreQuiet left faults (set now n after)
      quiet_on quiet = All-set (λ (feed : FeedJob S). faults feed.cutter.source ≡ 0) now n after quiet on.quiet

      -- a feed more is read
      pub one_more : (grouped' : GroupedCube) (of_feed : FeedCounts) (counts' : List FeedCounts) → JoinsFeed left faults (get_or now n d) grouped grouped' of_feed → grouped'.cube.schema ≡ grouped.cube.schema → grouped_size grouped' ≤ grouped_size grouped + input_limit
          → faults after.cutter.source ≡ 0 → counts' ≡ counts ++ of_feed ∷ [] → HasTaken (n + 1) (set now n after) grouped' counts'
      one_more grouped' of_feed counts' taken schema_is size quiet counted =
          let more : take (n + 1) before ≡ take n before ++ get_or now n d ∷ [] = take_more before n d lt ∙ ap (λ feed. take n before ++ feed ∷ []) (sym next_is) in
          record {
            rows = on.rows ++ taken.rows ∷ [];
            read = subst (λ (feeds : List (FeedJob S)). AllZip (HasRows left faults) feeds (on.rows ++ taken.rows ∷ [])) (sym more) (all_zipped_more (HasRows left faults) (take n before) on.rows (get_or now n d) taken.rows on.read taken.read);
            schema_is = schema_is ∙ on.schema_is;
            points = subst (λ points. GroupsCount grouped' points) (flat_map_more points_in [] on.rows taken.rows) (taken.points.counted (flat_map points_in on.rows) on.points);
            least = λ many. subst (λ points. GroupsLeast grouped' points) (flat_map_more points_in [] on.rows taken.rows) (taken.points.least (subst (λ (z : Schema). 1 < z.batch) (sym on.schema_is) many) (flat_map points_in on.rows) (on.least many));
            counts_are = counted ∙ ap (λ cs. cs ++ of_feed ∷ []) on.counts_are ∙ ap (λ c. map counts_at_end on.rows ++ c ∷ []) taken.counts_are ∙ sym (map_push counts_at_end on.rows taken.rows);
            quiet = quiet_on quiet;
            rest = drop-set-lt (n + 1) now n after (omega arith) ∙ drop_next n now before on.rest;
            whole = length-set now n after ∙ on.whole;
            few = omega (arith, on.few, size);
          }

      module _ {T : Type 0} (r : Result T CutFault) (unread : All (IsUnread left faults schema) before) (too_much : IsErrOf r fault.TooMuch → IsTooLarge left (get_or now n d).cutter) (cause : HasCause (faults (get_or now n d).cutter.source) (faults after.cutter.source) r fault.Read) where
        -- its source met no fault, unless a read of it failed
        pub stays_quiet : ¬ IsErrOf r fault.Read → faults after.cutter.source ≡ 0
        stays_quiet quiet = cause.quiet quiet ∙ (next_unread unread).quiet

        -- it meets a fault, which ends the reading
        pub ends_by : (f : CutFault) → r ≡ Err f → EndsBy left faults before (set now n after) f
        ends_by fault.Read met =
            let rose = subst (λ k. Rose k (faults after.cutter.source)) (next_unread unread).quiet (cause.rose met) in
            any-set (λ (feed : FeedJob S). Rose 0 (faults feed.cutter.source)) now n after (omega (arith, lt, on.whole)) rose
        ends_by fault.TooMuch met =
            ((n, get_or now n d, lt, get_or_default before n (get_or now n d) d lt ∙ sym next_is, too_much met), quiet_on (stays_quiet (λ read. cc)))
        ends_by fault.NoMemory met = quiet_on (stays_quiet (λ read. cc))
