-- Feeds whose headers were read, and whose other lines have these rows.
use Rattle.std.proofs.Common.{◌≡◌, ◌+◌, ◌<◌, ◌≤◌, ℕ, zero, suc, false, List, [], ◌∷◌, ◌++◌, All, get_or, length, map, Option, Some, option_map, IsSomeAnd, refl, sym, ap, subst, ◌∙◌, arith}
use Rattle.std.specs.Prelude.{Any, Contains}
use Rattle.std.specs.List.{AllZip, flat_map}
use Rattle.std.proofs.lemmas.List.Elements.{All-cons, All-head, All-nil, All-tail, Contains-append_right}
use Rattle.cube_view.specs.declared.schema.Schema.{Schema}
use Rattle.feed_reader.proofs.FeedLaws.{accepted-lines, not_refused, rows_read}
use Rattle.feed_reader.proofs.FeedStart.{new_lines, some_told}
use Rattle.feed_reader.specs.Feeds.{accepted, is_feed_refused, points_in, rows}
use Rattle.feed_reader.specs.Rows.{row_of_line}
use Rattle.feed_reader.specs.declared.counts.FeedCounts.{FeedCounts}
use Rattle.feed_reader.specs.declared.job.FeedJob.{FeedJob}
use Rattle.feed_reader.specs.declared.row.Row.{Row}
use Rattle.outer_io.proofs.ToldLaws.{Told-some}
use Rattle.outer_io.specs.Cutting.{Cutter, IsNew, input_size, lines_left}
use Rattle.outer_io.specs.Lines.{input_limit, lines}
use Rattle.outer_io.specs.Progress.{IsTooLarge}
use Rattle.run_files.specs.Headed.{IsHeaded}
use Rattle.save_run.specs.Taking.{counts_at_end, HasRows, IsUnread}

-- the size of the input of a new cutter
new_size : {S : Type 0} (left : S → Option (List ℕ)) (c : Cutter S) (source : S) (bytes : List ℕ) → IsNew source c → left source ≡ Some bytes → input_size left c ≡ Some (0 + length bytes)
new_size left c source bytes new told = ap (λ k. input_size left k) new ∙ ap (λ (o : Option (List ℕ)). option_map (λ rest. 0 + length rest) (option_map (λ more. [] ++ more) o)) told

-- the points among all rows are the accepted records
accepted_are : (schema : Schema) (bytes : List ℕ) → points_in (rows schema bytes) ≡ accepted schema bytes
unfolding accepted
accepted_are schema bytes = refl

pub AllZip-length : {A B : Type 0} (R : A → B → Type 0) (xs : List A) (ys : List B) → AllZip R xs ys → length ys ≡ length xs
AllZip-length R [] [] z = refl
AllZip-length R [] (y ∷ ys) z = absurd z
AllZip-length R (x ∷ xs) [] z = absurd z
AllZip-length R (x ∷ xs) (y ∷ ys) z = ap suc (AllZip-length R xs ys z.1)

module _ {I : Type 0} (left : I → Option (List ℕ)) (faults : I → ℕ) (schema : Schema) where
  abbrev Feed : Type 0
  Feed = FeedJob I

  -- ---- one feed

  is_unread : (file : Option (List ℕ)) (feed : Feed) → IsHeaded left faults schema file feed → faults feed.cutter.source ≡ 0 → IsUnread left faults schema feed
  is_unread file feed headed quiet =
      let gives = headed.reads.header.2 in
      record {
        header = headed.reads.schema_is;
        going = gives.goes_on;
        given = gives.given ∙ gives.counts ∙ ap (λ (n : ℕ). n + 1) (ap (λ (k : Cutter I). k.given) headed.reads.made);
        quiet = quiet;
      }

  -- A feed with these bytes has these rows, and is not refused
  record IsFed (bytes : List ℕ) (rs : List Row) : Type 0 where
    pub rows_are : rs ≡ rows schema bytes
    pub taken : is_feed_refused schema bytes ≡ false

  -- the size of its input
  size_is : (bytes : List ℕ) (feed : Feed) → IsHeaded left faults schema (Some bytes) feed → input_size left feed.cutter ≡ Some (0 + length bytes)
  size_is bytes feed headed =
      let before = headed.reads.before in
      Told-some (input_size left before) (0 + length bytes) (λ n. input_size left feed.cutter ≡ Some n) (new_size left before headed.source bytes headed.reads.made headed.left_is) headed.reads.header.2.passed.size

  is_fed : (bytes : List ℕ) (feed : Feed) (rs : List Row) → IsHeaded left faults schema (Some bytes) feed → HasRows left faults feed rs → IsFed bytes rs
  is_fed bytes feed rs headed has =
      let before = headed.reads.before in
      let line = headed.reads.header.0 in
      let gives = headed.reads.header.2 in
      let head = headed.reads.header.3 in
      let places = feed.header.places in
      let lines_are : lines bytes ≡ line ∷ has.lines =
      some_told (lines_left left feed.cutter) has.lines (λ more. lines bytes ≡ line ∷ more)
      (Told-some (lines_left left before) (lines bytes) (λ all. IsSomeAnd (lines_left left feed.cutter) (λ more. all ≡ line ∷ more)) (new_lines left before headed.source bytes headed.reads.made headed.left_is) gives.passed.covers) has.all in
      let of_schema : rs ≡ map (row_of_line schema places) has.lines = has.rows_are ∙ ap (λ z. map (row_of_line z places) has.lines) headed.reads.schema_is in
      let within : 0 + length bytes ≤ input_limit = Told-some (input_size left feed.cutter) (0 + length bytes) (λ n. n ≤ input_limit) (size_is bytes feed headed) has.within in
      record {
        rows_are = of_schema ∙ sym (rows_read schema bytes places line has.lines lines_are head);
        taken = not_refused schema bytes places (accepted-lines schema bytes places line has.lines lines_are head).0 (omega (arith, within));
      }

  -- a cutter that says its input is too large says so of the bytes
  is_large : (bytes : List ℕ) (feed : Feed) → IsHeaded left faults schema (Some bytes) feed → IsTooLarge left feed.cutter → input_limit < length bytes
  is_large bytes feed headed large =
      let over : input_limit < 0 + length bytes = Told-some (input_size left feed.cutter) (0 + length bytes) (λ n. input_limit < n) (size_is bytes feed headed) large in
      omega (arith, over)

  -- ---- all feeds

  pub all_unread : (file : List ℕ → Option (List ℕ)) (names : List (List ℕ)) (feeds : List Feed) → AllZip (λ name. IsHeaded left faults schema (file name)) names feeds → All (λ (feed : Feed). faults feed.cutter.source ≡ 0) feeds → All (IsUnread left faults schema) feeds
  all_unread file [] [] headed quiet = All-nil (IsUnread left faults schema)
  all_unread file [] (f ∷ feeds) headed quiet = absurd headed
  all_unread file (n ∷ names) [] headed quiet = absurd headed
  all_unread file (n ∷ names) (f ∷ feeds) headed quiet =
      All-cons (IsUnread left faults schema) f feeds (is_unread (file n) f headed.0 (All-head (λ (feed : Feed). faults feed.cutter.source ≡ 0) f feeds quiet))
      (all_unread file names feeds headed.1 (All-tail (λ (feed : Feed). faults feed.cutter.source ≡ 0) f feeds quiet))

  pub few_feeds : (file : List ℕ → Option (List ℕ)) (names : List (List ℕ)) (feeds : List Feed) → AllZip (λ name. IsHeaded left faults schema (file name)) names feeds → length names ≤ 8 → length feeds ≤ 8
  few_feeds file names feeds headed few = let same = AllZip-length (λ name. IsHeaded left faults schema (file name)) names feeds headed in omega (arith, few, same)

  module _ (bytes : List ℕ → List ℕ) where
    -- the feed of that name is not refused
    abbrev pub IsTaken : List ℕ → Type 0
    IsTaken name = is_feed_refused schema (bytes name) ≡ false

    -- What is known of feeds that all were read to their ends and have these rows
    pub record AreFed (names : List (List ℕ)) (rss : List (List Row)) : Type 0 where
      pub counts : map counts_at_end rss ≡ map (λ name. counts_at_end (rows schema (bytes name))) names
      pub points : flat_map points_in rss ≡ flat_map (λ name. accepted schema (bytes name)) names
      pub taken : All IsTaken names

    abbrev Headed : List ℕ → Feed → Type 0
    Headed name feed = IsHeaded left faults schema (Some (bytes name)) feed

    pub are_fed : (names : List (List ℕ)) (feeds : List Feed) (rss : List (List Row)) → AllZip Headed names feeds → AllZip (HasRows left faults) feeds rss → AreFed names rss
    are_fed [] [] [] headed read = record { counts = refl; points = refl; taken = All-nil IsTaken }
    are_fed [] [] (r ∷ rss) headed read = absurd read
    are_fed [] (f ∷ feeds) rss headed read = absurd headed
    are_fed (n ∷ names) [] rss headed read = absurd headed
    are_fed (n ∷ names) (f ∷ feeds) [] headed read = absurd read
    are_fed (n ∷ names) (f ∷ feeds) (r ∷ rss) headed read =
        let one = is_fed (bytes n) f r headed.0 read.0 in
        let later = are_fed names feeds rss headed.1 read.1 in
        record {
          counts = ap (λ (x : List Row). counts_at_end x ∷ map counts_at_end rss) one.rows_are ∙ ap (λ (xs : List FeedCounts). counts_at_end (rows schema (bytes n)) ∷ xs) later.counts;
          points = ap (λ (x : List Row). points_in x ++ flat_map points_in rss) one.rows_are ∙ ap (λ (ps : List _). ps ++ flat_map points_in rss) (accepted_are schema (bytes n)) ∙ ap (λ (ps : List _). accepted schema (bytes n) ++ ps) later.points;
          taken = All-cons IsTaken n names one.taken later.taken;
        }

    -- one of them that is too large has too many bytes
    abbrev IsLarge : List ℕ → Type 0
    IsLarge name = input_limit < length (bytes name)

    large_at : (names : List (List ℕ)) (feeds : List Feed) (k : ℕ) (feed : Feed) → AllZip Headed names feeds → k < length feeds → get_or feeds k feed ≡ feed → IsTooLarge left feed.cutter → (name : List ℕ) × Contains names name × IsLarge name
    large_at [] [] k feed headed within is large = absurd (omega (arith, within))
    large_at [] (f ∷ feeds) k feed headed within is large = absurd headed
    large_at (n ∷ names) [] k feed headed within is large = absurd headed
    large_at (n ∷ names) (f ∷ feeds) zero feed headed within is large = (n, (0, omega arith, refl), is_large (bytes n) f headed.0 (subst (λ (x : Feed). IsTooLarge left x.cutter) (sym is) large))
    large_at (n ∷ names) (f ∷ feeds) (suc k) feed headed within is large =
        let later = large_at names feeds k feed headed.1 (omega (arith, within)) is large in (later.0, Contains-append_right (n ∷ []) names later.0 later.1, later.2)

    pub any_large : (names : List (List ℕ)) (feeds : List Feed) → AllZip Headed names feeds → Any (λ (feed : Feed). IsTooLarge left feed.cutter) feeds → (name : List ℕ) × Contains names name × IsLarge name
    any_large names feeds headed any = large_at names feeds any.0 any.1 headed any.2 any.3 any.4
