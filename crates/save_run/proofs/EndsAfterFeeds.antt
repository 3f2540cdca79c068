-- What stands once the feeds of a plan were read, and how a save ends from there.
use Rattle.std.proofs.Common.{◌≡◌, ◌≢◌, ◌⊎◌, ◌<◌, ℕ, List, [], ◌∷◌, ◌++◌, length, All, Option, Some, None, IsSomeAnd, Result, Ok, Err, inl, inr, refl, sym, ◌∙◌, ap, subst}
use Rattle.std.specs.FinMap.{get}
use Rattle.cube_schema.specs.declared.plan.Plan.{Plan}
use Rattle.cube_store.specs.Holding.{CubeCounts, IsLeastCubeOf}
use Rattle.cube_store.specs.declared.cube.Cube.{Cube}
use Rattle.cube_view.specs.declared.schema.Schema.{Schema}
use Rattle.feed_reader.proofs.FeedStart.{some_each}
use Rattle.feed_reader.specs.declared.counts.FeedCounts.{FeedCounts}
use Rattle.image_cube.specs.CubeImages.{AreRecords, HasLongCubeImage, IsCubeImage}
use Rattle.image_cube.specs.LeastImages.{IsLeastImage}
use Rattle.image_cube.specs.declared.fault.ImageFault.TheVariants as image_fault
use Rattle.image_run.specs.Lines.{image_line}
use Rattle.image_run.specs.declared.end.ImageEnd.{ImageEnd}
use Rattle.image_run.specs.declared.end.ImageEnd.TheVariants.{Done, Refused}
use Rattle.outer_io.proofs.ToldLaws.{Told-both, Told-each}
use Rattle.outer_io.specs.Faults.{Rose}
use Rattle.outer_io.specs.Files.{Files}
use Rattle.outer_io.specs.Told.{Told}
use Rattle.run_files.proofs.SinkPuts.{fails_after, puts_after, silent_after}
use Rattle.run_files.proofs.Stages.{KeepsOthers-after}
use Rattle.run_files.specs.Headed.{HasHeader}
use Rattle.run_files.specs.Leaving.{KeepsOthers}
use Rattle.run_files.specs.Outside.{at, FailsToPut, file_of, PlaceSeen, Puts, Silent, SinkSeen}
use Rattle.run_files.specs.Planned.{IsPlanOf}
use Rattle.run_files.specs.Stops.{IsOrLacks}
use Rattle.run_files.specs.declared.stop.Stop.{Stop}
use Rattle.run_files.specs.declared.stop.Stop.TheVariants as stop
use Rattle.save_run.specs.Ends.{BeginsImage, EndsPastHeaders, LosesImage, MayBeginImage, SaveEnds, SaysImage, SaysTooLong}
use Rattle.save_run.specs.Names.{saving}
use Rattle.save_run.specs.Saved.{accepted_records, AreTaken, HoldsImage, HasLongRecords, whole_counts}
use Rattle.save_run.specs.Writing.{FailsToWrite, IsTooLong, MayWrite, SavesCube, SavesImage}

abbrev pub End : Type 0
End = Result ImageEnd Stop

-- The cube counts the records of the plan's feeds, none of which is refused, and this is counted of them
pub record IsCubeOf (plan : Plan) (files : Files) (cube : Cube) (counts : List FeedCounts) : Type 0 where
  pub taken : AreTaken plan files
  pub counts_are : counts ≡ whole_counts plan files
  pub counted : CubeCounts cube (accepted_records plan files)
  pub least : 1 < plan.schema.batch → IsLeastCubeOf cube (accepted_records plan files)
  pub records : AreRecords plan.schema (accepted_records plan files)

module _ {P O : Type 0} (p : PlaceSeen P) (s : SinkSeen O) (a d : P) (out mid : O) (name : List ℕ) (pl : Plan) (cube : Cube) (counts : List FeedCounts) where
  -- The feeds were read, and this is left
  pub record Stood : Type 0 where
    pub plan_is : IsPlanOf (file_of (p.files a) name) pl
    pub opened : p.opened d ≡ p.opened a ++ name ∷ pl.feeds
    pub headed : All (λ n. HasHeader pl.schema (file_of (p.files a) n)) pl.feeds
    pub created : p.created d ≡ p.created a
    pub files : p.files d ≡ p.files a
    pub read_faults : p.read_faults d ≡ p.read_faults a
    pub write_faults : p.write_faults d ≡ p.write_faults a
    pub silent : Silent s out mid
    pub schema_is : cube.schema ≡ pl.schema
    pub told : Told (p.files a) (λ files. IsCubeOf pl files cube counts)

  module _ (S : Stood) (f : P) (out' : O) (image : List ℕ) where
    -- the image was begun where it was created
    begun : MayWrite p d f image → p.created f ≡ p.created d ++ image ∷ [] → BeginsImage p s (at a out) (at f out') (saving name image) pl
    begun keeps created = record {
      created = created ∙ ap (λ c. c ++ image ∷ []) S.created;
      taken = Told-each (p.files a) _ (AreTaken pl) (λ files it. it.taken) S.told;
      read_faults = keeps.read_faults ∙ S.read_faults;
    }

    none_or_begun : MayWrite p d f image → MayBeginImage p s (at a out) (at f out') (saving name image) pl
    none_or_begun keeps = elim keeps.created [
      | inl none ↦ inl (none ∙ S.created)
      | inr one ↦ inr (begun keeps one)
    ]

    completed : (r : End) → (r ≡ Err stop.WriteFault → ⊥) → (r ≢ Err stop.PlanRefused) × (r ≢ Err stop.ReadFault) × (r ≢ Err stop.FeedRefused) → IsOrLacks Done r ⊎ IsOrLacks Refused r
    completed (Ok Done) w ends = inl (inl refl)
    completed (Ok Refused) w ends = inr (inl refl)
    completed (Err stop.NoMemory) w ends = inl (inr refl)
    completed (Err stop.PlanRefused) w ends = absurd (ends.0 refl)
    completed (Err stop.ReadFault) w ends = absurd (ends.1 refl)
    completed (Err stop.WriteFault) w ends = absurd (w refl)
    completed (Err stop.FeedRefused) w ends = absurd (ends.2 refl)

    no_write : Rose (p.write_faults a) (p.write_faults f) ⊎ Rose (s.faults out) (s.faults out') → ¬ Rose (p.write_faults a) (p.write_faults f) → ¬ Rose (s.faults out) (s.faults out') → ⊥
    no_write (inl x) w u = w x
    no_write (inr x) w u = u x

    -- with any end from here on
    ends_with : (r : End) → MayWrite p d f image → (r ≢ Err stop.PlanRefused) × (r ≢ Err stop.ReadFault) × (r ≢ Err stop.FeedRefused)
        → EndsPastHeaders p s (at a out) (at f out') (saving name image) pl r
        → ((x : ImageEnd) → r ≡ Ok x → (p.write_faults f ≡ p.write_faults a) × (s.faults out' ≡ s.faults out))
        → (r ≡ Err stop.WriteFault → Rose (p.write_faults a) (p.write_faults f) ⊎ Rose (s.faults out) (s.faults out'))
        → SaveEnds p s (at a out) (at f out') (saving name image) r
    ends_with r keeps ends past still write = record {
      stage = inr (record {
        plan = pl;
        plan_is = S.plan_is;
        stage = inr (record { opened = keeps.opened ∙ S.opened; headed = S.headed; ends = past });
        complete = λ none. Told-each (p.files a) _ _ (λ files it taken. completed r (λ e. no_write (write e) none.1 none.2) ends) S.told;
      });
      others = KeepsOthers-after (p.files a) (p.files d) (p.files f) (image ∷ []) S.files keeps.others;
      untouched = λ e. keeps.untouched (e ∙ sym S.created) ∙ S.files;
      counts = record {
        done = λ x e. (keeps.read_faults ∙ S.read_faults, (still x e).0, (still x e).1);
        refused = λ e. absurd (ends.2 e);
        unread = λ e. keeps.read_faults ∙ S.read_faults;
        write = write;
        read = λ e. absurd (ends.1 e);
        refused_plan = λ e. absurd (ends.0 e);
      };
    }

    -- ---- what is said of the image

    image_said : (Says More : List ℕ → Type 0) → ((line : List ℕ) → Says line → More line) → SavesImage p s (at d mid) (at f out') pl (cube, counts) image Says → SaysImage p s (at a out) (at f out') (saving name image) pl More
    image_said Says More step I = record {
      begins = begun I.writes.keeps I.writes.created;
      counts = counts;
      size = length I.bytes;
      holds = Told-each (p.files a) _ _
          (λ files both.
          some_each (p.files f) (λ now. get now image ≡ Some I.bytes) (λ now. HoldsImage pl files now image counts (length I.bytes))
          (λ now is. record {
            taken = both.0.taken;
            counts_are = both.0.counts_are;
            bytes = I.bytes;
            size_is = refl;
            written = is;
            of_records = subst (λ (z : Schema). IsCubeImage z I.bytes (accepted_records pl files)) S.schema_is (I.of_cube (accepted_records pl files) both.0.counted (subst (λ (z : Schema). AreRecords z (accepted_records pl files)) (sym S.schema_is) both.0.records));
            least = λ many. subst (λ (z : Schema). IsLeastImage z I.bytes (accepted_records pl files)) S.schema_is (I.of_least (accepted_records pl files) (both.0.least many));
          })
          both.1)
          (Told-both (p.files a) (λ files. IsCubeOf pl files cube counts) _ S.told (subst (λ (o : Option Files). Told o (λ files. IsSomeAnd (p.files f) (λ now. get now image ≡ Some I.bytes))) S.files I.writes.holds));
      says = step _ I.says;
    }

    too_long_said : (Says More : List ℕ → Type 0) → ((line : List ℕ) → Says line → More line) → IsTooLong p s (at d mid) (at f out') pl (cube, counts) image Says → SaysTooLong p s (at a out) (at f out') (saving name image) pl More
    too_long_said Says More step T = record {
      created = ap p.created T.same ∙ S.created;
      long = Told-each (p.files a) _ (HasLongRecords pl) (λ files it. record { taken = it.taken; long = subst (λ (z : Schema). HasLongCubeImage z (accepted_records pl files)) S.schema_is (T.long (accepted_records pl files) it.counted) }) S.told;
      says = step (image_line image_fault.TooLong) T.says;
    }

    unwritten : f ≡ d → MayWrite p d f image
    unwritten same = record {
      created = inl (ap p.created same);
      untouched = λ e. ap p.files same;
      others = subst (λ (x : Option Files). KeepsOthers (p.files d) x (image ∷ [])) (sym (ap p.files same)) (itself (p.files d));
      opened = ap p.opened same;
      read_faults = ap p.read_faults same;
    }
      where
        itself : (files : Option Files) → KeepsOthers files files (image ∷ [])
        itself None = tt
        itself (Some files) = λ other apart. refl

    saved : SavesImage p s (at d mid) (at f out') pl (cube, counts) image (Puts s mid out') → SaveEnds p s (at a out) (at f out') (saving name image) (Ok Done)
    saved I =
        let said = image_said (Puts s mid out') (Puts s out out') (puts_after s out mid out' S.silent) I in
        ends_with (Ok Done) I.writes.keeps (λ e. cc, λ e. cc, λ e. cc) said (λ x e. (I.writes.write_faults ∙ S.write_faults, said.says.faults)) (λ e. cc)

    ended_too_long : IsTooLong p s (at d mid) (at f out') pl (cube, counts) image (Puts s mid out') → SaveEnds p s (at a out) (at f out') (saving name image) (Ok Refused)
    ended_too_long T =
        let said = too_long_said (Puts s mid out') (Puts s out out') (puts_after s out mid out' S.silent) T in
        ends_with (Ok Refused) (unwritten T.same) (λ e. cc, λ e. cc, λ e. cc) said (λ x e. (ap p.write_faults T.same ∙ S.write_faults, said.says.faults)) (λ e. cc)

    ended_lacking : MayWrite p d f image → Silent s mid out' → SaveEnds p s (at a out) (at f out') (saving name image) (Err stop.NoMemory)
    ended_lacking keeps silent =
        ends_with (Err stop.NoMemory) keeps (λ e. cc, λ e. cc, λ e. cc) (none_or_begun keeps, silent_after s out mid out' S.silent silent) (λ x e. cc) (λ e. cc)

    -- a count of writing that rose since the feeds were read rose since the start
    rose_since : Rose (p.write_faults d) (p.write_faults f) → Rose (p.write_faults a) (p.write_faults f)
    rose_since r = subst (λ (n : ℕ). Rose n (p.write_faults f)) S.write_faults r

    ended_writing : FailsToWrite p s (at d mid) (at f out') pl (cube, counts) image → SaveEnds p s (at a out) (at f out') (saving name image) (Err stop.WriteFault)
    ended_writing F =
        let lost : LosesImage p s (at a out) (at f out') (saving name image) pl = record { begins = none_or_begun F.keeps; rose = rose_since F.rose; silent = silent_after s out mid out' S.silent F.silent } in
        ends_with (Err stop.WriteFault) F.keeps (λ e. cc, λ e. cc, λ e. cc) (inl lost) (λ x e. cc) (λ e. inl (rose_since F.rose))

    ended_unsaid : IsTooLong p s (at d mid) (at f out') pl (cube, counts) image (FailsToPut s mid out') → SaveEnds p s (at a out) (at f out') (saving name image) (Err stop.WriteFault)
    ended_unsaid T =
        let said = too_long_said (FailsToPut s mid out') (FailsToPut s out out') (fails_after s out mid out' S.silent) T in
        ends_with (Err stop.WriteFault) (unwritten T.same) (λ e. cc, λ e. cc, λ e. cc) (inr (inl said)) (λ x e. cc) (λ e. inr said.says.faults)

    ended_saying : SavesImage p s (at d mid) (at f out') pl (cube, counts) image (FailsToPut s mid out') → SaveEnds p s (at a out) (at f out') (saving name image) (Err stop.WriteFault)
    ended_saying I =
        let said = image_said (FailsToPut s mid out') (FailsToPut s out out') (fails_after s out mid out' S.silent) I in
        ends_with (Err stop.WriteFault) I.writes.keeps (λ e. cc, λ e. cc, λ e. cc) (inr (inr said)) (λ x e. cc) (λ e. inr said.says.faults)

    -- by how saving the cube ended
    pub ended_by_cube : (r : End) → SavesCube p s (at d mid) (at f out') pl (cube, counts) image r → SaveEnds p s (at a out) (at f out') (saving name image) r
    ended_by_cube (Ok Done) it = saved it
    ended_by_cube (Ok Refused) it = ended_too_long it
    ended_by_cube (Err stop.NoMemory) it = ended_lacking it.0 it.1
    ended_by_cube (Err stop.PlanRefused) it = absurd it
    ended_by_cube (Err stop.ReadFault) it = absurd it
    ended_by_cube (Err stop.WriteFault) it = elim it [
      | inl failed ↦ ended_writing failed
      | inr (inl long) ↦ ended_unsaid long
      | inr (inr saved) ↦ ended_saying saved
    ]
    ended_by_cube (Err stop.FeedRefused) it = absurd it
