-- What opening a run leaves, by the end that it comes to.
use Rattle.std.proofs.Common.{◌≡◌, ◌≢◌, ◌⊎◌, inl, inr, ℕ, List, [], ◌∷◌, ◌++◌, All, Option, Some, None, Err, refl, sym, ap, subst}
use Rattle.std.specs.Prelude.{Contains, IfSome}
use Rattle.std.proofs.lemmas.List.Elements.{Contains-append_left, Contains-push}
use Rattle.cube_schema.specs.declared.plan.Plan.{Plan}
use Rattle.feed_reader.proofs.FeedLaws.{headless_refused}
use Rattle.feed_reader.specs.Feeds.{feed_head}
use Rattle.feed_reader.specs.declared.header.HeadFault.{HeadFault}
use Rattle.outer_io.specs.Faults.{Rose}
use Rattle.outer_io.specs.Files.{Files, file_or_empty}
use Rattle.outer_io.specs.Told.{Told}
use Rattle.run_files.specs.Headed.{HasHeader}
use Rattle.run_files.specs.Outside.{at, file_of, PlaceSeen, SinkSeen}
use Rattle.run_files.specs.declared.stop.Stop.{Stop}
use Rattle.run_files.specs.declared.stop.Stop.TheVariants.{NoMemory, PlanRefused, ReadFault, WriteFault, FeedRefused}
use Rattle.plan_run.specs.Ends.{HasRefusedInput}
use Rattle.plan_run.specs.Opening.{OpensInOrder, outputs_of}

-- the last of the names at the front of others is among these
pub last_among : (all opens later earlier : List (List ℕ)) (last : List ℕ) → all ≡ opens ++ later → opens ≡ earlier ++ last ∷ [] → Contains all last
last_among all opens later earlier last all_are opens_are =
    subst (λ names. Contains names last) (sym all_are) (Contains-append_left opens later last (subst (λ names. Contains names last) (sym opens_are) (Contains-push earlier last)))

module _ {P T : Type 0} (p : PlaceSeen P) (t : SinkSeen T) (place mid : P) (out out1 : T) (name : List ℕ) where
  abbrev pub Unplanned : Stop → Type 0
  Unplanned stop = (Some stop ≡ Some NoMemory) ⊎ (Some stop ≡ Some ReadFault) ⊎ (Some stop ≡ Some PlanRefused)

  -- no other stop is unplanned
  unplanned_is : (stop : Stop) → stop ≢ NoMemory → stop ≢ ReadFault → stop ≢ PlanRefused → ¬ Unplanned stop
  unplanned_is stop memory read plan (inl e) = memory (cc e)
  unplanned_is stop memory read plan (inr (inl e)) = read (cc e)
  unplanned_is stop memory read plan (inr (inr e)) = plan (cc e)

  abbrev pub InOrder : Stop → List (List ℕ) → List (List ℕ) → Plan → Type 0
  InOrder stop opens makes plan = (later : List (List ℕ)) × (opens ≡ name ∷ later) × OpensInOrder p t plan (at place out) (at mid out1) later makes (Some stop)

  -- which feed is refused where opening says so
  pub opening_refused : (stop : Stop) (plan : Plan) (opens makes : List (List ℕ)) → stop ≡ FeedRefused → InOrder stop opens makes plan → Told (p.files place) (λ files. HasRefusedInput files plan)
  opening_refused stop plan opens makes is (later, e, inr scripts) = absurd (scripts.ends.1 (ap (λ s. Some s) is))
  opening_refused stop plan opens makes is (later, e, inl feeds) =
      let last = feeds.refused (ap (λ s. Some s) is) in
      of_files (p.files place) last.name (last_among plan.feeds later feeds.unopened last.earlier last.name feeds.feeds_are last.names_are) last.refuses.fault last.refuses.refused
    where
      of_files : (files : Option Files) (feed : List ℕ) → Contains plan.feeds feed → (fault : HeadFault) → Told (file_of files feed) (λ bytes. feed_head plan.schema bytes ≡ Err fault) → Told files (λ files. HasRefusedInput files plan)
      of_files None feed among fault refused = tt
      of_files (Some files) feed among fault refused = inl (feed, among, headless_refused plan.schema (file_or_empty files feed) fault refused)

  -- opening puts no more than the line of that feed, so it leaves the count of the sink
  pub opening_put : (stop : Stop) (plan : Option Plan) (opens makes : List (List ℕ)) → stop ≡ FeedRefused → (plan ≡ None → Unplanned stop) → IfSome plan (InOrder stop opens makes) → t.faults out1 ≡ t.faults out
  opening_put stop None opens makes is unplanned order = absurd (unplanned_is stop (λ e. cc (e, is)) (λ e. cc (e, is)) (λ e. cc (e, is)) (unplanned refl))
  opening_put stop (Some plan) opens makes is unplanned (later, e, inr scripts) = absurd (scripts.ends.1 (ap (λ s. Some s) is))
  opening_put stop (Some plan) opens makes is unplanned (later, e, inl feeds) = (feeds.refused (ap (λ s. Some s) is)).refuses.says.faults

  -- which count rose where it ends by a write fault
  pub opening_write : (stop : Stop) (plan : Option Plan) (opens makes : List (List ℕ)) → stop ≡ WriteFault → (plan ≡ None → Unplanned stop) → IfSome plan (InOrder stop opens makes)
      → Rose (p.write_faults place) (p.write_faults mid) ⊎ Rose (t.faults out) (t.faults out1)
  opening_write stop None opens makes is unplanned order = absurd (unplanned_is stop (λ e. cc (e, is)) (λ e. cc (e, is)) (λ e. cc (e, is)) (unplanned refl))
  opening_write stop (Some plan) opens makes is unplanned (later, e, inl feeds) = inr (feeds.unsaid (ap (λ s. Some s) is)).refuses.says.faults
  opening_write stop (Some plan) opens makes is unplanned (later, e, inr scripts) = inl (scripts.write (ap (λ s. Some s) is))

  -- opening that ends a run neither by want of memory nor by a write fault has created nothing
  pub opening_unmade : (stop : Stop) (plan : Option Plan) (opens makes unmade : List (List ℕ)) → stop ≢ NoMemory → stop ≢ WriteFault → (stop ≡ ReadFault → makes ≡ []) → outputs_of plan ≡ makes ++ unmade → IfSome plan (InOrder stop opens makes) → makes ≡ []
  opening_unmade stop None opens [] unmade found written unread are order = refl
  opening_unmade stop None opens (m ∷ makes) unmade found written unread are order = absurd (cc are)
  opening_unmade stop (Some plan) opens makes unmade found written unread are (later, e, inl feeds) = feeds.unmade
  opening_unmade NoMemory (Some plan) opens makes unmade found written unread are (later, e, inr scripts) = absurd (found refl)
  opening_unmade PlanRefused (Some plan) opens makes unmade found written unread are (later, e, inr scripts) = absurd (scripts.ends.0 refl)
  opening_unmade ReadFault (Some plan) opens makes unmade found written unread are (later, e, inr scripts) = unread refl
  opening_unmade WriteFault (Some plan) opens makes unmade found written unread are (later, e, inr scripts) = absurd (written refl)
  opening_unmade FeedRefused (Some plan) opens makes unmade found written unread are (later, e, inr scripts) = absurd (scripts.ends.1 refl)

  -- opening that goes on has read the header of each feed
  pub opening_headed : (plan : Option Plan) (which : Plan) (opens makes : List (List ℕ)) → plan ≡ Some which → IfSome plan (λ plan. (later : List (List ℕ)) × (opens ≡ name ∷ later) × OpensInOrder p t plan (at place out) (at mid out1) later makes None)
      → All (λ feed. HasHeader which.schema (file_of (p.files place) feed)) which.feeds
  opening_headed None which opens makes is order = absurd (cc is)
  opening_headed (Some plan) which opens makes is (later, e, inl feeds) = absurd (feeds.ends.0 refl)
  opening_headed (Some plan) which opens makes is (later, e, inr scripts) =
      let same : plan ≡ which = cc is in
      subst (λ (k : Plan). All (λ feed. HasHeader k.schema (file_of (p.files place) feed)) k.feeds) same scripts.headed
