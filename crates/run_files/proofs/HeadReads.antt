-- Feeds that are opened one after another.
use Rattle.std.proofs.Common.{◌≡◌, ◌≢◌, ℕ, ◌+◌, ◌<◌, ◌≤◌, List, [], ◌∷◌, ◌++◌, length, get_or, Option, Some, None, Result, Ok, Err, refl, sym, ◌∙◌, ap, subst, arith, append_assoc, All}
use Rattle.std.proofs.lemmas.List.{append-nil, length-append, get_or_append_left}
use Rattle.std.proofs.lemmas.List.Elements.{All-get_or}
use Rattle.std.specs.List.{AllZip}
use Rattle.std.specs.Prelude.{IsErrAnd, IsOk, IsSomeAnd}
use Rattle.std.specs.Result.{result_err}
use Rattle.cube_schema.specs.declared.plan.Plan.{Plan}
use Rattle.cube_view.specs.declared.schema.Schema.{Schema}
use Rattle.feed_reader.proofs.FeedStart.{new_rest}
use Rattle.feed_reader.specs.Feeds.{feed_head, head_of_lines}
use Rattle.feed_reader.specs.Reading.{AcceptsRows, IsAtStart, IsHeadRefused}
use Rattle.feed_reader.specs.declared.feed.NoHeader.{NoHeader}
use Rattle.feed_reader.specs.declared.feed.NoHeader.TheVariants.{Refused}
use Rattle.feed_reader.specs.declared.header.HeadFault.{HeadFault}
use Rattle.feed_reader.specs.declared.header.HeadFault.TheVariants as head
use Rattle.feed_reader.specs.declared.job.FeedJob.{FeedJob}
use Rattle.outer_io.proofs.ProgressLaws.{of_lines}
use Rattle.outer_io.proofs.ToldLaws.{Told-each, Told-same, Told-some}
use Rattle.outer_io.specs.Cutting.{Cutter, IsNew, lines_left, rest_of}
use Rattle.outer_io.specs.Faults.{Rose}
use Rattle.outer_io.specs.Files.{Files, file_or_empty}
use Rattle.outer_io.specs.Lines.{Line}
use Rattle.outer_io.specs.Told.{Told}
use Rattle.run_files.proofs.Lists.{AllZip-firsts, AllZip-more}
use Rattle.run_files.proofs.SinkPuts.{fails_after, puts_after, refuses_saying, silent_after, silent_itself}
use Rattle.run_files.proofs.SourceReturns.{leaves_given_back}
use Rattle.run_files.proofs.Stages.{fails_at, fails_on, leaves_reading, leaves_then, leaves_more, nothing_made, all_opened}
use Rattle.run_files.specs.GivingBack.{TakesSources}
use Rattle.run_files.specs.Leaving.{FailsAtLast, LeavesPlace}
use Rattle.run_files.specs.Headed.{EndsAtFeeds, HasHeader, IsHeaded, MeetsHeadFault, OpensFeeds, RefusesHead, RefusesLast, SaysHeadFault}
use Rattle.run_files.specs.Outside.{at, FailsToPut, file_of, PlaceSeen, Puts, Silent, SinkSeen}
use Rattle.run_files.specs.declared.stop.Stop.{Stop}
use Rattle.run_files.specs.declared.stop.Stop.TheVariants.{NoMemory, PlanRefused, ReadFault, WriteFault, FeedRefused}

-- a header that is refused by the cutter's next line is that of the source's bytes
pub refused_feed : {S : Type 0} (left : S → Option (List ℕ)) (schema : Schema) (source : S) (c : Cutter S) (fault : HeadFault) → IsNew source c → IsHeadRefused left schema c fault → MeetsHeadFault schema (left source) fault
unfolding feed_head
refused_feed left schema source c fault new refused =
    Told-each (left source) (λ x. left source ≡ Some x) _ (λ bytes is. of_lines left source c bytes (λ all. head_of_lines schema all ≡ Err fault) new is refused) (Told-same (left source))

pub start_new : {S : Type 0} (source : S) (c : Cutter S) → IsNew source c → IsAtStart c
start_new source c new = (ap (λ (k : Cutter _). k.taken) new, ap (λ (k : Cutter _). k.given) new)

in_file : (schema : Schema) (files : Option Files) (told : Option (List ℕ)) (name : List ℕ) (fault : HeadFault) → Told files (λ fs. told ≡ Some (file_or_empty fs name)) → MeetsHeadFault schema told fault → MeetsHeadFault schema (file_of files name) fault
in_file schema None told name fault left refused = tt
in_file schema (Some files) told name fault left refused = Told-some told (file_or_empty files name) (λ feed. feed_head schema feed ≡ Err fault) left refused

-- the last of more names is refused too, where files and what is said of it are the same
refuses_on : (schema : Schema) (before now : Option Files) (first names : List (List ℕ)) (Says Says' : List ℕ → Type 0) → now ≡ before → ((line : List ℕ) → Says line → Says' line) → RefusesLast schema (file_of now) names Says → RefusesLast schema (file_of before) (first ++ names) Says'
refuses_on schema before now first names Says Says' same step last = record {
  earlier = first ++ last.earlier;
  name = last.name;
  names_are = ap (λ n. first ++ n) last.names_are ∙ sym (append_assoc first last.earlier (last.name ∷ []));
  refuses = record {
    fault = last.refuses.fault;
    of_line = last.refuses.of_line;
    refused = subst (λ (files : Option Files). MeetsHeadFault schema (file_of files last.name) last.refuses.fault) same last.refuses.refused;
    says = step _ last.refuses.says;
  };
}

-- a feed whose source was read, and whose first line is no header, is refused
pub refuses_head : {O : Type 0} (s : SinkSeen O) (schema : Schema) (files : Option Files) (told : Option (List ℕ)) (name : List ℕ) (met : NoHeader) (Says : List ℕ → Type 0)
    → Told files (λ fs. told ≡ Some (file_or_empty fs name)) → met ≢ Refused head.NoMemory → ((fault : HeadFault) → met ≡ Refused fault → MeetsHeadFault schema told fault)
    → SaysHeadFault schema name met Says → RefusesHead schema (file_of files name) name Says
refuses_head s schema files told name met Says left of_line refused said = record {
  fault = said.0;
  of_line = λ e. of_line (said.1 ∙ ap (λ f. Refused f) e);
  refused = in_file schema files told name said.0 left (refused said.0 said.1);
  says = said.2;
}

head_in : (schema : Schema) (places bytes : List ℕ) (o : Option (List Line)) → IsSomeAnd o (AcceptsRows schema places bytes) → IsOk (feed_head schema bytes)
head_in schema places bytes None h = absurd h
head_in schema places bytes (Some rest) h = subst (λ r. IsOk r) (sym h.0) refl

-- a feed whose header was read has one
pub has_header : {S : Type 0} (left : S → Option (List ℕ)) (faults : S → ℕ) (schema : Schema) (file : Option (List ℕ)) (feed : FeedJob S) → IsHeaded left faults schema file feed → HasHeader schema file
has_header left faults schema None feed h = tt
has_header left faults schema (Some bytes) feed h =
    head_in schema feed.header.places bytes (lines_left left feed.cutter)
    (Told-some (rest_of left h.reads.before) bytes (λ b. IsSomeAnd (lines_left left feed.cutter) (AcceptsRows schema feed.header.places b)) (new_rest left h.reads.before h.source bytes h.reads.made h.left_is) h.reads.accepted)

module _ {S : Type 0} (left : S → Option (List ℕ)) (faults : S → ℕ) (schema : Schema) (files : Option Files) where
  -- so have all feeds whose headers were read
  pub all_headed : (names : List (List ℕ)) (feeds : List (FeedJob S)) → AllZip (λ n. IsHeaded left faults schema (file_of files n)) names feeds → All (λ n. HasHeader schema (file_of files n)) names
  all_headed = AllZip-firsts (λ n. IsHeaded left faults schema (file_of files n)) (λ n. HasHeader schema (file_of files n)) (λ n feed. has_header left faults schema (file_of files n) feed)

  -- and one feed more is read of the same files
  pub headed_more : (now : Option Files) (names : List (List ℕ)) (feeds : List (FeedJob S)) (name : List ℕ) (feed : FeedJob S) → now ≡ files
      → AllZip (λ n. IsHeaded left faults schema (file_of files n)) names feeds → IsHeaded left faults schema (file_of now name) feed → AllZip (λ n. IsHeaded left faults schema (file_of files n)) (names ++ name ∷ []) (feeds ++ feed ∷ [])
  headed_more now names feeds name feed same all more =
      AllZip-more (λ n. IsHeaded left faults schema (file_of files n)) names feeds name feed all (subst (λ (fs : Option Files). IsHeaded left faults schema (file_of fs name) feed) same more)

one_at_most : (name : List ℕ) (opens unopened : List (List ℕ)) → name ∷ [] ≡ opens ++ unopened → length opens ≤ 1
one_at_most name opens unopened e = omega (arith, simp length-append at (ap length e))

-- what holds of the first names holds of each one that stands before another
HasHeader-first : (schema : Schema) (files : Option Files) (first opens more : List (List ℕ)) (i : ℕ) → All (λ n. HasHeader schema (file_of files n)) first → first ≡ opens → length more ≤ 1 → i + 1 < length (opens ++ more)
    → HasHeader schema (file_of files (get_or (opens ++ more) i []))
HasHeader-first schema files first opens more i all is few lt =
    let within : i < length opens = omega (arith, simp length-append at lt, few) in
    subst (λ n. HasHeader schema (file_of files n)) (sym (get_or_append_left opens more [] i within))
    (All-get_or (λ n. HasHeader schema (file_of files n)) opens i [] within (subst (λ ns. All (λ n. HasHeader schema (file_of files n)) ns) is all))

module _ {P O : Type 0} (p : PlaceSeen P) (s : SinkSeen O) (schema : Schema) where
  -- what holds of the feeds that were opened holds whatever else is left
  opens_leaving : (a b c : P) (o o' : O) (names others : List (List ℕ)) (stop : Option Stop) (one : OpensFeeds p s schema (at a o) (at b o') names stop) (leaves : LeavesPlace p a c others [] stop) → leaves.opens ≡ one.leaves.opens
      → OpensFeeds p s schema (at a o) (at c o') others stop
  opens_leaving a b c o o' names others stop one leaves same = record {
    leaves = leaves;
    first = λ e. subst (FailsAtLast p a) (sym same) (one.first e);
    headed = λ i lt. subst (λ ns. HasHeader schema (file_of (p.files a) (get_or ns i []))) (sym same) (one.headed i (subst (λ ns. i + 1 < length ns) same lt));
    refused = λ e. subst (λ ns. RefusesLast schema (file_of (p.files a)) ns (Puts s o o')) (sym same) (one.refused e);
    unsaid = λ e. subst (λ ns. RefusesLast schema (file_of (p.files a)) ns (FailsToPut s o o')) (sym same) (one.unsaid e);
    silent = one.silent;
    ends = one.ends;
  }

  -- the first trouble leaves the further feeds unopened
  pub opens_more : (a b : P) (o o' : O) (names more : List (List ℕ)) (stop : Stop) → OpensFeeds p s schema (at a o) (at b o') names (Some stop) → OpensFeeds p s schema (at a o) (at b o') (names ++ more) (Some stop)
  unfolding leaves_more
  opens_more a b o o' names more stop one = opens_leaving a b b o o' names (names ++ more) (Some stop) one (leaves_more p a b names more [] stop one.leaves) refl

  -- of no feeds none is opened
  opens_unnamed : (a b : P) (o : O) (stop : Option Stop) → ((k : Stop) → stop ≡ Some k → k ≡ NoMemory) → p.opened b ≡ p.opened a → p.created b ≡ p.created a → p.write_faults b ≡ p.write_faults a → p.files b ≡ p.files a → p.read_faults b ≡ p.read_faults a
      → OpensFeeds p s schema (at a o) (at b o) [] stop
  unfolding leaves_reading
  opens_unnamed a b o stop only opened created write files quiet = record {
    leaves = leaves_reading p a b [] [] [] stop refl (opened ∙ sym (append-nil _)) (λ _. refl) created write files (λ e. let k = only ReadFault e in absurd (cc)) (λ _. quiet);
    headed = λ i lt. absurd (omega (arith, lt));
    first = λ e. let k = only ReadFault e in absurd (cc);
    refused = λ e. let k = only FeedRefused e in absurd (cc);
    unsaid = λ e. let k = only WriteFault e in absurd (cc);
    silent = λ _ _. silent_itself s o;
    ends = λ e. let k = only PlanRefused e in cc;
  }

  -- no feed is opened
  pub opens_none : (a : P) (o : O) → OpensFeeds p s schema (at a o) (at a o) [] None
  opens_none a o = opens_unnamed a a o None (λ k e. absurd (cc)) refl refl refl refl refl

  -- no feed is opened, for want of memory
  pub opens_nothing : (a : P) (o : O) (names : List (List ℕ)) → OpensFeeds p s schema (at a o) (at a o) names (Some NoMemory)
  opens_nothing a o names = opens_more a a o o [] names NoMemory (opens_unnamed a a o (Some NoMemory) (λ k e. cc) refl refl refl refl refl)

  -- one feed is not opened, for want of memory
  pub opens_not : (a b : P) (o : O) (name : List ℕ) → p.opened b ≡ p.opened a → p.created b ≡ p.created a → p.write_faults b ≡ p.write_faults a → p.files b ≡ p.files a → p.read_faults b ≡ p.read_faults a
      → OpensFeeds p s schema (at a o) (at b o) (name ∷ []) (Some NoMemory)
  opens_not a b o name opened created write files quiet = opens_more a b o o [] (name ∷ []) NoMemory (opens_unnamed a b o (Some NoMemory) (λ k e. cc) opened created write files quiet)

  -- one feed is opened
  pub opens_one : (a b : P) (o o' : O) (name : List ℕ) (stop : Option Stop) → p.opened b ≡ p.opened a ++ name ∷ [] → p.created b ≡ p.created a → p.write_faults b ≡ p.write_faults a → p.files b ≡ p.files a
      → (stop ≡ Some ReadFault → Rose (p.read_faults a) (p.read_faults b)) → (stop ≢ Some ReadFault → p.read_faults b ≡ p.read_faults a)
      → (stop ≡ Some FeedRefused → RefusesHead schema (file_of (p.files a) name) name (Puts s o o')) → (stop ≡ Some WriteFault → RefusesHead schema (file_of (p.files a) name) name (FailsToPut s o o'))
      → (stop ≢ Some FeedRefused → stop ≢ Some WriteFault → Silent s o o') → stop ≢ Some PlanRefused → OpensFeeds p s schema (at a o) (at b o') (name ∷ []) stop
  unfolding leaves_reading
  opens_one a b o o' name stop opened created write files read quiet refused unsaid silent ends = record {
    leaves = leaves_reading p a b (name ∷ []) (name ∷ []) [] stop refl opened (λ _. refl) created write files read quiet;
    headed = λ i lt. absurd (omega (arith, lt));
    first = λ _. fails_at p a name;
    refused = λ e. record { earlier = []; name = name; names_are = refl; refuses = refused e };
    unsaid = λ e. record { earlier = []; name = name; names_are = refl; refuses = unsaid e };
    silent = silent;
    ends = ends;
  }

  -- after feeds that all have headers, one more is opened
  pub opens_on : (a b c : P) (o o' o'' : O) (first : List (List ℕ)) (name : List ℕ) (stop : Option Stop) → All (λ n. HasHeader schema (file_of (p.files a) n)) first
      → OpensFeeds p s schema (at a o) (at b o') first None → OpensFeeds p s schema (at b o') (at c o'') (name ∷ []) stop → OpensFeeds p s schema (at a o) (at c o'') (first ++ name ∷ []) stop
  unfolding leaves_then
  opens_on a b c o o' o'' first name stop all one two =
      let same : p.files b ≡ p.files a = one.leaves.untouched (nothing_made p a b first None one.leaves) in
      let quiet = one.silent (λ e. cc) (λ e. cc) in
      record {
        leaves = leaves_then p a b c first (name ∷ []) [] stop one.leaves two.leaves;
        first = λ e. fails_on p a b one.leaves.opens two.leaves.opens one.leaves.opened (one.leaves.read_quiet (λ e. cc)) (two.first e);
        headed = λ i lt. HasHeader-first schema (p.files a) first one.leaves.opens two.leaves.opens i all (all_opened p a b first [] one.leaves) (one_at_most name two.leaves.opens two.leaves.unopened two.leaves.inputs_are) lt;
        refused = λ e. refuses_on schema (p.files a) (p.files b) one.leaves.opens two.leaves.opens _ _ same (puts_after s o o' o'' quiet) (two.refused e);
        unsaid = λ e. refuses_on schema (p.files a) (p.files b) one.leaves.opens two.leaves.opens _ _ same (fails_after s o o' o'' quiet) (two.unsaid e);
        silent = λ e f. silent_after s o o' o'' quiet (two.silent e f);
        ends = two.ends;
      }

  -- feeds that are opened leave the files as they were
  pub same_files : (a b : P) (o o' : O) (names : List (List ℕ)) (stop : Option Stop) → OpensFeeds p s schema (at a o) (at b o') names stop → p.files b ≡ p.files a
  same_files a b o o' names stop one = one.leaves.untouched (nothing_made p a b names stop one.leaves)

  -- so it is where `?` hands the trouble on
  pub opens_residual : (a b : P) (o o' : O) (names first more : List (List ℕ)) (r : Result (Unit {0}) Stop) (stop : Stop) → names ≡ first ++ more → IsErrAnd r (λ e. e ≡ stop) → OpensFeeds p s schema (at a o) (at b o') first (Some stop)
      → OpensFeeds p s schema (at a o) (at b o') names (result_err r)
  opens_residual a b o o' names first more (Ok x) stop are bad one = absurd bad
  opens_residual a b o o' names first more (Err e) stop are is one =
      subst (λ (k : Stop). OpensFeeds p s schema (at a o) (at b o') names (Some k)) (sym is) (subst (λ (ns : List (List ℕ)). OpensFeeds p s schema (at a o) (at b o') ns (Some stop)) (sym are) (opens_more a b o o' first more stop one))

  -- and the ones that were opened are given back
  pub opens_given_back : (a b c : P) (o o' : O) (names : List (List ℕ)) (stop : Option Stop) (counts : List ℕ) → OpensFeeds p s schema (at a o) (at b o') names stop → TakesSources p b c counts → All (λ n. n ≡ 0) counts
      → OpensFeeds p s schema (at a o) (at c o') names stop
  unfolding leaves_given_back
  opens_given_back a b c o o' names stop counts one back none = opens_leaving a b c o o' names names stop one (leaves_given_back p a b c names [] stop counts one.leaves back none) refl

module _ {P O : Type 0} (p : PlaceSeen P) (s : SinkSeen O) (plan : Plan) where
  -- feeds at which the run ends
  pub at_feeds : (a b : P) (o o' : O) (makes : List (List ℕ)) (stop : Stop) → makes ≡ [] → (one : OpensFeeds p s plan.schema (at a o) (at b o') plan.feeds (Some stop)) → EndsAtFeeds p s plan (at a o) (at b o') one.leaves.opens makes (Some stop)
  at_feeds a b o o' makes stop none one = record {
    unopened = one.leaves.unopened;
    feeds_are = one.leaves.inputs_are;
    ends = (λ e. cc, one.ends);
    unmade = none;
    headed = one.headed;
    refused = one.refused;
    unsaid = one.unsaid;
    silent = one.silent;
  }

  -- so it does where nothing was put before them, and whatever is given back after them
  pub at_feeds_on : (a b c d : P) (o o' o'' : O) (opens makes : List (List ℕ)) (stop : Option Stop) → p.files b ≡ p.files a → Silent s o o' → EndsAtFeeds p s plan (at b o') (at c o'') opens makes stop → EndsAtFeeds p s plan (at a o) (at d o'') opens makes stop
  at_feeds_on a b c d o o' o'' opens makes stop same quiet one = record {
    unopened = one.unopened;
    feeds_are = one.feeds_are;
    ends = one.ends;
    unmade = one.unmade;
    headed = λ i lt. subst (λ (files : Option Files). HasHeader plan.schema (file_of files (get_or opens i []))) same (one.headed i lt);
    refused = λ e. subst (λ (files : Option Files). RefusesLast plan.schema (file_of files) opens (Puts s o o'')) same (refuses_saying plan.schema _ opens _ _ (puts_after s o o' o'' quiet) (one.refused e));
    unsaid = λ e. subst (λ (files : Option Files). RefusesLast plan.schema (file_of files) opens (FailsToPut s o o'')) same (refuses_saying plan.schema _ opens _ _ (fails_after s o o' o'' quiet) (one.unsaid e));
    silent = λ e f. silent_after s o o' o'' quiet (one.silent e f);
  }
