-- What the sessions of a run leave.
use Rattle.std.proofs.Common.{◌≡◌, ◌≢◌, ℕ, ◌≤◌, Bool, true, false, ◌||◌, List, [], ◌∷◌, ◌++◌, All, length, append-nil, map, Option, Some, None, Result, Ok, Err, IsErrOf, refl, sym, ap, ◌∙◌, subst, arith}
use Rattle.std.specs.List.{AllZip}
use Rattle.std.proofs.lemmas.Bool.{false≢true}
use Rattle.std.proofs.lemmas.List.Elements.{All-cons, All-head, All-nil, All-tail}
use Rattle.live_session.specs.Leaves.{LeavesSession}
use Rattle.live_session.specs.Work.{HadNoTurn, WorkState, done_of, has_starved, is_starved_end}
use Rattle.live_session.specs.declared.done.SessionDone.{SessionDone}
use Rattle.cube_crew.specs.Crewed.{LeavesTranscript, closing}
use Rattle.cube_crew.specs.Ending.{EndsAsk, EndsFinal, IsWithin}
use Rattle.cube_crew.specs.Starving.{FoundMemory}
use Rattle.cube_crew.specs.Works.{new_session_work, session_works_of}
use Rattle.cube_view.specs.Points.{Point}
use Rattle.cube_view.specs.declared.schema.Schema.{Schema}
use Rattle.cube_view.specs.declared.stat.Stat.{Stat}
use Rattle.live_session.specs.News.{News, news_of}
use Rattle.live_session.specs.SoFar.{AsksFirst, HasAnswered, HasBroken, HasDone, moment}
use Rattle.live_session.specs.State.{SessionEnds, SessionState}
use Rattle.live_session.specs.TranscriptLaws.{StaysTranscript}
use Rattle.mailbox.specs.Ends.{OutEnd}
use Rattle.outer_io.specs.Cutting.{lines_left}
use Rattle.outer_io.proofs.GainedLaws.{gains_none}
use Rattle.outer_io.proofs.ProgressLaws.{passes_none}
use Rattle.outer_io.proofs.ToldLaws.{Told-each, Told-same}
use Rattle.published_pair.specs.Rules.{Known}
use Rattle.session_core.specs.Asked.{asked}
use Rattle.session_core.specs.declared.fault.SessionFault.{SessionFault}
use Rattle.session_core.specs.declared.fault.SessionFault.TheVariants as fault
use Rattle.world_core.specs.PairFact.{IsPrefix}
use Rattle.world_core.proofs.Prefixes.{IsPrefix-length}
use Rattle.cube_crew.proofs.Zips.{AllZip-carried, AllZip-knowing, AllZip-map, AllZip-mapped}

pub or_false : (a b : Bool) → a || b ≡ false → (a ≡ false) × (b ≡ false)
or_false false b e = (refl, e)
or_false true b e = absurd (false≢true (sym e))

-- an end that did not find no memory
found_end : (end : Result (Unit {0}) SessionFault) → is_starved_end end ≡ false → end ≢ Err fault.NoMemory
found_end end none is = false≢true (sym none ∙ ap is_starved_end is)

-- a run that ended well ended by no fault
no_fault : (f : SessionFault) → IsErrOf {T = Unit {0}} {E = SessionFault} (Ok tt) f → ⊥
no_fault f e = cc

all_of : {A : Type 0} {xs ys : List A} → xs ≡ ys → ys ≡ xs ++ []
all_of {xs = xs} is = sym is ∙ sym (append-nil xs)

module _ {I O : Type 0} (these : SessionEnds I O) (is_stat : Stat → Type 0) (schema : Schema) where
  module _ (stays : StaysTranscript is_stat) (taken : ℕ) (a b : News) (shown : IsPrefix a.shown b.shown) (told : length a.told ≤ length b.told) (takes : a.takes ≤ b.takes) (start now : SessionState I O) where
    -- what was answered within shorter lists was answered within longer ones
    answered_within : HasAnswered these schema is_stat false taken start (moment a now) → HasAnswered these schema is_stat false taken start (moment b now)
    answered_within s =
        record {
          lines = s.lines;
          replies = s.replies;
          first = s.first;
          transcript = stays schema false now.lacked a.shown b.shown (length a.told) (length b.told) (asked schema s.lines) s.replies shown told s.transcript;
          gained = s.gained;
          counted = s.counted;
          noted = s.noted;
          takes = omega (arith, s.takes, takes);
          goes_on = s.goes_on;
        }

    broken_within : HasBroken these schema is_stat false taken start (moment a now) → HasBroken these schema is_stat false taken start (moment b now)
    broken_within s =
        record {
          lines = s.lines;
          replies = s.replies;
          reply = s.reply;
          first = s.first;
          transcript = stays schema false now.lacked a.shown b.shown (length a.told) (length b.told) (asked schema s.lines) (s.replies ++ s.reply ∷ []) shown told s.transcript;
          gained = s.gained;
          counted = s.counted;
          noted = s.noted;
          takes = omega (arith, s.takes, takes);
        }

    pub done_within : (end : Result (Unit {0}) SessionFault) → HasDone these schema is_stat false taken start (moment a now) end → HasDone these schema is_stat false taken start (moment b now) end
    done_within (Ok answer) s = answered_within s
    done_within (Err fault.NoMemory) s = answered_within s
    done_within (Err fault.Read) s = answered_within s
    done_within (Err fault.TooMuch) s = answered_within s
    done_within (Err fault.Write) s = broken_within s

  -- the news of points of which all were shown and told
  abbrev news_over : List Point → OutEnd → News
  news_over points mail = record { shown = points; told = points; takes = mail.takes }

  -- What an ask's work has become, whose viewer was shown and told no more than these points, which are all of the list
  -- where it was closed
  pub record GivesAsk (closed starved : Bool) (list : List Point) (work : WorkState I O) (done : SessionDone I O) : Type 0 where
    pub gives : done ≡ done_of work
    pub points : List Point
    pub whole : closed ≡ true → points ≡ list
    pub within : IsPrefix points list
    pub shown : IsPrefix work.shown.points points
    pub told : length work.learned.points ≤ length points
    pub found : starved ≡ false → has_starved work ≡ false

  -- what a session that ran leaves, where it answered over the points
  ran_leaves : (final closed starved : Bool) (list points : List Point) (session : SessionState I O) (shown learned : Known) (last : Option Known) (mail : OutEnd) (after : WorkState I O)
      → LeavesSession these is_stat (record { session = session; schema = schema; shown = shown; learned = learned; last = last; mail = mail; end = Ok tt }) after
      → (closed ≡ true → points ≡ list) → IsPrefix points list → (closed ≡ false → final ≡ true → after.session ≡ session) → HasDone these schema is_stat final 0 session (moment (news_over points after.mail) after.session) after.end → (starved ≡ false → has_starved after ≡ false)
      → LeavesTranscript these is_stat schema final (closing closed starved list) session (done_of after)
  ran_leaves final closed starved list points session shown learned last mail after ran whole within unrun replied found =
      record {
        after = after.session;
        end = after.end;
        parts = (refl, refl);
        numbers = (refl, refl, refl);
        points = points;
        whole = whole;
        within = within;
        unrun = unrun;
        replied = replied;
        all = λ is_closed. ran.all;
        too_much = ran.too_much;
        taken = λ is_closed. ran.refused.0;
        refused = ran.refused.1;
        read = ran.read;
        write = ran.write;
        named = ran.ended.1;
        found = λ enough.
            let both = or_false after.session.lacked (is_starved_end after.end) (found enough) in
            (both.0, found_end after.end both.1);
      }

  pub ask_leaves : StaysTranscript is_stat → (closed starved : Bool) (list : List Point) (front : Known) (session : SessionState I O) (mail : OutEnd) (work : WorkState I O) (done : SessionDone I O) → mail.takes ≡ 0
      → LeavesSession these is_stat (new_session_work schema front session mail) work → GivesAsk closed starved list work done
      → LeavesTranscript these is_stat schema false (closing closed starved list) session done
  ask_leaves stays closed starved list front session mail work done none ran gives =
      subst (LeavesTranscript these is_stat schema false (closing closed starved list) session) (sym gives.gives)
      (ran_leaves false closed starved list gives.points session front front None mail work ran gives.whole gives.within (λ is last. absurd (false≢true last))
      (done_within stays 0 (news_of work.shown work.learned work.mail) (news_over gives.points work.mail) gives.shown gives.told (omega arith) session work.session work.end
      (subst (λ (n : ℕ). HasDone these schema is_stat false n session (moment (news_of work.shown work.learned work.mail) work.session) work.end) none ran.replied))
      gives.found)

  pub asks_leave : StaysTranscript is_stat → (closed starved : Bool) (list : List Point) (front : Known) (sessions : List (SessionState I O)) (mails : List OutEnd) (works : List (WorkState I O)) (dones : List (SessionDone I O))
      → length mails ≡ length sessions → All (λ (mail : OutEnd). mail.takes ≡ 0) mails
      → AllZip (LeavesSession these is_stat) (session_works_of schema front sessions mails) works → AllZip (GivesAsk closed starved list) works dones
      → AllZip (LeavesTranscript these is_stat schema false (closing closed starved list)) sessions dones
  asks_leave stays closed starved list front [] [] [] [] n none ran gives = tt
  asks_leave stays closed starved list front [] [] [] (done ∷ dones) n none ran gives = absurd gives
  asks_leave stays closed starved list front [] [] (work ∷ works) dones n none ran gives = absurd ran
  asks_leave stays closed starved list front [] (mail ∷ mails) works dones n none ran gives = absurd (omega (arith, n))
  asks_leave stays closed starved list front (session ∷ sessions) [] works dones n none ran gives = absurd (omega (arith, n))
  asks_leave stays closed starved list front (session ∷ sessions) (mail ∷ mails) [] dones n none ran gives = absurd ran
  asks_leave stays closed starved list front (session ∷ sessions) (mail ∷ mails) (work ∷ works) [] n none ran gives = absurd gives
  asks_leave stays closed starved list front (session ∷ sessions) (mail ∷ mails) (work ∷ works) (done ∷ dones) n none ran gives = (
    ask_leaves stays closed starved list front session mail work done (All-head (λ (mail : OutEnd). mail.takes ≡ 0) mail mails none) ran.0 gives.0,
    asks_leave stays closed starved list front sessions mails works dones (omega (arith, n)) (All-tail (λ (mail : OutEnd). mail.takes ≡ 0) mail mails none) ran.1 gives.1,
  )

  -- what the asks' works become, by how the run ended
  pub asks_give : (closed starved : Bool) (list : List Point) (works : List (WorkState I O)) (dones : List (SessionDone I O))
      → (closed ≡ true → (whole : Known) × (whole.points ≡ list) × AllZip (EndsAsk whole) works dones) → (closed ≡ false → (dones ≡ map done_of works) × All (IsWithin list) works) → (starved ≡ false → All FoundMemory works)
      → AllZip (GivesAsk closed starved list) works dones
  asks_give true starved list works dones ends left found =
      let all = ends refl in
      let whole : Known = all.0 in
      AllZip-knowing (EndsAsk whole) (λ (work : WorkState I O). starved ≡ false → FoundMemory work) (GivesAsk true starved list) works dones
      (λ work done enough ask. record {
        gives = ask.gives;
        points = whole.points;
        whole = λ is. all.1;
        within = ([], all_of all.1);
        shown = ask.shown;
        told = IsPrefix-length work.learned.points whole.points ask.told;
        found = enough;
      })
      (λ k d below. λ enough. found enough k d below) all.2
  asks_give false starved list works dones ends left found =
      subst (AllZip (GivesAsk false starved list) works) (sym (left refl).0)
      (AllZip-knowing (λ (work : WorkState I O) (done : SessionDone I O). done ≡ done_of work) (λ (work : WorkState I O). (starved ≡ false → FoundMemory work) × IsWithin list work) (GivesAsk false starved list) works (map done_of works)
      (λ work done is gives. record {
        gives = gives;
        points = list;
        whole = λ is. absurd (false≢true is);
        within = ([], sym (append-nil list));
        shown = is.1.0;
        told = IsPrefix-length work.learned.points list is.1.1;
        found = is.0;
      })
      (λ k d below. (λ enough. found enough k d below, (left refl).1 k d below))
      (AllZip-mapped (λ (work : WorkState I O) (done : SessionDone I O). done ≡ done_of work) done_of works (λ work. refl)))

  -- the names of the asks' mailboxes
  pub ask_mails : (closed starved : Bool) (list : List Point) (befores works : List (WorkState I O)) (dones : List (SessionDone I O))
      → AllZip (LeavesSession these is_stat) befores works → AllZip (GivesAsk closed starved list) works dones
      → map (λ (done : SessionDone I O). done.mail.mailbox) dones ≡ map (λ (work : WorkState I O). work.mail.mailbox) befores
  ask_mails closed starved list befores works dones ran gives =
      AllZip-map (GivesAsk closed starved list) (λ (work : WorkState I O). work.mail.mailbox) (λ (done : SessionDone I O). done.mail.mailbox) works dones (λ work done give. ap (λ (done : SessionDone I O). done.mail.mailbox) give.gives) gives
      ∙ AllZip-map (LeavesSession these is_stat) (λ (work : WorkState I O). work.mail.mailbox) (λ (work : WorkState I O). work.mail.mailbox) befores works (λ before work run. run.mail.0) ran

  -- ---- finals

  final_closed : (starved : Bool) (whole front : Known) (session : SessionState I O) (mail : OutEnd) (done : SessionDone I O) → mail.takes ≡ 0
      → EndsFinal these is_stat whole starved (new_session_work schema front session mail) done
      → LeavesTranscript these is_stat schema true (closing true starved whole.points) session done
  final_closed starved whole front session mail done none ends =
      let learned = ends.learned in
      let after : WorkState I O = ends.after in
      let taught : WorkState I O = record { session = session; schema = schema; shown = front; learned = ends.taught.learned; last = Some whole; mail = mail; end = Ok tt } in
      let same : ends.taught ≡ taught = λ i. record { session = learned.same.0 i; schema = learned.shown.1 i; shown = learned.shown.0 i; learned = ends.taught.learned; last = learned.learned.1 i; mail = learned.same.1 i; end = learned.same.2 i } in
      let ran : LeavesSession these is_stat taught after = subst (λ (work : WorkState I O). LeavesSession these is_stat work after) same ends.ran in
      subst (LeavesTranscript these is_stat schema true (closing true starved whole.points) session) (sym ends.gives)
      (ran_leaves true true starved whole.points whole.points session front ends.taught.learned (Some whole) mail after ran (λ is. refl) ([], all_of refl) (λ is last. absurd (false≢true (sym is)))
      (subst (λ (n : ℕ). HasDone these schema is_stat true n session (moment (news_over whole.points after.mail) after.session) after.end) none ran.final)
      ends.found)

  finals_closed : (starved : Bool) (whole front : Known) (sessions : List (SessionState I O)) (mails : List OutEnd) (dones : List (SessionDone I O)) → length mails ≡ length sessions → All (λ (mail : OutEnd). mail.takes ≡ 0) mails
      → AllZip (EndsFinal these is_stat whole starved) (session_works_of schema front sessions mails) dones
      → AllZip (LeavesTranscript these is_stat schema true (closing true starved whole.points)) sessions dones
  finals_closed starved whole front [] [] [] n none ends = tt
  finals_closed starved whole front [] [] (done ∷ dones) n none ends = absurd ends
  finals_closed starved whole front [] (mail ∷ mails) dones n none ends = absurd (omega (arith, n))
  finals_closed starved whole front (session ∷ sessions) [] dones n none ends = absurd (omega (arith, n))
  finals_closed starved whole front (session ∷ sessions) (mail ∷ mails) [] n none ends = absurd ends
  finals_closed starved whole front (session ∷ sessions) (mail ∷ mails) (done ∷ dones) n none ends = (
    final_closed starved whole front session mail done (All-head (λ (mail : OutEnd). mail.takes ≡ 0) mail mails none) ends.0,
    finals_closed starved whole front sessions mails dones (omega (arith, n)) (All-tail (λ (mail : OutEnd). mail.takes ≡ 0) mail mails none) ends.1,
  )

  final_unclosed : (starved : Bool) (list : List Point) (front : Known) (session : SessionState I O) (mail : OutEnd) → (starved ≡ false → ⊥)
      → LeavesTranscript these is_stat schema true (closing false starved list) session (done_of (new_session_work schema front session mail))
  final_unclosed starved list front session mail lacks =
      record {
        after = session;
        end = Ok tt;
        parts = (refl, refl);
        numbers = (refl, refl, refl);
        points = [];
        whole = λ is. absurd (false≢true is);
        within = (list, refl);
        unrun = λ is last. refl;
        replied =
            record {
              lines = [];
              replies = [];
              first = Told-each (lines_left these.left session.source) _ (AsksFirst schema []) (λ all is. (asked schema all, refl)) (Told-same (lines_left these.left session.source));
              transcript = record { each = tt; order = tt };
              gained = gains_none (these.held session.sink);
              counted = omega arith;
              noted = sym (append-nil session.seens);
              takes = omega arith;
              goes_on = λ going. (passes_none these.left these.faults session.source, refl);
            };
        all = λ is. absurd (false≢true is);
        too_much = λ e. absurd (no_fault fault.TooMuch e);
        taken = λ is. absurd (false≢true is);
        refused = λ e. absurd (no_fault fault.TooMuch e);
        read = record { rose = λ e. absurd (no_fault fault.Read e); quiet = λ e. refl };
        write = record { rose = λ e. absurd (no_fault fault.Write e); quiet = λ e. refl };
        named = refl;
        found = λ enough. absurd (lacks enough);
      }

  finals_unclosed : (starved : Bool) (list : List Point) (front : Known) (sessions : List (SessionState I O)) (mails : List OutEnd) → length mails ≡ length sessions → (starved ≡ false → ⊥)
      → AllZip (LeavesTranscript these is_stat schema true (closing false starved list)) sessions (map done_of (session_works_of schema front sessions mails))
  finals_unclosed starved list front [] [] n lacks = tt
  finals_unclosed starved list front [] (mail ∷ mails) n lacks = absurd (omega (arith, n))
  finals_unclosed starved list front (session ∷ sessions) [] n lacks = absurd (omega (arith, n))
  finals_unclosed starved list front (session ∷ sessions) (mail ∷ mails) n lacks = (final_unclosed starved list front session mail lacks, finals_unclosed starved list front sessions mails (omega (arith, n)) lacks)

  pub finals_leave : (closed starved : Bool) (list : List Point) (front : Known) (sessions : List (SessionState I O)) (mails : List OutEnd) (dones : List (SessionDone I O)) → length mails ≡ length sessions → All (λ (mail : OutEnd). mail.takes ≡ 0) mails
      → (closed ≡ true → (whole : Known) × (whole.points ≡ list) × AllZip (EndsFinal these is_stat whole starved) (session_works_of schema front sessions mails) dones)
      → (closed ≡ false → dones ≡ map done_of (session_works_of schema front sessions mails)) → (starved ≡ false → closed ≡ true)
      → AllZip (LeavesTranscript these is_stat schema true (closing closed starved list)) sessions dones
  finals_leave true starved list front sessions mails dones n none ends unclosed found =
      let all = ends refl in
      subst (λ (l : List Point). AllZip (LeavesTranscript these is_stat schema true (closing true starved l)) sessions dones) all.1 (finals_closed starved all.0 front sessions mails dones n none all.2)
  finals_leave false starved list front sessions mails dones n none ends unclosed found =
      subst (AllZip (LeavesTranscript these is_stat schema true (closing false starved list)) sessions) (sym (unclosed refl)) (finals_unclosed starved list front sessions mails n (λ enough. false≢true (found enough)))

  -- ---- works before they run

  pub all_works : (P : WorkState I O → Type 0) (front : Known) (sessions : List (SessionState I O)) (mails : List OutEnd) → ((session : SessionState I O) (mail : OutEnd) → HadNoTurn session → P (new_session_work schema front session mail))
      → All HadNoTurn sessions → All P (session_works_of schema front sessions mails)
  all_works P front [] mails each all = All-nil P
  all_works P front (session ∷ sessions) [] each all = All-nil P
  all_works P front (session ∷ sessions) (mail ∷ mails) each all =
      All-cons P (new_session_work schema front session mail) (session_works_of schema front sessions mails) (each session mail (All-head HadNoTurn session sessions all)) (all_works P front sessions mails each (All-tail HadNoTurn session sessions all))

  pub work_mails : (front : Known) (sessions : List (SessionState I O)) (mails : List OutEnd) → length mails ≡ length sessions → map (λ (work : WorkState I O). work.mail.mailbox) (session_works_of schema front sessions mails) ≡ map (λ (mail : OutEnd). mail.mailbox) mails
  work_mails front [] [] n = refl
  work_mails front [] (mail ∷ mails) n = absurd (omega (arith, n))
  work_mails front (session ∷ sessions) [] n = absurd (omega (arith, n))
  work_mails front (session ∷ sessions) (mail ∷ mails) n = ap (λ names. mail.mailbox ∷ names) (work_mails front sessions mails (omega (arith, n)))

  -- works that ran are of the same pair
  pub ran_pairs : (front : Known) (befores works : List (WorkState I O)) → All (λ (work : WorkState I O). work.shown.book ≡ front.book) befores → AllZip (LeavesSession these is_stat) befores works → All (λ (work : WorkState I O). work.shown.book ≡ front.book) works
  ran_pairs front befores works all z =
      AllZip-carried (LeavesSession these is_stat) (λ (work : WorkState I O). work.shown.book ≡ front.book) (λ (work : WorkState I O). work.shown.book ≡ front.book) befores works (λ before work was ran. ran.viewer.0.pair ∙ was) all z

-- works with one more session and mailbox
pub session_works_of-push : {I O : Type 0} (schema : Schema) (front : Known) (sessions : List (SessionState I O)) (mails : List OutEnd) (session : SessionState I O) (mail : OutEnd) → length mails ≡ length sessions
    → session_works_of schema front (sessions ++ session ∷ []) (mails ++ mail ∷ []) ≡ session_works_of schema front sessions mails ++ new_session_work schema front session mail ∷ []
session_works_of-push schema front [] [] session mail n = refl
session_works_of-push schema front [] (m ∷ mails) session mail n = absurd (omega (arith, n))
session_works_of-push schema front (s ∷ sessions) [] session mail n = absurd (omega (arith, n))
session_works_of-push schema front (s ∷ sessions) (m ∷ mails) session mail n = ap (λ l. new_session_work schema front s m ∷ l) (session_works_of-push schema front sessions mails session mail (omega (arith, n)))
