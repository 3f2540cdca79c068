-- What a turn keeps, from what its parts do.
use Rattle.std.proofs.Common.{◌≡◌, ◌≢◌, ℕ, ◌≤◌, Bool, true, false, ◌||◌, if◌then◌else◌, List, [], ◌++◌, length, Option, Some, None, ◌⊎◌, inl, inr, refl, sym, ap, ◌∙◌, subst, arith, append-nil, append_assoc, Result, Ok, Err, IfOk, OnErr, IsErrOf, IfSome}
use Rattle.std.proofs.lemmas.List.Elements.{All-append, All-nil, All-weaker}
use Rattle.cube_view.specs.Points.{Point}
use Rattle.cube_view.specs.declared.schema.Schema.{Schema}
use Rattle.cube_view.specs.declared.stat.Stat.{Stat}
use Rattle.cube_view.specs.declared.view.CubeView as CubeView
use Rattle.live_session.specs.News.{AsksOfEnds, AsksMail, EndsView, Goes, GoesFor, HasNews, KeepsViewer, LearnsTaken, MayAsk, asks_news, news_of, takes_for}
use Rattle.live_session.specs.Saying.{IsShownTo}
use Rattle.live_session.specs.State.{SessionState}
use Rattle.live_session.specs.Turned.{HasFaults, is_no_memory}
use Rattle.live_session.specs.Viewers.{AsksViewer, IsSameViewer, ends_view}
use Rattle.live_session.proofs.TurnLaws.{Reads}
use Rattle.mailbox.specs.Ends.{OutEnd}
use Rattle.texts.specs.Counts.{next_count}
use Rattle.outer_io.specs.Cutting.{Cutter}
use Rattle.outer_io.specs.Faults.{HasCause}
use Rattle.outer_io.specs.Progress.{PassesAll}
use Rattle.outer_io.specs.declared.source.Source as Source
use Rattle.published_pair.specs.Rules.{Known}
use Rattle.published_pair.specs.declared.told.Told.{Told}
use Rattle.published_pair.specs.declared.viewer.Viewer.{Viewer}
use Rattle.query_syntax.specs.declared.query.Parsed.{Parsed}
use Rattle.query_syntax.specs.declared.query.Parsed.TheVariants.{Skip}
use Rattle.session_core.specs.Asked.{asks_look}
use Rattle.session_core.specs.Turns.{AsksNext}
use Rattle.session_core.proofs.SoFar.{fault_is}
use Rattle.session_core.specs.declared.fault.SessionFault.{SessionFault}
use Rattle.session_core.specs.declared.fault.SessionFault.TheVariants as fault
use Rattle.world_core.proofs.Prefixes.{IsPrefix-length, IsPrefix-then}
use Rattle.world_core.specs.PairFact.{IsPrefix}

-- what is known of an answer that is `Ok`, or that is a fault
pub of_ok : {T E : Type 0} (P : T → Type 0) (r : Result T E) (x : T) → r ≡ Ok x → IfOk r P → P x
of_ok P r x is known = subst (λ (s : Result _ _). IfOk s P) is known

pub of_err : {T E : Type 0} (P : Type 0) (r : Result T E) (e : E) → r ≡ Err e → OnErr r P → P
of_err P r e is known = subst (λ (s : Result _ _). OnErr s P) is known

pub of_fault : {T E : Type 0} (P : Type 0) (r : Result T E) (x : E) → OnErr r P → IsErrOf r x → P
of_fault P (Ok t) x known e = cc
of_fault P (Err f) x known e = known

pub if_some : {A : Type 0} {P : A → Type 0} (o : Option A) → ((x : A) → o ≡ Some x → P x) → IfSome o P
if_some None p = tt
if_some (Some x) p = p x refl

pub known_some : {A : Type 0} (P : A → Type 0) (o : Option A) (x : A) → o ≡ Some x → IfSome o P → P x
known_some P o x is known = subst (λ p. IfSome p P) is known

is_fault : {T : Type 0} (r : Result T SessionFault) (f : SessionFault) → IsErrOf r f → r ≡ Err f
is_fault (Ok t) f e = cc
is_fault (Err g) f e = cc

-- which fault it is does not depend on what the answer would have been
pub as_fault : {T : Type 0} (f g : SessionFault) → f ≡ g → IsErrOf {T = T} {E = SessionFault} (Err f) g
as_fault {T} f g e = subst (λ (x : SessionFault). IsErrOf {T = T} {E = SessionFault} (Err f) x) e refl

-- an answer that is no fault
pub ok_answer : {T : Type 0} (r : Result T SessionFault) (t : T) (f : SessionFault) → r ≡ Ok t → IsErrOf r f → ⊥
ok_answer r t f is e = cc

pub prefix-same : {A : Type 0} (xs ys : List A) → ys ≡ xs → IsPrefix xs ys
prefix-same xs ys e = ([], e ∙ sym (append-nil xs))

-- a viewer that did not look
pub goes_unseen : (shown learned : Known) (last : Option Known) (shown' learned' : Known) → shown' ≡ shown → IsPrefix learned.points learned'.points → Goes shown learned last shown' learned'
goes_unseen shown learned last shown' learned' same told = record {
  pair = ap (λ (k : Known). k.book) same;
  seen = prefix-same shown.points shown'.points (ap (λ (k : Known). k.points) same);
  told = told;
  ended = inl same;
}

-- a viewer that nothing changed
pub same_viewer : (shown learned : Known) (last : Option Known) (schema : Schema) → KeepsViewer shown learned last schema shown learned last schema
same_viewer shown learned last schema = record {
  goes = goes_unseen shown learned last shown learned refl (prefix-same learned.points learned.points refl);
  same_last = refl;
  same_schema = refl;
}

ended_on : (shown : Known) (last last' : Option Known) (mid now : Known) → last' ≡ last → (mid ≡ shown) ⊎ IfSome last (λ w. mid.points ≡ w.points) → (now ≡ mid) ⊎ IfSome last' (λ w. now.points ≡ w.points) → (now ≡ shown) ⊎ IfSome last (λ w. now.points ≡ w.points)
ended_on shown last last' mid now same (inl p) (inl q) = inl (q ∙ p)
ended_on shown last last' mid now same (inr p) (inl q) = inr (subst (λ (k : Known). IfSome last (λ w. k.points ≡ w.points)) (sym q) p)
ended_on shown last last' mid now same p (inr q) = inr (subst (λ (o : Option Known). IfSome o (λ w. now.points ≡ w.points)) same q)

-- one stretch after another
pub goes_on : (shown learned : Known) (last last' : Option Known) (shown' learned' shown'' learned'' : Known) → last' ≡ last → Goes shown learned last shown' learned' → Goes shown' learned' last' shown'' learned'' → Goes shown learned last shown'' learned''
goes_on shown learned last last' shown' learned' shown'' learned'' same p q = record {
  pair = q.pair ∙ p.pair;
  seen = IsPrefix-then shown.points shown'.points shown''.points p.seen q.seen;
  told = IsPrefix-then learned.points learned'.points learned''.points p.told q.told;
  ended = ended_on shown last last' shown' shown'' same p.ended q.ended;
}

-- the same of a viewer
pub keeps_on : {shown learned : Known} {last : Option Known} {schema : Schema} {shown' learned' : Known} {last' : Option Known} {schema' : Schema} {shown'' learned'' : Known} {last'' : Option Known} {schema'' : Schema} → KeepsViewer shown learned last schema shown' learned' last' schema' → KeepsViewer shown' learned' last' schema' shown'' learned'' last'' schema'' → KeepsViewer shown learned last schema shown'' learned'' last'' schema''
keeps_on p q = record {
  goes = goes_on _ _ _ _ _ _ _ _ p.same_last p.goes q.goes;
  same_last = q.same_last ∙ p.same_last;
  same_schema = q.same_schema ∙ p.same_schema;
}

-- what answering a line changes of what is shown and told
pub has_news : (p : Parsed) (shown learned : Known) (last : Option Known) (mail : OutEnd) (shown' learned' : Known) (mail' : OutEnd) → GoesFor p shown learned last mail shown' learned' mail' → HasNews p (news_of shown learned mail) (news_of shown' learned' mail')
has_news p shown learned last mail shown' learned' mail' did = record {
  takes = did.mail.asked;
  told = λ e. ap (λ (k : Known). k.points) (did.unasked e).0;
  unseen = λ e. ap (λ (k : Known). k.points) (did.unseen e);
  fresh = λ e. (did.look e).0;
  goes_on = (did.goes.seen, did.goes.told);
}

-- the mailbox was asked once, or not
pub may_ask : (p : Parsed) (shown learned : Known) (last : Option Known) (mail : OutEnd) (shown' learned' : Known) (mail' : OutEnd) → GoesFor p shown learned last mail shown' learned' mail' → MayAsk learned' mail mail'
may_ask p shown learned last mail shown' learned' mail' did = by_asked (asks_news p) refl
  where
    by_asked : (b : Bool) → asks_news p ≡ b → MayAsk learned' mail mail'
    by_asked true is = inr (subst (λ (n : ℕ). AsksMail n learned' mail mail') (ap (λ (b : Bool). if b then next_count mail.takes else mail.takes) is) did.mail)
    by_asked false is = inl (did.unasked is).1

-- nothing was taken
pub learns_nothing : (learned : Known) (mail mail' : OutEnd) → mail' ≡ mail → LearnsTaken learned mail mail'
learns_nothing learned mail mail' same = ([], ap (λ (m : OutEnd). m.taken) same ∙ sym (append-nil mail.taken), All-nil _)

learns_asked : (learned : Known) (mail mail' : OutEnd) → MayAsk learned mail mail' → LearnsTaken learned mail mail'
learns_asked learned mail mail' (inl same) = learns_nothing learned mail mail' same
learns_asked learned mail mail' (inr asks) = asks.learns

-- what was taken before a turn and in it is learned
pub learns_on : (learned learned' : Known) (mail mail' mail'' : OutEnd) → IsPrefix learned.points learned'.points → LearnsTaken learned mail mail' → MayAsk learned' mail' mail'' → LearnsTaken learned' mail mail''
learns_on learned learned' mail mail' mail'' goes was asks =
    let now = learns_asked learned' mail' mail'' asks in (
      was.0 ++ now.0,
      now.1 ∙ (ap (λ (l : List Told). l ++ now.0) was.1 ∙ append_assoc mail.taken was.0 now.0),
      All-append (λ (t : Told). IsPrefix t.front.points learned'.points) was.0 now.0
          (All-weaker (λ (t : Told). IsPrefix t.front.points learned.points) (λ (t : Told). IsPrefix t.front.points learned'.points) (λ t p. IsPrefix-then t.front.points learned.points learned'.points p goes) was.0 was.2)
          now.2,
    )

-- where nothing is asked
pub asks_nothing : (ends : EndsView) → AsksOfEnds Skip ends ends
asks_nothing ends = record {
  valid = refl;
  goes = record {
    goes = (same_viewer ends.shown ends.learned ends.last ends.schema).goes;
    look = λ e. cc;
    unseen = λ e. refl;
    unasked = λ e. (refl, refl);
    mail = record { mailbox = refl; pair = refl; asked = refl; rises = omega arith; learns = learns_nothing ends.learned ends.mail ends.mail refl };
  };
  takes = record { told = None; taken = refl; learns = refl };
}

-- a turn that read no line, after which the session is at its end
pub asks_no_line : {I O V C : Type 0} {members : CubeView.Ghosts V C} (script : Source.Ghosts I) (viewer : Viewer V C members) (mail : OutEnd) (before after : SessionState I O) → after.ended ≡ true → IsSameViewer viewer viewer × AsksViewer script viewer mail before viewer mail after
asks_no_line script viewer mail before after ended = (
  same_viewer viewer.shown viewer.learned viewer.last viewer.schema,
  record { asked = Skip; read = inr (refl, ended); asks = asks_nothing (ends_view viewer mail) },
)

-- what answering a line changes where all is known already
pub whole_news : (p : Parsed) (whole : Known) (mail mail' : OutEnd) → mail'.takes ≡ takes_for p mail.takes → HasNews p (news_of whole whole mail) (news_of whole whole mail')
whole_news p whole mail mail' taken = record {
  takes = taken;
  told = λ e. refl;
  unseen = λ e. refl;
  fresh = λ e. prefix-same whole.points whole.points refl;
  goes_on = (prefix-same whole.points whole.points refl, prefix-same whole.points whole.points refl);
}

-- a look shows no less than was told before
pub fresh_length : (learned learned' shown' : List Point) (p : Parsed) → IsPrefix learned learned' → (asks_look p ≡ true → IsPrefix learned' shown') → asks_look p ≡ true → length learned ≤ length shown'
fresh_length learned learned' shown' p told look e = omega (arith, IsPrefix-length learned learned' told, IsPrefix-length learned' shown' (look e))

-- the numbers of a view that is shown meet the view's test
pub shown_numbers : {V C : Type 0} {members : CubeView.Ghosts V C} (viewer : Viewer V C members) → ((v : V) → members.is_stat (members.numbers v)) → (stat : Stat) → IsShownTo viewer stat → members.is_stat stat
shown_numbers {members = members} viewer met stat is = subst members.is_stat (sym is) (met viewer.shown_view.value)

module _ {I O : Type 0} (left : I → Option (List ℕ)) (faults : I → ℕ) (held : O → Option (List ℕ)) where
  -- the line that was read, under a schema that is another's
  pub reads_of : (schema other : Schema) (before mid : SessionState I O) (o : Option Parsed) (p : Parsed) → other ≡ schema → o ≡ Some p → AsksNext left faults other before.source mid.source o → Reads left faults schema before mid p
  reads_of schema other before mid o p same is asked = subst (λ (z : Schema). AsksNext left faults z before.source mid.source (Some p)) same (subst (AsksNext left faults other before.source mid.source) is asked)

  pub end_of : (schema : Schema) (before mid : SessionState I O) (o : Option Parsed) → o ≡ None → AsksNext left faults schema before.source mid.source o → PassesAll left faults before.source mid.source []
  end_of schema before mid o is asked = subst (AsksNext left faults schema before.source mid.source) is asked

  counted_after : {T : Type 0} (before mid after : SessionState I O) (r : Result T SessionFault) → mid.seens ≡ before.seens → mid.replies ≡ before.replies → OnErr r ((after.ended ≡ true) × (after.replies ≡ mid.replies) × (after.seens ≡ mid.seens)) → OnErr r ((after.ended ≡ true) × (after.replies ≡ before.replies) × (after.seens ≡ before.seens))
  counted_after before mid after (Ok x) seens replies e = tt
  counted_after before mid after (Err f) seens replies e = (e.0, e.1 ∙ replies, e.2 ∙ seens)

  -- the faults of a turn that read a line are those of what it did with it
  pub faults_after : {T : Type 0} (put_faults : O → ℕ) (before mid after : SessionState I O) (r : Result T SessionFault) → mid.sink ≡ before.sink → mid.seens ≡ before.seens → mid.replies ≡ before.replies → mid.lacked ≡ before.lacked → after.source ≡ mid.source → faults mid.source.source ≡ faults before.source.source → r ≢ Err fault.Read → r ≢ Err fault.TooMuch → HasFaults left faults held put_faults mid after r → HasFaults left faults held put_faults before after r
  faults_after put_faults before mid after r sink seens replies lacked source quiet read much fs =
      record {
        read = record {
          rose = λ e. absurd (read (is_fault r fault.Read e));
          quiet = λ e. ap (λ (c : Cutter I). faults c.source) source ∙ quiet;
        };
        write = subst (λ (o : O). HasCause (put_faults o) (put_faults after.sink) r fault.Write) sink fs.write;
        too_much = λ e. absurd (much (is_fault r fault.TooMuch e));
        ended = counted_after before mid after r seens replies fs.ended;
        nothing = λ f is ne. let same = fs.nothing f is ne in (same.0 ∙ ap held sink, same.1 ∙ ap (λ (b : Bool). b || is_no_memory f) lacked);
      }

  -- a fault is the same whatever the answer would have been
  pub same_fault : {T U : Type 0} (put_faults : O → ℕ) (before after : SessionState I O) (f : SessionFault) → HasFaults left faults held put_faults before after {T = T} (Err f) → HasFaults left faults held put_faults before after {T = U} (Err f)
  same_fault {T} {U} put_faults before after f fs = record {
    read = record { rose = λ e. fs.read.rose (as_fault {T = T} f fault.Read (fault_is {T = U} f fault.Read e)); quiet = λ e. fs.read.quiet (λ d. e (as_fault {T = U} f fault.Read (fault_is {T = T} f fault.Read d))) };
    write = record { rose = λ e. fs.write.rose (as_fault {T = T} f fault.Write (fault_is {T = U} f fault.Write e)); quiet = λ e. fs.write.quiet (λ d. e (as_fault {T = U} f fault.Write (fault_is {T = T} f fault.Write d))) };
    too_much = λ e. fs.too_much (as_fault {T = T} f fault.TooMuch (fault_is {T = U} f fault.TooMuch e));
    ended = fs.ended;
    nothing = λ g is ne. fs.nothing g (as_fault {T = T} f g (fault_is {T = U} f g is)) ne;
  }
