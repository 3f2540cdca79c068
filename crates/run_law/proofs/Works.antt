-- What the builder's work does is a run of steps.
use Rattle.std.proofs.Common.{◌≡◌, ◌≢◌, ℕ, zero, suc, ◌+◌, ◌<◌, eqb, ⊎_elim, Bool, true, false, List, [], ◌∷◌, ◌++◌, length, map, Some, refl, sym, ap, ◌∙◌, subst, arith}
use Rattle.std.specs.Prelude.{slice_get, Result, Ok, Err}
use Rattle.std.proofs.lemmas.Bool.Decides.{eqb_tells}
use Rattle.std.proofs.lemmas.Option.{none-some, same_Some}
use Rattle.builder_core.specs.Builder.{BuilderState}
use Rattle.builder_core.specs.Taking.{IsTaking}
use Rattle.builder_core.specs.declared.taken.Taken.{Taken}
use Rattle.builder_core.specs.declared.taken.Taken.TheVariants.{Kept, Published, LastEnd}
use Rattle.builder_core.specs.Steps as work
use Rattle.builder_core.specs.Telling.{having_put, having_told, having_answered}
use Rattle.builder_core.specs.Work.{BuilderWorkState, DrawsFor}
use Rattle.cube_view.specs.declared.schema.Schema.{Schema}
use Rattle.feed_queue.specs.Ends.{DrawState, having_drawn}
use Rattle.feed_queue.specs.declared.item.Item.{Item}
use Rattle.feed_queue.specs.declared.item.Item.TheVariants.{One, End}
use Rattle.mailbox.specs.Ends.{InEnd}
use Rattle.published_pair.specs.Rules.{Known}
use Rattle.published_pair.specs.declared.told.Told.{Told}
use Rattle.run_law.specs.Moves.{TakesItem, TellsSession, PutsMail, publishes, with_session, having_posted}
use Rattle.run_law.specs.Steps.{IsRunStep, AreRunSteps}
use Rattle.run_law.specs.Turns.{LeadTo}
use Rattle.run_law.specs.Views.{RunView, SessionView}
use Rattle.run_law.specs.WholeWorks.{with_told, put_first, TellsOf, MakesSteps, MakeSteps, WholeWorkIsSteps}
use Rattle.run_law.specs.Works.{HasMail, ShowsWork, draw_step, take_step, tell_steps, answer_steps, work_steps, WorkIsSteps}
use Rattle.run_law.specs.declared.step.Step.TheVariants as step
use Rattle.run_law.proofs.Places.{set_at_own, set_at_other}

-- the mailboxes of which the first k were put into

first_next : (n k : ℕ) (mails : List InEnd) → slice_get (put_first n k mails) k ≡ slice_get mails k
first_next n zero mails = refl
first_next n (suc k) [] = refl
first_next n (suc k) (m ∷ mails) = first_next n k mails

first_own : (n k : ℕ) (mails : List InEnd) (mail : InEnd) → slice_get mails k ≡ Some mail → slice_get (put_first n (suc k) mails) k ≡ Some (having_put n mail)
first_own n k [] mail at = absurd (none-some mail at)
first_own n zero (m ∷ mails) mail at = ap (λ (x : InEnd). Some (having_put n x)) (same_Some m mail at)
first_own n (suc k) (m ∷ mails) mail at = first_own n k mails mail at

first_other : (n k i : ℕ) (mails : List InEnd) → i ≢ k → slice_get (put_first n (suc k) mails) i ≡ slice_get (put_first n k mails) i
first_other n zero i [] apart = refl
first_other n (suc k) i [] apart = refl
first_other n zero zero (m ∷ mails) apart = absurd (apart refl)
first_other n zero (suc i) (m ∷ mails) apart = refl
first_other n (suc k) zero (m ∷ mails) apart = refl
first_other n (suc k) (suc i) (m ∷ mails) apart = first_other n k i mails (λ e. apart (ap suc e))

first_all : (n : ℕ) (mails : List InEnd) → map (having_put n) mails ≡ put_first n (length mails) mails
first_all n [] = refl
first_all n (m ∷ mails) = λ j. having_put n m ∷ first_all n mails j

told_all : (w : BuilderWorkState) → having_told w ≡ with_told (length w.mails) w
told_all w = ap (λ (mails : List InEnd). record w { mails = mails }) (first_all (length w.builder.published.points) w.mails)

module _ (schema : Schema) (room : ℕ) (told : Told) where
  abbrev size : ℕ
  size = length told.front.points

  -- sessions with these mailboxes, from k on
  abbrev HaveMails : RunView → ℕ → List InEnd → Type 0
  HaveMails a k mails = (j i : ℕ) (mail : InEnd) → i ≡ k + j → slice_get mails j ≡ Some mail → HasMail a i mail

  have_more : (b : RunView) (k : ℕ) (mail : InEnd) (mails : List InEnd) → HasMail b k mail → HaveMails b (k + 1) mails → HaveMails b k (mail ∷ mails)
  have_more b k mail mails here rest zero i m e found =
      let at : k ≡ i = omega (arith, e) in
      subst (λ (n : ℕ). HasMail b n m) at (subst (HasMail b k) (same_Some mail m found) here)
  have_more b k mail mails here rest (suc j) i m e found = rest j i m (omega (arith, e)) found

  -- a run in which they are told
  record IsTelling (k : ℕ) (mails : List InEnd) (a b : RunView) : Type 0 where
    is : AreRunSteps schema room a (tell_steps k mails) b
    draws : b.draws ≡ a.draws
    builder : b.builder ≡ a.builder
    put : HaveMails b k (map (having_put size) mails)
    before : (i : ℕ) → i < k → slice_get b.sessions i ≡ slice_get a.sessions i

  module _ (k : ℕ) (a : RunView) (session : SessionView) (at : slice_get a.sessions k ≡ Some session) (list : told.front ≡ a.builder.published) where
    abbrev heard : SessionView
    heard = record session { told = session.told ++ told.front ∷ [] }

    abbrev posted : SessionView
    posted = having_posted heard size

    abbrev mid : RunView
    mid = with_session a k heard

    abbrev end : RunView
    end = with_session mid k posted

    at_mid : slice_get mid.sessions k ≡ Some heard
    at_mid = set_at_own a.sessions k session heard at

    at_end : slice_get end.sessions k ≡ Some posted
    at_end = set_at_own mid.sessions k heard posted at_mid

    others : (i : ℕ) → i ≢ k → slice_get end.sessions i ≡ slice_get a.sessions i
    others i apart = set_at_other mid.sessions k i posted apart ∙ set_at_other a.sessions k i heard apart

    is_told : TellsSession k a mid
    is_told = record { session = session; at = at; told = told; list = list; after = refl }

    is_put : PutsMail k mid end
    is_put = record { session = heard; at = at_mid; told = told; earlier = session.told; last = refl; after = refl }

  telling : (mails : List InEnd) (k : ℕ) (a : RunView) → told.front ≡ a.builder.published → HaveMails a k mails → (b : RunView) × IsTelling k mails a b
  telling [] k a list has = (a, record { is = refl; draws = refl; builder = refl; put = λ j i mail e at. absurd (none-some mail at); before = λ i low. refl })
  telling (m ∷ mails) k a list has =
      let here = has 0 k m (omega arith) refl in
      let session = here.0 in
      let at = here.1 in
      let later = telling mails (k + 1) (end k a session at list) list (λ j i mail e found.
      let there = has (suc j) i mail (omega (arith, e)) found in
      (there.0, others k a session at list i (λ (same : i ≡ k). omega (arith, same, e)) ∙ there.1, there.2)) in (
        later.0,
        record {
          is = (mid k a session at list, is_told k a session at list, (end k a session at list, is_put k a session at list, later.1.is));
          draws = later.1.draws;
          builder = later.1.builder;
          put = have_more later.0 k (having_put size m) (map (having_put size) mails)
              (posted k a session at list, later.1.before k (omega arith) ∙ at_end k a session at list, ap (having_put size) here.2)
              later.1.put;
          before = λ i low. later.1.before i (omega (arith, low)) ∙ others k a session at list i (λ (same : i ≡ k). omega (arith, same, low));
        },
      )

  -- what the answer asks for is told
  telling_all : (a : RunView) (w : BuilderWorkState) → ShowsWork a w → told.front ≡ w.builder.published → (b : RunView) × AreRunSteps schema room a (tell_steps 0 w.mails) b × ShowsWork b (having_told w)
  telling_all a w shows list =
      let told_run = telling w.mails 0 a (list ∙ ap (λ (x : BuilderState). x.published) (sym shows.builder)) (λ j i mail e found. shows.mails i mail (let at : j ≡ i = omega (arith, e) in subst (λ n. slice_get w.mails n ≡ Some mail) at found)) in (
        told_run.0,
        told_run.1.is,
        record {
          draws = told_run.1.draws ∙ shows.draws;
          builder = told_run.1.builder ∙ shows.builder;
          mails = λ k mail found. told_run.1.put k k mail (omega arith) (subst (λ (p : Known). slice_get (map (having_put (length p.points)) w.mails) k ≡ Some mail) (sym list) found);
        },
      )

  -- one session more is told, whatever became of the run since the last
  tell_next : (w : BuilderWorkState) (k : ℕ) (mail : InEnd) (a : RunView) → slice_get w.mails k ≡ Some mail → told.front ≡ w.builder.published → ShowsWork a (with_told k w)
      → LeadTo schema room a (step.Tell k ∷ step.PutMail k ∷ []) (λ b. ShowsWork b (with_told (suc k) w))
  tell_next w k mail a found list shows =
      let n : ℕ = length w.builder.published.points in
      let here : HasMail a k mail = shows.mails k mail (first_next n k w.mails ∙ found) in
      let session = here.0 in
      let at = here.1 in
      let list_a : told.front ≡ a.builder.published = list ∙ ap (λ (x : BuilderState). x.published) (sym shows.builder) in
      let same : size ≡ n = ap (λ (p : Known). length p.points) list in
      let b : RunView = end k a session at list_a in (
        b,
        (mid k a session at list_a, is_told k a session at list_a, (b, is_put k a session at list_a, refl)),
        record {
          draws = shows.draws;
          builder = shows.builder;
          mails = λ i m found_i. ⊎_elim
              (λ (e : (eqb i k ≡ true) × (i ≡ k)).
              let found_k : slice_get (put_first n (suc k) w.mails) k ≡ Some m = subst (λ (j : ℕ). slice_get (put_first n (suc k) w.mails) j ≡ Some m) e.1 found_i in
              let is : having_put n mail ≡ m = same_Some (having_put n mail) m (sym (first_own n k w.mails mail found) ∙ found_k) in
              subst (λ (j : ℕ). HasMail b j m) (sym e.1) (posted k a session at list_a, at_end k a session at list_a, ap (having_put size) here.2 ∙ (ap (λ (j : ℕ). having_put j mail) same ∙ is)))
              (λ (e : (eqb i k ≡ false) × (i ≢ k)).
              let there : HasMail a i m = shows.mails i m (sym (first_other n k i w.mails e.1) ∙ found_i) in
              (there.0, others k a session at list_a i e.1 ∙ there.1, there.2))
              (eqb_tells i k);
        },
      )

  answering : {E : Type 0} (a : RunView) (w : BuilderWorkState) (answer : Result Taken E) → ShowsWork a w → told.front ≡ w.builder.published
      → (b : RunView) × AreRunSteps schema room a (answer_steps answer w.mails) b × ShowsWork b (having_answered answer w)
  answering a w (Ok Kept) shows list = (a, refl, shows)
  answering a w (Ok (Published n)) shows list = telling_all a w shows list
  answering a w (Ok (LastEnd n)) shows list = telling_all a w shows list
  answering a w (Err e) shows list = (a, refl, shows)

module _ (schema : Schema) (room : ℕ) where
  draw_is_step : (a : RunView) (rest : List Item) (i : Item) → a.queue ≡ i ∷ rest → IsRunStep schema room a (draw_step i) (record a { queue = rest; draws = having_drawn a.draws i })
  draw_is_step a rest (One e) front = (e, record { rest = rest; front = front; after = refl })
  draw_is_step a rest (End f n) front = (f, n, record { rest = rest; front = front; after = refl })

  take_is_step : (published : Bool) (a b : RunView) → TakesItem published a b → IsRunStep schema room a (take_step published) b
  take_is_step true a b takes = takes
  take_is_step false a b takes = takes

  module _ (a : RunView) (before after : BuilderWorkState) (shows : ShowsWork a before) (draws : DrawsFor before.draws before.builder) (s : work.IsStep before after) (rest : List Item) where
    abbrev item : Item
    item = s.takes.item

    abbrev drawn : RunView
    drawn = record a { queue = rest; draws = having_drawn a.draws item }

    abbrev taken : RunView
    taken = record drawn { builder = s.next.builder }

    takes : TakesItem (publishes before.builder item s.answer) drawn taken
    takes = record {
      item = item;
      drawn = ap (λ l. l ++ item ∷ []) (ap (λ (d : DrawState). d.drawn) shows.draws ∙ sym draws.taken ∙ ap (λ (x : BuilderState). x.taken) (sym shows.builder));
      answer = s.answer;
      left = s.next.builder;
      taking = subst (λ (x : BuilderState). IsTaking x item s.answer s.next.builder) (sym shows.builder) s.takes.taken;
      keeps = s.takes.keeps;
      is = ap (λ (x : BuilderState). publishes x item s.answer) shows.builder;
      after = refl;
    }

    shows_taken : ShowsWork taken s.next
    shows_taken = record {
      draws = ap (λ (d : DrawState). having_drawn d item) shows.draws ∙ sym s.takes.drawn;
      builder = refl;
      mails = λ k mail found. shows.mails k mail (ap (λ (mails : List InEnd). slice_get mails k) (sym s.takes.mails) ∙ found);
    }

    work_runs : a.queue ≡ item ∷ rest → (told : Told) → told.front ≡ s.next.builder.published → (b : RunView) × AreRunSteps schema room a (work_steps before item s.answer) b × ShowsWork b after
    work_runs front told list =
        let told_run = answering schema room told taken s.next s.answer shows_taken list in
        let same : answer_steps s.answer s.next.mails ≡ answer_steps s.answer before.mails = ap (answer_steps s.answer) s.takes.mails in (
          told_run.0,
          (drawn, draw_is_step a rest item front, (taken, take_is_step (publishes before.builder item s.answer) drawn taken takes, subst (λ steps. AreRunSteps schema room taken steps told_run.0) same told_run.1)),
          subst (ShowsWork told_run.0) (sym s.tells) told_run.2,
        )

pub work_is_steps : WorkIsSteps
work_is_steps schema room a before after shows draws s rest front told list = work_runs schema room a before after shows draws s rest front told list

-- the end draws for the builder after a step too

draws_answered : {E : Type 0} (answer : Result Taken E) (w : BuilderWorkState) → DrawsFor w.draws w.builder → DrawsFor (having_answered answer w).draws (having_answered answer w).builder
draws_answered (Ok Kept) w draws = draws
draws_answered (Ok (Published n)) w draws = draws
draws_answered (Ok (LastEnd n)) w draws = draws
draws_answered (Err e) w draws = draws

draws_after : (before after : BuilderWorkState) → work.IsStep before after → DrawsFor before.draws before.builder → DrawsFor after.draws after.builder
draws_after before after s draws =
    let drawn : s.next.draws.drawn ≡ before.draws.drawn ++ s.takes.item ∷ [] = ap (λ (d : DrawState). d.drawn) s.takes.drawn in
    subst (λ (w : BuilderWorkState). DrawsFor w.draws w.builder) (sym s.tells) (draws_answered s.answer s.next (record {
      taken = s.takes.taken.counted ∙ (ap (λ (items : List Item). items ++ s.takes.item ∷ []) draws.taken ∙ sym drawn);
      feeders = s.takes.taken.same.feeders ∙ (draws.feeders ∙ sym (ap (λ (d : DrawState). d.feeders) s.takes.drawn));
      schema = s.takes.taken.same.schema ∙ (draws.schema ∙ sym (ap (λ (d : DrawState). d.schema) s.takes.drawn));
    }))

module _ (schema : Schema) (room : ℕ) where
  tells_of : {E : Type 0} (answer : Result Taken E) (next after : BuilderWorkState) → after ≡ having_answered answer next → TellsOf schema room answer next after
  tells_of (Ok Kept) next after is = is
  tells_of (Ok (Published n)) next after is = (λ k mail told a found list shows. tell_next schema room told next k mail a found list shows, is ∙ told_all next)
  tells_of (Ok (LastEnd n)) next after is = (λ k mail told a found list shows. tell_next schema room told next k mail a found list shows, is ∙ told_all next)
  tells_of (Err e) next after is = is

  makes_steps : (before after : BuilderWorkState) (s : work.IsStep before after) → DrawsFor before.draws before.builder → MakesSteps schema room before after s
  makes_steps before after s draws = let i = s.takes.item in record {
    draws = λ a rest shows front.
        let b : RunView = record a { queue = rest; draws = having_drawn a.draws i } in
        (b, (b, draw_is_step schema room a rest i front, refl), record { draws = ap (λ (d : DrawState). having_drawn d i) shows.draws; builder = shows.builder; mails = shows.mails });
    takes = λ a shows.
        let b : RunView = record a { builder = s.next.builder } in
        let takes : TakesItem (publishes before.builder i s.answer) a b = record {
          item = i;
          drawn = ap (λ (d : DrawState). d.drawn) shows.draws ∙ ap (λ (l : List Item). l ++ i ∷ []) (sym draws.taken ∙ ap (λ (x : BuilderState). x.taken) (sym shows.builder));
          answer = s.answer;
          left = s.next.builder;
          taking = subst (λ (x : BuilderState). IsTaking x i s.answer s.next.builder) (sym shows.builder) s.takes.taken;
          keeps = s.takes.keeps;
          is = ap (λ (x : BuilderState). publishes x i s.answer) shows.builder;
          after = refl;
        } in (
          b,
          (b, take_is_step schema room (publishes before.builder i s.answer) a b takes, refl),
          record {
            draws = shows.draws ∙ sym s.takes.drawn;
            builder = refl;
            mails = λ k mail found. shows.mails k mail (ap (λ (mails : List InEnd). slice_get mails k) (sym s.takes.mails) ∙ found);
          },
        );
    tells = tells_of s.answer s.next after s.tells;
  }

  make_steps : (before : BuilderWorkState) (works : List BuilderWorkState) (after : BuilderWorkState) (are : work.AreSteps before works after) → DrawsFor before.draws before.builder → MakeSteps schema room before works after are
  make_steps before [] after are draws = tt
  make_steps before (next ∷ works) after are draws = (makes_steps before next are.0 draws, make_steps next works after are.1 (draws_after before next are.0 draws))

pub whole_work_is_steps : WholeWorkIsSteps
whole_work_is_steps schema room before after draws built = make_steps schema room before built.steps.works after built.steps.each draws
