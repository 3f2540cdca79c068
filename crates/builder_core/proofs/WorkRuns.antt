-- What the steps of a work leave together.
use Rattle.std.proofs.Common.{◌≡◌, ℕ, ◌≤◌, ◌<◌, true, false, true≢false, List, [], ◌∷◌, ◌++◌, map, length, length-append, append-nil, zero-mul, sym, refl, ap, ◌∙◌, subst, arith}
use Rattle.std.proofs.lemmas.List.Elements.{All-weaker}
use Rattle.std.specs.Prelude.{Result, Ok, Err}
use Rattle.builder_core.specs.Builder.{BuilderState, KeepsJournal}
use Rattle.builder_core.specs.Endings.{all_ended, EachEnded}
use Rattle.builder_core.specs.Taking.{IsSameRun, having_taken, answer_of}
use Rattle.builder_core.specs.declared.taken.Taken.{Taken}
use Rattle.builder_core.specs.declared.taken.Taken.TheVariants.{Kept, Published, LastEnd}
use Rattle.feed_queue.specs.Ends.{DrawState, MayBeDrawn}
use Rattle.feed_queue.specs.Items.{entries_in, has_end}
use Rattle.feed_queue.specs.declared.item.Item.{Item}
use Rattle.feed_queue.specs.declared.item.Item.TheVariants.{One}
use Rattle.feed_queue.proofs.ItemOrder.{has_end_entry}
use Rattle.mailbox.specs.Ends.{InEnd}
use Rattle.texts.specs.declared.no_memory.NoMemory.{NoMemory}
use Rattle.world_core.specs.PairFact.{IsPrefix}
use Rattle.world_core.specs.declared.entry.Entry.{Entry}
use Rattle.world_core.proofs.Prefixes.{IsPrefix-then}
use Rattle.builder_core.specs.Built.{IsNewWork, IsBuilding, IsBuilt, IsSameEnd, IsSameMails, KeepsWork}
use Rattle.builder_core.specs.Steps.{TakesNext, IsStep, AreSteps, ComesBySteps}
use Rattle.builder_core.specs.Telling.{HasMultiples, multiples_up_to, having_put, having_answered}
use Rattle.builder_core.specs.Work.{BuilderWorkState, work_state, DrawsFor}
use Rattle.builder_core.proofs.Lengths.{multiples-none}
use Rattle.builder_core.proofs.TakenItems.{Took, took_open, HasTold, goes_on, ends}

-- what a mailbox has beside what was put into it, is as it was
put_same : {A : Type 0} (part : InEnd → A) → ((n : ℕ) (m : InEnd) → part (having_put n m) ≡ part m) → (n : ℕ) (mails : List InEnd) → map part (map (having_put n) mails) ≡ map part mails
put_same part same n [] = refl
put_same part same n (m ∷ mails) = ap (λ x. x ∷ map part (map (having_put n) mails)) (same n m) ∙ ap (λ l. part m ∷ l) (put_same part same n mails)

-- telling leaves all but what was put
pub same_parts : (r : Result Taken NoMemory) (w : BuilderWorkState) → (having_answered r w).draws ≡ w.draws × (having_answered r w).builder ≡ w.builder
same_parts (Ok Kept) w = (refl, refl)
same_parts (Ok (Published n)) w = (refl, refl)
same_parts (Ok (LastEnd n)) w = (refl, refl)
same_parts (Err e) w = (refl, refl)

same_mails : {A : Type 0} (part : InEnd → A) → ((n : ℕ) (m : InEnd) → part (having_put n m) ≡ part m) → (r : Result Taken NoMemory) (w : BuilderWorkState) → map part (having_answered r w).mails ≡ map part w.mails
same_mails part same (Ok Kept) w = refl
same_mails part same (Ok (Published n)) w = put_same part same (length w.builder.published.points) w.mails
same_mails part same (Ok (LastEnd n)) w = put_same part same (length w.builder.published.points) w.mails
same_mails part same (Err e) w = refl

then_same : (a b c : BuilderState) → IsSameRun a b → IsSameRun b c → IsSameRun a c
then_same a b c ab bc = record {
  feeders = bc.feeders ∙ ab.feeders;
  batch = bc.batch ∙ ab.batch;
  book = bc.book ∙ ab.book;
  schema = bc.schema ∙ ab.schema;
  viewers = bc.viewers ∙ ab.viewers;
}

module _ (first before next : BuilderWorkState) (r : Result Taken NoMemory) (goes : KeepsWork first before) (takes : TakesNext before r next) where
  drawn_is : next.draws.drawn ≡ before.draws.drawn ++ takes.item ∷ []
  drawn_is = ap (λ (d : DrawState). d.drawn) takes.drawn

  -- taking an item goes on
  goes_taken : KeepsWork first next
  goes_taken = record {
    grown = IsPrefix-then first.draws.drawn before.draws.drawn next.draws.drawn goes.grown (takes.item ∷ [], drawn_is);
    draws = record {
      taken = takes.taken.counted ∙ (ap (λ (items : List Item). items ++ takes.item ∷ []) goes.draws.taken ∙ sym drawn_is);
      feeders = takes.taken.same.feeders ∙ (goes.draws.feeders ∙ sym (ap (λ (d : DrawState). d.feeders) takes.drawn));
      schema = takes.taken.same.schema ∙ (goes.draws.schema ∙ sym (ap (λ (d : DrawState). d.schema) takes.drawn));
    };
    end = record {
      lane = ap (λ (d : DrawState). d.lane) takes.drawn ∙ goes.end.lane;
      feeders = ap (λ (d : DrawState). d.feeders) takes.drawn ∙ goes.end.feeders;
      schema = ap (λ (d : DrawState). d.schema) takes.drawn ∙ goes.end.schema;
      room = ap (λ (d : DrawState). d.room) takes.drawn ∙ goes.end.room;
    };
    run = then_same first.builder before.builder next.builder goes.run takes.taken.same;
    keeps = takes.keeps;
    mails = subst (IsSameMails first.mails) (sym takes.mails) goes.mails;
  }

  -- and so does telling
  goes_told : KeepsWork first (having_answered r next)
  goes_told = let same = same_parts r next in record {
    grown = subst (λ (d : DrawState). IsPrefix first.draws.drawn d.drawn) (sym same.0) goes_taken.grown;
    draws = subst (λ (d : DrawState). DrawsFor d (having_answered r next).builder) (sym same.0) (subst (DrawsFor next.draws) (sym same.1) goes_taken.draws);
    end = subst (IsSameEnd first.draws) (sym same.0) goes_taken.end;
    run = subst (IsSameRun first.builder) (sym same.1) goes_taken.run;
    keeps = subst KeepsJournal (sym same.1) goes_taken.keeps;
    mails = record {
      names = same_mails (λ (m : InEnd). m.mailbox) (λ n m. refl) r next ∙ goes_taken.mails.names;
      pairs = same_mails (λ (m : InEnd). m.pair) (λ n m. refl) r next ∙ goes_taken.mails.pairs;
    };
  }

  -- what was answered and left by a builder that is not spent
  took : next.builder.spent ≡ false → Took before.builder takes.item r next.builder
  took open_ = took_open before.builder takes.item r next.builder takes.taken open_

  -- the Ends that are taken then
  ended_is : all_ended (having_answered r next).builder.feeders (having_answered r next).builder.taken ≡ all_ended before.builder.feeders (before.builder.taken ++ takes.item ∷ [])
  ended_is =
      ap (λ (b : BuilderState). all_ended b.feeders b.taken) (same_parts r next).1
      ∙ (ap (λ (n : ℕ). all_ended n next.builder.taken) takes.taken.same.feeders ∙ ap (all_ended before.builder.feeders) takes.taken.counted)

  -- what is so of what a builder that is not spent should have left and told, is so of what is left
  after_is : (P : BuilderState → List InEnd → Type 0) → Took before.builder takes.item r next.builder
      → (let w : BuilderWorkState = having_answered {E = NoMemory} (Ok (answer_of before.builder takes.item)) (work_state next.draws (having_taken before.builder takes.item) before.mails) in P w.builder w.mails)
      → P (having_answered r next).builder (having_answered r next).mails
  after_is P is so =
      let left : work_state next.draws (having_taken before.builder takes.item) before.mails ≡ next = λ j. work_state next.draws (sym is.left j) (sym takes.mails j) in
      subst (λ (x : Result Taken NoMemory). P (having_answered x next).builder (having_answered x next).mails) (sym is.answer)
      (subst (λ (w : BuilderWorkState). P (having_answered {E = NoMemory} (Ok (answer_of before.builder takes.item)) w).builder (having_answered {E = NoMemory} (Ok (answer_of before.builder takes.item)) w).mails) left so)

  open_next : (having_answered r next).builder.spent ≡ false → next.builder.spent ≡ false
  open_next open_ = ap (λ (b : BuilderState). b.spent) (sym (same_parts r next).1) ∙ open_

  -- while Ends are missing
  put_more : (before.builder.spent ≡ false → HasMultiples before.builder before.mails) → all_ended (having_answered r next).builder.feeders (having_answered r next).builder.taken ≡ false
      → (having_answered r next).builder.spent ≡ false → HasMultiples (having_answered r next).builder (having_answered r next).mails
  put_more put missing open_ =
      let is = took (open_next open_) in
      after_is HasMultiples is (goes_on before.builder before.mails next.draws goes.keeps is.open_ (put is.open_) takes.item (sym ended_is ∙ missing))

  -- an entry is not the last item
  no_entry : EachEnded (having_answered r next).builder.feeders (having_answered r next).builder.taken → (e : Entry) → takes.item ≡ One e → ⊥
  no_entry each e entry =
      let told : MayBeDrawn before.draws (One e) = subst (MayBeDrawn before.draws) entry takes.told in
      let taken : (having_answered r next).builder.taken ≡ before.builder.taken ++ One e ∷ [] = ap (λ (b : BuilderState). b.taken) (same_parts r next).1 ∙ (takes.taken.counted ∙ ap (λ (i : Item). before.builder.taken ++ i ∷ []) entry) in
      let few : e.feeder ≤ (having_answered r next).builder.feeders = subst (λ (n : ℕ). e.feeder ≤ n) (sym (goes_told.draws.feeders ∙ (goes_told.end.feeders ∙ sym goes.end.feeders))) told.from.1 in
      true≢false (sym (each e.feeder told.from.0 few) ∙ (ap (has_end e.feeder) taken ∙ (has_end_entry e.feeder before.builder.taken e ∙ (ap (has_end e.feeder) goes.draws.taken ∙ told.next.1))))

  -- once they are all there
  put_all : (before.builder.spent ≡ false → HasMultiples before.builder before.mails) → all_ended (having_answered r next).builder.feeders (having_answered r next).builder.taken ≡ true
      → EachEnded (having_answered r next).builder.feeders (having_answered r next).builder.taken
      → (having_answered r next).builder.spent ≡ false → HasTold (having_answered r next).builder (having_answered r next).mails
  put_all put all each open_ =
      let is = took (open_next open_) in
      after_is HasTold is (ends before.builder before.mails next.draws goes.keeps is.open_ (put is.open_) takes.item (no_entry each) (sym ended_is ∙ all))

put_nothing : (w : BuilderWorkState) → IsNewWork w → HasMultiples w.builder w.mails
put_nothing w new =
    let none : w.builder.journal ++ w.builder.pending ≡ [] = new.keeps.whole new.spent ∙ ap entries_in (new.draws.taken ∙ new.drawn) in
    let parts = length-append w.builder.journal w.builder.pending in
    let all = ap length none in
    let few = new.keeps.few new.spent in
    let empty : length w.builder.journal ≡ 0 = omega (arith, parts, all) in
    let some : 0 < w.builder.batch = omega (arith, few) in
    record {
      batches = 0;
      whole = empty ∙ sym (zero-mul w.builder.batch);
      put = All-weaker (λ (m : InEnd). m.lengths ≡ []) (λ (m : InEnd). m.lengths ≡ multiples_up_to w.builder.batch (length w.builder.journal)) (λ m is. is ∙ sym (multiples-none w.builder.batch (length w.builder.journal) some empty)) w.mails new.empty;
    }

-- a step more

steps-push : (before : BuilderWorkState) (works : List BuilderWorkState) (mid after : BuilderWorkState) → AreSteps before works mid → IsStep mid after → AreSteps before (works ++ after ∷ []) after
steps-push before [] mid after is step = (subst (λ (w : BuilderWorkState). IsStep w after) is step, refl)
steps-push before (next ∷ works) mid after is step = (is.0, steps-push next works mid after is.1 step)

come-step : (first before after : BuilderWorkState) → ComesBySteps first before → IsStep before after → ComesBySteps first after
come-step first before after come step = record { works = come.works ++ after ∷ []; each = steps-push first come.works before after come.each step }

-- what a work begins with is what no step has left
pub has_run-none : (w : BuilderWorkState) → IsNewWork w → IsBuilding w w
has_run-none w new = record {
  goes = record {
    grown = ([], sym (append-nil w.draws.drawn));
    draws = new.draws;
    end = record { lane = refl; feeders = refl; schema = refl; room = refl };
    run = record { feeders = refl; batch = refl; book = refl; schema = refl; viewers = refl };
    keeps = new.keeps;
    mails = record { names = refl; pairs = refl };
  };
  steps = record { works = []; each = refl };
  put = λ open_. put_nothing w new;
}

-- one step more, after which Ends are missing
pub has_run-step : (first before after : BuilderWorkState) → IsBuilding first before → IsStep before after → all_ended after.builder.feeders after.builder.taken ≡ false → IsBuilding first after
has_run-step first before after run step missing =
    let told : after ≡ having_answered step.answer step.next = step.tells in
    subst (IsBuilding first) (sym told) (record {
      goes = goes_told first before step.next step.answer run.goes step.takes;
      steps = subst (ComesBySteps first) told (come-step first before after run.steps step);
      put = put_more first before step.next step.answer run.goes step.takes run.put (subst (λ (w : BuilderWorkState). all_ended w.builder.feeders w.builder.taken ≡ false) told missing);
    })

-- what is left by steps after which every End is there
module _ (first after : BuilderWorkState) (goes : KeepsWork first after) (steps : ComesBySteps first after) (put : after.builder.spent ≡ false → HasTold after.builder after.mails) (each : EachEnded after.builder.feeders after.builder.taken) (all : all_ended after.builder.feeders after.builder.taken ≡ true) where
  built_of : IsBuilt first after
  built_of = record {
    steps = steps;
    grown = goes.grown;
    ended = subst (λ (n : ℕ). EachEnded n after.draws.drawn) goes.draws.feeders (subst (EachEnded after.builder.feeders) goes.draws.taken each);
    draws = goes.draws;
    end = goes.end;
    run = goes.run;
    keeps = goes.keeps;
    prefix = subst (λ (items : List Item). IsPrefix after.builder.journal (entries_in items)) goes.draws.taken (IsPrefix-then after.builder.journal (after.builder.journal ++ after.builder.pending) (entries_in after.builder.taken) (after.builder.pending, refl) goes.keeps.prefix);
    whole = λ open_. sym (append-nil after.builder.journal) ∙ (ap (λ (l : List Entry). after.builder.journal ++ l) (sym (goes.keeps.settled open_ all)) ∙ (goes.keeps.whole open_ ∙ ap entries_in goes.draws.taken));
    lengths = put;
    mails = goes.mails;
  }

-- the last step
pub is_built : (first before after : BuilderWorkState) → IsBuilding first before → IsStep before after → all_ended after.builder.feeders after.builder.taken ≡ true → EachEnded after.builder.feeders after.builder.taken → IsBuilt first after
is_built first before after run step all each =
    let told : after ≡ having_answered step.answer step.next = step.tells in
    let all_ : all_ended (having_answered step.answer step.next).builder.feeders (having_answered step.answer step.next).builder.taken ≡ true = subst (λ (w : BuilderWorkState). all_ended w.builder.feeders w.builder.taken ≡ true) told all in
    let each_ : EachEnded (having_answered step.answer step.next).builder.feeders (having_answered step.answer step.next).builder.taken = subst (λ (w : BuilderWorkState). EachEnded w.builder.feeders w.builder.taken) told each in
    subst (IsBuilt first) (sym told) (built_of first (having_answered step.answer step.next)
    (goes_told first before step.next step.answer run.goes step.takes)
    (subst (ComesBySteps first) told (come-step first before after run.steps step))
    (put_all first before step.next step.answer run.goes step.takes run.put all_ each_)
    each_ all_)
