-- Sinks that are given back one after another.
use Rattle.std.proofs.Common.{◌≡◌, ◌≢◌, ℕ, List, [], ◌∷◌, ◌++◌, length, get_or, map, Option, Some, None, Result, Ok, Err, inl, inr, ◌⊎◌, refl, sym, ◌∙◌, ap, subst, arith, All, Bool, true, false, nat_lt, if◌then◌else◌}
use Rattle.std.specs.List.{AllPairs, AllZip, Contains, fold}
use Rattle.std.specs.FinMap.{get}
use Rattle.std.specs.Prelude.{IsSome, IsSomeAnd, OnOk}
use Rattle.std.proofs.lemmas.List.{map-append, get_or_append_left, length-append}
use Rattle.std.proofs.lemmas.List.Elements.{All-cons, All-contains, All-head, All-nil, All-tail, All-weaker, Contains-append_cases, Contains-append_left, Contains-append_right, Contains-push_cases}
use Rattle.std.proofs.lemmas.List.Sums.{fold-append}
use Rattle.outer_io.proofs.ToldLaws.{Told-each}
use Rattle.outer_io.specs.Asking.{CountsPart}
use Rattle.outer_io.specs.Faults.{Rose}
use Rattle.outer_io.specs.Files.{ChangesOnly, Files, HasFile, HasPart}
use Rattle.outer_io.specs.Told.{Told}
use Rattle.outer_io.specs.declared.fault.IoFault.{IoFault}
use Rattle.outer_io.specs.declared.fault.IoFault.TheVariants as fault
use Rattle.run_files.proofs.Apart.{none_not_some, ok_not_err, same_stop}
use Rattle.std.proofs.lemmas.Bool.{false≢true}
use Rattle.run_files.proofs.FaultRises.{counts_failed, counts_grow, rose_from_before, rose_later}
use Rattle.run_files.proofs.EmptyFiles.{empty_given, told_still}
use Rattle.run_files.proofs.Lists.{All-back, All-front, AllZip-more, in_one}
use Rattle.run_files.proofs.ScriptReads.{lacked_not_write}
use Rattle.run_files.proofs.Stages.{back_nil, KeepsOthers-itself, KeepsOthers-more, KeepsOthers-one}
use Rattle.run_files.specs.GivingBack.{Lands, TakesSinks}
use Rattle.run_files.specs.Leaving.{KeepsOthers}
use Rattle.run_files.specs.Outside.{PlaceSeen, SinkSeen}
use Rattle.run_files.specs.Scripted.{OpensScripts}
use Rattle.run_files.specs.Stops.{joined_ends, rank_of, write_end}
use Rattle.run_files.specs.declared.stop.Stop.{Stop}
use Rattle.run_files.specs.declared.stop.Stop.TheVariants.{NoMemory, PlanRefused, ReadFault, WriteFault, FeedRefused}

-- where two ends are joined_ends well both are well
both_well : (A B C : Type 0) (e : Result (Unit {0}) Stop) (r : Result (Unit {0}) IoFault) → OnOk e A → (r ≡ Ok tt → B) → (A → B → C) → OnOk (joined_ends e (write_end r)) C
both_well A B C (Ok x) (Ok y) a b step = step a (b refl)
both_well A B C (Ok x) (Err fault.Failed) a b step = tt
both_well A B C (Ok x) (Err fault.NoMemory) a b step = tt
both_well A B C (Err s) (Ok y) a b step = tt
both_well A B C (Err s) (Err fault.Failed) a b step = tt
both_well A B C (Err s) (Err fault.NoMemory) a b step = tt

-- which ends two joined_ends ones may have
joined_only : (k : Stop) (e : Result (Unit {0}) Stop) (r : Result (Unit {0}) IoFault) → k ≢ NoMemory → k ≢ WriteFault → e ≢ Err k → joined_ends e (write_end r) ≢ Err k
joined_only k (Ok x) (Ok y) m w other = λ is. cc
joined_only k (Ok x) (Err fault.Failed) m w other = λ is. w (cc)
joined_only k (Ok x) (Err fault.NoMemory) m w other = λ is. m (cc)
joined_only k (Err f) (Ok y) m w other = other
joined_only k (Err NoMemory) (Err fault.Failed) m w other = other
joined_only k (Err PlanRefused) (Err fault.Failed) m w other = other
joined_only k (Err ReadFault) (Err fault.Failed) m w other = other
joined_only k (Err WriteFault) (Err fault.Failed) m w other = other
joined_only k (Err FeedRefused) (Err fault.Failed) m w other = λ is. w (cc)
joined_only k (Err NoMemory) (Err fault.NoMemory) m w other = other
joined_only k (Err PlanRefused) (Err fault.NoMemory) m w other = λ is. m (cc)
joined_only k (Err ReadFault) (Err fault.NoMemory) m w other = λ is. m (cc)
joined_only k (Err WriteFault) (Err fault.NoMemory) m w other = λ is. m (cc)
joined_only k (Err FeedRefused) (Err fault.NoMemory) m w other = λ is. m (cc)

-- where two are joined_ends to a write fault one of them is
joined_write : (e : Result (Unit {0}) Stop) (r : Result (Unit {0}) IoFault) → joined_ends e (write_end r) ≡ Err WriteFault → (e ≡ Err WriteFault) ⊎ (r ≡ Err fault.Failed)
joined_write e (Err fault.Failed) is = inr refl
joined_write (Ok x) (Ok y) is = absurd (cc)
joined_write (Ok x) (Err fault.NoMemory) is = absurd (cc)
joined_write (Err f) (Ok y) is = inl is
joined_write (Err NoMemory) (Err fault.NoMemory) is = absurd (cc)
joined_write (Err PlanRefused) (Err fault.NoMemory) is = absurd (cc)
joined_write (Err ReadFault) (Err fault.NoMemory) is = absurd (cc)
joined_write (Err WriteFault) (Err fault.NoMemory) is = absurd (cc)
joined_write (Err FeedRefused) (Err fault.NoMemory) is = absurd (cc)

plan_not_lacked : PlanRefused ≢ NoMemory
plan_not_lacked e = cc

plan_not_write : PlanRefused ≢ WriteFault
plan_not_write e = cc

read_not_lacked : ReadFault ≢ NoMemory
read_not_lacked e = cc

read_no_write : ReadFault ≢ WriteFault
read_no_write e = cc

feed_not_lacked : FeedRefused ≢ NoMemory
feed_not_lacked e = cc

feed_not_write : FeedRefused ≢ WriteFault
feed_not_write e = cc

other_than : (name other : List ℕ) → name ≢ other → Contains (other ∷ []) name → ⊥
other_than name other apart within = apart (sym (in_one other name within))

-- what a sink's file has after it was given back it has after another one was given back
lands_later : (a b c : Option Files) (names : List (List ℕ)) (name other : List ℕ) (held : Option (List ℕ)) (r : Result (Unit {0}) IoFault) → IsSome a → KeepsOthers a b names → KeepsOthers b c (other ∷ []) → name ≢ other → Lands a b name held r → Lands a c name held r
lands_later None b c names name other held r told one two apart lands = absurd (false≢true told)
lands_later (Some fa) None c names name other held r told one two apart lands = absurd one
lands_later (Some fa) (Some fb) None names name other held r told one two apart lands = absurd two
lands_later (Some fa) (Some fb) (Some fc) names name other held (Ok x) told one two apart lands = Told-each held (HasFile (Some fb) name) (HasFile (Some fc) name) (λ bytes has. two name (other_than name other apart) ∙ has) lands
lands_later (Some fa) (Some fb) (Some fc) names name other held (Err fault.Failed) told one two apart lands = Told-each held (HasPart (Some fb) name) (HasPart (Some fc) name) (λ bytes part. (part.0, two name (other_than name other apart) ∙ part.1)) lands
lands_later (Some fa) (Some fb) (Some fc) names name other held (Err fault.NoMemory) told one two apart lands = two name (other_than name other apart) ∙ lands

-- what the last sink's file has by what it had before, it has by what it had before all
lands_last : (a b c : Option Files) (names : List (List ℕ)) (name : List ℕ) (held : Option (List ℕ)) (r : Result (Unit {0}) IoFault) → IsSome a → KeepsOthers a b names → KeepsOthers b c (name ∷ []) → (Contains names name → ⊥) → Lands b c name held r → Lands a c name held r
lands_last None b c names name held r told one two apart lands = absurd (false≢true told)
lands_last (Some fa) None c names name held r told one two apart lands = absurd one
lands_last (Some fa) (Some fb) None names name held r told one two apart lands = absurd two
lands_last (Some fa) (Some fb) (Some fc) names name held (Ok x) told one two apart lands = lands
lands_last (Some fa) (Some fb) (Some fc) names name held (Err fault.Failed) told one two apart lands = lands
lands_last (Some fa) (Some fb) (Some fc) names name held (Err fault.NoMemory) told one two apart lands = lands ∙ one name apart

told_itself : (files : Option Files) (name : List ℕ) → Told files (λ fs. IsSomeAnd files (λ now. get now name ≡ get fs name))
told_itself None name = tt
told_itself (Some files) name = refl

-- what giving one sink back says, as what its file has
pub lands_one : (b c : Option Files) (name : List ℕ) (held : Option (List ℕ)) (r : Result (Unit {0}) IoFault) → OnOk r (Told held (HasFile c name)) → (r ≡ Err fault.Failed → Told held (HasPart c name)) → (r ≡ Err fault.NoMemory → c ≡ b) → Lands b c name held r
lands_one b c name held (Ok x) holds part lacked = holds
lands_one b c name held (Err fault.Failed) holds part lacked = part refl
lands_one b c name held (Err fault.NoMemory) holds part lacked = subst (λ files. Told b (λ fs. IsSomeAnd files (λ now. get now name ≡ get fs name))) (sym (lacked refl)) (told_itself b name)

-- items of two lists that go together by one relation go together by another
AllZip-as : {A B : Type 0} (R Q : A → B → Type 0) (P : A → Type 0) → ((x : A) (y : B) → P x → R x y → Q x y) → (xs : List A) (ys : List B) → All P xs → AllZip R xs ys → AllZip Q xs ys
AllZip-as R Q P step [] [] all zip = tt
AllZip-as R Q P step [] (y ∷ ys) all zip = absurd zip
AllZip-as R Q P step (x ∷ xs) [] all zip = absurd zip
AllZip-as R Q P step (x ∷ xs) (y ∷ ys) all zip = (step x y (All-head P x xs all) zip.0, AllZip-as R Q P step xs ys (All-tail P x xs all) zip.1)

get_or-last : {X : Type 0} (xs : List X) (x d : X) → get_or (xs ++ x ∷ []) (length xs) d ≡ x
get_or-last [] x d = refl
get_or-last (y ∷ xs) x d = get_or-last xs x d

-- of names that differ each two, those before the last differ each two, and from the last
apart_front : (xs : List (List ℕ)) (x : List ℕ) → AllPairs (λ n m. n ≢ m) (xs ++ x ∷ []) → AllPairs (λ n m. n ≢ m) xs
apart_front xs x apart = λ i j d lt within same.
    apart i j d lt (rw length-append (omega (arith, within)))
    (get_or_append_left xs (x ∷ []) d i (omega (arith, lt, within)) ∙ (same ∙ sym (get_or_append_left xs (x ∷ []) d j within)))

apart_last : (xs : List (List ℕ)) (x : List ℕ) → AllPairs (λ n m. n ≢ m) (xs ++ x ∷ []) → All (λ n. n ≢ x) xs
apart_last xs x apart = λ i d within same.
    apart i (length xs) d within (rw length-append (omega arith))
    (get_or_append_left xs (x ∷ []) d i within ∙ (same ∙ sym (get_or-last xs x d)))

All-unmap : {X Y : Type 0} (P : X → Type 0) (f : Y → X) (ys : List Y) → All P (map f ys) → All (λ y. P (f y)) ys
All-unmap P f [] all = All-nil (λ y. P (f y))
All-unmap P f (y ∷ ys) all = All-cons (λ z. P (f z)) y ys (All-head P (f y) (map f ys) all) (All-unmap P f ys (All-tail P (f y) (map f ys) all))

not_nil : {X : Type 0} (xs : List X) (x : X) → xs ++ x ∷ [] ≡ [] → ⊥
not_nil [] x e = cc
not_nil (y ∷ xs) x e = cc

module _ {P O : Type 0} (p : PlaceSeen P) (s : SinkSeen O) where
  pub gives_none : (a : P) → TakesSinks p s a a [] (Ok tt)
  gives_none a = record {
    answers = [];
    one_each = refl;
    result_is = refl;
    lands = λ _ _. tt;
    others = KeepsOthers-itself _ [];
    still_empty = λ _ _ _ has. has;
    failed = λ h. absurd (omega (arith, h.1));
    met = λ sink h. absurd (omega (arith, h.1));
    quiet = λ _. refl;
    grows = omega arith;
    write = λ e. absurd (ok_not_err tt WriteFault e);
    only = (ok_not_err tt PlanRefused, ok_not_err tt ReadFault, ok_not_err tt FeedRefused);
    none = λ _. refl;
    read_faults = refl;
    opened = refl;
    created = refl;
  }

  -- one sink more is given back
  pub gives_more : (a b c : P) (sinks : List O) (last : O) (e : Result (Unit {0}) Stop) (r : Result (Unit {0}) IoFault) → TakesSinks p s a b sinks e
      → Lands (p.files b) (p.files c) (s.name last) (s.held last) r → ChangesOnly (p.files b) (p.files c) (s.name last) → CountsPart (p.write_faults b) (p.write_faults c) (s.faults last) r
      → p.created c ≡ p.created b → (p.read_faults c ≡ p.read_faults b) × (p.opened c ≡ p.opened b) → TakesSinks p s a c (sinks ++ last ∷ []) (joined_ends e (write_end r))
  gives_more a b c sinks last e r one lands others counts created reading =
      let grow = counts_grow (p.write_faults b) (p.write_faults c) (s.faults last) r counts in
      let names : map s.name (sinks ++ last ∷ []) ≡ map s.name sinks ++ s.name last ∷ [] = map-append s.name sinks (last ∷ []) in
      let kept = KeepsOthers-one (p.files b) (p.files c) (s.name last) others in
      record {
        answers = one.answers ++ r ∷ [];
        one_each = omega (arith, length-append one.answers (r ∷ []), length-append sinks (last ∷ []), one.one_each);
        result_is = ap (λ (k : Result (Unit {0}) Stop). joined_ends k (write_end r)) one.result_is ∙ sym (ap (fold joined_ends (Ok tt)) (map-append write_end one.answers (r ∷ [])) ∙ fold-append joined_ends (Ok tt) (map write_end one.answers) (write_end r ∷ []));
        lands = λ told apart.
            let far = subst (λ (ns : List (List ℕ)). AllPairs (λ n m. n ≢ m) ns) names apart in
            let others_far = apart_last (map s.name sinks) (s.name last) far in
            AllZip-more (λ sink answer. Lands (p.files a) (p.files c) (s.name sink) (s.held sink) answer) sinks one.answers last r
            (AllZip-as (λ sink answer. Lands (p.files a) (p.files b) (s.name sink) (s.held sink) answer) (λ sink answer. Lands (p.files a) (p.files c) (s.name sink) (s.held sink) answer) (λ sink. s.name sink ≢ s.name last)
            (λ sink answer far_off. lands_later (p.files a) (p.files b) (p.files c) (map s.name sinks) (s.name sink) (s.name last) (s.held sink) answer told one.others kept far_off)
            sinks one.answers (All-unmap (λ n. n ≢ s.name last) s.name sinks others_far) (one.lands told (apart_front (map s.name sinks) (s.name last) far)))
            (lands_last (p.files a) (p.files b) (p.files c) (map s.name sinks) (s.name last) (s.held last) r told one.others kept (λ within. All-contains (λ n. n ≢ s.name last) (map s.name sinks) (s.name last) others_far within refl) lands);
        others = subst (λ (ns : List (List ℕ)). KeepsOthers (p.files a) (p.files c) ns) (sym names) (KeepsOthers-more (p.files a) (p.files b) (p.files c) (map s.name sinks) (s.name last ∷ []) one.others kept);
        still_empty = λ told hold name has.
            let front = All-front (λ sink. s.held sink ≡ Some []) sinks (last ∷ []) hold in
            let end = All-head (λ sink. s.held sink ≡ Some []) last [] (All-back (λ sink. s.held sink ≡ Some []) sinks (last ∷ []) hold) in
            empty_given (p.files b) (p.files c) (s.name last) name (s.held last) r (told_still (p.files a) (p.files b) (map s.name sinks) one.others told) end kept lands (one.still_empty told front name has);
        failed = λ h. elim (Contains-push_cases one.answers r (Err fault.Failed) h) [ inl before ↦ rose_later _ _ _ (one.failed before) grow | inr now ↦ rose_from_before _ _ _ one.grows (counts_failed (p.write_faults b) (p.write_faults c) (s.faults last) r now counts) ];
        met = λ sink h rose. elim (Contains-push_cases sinks last sink h) [ inl before ↦ rose_later _ _ _ (one.met sink before rose) grow | inr now ↦ rose_from_before _ _ _ one.grows (counts.rose (subst (λ (k : O). Rose 0 (s.faults k)) (sym now) rose)) ];
        quiet = both_well (All (λ sink. s.faults sink ≡ 0) sinks → p.write_faults b ≡ p.write_faults a) (s.faults last ≡ 0 → p.write_faults c ≡ p.write_faults b) (All (λ sink. s.faults sink ≡ 0) (sinks ++ last ∷ []) → p.write_faults c ≡ p.write_faults a) e r one.quiet
            (λ well none. (counts.cause none).quiet (λ bad. ok_not_err tt fault.Failed (sym well ∙ bad)))
            (λ first next all. next (All-head (λ sink. s.faults sink ≡ 0) last [] (All-back (λ sink. s.faults sink ≡ 0) sinks (last ∷ []) all)) ∙ first (All-front (λ sink. s.faults sink ≡ 0) sinks (last ∷ []) all));
        grows = omega (arith, one.grows, grow);
        write = λ is. elim (joined_write e r is) [ inl before ↦ rose_later _ _ _ (one.write before) grow | inr now ↦ rose_from_before _ _ _ one.grows (counts_failed (p.write_faults b) (p.write_faults c) (s.faults last) r now counts) ];
        only = (joined_only PlanRefused e r plan_not_lacked plan_not_write one.only.0, joined_only ReadFault e r read_not_lacked read_no_write one.only.1, joined_only FeedRefused e r feed_not_lacked feed_not_write one.only.2);
        none = λ h. absurd (not_nil sinks last h);
        read_faults = reading.0 ∙ one.read_faults;
        opened = reading.1 ∙ one.opened;
        created = created ∙ one.created;
      }

-- the names of sinks that were given back are of those that were created
KeepsOthers-fewer : (before after : Option Files) (names fewer : List (List ℕ)) → ((n : List ℕ) → Contains fewer n → Contains names n) → KeepsOthers before after (names ++ fewer) → KeepsOthers before after names
KeepsOthers-fewer None after names fewer within kept = tt
KeepsOthers-fewer (Some files) None names fewer within kept = absurd kept
KeepsOthers-fewer (Some files) (Some now) names fewer within kept = λ other apart. kept other (λ c. elim (Contains-append_cases names fewer other c) [ inl here ↦ apart here | inr there ↦ apart (within other there) ])

-- where a list with these behind it is the list with those behind it, they are the same
cancel : {A : Type 0} (xs ys zs : List A) → xs ++ ys ≡ xs ++ zs → ys ≡ zs
cancel [] ys zs e = e
cancel (x ∷ xs) ys zs e = cancel xs ys zs (cc)

front_of_nil : {A B : Type 0} (f : A → B) (xs : List A) (rest : List B) → map f xs ++ rest ≡ [] → xs ≡ []
front_of_nil f [] rest e = refl
front_of_nil f (x ∷ xs) rest e = cc

abbrev ends_err : Stop → Result (Unit {0}) Stop
ends_err k = Err k

one_of : (b : Bool) (x y : Stop) → ((if b then x else y) ≡ y) ⊎ ((if b then x else y) ≡ x)
one_of true x y = inr refl
one_of false x y = inl refl

only_two : (k : Stop) → k ≢ PlanRefused → k ≢ FeedRefused → k ≢ ReadFault → (k ≡ NoMemory) ⊎ (k ≡ WriteFault)
only_two NoMemory p f r = inl refl
only_two PlanRefused p f r = absurd (p refl)
only_two ReadFault p f r = absurd (r refl)
only_two WriteFault p f r = inr refl
only_two FeedRefused p f r = absurd (f refl)

write_or_not : (k : Stop) → (k ≡ WriteFault) ⊎ (k ≢ WriteFault)
write_or_not NoMemory = inr (λ e. cc)
write_or_not PlanRefused = inr (λ e. cc)
write_or_not ReadFault = inr (λ e. cc)
write_or_not WriteFault = inl refl
write_or_not FeedRefused = inr (λ e. cc)

-- want of memory is answered before all others
lacked_stays : (gave : Result (Unit {0}) Stop) → joined_ends (Err NoMemory) gave ≡ Err NoMemory
lacked_stays (Ok x) = refl
lacked_stays (Err NoMemory) = refl
lacked_stays (Err PlanRefused) = refl
lacked_stays (Err ReadFault) = refl
lacked_stays (Err WriteFault) = refl
lacked_stays (Err FeedRefused) = refl

same_end : (a b : Stop) → ends_err a ≡ ends_err b → a ≡ b
same_end a b e = cc

-- how a stage ends that creates, after what it created was given back
pub ends_with : (stop stop' : Stop) (gave : Result (Unit {0}) Stop) → joined_ends (Err stop) gave ≡ Err stop' → (stop ≡ stop') ⊎ (gave ≡ Err stop')
ends_with stop stop' (Ok x) e = inl (same_end stop stop' e)
ends_with stop stop' (Err f) e = elim (one_of (nat_lt (rank_of f) (rank_of stop)) f stop) [ inl one ↦ inl (sym one ∙ same_end _ stop' e) | inr other ↦ inr (ap (λ k. Err k) (sym other ∙ same_end _ stop' e)) ]

module _ {P O : Type 0} (p : PlaceSeen P) (s : SinkSeen O) where
  -- a stage that creates and ends the run gives back what it created, and leaves what it left, by how both ended
  pub creates_given_back : (a b c : P) (names first rest : List (List ℕ)) (sinks : List O) (stop stop' : Stop) (gave : Result (Unit {0}) Stop) → OpensScripts p a b [] names (Some stop) → TakesSinks p s b c sinks gave
      → p.created b ≡ p.created a ++ (first ++ (map s.name sinks ++ rest)) → (IsSome (p.files a) → All (λ sink. s.held sink ≡ Some []) sinks) → stop ≢ ReadFault → joined_ends (Err stop) gave ≡ Err stop' → OpensScripts p a c [] names (Some stop')
  creates_given_back a b c names first rest sinks stop stop' gave one back made hold no_read is =
      let makes : one.leaves.makes ≡ first ++ (map s.name sinks ++ rest) = cancel (p.created a) one.leaves.makes (first ++ (map s.name sinks ++ rest)) (sym one.leaves.created ∙ made) in
      let nothing : one.leaves.makes ≡ [] → c ≡ b = λ e. back.none (front_of_nil s.name sinks rest (back_nil first (map s.name sinks ++ rest) (sym makes ∙ e))) in
      let ended = ends_with stop stop' gave is in
      let read' : stop' ≢ ReadFault = λ e. elim ended [ inl one_end ↦ no_read (one_end ∙ e) | inr second ↦ back.only.1 (second ∙ ap (λ k. Err k) e) ] in
      let plan' : stop' ≢ PlanRefused = λ e. elim ended [ inl one_end ↦ one.ends.0 (ap (λ k. Some k) (one_end ∙ e)) | inr second ↦ back.only.0 (second ∙ ap (λ k. Err k) e) ] in
      let feed' : stop' ≢ FeedRefused = λ e. elim ended [ inl one_end ↦ one.ends.1 (ap (λ k. Some k) (one_end ∙ e)) | inr second ↦ back.only.2 (second ∙ ap (λ k. Err k) e) ] in
      let reads : p.read_faults c ≡ p.read_faults a = back.read_faults ∙ one.leaves.read_quiet (λ e. no_read (same_stop _ _ e)) in
      record {
        leaves = record {
          opens = one.leaves.opens;
          unopened = one.leaves.unopened;
          inputs_are = one.leaves.inputs_are;
          opened = back.opened ∙ one.leaves.opened;
          opens_all = λ e. absurd (none_not_some _ (sym e));
          makes = one.leaves.makes;
          unmade = one.leaves.unmade;
          outputs_are = one.leaves.outputs_are;
          created = back.created ∙ one.leaves.created;
          makes_all = λ e. absurd (none_not_some _ (sym e));
          opens_first = one.leaves.opens_first;
          read_first = λ e. absurd (read' (same_stop _ _ e));
          emptied = λ quiet told.
              let unrisen : ¬ Rose (p.write_faults a) (p.write_faults b) = λ rose. quiet (λ e. none_not_some _ (sym e)) (rose_later _ _ _ rose back.grows) in
              All-weaker (λ n. HasFile (p.files b) n []) (λ n. HasFile (p.files c) n []) (λ n has. back.still_empty (told_still (p.files a) (p.files b) one.leaves.makes one.leaves.others told) (hold told) n has) one.leaves.makes
              (one.leaves.emptied (λ _. unrisen) told);
          read = λ e. absurd (read' (same_stop _ _ e));
          read_quiet = λ _. reads;
          unwritten = λ e. ap p.write_faults (nothing e) ∙ one.leaves.unwritten e;
          write_quiet = λ w m. elim (only_two stop' plan' feed' read') [ inl lacked ↦ absurd (m (ap (λ k. Some k) lacked)) | inr write ↦ absurd (w (ap (λ k. Some k) write)) ];
          untouched = λ e. ap p.files (nothing e) ∙ one.leaves.untouched e;
          others = KeepsOthers-fewer (p.files a) (p.files c) one.leaves.makes (map s.name sinks) (λ n within. subst (λ (ns : List (List ℕ)). Contains ns n) (sym makes) (Contains-append_right first (map s.name sinks ++ rest) n (Contains-append_left (map s.name sinks) rest n within)))
              (KeepsOthers-more (p.files a) (p.files b) (p.files c) one.leaves.makes (map s.name sinks) one.leaves.others back.others);
        };
        first = λ e. absurd (read' (same_stop _ _ e));
        made = one.made;
        write = λ e.
            let end = same_stop _ _ e in
            elim (write_or_not stop) [
              | inl wrote ↦ rose_later _ _ _ (one.write (ap (λ k. Some k) wrote)) back.grows
              | inr other ↦ elim ended [
                | inl one_end ↦ absurd (other (one_end ∙ end))
                | inr second ↦ subst (λ n. Rose n (p.write_faults c))
                    (one.leaves.write_quiet (λ w. other (same_stop _ _ w)) (λ m. lacked_not_write (ap (λ k. Some k) (same_end NoMemory WriteFault (sym (lacked_stays gave) ∙ (subst (λ (k : Stop). joined_ends (Err k) gave ≡ Err stop') (same_stop _ _ m) is ∙ ap (λ k. Err k) end))))))
                    (back.write (second ∙ ap (λ k. Err k) end))
              ]
            ];
        ends = (λ e. plan' (same_stop _ _ e), λ e. feed' (same_stop _ _ e));
      }
