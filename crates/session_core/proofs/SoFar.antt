-- A script answered turn by turn: the lines passed hold no `quit`, and the sink has gained their replies.
use Rattle.std.proofs.Common.{◌≡◌, ◌≢◌, ℕ, ◌≤◌, ◌<◌, Bool, true, false, ◌||◌, List, [], ◌∷◌, ◌++◌, length, Option, Some, None, ◌⊎◌, inl, inr, refl, sym, ◌∙◌, ap, subst, arith, append-nil, append_assoc, IsSomeAnd, IsErrOf, Err}
use Rattle.cube_view.specs.Bag.{Counts}
use Rattle.cube_view.specs.Points.{Point}
use Rattle.outer_io.specs.Cutting.{Cutter, lines_left, input_size}
use Rattle.outer_io.specs.Lines.{Line, input_limit}
use Rattle.outer_io.specs.Progress.{Passes, IsTooLarge, IsWithinLimit}
use Rattle.outer_io.specs.Told.{Told}
use Rattle.outer_io.proofs.ProgressLaws.{passes_none, passes_on}
use Rattle.outer_io.proofs.ToldLaws.{Told-each}
use Rattle.query_syntax.specs.declared.query.Parsed.{Parsed}
use Rattle.session_core.specs.Answered.{GainsNoted, PutsSomeOf, PutsAll, PutsFront, ReplyBasis}
use Rattle.session_core.specs.Answering.{NotesLack}
use Rattle.session_core.specs.Asked.{asked}
use Rattle.session_core.specs.Scripts.{has_quit, is_quit}
use Rattle.session_core.specs.Turns.{GoesOn, Stops}
use Rattle.session_core.specs.declared.fault.SessionFault.{SessionFault}
use Rattle.session_core.specs.declared.fault.SessionFault.TheVariants as fault
use Rattle.session_core.proofs.AskedLaws.{asked-append, asked-quit, has_quit-push, has_quit-at}
use Rattle.session_core.proofs.GainedReplies.{gained_none, gained_on, some_on, some_all, front_of}

size_kept : (a b : Option ℕ) (P : ℕ → Type 0) → Told a (λ n. b ≡ Some n) → Told b P → Told a P
size_kept a b P e p = Told-each a (λ n. b ≡ Some n) P (λ n is. subst (λ (o : Option ℕ). Told o P) is p) e

-- where some lines were passed, a claim of all is one of these and the ones after them
all_from : (before after : Option (List Line)) (xs : List Line) (P : List Line → Type 0) → ((rest : List Line) → P (xs ++ rest)) → Told before (λ all. IsSomeAnd after (λ rest. all ≡ xs ++ rest)) → Told before P
all_from None after xs P claim p = tt
all_from (Some all) None xs P claim p = absurd p
all_from (Some all) (Some rest) xs P claim p = subst P (sym p) (claim rest)

module _ {S : Type 0} (of : ReplyBasis) (lacked : Bool) (left : S → Option (List ℕ)) (faults : S → ℕ) where
  abbrev GainsOf : List Point → Option (List ℕ) → Option (List ℕ) → List Parsed → Type 0
  GainsOf h held now ps = GainsNoted of.schema (λ s. s ≡ of.numbers) h of.told lacked held now ps

  -- the lines passed so far, and what was gained for them
  pub record Answered (before after : Cutter S) (held now : Option (List ℕ)) : Type 0 where
    pub lines : List Line
    pub passed : Passes left faults before after lines
    pub no_quit : has_quit of.schema lines ≡ false
    pub gained : PutsAll of lacked held now lines

-- no more were told than there are points
few_of : (of : ReplyBasis) → of.told ≤ of.seen → (h : List Point) → Counts of.weight_at of.seen h → of.told ≤ length h
few_of of few h counts = omega (arith, few, counts.number)

module _ {S : Type 0} (of : ReplyBasis) (left : S → Option (List ℕ)) (faults : S → ℕ) (few : of.told ≤ of.seen) where
  pub answered_none : (c : Cutter S) (held : Option (List ℕ)) → Answered of false left faults c c held held
  answered_none c held = record { lines = []; passed = passes_none left faults c; no_quit = refl; gained = λ h counts. gained_none of.schema of.numbers h of.told (few_of of few h counts) held }

  answered_on : (l m : Bool) (a b c : Cutter S) (held mid now : Option (List ℕ)) → Answered of l left faults a b held mid → GoesOn left faults of.schema b c (PutsAll of m mid now) → Answered of (l || m) left faults a c held now
  answered_on l m a b c held mid now s (line, on, no_quit, gained) =
      record {
        lines = s.lines ++ line ∷ [];
        passed = passes_on left faults a b c s.lines (line ∷ []) s.passed on.passed;
        no_quit = has_quit-push of.schema s.lines line s.no_quit no_quit;
        gained = λ h counts.
            subst (λ ps. GainsOf of (l || m) left faults h held now ps) (sym (asked-append of.schema s.lines (line ∷ []) s.no_quit))
            (gained_on of.schema of.numbers h of.told (few_of of few h counts) l m held mid now (asked of.schema s.lines) (asked of.schema (line ∷ [])) (s.gained h counts) (gained h counts));
      }

  -- the same with one line more, whose reply is noted where it is the line for want of memory
  pub answered_next : (l l' : Bool) (a b c : Cutter S) (held mid now : Option (List ℕ)) → Answered of l left faults a b held mid → NotesLack l l' (λ lack. GoesOn left faults of.schema b c (PutsAll of lack mid now)) → Answered of l' left faults a c held now
  answered_next l l' a b c held mid now s (m, noted, next) = subst (λ lack. Answered of lack left faults a c held now) (sym noted) (answered_on l m a b c held mid now s next)

  -- the same where nothing was put and noted
  pub answered_same : (l l' : Bool) (a b : Cutter S) (held mid now : Option (List ℕ)) → Answered of l left faults a b held mid → (now ≡ mid) × (l' ≡ l) → Answered of l' left faults a b held now
  answered_same l l' a b held mid now s (e, noted) = subst (λ (o : Option (List ℕ)). Answered of l' left faults a b held o) (sym e) (subst (λ lack. Answered of lack left faults a b held mid) (sym noted) s)

  -- a part of all replies, wherever the turns end
  part_so_far : (l : Bool) (a b : Cutter S) (held now : Option (List ℕ)) → Answered of l left faults a b held now → Told (lines_left left a) (PutsFront of l held now)
  part_so_far l a b held now s =
      all_from (lines_left left a) (lines_left left b) s.lines (PutsFront of l held now)
      (λ rest h counts.
      front_of of.schema of.numbers h of.told (few_of of few h counts) l held now (asked of.schema (s.lines ++ rest)) (asked of.schema s.lines) (asked of.schema rest) (asked-append of.schema s.lines rest s.no_quit)
      (some_all of.schema of.numbers h of.told (few_of of few h counts) l held now (asked of.schema s.lines) (s.gained h counts)))
      s.passed.covers

  -- where they end with nothing put and noted
  pub part_at_stop : (l l' : Bool) (a b : Cutter S) (held mid now : Option (List ℕ)) → Answered of l left faults a b held mid → (now ≡ mid) × (l' ≡ l) → Told (lines_left left a) (PutsFront of l' held now)
  part_at_stop l l' a b held mid now s same = part_so_far l' a b held now (answered_same l l' a b held mid now s same)

  part_of_next : (l m : Bool) (a b c : Cutter S) (held mid now : Option (List ℕ)) → Answered of l left faults a b held mid → GoesOn left faults of.schema b c (PutsSomeOf of m mid now) → Told (lines_left left a) (PutsFront of (l || m) held now)
  part_of_next l m a b c held mid now s (line, on, no_quit, some) =
      let xs = s.lines ++ line ∷ [] in
      let none = has_quit-push of.schema s.lines line s.no_quit no_quit in
      all_from (lines_left left a) (lines_left left c) xs (PutsFront of (l || m) held now)
      (λ rest h counts.
      front_of of.schema of.numbers h of.told (few_of of few h counts) (l || m) held now (asked of.schema (xs ++ rest)) (asked of.schema s.lines ++ asked of.schema (line ∷ [])) (asked of.schema rest)
      (asked-append of.schema xs rest none ∙ ap (λ ps. ps ++ asked of.schema rest) (asked-append of.schema s.lines (line ∷ []) s.no_quit))
      (some_on of.schema of.numbers h of.told (few_of of few h counts) l m held mid now (asked of.schema s.lines) (asked of.schema (line ∷ [])) (s.gained h counts) (some h counts)))
      (passes_on left faults a b c s.lines (line ∷ []) s.passed on.passed).covers

  part_noted : (l l' : Bool) (a b c : Cutter S) (held mid now : Option (List ℕ)) → Answered of l left faults a b held mid → NotesLack l l' (λ lack. GoesOn left faults of.schema b c (PutsSomeOf of lack mid now)) → Told (lines_left left a) (PutsFront of l' held now)
  part_noted l l' a b c held mid now s (m, noted, next) = subst (λ lack. Told (lines_left left a) (PutsFront of lack held now)) (sym noted) (part_of_next l m a b c held mid now s next)

  pub part_at_fault : (l l' : Bool) (a b c : Cutter S) (held mid now : Option (List ℕ)) (f : SessionFault) → Answered of l left faults a b held mid → (f ≡ fault.Write → NotesLack l l' (λ lack. GoesOn left faults of.schema b c (PutsSomeOf of lack mid now))) → (f ≢ fault.Write → (now ≡ mid) × (l' ≡ l)) → Told (lines_left left a) (PutsFront of l' held now)
  part_at_fault l l' a b c held mid now fault.NoMemory s broken same = part_at_stop l l' a b held mid now s (same (λ e. cc))
  part_at_fault l l' a b c held mid now fault.Read s broken same = part_at_stop l l' a b held mid now s (same (λ e. cc))
  part_at_fault l l' a b c held mid now fault.Write s broken same = part_noted l l' a b c held mid now s (broken refl)
  part_at_fault l l' a b c held mid now fault.TooMuch s broken same = part_at_stop l l' a b held mid now s (same (λ e. cc))

  -- nothing was answered
  pub part_none : (held : Option (List ℕ)) (lines : List Line) → PutsFront of false held held lines
  part_none held lines h counts =
      front_of of.schema of.numbers h of.told (few_of of few h counts) false held held (asked of.schema lines) [] (asked of.schema lines) refl
      (some_all of.schema of.numbers h of.told (few_of of few h counts) false held held [] (gained_none of.schema of.numbers h of.told (few_of of few h counts) held))

module _ {S : Type 0} (of : ReplyBasis) (lacked : Bool) (left : S → Option (List ℕ)) (faults : S → ℕ) where
  -- all replies where no line is left
  all_at_end : (a b : Cutter S) (held now : Option (List ℕ)) → Answered of lacked left faults a b held now → Told (lines_left left b) (λ all. all ≡ []) → Told (lines_left left a) (λ all. PutsAll of lacked held now all × (has_quit of.schema all ≡ false))
  all_at_end a b held now s none = here (lines_left left a) (lines_left left b) s.passed.covers none
    where
      here : (x y : Option (List Line)) → Told x (λ all. IsSomeAnd y (λ rest. all ≡ s.lines ++ rest)) → Told y (λ all. all ≡ []) → Told x (λ all. PutsAll of lacked held now all × (has_quit of.schema all ≡ false))
      here None y p e = tt
      here (Some all) None p e = absurd p
      here (Some all) (Some rest) p e = subst (λ ls. PutsAll of lacked held now ls × (has_quit of.schema ls ≡ false)) (sym (p ∙ ap (λ ls. s.lines ++ ls) e ∙ append-nil s.lines)) (s.gained, s.no_quit)

  -- and at `quit`
  all_at_quit : (a b c : Cutter S) (held now : Option (List ℕ)) (line : Line) → Answered of lacked left faults a b held now → Passes left faults b c (line ∷ []) → is_quit of.schema line ≡ true → Told (lines_left left a) (λ all. PutsAll of lacked held now all × (has_quit of.schema all ≡ true))
  all_at_quit a b c held now line s on quit =
      all_from (lines_left left a) (lines_left left c) (s.lines ++ line ∷ []) (λ all. PutsAll of lacked held now all × (has_quit of.schema all ≡ true))
      (λ rest.
      let is = append_assoc s.lines (line ∷ []) rest in
      subst (λ ls. PutsAll of lacked held now ls × (has_quit of.schema ls ≡ true)) (sym is) (
        λ h counts. subst (λ ps. GainsOf of lacked left faults h held now ps) (sym (asked-quit of.schema s.lines line rest s.no_quit quit)) (s.gained h counts),
        has_quit-at of.schema s.lines line rest quit,
      ))
      (passes_on left faults a b c s.lines (line ∷ []) s.passed on).covers

  pub all_at_stop : (a b c : Cutter S) (held now : Option (List ℕ)) → Answered of lacked left faults a b held now → Stops left faults of.schema b c → Told (lines_left left a) (PutsAll of lacked held now)
  all_at_stop a b c held now s (inl e) = Told-each (lines_left left a) _ _ (λ all p. p.0) (all_at_end a b held now s e.covers)
  all_at_stop a b c held now s (inr (line, on, quit)) = Told-each (lines_left left a) _ _ (λ all p. p.0) (all_at_quit a b c held now line s on.passed quit)

  pub ended_at_stop : (a b c : Cutter S) (held now : Option (List ℕ)) → Answered of lacked left faults a b held now → Stops left faults of.schema b c → IsWithinLimit left a ⊎ Told (lines_left left a) (λ all. has_quit of.schema all ≡ true)
  ended_at_stop a b c held now s (inl e) = inl (size_kept (input_size left a) (input_size left b) (λ n. n ≤ input_limit) s.passed.size e.size)
  ended_at_stop a b c held now s (inr (line, on, quit)) = inr (Told-each (lines_left left a) _ _ (λ all p. p.1) (all_at_quit a b c held now line s on.passed quit))

  pub large_at_start : (a b : Cutter S) (held now : Option (List ℕ)) → Answered of lacked left faults a b held now → IsTooLarge left b → IsTooLarge left a
  large_at_start a b held now s large = size_kept (input_size left a) (input_size left b) (λ n. input_limit < n) s.passed.size large

  pub puts_at_end : (a b : Cutter S) (held now : Option (List ℕ)) → Answered of lacked left faults a b held now → Told (lines_left left b) (λ all. all ≡ []) → Told (lines_left left a) (PutsAll of lacked held now)
  puts_at_end a b held now s none = Told-each (lines_left left a) _ _ (λ all p. p.0) (all_at_end a b held now s none)

  pub no_quit_at_end : (a b : Cutter S) (held now : Option (List ℕ)) → Answered of lacked left faults a b held now → Told (lines_left left b) (λ all. all ≡ []) → Told (lines_left left a) (λ all. has_quit of.schema all ≡ false)
  no_quit_at_end a b held now s none = Told-each (lines_left left a) _ _ (λ all p. p.1) (all_at_end a b held now s none)

-- a fault is the one that it is said to be
pub fault_is : {T : Type 0} (f g : SessionFault) → IsErrOf {T = T} {E = SessionFault} (Err f) g → f ≡ g
fault_is f g e = cc

pub not_write : (f : SessionFault) → f ≡ fault.TooMuch → f ≢ fault.Write
not_write f is w = cc
