-- A journal is one of entries at most, or its first fault is one.
use Rattle.std.proofs.Common.{◌≡◌, ℕ, List, [], ◌∷◌, ◌++◌, length, inl, inr, refl, sym, ap, ◌∙◌, subst, append-nil, arith}
use Rattle.cube_view.specs.declared.schema.Schema.{Schema}
use Rattle.feed_queue.specs.Journal.{entry_text, entry_line, journal_text, IsEntryOf, LinesArePrefixFree}
use Rattle.world_core.specs.declared.entry.Entry.{Entry}
use Rattle.recount.specs.Agreement.{AreJournalEntries, IsJournalOf}
use Rattle.recount.specs.Faults.{HasNextNumber, JournalFails, JournalDiffers}
use Rattle.recount.specs.declared.verdict.Why.{Why}
use Rattle.recount.specs.declared.verdict.Why.TheVariants.{NotEntry, WrongNumber, TooFew, TooMany, NotReply, PastEnd, Fell, Wrong}
use Rattle.recount.proofs.EntryTexts.{one_entry, line_split}
use Rattle.recount.proofs.LinesApart.{not_empty}
use Rattle.recount.proofs.Turns.{turn_at}
use Rattle.recount.proofs.TwoFronts.{meet, Each-All}

module _ (schema : Schema) (feeders : ℕ) (prefix : LinesArePrefixFree) where
  -- a line after which the entries go on in turn is at no fault
  next_agrees : (before : List Entry) (e : Entry) (more : List Entry) (later rest : List ℕ) (why : Why) → AreJournalEntries schema feeders (before ++ e ∷ more) → rest ≡ entry_line schema e ++ later → JournalFails schema feeders before rest why → ⊥
  next_agrees before e more later rest NotEntry turn is (some, none) = none e ((turn_at schema feeders before e more turn).0, (later, is))
  next_agrees before e more later rest WrongNumber turn is (other, (other_is, (z, begins)), never) =
      let next = turn_at schema feeders before e more turn in
      let same = (one_entry schema prefix e other later z next.0 other_is (sym is ∙ begins)).0 in
      never (subst (HasNextNumber feeders before) same next.1)
  next_agrees before e more later rest TooFew turn is fails = fails
  next_agrees before e more later rest TooMany turn is fails = fails
  next_agrees before e more later rest NotReply turn is fails = fails
  next_agrees before e more later rest PastEnd turn is fails = fails
  next_agrees before e more later rest Fell turn is fails = fails
  next_agrees before e more later rest Wrong turn is fails = fails

  line_there : (e : Entry) (z rest : List ℕ) → rest ≡ entry_line schema e ++ z → rest ≡ [] → ⊥
  line_there e z rest is none = not_empty (entry_text schema e) z rest (is ∙ line_split schema e z) none

  -- nor is the end
  end_agrees : (before : List Entry) (rest : List ℕ) (why : Why) → rest ≡ [] → JournalFails schema feeders before rest why → ⊥
  end_agrees before rest NotEntry none (some, other) = some none
  end_agrees before rest WrongNumber none (e, (is, (z, begins)), never) = line_there e z rest begins none
  end_agrees before rest TooFew none fails = fails
  end_agrees before rest TooMany none fails = fails
  end_agrees before rest NotReply none fails = fails
  end_agrees before rest PastEnd none fails = fails
  end_agrees before rest Fell none fails = fails
  end_agrees before rest Wrong none fails = fails

  one_why : (before : List Entry) (rest : List ℕ) (a b : Why) → JournalFails schema feeders before rest a → JournalFails schema feeders before rest b → a ≡ b
  one_why before rest NotEntry NotEntry h k = refl
  one_why before rest NotEntry WrongNumber (some, none) (e, begins, never) = absurd (none e begins)
  one_why before rest NotEntry _ h k = absurd k
  one_why before rest WrongNumber NotEntry (e, begins, never) (some, none) = absurd (none e begins)
  one_why before rest WrongNumber WrongNumber h k = refl
  one_why before rest WrongNumber _ h k = absurd k
  one_why before rest TooFew b h k = absurd h
  one_why before rest TooMany b h k = absurd h
  one_why before rest NotReply b h k = absurd h
  one_why before rest PastEnd b h k = absurd h
  one_why before rest Fell b h k = absurd h
  one_why before rest Wrong b h k = absurd h

  -- a journal is of one list of entries
  pub one_journal : (journal : List ℕ) (a b : List Entry) → IsJournalOf schema feeders journal a → IsJournalOf schema feeders journal b → a ≡ b
  one_journal journal a b (ta, ea) (tb, eb) =
      elim (meet (entry_line schema) (IsEntryOf schema) (one_entry schema prefix) a b [] [] (Each-All (IsEntryOf schema) a ta.valid) (Each-All (IsEntryOf schema) b tb.valid) (ap (λ t. t ++ []) (sym ea ∙ eb))) [
        | inl (same, e) ↦ same
        | inr (inl g) ↦ absurd (line_there g.item g.later [] g.text refl)
        | inr (inr g) ↦ absurd (line_there g.item g.later [] g.text refl)
      ]

  -- and where it is one, it has no fault
  pub agrees_or_differs : (journal : List ℕ) (a : List Entry) (line : ℕ) (why : Why) → IsJournalOf schema feeders journal a → JournalDiffers schema feeders journal line why → ⊥
  agrees_or_differs journal a line why (turn, text) d =
      elim (meet (entry_line schema) (IsEntryOf schema) (one_entry schema prefix) d.before a d.rest [] (Each-All (IsEntryOf schema) d.before d.agrees.valid) (Each-All (IsEntryOf schema) a turn.valid) (sym d.front ∙ text ∙ sym (append-nil (journal_text schema a)))) [
        | inl (same, none) ↦ end_agrees d.before d.rest why none d.fails
        | inr (inl g) ↦ next_agrees d.before g.item g.more g.later d.rest why (subst (AreJournalEntries schema feeders) g.list turn) g.text d.fails
        | inr (inr g) ↦ line_there g.item g.later [] g.text refl
      ]

  -- it has one first fault
  pub one_difference : (journal : List ℕ) (line other : ℕ) (why cause : Why) → JournalDiffers schema feeders journal line why → JournalDiffers schema feeders journal other cause → (line ≡ other) × (why ≡ cause)
  one_difference journal line other why cause d c =
      elim (meet (entry_line schema) (IsEntryOf schema) (one_entry schema prefix) d.before c.before d.rest c.rest (Each-All (IsEntryOf schema) d.before d.agrees.valid) (Each-All (IsEntryOf schema) c.before c.agrees.valid) (sym d.front ∙ c.front)) [
        | inl (same, rest) ↦
            let k : length d.before ≡ length c.before = ap length same in
            let moved : JournalFails schema feeders c.before d.rest why = subst (λ (l : List Entry). JournalFails schema feeders l d.rest why) same d.fails in
            let again : JournalFails schema feeders c.before c.rest why = subst (λ (r : List ℕ). JournalFails schema feeders c.before r why) rest moved in
            (let l = d.counted in let m = c.counted in omega (arith, k, l, m), one_why c.before c.rest why cause again c.fails)
        | inr (inl g) ↦ absurd (next_agrees d.before g.item g.more g.later d.rest why (subst (AreJournalEntries schema feeders) g.list c.agrees) g.text d.fails)
        | inr (inr g) ↦ absurd (next_agrees c.before g.item g.more g.later c.rest cause (subst (AreJournalEntries schema feeders) g.list d.agrees) g.text c.fails)
      ]
