-- A journal, read entry by entry.
use Rattle.std.proofs.Common.{◌≡◌, ℕ, zero, suc, ◌+◌, ◌-◌, ◌≤◌, IsTrue, List, [], ◌∷◌, ◌++◌, All, length, get_or, refl, sym, ap, ◌∙◌, append-nil, append_assoc, length-append, arith}
use Rattle.std.specs.Prelude.{⊤}
use Rattle.std.proofs.lemmas.Grind.{flat_map-append}
use Rattle.std.proofs.lemmas.List.Elements.{All-cons, All-head, All-tail}
use Rattle.cube_view.specs.Points.{Point}
use Rattle.cube_view.specs.Validity.{sound}
use Rattle.cube_view.specs.declared.schema.Schema.{Schema}
use Rattle.feed_queue.specs.Journal.{entry_text, entry_line, journal_text, IsEntryOf}
use Rattle.world_core.specs.Interleaving.{entry_points}
use Rattle.world_core.specs.declared.entry.Entry.{Entry}
use Rattle.world_core.proofs.Entries.{entry_points-append}
use Rattle.recount.specs.Agreement.{AreJournalEntries}
use Rattle.recount.specs.Counting.{AreCounts}
use Rattle.recount.specs.Faults.{HasNextNumber}
use Rattle.recount.proofs.EntryTexts.{point_sound, line_split}
use Rattle.recount.proofs.Turns.{turn_none, turn_push}

-- each of the numbers is 0
abbrev pub AreZero : List ℕ → Type 0
AreZero [] = ⊤
AreZero (n ∷ numbers) = (n ≡ 0) × AreZero numbers

pub zero_at : (numbers : List ℕ) → AreZero numbers → (i : ℕ) → get_or numbers i 0 ≡ 0
zero_at [] zeros i = refl
zero_at (n ∷ numbers) zeros zero = zeros.0
zero_at (n ∷ numbers) zeros (suc i) = zero_at numbers zeros.1 i

-- of no entries each feeder has none
pub counts_none : (counts : List ℕ) → ((i : ℕ) → get_or counts i 0 ≡ 0) → AreCounts counts []
counts_none counts zeros f low high = zeros (f - 1)

module _ (schema : Schema) (feeders : ℕ) (journal : List ℕ) where
  -- What was read so far
  pub record SoFar (points : List Point) (counts rest : List ℕ) : Type 0 where
    pub before : List Entry
    pub turn : AreJournalEntries schema feeders before
    pub text : journal ≡ journal_text schema before ++ rest
    pub points_are : points ≡ entry_points before
    pub counted : AreCounts counts before
    pub many : length points ≡ length before
    pub short : length points + length rest ≤ length journal

  pub so_far_none : (counts : List ℕ) → ((i : ℕ) → get_or counts i 0 ≡ 0) → SoFar [] counts journal
  so_far_none counts zeros = record { before = []; turn = turn_none schema feeders; text = refl; points_are = refl; counted = counts_none counts zeros; many = refl; short = omega arith }

  pub so_far_push : (points : List Point) (counts more rest later : List ℕ) (e : Entry) → (s : SoFar points counts rest) → IsEntryOf schema e → rest ≡ entry_line schema e ++ later → HasNextNumber feeders s.before e × AreCounts more (s.before ++ e ∷ []) → SoFar (points ++ e.point ∷ []) more later
  so_far_push points counts more rest later e s is begins (next, counted) = record {
    before = s.before ++ e ∷ [];
    turn = turn_push schema feeders s.before e s.turn is next;
    text =
        s.text ∙ ap (λ t. journal_text schema s.before ++ t) begins
        ∙ sym (append_assoc (journal_text schema s.before) (entry_line schema e) later)
        ∙ ap (λ t. t ++ later) (ap (λ t. journal_text schema s.before ++ t) (sym (append-nil (entry_line schema e))) ∙ sym (flat_map-append (entry_line schema) s.before (e ∷ [])));
    points_are = ap (λ l. l ++ e.point ∷ []) s.points_are ∙ sym (entry_points-append s.before (e ∷ []));
    counted = counted;
    many = let a = length-append points (e.point ∷ []) in let b = length-append s.before (e ∷ []) in let m = s.many in omega (arith, a, b, m);
    short =
        let a = length-append points (e.point ∷ []) in
        let b = ap length (begins ∙ line_split schema e later) in
        let c = length-append (entry_text schema e) (10 ∷ later) in
        let m = s.short in
        omega (arith, a, b, c, m);
  }

-- the points of a journal are sound
pub points_sound : (schema : Schema) (entries : List Entry) → All (IsEntryOf schema) entries → All (λ p. IsTrue (sound schema p)) (entry_points entries)
points_sound schema [] all = λ k d less. absurd (omega arith)
points_sound schema (e ∷ entries) all =
    All-cons (λ p. IsTrue (sound schema p)) e.point (entry_points entries) (point_sound schema e (All-head (IsEntryOf schema) e entries all)) (points_sound schema entries (All-tail (IsEntryOf schema) e entries all))
