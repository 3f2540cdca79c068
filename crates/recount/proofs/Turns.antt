-- Entries in turn, one after another.
use Rattle.std.proofs.Common.{◌≡◌, ◌≢◌, ℕ, ◌+◌, ◌≤◌, eq-eqb, ne_eqb, cond, ◌⊎◌, inl, inr, List, [], ◌∷◌, ◌++◌, length, refl, sym, ap, ◌∙◌, subst, append-nil, arith}
use Rattle.std.proofs.lemmas.Bool.{cases_eq}
use Rattle.std.proofs.lemmas.List.{length-map}
use Rattle.std.proofs.lemmas.List.Elements.{All-push}
use Rattle.cube_view.specs.Points.{Point}
use Rattle.cube_view.specs.declared.schema.Schema.{Schema}
use Rattle.feed_queue.specs.Journal.{IsEntryOf}
use Rattle.world_core.specs.Interleaving.{entry, numbered, entries_of, entry_points}
use Rattle.world_core.specs.declared.entry.Entry.{Entry}
use Rattle.world_core.proofs.Entries.{entries_of-append, entry_points-append, numbered-append, front_numbered}
use Rattle.recount.specs.Agreement.{AreJournalEntries}
use Rattle.recount.specs.Faults.{HasNextNumber}
use Rattle.recount.proofs.EntryTexts.{feeder_bounds}
use Rattle.world_core.proofs.Lists.{All-middle}

-- the entries are numbered from 0 on
abbrev IsNumbered : ℕ → List Entry → Type 0
IsNumbered f entries = entries ≡ numbered f 0 (entry_points entries)

numbered_push : (f : ℕ) (entries : List Entry) (e : Entry) → IsNumbered f entries → e.feeder ≡ f → e.number ≡ length entries → IsNumbered f (entries ++ e ∷ [])
numbered_push f entries e so_far feeder number =
    let points = entry_points entries in
    let count : e.number ≡ 0 + length points = let l = length-map entries (λ (e : Entry). e.point) in omega (arith, l, number) in
    let last : e ∷ [] ≡ numbered f (0 + length points) (e.point ∷ []) = λ i. entry (feeder i) (count i) e.point ∷ [] in
    (λ i. so_far i ++ last i)
    ∙ sym (numbered-append f 0 points (e.point ∷ []))
    ∙ ap (numbered f 0) (sym (entry_points-append entries (e ∷ [])))

-- the entries of a feeder, with one more at the end
own_push : (f : ℕ) (before : List Entry) (e : Entry) → e.feeder ≡ f → entries_of f (before ++ e ∷ []) ≡ entries_of f before ++ e ∷ []
own_push f before e is = entries_of-append f before (e ∷ []) ∙ ap (λ b. entries_of f before ++ cond b (e ∷ []) []) (eq-eqb e.feeder f is)

other_push : (f : ℕ) (before : List Entry) (e : Entry) → e.feeder ≢ f → entries_of f (before ++ e ∷ []) ≡ entries_of f before
other_push f before e other = entries_of-append f before (e ∷ []) ∙ ap (λ b. entries_of f before ++ cond b (e ∷ []) []) (ne_eqb e.feeder f other) ∙ append-nil (entries_of f before)

abbrev IsKnown : ℕ → Entry → Type 0
IsKnown feeders e = (1 ≤ e.feeder) × (e.feeder ≤ feeders)

module _ (schema : Schema) (feeders : ℕ) where
  -- no entries are in turn
  pub turn_none : AreJournalEntries schema feeders []
  turn_none = record {
    valid = λ k d less. absurd (omega arith);
    order = (λ f. [], record { known = λ k d less. absurd (omega arith); each = λ f low high. refl });
  }

  numbered_so_far : (before : List Entry) → AreJournalEntries schema feeders before → (f : ℕ) → 1 ≤ f → f ≤ feeders → IsNumbered f (entries_of f before)
  numbered_so_far before turn f low high = front_numbered f 0 (entries_of f before) [] (turn.order.0 f) (append-nil (entries_of f before) ∙ turn.order.1.each f low high)

  -- and one more that comes next
  pub turn_push : (before : List Entry) (e : Entry) → AreJournalEntries schema feeders before → IsEntryOf schema e → HasNextNumber feeders before e → AreJournalEntries schema feeders (before ++ e ∷ [])
  turn_push before e turn is next = record {
    valid = All-push (IsEntryOf schema) before e turn.valid is;
    order = (
      λ f. entry_points (entries_of f (before ++ e ∷ [])),
      record {
        known = All-push (IsKnown feeders) before e turn.order.1.known ((feeder_bounds schema e is).0, next.0);
        each = λ f low high. each_push f low high (cases_eq e.feeder f);
      },
    );
  }
    where
      each_push : (f : ℕ) → 1 ≤ f → f ≤ feeders → ((e.feeder ≡ f) ⊎ (e.feeder ≢ f)) → IsNumbered f (entries_of f (before ++ e ∷ []))
      each_push f low high (inl same) =
          subst (IsNumbered f) (sym (own_push f before e same))
          (numbered_push f (entries_of f before) e (numbered_so_far before turn f low high) same (next.1 ∙ ap (λ g. length (entries_of g before)) same))
      each_push f low high (inr other) = subst (IsNumbered f) (sym (other_push f before e other)) (numbered_so_far before turn f low high)

-- the number of an entry among those of its feeder
number_at : (f n : ℕ) (front : List Entry) (e : Entry) (more : List Entry) (points : List Point) → front ++ e ∷ more ≡ numbered f n points → e.number ≡ n + length front
number_at f n [] e more [] eq = cc
number_at f n [] e more (p ∷ points) eq = let first : e ≡ entry f n p = cc in let h = ap (λ (x : Entry). x.number) first in omega (arith, h)
number_at f n (g ∷ front) e more [] eq = cc
number_at f n (g ∷ front) e more (p ∷ points) eq =
    let rest : front ++ e ∷ more ≡ numbered f (n + 1) points = cc in
    let h = number_at f (n + 1) front e more points rest in
    omega (arith, h)

own_middle : (before : List Entry) (e : Entry) (more : List Entry) → entries_of e.feeder (before ++ e ∷ more) ≡ entries_of e.feeder before ++ e ∷ entries_of e.feeder more
own_middle before e more =
    entries_of-append e.feeder before (e ∷ more)
    ∙ ap (λ b. entries_of e.feeder before ++ cond b (e ∷ entries_of e.feeder more) (entries_of e.feeder more)) (eq-eqb e.feeder e.feeder refl)

-- each entry came next
pub turn_at : (schema : Schema) (feeders : ℕ) (before : List Entry) (e : Entry) (more : List Entry) → AreJournalEntries schema feeders (before ++ e ∷ more) → IsEntryOf schema e × HasNextNumber feeders before e
turn_at schema feeders before e more turn =
    let known = All-middle (IsKnown feeders) before e more turn.order.1.known in
    let own = turn.order.1.each e.feeder known.0 known.1 in
    (All-middle (IsEntryOf schema) before e more turn.valid, (known.1, number_at e.feeder 0 (entries_of e.feeder before) e (entries_of e.feeder more) (turn.order.0 e.feeder) (sym (own_middle before e more) ∙ own) ∙ omega arith))
