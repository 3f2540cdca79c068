-- The line of an entry has no line feed in it.
use Rattle.std.proofs.Common.{◌≡◌, ℕ, ◌+◌, ◌/◌, ◌%◌, ◌^◌, ◌≤◌, ◌<◌, ne_eqb, leb, IsTrue, List, [], ◌∷◌, ◌++◌, All, Option, Some, None, refl, sym, ap, ◌∙◌, subst, append_assoc, append-nil, arith}
use Rattle.std.proofs.lemmas.Bool.{and_parts, leb-true}
use Rattle.std.proofs.lemmas.Fmt.{decimal_by_steps}
use Rattle.std.proofs.lemmas.List.Elements.{All-head, All-tail}
use Rattle.std.specs.Fmt.{decimal}
use Rattle.cube_view.specs.Validity.{weight_is_told, sound}
use Rattle.cube_view.specs.declared.schema.Schema.{Schema}
use Rattle.feed_queue.specs.Journal.{number_text, entry_numbers, entry_text, entry_line, IsEntryOf, LinesArePrefixFree}
use Rattle.feed_queue.proofs.EntryNumbers.{parts, numbers_small}
use Rattle.texts.specs.LineFeeds.{NoFeed}
use Rattle.texts.proofs.LineFeeds.{NoFeed-append}
use Rattle.world_core.specs.declared.entry.Entry.{Entry}
use Rattle.recount.specs.Faults.{BeginsWithEntry}
use Rattle.recount.proofs.LinesApart.{same_first, no_line}

abbrev OneLine : ℕ → List ℕ → Type 0
OneLine n text = NoFeed text

digits_one : (n : ℕ) → n < 10 → OneLine n ((48 + n) ∷ [])
digits_one n low = (ne_eqb (48 + n) 10 (λ (e : 48 + n ≡ 10). omega arith), tt)

digits_more : (n : ℕ) (text : List ℕ) → 10 ≤ n → OneLine (n / 10) text → OneLine n (text ++ ((48 + n % 10) ∷ []))
digits_more n text high so_far = NoFeed-append text ((48 + n % 10) ∷ []) so_far (ne_eqb (48 + n % 10) 10 (λ (e : 48 + n % 10 ≡ 10). omega arith), tt)

NoFeed-decimal : (n : ℕ) → n < 2 ^ 32 → NoFeed (decimal n)
NoFeed-decimal n small = decimal_by_steps OneLine digits_one digits_more n (omega (arith, small))

abbrev small : ℕ → Type 0
small n = n < 2 ^ 32

NoFeed-numbers : (numbers : List ℕ) → All small numbers → NoFeed (number_text numbers)
NoFeed-numbers [] all = tt
NoFeed-numbers (n ∷ []) all = NoFeed-decimal n (All-head small n [] all)
NoFeed-numbers (n ∷ m ∷ numbers) all =
    NoFeed-append (decimal n) (32 ∷ number_text (m ∷ numbers)) (NoFeed-decimal n (All-head small n (m ∷ numbers) all)) (refl, NoFeed-numbers (m ∷ numbers) (All-tail small n (m ∷ numbers) all))

module _ (schema : Schema) (e : Entry) (is : IsEntryOf schema e) where
  -- its feeder is 1 to 8
  pub feeder_bounds : (1 ≤ e.feeder) × (e.feeder ≤ 8)
  feeder_bounds = let both = and_parts (leb 1 e.feeder) (leb e.feeder 8) (parts schema e is).0 in (leb-true 1 e.feeder both.0, leb-true e.feeder 8 both.1)

  -- and its point is sound
  pub point_sound : IsTrue (sound schema e.point)
  point_sound = (and_parts (sound schema e.point) (weight_is_told schema.weight e.point.weight) (parts schema e is).1).0

  pub NoFeed-entry : NoFeed (entry_text schema e)
  unfolding entry_text
  NoFeed-entry = NoFeed-numbers (entry_numbers schema e) (numbers_small schema e is)

module _ (schema : Schema) where
  -- a line with its line feed, and what follows
  pub line_split : (e : Entry) (x : List ℕ) → entry_line schema e ++ x ≡ entry_text schema e ++ (10 ∷ x)
  line_split e x = append_assoc (entry_text schema e) (10 ∷ []) x

  -- entries whose lines begin one text are one, and what follows is the same
  pub one_entry : LinesArePrefixFree → (a b : Entry) (x y : List ℕ) → IsEntryOf schema a → IsEntryOf schema b → entry_line schema a ++ x ≡ entry_line schema b ++ y → (a ≡ b) × (x ≡ y)
  one_entry prefix a b x y isa isb e =
      let both = same_first (entry_text schema a) (entry_text schema b) x y (NoFeed-entry schema a isa) (NoFeed-entry schema b isb) (sym (line_split a x) ∙ e ∙ line_split b y) in
      (prefix schema a b isa isb ([], ap (λ l. l ++ (10 ∷ [])) (sym both.0) ∙ sym (append-nil (entry_line schema a))), both.1)

  -- the line that was read is the entry's
  pub begins : (e : Entry) (text line rest : List ℕ) → text ≡ line ++ (10 ∷ rest) → line ≡ entry_text schema e → text ≡ entry_line schema e ++ rest
  begins e text line rest split is = split ∙ ap (λ l. l ++ (10 ∷ rest)) is ∙ sym (line_split e rest)

  -- a text without a line feed begins with no entry's line
  pub begins_none : (e : Entry) (text : List ℕ) → NoFeed text → BeginsWithEntry schema text e → ⊥
  begins_none e text none (is, (more, same)) = no_line (entry_text schema e) more (subst NoFeed (same ∙ line_split e more) none)

  -- the first line is the one that a text begins with
  pub begins_with : (e : Entry) (text line rest : List ℕ) → text ≡ line ++ (10 ∷ rest) → NoFeed line → BeginsWithEntry schema text e → line ≡ entry_text schema e
  begins_with e text line rest split none (is, (more, same)) =
      (same_first line (entry_text schema e) rest more none (NoFeed-entry schema e is) (sym split ∙ same ∙ line_split e more)).0

abbrev pub some_entry : Entry → Option Entry
some_entry e = Some e

pub no_entry : (e : Entry) → None ≡ some_entry e → ⊥
no_entry e is = cc
