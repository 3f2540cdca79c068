-- Counts that an audit keeps.
use Rattle.std.specs.Prelude.{◌≡◌, ℕ, ◌+◌, ◌-◌, ◌≤◌, Bool, true, false, List, [], ◌∷◌, ◌++◌, length, slice_index}
use Rattle.recount.specs.Faults.{HasNextNumber}
use Rattle.reply_json.specs.declared.reply.Reply.{Reply}
use Rattle.world_core.specs.Interleaving.{entries_of}
use Rattle.world_core.specs.declared.entry.Entry.{Entry}

-- 1 for the line for want of memory, else 0
abbrev pub lacking : Reply → ℕ
lacking (Reply.Table table) = 0
lacking (Reply.Stat stat seen) = 0
lacking (Reply.Told told) = 0
lacking (Reply.Fault fault word) = 0
lacking Reply.NoMemory = 1

-- how many of the replies are the line for want of memory
abbrev pub count_lacking : List Reply → ℕ
count_lacking [] = 0
count_lacking (reply ∷ replies) = lacking reply + count_lacking replies

-- the numbers are how many entries each of eight feeders has
abbrev pub AreCounts : List ℕ → List Entry → Type 0
AreCounts counts entries = (f : ℕ) → 1 ≤ f → f ≤ 8 → slice_index counts (f - 1) ≡ length (entries_of f entries)

-- whether an entry is counted after these: it is where its number is next, and then the numbers count it too
abbrev pub TakesNumber : ℕ → List Entry → Entry → List ℕ → Bool → Type 0
TakesNumber feeders before e counts true = HasNextNumber feeders before e × AreCounts counts (before ++ e ∷ [])
TakesNumber feeders before e counts false = ¬ HasNextNumber feeders before e
