-- Final transcripts: the order of their replies need not be shown.
use Rattle.std.proofs.Common.{ℕ, ◌≤◌, Bool, true, List, [], ◌∷◌, length, inl, inr, sym, subst, max, arith}
use Rattle.cube_view.specs.Points.{Point}
use Rattle.cube_view.specs.declared.schema.Schema.{Schema}
use Rattle.cube_view.specs.declared.stat.Stat.{Stat}
use Rattle.query_syntax.specs.declared.query.Parsed.{Parsed}
use Rattle.reply_json.specs.declared.reply.Reply.{Reply}
use Rattle.session_core.specs.Transcript.{MayCome, NeverFalls, MayPrint, Answers, AllAnswered, IsTranscript, seen_in, told_in}
use Rattle.session_core.proofs.Transcripts.{answer_seen}

-- final replies over a list of which no more than all was told never fall
module _ (schema : Schema) (is_stat : Stat → Type 0) (lacks : Bool) (l : List Point) (u : ℕ) (few : u ≤ length l) where
  final_comes : (seen told : ℕ) (reply : Reply) → seen ≤ length l → told ≤ u → MayPrint schema is_stat true l u reply → MayCome seen told reply
  final_comes seen told (Reply.Table table) p q m = (omega (arith, p, m), omega (arith, q, m, few))
  final_comes seen told (Reply.Stat stat n) p q m = (omega (arith, p, m.0), omega (arith, q, m.0, few))
  final_comes seen told (Reply.Told n) p q m = omega (arith, q, m)
  final_comes seen told (Reply.Fault fault word) p q m = tt
  final_comes seen told Reply.NoMemory p q m = tt

  answer_comes : (seen told : ℕ) (p : Parsed) (reply : Reply) → seen ≤ length l → told ≤ u → Answers schema is_stat true l u lacks p reply → MayCome seen told reply
  answer_comes seen told p reply s t (inl r) = final_comes seen told reply s t r.numbers
  answer_comes seen told p reply s t (inr r) = subst (MayCome seen told) (sym r.1) tt

  final_falls : (ps : List Parsed) (replies : List Reply) (seen told : ℕ) → seen ≤ length l → told ≤ u → AllAnswered schema is_stat true l u lacks ps replies → NeverFalls seen told replies
  final_falls [] [] seen told s t all = tt
  final_falls [] (reply ∷ replies) seen told s t all = absurd all
  final_falls (p ∷ ps) [] seen told s t all = absurd all
  final_falls (p ∷ ps) (reply ∷ replies) seen told s t all =
      let within = answer_seen schema is_stat lacks true l u p reply all.0 in
      (answer_comes seen told p reply s t all.0, final_falls ps replies (max seen (seen_in reply)) (max told (told_in reply)) (omega (arith, s, within.0)) (omega (arith, t, within.1)) all.1)

  -- so their order need not be shown
  pub final_transcript : (ps : List Parsed) (replies : List Reply) → AllAnswered schema is_stat true l u lacks ps replies → IsTranscript schema is_stat true l u lacks ps replies
  final_transcript ps replies all = record { each = all; order = final_falls ps replies 0 0 (omega arith) (omega arith) all }
