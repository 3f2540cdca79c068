-- A final reply that adds up is the reply over the whole list.
use Rattle.std.proofs.Common.{◌≡◌, ℕ, true, false, List, length, take, take_all, Some, sym, ◌∙◌, ap, subst, arith}
use Rattle.std.proofs.lemmas.Bool.{false≢true}
use Rattle.cube_view.specs.Points.{Point}
use Rattle.cube_view.specs.declared.schema.Schema.{Schema}
use Rattle.cube_view.specs.declared.stat.Stat.{Stat}
use Rattle.plain_cube.specs.Listed.{no_structure}
use Rattle.query_syntax.specs.Tables.{table}
use Rattle.query_syntax.specs.declared.query.Parsed.{Parsed}
use Rattle.query_syntax.specs.declared.query.Parsed.TheVariants as parsed
use Rattle.query_syntax.specs.declared.query.Query.{Query}
use Rattle.query_syntax.specs.declared.query.Verb.{Verb}
use Rattle.query_syntax.specs.declared.query.Verb.TheVariants as verb
use Rattle.reply_json.specs.declared.reply.Reply.{Reply}
use Rattle.reply_sums.specs.Additive.{adds_up, verb_adds_up}
use Rattle.session_core.specs.Asked.{asked_reply, query_reply}
use Rattle.session_core.specs.Transcript.{IsReply, MayPrint, seen_in, stat_in, told_in}
use Rattle.reply_json.proofs.RepliesRead.{one_reply, some_reply}
use Rattle.share_replies.specs.Shares.{AnyStat, Share}
use Rattle.share_replies.specs.Sums.{is_of_kind, kind_fits}

module _ (schema : Schema) (s : Share) where
  -- the numbers of a final reply
  abbrev Final : Reply → Type 0
  Final reply = MayPrint schema AnyStat true s.points s.told reply

  whole_table : (q : Query) (reply : Reply) → Reply.Table (table schema q (take (seen_in reply) s.points)) ≡ reply → Final reply → some_reply (Reply.Table (table schema q s.points)) ≡ Some reply
  whole_table q reply is final =
      let own = subst Final (sym is) final in
      let all : seen_in reply ≡ length s.points = ap seen_in (sym is) ∙ own in
      ap (λ (ps : List Point). some_reply (Reply.Table (table schema q ps))) (sym (take_all (seen_in reply) s.points (omega (arith, all)))) ∙ ap some_reply is

  whole_told : (reply : Reply) → Reply.Told (told_in reply) ≡ reply → Final reply → some_reply (Reply.Told s.told) ≡ Some reply
  whole_told reply is final =
      let own : told_in reply ≡ s.told = subst Final (sym is) final in
      ap (λ n. some_reply (Reply.Told n)) (sym own) ∙ ap some_reply is

  verb_final : (q : Query) (v : Verb) (reply : Reply) → verb_adds_up v ≡ true → query_reply (stat_in reply) schema (take (seen_in reply) s.points) (told_in reply) q v ≡ Some reply → Final reply → query_reply no_structure schema s.points s.told q v ≡ Some reply
  verb_final q verb.Count reply adds is final = whole_table q reply (one_reply _ reply is) final
  verb_final q (verb.Hist k) reply adds is final = whole_table q reply (one_reply _ reply is) final
  verb_final q (verb.Map down) reply adds is final = whole_table q reply (one_reply _ reply is) final
  verb_final q (verb.Series from wide rows) reply adds is final = whole_table q reply (one_reply _ reply is) final
  verb_final q (verb.Window rect) reply adds is final = whole_table q reply (one_reply _ reply is) final
  verb_final q (verb.Cross k l) reply adds is final = whole_table q reply (one_reply _ reply is) final
  verb_final q (verb.Best down rows) reply adds is final = absurd (false≢true adds)
  verb_final q verb.Stat reply adds is final = absurd (false≢true adds)
  verb_final q verb.Told reply adds is final = whole_told reply (one_reply _ reply is) final
  verb_final q verb.Quit reply adds is final = absurd (false≢true adds)

  -- the final reply to what was asked, where replies add up, is the one over all points
  pub final_is : (p : Parsed) (reply : Reply) → adds_up p ≡ true → IsReply schema AnyStat true s.points s.told p reply → asked_reply no_structure schema s.points s.told p ≡ Some reply
  final_is parsed.Skip reply adds r = absurd (false≢true adds)
  final_is (parsed.Ask q) reply adds r = verb_final q q.verb reply adds r.meant r.numbers
  final_is (parsed.Fault fault word) reply adds r = r.meant

  verb_kind : (stat : Stat) (h : List Point) (told : ℕ) (q : Query) (v : Verb) (reply : Reply) → verb_adds_up v ≡ false → query_reply stat schema h told q v ≡ Some reply → kind_fits v reply ≡ true
  verb_kind stat h told q verb.Count reply adds is = absurd (false≢true (sym adds))
  verb_kind stat h told q (verb.Hist k) reply adds is = absurd (false≢true (sym adds))
  verb_kind stat h told q (verb.Map down) reply adds is = absurd (false≢true (sym adds))
  verb_kind stat h told q (verb.Series from wide rows) reply adds is = absurd (false≢true (sym adds))
  verb_kind stat h told q (verb.Window rect) reply adds is = absurd (false≢true (sym adds))
  verb_kind stat h told q (verb.Cross k l) reply adds is = absurd (false≢true (sym adds))
  verb_kind stat h told q (verb.Best down rows) reply adds is = ap (kind_fits (verb.Best down rows)) (sym (one_reply _ reply is))
  verb_kind stat h told q verb.Stat reply adds is = ap (kind_fits verb.Stat) (sym (one_reply _ reply is))
  verb_kind stat h told q verb.Told reply adds is = absurd (false≢true (sym adds))
  verb_kind stat h told q verb.Quit reply adds is = cc

  -- where they do not, it is of the kind that was asked for
  pub final_kind : (p : Parsed) (reply : Reply) → adds_up p ≡ false → IsReply schema AnyStat true s.points s.told p reply → is_of_kind p reply ≡ true
  final_kind parsed.Skip reply adds r = let none = r.meant in cc
  final_kind (parsed.Ask q) reply adds r = verb_kind _ _ _ q q.verb reply adds r.meant
  final_kind (parsed.Fault fault word) reply adds r = absurd (false≢true (sym adds))
