-- Three texts have one verdict at most, and it says that they agree where they do.
use Rattle.std.proofs.Common.{◌≡◌, ℕ, List, length, Result, Ok, Err, IfOk, refl, sym, ap, ◌∙◌, subst}
use Rattle.cube_view.specs.Points.{Point}
use Rattle.cube_view.specs.declared.schema.Schema.{Schema}
use Rattle.feed_queue.specs.Journal.{LinesArePrefixFree}
use Rattle.outer_io.specs.Lines.{lines}
use Rattle.query_syntax.specs.declared.query.Parsed.{Parsed}
use Rattle.session_core.specs.Asked.{asked}
use Rattle.world_core.specs.Interleaving.{entry_points}
use Rattle.world_core.specs.declared.entry.Entry.{Entry}
use Rattle.recount.specs.Agreement.{IsAgreement, IsJournalOf}
use Rattle.recount.specs.Counting.{count_lacking}
use Rattle.recount.specs.Faults.{JournalDiffers}
use Rattle.recount.specs.Verdicts.{HasReplyVerdict, HasVerdict, IsAgree}
use Rattle.recount.specs.declared.verdict.Verdict.{Verdict}
use Rattle.recount.specs.declared.verdict.Verdict.TheVariants as verdict
use Rattle.recount.specs.declared.verdict.Why.{Why}
use Rattle.recount.proofs.Faults as replies
use Rattle.recount.proofs.Journals as journals

module _ (schema : Schema) (points : List Point) (ps : List Parsed) (text : List ℕ) where
  reply_verdict_one : (v w : Verdict) → HasReplyVerdict schema points ps text v → HasReplyVerdict schema points ps text w → v ≡ w
  reply_verdict_one (verdict.Agree n m) (verdict.Agree k l) a b =
      let same = replies.one_list schema points ps text n m k l a b in
      let number : n ≡ k = a.counted ∙ ap length same ∙ sym b.counted in
      let without : m ≡ l = a.lacked ∙ ap count_lacking same ∙ sym b.lacked in
      λ i. verdict.Agree (number i) (without i)
  reply_verdict_one (verdict.Agree n m) (verdict.Journal line why) a b = absurd b
  reply_verdict_one (verdict.Agree n m) (verdict.Replies place why) a b = absurd (replies.agree_or_differ schema points ps text n m place why a b)
  reply_verdict_one (verdict.Journal line why) w a b = absurd a
  reply_verdict_one (verdict.Replies place why) (verdict.Agree n m) a b = absurd (replies.agree_or_differ schema points ps text n m place why b a)
  reply_verdict_one (verdict.Replies place why) (verdict.Journal line cause) a b = absurd b
  reply_verdict_one (verdict.Replies place why) (verdict.Replies other cause) a b =
      let same = replies.one_difference schema points ps text place other why cause a b in
      λ i. verdict.Replies (same.0 i) (same.1 i)

module _ (schema : Schema) (feeders : ℕ) (prefix : LinesArePrefixFree) (journal script text : List ℕ) where
  abbrev HasOver : Verdict → Type 0
  HasOver v = (entries : List Entry) × IsJournalOf schema feeders journal entries × HasReplyVerdict schema (entry_points entries) (asked schema (lines script)) text v

  over_one : (v w : Verdict) → HasOver v → HasOver w → v ≡ w
  over_one v w (a, ja, va) (b, jb, vb) =
      let same : a ≡ b = journals.one_journal schema feeders prefix journal a b ja jb in
      reply_verdict_one schema (entry_points b) (asked schema (lines script)) text v w
      (subst (λ (l : List Entry). HasReplyVerdict schema (entry_points l) (asked schema (lines script)) text v) same va) vb

  not_both : {A : Type 0} (v : Verdict) (line : ℕ) (why : Why) → HasOver v → JournalDiffers schema feeders journal line why → A
  not_both v line why (a, ja, va) d = absurd (journals.agrees_or_differs schema feeders prefix journal a line why ja d)

  -- three texts have one verdict
  pub one_verdict : (v w : Verdict) → HasVerdict schema feeders journal script text v → HasVerdict schema feeders journal script text w → v ≡ w
  one_verdict (verdict.Journal line why) (verdict.Journal other cause) a b =
      let same = journals.one_difference schema feeders prefix journal line other why cause a b in
      λ i. verdict.Journal (same.0 i) (same.1 i)
  one_verdict (verdict.Journal line why) (verdict.Agree n m) a b = not_both (verdict.Agree n m) line why b a
  one_verdict (verdict.Journal line why) (verdict.Replies place cause) a b = not_both (verdict.Replies place cause) line why b a
  one_verdict (verdict.Agree n m) (verdict.Journal line why) a b = not_both (verdict.Agree n m) line why a b
  one_verdict (verdict.Agree n m) (verdict.Agree k l) a b = over_one (verdict.Agree n m) (verdict.Agree k l) a b
  one_verdict (verdict.Agree n m) (verdict.Replies place why) a b = over_one (verdict.Agree n m) (verdict.Replies place why) a b
  one_verdict (verdict.Replies place why) (verdict.Journal line cause) a b = not_both (verdict.Replies place why) line cause a b
  one_verdict (verdict.Replies place why) (verdict.Agree n m) a b = over_one (verdict.Replies place why) (verdict.Agree n m) a b
  one_verdict (verdict.Replies place why) (verdict.Replies other cause) a b = over_one (verdict.Replies place why) (verdict.Replies other cause) a b

  -- where it says so they agree
  pub agree_agrees : (v : Verdict) → HasVerdict schema feeders journal script text v → IsAgree v → IsAgreement schema feeders journal script text
  agree_agrees (verdict.Agree n m) (entries, is, a) agree = (entries, is, (a.replies, a.answers, a.text))
  agree_agrees (verdict.Journal line why) has agree = absurd agree
  agree_agrees (verdict.Replies place why) has agree = absurd agree

  -- and where they agree it says so
  pub agrees_agree : (v : Verdict) → HasVerdict schema feeders journal script text v → IsAgreement schema feeders journal script text → IsAgree v
  agrees_agree v has (entries, is, (replies, answers, e)) =
      let agree : Verdict = verdict.Agree (length replies) (count_lacking replies) in
      let there : HasVerdict schema feeders journal script text agree = (entries, is, record { replies = replies; answers = answers; text = e; counted = refl; lacked = refl }) in
      subst IsAgree (one_verdict agree v there has) tt

  -- the verdict on the replies is the one on the texts, where the journal is one of entries
  pub decided_by : (entries : List Entry) → IsJournalOf schema feeders journal entries → (points : List Point) (ps : List Parsed) → points ≡ entry_points entries → ps ≡ asked schema (lines script) → (v : Verdict) → HasReplyVerdict schema points ps text v → HasVerdict schema feeders journal script text v
  decided_by entries is points ps same asks v has =
      here v (subst (λ (l : List Point). HasReplyVerdict schema l (asked schema (lines script)) text v) same (subst (λ (l : List Parsed). HasReplyVerdict schema points l text v) asks has))
    where
      here : (v : Verdict) → HasReplyVerdict schema (entry_points entries) (asked schema (lines script)) text v → HasVerdict schema feeders journal script text v
      here (verdict.Agree n m) h = (entries, is, h)
      here (verdict.Journal line why) h = absurd h
      here (verdict.Replies place why) h = (entries, is, h)

-- what holds of an answer that is none of the faults holds with what follows of it
pub if_ok_each : {T E : Type 0} (r : Result T E) (P Q : T → Type 0) → ((x : T) → P x → Q x) → IfOk r P → IfOk r Q
if_ok_each (Ok x) P Q each h = each x h
if_ok_each (Err e) P Q each h = tt
