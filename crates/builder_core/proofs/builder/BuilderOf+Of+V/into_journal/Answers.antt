use Rattle.std.proofs.Common.{◌≡◌, ◌++◌, ap, sym, subst, IfErr}
use Rattle.std.proofs.lemmas.List.{take-append-drop}
use Rattle.builder_core.specs.Builder.{BuilderState, KeepsJournal}
use Rattle.published_pair.specs.declared.told.GivenUp.{GivenUp}
use Rattle.world_core.specs.PairFact.{IsPrefix}
use Rattle.builder_core.proofs.JournalEnds.{given_back, given_whole, given_prefix, given_up_within}
use Rattle.builder_core.proofs.builder.BuilderOf+Of+V.into_journal.Goals as goal

pub returns-clause-journal : goal.returns-clause-journal
returns-clause-journal g c =
    given_back _ c.args.self c.self.inside.out.entries.items _ c.self.inside.out.published (ap (λ (b : BuilderState). b.journal ++ b.pending) c.self.view_is) (ap (λ (b : BuilderState). b.journal) c.self.view_is) (sym (take-append-drop _ _)) c.end.ensures.entries

pub returns-clause-whole : goal.returns-clause-whole
returns-clause-whole g c = given_whole _ _ _ (subst KeepsJournal c.self.view_is c.self.invariant.journal) c.requires (returns-clause-journal g c)

pub returns-clause-prefix : goal.returns-clause-prefix
returns-clause-prefix g c = given_prefix _ _ _ (subst KeepsJournal c.self.view_is c.self.invariant.journal) (returns-clause-journal g c)

pub returns-clause-given_up : goal.returns-clause-given_up
returns-clause-given_up g c =
    given_up_within c.end.result.1 (λ (u : GivenUp). u.whole.book ≡ c.args.self.published.book) (λ (u : GivenUp). u.whole.points) c.args.self (subst KeepsJournal c.self.view_is c.self.invariant.journal)
    (subst (λ (b : BuilderState). IfErr c.end.result.1 (λ (u : GivenUp). (u.whole.book ≡ b.published.book) × IsPrefix u.whole.points b.appended)) c.self.view_is c.end.ensures.given_up)
