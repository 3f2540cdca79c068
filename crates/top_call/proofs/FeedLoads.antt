-- Why a feed is not loaded, and what loading one gives.
use Rattle.std.proofs.Common.{◌≡◌, ℕ, List, [], Result, Ok, Err, refl, sym, subst, IsErrOf, OnOk}
use Rattle.std.specs.Result.{IsErrAnd}
use Rattle.top_call.specs.LoadFaults.{fault_of_head}
use Rattle.top_call.specs.Loading.{counted_by, KeepsRows, TakesFeed}
use Rattle.top_call.specs.declared.demo.loading.LoadFault.{LoadFault}
use Rattle.top_call.specs.declared.demo.loading.LoadFault.TheVariants as load
use Rattle.cube_view.specs.declared.view.CubeView as CubeView
use Rattle.feed_reader.proofs.FeedLaws.{feed_read}
use Rattle.feed_reader.specs.Reading.{IsAtStart, LeavesAccepted, ReadsHeader}
use Rattle.feed_reader.specs.declared.feed.NoHeader.{NoHeader}
use Rattle.feed_reader.specs.declared.feed.NoHeader.TheVariants as head
use Rattle.feed_reader.specs.declared.header.HeadFault.{HeadFault}
use Rattle.outer_io.proofs.ToldLaws.{Told-each}
use Rattle.outer_io.specs.Cutting.{Cutter, rest_of}
use Rattle.outer_io.specs.Told.{Told}
use Rattle.outer_io.specs.declared.source.Source as Source

refused_by : (f : NoHeader) (e : LoadFault) {T : Type 0} (P : Type 0) → e ≡ fault_of_head f → IsErrOf {T = T} (Err e) load.Refused → ((h : HeadFault) → f ≡ head.Refused h → P) → P
refused_by (head.Refused h) e P is bad step = step h refl
refused_by head.Read e P is bad step = cc
refused_by head.NoMemory e P is bad step = cc

-- a feed that is answered as refused by its header has a header that is refused
pub head_of_refused : {T : Type 0} (r : Result T LoadFault) (f : NoHeader) (P : Type 0) → IsErrAnd r (λ e. e ≡ fault_of_head f) → IsErrOf r load.Refused → ((h : HeadFault) → f ≡ head.Refused h → P) → P
head_of_refused (Ok x) f P is bad step = absurd is
head_of_refused (Err e) f P is bad step = refused_by f e P is bad step

-- where the header was read, and then the rows of all lines were kept in a view of no points, it has taken the feed
pub taken : {S T E V C : Type 0} (source : Source.Ghosts S) (view : CubeView.Ghosts V C) (places : List ℕ) (a b c : Cutter S) (r : Result T E) (cube cube' : V) → IsAtStart a → counted_by view cube [] → ReadsHeader source.left source.faults (view.schema cube) a b places → LeavesAccepted source.left (view.schema cube) places a b
    → OnOk r (KeepsRows source view places b c cube cube') → OnOk r (Told (rest_of source.left a) (TakesFeed (view.schema cube) (counted_by view cube')))
taken source view places a b c (Ok x) cube cube' start empty head leaves kept =
    Told-each (rest_of source.left a) _ (TakesFeed (view.schema cube) (counted_by view cube'))
    (λ feed is. (is.0, subst (counted_by view cube') (sym is.1) (kept.kept [] empty)))
    (feed_read source.left source.faults (view.schema cube) a b c head.0 places kept.lines start head.2.passed leaves kept.passed)
taken source view places a b c (Err e) cube cube' start empty head leaves kept = tt
