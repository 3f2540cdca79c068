use Rattle.builder_core.proofs.ToldMailboxes.{keeps_told}
use Rattle.builder_core.proofs.work.BuilderWorkOf+Of+V.tell.Goals as goal

pub invariant_of-self : goal.invariant_of-self
invariant_of-self g c =
    keeps_told c.self.inside.draws c.self.inside.builder c.self.inside.mails.items c.as_mut_slice.result.now c.tell_all.new.mails c.self.inside.mails.len
    c.self.invariant c.as_mut_slice.ensures.value c.tell_all.ensures
