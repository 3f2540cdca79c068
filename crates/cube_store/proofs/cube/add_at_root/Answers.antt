use Rattle.std.proofs.Common.{rules}
use Rattle.std.proofs.lemmas.Result.{on_ok_weaker}
use Rattle.cube_store.proofs.RootCalls.{can_enter_root, inserts}
use Rattle.cube_store.proofs.cube.add_at_root.Goals as goal

pub add-requires : goal.add-requires
add-requires c = record {
  in_dims = search rules;
  within = record {
    is_sound = c.requires.sound;
    known = can_enter_root _ _ _ c.in_ok-updated.updated c.args.root.0 c.in_ok-updated.ensures c.requires.root c.requires.known;
    room = c.requires.room;
  };
}

pub returns-clause-inserted : goal.returns-clause-inserted
returns-clause-inserted c = on_ok_weaker c.add.result (λ V. inserts _ _ _ _ _ _ c.args.root.0 c.in_ok-updated.ensures c.requires.root V) c.add.ensures.all
