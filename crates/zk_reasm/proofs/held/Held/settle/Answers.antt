use Rattle.std.proofs.Common.{◌∙◌, arith}
use Rattle.zk_reasm.specs.declared.place.TheConstants.{PLACES}
use Rattle.zk_reasm.specs.Apart.{byte_apart}
use Rattle.zk_reasm.specs.Held.{byte_kept, taken_of}
use Rattle.zk_reasm.proofs.FrontLemmas.{start_of-moved, byte_held-moved, sound_moved}
use Rattle.zk_reasm.proofs.HeldLemmas.{byte_held-apart}
use Rattle.zk_reasm.proofs.RangeLemmas.{held_between-split}
use Rattle.zk_reasm.proofs.held.Held.settle.Goals as goal

pub move_run-self-requires-clause-room : goal.move_run-self-requires-clause-room
move_run-self-requires-clause-room c =
    let held = c.args.self.now in
    let cut = held_between-split (byte_apart held.apart) held.run_end held.front PLACES c.requires held.front_within in
    omega (arith, cut, held.room)

pub invariant_of-self : goal.invariant_of-self
invariant_of-self c =
    let s = sound_moved c.args.self.now c.move_run-self.new.run c.move_run-self.result c.move_run-self.new.self (record {
      order = c.move_run-self.ensures.order;
      within = c.move_run-self.ensures.within;
      bytes = c.move_run-self.ensures.run;
      room = c.move_run-self.ensures.room;
      had = c.move_run-self.ensures.had;
      behind = c.move_run-self.ensures.behind;
    }) in
    record { start = s.start; end = s.«end»; front_within = s.front_within; kept_counts = s.kept_counts; above_counts = s.above_counts; room = s.room }

pub returns-clause-bytes : goal.returns-clause-bytes
unfolding byte_kept taken_of
returns-clause-bytes c = λ at low. byte_held-moved c.args.self.now c.move_run-self.new.run c.move_run-self.result c.move_run-self.new.self (record {
  order = c.move_run-self.ensures.order;
  within = c.move_run-self.ensures.within;
  bytes = c.move_run-self.ensures.run;
  room = c.move_run-self.ensures.room;
  had = c.move_run-self.ensures.had;
  behind = c.move_run-self.ensures.behind;
}) at low

pub returns-clause-taken : goal.returns-clause-taken
unfolding taken_of
returns-clause-taken c = start_of-moved c.args.self.now c.move_run-self.new.run c.move_run-self.result c.move_run-self.new.self (record {
  order = c.move_run-self.ensures.order;
  within = c.move_run-self.ensures.within;
  bytes = c.move_run-self.ensures.run;
  room = c.move_run-self.ensures.room;
  had = c.move_run-self.ensures.had;
  behind = c.move_run-self.ensures.behind;
})

pub returns-clause-settled : goal.returns-clause-settled
unfolding byte_kept
returns-clause-settled c = record {
  order = c.move_run-self.ensures.within;
  gap = λ low. byte_held-apart c.move_run-self.new.run c.move_run-self.result c.move_run-self.new.self c.move_run-self.result (omega arith)
      ∙ c.move_run-self.ensures.behind c.move_run-self.result (omega arith) ∙ c.move_run-self.ensures.stop low;
}
