use Rattle.std.proofs.Common.{sym, ap, ◌∙◌}
use Rattle.zk_conn.specs.Table.{slot_of}
use Rattle.zk_conn.proofs.BeginLemmas.{stands_same}
use Rattle.zk_conn.proofs.HintLemmas.{if_ok_then, on_err_then}
use Rattle.zk_conn.proofs.PacketLemmas.{stands_gone_on, touched_gone_on, live_gone_on}
use Rattle.zk_conn.proofs.conns.Conns.packet.Goals as goal

pub returns-in-Some-clause-answer : goal.returns-in-Some-clause-answer
returns-in-Some-clause-answer c = λ told stands may.
    touched_gone_on c.find.new.self c.go_on.new.self told c.args.t c.args.p.now c.in-Some.slot c.go_on.result
    (stands_same c.args.self.now c.find.new.self told c.find.ensures.same stands) may
    (ap (slot_of c.find.new.self) (sym c.of.ensures) ∙ c.in-Some.ensures.some stands.table) c.go_on.ensures.tells c.go_on.ensures.touched

pub returns-in-Some-clause-taken : goal.returns-in-Some-clause-taken
returns-in-Some-clause-taken c = λ told stands may.
    stands_gone_on c.find.new.self c.go_on.new.self told c.args.t c.args.p.now c.in-Some.slot
    (stands_same c.args.self.now c.find.new.self told c.find.ensures.same stands) may
    (ap (slot_of c.find.new.self) (sym c.of.ensures) ∙ c.in-Some.ensures.some stands.table) c.go_on.ensures.tells c.requires.early c.requires.late

pub returns-in-Some-clause-live : goal.returns-in-Some-clause-live
returns-in-Some-clause-live c = λ told stands.
    live_gone_on c.find.new.self c.go_on.new.self told c.args.t c.args.p.now c.in-Some.slot c.go_on.result
    (stands_same c.args.self.now c.find.new.self told c.find.ensures.same stands)
    (ap (slot_of c.find.new.self) (sym c.of.ensures) ∙ c.in-Some.ensures.some stands.table) c.go_on.ensures.tells c.go_on.ensures.touched

pub returns-in-None-clause-answer : goal.returns-in-None-clause-answer
returns-in-None-clause-answer c = if_ok_then c.begin.result
    (λ touched answers told stands may. answers told (stands_same c.args.self.now c.find.new.self told c.find.ensures.same stands) may) c.begin.ensures.answer

pub returns-in-None-clause-taken : goal.returns-in-None-clause-taken
returns-in-None-clause-taken c = if_ok_then c.begin.result
    (λ touched taken told stands may. taken told (stands_same c.args.self.now c.find.new.self told c.find.ensures.same stands) may) c.begin.ensures.taken

pub returns-in-None-clause-memory : goal.returns-in-None-clause-memory
returns-in-None-clause-memory c = on_err_then c.begin.result
    (λ same told stands. same told (stands_same c.args.self.now c.find.new.self told c.find.ensures.same stands)) c.begin.ensures.memory
