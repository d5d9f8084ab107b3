use Rattle.std.proofs.Common.{sym, subst, ◌∙◌, arith}
use Rattle.std.proofs.lemmas.Result.{err_from_is_err_and}
use Rattle.zk_conn.specs.Holds.{removal_of}
use Rattle.zk_conn.specs.Instance.{Opening}
use Rattle.zk_conn.specs.Segment.{key_of}
use Rattle.zk_conn.specs.Table.{HasLive}
use Rattle.zk_conn.specs.declared.conns.Touched.{Touched}
use Rattle.zk_conn.proofs.BeginLemmas.{gone_key, live_inserted, number_absent, stands_begun, stands_same, touched_begun}
use Rattle.zk_conn.proofs.HoldsLemmas.{holds-begun}
use Rattle.zk_conn.proofs.conns.Conns.begin.Goals as goal

pub returns-in_err-insert-clause-memory : goal.returns-in_err-insert-clause-memory
returns-in_err-insert-clause-memory c =
    let p = err_from_is_err_and c.from_residual.result c.from_residual.ensures.1 in
    let number = c.touch-touched.ensures.follows.number_is ∙ c.before-instance.ensures.number in
    rw p.1 (λ told stands. stands_same c.args.self.now c.insert.new.self told
    (c.in_err-insert.ensures.err (number_absent c.args.self.now told c.touch-touched.new.self.number stands (omega (arith, number, c.in-Some.ensures)))) stands)

pub returns-clause-answer : goal.returns-clause-answer
returns-clause-answer c = λ told stands may.
    let number = c.touch-touched.ensures.follows.number_is ∙ c.before-instance.ensures.number in
    touched_begun told c.args.t c.args.p.now c.before-instance.result c.touch-touched.new.self c.touch-touched.result
    ((gone_key c.args.self.now told (key_of c.args.p.now) stands c.requires.absent).late c.args.t may.in_order)
    c.before-instance.ensures.has c.touch-touched.ensures.follows (omega (arith, number, c.in-Some.ensures, stands.begun_is)) c.touch-touched.ensures.touched

pub returns-clause-taken : goal.returns-clause-taken
unfolding removal_of
returns-clause-taken c = λ told stands may.
    let first : Opening = record { moment = c.args.t; packet = c.args.p.now } in
    let follows = c.touch-touched.ensures.follows in
    stands_begun c.args.self.now c.insert.new.self told c.args.t c.args.p.now _ c.in-Some.number stands
    ((gone_key c.args.self.now told (key_of c.args.p.now) stands c.requires.absent).late c.args.t may.in_order)
    c.requires.absent c.in_ok-insert.ensures.ok
    (holds-begun first c.before-instance.result _ c.before-instance.ensures.has
    (record {
      key_is = follows.key_is;
      number_is = follows.number_is;
      originator_is = follows.originator_is;
      responder_is = follows.responder_is;
      start_is = follows.start_is;
      last_is = follows.last_is;
      orig_is = follows.orig_is;
      resp_is = follows.resp_is;
      history_is = follows.history_is;
    }))
    (follows.key_is ∙ c.before-instance.ensures.has.key_is) follows.last_is
    (follows.number_is ∙ c.before-instance.ensures.number) (omega (arith, c.in-Some.ensures)) c.removal-instance.ensures c.requires.early c.requires.late

pub returns-clause-live : goal.returns-clause-live
returns-clause-live c =
    subst (λ (d : Touched). HasLive (record c.insert.new.self { begun = c.in-Some.number }) d.conn) (sym c.touch-touched.ensures.touched)
    (live_inserted c.args.self.now c.insert.new.self _ c.in-Some.number c.in_ok-insert.ensures.ok)
