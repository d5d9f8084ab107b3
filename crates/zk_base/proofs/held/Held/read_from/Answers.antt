use Rattle.std.proofs.Common.{rules, ◌≡◌, ◌+◌, ◌-◌, ◌≤◌, length, take, drop, refl, arith}
use Rattle.zk_base.specs.Held.{bytes_of}
use Rattle.zk_base.specs.Fetching.{count_of}
use Rattle.zk_base.proofs.HeldLemmas.{written_behind, gives_none}
use Rattle.zk_base.proofs.held.Held.read_from.Goals as goal

pub returns-in-Bytes-clause-read : goal.returns-in-Bytes-clause-read
unfolding bytes_of
returns-in-Bytes-clause-read g c =
    let room = c.make_room.new.self in
    let all = c.deref_mut.result.now in
    let n = c.in-Bytes.n in
    let enough : room.end + c.args.most ≤ length all = omega (arith, c.in_ok-make_room.ensures.room, c.deref_mut.ensures.len) in
    let long : length c.read-given.new.buf ≡ c.args.most = search rules in
    let front : length (take (room.end + c.args.most - room.end) (drop room.end all)) ≡ c.args.most = search rules in
    let few : n ≤ c.args.most = omega (arith, c.in-Bytes.ensures.leaves.within, front) in record {
      before = _;
      after = c.read-given.new.buf;
      long = front;
      long_after = long;
      reads = c.in-Bytes.ensures.leaves;
      brings = written_behind room.bytes all c.read-given.new.buf (bytes_of c.args.self.now) room.taken room.end c.args.most (room.end + n) n
          c.deref_mut.ensures.value c.in_ok-make_room.ensures.bytes room.order enough long refl few;
    }

pub returns-in_default-clause-read : goal.returns-in_default-clause-read
unfolding bytes_of
returns-in_default-clause-read g c =
    let room = c.make_room.new.self in
    let all = c.deref_mut.result.now in
    let n = count_of c.read-given.result in
    let none : n ≡ 0 = gives_none c.read-given.result c.in_default.not-Bytes in
    let enough : room.end + c.args.most ≤ length all = omega (arith, c.in_ok-make_room.ensures.room, c.deref_mut.ensures.len) in
    let long : length c.read-given.new.buf ≡ c.args.most = search rules in record {
      before = _;
      after = c.read-given.new.buf;
      long = search rules;
      long_after = long;
      reads = c.read-given.ensures.leaves;
      brings = written_behind room.bytes all c.read-given.new.buf (bytes_of c.args.self.now) room.taken room.end c.args.most room.end n
          c.deref_mut.ensures.value c.in_ok-make_room.ensures.bytes room.order enough long (omega arith) (omega arith);
    }
