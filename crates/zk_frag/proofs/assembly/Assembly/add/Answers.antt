use Rattle.std.proofs.Common.{◌≡◌, ℕ, List, Bool, false, ap, sym, ◌∙◌, arith, get_or, length, refl}
use Rattle.std.specs.Option.{option_or}
use Rattle.std.specs.Vec.{with_items}
use Rattle.std.proofs.lemmas.List.{with_items_is}
use Rattle.std.proofs.lemmas.Result.{err_from_is_err_and}
use Rattle.zk_frag.specs.Fragment.{byte_of}
use Rattle.zk_frag.specs.Buffer.{byte_held}
use Rattle.zk_frag.proofs.GroupLemmas.{held_longer, holds_added, holds_longer}
use Rattle.zk_frag.proofs.assembly.Assembly.add.Goals as goal

pub returns-in_err-lengthen-2-clause-err : goal.returns-in_err-lengthen-2-clause-err
returns-in_err-lengthen-2-clause-err c =
    let p = err_from_is_err_and c.from_residual-in_err-lengthen-2.result c.from_residual-in_err-lengthen-2.ensures.1 in
    let old = c.args.self.now in
    rw p.1 (holds_longer old _
    (λ i. held_longer old.bytes.items c.lengthen.new.vec.items old.covered.items c.lengthen-2.new.vec.items i (c.lengthen.ensures.same i) (c.lengthen-2.ensures.same i))
    c.lengthen-2.ensures.same refl refl
    (λ room. omega (arith, room, ap (λ (xs : List Bool). length xs) c.in_err-lengthen-2.ensures.err, c.in_ok-lengthen.ensures.ok)))

pub returns-clause-ok : goal.returns-clause-ok
returns-clause-ok c =
    let old = c.args.self.now in
    let bytes = with_items c.lengthen.new.vec c.fill.new.bytes in
    let covered = with_items c.lengthen-2.new.vec c.fill.new.covered in
    let bytes_are : bytes.items ≡ c.fill.new.bytes = with_items_is c.lengthen.new.vec c.fill.new.bytes (omega arith) in
    let covered_are : covered.items ≡ c.fill.new.covered = with_items_is c.lengthen-2.new.vec c.fill.new.covered (omega arith) in
    let checked : c.deref.result.now ≡ c.fill.new.covered = c.deref.ensures.value ∙ covered_are in
    holds_added old _
    c.args.place c.args.more c.args.payload.now
    (record {
      first = λ i.
          ap (λ (xs : List ℕ). byte_held xs covered.items i) bytes_are
          ∙ ap (λ (xs : List Bool). byte_held c.fill.new.bytes xs i) covered_are
          ∙ c.fill.ensures.first i
          ∙ ap (λ (xs : List ℕ). option_or (byte_held xs c.deref_mut-2.result.now i) (byte_of c.args.place c.args.payload.now i)) c.deref_mut.ensures.value
          ∙ ap (λ (xs : List Bool). option_or (byte_held c.lengthen.new.vec.items xs i) (byte_of c.args.place c.args.payload.now i)) c.deref_mut-2.ensures.value
          ∙ ap (λ o. option_or o (byte_of c.args.place c.args.payload.now i))
          (held_longer old.bytes.items c.lengthen.new.vec.items old.covered.items c.lengthen-2.new.vec.items i (c.lengthen.ensures.same i) (c.lengthen-2.ensures.same i));
      end_is = c.end_after-self.ensures;
      kept = λ i was. ap (λ (xs : List Bool). get_or xs i false) covered_are
          ∙ c.fill.ensures.kept i (ap (λ (xs : List Bool). get_or xs i false) c.deref_mut-2.ensures.value ∙ c.lengthen-2.ensures.same i ∙ was);
      before = λ i from to. ap (λ (xs : List Bool). get_or xs i false) (covered_are ∙ sym checked) ∙ c.first_gap-self.ensures.before i from to;
      gap = ap (λ (xs : List Bool). get_or xs c.first_gap-self.result false) (covered_are ∙ sym checked) ∙ c.first_gap-self.ensures.gap;
      room = λ room. omega (arith, room, c.in_ok-lengthen.ensures.ok, c.in_ok-lengthen-2.ensures.ok, ap (λ (xs : List ℕ). length xs) bytes_are, ap (λ (xs : List Bool). length xs) covered_are);
    })
