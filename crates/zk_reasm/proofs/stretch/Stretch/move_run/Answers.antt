use Rattle.std.proofs.Common.{◌≡◌, cond, [], ◌∷◌, ◌++◌, Some, sym, ap, ◌∙◌, ⊎_elim, arith, append-nil, append_assoc}
use Rattle.std.specs.Option.{is_some}
use Rattle.std.proofs.lemmas.Bool.{cases_eq}
use Rattle.zk_reasm.specs.Between.{bytes_between}
use Rattle.zk_reasm.specs.Piece.{byte_in}
use Rattle.zk_reasm.specs.Stretch.{byte_in_stretch}
use Rattle.zk_base.specs.ByteQueue.{bytes_of}
use Rattle.zk_reasm.proofs.ScatteredLemmas.{byte_in-first, byte_in-rest}
use Rattle.zk_reasm.proofs.RangeLemmas.{held_at, held_between-split, held_between-first, held_between-full, bytes_between-none, bytes_between-more}
use Rattle.zk_reasm.proofs.stretch.Stretch.move_run.Goals as goal

pub returns-then-self-from-clause-run : goal.returns-then-self-from-clause-run
returns-then-self-from-clause-run c =
    sym (ap (λ xs. bytes_of c.args.run.now ++ xs) (bytes_between-none (byte_in_stretch c.args.self.now) c.args.from c.args.from (omega arith)) ∙ append-nil (bytes_of c.args.run.now))

pub loop-self-init : goal.loop-self-init
loop-self-init c = record {
  order = omega arith;
  within = omega arith;
  «end» = omega arith;
  run = sym (ap (λ xs. bytes_of c.args.run.now ++ xs) (bytes_between-none (byte_in_stretch c.args.self.now) c.args.from c.drop_before.new.self.at (omega arith)) ∙ append-nil (bytes_of c.args.run.now));
  room = omega arith;
  had = λ at low high. absurd (omega (arith, low, high));
  behind = λ at low. c.drop_before.ensures.bytes at low;
}

-- the first byte that is left
here : (c : goal.After-push-arg-1) → byte_in_stretch c.args.self.now c.loop-self.self.at ≡ Some c.in-Some.byte
here c =
    sym (c.loop-self.invariant.behind c.loop-self.self.at (omega arith))
    ∙ ap (λ xs. byte_in c.loop-self.self.at xs c.loop-self.self.at) c.in-Some.ensures.items
    ∙ byte_in-first c.loop-self.self.at c.in-Some.byte c.pop_front.new.self.items

pub push-requires : goal.push-requires
push-requires c =
    let old = byte_in_stretch c.args.self.now in
    let at = c.loop-self.self.at in
    let at_it : held_at old at ≡ 1 = ap (λ o. cond (is_some o) 1 0) (here c) in
    let cut = held_between-split old c.args.from at c.args.to (omega arith) (omega arith) in
    let passed = held_between-full old c.args.from at (omega arith) c.loop-self.invariant.had in
    let next = held_between-first old at c.args.to (omega arith) in
    omega (arith, at_it, cut, passed, next, c.loop-self.invariant.room, c.requires.room)

pub loop-self-preserved : goal.loop-self-preserved
loop-self-preserved c =
    let old = byte_in_stretch c.args.self.now in
    let at = c.loop-self.self.at in
    let it : old at ≡ Some c.in-Some.byte =
    sym (c.loop-self.invariant.behind at (omega arith))
    ∙ ap (λ xs. byte_in at xs at) c.in-Some.ensures.items
    ∙ byte_in-first at c.in-Some.byte c.pop_front.new.self.items in
    record {
      order = omega arith;
      within = omega arith;
      «end» = omega (arith, c.loop-self.invariant.«end», c.in-Some.ensures.len);
      run = c.push.ensures.bytes
          ∙ ap (λ xs. xs ++ c.in-Some.byte ∷ []) c.loop-self.invariant.run
          ∙ append_assoc (bytes_of c.args.run.now) (bytes_between old c.args.from at) (c.in-Some.byte ∷ [])
          ∙ ap (λ xs. bytes_of c.args.run.now ++ xs) (sym (bytes_between-more old c.args.from at c.in-Some.byte (omega arith) it));
      room = omega (arith, c.loop-self.invariant.room, c.push.ensures.room);
      had = λ i low high. ⊎_elim
          (λ same. ap (λ k. is_some (old k)) same ∙ ap is_some it)
          (λ other. c.loop-self.invariant.had i low (omega (arith, high, other)))
          (cases_eq i at);
      behind = λ i low.
          byte_in-rest at c.in-Some.byte c.pop_front.new.self.items i (omega (arith, low))
          ∙ ap (λ xs. byte_in at xs i) (sym c.in-Some.ensures.items)
          ∙ c.loop-self.invariant.behind i (omega (arith, low));
    }
