use Rattle.std.proofs.Common.{◌≡◌, cond, [], ◌∷◌, ◌++◌, Some, refl, sym, ap, ◌∙◌, ⊎_elim, arith, append-nil, append_assoc}
use Rattle.std.specs.Option.{is_some}
use Rattle.std.proofs.lemmas.Bool.{cases_eq}
use Rattle.zk_reasm.specs.Between.{bytes_between}
use Rattle.zk_reasm.specs.Page.{byte_on}
use Rattle.zk_base.specs.ByteQueue.{bytes_of}
use Rattle.zk_reasm.proofs.RangeLemmas.{held_at, held_between-split, held_between-first, held_between-full, bytes_between-none, bytes_between-more}
use Rattle.zk_reasm.proofs.page.Page.move_run.Goals as goal

pub loop-at-init : goal.loop-at-init
loop-at-init c = record {
  order = omega arith;
  within = omega arith;
  run = sym (ap (λ xs. bytes_of c.args.run.now ++ xs) (bytes_between-none (byte_on c.args.self.now) c.args.from c.args.from (omega arith)) ∙ append-nil (bytes_of c.args.run.now));
  moved = λ at from to. absurd (omega (arith, from, to));
  had = λ at from to. absurd (omega (arith, from, to));
  before = λ at low. refl;
  behind = λ at high. refl;
  room = omega arith;
}

pub push-requires : goal.push-requires
push-requires c =
    let old = byte_on c.args.self.now in
    let from = c.args.from in
    let at = c.loop-at.at in
    let here : held_at old at ≡ 1 = ap (λ o. cond (is_some o) 1 0) (sym (c.loop-at.invariant.behind at (omega arith)) ∙ sym c.get.ensures ∙ c.in-Some.is) in
    let cut = held_between-split old from at c.args.to (omega arith) (omega arith) in
    let passed = held_between-full old from at (omega arith) c.loop-at.invariant.had in
    let next = held_between-first old at c.args.to (omega arith) in
    omega (arith, here, cut, passed, next, c.loop-at.invariant.room, c.requires.room)

pub loop-at-preserved : goal.loop-at-preserved
loop-at-preserved c =
    let old = byte_on c.args.self.now in
    let from = c.args.from in
    let at = c.loop-at.at in
    let here : old at ≡ Some c.in-Some.byte = sym (c.loop-at.invariant.behind at (omega arith)) ∙ sym c.get.ensures ∙ c.in-Some.is in
    record {
      order = omega arith;
      within = omega arith;
      run = c.push.ensures.bytes
          ∙ ap (λ xs. xs ++ c.in-Some.byte ∷ []) c.loop-at.invariant.run
          ∙ append_assoc (bytes_of c.args.run.now) (bytes_between old from at) (c.in-Some.byte ∷ [])
          ∙ ap (λ xs. bytes_of c.args.run.now ++ xs) (sym (bytes_between-more old from at c.in-Some.byte (omega arith) here));
      moved = λ i low high. ⊎_elim
          (λ same. ap (byte_on c.clear.new.self) same ∙ c.clear.ensures.here)
          (λ other. c.clear.ensures.others i other ∙ c.loop-at.invariant.moved i low (omega (arith, high, other)))
          (cases_eq i at);
      had = λ i low high. ⊎_elim
          (λ same. ap (λ k. is_some (old k)) same ∙ ap is_some here)
          (λ other. c.loop-at.invariant.had i low (omega (arith, high, other)))
          (cases_eq i at);
      before = λ i low. c.clear.ensures.others i (λ same. omega (arith, same, low)) ∙ c.loop-at.invariant.before i low;
      behind = λ i high. c.clear.ensures.others i (λ same. omega (arith, same, high)) ∙ c.loop-at.invariant.behind i (omega (arith, high));
      room = omega (arith, c.loop-at.invariant.room, c.push.ensures.room);
    }
