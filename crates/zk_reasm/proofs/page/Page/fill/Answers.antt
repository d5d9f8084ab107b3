use Rattle.std.proofs.Common.{◌≡◌, ℕ, ◌+◌, ◌<◌, cond, not, [], ◌∷◌, get_or, take, length, sym, ap, ◌∙◌, arith}
use Rattle.std.specs.Option.{is_some, option_or}
use Rattle.zk_reasm.specs.Between.{held_between}
use Rattle.zk_reasm.specs.Page.{byte_on}
use Rattle.zk_reasm.specs.Piece.{byte_in}
use Rattle.zk_reasm.proofs.PageLemmas.{byte_on-put, byte_on-stays, byte_in-more, byte_in-take-end}
use Rattle.zk_reasm.proofs.PieceLemmas.{none_from, option_or_none, option_or_assoc, byte_in-nothing}
use Rattle.zk_reasm.proofs.RangeLemmas.{held_at, held_between-more, held_between-none}
use Rattle.zk_reasm.proofs.page.Page.fill.Goals as goal
use Rattle.zk_reasm.proofs.page.Page.fill.Goals.{then-is_none, else-is_none}

pub loop-k-init : goal.loop-k-init
loop-k-init c = record {
  first = λ at. sym (ap (option_or (byte_on c.args.self.now at)) (byte_in-nothing c.args.from at) ∙ option_or_none (byte_on c.args.self.now at));
  count = let none = held_between-none (byte_on c.args.self.now) c.args.from (c.args.from + 0) (omega arith) in omega (arith, none);
}

pub loop-k-preserved : goal.loop-k-preserved
loop-k-preserved c =
    let k = c.loop-k.k in
    let from = c.args.from in
    let bytes = c.args.bytes.now in
    let old = c.args.self.now in
    let byte = get_or bytes k 0 in
    let within : k < length bytes = omega arith in
    let was : byte_on c.loop-k.self (from + k) ≡ byte_on old (from + k) =
    c.loop-k.invariant.first (from + k) ∙ ap (option_or (byte_on old (from + k))) (byte_in-take-end from k bytes within) ∙ option_or_none (byte_on old (from + k)) in
    let step : (i : ℕ) → byte_on c.if-is_none.self i ≡ option_or (byte_on c.loop-k.self i) (byte_in (from + k) (byte ∷ []) i) =
    λ i. elim c.if-is_none.branch [
      | then-is_none w ↦ rw w.self-is (byte_on-put c.loop-k.self w.set.new.self (from + k) byte i w.set.ensures.here w.set.ensures.others
          (none_from (byte_on c.loop-k.self (from + k)) (ap is_some (sym c.get.ensures) ∙ c.is_none.ensures ∙ ap not w.if-is_none.true)))
      | else-is_none w ↦ rw w.self-is (byte_on-stays c.loop-k.self (from + k) byte i (ap is_some (sym c.get.ensures) ∙ c.is_none.ensures ∙ ap not w.if-is_none.false))
    ] in
    let more : held_between (byte_on old) from (from + (k + 1)) ≡ held_between (byte_on old) from (from + k) + held_at (byte_on old) (from + k) =
    ap (held_between (byte_on old) from) (let e : from + (k + 1) ≡ from + k + 1 = omega arith in e) ∙ held_between-more (byte_on old) from (from + k) (omega arith) in
    record {
      first = λ i. step i
          ∙ ap (λ o. option_or o (byte_in (from + k) (byte ∷ []) i)) (c.loop-k.invariant.first i)
          ∙ option_or_assoc (byte_on old i) (byte_in from (take k bytes) i) (byte_in (from + k) (byte ∷ []) i)
          ∙ ap (option_or (byte_on old i)) (sym (byte_in-more from k bytes i within));
      count = elim c.if-is_none.branch [
        | then-is_none w ↦ (let at_k : held_at (byte_on old) (from + k) ≡ 0 = ap (λ b. cond b 1 0) (ap is_some (sym was ∙ sym c.get.ensures) ∙ c.is_none.ensures ∙ ap not w.if-is_none.true) in omega (arith, more, at_k, c.loop-k.invariant.count, w.count-is))
        | else-is_none w ↦ (let at_k : held_at (byte_on old) (from + k) ≡ 1 = ap (λ b. cond b 1 0) (ap is_some (sym was ∙ sym c.get.ensures) ∙ c.is_none.ensures ∙ ap not w.if-is_none.false) in omega (arith, more, at_k, c.loop-k.invariant.count, w.count-is))
      ];
    }
