use Rattle.std.proofs.Common.{◌≡◌, refl, sym, ap, ◌∙◌, arith}
use Rattle.zk_reasm.specs.declared.held.Held.{Held}
use Rattle.zk_reasm.specs.declared.stream.Stream.{Stream}
use Rattle.zk_reasm.specs.Held.{byte_kept, taken_of}
use Rattle.zk_reasm.specs.Piece.{byte_in}
use Rattle.zk_reasm.proofs.PassLemmas.{Passed, passed_answer, passed_content, stands_passed}
use Rattle.zk_reasm.proofs.PieceLemmas.{none_from}
use Rattle.zk_reasm.proofs.stream.Stream.pass_on.Goals as goal

-- the stream that is left
abbrev mid : goal.After-result-1 → Stream
mid c = record {
  base = c.args.self.now.base;
  limit = c.args.self.now.limit;
  acked = c.args.self.now.acked;
  payload_end = c.max-self.result;
  fin = c.args.self.now.fin;
  is_over = c.args.self.now.is_over;
  held = c.go_past.new.self;
  acked_within = c.args.self.now.acked_within;
  settled = c.go_past.ensures.settled;
}

passed : (c : goal.After-result-1) (new : Stream) → new.base ≡ c.args.self.now.base → new.limit ≡ c.args.self.now.limit → new.fin ≡ c.args.self.now.fin → new.is_over ≡ c.args.self.now.is_over
    → new.acked ≡ c.args.self.now.acked → new.payload_end ≡ c.max-self.result → new.held ≡ c.go_past.new.self
    → Passed c.args.self.now new c.args.seq c.args.bytes.now c.of-piece.result.at c.of-piece.result.bytes.now c.at_or_past-rest.result.bytes.now c.last_end.result
passed c new base limit fin over acked payload held = record {
  live = c.if-self.false;
  no_fin = none_from c.args.self.now.fin (sym c.is_some.ensures ∙ c.if-is_some.false);
  seen = omega (arith, c.if-self-front.false);
  nothing = c.is_clear.ensures.nothing c.if-not-is_clear.false;
  settled = c.is_clear.ensures.taken c.if-not-is_clear.false;
  whole_is = c.of-piece.ensures.bytes;
  places_are = c.of-piece.ensures.places;
  within = c.of-piece.ensures.within;
  rest_is = λ at. ap (λ n. byte_in n c.at_or_past-rest.result.bytes.now at) (sym c.if-rest-front.false) ∙ c.at_or_past-rest.ensures.bytes at;
  end_is = c.last_end.ensures;
  base_is = base;
  limit_is = limit;
  fin_is = fin;
  over_is = over;
  acked_is = acked;
  payload_is = payload ∙ c.max-self.ensures;
  front_is = ap (λ (h : Held). h.front) held ∙ c.go_past.ensures.front;
  taken_is = ap taken_of held ∙ c.go_past.ensures.taken ∙ sym (ap (λ (h : Held). h.front) held);
  bytes_are = λ at low. ap (λ h. byte_kept h at) held ∙ c.go_past.ensures.bytes at (let same = ap (λ (h : Held). h.front) held in omega (arith, low, same));
  above_is = ap (λ (h : Held). h.above) held ∙ c.go_past.ensures.above;
}

pub returns-clause-told : goal.returns-clause-told
returns-clause-told c = λ base limit taken told stands.
    stands_passed c.args.self.now _ base limit told taken c.args.seq c.args.bytes.now c.of-piece.result.at c.of-piece.result.bytes.now c.at_or_past-rest.result.bytes.now c.last_end.result
    stands (passed c _ refl refl refl refl refl refl refl)

pub returns-clause-bytes : goal.returns-clause-bytes
returns-clause-bytes c = λ base limit taken told stands.
    passed_content c.args.self.now (mid c) base limit told taken c.args.seq c.args.bytes.now c.of-piece.result.at c.of-piece.result.bytes.now c.at_or_past-rest.result.bytes.now c.last_end.result
    stands (passed c (mid c) refl refl refl refl refl refl refl)

pub returns-clause-answer : goal.returns-clause-answer
returns-clause-answer c = λ base limit taken told stands.
    passed_answer c.args.self.now (mid c) base limit told taken c.args.seq c.args.bytes.now c.of-piece.result.at c.of-piece.result.bytes.now c.at_or_past-rest.result.bytes.now c.last_end.result
    stands (passed c (mid c) refl refl refl refl refl refl refl)
