use Rattle.std.proofs.Common.{◌-◌, drop, length, refl, ap, ◌∙◌, arith}
use Rattle.std.proofs.lemmas.List.{drop-drop}
use Rattle.zk_units.specs.Unread.{places_of}
use Rattle.zk_units.proofs.UnreadLemmas.{pass-run, pass-uncut, run-uncut, run_len, uncut_tail}
use Rattle.zk_units.proofs.unread.Unread.pass.Goals as goal

pub take-requires : goal.take-requires
take-requires c = omega (arith, ap length (run-uncut c.args.self.now c.if-self-eq0.true), c.requires)

pub overflow_sub-self : goal.overflow_sub-self
overflow_sub-self c = omega (arith, ap length (run-uncut c.args.self.now c.if-self-eq0.true), uncut_tail c.args.self.now c.if-self-eq0.true, c.requires)

pub returns-then-self-eq0-clause-places : goal.returns-then-self-eq0-clause-places
returns-then-self-eq0-clause-places c = pass-uncut c.args.self.now _ c.args.places c.if-self-eq0.true c.if-self-eq0.true c.take.ensures.bytes

pub pass_gap-requires-clause-gap : goal.pass_gap-requires-clause-gap
pass_gap-requires-clause-gap c = omega (arith, run_len c.args.self.now (omega arith), c.requires, c.min-bytes.ensures)

pub returns-clause-places : goal.returns-clause-places
returns-clause-places c =
    c.pass_gap.ensures.places
    ∙ ap (drop (c.args.places - c.min-bytes.result)) (pass-run c.args.self.now _ c.min-bytes.result (omega arith) (omega (arith, c.min-bytes.ensures)) refl refl refl c.take-2.ensures.bytes)
    ∙ drop-drop (c.args.places - c.min-bytes.result) c.min-bytes.result (places_of c.args.self.now)
    ∙ ap (λ n. drop n (places_of c.args.self.now)) (omega (arith, c.min-bytes.ensures))
