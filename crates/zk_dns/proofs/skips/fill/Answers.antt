use Rattle.std.proofs.Common.{ℕ, ap, sym, subst, length, arith, ◌∙◌}
use Rattle.std.proofs.lemmas.List.{length-replicate}
use Rattle.zk_dns.specs.Skips.{AreSkips}
use Rattle.zk_dns.proofs.SkipLemmas.{skips-zeros}
use Rattle.zk_dns.proofs.skips.fill.Goals as goal

pub loop-place-init : goal.loop-place-init
loop-place-init c = record {
  are = subst (AreSkips c.args.bytes.now) (sym c.requires) (skips-zeros c.args.bytes.now 0x4000);
  places = omega (arith, ap length c.requires ∙ length-replicate {A = ℕ} 0x4000 0);
}
