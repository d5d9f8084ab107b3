use Rattle.std.proofs.Common.{◌≡◌, ◌≤◌, length, arith, refl, ◌∙◌, append-nil}
use Rattle.zk_text.proofs.AddressLaws.{addr_text_injective, recommended}
use Rattle.zk_text.specs.Address.{addr_text}
use Rattle.zk_text.proofs.addresses.addr_text.Goals as goal

whole : (c : goal.After-slice_known-2-1) → c.text.result.now ≡ addr_text c.args.a
whole c = c.text.ensures.text ∙ c.put_addr.ensures.written ∙ rw (c.new-text.ensures.written, append-nil) refl

short : (c : goal.After-slice_known-2-1) → length (addr_text c.args.a) ≤ 39
short c = rw (← whole c) (omega (arith, c.text.ensures.len, c.put_addr.ensures.room, c.new-text.ensures.room))

pub returns-clause-bound : goal.returns-clause-bound
returns-clause-bound c = short c

pub returns-clause-room : goal.returns-clause-room
returns-clause-room c = grind (arith, short c, whole c)

pub returns-clause-alone : goal.returns-clause-alone
returns-clause-alone c = λ other fits other_fits same. addr_text_injective other c.args.a other_fits fits same

pub returns-clause-recommended : goal.returns-clause-recommended
returns-clause-recommended c = λ n is. rw is (recommended n)
