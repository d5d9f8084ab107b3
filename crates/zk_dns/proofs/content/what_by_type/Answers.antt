use Rattle.std.proofs.Common.{◌≡◌, ◌+◌, ◌-◌, arith, drop, length, length-take, length-drop}
use Rattle.std.proofs.lemmas.List.{take_rest}
use Rattle.zk_dns.proofs.ContentLemmas.{kind-a, kind-aaaa, kind-mx, kind-name, kind-other, kind-soa, kind-txt, name-inside, same-told}
use Rattle.zk_dns.proofs.content.what_by_type.Goals as goal

pub u32_at-requires : goal.u32_at-requires
u32_at-requires c = omega (arith, c.requires.whole, (kind-a _ _ _ _ c.in-1.is c.requires.read).0)

pub read_u128-requires : goal.read_u128-requires
read_u128-requires c =
    let n = length c.args.bytes.now - c.args.at in
    omega (arith, c.requires.whole, (kind-aaaa _ _ _ _ c.in-28.is c.requires.read).0, length-take n (drop c.args.at c.args.bytes.now), length-drop c.args.at c.args.bytes.now)

pub name_text-requires-clause-name : goal.name_text-requires-clause-name
name_text-requires-clause-name c = (kind-name _ _ _ _ c.in-2.is c.requires.whole c.requires.read).0

pub u16_at-requires : goal.u16_at-requires
u16_at-requires c = omega (arith, name-inside _ _ (kind-mx _ _ _ _ c.in-15.is c.requires.whole c.requires.read).0)

pub name_text-requires-in-15-clause-name : goal.name_text-requires-in-15-clause-name
name_text-requires-in-15-clause-name c = (kind-mx _ _ _ _ c.in-15.is c.requires.whole c.requires.read).0

pub strings-requires : goal.strings-requires
strings-requires c =
    let count : c.args.at + c.args.len - c.args.at ≡ c.args.len = omega arith in
    rw count (kind-txt _ _ _ _ c.in-16.is c.requires.whole c.requires.read).0

pub soa-requires-clause-read : goal.soa-requires-clause-read
soa-requires-clause-read c = (kind-soa _ _ _ _ c.in-6.is c.requires.read).0

pub returns-in-1 : goal.returns-in-1
returns-in-1 c = rw c.u32_at.ensures (kind-a _ _ _ _ c.in-1.is c.requires.read).1

pub returns-in-28 : goal.returns-in-28
returns-in-28 c = rw (c.read_u128.ensures, take_rest) (kind-aaaa _ _ _ _ c.in-28.is c.requires.read).1

pub returns-in_ok-name_text-in-2 : goal.returns-in_ok-name_text-in-2
returns-in_ok-name_text-in-2 c =
    (kind-name _ _ _ _ c.in-2.is c.requires.whole c.requires.read).1 _ c.in_ok-name_text-in-2.ensures

pub returns-in_ok-name_text-in-15 : goal.returns-in_ok-name_text-in-15
returns-in_ok-name_text-in-15 c =
    rw c.u16_at.ensures ((kind-mx _ _ _ _ c.in-15.is c.requires.whole c.requires.read).1 _ c.in_ok-name_text-in-15.ensures)

pub returns-in_ok-strings-in-16 : goal.returns-in_ok-strings-in-16
returns-in_ok-strings-in-16 c =
    let count : c.args.at + c.args.len - c.args.at ≡ c.args.len = omega arith in
    (kind-txt _ _ _ _ c.in-16.is c.requires.whole c.requires.read).1 _ (rw count at c.in_ok-strings-in-16.ensures)

pub returns-in-6 : goal.returns-in-6
returns-in-6 c = same-told _ _ _ (kind-soa _ _ _ _ c.in-6.is c.requires.read).1 c.soa.ensures

pub returns-in_default : goal.returns-in_default
returns-in_default c = kind-other _ _ _ _
    (omega arith) (omega arith) (grind arith) (grind arith) (grind arith) (omega arith) (omega arith) (omega arith)
