use Rattle.std.proofs.Common.{◌≡◌, ◌∙◌, Option, ℕ, Some, None, nat_lt, is_some, refl, sym, ap, rules}
use Rattle.zk_builtin.proofs.FindLemmas.{place_of, strstr-found}
use Rattle.zk_builtin.proofs.relations.is_within.Goals as goal

-- a place is there exactly where one is counted
found : (r : Option ℕ) → is_some r ≡ nat_lt 0 (place_of r)
found (Some place) = search rules
found None = refl

pub returns : goal.returns
returns c =
    c.is_some.ensures ∙ (found c.find.result ∙ sym (ap (nat_lt 0) (strstr-found c.args.big.now c.args.little.now c.find.result c.find.ensures)))
