use Rattle.std.proofs.Common.{◌≡◌, ℕ, List, ◌∷◌, ◌++◌, codes, refl, sym, append_assoc}
use Rattle.zk_text.specs.Backward.{written}
use Rattle.zk_text.proofs.backward.Backward.put_octets.Goals as goal

-- numbers and the dots behind them, each before what stands behind it
dots : (a b c d rest : List ℕ) → a ++ codes "." ++ b ++ codes "." ++ c ++ codes "." ++ d ++ rest ≡ a ++ (46 ∷ (b ++ (46 ∷ (c ++ (46 ∷ (d ++ rest))))))
dots a b c d rest = simp append_assoc refl

pub returns-clause-written : goal.returns-clause-written
returns-clause-written c =
    rw (c.put_octet-4.ensures.written, c.put_byte-3.ensures.written, c.put_octet-3.ensures.written, c.put_byte-2.ensures.written, c.put_octet-2.ensures.written, c.put_byte.ensures.written, c.put_octet.ensures.written)
    (sym (dots _ _ _ _ (written c.args.self.now)))
