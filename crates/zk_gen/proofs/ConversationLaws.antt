-- The records of packets that stand one behind another.
use Rattle.std.proofs.Common.{◌≡◌, ℕ, zero, suc, ◌+◌, ◌-◌, ◌%◌, ◌<◌, List, [], ◌∷◌, ◌++◌, refl, sym, ap, ◌∙◌, arith, append_assoc, append-nil}
use Rattle.zk_base.specs.declared.network.Side.{Side}
use Rattle.zk_gen.specs.declared.packet.Talk.{Talk}
use Rattle.zk_gen.specs.Conversations.{Packet, records, record_with, piece, byte_at, one_by_one}
use Rattle.zk_gen.specs.Capture.{conversations, conversation_of}

pub records-append : (talk : Talk) (ps qs : List Packet) → records talk (ps ++ qs) ≡ records talk ps ++ records talk qs
records-append talk [] qs = refl
records-append talk (p ∷ ps) qs = ap (λ rest. record_with talk p ++ rest) (records-append talk ps qs) ∙ sym (append_assoc (record_with talk p) (records talk ps) (records talk qs))

pub one_by_one-first : (talk : Talk) (side : Side) (early : ℕ) (message : List ℕ)
    → records talk (one_by_one side early message 0) ≡ record_with talk (piece (early + 5000) side 0 (byte_at 0 message))
unfolding one_by_one
one_by_one-first talk side early message = append-nil (record_with talk (piece (early + 5000) side 0 (byte_at 0 message)))

pub one_by_one-next : (talk : Talk) (side : Side) (early : ℕ) (message : List ℕ) (n : ℕ) → 0 < n
    → records talk (one_by_one side early message n)
    ≡ record_with talk (piece early side n (byte_at n message)) ++ (record_with talk (piece early side n (byte_at n message)) ++ records talk (one_by_one side early message (n - 1)))
unfolding one_by_one
one_by_one-next talk side early message zero above = absurd (omega arith)
one_by_one-next talk side early message (suc n) above =
    let e : n ≡ suc n - 1 = omega arith in
    ap (λ m. record_with talk (piece early side (suc n) (byte_at (suc n) message)) ++ (record_with talk (piece early side (suc n) (byte_at (suc n) message)) ++ records talk (one_by_one side early message m))) e

pub conversations-none : (start k : ℕ) → conversations start k 0 ≡ []
unfolding conversations
conversations-none start k = refl

pub conversations-next : (start k n : ℕ) → 0 < n → conversations start k n ≡ conversation_of ((start + k) % 3) k ++ conversations start (k + 1) (n - 1)
unfolding conversations
conversations-next start k zero above = absurd (omega arith)
conversations-next start k (suc n) above =
    let e : n ≡ suc n - 1 = omega arith in ap (λ m. conversation_of ((start + k) % 3) k ++ conversations start (k + 1) m) e
