-- Packets that stand one behind another.
use Rattle.std.proofs.Common.{◌≡◌, ℕ, zero, suc, ◌+◌, ◌<◌, ◌≤◌, List, [], ◌∷◌, ◌++◌, length, Option, Some, None, refl, sym, ap, ◌∙◌, arith}
use Rattle.std.specs.Option.{option_map_or}
use Rattle.std.specs.List.{All}
use Rattle.std.proofs.lemmas.List.Elements.{All-nil, All-cons}
use Rattle.zk_pcap.specs.declared.records.Packet.{Packet}
use Rattle.zk_pcap.specs.Record.{end_of}
use Rattle.zk_pcap.specs.Capture.{packets_from, end_from, StandBetween}

-- one more packet stands behind them
pub stand_more : (read : ℕ → Option Packet) (from : ℕ) (packets : List Packet) (to : ℕ) (packet : Packet)
    → StandBetween read from packets to → read to ≡ Some packet → StandBetween read from (packets ++ packet ∷ []) (end_of packet)
stand_more read from [] to packet stand here = (ap read stand ∙ here, refl)
stand_more read from (p ∷ packets) to packet stand here =
    (stand.0, stand_more read (end_of p) packets to packet stand.1 here)

-- the place behind the last of them
pub end_from-stand : (read : ℕ → Option Packet) (from : ℕ) (packets : List Packet) (to : ℕ)
    → StandBetween read from packets to → end_from from packets ≡ to
end_from-stand read from [] to stand = stand
end_from-stand read from (p ∷ packets) to stand = end_from-stand read (end_of p) packets to stand.1

-- where no record follows, they are all that stand there
pub packets_from-stand : (n : ℕ) (read : ℕ → Option Packet) (from : ℕ) (packets : List Packet) (to : ℕ)
    → StandBetween read from packets to → read to ≡ None → length packets ≤ n → packets_from n read from ≡ packets
packets_from-stand zero read from [] to stand no_more enough = refl
packets_from-stand (suc n) read from [] to stand no_more enough = rw (ap read stand ∙ no_more) refl
packets_from-stand zero read from (p ∷ packets) to stand no_more enough = absurd (omega arith)
packets_from-stand (suc n) read from (p ∷ packets) to stand no_more enough =
    rw stand.0 (ap (λ (ps : List Packet). p ∷ ps) (packets_from-stand n read (end_of p) packets to stand.1 no_more (omega arith)))

-- so there are no others
pub stand_alone : (read : ℕ → Option Packet) (from : ℕ) (ps qs : List Packet) (end_p end_q : ℕ)
    → StandBetween read from ps end_p → read end_p ≡ None → StandBetween read from qs end_q → read end_q ≡ None → ps ≡ qs
stand_alone read from ps qs end_p end_q stand_p no_more_p stand_q no_more_q =
    sym (packets_from-stand (length ps + length qs) read from ps end_p stand_p no_more_p (omega arith))
    ∙ packets_from-stand (length ps + length qs) read from qs end_q stand_q no_more_q (omega arith)

-- each of them ends at a later place than it begins at
pub length-stand : (read : ℕ → Option Packet) → ((place : ℕ) (p : Packet) → read place ≡ Some p → place < end_of p)
    → (from : ℕ) (packets : List Packet) (to : ℕ) → StandBetween read from packets to → from + length packets ≤ to
length-stand read later from [] to stand = omega arith
length-stand read later from (p ∷ packets) to stand =
    let here = later from p stand.0 in
    let rest = length-stand read later (end_of p) packets to stand.1 in
    omega arith

-- what holds of each record holds of each of them
pub all-stand : (P : Packet → Type 0) (read : ℕ → Option Packet) → ((place : ℕ) (p : Packet) → read place ≡ Some p → P p)
    → (from : ℕ) (packets : List Packet) (to : ℕ) → StandBetween read from packets to → All P packets
all-stand P read each from [] to stand = All-nil P
all-stand P read each from (p ∷ packets) to stand =
    All-cons P p packets (each from p stand.0) (all-stand P read each (end_of p) packets to stand.1)

-- the packets from a place on, n + 1 of them at most, where this is read there
abbrev packets_with : ℕ → (ℕ → Option Packet) → Option Packet → List Packet
packets_with n read found = option_map_or (λ packet. packet ∷ packets_from n read (end_of packet)) found []

-- the packets of the definition stand one behind another
pub packets_from-stands : (n : ℕ) (read : ℕ → Option Packet) (from : ℕ) → StandBetween read from (packets_from n read from) (end_from from (packets_from n read from))
packets_from-stands zero read from = refl
packets_from-stands (suc n) read from =
    elim (read from) as (λ found. read from ≡ found → StandBetween read from (packets_with n read found) (end_from from (packets_with n read found))) [
      | None ↦ λ none. refl
      | Some p ↦ λ here. (here, packets_from-stands n read (end_of p))
    ] refl

-- and no record follows them, where none begins from a limit on and n reaches it
pub packets_from-no_more : (n : ℕ) (read : ℕ → Option Packet) → ((place : ℕ) (p : Packet) → read place ≡ Some p → place < end_of p)
    → (limit : ℕ) → ((place : ℕ) → limit ≤ place → read place ≡ None) → (from : ℕ) → limit ≤ from + n
    → read (end_from from (packets_from n read from)) ≡ None
packets_from-no_more zero read later limit none from enough = none from (omega arith)
packets_from-no_more (suc n) read later limit none from enough =
    elim (read from) as (λ found. read from ≡ found → read (end_from from (packets_with n read found)) ≡ None) [
      | None ↦ λ here. here
      | Some p ↦ λ here. packets_from-no_more n read later limit none (end_of p) (let behind = later from p here in omega arith)
    ] refl
