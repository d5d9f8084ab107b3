-- The removal moment of an instance, and what packets do by it.
use Rattle.std.proofs.Common.{◌≡◌, ℕ, ◌+◌, ◌^◌, ◌≤◌, ℤ, pos, negsuc, min, ◌+ℤ◌, ◌≤ℤ◌, Bool, true, false, cond, not, ◌&&◌, ◌||◌, List, Some, sym, ap, ◌∙◌, arith}
use Rattle.std.specs.Int.{saturate_signed, w64}
use Rattle.std.specs.Option.{option_map}
use Rattle.std.proofs.lemmas.Int.{ints}
use Rattle.zk_base.specs.declared.network.Side.TheVariants.{Orig}
use Rattle.zk_base.specs.declared.time.Moment.{Moment}
use Rattle.zk_conn.specs.declared.half.Half.{Half}
use Rattle.zk_conn.specs.declared.half.StreamEnd.{StreamEnd}
use Rattle.zk_conn.specs.declared.instance.Instance.{Instance}
use Rattle.zk_conn.specs.declared.key.Key.{Key}
use Rattle.zk_conn.specs.Half.{half_of}
use Rattle.zk_conn.specs.Holds.{Holds, removal_of}
use Rattle.zk_conn.specs.Instance.{originator, last_moment, wait, removal_from, removal_moment, moment_plus}
use Rattle.zk_conn.specs.Segment.{is_tcp}
use Rattle.zk_conn.specs.State.{is_open, is_rst}
use Rattle.zk_conn.specs.Told.{Told}

-- a wait is short
wait-small : (tcp : Bool) (o r : StreamEnd) → wait tcp o r ≤ 300000000
wait-small tcp o r = by_cases (is_rst o || is_rst r || (not (is_open o) && not (is_open r))) tcp
  where
    by_cases : (b c : Bool) → cond b 5000000 (cond c 300000000 60000000) ≤ 300000000
    by_cases true c = omega arith
    by_cases false true = omega arith
    by_cases false false = omega arith

-- no sum of a moment that is allowed and a wait is cut
saturated : (last : ℤ) (n : ℕ) → pos 0 ≤ℤ last → last ≤ℤ pos (2 ^ 62) → n ≤ 300000000 → saturate_signed w64 (last +ℤ pos n) ≡ last +ℤ pos n
saturated (pos m) n early late short = ap pos (let same : min (m + n) 9223372036854775807 ≡ m + n = grind (arith, bound m late, short) in same)
  where
    bound : (k : ℕ) → pos k ≤ℤ pos (2 ^ 62) → k ≤ 4611686018427387904
    bound k late = omega (arith, ints)
saturated (negsuc m) n early late short = absurd (omega (arith, ints))

-- an instance is removed at the removal moment of its connection
pub removal_moment-is : (instance : Instance) (events : List Told) → Holds instance events → pos 0 ≤ℤ instance.last.0 → instance.last.0 ≤ℤ pos (2 ^ 62)
    → removal_moment events ≡ Some (removal_of instance)
unfolding removal_of
removal_moment-is instance events holds early late =
    ap (option_map (λ first. removal_from first events)) holds.begun
    ∙ ap Some (sym
    (ap (λ (z : ℤ). let m : Moment = record { 0 = z } in m) (saturated instance.last.0 (wait (is_tcp instance.key.proto) instance.orig.end instance.resp.end) early late (wait-small (is_tcp instance.key.proto) instance.orig.end instance.resp.end))
    ∙ ap (λ m. moment_plus m (wait (is_tcp instance.key.proto) instance.orig.end instance.resp.end)) holds.has.last_is
    ∙ ap (λ (k : Key). moment_plus (last_moment holds.first events) (wait (is_tcp k.proto) instance.orig.end instance.resp.end)) holds.has.key_is
    ∙ ap (λ (h : Half). moment_plus (last_moment holds.first events) (wait (is_tcp holds.first.packet.proto) h.end instance.resp.end)) holds.has.orig_is
    ∙ ap (λ (h : Half). moment_plus (last_moment holds.first events) (wait (is_tcp holds.first.packet.proto) (half_of (originator holds.first.packet) Orig events).end h.end)) holds.has.resp_is))
