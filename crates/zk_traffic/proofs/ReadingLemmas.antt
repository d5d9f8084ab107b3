-- What reads a connection's streams: readers, or nothing where no protocol is spoken.
use Rattle.std.proofs.Common.{◌≡◌, ◌++◌, ℕ, zero, suc, [], List, Option, None, Some, refl, sym, subst, ap, ◌∙◌, append-nil, arith}
use Rattle.std.specs.Option.{option_map_or}
use Rattle.zk_base.specs.declared.network.Side.{Side}
use Rattle.zk_http.specs.Places.{Both, Stream}
use Rattle.zk_traffic.specs.declared.reading.Reading.{Reading}
use Rattle.zk_traffic.specs.Reading.{Reads, StandsBy, StandsFor, held_in, readers_in}
use Rattle.zk_units.specs.declared.protocol.Protocol.{Protocol}
use Rattle.zk_units.specs.declared.stream_unit.Freed.{Freed}
use Rattle.zk_units.specs.declared.stream_unit.StreamUnit.{StreamUnit}
use Rattle.zk_units.specs.Standing as units
use Rattle.zk_units.specs.Units.{add_all, all_freed, bytes_unread, many, next_unit, units_freed}

-- where there are no readers no protocol is spoken
none_stands : (P : Option Protocol → Type 0) (protocol : Option Protocol) (streams : Both Stream) (given : Both (List StreamUnit))
    → StandsBy None protocol streams given → P None → P protocol
none_stands P None streams given stands then = then
none_stands P (Some protocol) streams given stands then = absurd stands

-- a connection that speaks nothing frees nothing
none_freed : (n : ℕ) (first : Side) (streams : Both Stream) (given : Both (List StreamUnit)) → units_freed n None first streams given ≡ []
unfolding units_freed next_unit
none_freed zero first streams given = refl
none_freed (suc n) first streams given = refl

none_unread : (side : Side) (streams : Both Stream) (given : Both (List StreamUnit)) → bytes_unread None side streams given ≡ 0
unfolding bytes_unread
none_unread side streams given = refl

none_held : (side : Side) (reading : Reading) → readers_in reading ≡ None → held_in side reading ≡ 0
unfolding held_in
none_held side reading is = ap (λ r. option_map_or (units.held_in side) r 0) is

pub reads_nothing : (first : Side) (old new : Reading) (before : List Freed) → readers_in old ≡ None → readers_in new ≡ None
    → (protocol : Option Protocol) (streams : Both Stream) (given : Both (List StreamUnit)) → StandsFor old protocol streams given → Reads first old new before before protocol streams given
unfolding StandsFor
reads_nothing first old new before old_is new_is protocol streams given stands =
    none_stands (λ p. Reads first old new before before p streams given) protocol streams given (subst (λ r. StandsBy r protocol streams given) old_is stands)
    (record {
      given = sym (append-nil before) ∙ ap (λ l. before ++ l) (sym (none_freed many first streams given));
      stands = subst (λ r. StandsBy r None streams (add_all (all_freed None first streams given) given)) (sym new_is) tt;
      few = λ side. omega (arith, none_held side new new_is);
      left = λ side. none_held side new new_is ∙ sym (none_unread side streams (add_all (all_freed None first streams given) given));
    })
