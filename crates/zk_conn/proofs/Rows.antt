-- Connections that show what the definitions of `Instance` and `Histories` say.
use Rattle.std.proofs.Common.{◌≡◌, ℕ, ◌*◌, pos, List, [], ◌∷◌, ◌++◌, true, false, Option, Some, None, refl}
use Rattle.std.specs.Prelude.{codes}
use Rattle.std.specs.Option.{option_map}
use Rattle.zk_base.specs.declared.network.Addr.TheVariants.{V4}
use Rattle.zk_base.specs.declared.network.Proto.{Proto}
use Rattle.zk_base.specs.declared.network.Proto.TheVariants.{Tcp, Udp}
use Rattle.zk_base.specs.declared.network.Side.TheVariants.{Orig, Resp}
use Rattle.zk_base.specs.declared.time.Moment.{Moment}
use Rattle.zk_conn.specs.declared.facts.ConnState.{ConnState}
use Rattle.zk_conn.specs.declared.facts.ConnState.TheVariants as state
use Rattle.zk_conn.specs.declared.facts.Facts.{Facts}
use Rattle.zk_conn.specs.declared.key.Key.{Key}
use Rattle.zk_conn.specs.Histories.{number_of, touched_of}
use Rattle.zk_conn.specs.Instance.{facts_of, removal_moment}
use Rattle.zk_conn.specs.Segment.{key_with}
use Rattle.zk_conn.specs.Told.{Told, Packet, Front, Reached}

-- a moment some milliseconds after the first
abbrev at : ℕ → Moment
at milliseconds = record { 0 = pos (1000 * milliseconds) }

-- a packet of the client 10.0.0.1:40001 to the server 10.0.0.80:80
abbrev client : Proto → ℕ → ℕ → ℕ → Told
client proto milliseconds flags payload = Packet (at milliseconds) (record {
  src = V4 0x0a000001;
  dst = V4 0x0a000050;
  sport = 40001;
  dport = 80;
  proto = proto;
  flags = flags;
  seq = 0;
  payload_len = payload;
  ip_len = 40;
})

-- and back
abbrev server : Proto → ℕ → ℕ → ℕ → Told
server proto milliseconds flags payload = Packet (at milliseconds) (record {
  src = V4 0x0a000050;
  dst = V4 0x0a000001;
  sport = 80;
  dport = 40001;
  proto = proto;
  flags = flags;
  seq = 0;
  payload_len = payload;
  ip_len = 40;
})

-- what the rows show of the facts
record Shown : Type 0 where
  state : ConnState
  history : List ℕ
  orig : Option ℕ
  resp : Option ℕ

abbrev shown : List Told → Option Shown
shown events = option_map (λ (f : Facts). record { state = f.state; history = f.history; orig = f.orig.size; resp = f.resp.size }) (facts_of events)

abbrev key_tcp : Key
key_tcp = key_with Tcp (record { addr = V4 0x0a000001; port = 40001 }) (record { addr = V4 0x0a000050; port = 80 })

abbrev key_udp : Key
key_udp = key_with Udp (record { addr = V4 0x0a000001; port = 40001 }) (record { addr = V4 0x0a000050; port = 80 })

-- the originator's SYN alone
alone : List Told
alone = client Tcp 0 2 0 ∷ []

alone-shown : shown alone ≡ Some (record { state = state.S0; history = codes "S"; orig = Some 0; resp = None })
unfolding alone
alone-shown = refl

alone-removal : removal_moment alone ≡ Some (at 300000)
unfolding alone
alone-removal = refl

-- established, nothing closed
established : List Told
established = client Tcp 0 2 0 ∷ server Tcp 10 18 0 ∷ client Tcp 20 16 0 ∷ []

established-shown : shown established ≡ Some (record { state = state.S1; history = codes "ShA"; orig = Some 0; resp = Some 0 })
unfolding established
established-shown = refl

established-removal : removal_moment established ≡ Some (at 300020)
unfolding established
established-removal = refl

-- the originator's stream reached its FIN: one end is not enough for 5 s
half_closed : List Told
half_closed = client Tcp 0 2 0 ∷ server Tcp 10 18 0 ∷ client Tcp 20 17 0 ∷ Reached key_tcp Orig ∷ []

half_closed-shown : shown half_closed ≡ Some (record { state = state.S2; history = codes "ShF"; orig = Some 0; resp = Some 0 })
unfolding half_closed
half_closed-shown = refl

half_closed-removal : removal_moment half_closed ≡ Some (at 300020)
unfolding half_closed
half_closed-removal = refl

-- the responder's stream reached its FIN
half_closed_back : List Told
half_closed_back = client Tcp 0 2 0 ∷ server Tcp 10 18 0 ∷ server Tcp 20 17 0 ∷ Reached key_tcp Resp ∷ []

half_closed_back-shown : shown half_closed_back ≡ Some (record { state = state.S3; history = codes "Shf"; orig = Some 0; resp = Some 0 })
unfolding half_closed_back
half_closed_back-shown = refl

half_closed_back-removal : removal_moment half_closed_back ≡ Some (at 300020)
unfolding half_closed_back
half_closed_back-removal = refl

-- both streams reached their FINs
finished : List Told
finished = client Tcp 0 2 0 ∷ server Tcp 10 18 0 ∷ client Tcp 20 16 32 ∷ Front key_tcp Orig 32 ∷ server Tcp 30 16 40 ∷ Front key_tcp Resp 40 ∷ client Tcp 40 17 0 ∷ Reached key_tcp Orig ∷ server Tcp 50 17 0 ∷ Reached key_tcp Resp ∷ client Tcp 60 16 0 ∷ []

finished-shown : shown finished ≡ Some (record { state = state.SF; history = codes "ShDdFfA"; orig = Some 32; resp = Some 40 })
unfolding finished
finished-shown = refl

finished-removal : removal_moment finished ≡ Some (at 5060)
unfolding finished
finished-removal = refl

-- the SYN is answered by an RST
rejected : List Told
rejected = client Tcp 0 2 0 ∷ server Tcp 10 20 0 ∷ []

rejected-shown : shown rejected ≡ Some (record { state = state.REJ; history = codes "Sr"; orig = Some 0; resp = None })
unfolding rejected
rejected-shown = refl

rejected-removal : removal_moment rejected ≡ Some (at 5010)
unfolding rejected
rejected-removal = refl

-- a SYN and then an RST of the originator
reset_before_an_answer : List Told
reset_before_an_answer = client Tcp 0 2 0 ∷ client Tcp 10 4 0 ∷ []

reset_before_an_answer-shown : shown reset_before_an_answer ≡ Some (record { state = state.RSTOS0; history = codes "SR"; orig = Some 0; resp = None })
unfolding reset_before_an_answer
reset_before_an_answer-shown = refl

reset_before_an_answer-removal : removal_moment reset_before_an_answer ≡ Some (at 5010)
unfolding reset_before_an_answer
reset_before_an_answer-removal = refl

-- a SYN with ACK and then an RST, the originator's SYN not seen
reset_after_a_syn_ack : List Told
reset_after_a_syn_ack = server Tcp 0 18 0 ∷ server Tcp 10 4 0 ∷ []

reset_after_a_syn_ack-shown : shown reset_after_a_syn_ack ≡ Some (record { state = state.RSTRH; history = codes "hr"; orig = None; resp = Some 0 })
unfolding reset_after_a_syn_ack
reset_after_a_syn_ack-shown = refl

reset_after_a_syn_ack-removal : removal_moment reset_after_a_syn_ack ≡ Some (at 5010)
unfolding reset_after_a_syn_ack
reset_after_a_syn_ack-removal = refl

-- established, and reset by the originator
reset_by_the_originator : List Told
reset_by_the_originator = client Tcp 0 2 0 ∷ server Tcp 10 18 0 ∷ client Tcp 20 4 0 ∷ []

reset_by_the_originator-shown : shown reset_by_the_originator ≡ Some (record { state = state.RSTO; history = codes "ShR"; orig = Some 0; resp = Some 0 })
unfolding reset_by_the_originator
reset_by_the_originator-shown = refl

reset_by_the_originator-removal : removal_moment reset_by_the_originator ≡ Some (at 5020)
unfolding reset_by_the_originator
reset_by_the_originator-removal = refl

-- established, and reset by the responder
reset_by_the_responder : List Told
reset_by_the_responder = client Tcp 0 2 0 ∷ server Tcp 10 18 0 ∷ server Tcp 20 4 0 ∷ []

reset_by_the_responder-shown : shown reset_by_the_responder ≡ Some (record { state = state.RSTR; history = codes "Shr"; orig = Some 0; resp = Some 0 })
unfolding reset_by_the_responder
reset_by_the_responder-shown = refl

reset_by_the_responder-removal : removal_moment reset_by_the_responder ≡ Some (at 5020)
unfolding reset_by_the_responder
reset_by_the_responder-removal = refl

-- a SYN and then a FIN, reached by the stream, with no answer
half_open_fin : List Told
half_open_fin = client Tcp 0 2 0 ∷ client Tcp 10 17 0 ∷ Reached key_tcp Orig ∷ []

half_open_fin-shown : shown half_open_fin ≡ Some (record { state = state.SH; history = codes "SF"; orig = Some 0; resp = None })
unfolding half_open_fin
half_open_fin-shown = refl

half_open_fin-removal : removal_moment half_open_fin ≡ Some (at 300010)
unfolding half_open_fin
half_open_fin-removal = refl

-- a SYN with ACK and then a FIN, reached by the stream, the originator's SYN not seen
half_open_fin_back : List Told
half_open_fin_back = server Tcp 0 18 0 ∷ server Tcp 10 17 0 ∷ Reached key_tcp Resp ∷ []

half_open_fin_back-shown : shown half_open_fin_back ≡ Some (record { state = state.SHR; history = codes "hf"; orig = None; resp = Some 0 })
unfolding half_open_fin_back
half_open_fin_back-shown = refl

half_open_fin_back-removal : removal_moment half_open_fin_back ≡ Some (at 300010)
unfolding half_open_fin_back
half_open_fin_back-removal = refl

-- from the middle of a connection
middle : List Told
middle = client Tcp 0 16 5 ∷ server Tcp 10 16 0 ∷ []

middle-shown : shown middle ≡ Some (record { state = state.OTH; history = codes "Da"; orig = None; resp = None })
unfolding middle
middle-shown = refl

middle-removal : removal_moment middle ≡ Some (at 300010)
unfolding middle
middle-removal = refl

-- a FIN packet closes the end of a side without a SYN, and both ends closed wait 5 s
middle_fins : List Told
middle_fins = client Tcp 0 17 0 ∷ server Tcp 10 17 0 ∷ []

middle_fins-shown : shown middle_fins ≡ Some (record { state = state.OTH; history = codes "Ff"; orig = None; resp = None })
unfolding middle_fins
middle_fins-shown = refl

middle_fins-removal : removal_moment middle_fins ≡ Some (at 5010)
unfolding middle_fins
middle_fins-removal = refl

-- UDP that has no answer, also without payload
udp_alone : List Told
udp_alone = client Udp 0 0 0 ∷ []

udp_alone-shown : shown udp_alone ≡ Some (record { state = state.S0; history = codes "D"; orig = Some 0; resp = None })
unfolding udp_alone
udp_alone-shown = refl

udp_alone-removal : removal_moment udp_alone ≡ Some (at 60000)
unfolding udp_alone
udp_alone-removal = refl

-- UDP with an answer; flags are not looked at
udp_answered : List Told
udp_answered = client Udp 0 7 33 ∷ server Udp 20 4 63 ∷ []

udp_answered-shown : shown udp_answered ≡ Some (record { state = state.SF; history = codes "Dd"; orig = Some 33; resp = Some 63 })
unfolding udp_answered
udp_answered-shown = refl

udp_answered-removal : removal_moment udp_answered ≡ Some (at 60020)
unfolding udp_answered
udp_answered-removal = refl

-- an RST of a side whose end is Fin resets nothing
rst_after_fin : List Told
rst_after_fin = client Tcp 0 2 0 ∷ server Tcp 10 18 0 ∷ client Tcp 20 17 0 ∷ Reached key_tcp Orig ∷ client Tcp 30 4 0 ∷ []

rst_after_fin-shown : shown rst_after_fin ≡ Some (record { state = state.S2; history = codes "ShFR"; orig = Some 0; resp = Some 0 })
unfolding rst_after_fin
rst_after_fin-shown = refl

rst_after_fin-removal : removal_moment rst_after_fin ≡ Some (at 300030)
unfolding rst_after_fin
rst_after_fin-removal = refl

-- beside an RST a FIN counts for the history alone
fin_beside_rst : List Told
fin_beside_rst = server Tcp 0 16 0 ∷ server Tcp 10 5 0 ∷ []

fin_beside_rst-shown : shown fin_beside_rst ≡ Some (record { state = state.OTH; history = codes "AFR"; orig = None; resp = None })
unfolding fin_beside_rst
fin_beside_rst-shown = refl

fin_beside_rst-removal : removal_moment fin_beside_rst ≡ Some (at 5010)
unfolding fin_beside_rst
fin_beside_rst-removal = refl

-- one microsecond before the removal moment a packet goes on with its instance, and at it a packet begins the next
abbrev latest_after : ℕ → ℕ
latest_after microseconds = number_of key_tcp (alone ++ Packet (record { 0 = pos microseconds }) (record {
  src = V4 0x0a000050;
  dst = V4 0x0a000001;
  sport = 80;
  dport = 40001;
  proto = Tcp;
  flags = 16;
  seq = 0;
  payload_len = 0;
  ip_len = 40;
}) ∷ [])

goes_on_before_it : latest_after 299999999 ≡ 1
unfolding alone
goes_on_before_it = refl

begins_at_it : latest_after 300000000 ≡ 2
unfolding alone
begins_at_it = refl

-- instances are numbered over all keys by their first packets
two_keys : List Told
two_keys = client Tcp 0 2 0 ∷ client Udp 0 0 0 ∷ server Tcp 0 18 0 ∷ []

two_keys-tcp : number_of key_tcp two_keys ≡ 1
unfolding two_keys
two_keys-tcp = refl

two_keys-udp : number_of key_udp two_keys ≡ 2
unfolding two_keys
two_keys-udp = refl

-- what packets do
establishes : touched_of (client Tcp 0 2 0 ∷ []) (at 10) (record {
  src = V4 0x0a000050;
  dst = V4 0x0a000001;
  sport = 80;
  dport = 40001;
  proto = Tcp;
  flags = 18;
  seq = 0;
  payload_len = 0;
  ip_len = 40;
}) ≡ record { conn = record { 0 = 1 }; side = Resp; opened = false; established = true; reset = false; ended = false }
establishes = refl

ends : touched_of [] (at 10) (record {
  src = V4 0x0a000050;
  dst = V4 0x0a000001;
  sport = 80;
  dport = 40001;
  proto = Tcp;
  flags = 17;
  seq = 0;
  payload_len = 0;
  ip_len = 40;
}) ≡ record { conn = record { 0 = 1 }; side = Orig; opened = true; established = false; reset = false; ended = true }
ends = refl

resets : touched_of established (at 30) (record {
  src = V4 0x0a000050;
  dst = V4 0x0a000001;
  sport = 80;
  dport = 40001;
  proto = Tcp;
  flags = 4;
  seq = 0;
  payload_len = 0;
  ip_len = 40;
}) ≡ record { conn = record { 0 = 1 }; side = Resp; opened = false; established = false; reset = true; ended = false }
unfolding established
resets = refl
