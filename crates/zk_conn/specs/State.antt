-- The state of a connection: the first row of a table that fits. The names are Zeek's, the rows this project's own.
use Rattle.std.specs.Prelude.{Bool, true, false, not, ◌&&◌, if◌then◌else◌}
use Rattle.zk_conn.specs.declared.facts.ConnState.{ConnState}
use Rattle.zk_conn.specs.declared.facts.ConnState.TheVariants as state
use Rattle.zk_conn.specs.declared.half.StreamEnd.{StreamEnd}
use Rattle.zk_conn.specs.declared.half.StreamEnd.TheVariants.{Open, Fin, Rst}
use Rattle.zk_conn.specs.declared.half.SynSent.{SynSent}
use Rattle.zk_conn.specs.declared.half.SynSent.TheVariants.{No, Syn, SynAck}

abbrev pub is_no : SynSent → Bool
is_no No = true
is_no Syn = false
is_no SynAck = false

abbrev pub is_syn : SynSent → Bool
is_syn No = false
is_syn Syn = true
is_syn SynAck = false

abbrev pub is_syn_ack : SynSent → Bool
is_syn_ack No = false
is_syn_ack Syn = false
is_syn_ack SynAck = true

abbrev pub is_open : StreamEnd → Bool
is_open Open = true
is_open Fin = false
is_open Rst = false

abbrev pub is_fin : StreamEnd → Bool
is_fin Open = false
is_fin Fin = true
is_fin Rst = false

abbrev pub is_rst : StreamEnd → Bool
is_rst Open = false
is_rst Fin = false
is_rst Rst = true

-- what the table looks at of a side
pub record SideFacts : Type 0 where
  pub syn : SynSent
  pub spoke : Bool
  pub end : StreamEnd

-- the originator sent a SYN and the responder one with ACK
abbrev pub are_established : SideFacts → SideFacts → Bool
are_established o r = is_syn o.syn && is_syn_ack r.syn

abbrev pub tcp_state : SideFacts → SideFacts → ConnState
tcp_state o r =
    if is_syn o.syn && is_no r.syn && is_rst r.end then state.REJ
    else if is_syn o.syn && is_no r.syn && is_rst o.end then state.RSTOS0
    else if is_syn_ack r.syn && is_no o.syn && is_rst r.end then state.RSTRH
    else if are_established o r && is_rst o.end then state.RSTO
    else if are_established o r && is_rst r.end then state.RSTR
    else if are_established o r && is_fin o.end && is_fin r.end then state.SF
    else if are_established o r && is_fin o.end then state.S2
    else if are_established o r && is_fin r.end then state.S3
    else if are_established o r then state.S1
    else if is_syn o.syn && is_no r.syn && is_fin o.end then state.SH
    else if is_syn_ack r.syn && is_no o.syn && is_fin r.end then state.SHR
    else if is_syn o.syn && not r.spoke then state.S0
    else state.OTH

abbrev pub state_of : Bool → SideFacts → SideFacts → ConnState
state_of tcp o r = if tcp then tcp_state o r else if r.spoke then state.SF else state.S0
