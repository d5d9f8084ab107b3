-- A packet whose bytes are borrowed as the packet that it is, and the captured packet that a record is.
use Rattle.zk_base.specs.Captured.{Captured}
use Rattle.zk_base.specs.declared.capture.PacketView.{PacketView}
use Rattle.zk_pcap.specs.declared.headers.Header.{Header}
use Rattle.zk_pcap.specs.declared.records.Packet.{Packet}

abbrev pub packet_of : PacketView → Packet
packet_of view = record { moment = view.moment; orig_len = view.orig_len; bytes = view.bytes.now; place = view.place }

-- what was captured of a packet in a file with this header, whose link type counts for each record
abbrev pub recorded : Header → Packet → Captured
recorded header packet = record { moment = packet.moment; orig_len = packet.orig_len; bytes = packet.bytes; link = header.link }
