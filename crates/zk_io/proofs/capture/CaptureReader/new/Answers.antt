use Rattle.std.proofs.Common.{◌≡◌, ◌-◌, ◌<◌, ◌^◌, ◌++◌, [], Ok, take, drop, length, refl, sym, ap, ◌∙◌, subst, arith, length-take-le, length-drop}
use Rattle.std.proofs.lemmas.List.{take-append-drop, take_all}
use Rattle.zk_pcap.proofs.HeaderLaws.{header_of-found}
use Rattle.zk_pcap.specs.Header.{HasHeader}
use Rattle.zk_pcap.specs.Standing.{StandsFor}
use Rattle.zk_io.proofs.CaptureReading.{behind_none}
use Rattle.zk_io.proofs.capture.CaptureReader.new.Goals as goal

pub returns : goal.returns
returns c whole now read =
    let bytes = c.args.front.now in
    let has : HasHeader bytes c.args.header = header_of-found bytes (Ok c.args.header) (sym c.requires.header) in
    let front = c.in_ok-feed.ensures.stands (take 24 bytes) (length-take-le 24 bytes has.whole) in
    let piece = take (length bytes - 24) (drop 24 bytes) in
    let join : take 24 bytes ++ piece ≡ bytes =
    ap (λ rest. take 24 bytes ++ rest) (take_all (length bytes - 24) (drop 24 bytes) (omega (arith, length-drop 24 bytes))) ∙ take-append-drop 24 bytes in
    let short : length (take 24 bytes ++ piece) < 2 ^ 64 = omega (arith, ap length join, c.requires.short) in
    let stands = subst (λ file. StandsFor c.push.new.self c.args.header file []) join (c.in_ok-push.ensures.ok c.args.header (take 24 bytes) [] front short) in
    record {
      header = c.args.header;
      packets = [];
      behind = behind_none whole c.args.header bytes _ now c.requires.header refl read stands (omega (arith, c.requires.short)) refl refl;
      are = refl;
    }
