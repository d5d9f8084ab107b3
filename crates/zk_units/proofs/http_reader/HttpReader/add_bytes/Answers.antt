use Rattle.std.proofs.Common.{◌≡◌, ◌+◌, length, Some, refl, sym, ap, ◌∙◌}
use Rattle.std.proofs.lemmas.List.{length-map}
use Rattle.zk_base.specs.Places.{Place}
use Rattle.zk_base.specs.declared.network.Side.TheVariants.{Orig, Resp}
use Rattle.zk_units.specs.Cuts.{byte_places}
use Rattle.zk_units.specs.HttpTurns.{Fits}
use Rattle.zk_units.proofs.HttpReaderLemmas.{fits_grown, fits_still, grown_at_orig, grown_at_resp, ok_or_err_on, on_both, on_ok}
use Rattle.zk_units.proofs.http_reader.HttpReader.add_bytes.Goals as goal

pub invariant_of-self : goal.invariant_of-self
invariant_of-self c =
    let len : length (byte_places c.args.bytes.now) ≡ length c.args.bytes.now = length-map {B = Place} c.args.bytes.now (λ byte. Some byte) in
    record {
      orig_fits = ok_or_err_on (Fits Orig c.args.self.now.http c.add_bytes.new.self) c.add_bytes.result (on_both c.add_bytes.result c.add_bytes.ensures.places c.add_bytes.ensures.front
          (λ places front. fits_grown Orig c.args.self.now.http c.args.self.now.orig c.add_bytes.new.self (byte_places c.args.bytes.now) c.args.self.now.orig_fits places (front ∙ ap (λ n. c.args.self.now.orig.front + n) (sym len))))
          (λ e. e) c.add_bytes.ensures.memory (fits_still Orig c.args.self.now.http c.args.self.now.orig c.add_bytes.new.self c.args.self.now.orig_fits);
      resp_fits = c.args.self.now.resp_fits;
    }

pub returns-in-Orig : goal.returns-in-Orig
returns-in-Orig c = on_ok c.add_bytes.result c.add_bytes.ensures.places (λ grown.
    grown_at_orig c.args.side c.args.self.now _ (byte_places c.args.bytes.now) c.in-Orig.is refl refl grown c.add_bytes.ensures.ended)

pub invariant_of-self-in-Resp : goal.invariant_of-self-in-Resp
invariant_of-self-in-Resp c =
    let len : length (byte_places c.args.bytes.now) ≡ length c.args.bytes.now = length-map {B = Place} c.args.bytes.now (λ byte. Some byte) in
    record {
      resp_fits = ok_or_err_on (Fits Resp c.args.self.now.http c.add_bytes-in-Resp.new.self) c.add_bytes-in-Resp.result (on_both c.add_bytes-in-Resp.result c.add_bytes-in-Resp.ensures.places c.add_bytes-in-Resp.ensures.front
          (λ places front. fits_grown Resp c.args.self.now.http c.args.self.now.resp c.add_bytes-in-Resp.new.self (byte_places c.args.bytes.now) c.args.self.now.resp_fits places (front ∙ ap (λ n. c.args.self.now.resp.front + n) (sym len))))
          (λ e. e) c.add_bytes-in-Resp.ensures.memory (fits_still Resp c.args.self.now.http c.args.self.now.resp c.add_bytes-in-Resp.new.self c.args.self.now.resp_fits);
      orig_fits = c.args.self.now.orig_fits;
    }

pub returns-in-Resp : goal.returns-in-Resp
returns-in-Resp c = on_ok c.add_bytes-in-Resp.result c.add_bytes-in-Resp.ensures.places (λ grown.
    grown_at_resp c.args.side c.args.self.now _ (byte_places c.args.bytes.now) c.in-Resp.is refl refl grown c.add_bytes-in-Resp.ensures.ended)
