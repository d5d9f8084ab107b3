use Rattle.std.proofs.Common.{refl}
use Rattle.zk_base.specs.declared.network.Side.TheVariants.{Orig, Resp}
use Rattle.zk_units.proofs.HttpReaderLemmas.{ended_at_orig, ended_at_resp, fits_still}
use Rattle.zk_units.proofs.http_reader.HttpReader.end.Goals as goal

pub invariant_of-self : goal.invariant_of-self
invariant_of-self c = record {
  orig_fits = fits_still Orig c.args.self.now.http c.args.self.now.orig c.end.new.self c.args.self.now.orig_fits (c.end.ensures.places, c.end.ensures.front);
  resp_fits = c.args.self.now.resp_fits;
}

pub returns-in-Orig : goal.returns-in-Orig
returns-in-Orig c = ended_at_orig c.args.side c.args.self.now _ c.in-Orig.is refl refl c.end.ensures.places c.end.ensures.ended

pub invariant_of-self-in-Resp : goal.invariant_of-self-in-Resp
invariant_of-self-in-Resp c = record {
  resp_fits = fits_still Resp c.args.self.now.http c.args.self.now.resp c.end-in-Resp.new.self c.args.self.now.resp_fits (c.end-in-Resp.ensures.places, c.end-in-Resp.ensures.front);
  orig_fits = c.args.self.now.orig_fits;
}

pub returns-in-Resp : goal.returns-in-Resp
returns-in-Resp c = ended_at_resp c.args.side c.args.self.now _ c.in-Resp.is refl refl c.end-in-Resp.ensures.places c.end-in-Resp.ensures.ended
