use Rattle.std.proofs.Common.{refl}
use Rattle.zk_base.specs.declared.network.Side.TheVariants.{Orig, Resp}
use Rattle.zk_units.specs.HttpTurns.{Fits, KeepsOther, ReadsOn}
use Rattle.zk_units.proofs.HttpReaderLemmas.{fits_kept, if_both, next_at_orig, next_at_resp, ok_or_err}
use Rattle.zk_units.proofs.http_reader.HttpReader.next.Goals as goal

pub invariant_of-self : goal.invariant_of-self
invariant_of-self c =
    let both = ok_or_err (Fits Orig c.read.new.http c.read.new.«unread» × KeepsOther Orig c.args.self.now.http c.read.new.http)
    (λ found. ReadsOn Orig c.args.self.now.http c.read.new.http c.args.self.now.orig c.read.new.«unread» found) c.read.result c.read.ensures.reads c.read.ensures.memory
    (λ found reads. (reads.fits, reads.other)) in
    record { orig_fits = both.0; resp_fits = fits_kept Orig c.args.self.now.http c.read.new.http c.args.self.now.resp both.1 c.args.self.now.resp_fits }

pub returns-in-Orig : goal.returns-in-Orig
returns-in-Orig c = if_both c.read.result c.read.ensures.reads c.read.ensures.none (λ found reads none.
    next_at_orig c.args.side c.args.self.now _ found c.in-Orig.is refl reads none)

pub invariant_of-self-in-Resp : goal.invariant_of-self-in-Resp
invariant_of-self-in-Resp c =
    let both = ok_or_err (Fits Resp c.read-in-Resp.new.http c.read-in-Resp.new.«unread» × KeepsOther Resp c.args.self.now.http c.read-in-Resp.new.http)
    (λ found. ReadsOn Resp c.args.self.now.http c.read-in-Resp.new.http c.args.self.now.resp c.read-in-Resp.new.«unread» found) c.read-in-Resp.result c.read-in-Resp.ensures.reads c.read-in-Resp.ensures.memory
    (λ found reads. (reads.fits, reads.other)) in
    record { resp_fits = both.0; orig_fits = fits_kept Resp c.args.self.now.http c.read-in-Resp.new.http c.args.self.now.orig both.1 c.args.self.now.orig_fits }

pub returns-in-Resp : goal.returns-in-Resp
returns-in-Resp c = if_both c.read-in-Resp.result c.read-in-Resp.ensures.reads c.read-in-Resp.ensures.none (λ found reads none.
    next_at_resp c.args.side c.args.self.now _ found c.in-Resp.is refl reads none)
