use Rattle.zk_base.specs.declared.network.Side.TheVariants.{Orig, Resp}
use Rattle.zk_units.specs.Standing.{no_streams}
use Rattle.zk_units.proofs.HttpReaderLemmas.{each_side, unread_new}
use Rattle.zk_units.proofs.http_reader.HttpReader.new.Goals as goal

pub returns-clause-stands : goal.returns-clause-stands
returns-clause-stands c = record {
  stands = c.new.ensures.stands no_streams;
  orig = unread_new Orig c.new.result c.new-2.result (c.new.ensures.used Orig).0 (c.new.ensures.used Orig).2 c.new-2.ensures.places c.new-2.ensures.ended;
  resp = unread_new Resp c.new.result c.new-3.result (c.new.ensures.used Resp).0 (c.new.ensures.used Resp).2 c.new-3.ensures.places c.new-3.ensures.ended;
}

pub returns-clause-held : goal.returns-clause-held
returns-clause-held c = each_side _ c.new-2.ensures.held c.new-3.ensures.held
