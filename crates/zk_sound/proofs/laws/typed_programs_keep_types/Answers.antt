use Rattle.zk_sound.proofs.Bodies.{dispatch_keeps}
use Rattle.zk_sound.proofs.Runs.{run_keeps}
use Rattle.zk_sound.proofs.Whole.{whole_fits}
use Rattle.zk_sound.proofs.laws.typed_programs_keep_types.Goals as goal

pub returns : goal.returns
returns c = record {
  handlers = λ files program kinds budget world what typed says holds queued. dispatch_keeps program kinds budget world what (whole_fits files program typed says) holds queued;
  runs = λ files program budget items last typed says all. run_keeps program budget items last (whole_fits files program typed says) all;
}
