use Rattle.zk_sound.proofs.Initials.{fields_begin, values_fit}
use Rattle.zk_sound.proofs.Numbers.{fields_agree}
use Rattle.zk_sound.proofs.Programs.{functions_fit, handlers_fit}
use Rattle.zk_sound.proofs.Whole.{whole_fits}
use Rattle.zk_sound.proofs.laws.typed_bodies_fit.Goals as goal

pub returns : goal.returns
returns c = record { functions = functions_fit; handlers = handlers_fit; values = values_fit; fields = fields_agree; begins = fields_begin; programs = whole_fits }
