use Rattle.zk_sound.proofs.Bodies.{dispatch_keeps, initial_keeps, expiry_keeps}
use Rattle.zk_sound.proofs.Runs.{run_keeps}
use Rattle.zk_sound.proofs.laws.bodies_keep_types.Goals as goal

pub returns : goal.returns
returns c = record { handlers = dispatch_keeps; initials = initial_keeps; expiries = expiry_keeps; runs = run_keeps }
