use Rattle.zk_http.proofs.GrowthLaws.{given_again, in_stream}
use Rattle.zk_http.proofs.OrderLaws.{first_units, patient_alone}
use Rattle.zk_http.proofs.laws.units_stay.Goals as goal

pub returns : goal.returns
returns c = record { place = in_stream; again = given_again; first = first_units; patient = patient_alone }
