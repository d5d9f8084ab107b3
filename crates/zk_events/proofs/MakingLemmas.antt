-- What calls of the machine make, put together.
use Rattle.std.proofs.Common.{◌≡◌, List, [], ◌∷◌, ◌++◌, ℕ, Option, Some, None, Result, Ok, Err, IfOk, OnOk, refl, sym, ap, subst, ◌∙◌}
use Rattle.zk_base.specs.declared.memory.Mem.{Mem}
use Rattle.zk_base.specs.declared.numbers.ConnNo.{ConnNo}
use Rattle.zk_base.specs.declared.numbers.ObjectNo.{ObjectNo}
use Rattle.zk_base.specs.declared.numbers.RecordNo.{RecordNo}
use Rattle.zk_conn.specs.declared.facts.Facts.{Facts}
use Rattle.zk_lower.specs.Told.{Told}
use Rattle.zk_events.specs.declared.sealed.SealedMachine.{SealedMachine}
use Rattle.zk_machine.specs.Made.{fresh}
use Rattle.zk_events.specs.Sealed.{StandsFor}
use Rattle.zk_traffic.specs.declared.item.What.{What}
use Rattle.zk_typed.specs.Objects.{Given}
use Rattle.zk_typed.specs.Program.{Program}
use Rattle.zk_typed.specs.State.{World}
use Rattle.std.proofs.lemmas.List.{map-append}
use Rattle.zk_dns.specs.declared.record.AnswerKind.{AnswerKind}
use Rattle.zk_dns.specs.declared.record.AnswerKind.TheVariants.{Soa}
use Rattle.zk_tree.specs.Value as plain
use Rattle.zk_tree.specs.Value.{Value}
use Rattle.zk_value.specs.declared.value.Value as rust_value
use Rattle.zk_value.specs.declared.value.Value.TheVariants as value
use Rattle.zk_value.specs.Plain.{key_of, value_of}
use Rattle.zk_events.specs.Dns.{kind_raises, soa_fields}
use Rattle.zk_events.specs.Numbers.{dns_soa, dns_soa_reply}
use Rattle.zk_events.specs.Raising.{made, raised}
use Rattle.zk_events.specs.Becomes.{Makes}
use Rattle.zk_events.specs.declared.connections.Objects.{Objects}
use Rattle.zk_events.specs.Known.{Known, knowing}
use Rattle.zk_events.specs.Turns.{Subject, forgotten, known_after, learned, objects_of, raises, raises_with, removal, subject, subject_of, what_raises, with_facts}

-- an object is made, given its fields
pub makes-fresh : (result : Result ObjectNo Mem) (old new : SealedMachine) (kind : RecordNo) (fields given : List Given) → fields ≡ given
    → IfOk result (λ number. (program : Program) (told : Told) (world : World) → StandsFor old program told world → number ≡ (fresh program kind fields world).number)
    → OnOk result ((program : Program) (told : Told) (world : World) → StandsFor old program told world → StandsFor new program told (fresh program kind fields world).world)
    → IfOk result (λ one. Makes old new one (λ program. fresh program kind given))
makes-fresh (Ok number) old new kind fields given same numbered stood = λ program told world stands. (
  numbered program told world stands ∙ ap (λ (f : List Given). (fresh program kind f world).number) same,
  subst (λ (f : List Given). StandsFor new program told (fresh program kind f world).world) same (stood program told world stands),
)
makes-fresh (Err e) old new kind fields given same numbered stood = tt

-- the world behind what an item raises
pub raised-in : (program : Program) (known : Known) (one : What) (world : World) (conn : ConnNo) (facts : Facts) (objects : Objects) (machine : SealedMachine) (told : Told)
    → Some (subject conn facts) ≡ subject_of one → objects ≡ (objects_of program (known conn.0) world).objects
    → StandsFor machine program told (what_raises program objects.connection one (with_facts conn facts objects (objects_of program (known conn.0) world).world))
    → StandsFor machine program told (raises program known one world)
raised-in program known one world conn facts objects machine told is are stands =
    let inside = (objects_of program (known conn.0) world).world in
    subst (λ (s : Option Subject). StandsFor machine program told (raises_with program known one s world)) is
    (subst (λ (o : Objects). StandsFor machine program told (what_raises program o.connection one (with_facts conn facts o inside))) are stands)

-- what is known behind an item
pub known-behind : (program : Program) (known before after : Known) (one : What) (world : World) (conn : ConnNo) (facts : Facts) (objects : Objects)
    → Some (subject conn facts) ≡ subject_of one → objects ≡ (objects_of program (known conn.0) world).objects
    → before ≡ knowing conn.0 objects known → after ≡ forgotten (removal one) before
    → after ≡ known_after program known one world
known-behind program known before after one world conn facts objects is are knows forgets =
    forgets ∙ ap (forgotten (removal one)) (knows
    ∙ (ap (λ (o : Objects). knowing conn.0 o known) are ∙ ap (learned program known world) is))

-- an item that removes no connection forgets none
pub none-forgotten : (one : What) (before : Known) (removes : Option ConnNo) → removes ≡ removal one → ((conn : ConnNo) → removes ≡ Some conn → ⊥)
    → before ≡ forgotten (removal one) before
none-forgotten one before None is none = ap (λ (r : Option ConnNo). forgotten r before) is
none-forgotten one before (Some conn) is none = absurd (none conn refl)

-- the event of a start of authority
pub soa-raised : (machine : SealedMachine) (program : Program) (told : Told) (world : World) (rtype : ℕ) (kind : AnswerKind)
    (mname rname : List ℕ) (serial refresh retry expire minimum : ℕ) (args more : List rust_value.Value) (soa : ObjectNo)
    → kind ≡ Soa mname rname serial refresh retry expire minimum → more ≡ args ++ value.Object soa ∷ []
    → soa ≡ (made program dns_soa (soa_fields mname rname serial (refresh ∷ retry ∷ expire ∷ minimum ∷ [])) world).number
    → StandsFor machine program told (raised dns_soa_reply (key_of more) (made program dns_soa (soa_fields mname rname serial (refresh ∷ retry ∷ expire ∷ minimum ∷ [])) world).world)
    → StandsFor machine program told (kind_raises program rtype kind (key_of args) world)
soa-raised machine program told world rtype kind mname rname serial refresh retry expire minimum args more soa is pushed numbered stands =
    let here = made program dns_soa (soa_fields mname rname serial (refresh ∷ retry ∷ expire ∷ minimum ∷ [])) world in
    let all : key_of more ≡ key_of args ++ plain.Object here.number ∷ [] =
    ap key_of pushed ∙ (map-append value_of args (value.Object soa ∷ []) ∙ ap (λ (n : ObjectNo). key_of args ++ plain.Object n ∷ []) numbered) in
    subst (λ (k : AnswerKind). StandsFor machine program told (kind_raises program rtype k (key_of args) world)) (sym is)
    (subst (λ (values : List Value). StandsFor machine program told (raised dns_soa_reply values here.world)) all stands)
